use Rattle.tabled_text.proofs.Names.{IsCharBoundary, IsFirstAt, IsUtf8, IsUtf8-drop, List, ap, arith, drop, length, refl, subst, sym, take}
use Rattle.tabled_text.proofs.Names.{take_all, ℕ, ◌+◌, ◌<◌, ◌∙◌, ◌≡◌}
use Rattle.std.proofs.lemmas.Str.{IsCharBoundary-after_ascii, IsCharBoundary-before_ascii, IsUtf8-take}
use Rattle.tabled_text.proofs.runs.split_at_byte.Goals as goal

before : (byte at : ℕ) (text : List ℕ) → byte < 128 → IsFirstAt byte text at → at < length text → IsCharBoundary text at
before byte at text small f l = let b = f.found l in IsCharBoundary-before_ascii text at l (omega arith)

after : (byte at : ℕ) (text : List ℕ) → byte < 128 → IsUtf8 text → IsFirstAt byte text at → at < length text → IsCharBoundary text (at + 1)
after byte at text small u f l = let b = f.found l in IsCharBoundary-after_ascii text at u l (omega arith)

pub split_at-requires : goal.split_at-requires
split_at-requires c =
    let f = subst (λ bytes. IsFirstAt c.args.byte bytes c.byte_index-at.result) c.as_bytes.ensures.value c.byte_index-at.ensures in
    before c.args.byte c.byte_index-at.result c.args.text.now c.requires.byte f (omega (arith, f.end))

pub split_at-requires-2 : goal.split_at-requires-2
split_at-requires-2 c =
    let f = subst (λ bytes. IsFirstAt c.args.byte bytes c.byte_index-at.result) c.as_bytes.ensures.value c.byte_index-at.ensures in
    after c.args.byte c.byte_index-at.result c.args.text.now c.requires.byte c.utf8.text f (omega (arith, f.end))

pub returns-then-at-text : goal.returns-then-at-text
returns-then-at-text c =
    let f = subst (λ bytes. IsFirstAt c.args.byte bytes c.byte_index-at.result) c.as_bytes.ensures.value c.byte_index-at.ensures in
    record {
      first = subst (IsFirstAt c.args.byte c.args.text.now) c.if-at-text.true f;
      front_is = sym (take_all (length c.args.text.now) c.args.text.now (omega arith));
      utf8 = c.utf8.text;
      after_is = refl;
    }

pub returns : goal.returns
returns c =
    let at = c.byte_index-at.result in
    let text = c.args.text.now in
    let f = subst (λ bytes. IsFirstAt c.args.byte bytes at) c.as_bytes.ensures.value c.byte_index-at.ensures in
    let within : at < length text = omega (arith, f.end) in
    let len : at ≡ length c.split_at.result.0.now = sym c.split_at.ensures.front_len in
    record {
      first = subst (IsFirstAt c.args.byte text) len f;
      front_is = c.split_at.ensures.front ∙ ap (λ n. take n text) len;
      utf8 = subst IsUtf8 (sym c.split_at.ensures.front) (IsUtf8-take text at c.utf8.text (before c.args.byte at text c.requires.byte f within));
      after_is = (
        subst (λ n. n < length text) len within,
        c.split_at-2.ensures.back ∙ ap (λ n. drop (n + 1) text) len,
        subst IsUtf8 (sym c.split_at-2.ensures.back) (IsUtf8-drop text (at + 1) c.utf8.text (after c.args.byte at text c.requires.byte c.utf8.text f within)),
      );
    }
