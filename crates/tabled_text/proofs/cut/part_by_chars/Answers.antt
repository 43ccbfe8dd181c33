use Rattle.tabled_text.proofs.Names.{IsCharBoundary, IsParted, IsUtf8-past_char, ap, arith, char_count, chars, get_or, subst, sym, ◌+◌, ◌<◌}
use Rattle.tabled_text.proofs.Names.{◌∙◌, ◌≤◌}
use Rattle.tabled_text.proofs.CutLemmas.{IsParted-end, IsParted-full, IsParted-wide, Walked, Walked-feed, Walked-le, Walked-push}
use Rattle.tabled_text.proofs.CutLemmas.{front_boundary, front_taken, rest_taken}
use Rattle.tabled_text.proofs.LetterLemmas.{feed-lead, lead-feed}
use Rattle.tabled_text.proofs.LetterPieces.{letters-walked}
use Rattle.tabled_text.proofs.cut.part_by_chars.Goals as goal
use Rattle.tabled_text.proofs.cut.part_by_chars.Goals.{in-Some+then-columns-n, in_default}

pub chars-init : goal.chars-init
chars-init c =
    let e = c.split_letters-columns.ensures in
    (letters-walked c.args.n c.split_letters-columns.result.1 e.parts e.front e.letters e.fits, e.rest)

pub overflow_sub-n : goal.overflow_sub-n
overflow_sub-n c = Walked-le c.chars.invariant.0

pub overflow_sub-result : goal.overflow_sub-result
overflow_sub-result c = Walked-le c.chars.invariant.0

pub split_at-requires : goal.split_at-requires
split_at-requires c = front_boundary _ _ c.chars.invariant.0.parts c.chars.invariant.1

pub split_at-requires-2 : goal.split_at-requires-2
split_at-requires-2 c = front_boundary _ _ c.chars.invariant.0.parts c.chars.invariant.1

pub returns-then-count-n-clause-parted : goal.returns-then-count-n-clause-parted
returns-then-count-n-clause-parted c =
    let w = c.chars.invariant.0 in
    let b = c.in-Some.ensures in
    let wide : c.args.n < c.chars.columns + char_count b.first = let l = Walked-le w in let is = b.is in omega arith in
    IsParted-wide c.in-Some.after.now b.first c.split_at.result.0.now b.characters
    (λ feed. c.if-as_bytes-eq10.false (ap (λ bs. get_or bs 0 0) c.as_bytes.ensures.value ∙ lead-feed _ _ _ b feed)) wide
    c.if-columns-n.false w (c.split_at.ensures.front ∙ front_taken _ _ w.parts)

pub chars-preserved-then-as_bytes-eq10 : goal.chars-preserved-then-as_bytes-eq10
chars-preserved-then-as_bytes-eq10 c =
    let u = c.chars.invariant.1 in
    let b = c.in-Some.ensures in
    let feed = feed-lead _ _ _ b (ap (λ bs. get_or bs 0 0) (sym c.as_bytes.ensures.value) ∙ c.if-as_bytes-eq10.true) in (
      Walked-feed c.in-Some.after.now b.first c.chars.invariant.0 u b.parts b.characters c.if-columns-n.false feed,
      IsUtf8-past_char c.chars.rest.now c.in-Some.after.now b.first u b.parts,
    )

pub chars-preserved : goal.chars-preserved
chars-preserved c =
    let w = c.chars.invariant.0 in
    let u = c.chars.invariant.1 in
    let b = c.in-Some.ensures in
    let room : c.chars.columns + char_count b.first ≤ c.args.n = let l = Walked-le w in let is = b.is in omega arith in (
      subst (λ k. Walked c.args.n c.args.text.now c.in-Some.after.now (c.chars.columns + k)) (sym b.is)
          (Walked-push c.in-Some.after.now b.first w u b.parts b.characters c.if-columns-n.false
          (λ feed. c.if-as_bytes-eq10.false (ap (λ bs. get_or bs 0 0) c.as_bytes.ensures.value ∙ lead-feed _ _ _ b feed)) room),
      IsUtf8-past_char c.chars.rest.now c.in-Some.after.now b.first u b.parts,
    )

pub returns-clause-parted : goal.returns-clause-parted
returns-clause-parted c =
    let w = c.chars.invariant.0 in
    let at = c.split_at-2.ensures.front ∙ front_taken _ _ w.parts in
    let after = c.split_at-2.ensures.back ∙ rest_taken _ _ w.parts in
    let front = c.split_at-2.result.0.now in
    subst (λ l. IsParted c.args.n (chars c.args.text.now) (chars front) 0 (chars l)) (sym after)
    (elim c.match-split_count.branch [
      | in-Some+then-columns-n b ↦ IsParted-full front w b.if-columns-n.true at
      | in_default b ↦ IsParted-end front w b.in_default.ensures at
    ])

pub returns-then-count-n-clause-boundary : goal.returns-then-count-n-clause-boundary
returns-then-count-n-clause-boundary c =
    subst (IsCharBoundary c.args.text.now) (sym c.split_at.ensures.front_len) (front_boundary _ _ c.chars.invariant.0.parts c.chars.invariant.1)

pub returns-clause-boundary : goal.returns-clause-boundary
returns-clause-boundary c =
    subst (IsCharBoundary c.args.text.now) (sym c.split_at-2.ensures.front_len) (front_boundary _ _ c.chars.invariant.0.parts c.chars.invariant.1)
