use Rattle.tabled_text.proofs.Names.{IsFirstAt, IsUtf8, IsUtf8-drop, List, Some, ap, arith, drop, false, is_in_range, length, list_all, refl}
use Rattle.tabled_text.proofs.Names.{subst, sym, take, true, ℕ, ◌+◌, ◌<◌, ◌∙◌, ◌≡◌}
use Rattle.std.proofs.lemmas.Str.{IsCharBoundary-after_ascii, IsCharBoundary-before_ascii, IsUtf8-take}
use Rattle.std.specs.List.{slice_index}
use Rattle.tabled_text.proofs.PlainLines.{plain_line-lines, plain_line-printable}
use Rattle.tabled_text.proofs.RunLemmas.{run-all, run-front}
use Rattle.tabled_text.proofs.Searched.{lines-split}
use Rattle.tabled_text.specs.Runs.{EndsRun}
use Rattle.tabled_text.proofs.line_ends.fed_line.Goals as goal

-- a line feed after printable characters is the first one
feed-first : (text : List ℕ) (run : ℕ) → EndsRun 0x20 0x7E text 0 run → slice_index text run ≡ 10 → IsFirstAt 10 text run
feed-first text run ends feed =
    record {
      end = ends.end;
      before = λ k l is. absurd (let no : false ≡ true = sym (ap (is_in_range 0x20 0x7E) is) ∙ ends.passed k (omega arith) l in cc);
      found = λ _. feed;
    }

printable : (text bytes : List ℕ) (run : ℕ) → bytes ≡ text → EndsRun 0x20 0x7E bytes 0 run → run ≡ length bytes
    → list_all (is_in_range 0x20 0x7E) text ≡ true
printable text bytes run e ends whole =
    ap (list_all (is_in_range 0x20 0x7E)) (sym e) ∙ run-all (is_in_range 0x20 0x7E) bytes 0 run ends.passed (omega (arith, whole))

pub returns-then-run-bytes : goal.returns-then-run-bytes
returns-then-run-bytes c =
    let e = c.as_bytes-bytes.ensures.value in
    let own = plain_line-printable c.args.text.now (printable _ _ _ e c.run_end-run.ensures c.if-run-bytes.true) in
    record { lines = plain_line-lines own; takes = c.if-run-bytes.true ∙ ap length e ∙ sym own.columns; ends_are = tt }

pub split_at-requires-then-bytes-run-eq10 : goal.split_at-requires-then-bytes-run-eq10
split_at-requires-then-bytes-run-eq10 c =
    let e = c.as_bytes-bytes.ensures.value in
    let ends = c.run_end-run.ensures in
    let feed = ap (λ bytes. slice_index bytes c.run_end-run.result) (sym e) ∙ c.if-bytes-run-eq10.true in
    IsCharBoundary-after_ascii c.args.text.now c.run_end-run.result c.utf8.text
    (omega (arith, ends.end, c.if-run-bytes.false, ap length e)) (omega (arith, feed))

pub returns-then-bytes-run-eq10 : goal.returns-then-bytes-run-eq10
returns-then-bytes-run-eq10 c =
    let text = c.args.text.now in
    let run = c.run_end-run.result in
    let line = c.split_at.result.0.now in
    let e = c.as_bytes-bytes.ensures.value in
    let ends : EndsRun 0x20 0x7E text 0 run = subst (λ bytes. EndsRun 0x20 0x7E bytes 0 run) e c.run_end-run.ensures in
    let feed : slice_index text run ≡ 10 = ap (λ bytes. slice_index bytes run) (sym e) ∙ c.if-bytes-run-eq10.true in
    let within : run < length text = omega (arith, ends.end, c.if-run-bytes.false, ap length e) in
    let small : slice_index text run < 128 = omega (arith, feed) in
    let front = c.split_at.ensures.front in
    let back = c.split_at-then-bytes-run-eq10.ensures.back in
    let len : run ≡ length line = sym c.split_at.ensures.front_len in
    let printed = ap (list_all (is_in_range 0x20 0x7E)) front ∙ run-front (is_in_range 0x20 0x7E) text run ends.end ends.passed in
    record {
      lines = lines-split text line (Some c.split_at-then-bytes-run-eq10.result.1)
          (record {
            first = subst (IsFirstAt 10 text) len (feed-first text run ends feed);
            front_is = front ∙ ap (λ n. take n text) len;
            utf8 = subst IsUtf8 (sym front) (IsUtf8-take text run c.utf8.text (IsCharBoundary-before_ascii text run within small));
            after_is = (
              subst (λ n. n < length text) len within,
              back ∙ ap (λ n. drop (n + 1) text) len,
              subst IsUtf8 (sym back) (IsUtf8-drop text (run + 1) c.utf8.text (IsCharBoundary-after_ascii text run c.utf8.text within small)),
            );
          });
      takes = sym ((plain_line-printable line printed).columns ∙ c.split_at.ensures.front_len);
      ends_are = refl;
    }
