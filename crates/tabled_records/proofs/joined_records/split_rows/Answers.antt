use Rattle.tabled_records.proofs.Names.{All-nil, AreRanges, [], ap, arith, false, get_or, is_in_range, length, length-append, lengthened_rows, refl}
use Rattle.tabled_records.proofs.Names.{lines_of, rows_in, slice_range, subst, sym, texts_from, true, ℕ, ◌++◌, ◌+◌, ◌-◌, ◌<◌, ◌∙◌, ◌∷◌, ◌≡◌, ◌≤◌}
use Rattle.tabled_records.proofs.Cutting.{split-begun, IsWithin, cut-feed, cut-tab, cut-start, lent-next, no-feed, placed-next, plain-next, rows-cut}
use Rattle.tabled_records.proofs.Cutting.{within-end, within-more, within-run}
use Rattle.tabled_base.specs.Printable.{IsPrintableAscii}
use Rattle.tabled_records.proofs.Rows.{rows-lines}
use Rattle.tabled_records.proofs.joined_records.split_rows.Goals as goal

pub bytes-init : goal.bytes-init
bytes-init c =
    let at = c.run_end-at in
    rw (c.new-cells.ensures, c.new-rows.ensures) (
      split-begun c.args.text.now c.as_bytes-bytes.result.now [] [] 0 0 at.result true c.as_bytes-bytes.ensures.value
          (cut-start c.args.text.now c.utf8.text) (omega arith) at.ensures.end at.ensures.passed,
      λ _. refl,
      λ _. All-nil IsPrintableAscii,
    )

pub bytes-preserved-then-byte-ne10 : goal.bytes-preserved-then-byte-ne10
bytes-preserved-then-byte-ne10 c =
    let was = c.bytes.invariant.0 in
    let text = c.args.text.now in
    let same = c.as_bytes-bytes.ensures.value in
    let at = c.run_end-at-then-byte-ne10.result in
    let inside : c.bytes.at < length text = subst (λ t. c.bytes.at < length t) same c.bytes-test.true in
    let ends : at ≤ length text = omega (arith, c.run_end-at-then-byte-ne10.ensures.end, ap length same) in
    let run = subst (λ t. (k : ℕ) → c.bytes.at + 1 ≤ k → k < at → is_in_range 0x20 0xFF (get_or t k 0) ≡ true) same
    c.run_end-at-then-byte-ne10.ensures.passed in
    let first = within-more text c.bytes.start c.bytes.at was.within
    (subst (λ t. get_or t c.bytes.at 0 ≡ 9 → ⊥) same c.if-byte-ne9.true) (subst (λ t. get_or t c.bytes.at 0 ≡ 10 → ⊥) same c.if-byte-ne10.true) in (
      record {
        inside = ends;
        cut = was.cut;
        within = within-run text c.bytes.start (c.bytes.at + 1) at 0xFF c.run_end-at-then-byte-ne10.ensures.from run first;
        printable = λ e. absurd (let f : false ≡ true = e in cc);
      },
      λ e. absurd (let f : false ≡ true = e in cc),
      λ e. absurd (let f : false ≡ true = e in cc),
    )

pub cell_columns-columns-requires-clause-ordered : goal.cell_columns-columns-requires-clause-ordered
cell_columns-columns-requires-clause-ordered c = c.bytes.invariant.0.within.ordered

pub cell_columns-columns-requires-clause-begins : goal.cell_columns-columns-requires-clause-begins
cell_columns-columns-requires-clause-begins c = c.bytes.invariant.0.cut.begins

pub cell_columns-columns-requires-clause-line : goal.cell_columns-columns-requires-clause-line
cell_columns-columns-requires-clause-line c = no-feed c.args.text.now c.bytes.start c.bytes.at c.bytes.invariant.0.inside c.bytes.invariant.0.within

pub cell_columns-columns-requires-2-clause-ordered : goal.cell_columns-columns-requires-2-clause-ordered
cell_columns-columns-requires-2-clause-ordered c =
    (within-end c.args.text.now c.as_bytes-bytes.result.now c.bytes.start c.bytes.at
    (omega (arith, c.bytes.invariant.0.inside, ap length c.as_bytes-bytes.ensures.value)) c.bytes-test.false c.bytes.invariant.0.within).ordered

pub cell_columns-columns-requires-2-clause-begins : goal.cell_columns-columns-requires-2-clause-begins
cell_columns-columns-requires-2-clause-begins c = c.bytes.invariant.0.cut.begins

pub cell_columns-columns-requires-2-clause-line : goal.cell_columns-columns-requires-2-clause-line
cell_columns-columns-requires-2-clause-line c =
    let end = length c.as_bytes-bytes.result.now in
    no-feed c.args.text.now c.bytes.start end (omega (arith, ap length c.as_bytes-bytes.ensures.value))
    (within-end c.args.text.now c.as_bytes-bytes.result.now c.bytes.start c.bytes.at
    (omega (arith, c.bytes.invariant.0.inside, ap length c.as_bytes-bytes.ensures.value)) c.bytes-test.false c.bytes.invariant.0.within)

pub bytes-preserved-then-byte-eq9 : goal.bytes-preserved-then-byte-eq9
bytes-preserved-then-byte-eq9 c =
    let was = c.bytes.invariant.0 in
    let text = c.args.text.now in
    let same = c.as_bytes-bytes.ensures.value in
    let inside : c.bytes.at < length text = subst (λ t. c.bytes.at < length t) same c.bytes-test.true in
    let tab : get_or text c.bytes.at 0 ≡ 9 = subst (λ t. get_or t c.bytes.at 0 ≡ 9) same c.if-byte-eq9.true in
    let at = c.run_end-at-in-bytes in
    let cut = cut-tab text c.bytes.cells c.bytes.rows c.bytes.start c.bytes.first c.bytes.at c.cell_columns-columns.result c.utf8.text was.cut
    was.within inside tab c.cell_columns-columns.ensures in
    let plain = plain-next text c.bytes.cells c.cell_columns-columns.result c.bytes.start c.bytes.at c.bytes.all_printable c.bytes.printable
    was.cut.starts c.bytes.invariant.2 c.bytes.invariant.1 was.printable in
    rw c.in_ok-push.ensures.ok (
      split-begun text c.as_bytes-bytes.result.now _ c.bytes.rows (c.bytes.at + 1) c.bytes.first at.result true same cut at.ensures.from
          at.ensures.end at.ensures.passed,
      λ _. refl,
      plain,
    )

pub overflow_sub-count : goal.overflow_sub-count
overflow_sub-count c =
    let reached = c.bytes.invariant.0.cut.reached in
    let more = length-append c.bytes.cells ((c.bytes.at, c.cell_columns-columns.result) ∷ []) in
    omega (arith, reached, c.len.ensures, ap length c.in_ok-push.ensures.ok, more)

pub bytes-preserved : goal.bytes-preserved
bytes-preserved c =
    let was = c.bytes.invariant.0 in
    let text = c.args.text.now in
    let same = c.as_bytes-bytes.ensures.value in
    let cells = c.bytes.cells ++ (c.bytes.at, c.cell_columns-columns.result) ∷ [] in
    let pushed : c.push.new.self ≡ cells = c.in_ok-push.ensures.ok in
    let inside : c.bytes.at < length text = subst (λ t. c.bytes.at < length t) same c.bytes-test.true in
    let feed : get_or text c.bytes.at 0 ≡ 10 = subst (λ t. get_or t c.bytes.at 0 ≡ 10) same (omega (arith, c.else-byte-ne9.either, c.if-byte-eq9.false)) in
    let last : c.len-first.result ≡ length cells = c.len-first.ensures ∙ ap length pushed in
    let reached = was.cut.reached in
    let more = length-append c.bytes.cells ((c.bytes.at, c.cell_columns-columns.result) ∷ []) in
    let at = c.run_end-at-in-bytes in
    let cut = cut-feed text c.bytes.cells c.bytes.rows c.bytes.start c.bytes.first c.bytes.at c.cell_columns-columns.result
    (c.len.result - c.bytes.first) c.utf8.text was.cut was.within inside feed c.cell_columns-columns.ensures
    (omega (arith, reached, c.len.ensures, ap length pushed, more)) in
    let plain = plain-next text c.bytes.cells c.cell_columns-columns.result c.bytes.start c.bytes.at c.bytes.all_printable c.bytes.printable
    was.cut.starts c.bytes.invariant.2 c.bytes.invariant.1 was.printable in
    rw (pushed, c.in_ok-push-2.ensures.ok, last) (
      split-begun text c.as_bytes-bytes.result.now cells _ (c.bytes.at + 1) (length cells) at.result true same cut at.ensures.from
          at.ensures.end at.ensures.passed,
      λ _. refl,
      plain,
    )

pub overflow_sub-count-2 : goal.overflow_sub-count-2
overflow_sub-count-2 c =
    let reached = c.bytes.invariant.0.cut.reached in
    let more = length-append c.bytes.cells ((length c.as_bytes-bytes.result.now, c.cell_columns-columns-2.result) ∷ []) in
    omega (arith, reached, c.len-2.ensures, ap length c.in_ok-push-3.ensures.ok, more)

pub invariant_of-result : goal.invariant_of-result
invariant_of-result c =
    let cut = c.bytes.invariant.0.cut in
    let reached = cut.reached in
    let cell : ℕ × ℕ = (length c.as_bytes-bytes.result.now, c.cell_columns-columns-2.result) in
    let pushed : c.push-2.new.self ≡ c.bytes.cells ++ cell ∷ [] = c.in_ok-push-3.ensures.ok in
    let more = length-append c.bytes.cells (cell ∷ []) in
    let kept = lent-next c.args.text.now c.bytes.cells c.bytes.start cell cut.kept cut.starts c.cell_columns-columns-2.ensures in
    let last : c.bytes.at ≡ length c.as_bytes-bytes.result.now =
    omega (arith, c.bytes.invariant.0.inside, ap length c.as_bytes-bytes.ensures.value, c.bytes-test.false) in
    let plain = plain-next c.args.text.now c.bytes.cells c.cell_columns-columns-2.result c.bytes.start (length c.as_bytes-bytes.result.now)
    c.bytes.all_printable c.bytes.printable cut.starts c.bytes.invariant.2 c.bytes.invariant.1
    (λ p. subst (λ n. IsPrintableAscii (slice_range c.args.text.now c.bytes.start n)) last (c.bytes.invariant.0.printable p)) in
    let all = placed-next c.bytes.cells c.bytes.rows cell c.bytes.first (c.len-2.result - c.bytes.first) cut.placed
    (omega (arith, reached, c.len-2.ensures, ap length pushed, more)) in
    record {
      kept = rw pushed kept;
      ranges = subst (λ n. AreRanges n c.push-3.new.self) (sym (ap length pushed))
          (subst (AreRanges (length (c.bytes.cells ++ cell ∷ []))) (sym c.in_ok-push-4.ensures.ok) all);
      plain = rw pushed plain;
    }

pub returns-clause-ok : goal.returns-clause-ok
returns-clause-ok c =
    let text = c.args.text.now in
    let columns = c.cell_columns-columns-2.result in
    let cells = c.bytes.cells ++ (length text, columns) ∷ [] in
    let count = c.len-2.result - c.bytes.first in
    let reached = c.bytes.invariant.0.cut.reached in
    let size = ap length c.as_bytes-bytes.ensures.value in
    let pushed : c.push-2.new.self ≡ cells = c.in_ok-push-3.ensures.ok ∙ ap (λ n. c.bytes.cells ++ (n, columns) ∷ []) size in
    let within = within-end text c.as_bytes-bytes.result.now c.bytes.start c.bytes.at
    (omega (arith, c.bytes.invariant.0.inside, size)) c.bytes-test.false c.bytes.invariant.0.within in
    let cut = rows-cut text c.bytes.cells c.bytes.rows c.bytes.start c.bytes.first columns count c.bytes.invariant.0.cut
    (subst (IsWithin text c.bytes.start) size within)
    (omega (arith, reached, c.len-2.ensures, ap length pushed, length-append c.bytes.cells ((length text, columns) ∷ []))) in
    ap (λ cells. rows_in (texts_from 1 text 0 cells) c.push-3.new.self) pushed
    ∙ ap (rows_in (texts_from 1 text 0 cells)) c.in_ok-push-4.ensures.ok
    ∙ ap lengthened_rows cut ∙ rows-lines (lines_of text)
