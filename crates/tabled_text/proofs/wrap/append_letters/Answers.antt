use Rattle.tabled_text.proofs.Names.{ap, arith, encode_ascii, encode_utf8, eqb-true, false, length, lines_of, lit<, nat_tests, subst, sym}
use Rattle.tabled_text.proofs.Names.{text_columns, written_line, ◌++◌, ◌<◌, ◌∙◌, ◌≡◌}
use Rattle.tabled_text.proofs.Bridge.{count_lines-feed, text_columns-feed}
use Rattle.tabled_text.proofs.wrap.append_letters.Goals as goal

pub lines-preserved : goal.lines-preserved
lines-preserved g c =
    let n = c.args.n in
    let piece = c.split_letter_line-columns.result.0.now in
    let after = c.split_letter_line-columns.result.2.now in
    let line = c.split_letter_line-columns.ensures in
    let some : 0 < length after = grind (arith, nat_tests, c.is_empty.ensures, c.if-is_empty.false) in
    let next = written_line n false after in
    let written = line.more some in
    let whole : piece ++ (encode_utf8 10 ++ next) ≡ written_line n false c.lines.rest.now =
    ap (λ feed. piece ++ (feed ++ next)) (encode_ascii 10 (lit< tt)) ∙ sym written in
    record {
      adds = λ t k. c.lines.invariant.adds t
          (subst (λ x. g.S.Sink.adds c.lines.out x t) whole
          (g.met.S.Sink.adds_more c.lines.out c.append_str.new.self t piece (encode_utf8 10 ++ next) c.in_ok-append_str.ensures
          (g.met.S.Sink.adds_more c.append_str.new.self c.append_char.new.self t (encode_utf8 10) next c.in_ok-append_char.ensures k)));
      columns = omega
          (arith, ap text_columns written, text_columns-feed piece next, line.takes, c.max-widest.ensures, c.lines.invariant.columns);
      counted = omega (arith, ap (λ l. length (lines_of l)) written, count_lines-feed piece next, line.one, c.lines.invariant.counted);
      few = omega (arith, c.lines.invariant.few, line.shorter some);
      letters = line.letters;
      utf8 = line.utf8;
    }

pub lines-smaller : goal.lines-smaller
lines-smaller g c = c.split_letter_line-columns.ensures.shorter (grind (arith, nat_tests, c.is_empty.ensures, c.if-is_empty.false))

pub returns-then-is_empty-clause-columns : goal.returns-then-is_empty-clause-columns
returns-then-is_empty-clause-columns g c =
    let line = c.split_letter_line-columns.ensures in
    let whole = line.last (eqb-true (length c.split_letter_line-columns.result.2.now) 0 (sym c.is_empty.ensures ∙ c.if-is_empty.true)) in
    omega (arith, ap text_columns whole, line.takes, c.max-widest.ensures, c.lines.invariant.columns)

pub returns-then-is_empty-clause-lines : goal.returns-then-is_empty-clause-lines
returns-then-is_empty-clause-lines g c =
    let line = c.split_letter_line-columns.ensures in
    let whole = line.last (eqb-true (length c.split_letter_line-columns.result.2.now) 0 (sym c.is_empty.ensures ∙ c.if-is_empty.true)) in
    omega (arith, ap (λ l. length (lines_of l)) whole, line.one, c.lines.invariant.counted)

pub returns-then-is_empty-clause-text : goal.returns-then-is_empty-clause-text
returns-then-is_empty-clause-text g c =
    let line = c.split_letter_line-columns.ensures in
    let whole = line.last (eqb-true (length c.split_letter_line-columns.result.2.now) 0 (sym c.is_empty.ensures ∙ c.if-is_empty.true)) in
    c.lines.invariant.adds c.append_str.new.self
    (subst (λ x. g.S.Sink.adds c.lines.out x c.append_str.new.self) (sym whole) c.in_ok-append_str.ensures)
