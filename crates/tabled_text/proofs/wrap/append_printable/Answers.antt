use Rattle.tabled_text.proofs.Names.{IsCharBoundary-from_ascii, IsUtf8, IsUtf8-drop, ap, arith, drop, encode_ascii, encode_utf8}
use Rattle.tabled_text.proofs.Names.{is_in_range, length, lines_of, lit<, subst, sym, take, text_columns, written_line, ◌++◌, ◌∙◌, ◌∷◌, ◌≡◌}
use Rattle.tabled_text.proofs.Basics.{all-parts}
use Rattle.tabled_text.proofs.Bridge.{count_lines-feed, text_columns-feed}
use Rattle.tabled_text.proofs.Pieces.{IsAscii-printable, is_printable}
use Rattle.tabled_text.proofs.PlainLines.{plain_line-lines, plain_line-printable, text_columns-plain_line}
use Rattle.tabled_text.proofs.WordBreaks.{written-more}
use Rattle.tabled_text.proofs.WrapKept.{written-short}
use Rattle.tabled_text.proofs.wrap.append_printable.Goals as goal

pub split_at-requires : goal.split_at-requires
split_at-requires g c = IsCharBoundary-from_ascii c.lines.rest.now c.line_end.result
    (IsAscii-printable c.lines.rest.now c.lines.invariant.printable) (omega (arith, c.line_end.ensures.end))

pub lines-preserved : goal.lines-preserved
lines-preserved g c =
    let n = c.args.n in
    let words = c.args.words in
    let end = c.line_end.result in
    let rest = c.lines.rest.now in
    let back = c.split_at.ensures.back in
    let h = c.lines.invariant.printable in
    let next = written_line n words (drop end rest) in
    let more = written-more n end words rest h c.line_end.ensures in
    let front = take end rest in
    let own = plain_line-printable front (all-parts (is_in_range 0x20 0x7E) end rest h).0 in
    let joined : written_line n words rest ≡ front ++ 10 ∷ next = sym more ∙ ap (λ feed. front ++ (feed ++ next)) (encode_ascii 10 (lit< tt)) in
    let same : written_line n words c.split_at.result.1.now ≡ next = ap (written_line n words) back in
    let at = IsCharBoundary-from_ascii rest end (IsAscii-printable rest h) (omega (arith, c.line_end.ensures.end)) in
    record {
      adds = λ t k. c.lines.invariant.adds t
          (subst (λ x. g.S.Sink.adds c.lines.out x t) more
          (g.met.S.Sink.adds_more c.lines.out c.append_str.new.self t (take end rest) (encode_utf8 10 ++ next)
          (subst (λ x. g.S.Sink.adds c.lines.out x c.append_str.new.self) c.split_at.ensures.front c.in_ok-append_str.ensures)
          (g.met.S.Sink.adds_more c.append_str.new.self c.append_char.new.self t (encode_utf8 10) next c.in_ok-append_char.ensures
          (subst (λ x. g.S.Sink.adds c.append_char.new.self x t) same k))));
      columns = omega (
        arith,
        ap text_columns (joined ∙ ap (λ l. front ++ 10 ∷ l) (sym same)),
        text_columns-feed front (written_line n words c.split_at.result.1.now),
        text_columns-plain_line own,
        ap length c.split_at.ensures.front,
        c.max-widest.ensures,
        c.lines.invariant.columns,
      );
      counted = omega (
        arith,
        ap (λ l. length (lines_of l)) (joined ∙ ap (λ l. front ++ 10 ∷ l) (sym same)),
        count_lines-feed front (written_line n words c.split_at.result.1.now),
        ap length (plain_line-lines own),
        c.lines.invariant.counted,
      );
      few = omega (arith, c.lines.invariant.few, c.split_at.ensures.back_len, c.line_end.ensures.some, c.line_end.ensures.end);
      printable = ap is_printable back ∙ (all-parts (is_in_range 0x20 0x7E) end rest h).1;
      utf8 = subst IsUtf8 (sym back) (IsUtf8-drop rest end c.lines.invariant.utf8 at);
    }

pub lines-smaller : goal.lines-smaller
lines-smaller g c = omega (arith, c.split_at.ensures.back_len, c.line_end.ensures.some)

pub returns-clause-columns : goal.returns-clause-columns
returns-clause-columns g c =
    let rest = c.lines.rest.now in
    let short = written-short c.args.n c.args.words rest c.lines.invariant.utf8 (omega arith) in
    omega
    (arith, ap text_columns short, text_columns-plain_line (plain_line-printable rest c.lines.invariant.printable), c.max.ensures, c.lines.invariant.columns)

pub returns-clause-lines : goal.returns-clause-lines
returns-clause-lines g c =
    let rest = c.lines.rest.now in
    let short = written-short c.args.n c.args.words rest c.lines.invariant.utf8 (omega arith) in
    omega (
      arith,
      ap (λ l. length (lines_of l)) short,
      ap length (plain_line-lines (plain_line-printable rest c.lines.invariant.printable)),
      c.lines.invariant.counted,
    )

pub returns-clause-text : goal.returns-clause-text
returns-clause-text g c =
    c.lines.invariant.adds c.append_str-2.new.self (subst (λ x. g.S.Sink.adds c.lines.out x c.append_str-2.new.self)
    (written-short c.args.n c.args.words c.lines.rest.now c.lines.invariant.utf8 (omega arith)) c.in_ok-append_str-2.ensures)
