use Rattle.tabled_line.proofs.Names.{[], ap, arith, drop, lines_of, sym, ◌+◌, ◌-◌, ◌∙◌, ◌∷◌, ◌≡◌}
use Rattle.tabled_text.specs.LineEnds.{ended_lines, ended_text}
use Rattle.tabled_base.proofs.PassedLines.{drop-next, drop-past, line-at, no-line-at}
use Rattle.tabled_line.proofs.cursor.Cursor.advance.Goals as goal

pub returns-then-self-gt0 : goal.returns-then-self-gt0
returns-then-self-gt0 c = λ text above index h.
    let some = c.if-self-gt0.true in
    let same : index - above ≡ index + 1 - above = omega (arith, h.above_is, some) in
    record {
      ahead = record {
        above_is = omega (arith, h.above_is);
        rest_is = h.rest_is ∙ ap (λ k. drop k (lines_of text)) same;
        widest_is = h.widest_is;
      };
      line_is = λ past. absurd (omega (arith, h.above_is, some, past));
      columns_are = tt;
    }

pub returns-in_default : goal.returns-in_default
returns-in_default c = λ text above index h.
    let none = c.if-self-gt0.false in
    let next : index - above + 1 ≡ index + 1 - above = omega (arith, h.above_is, none) in
    let past : [] ≡ drop (index - above) (lines_of text) = sym (ap (ended_lines c.args.self.now.ends) c.in_default.is) ∙ h.rest_is in
    record {
      ahead = record {
        above_is = omega (arith, h.above_is, none);
        rest_is = ap (ended_lines c.args.self.now.ends) c.in_default.is ∙ drop-past (lines_of text) (index - above) past ∙ ap (λ k. drop k (lines_of text)) next;
        widest_is = h.widest_is;
      };
      line_is = λ _. no-line-at (lines_of text) (index - above) past;
      columns_are = tt;
    }

pub returns : goal.returns
returns c = λ text above index h.
    let none = c.if-self-gt0.false in
    let next : index - above + 1 ≡ index + 1 - above = omega (arith, h.above_is, none) in
    let line = c.first_line-columns-2.result.0.now in
    let left = sym c.first_line-columns-2.ensures.lines ∙ ap (ended_lines c.args.self.now.ends) (sym c.in-Some.is) ∙ h.rest_is in
    record {
      ahead = record {
        above_is = omega (arith, h.above_is, none);
        rest_is = drop-next (lines_of text) (index - above) line _ left ∙ ap (λ k. drop k (lines_of text)) next;
        widest_is = h.widest_is;
      };
      line_is = λ _. line-at (lines_of text) (index - above) line _ left;
      columns_are = c.first_line-columns-2.ensures.takes;
    }

pub returns-in-Bytes : goal.returns-in-Bytes
returns-in-Bytes c = λ text above index h.
    let none = c.if-self-gt0.false in
    let next : index - above + 1 ≡ index + 1 - above = omega (arith, h.above_is, none) in
    let first = c.first_line-columns.ensures in
    let line = c.first_line-columns.result.0.now in
    let rest = c.first_line-columns.result.2 in
    let bytes = c.in-Bytes.is in
    let left : line ∷ ended_lines c.args.self.now.ends rest ≡ drop (index - above) (lines_of text) =
    ap (λ ends. line ∷ ended_lines ends rest) bytes ∙ sym first.lines
    ∙ ap (λ ends. lines_of (ended_text ends c.in-Some.text.now)) (sym bytes)
    ∙ ap (ended_lines c.args.self.now.ends) (sym c.in-Some.is) ∙ h.rest_is in
    record {
      ahead = record {
        above_is = omega (arith, h.above_is, none);
        rest_is = drop-next (lines_of text) (index - above) line _ left ∙ ap (λ k. drop k (lines_of text)) next;
        widest_is = h.widest_is;
      };
      line_is = λ _. line-at (lines_of text) (index - above) line _ left;
      columns_are = first.takes;
    }
