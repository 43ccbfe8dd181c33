use Rattle.tabled_records.proofs.Names.{ap, arith, drop, length, length-drop, length-take, slice_range, slice_split_none, sym, ◌-◌, ◌==◌}
use Rattle.tabled_records.proofs.Names.{◌∙◌, ◌≡◌}
use Rattle.tabled_text.proofs.Bridge.{text_columns-one}
use Rattle.tabled_text.proofs.PlainLines.{plain_line-printable, text_columns-plain_line}
use Rattle.tabled_records.proofs.joined_records.cell_columns.Goals as goal

pub returns-then-printable : goal.returns-then-printable
returns-then-printable c =
    let all = c.requires.printable c.if-printable.true in
    let rest = drop c.args.start c.args.text.now in
    let ends = c.requires.ends.0 in
    let size : c.args.end - c.args.start ≡ length (slice_range c.args.text.now c.args.start c.args.end) = omega (arith, ends, length-take (c.args.end - c.args.start) rest, length-drop c.args.start c.args.text.now) in
    record {
      joined = record {
        ordered = c.requires.ordered;
        begins = c.requires.begins;
        ends = c.requires.ends;
        counted = size ∙ sym (text_columns-plain_line (plain_line-printable (slice_range c.args.text.now c.args.start c.args.end) all));
      };
      line = ap length (slice_split_none (λ b. b == 10) _ c.requires.line);
    }

pub returns-else-printable : goal.returns-else-printable
returns-else-printable c =
    let one = slice_split_none (λ b. b == 10) (slice_range c.args.text.now c.args.start c.args.end) c.requires.line in
    record {
      joined = record {
        ordered = c.requires.ordered;
        begins = c.requires.begins;
        ends = c.requires.ends;
        counted = c.columns_between.ensures
            ∙ sym (text_columns-one (slice_range c.args.text.now c.args.start c.args.end) (ap length one));
      };
      line = ap length one;
    }
