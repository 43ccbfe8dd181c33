use Rattle.tabled_line.proofs.Names.{ap, arith, drop, lines_of, lines_of-one, sym, ◌+◌, ◌-◌, ◌∙◌, ◌≡◌}
use Rattle.tabled_base.specs.Content.{content_text}
use Rattle.tabled_line.proofs.Contents.{columns-one, line-first, only-line}
use Rattle.tabled_line.proofs.cursor.Cursor.new.Goals as goal

pub returns-then-content-eq1 : goal.returns-then-content-eq1
returns-then-content-eq1 c =
    let content = c.args.content.now in
    let text = content_text content in
    let none = c.if-above-eq0.true in
    let one = c.if-content-eq1.true in
    let next : 0 + 1 - c.args.above ≡ 1 = omega (arith, none) in
    record {
      ahead = record {
        above_is = omega (arith, none);
        rest_is = sym (ap (λ k. drop k (lines_of text)) next ∙ ap (drop 1) (lines_of-one text (only-line content one)));
        widest_is = content.columns_are;
      };
      line_is = λ _. line-first content (0 - c.args.above) one (omega arith);
      columns_are = columns-one content one;
    }

pub returns : goal.returns
returns c =
    let content = c.args.content.now in
    let text = content_text content in
    let first : 0 - c.args.above ≡ 0 = omega arith in
    c.advance.ensures text c.args.above 0
    (record {
      above_is = omega arith;
      rest_is = sym (ap (λ k. drop k (lines_of text)) first);
      widest_is = content.columns_are;
    })
