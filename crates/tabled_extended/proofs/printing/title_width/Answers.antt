use Rattle.tabled_extended.proofs.Names.{All, All-tail, ap, arith, length, lines_left, rules, subst, sym, ◌∙◌, ◌≤◌}
use Rattle.tabled_text.proofs.Bridge.{lines_length}
use Rattle.tabled_extended.proofs.Dashed.{columns_dashed, title-columns}
use Rattle.tabled_extended.proofs.printing.title_width.Goals as goal

pub lines-init : goal.lines-init
lines-init c =
    let same = ap lines_left c.into_iter-line-iterator.ensures.into_iter_gives ∙ c.lines-line-items.ensures in
    let all = ap (columns_dashed 1 0) same ∙ title-columns c.args.label.now c.utf8.label in
    record {
      value = omega (arith, all);
      before = omega arith;
      short = subst (All (λ line. length line ≤ length c.args.label.now)) (sym same) (lines_length c.args.label.now);
    }

pub lines-preserved : goal.lines-preserved
lines-preserved c =
    let steps = c.in-Some.ensures.steps in
    let all = subst (All (λ line. length line ≤ length c.args.label.now)) steps c.lines.invariant.short in
    let rest = lines_left c.next.new.self in
    record {
      value = search rules;
      before = omega arith;
      short = All-tail (λ line. length line ≤ length c.args.label.now) c.in-Some.line.now rest all;
    }
