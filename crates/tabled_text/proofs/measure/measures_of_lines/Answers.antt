use Rattle.tabled_text.proofs.Names.{IfSome, IsUtf8, List, ap, arith, greatest, length, length-map, line_columns, lines_in, lines_of, map}
use Rattle.tabled_text.proofs.Names.{subst, ℕ, ◌+◌, ◌<◌, ◌∙◌, ◌∷◌, ◌≡◌}
use Rattle.std.proofs.Common.{rules}
use Rattle.tabled_text.proofs.Bridge.{some_line}
use Rattle.tabled_text.proofs.PlainLines.{count_lines-le}
use Rattle.tabled_text.proofs.measure.measures_of_lines.Goals as goal

counts : (n : ℕ) (ls more : List (List ℕ)) → map line_columns ls ≡ n ∷ map line_columns more → length ls ≡ length more + 1
counts n ls more e = omega (arith, ap length e, length-map ls line_columns, length-map more line_columns)

pub overflow_add-count : goal.overflow_add-count
overflow_add-count c =
    let n = c.measure_line-columns.result.0 in
    let next = c.in-Some.next.now in
    let e = c.measure_line-columns.ensures.columns ∙ ap (λ o. n ∷ map line_columns (lines_in o)) c.in-Some.is in
    omega (arith, c.lines.invariant.counted, counts n (lines_of c.lines.rest.now) (lines_of next) e, some_line next, count_lines-le c.args.text.now)

pub lines-preserved : goal.lines-preserved
lines-preserved c =
    let n = c.measure_line-columns.result.0 in
    let next = c.in-Some.next.now in
    let e = c.measure_line-columns.ensures.columns ∙ ap (λ o. n ∷ map line_columns (lines_in o)) c.in-Some.is in
    let after = subst (λ o. IfSome o (λ x. IsUtf8 x.now × (length x.now < length c.lines.rest.now))) c.in-Some.is c.measure_line-columns.ensures.after in
    record {
      value = omega (arith, ap greatest e, c.lines.invariant.value, c.max-widest.ensures);
      bound = omega (arith, c.max-widest.ensures, c.measure_line-columns.ensures.bound, c.lines.invariant.short, c.lines.invariant.bound);
      short = omega (arith, after.1, c.lines.invariant.short);
      counted = omega (arith, c.lines.invariant.counted, counts n (lines_of c.lines.rest.now) (lines_of next) e);
      run = search rules;
      utf8 = after.0;
    }
