use Rattle.std.proofs.Common.{List, ap, arith, lit<, map, sym, ℕ, ◌∙◌}
use Rattle.std.proofs.lemmas.Iterator.Consumers.{YieldsList-end}
use Rattle.std.proofs.lemmas.Iterator.Splits.{YieldsList-from_str_split}
use Rattle.std.proofs.lemmas.Simd.{map-map}
use Rattle.std.specs.Borrow.{Bor}
use Rattle.tabled_text.specs.Measure.{greatest, line_columns}
use Rattle.tabview_cells.proofs.Longest.{greatest-map-push}
use Rattle.tabview_cells.proofs.fit.longest_in_line.Goals as goal

pub loop-word-preserved : goal.loop-word-preserved
loop-word-preserved c =
    let e = greatest-map-push (λ (w : Bor (List ℕ)). line_columns w.now) c.loop-word.yielded c.in-Some.word in
    omega (arith, e, c.loop-word.invariant, c.max-most.ensures, c.line_width.ensures.value)

pub returns : goal.returns
returns c =
    let words = YieldsList-from_str_split 32 c.args.line.now (lit< tt) (cc) (cc) (cc) in
    let t = YieldsList-end words c.loop-word.yielded _ c.loop-word.yielded_by _ _ c.in-None.is c.next.ensures.steps in
    c.loop-word.invariant
    ∙ ap greatest (sym (map-map line_columns (λ (x : Bor (List ℕ)). x.now) c.loop-word.yielded) ∙ ap (map line_columns) t.0)
