use Rattle.tabled_pool.proofs.Names.{List, ap, arith, encode_utf8, fill, inl, inr, run_text, rules, string_bytes, subst, sym, unwrap_or, ℕ, ◌++◌, ◌∙◌, ◌≡◌}
use Rattle.std.proofs.Common.{IfOk, slice_index_or}
use Rattle.std.proofs.lemmas.List.{drop_all, drop_more}
use Rattle.tabled_pool.proofs.Splits.{RunFrom, run_ended, run_further, run_stopped, when_ok}
use Rattle.tabled_pool.proofs.bordered_text.BorderRun.add_to.Goals as goal
use Rattle.tabled_pool.proofs.bordered_text.BorderRun.add_to.Goals.{else-loop-entry-test, then-loop-entry-test+then-entry-left, then-entry-left-via-then-entry-left, then-entry-left-via-else-entry-left+then-entry-rest}

pub loop-entry-preserved : goal.loop-entry-preserved
loop-entry-preserved c =
    let run = c.args.self.now in
    let i = c.loop-entry.entry-index in
    let e = slice_index_or run.sizes.now i 0 in
    let from = λ (left : List ℕ). RunFrom run.sizes.now run.width run.split run.main (string_bytes c.args.line.now)
    (string_bytes c.loop-entry.line) left c.loop-entry.left c.loop-entry.rest in
    let filled : string_bytes c.write_fill.new.sink ≡ string_bytes c.loop-entry.line ++ fill c.unwrap_or-main.result e = search rules in
    run_further run.sizes.now run.width run.split run.main _ _ e _ _ _
    (subst from (drop_more run.sizes.now i 0 c.loop-entry-test.true) c.loop-entry.invariant) (omega (arith, c.if-entry-left.false))
    (omega (arith, c.if-entry-rest.false)) _ _ (filled ∙ ap (λ m. string_bytes c.loop-entry.line ++ fill m e) c.unwrap_or-main.ensures)
    (c.in_ok-push.ensures.bytes ∙ ap (λ m. string_bytes c.write_fill.new.sink ++ encode_utf8 m) c.unwrap_or-split.ensures)

pub returns : goal.returns
returns c =
    let run = c.args.self.now in
    let i = c.loop-entry.entry-index in
    let from = λ (left : List ℕ). RunFrom run.sizes.now run.width run.split run.main (string_bytes c.args.line.now)
    (string_bytes c.loop-entry.line) left c.loop-entry.left c.loop-entry.rest in
    let whole : string_bytes c.write_fill-2.new.sink ≡ string_bytes c.loop-entry.line ++ fill (unwrap_or run.main 32) c.loop-entry.rest
    → string_bytes c.write_fill-2.new.sink ≡ string_bytes c.args.line.now ++ run_text run.sizes.now run.width run.split run.main = λ e.
    elim c.loop-entry-test.branch [
      | else-loop-entry-test w ↦ run_ended run.sizes.now run.width run.split run.main _ _ _ _
          (subst from (drop_all i run.sizes.now w.loop-entry-test.false) c.loop-entry.invariant) _ e
      | then-loop-entry-test+then-entry-left w ↦ run_stopped run.sizes.now run.width run.split run.main _ _ _ _ _ _
          (subst from (drop_more run.sizes.now i 0 w.loop-entry-test.true) c.loop-entry.invariant)
          (elim w.then-entry-left.branch [
            | then-entry-left-via-then-entry-left v ↦ inl (omega (arith, v.if-entry-left.true))
            | then-entry-left-via-else-entry-left+then-entry-rest v ↦ inr (omega (arith, v.if-entry-rest.true))
          ]) _ e
    ] in
    let filled : IfOk c.map_err-2.result (λ _. string_bytes c.write_fill-2.new.sink
    ≡ string_bytes c.loop-entry.line ++ fill (unwrap_or run.main 32) c.loop-entry.rest) = rw (sym c.unwrap_or-main.ensures) (search rules) in
    when_ok c.map_err-2.result whole filled
