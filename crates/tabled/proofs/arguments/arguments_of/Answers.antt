use Rattle.tabled.proofs.Names.{string_bytes, sym, ◌∙◌}
use Rattle.tabled.proofs.Noting.{reads_all, reads_more, reads_no_more, reads_twice, map_nothing, map_something}
use Rattle.tabled.proofs.arguments.arguments_of.Goals as goal

pub returns-in_err-setting : goal.returns-in_err-setting
returns-in_err-setting c =
    let more = map_something string_bytes _ (sym c.is_empty.ensures ∙ c.loop-rest-test.true) in
    rw c.from_residual.ensures (λ settings spelled once. reads_no_more _ _ _ c.loop-rest.invariant more c.in_err-setting.ensures settings spelled)

pub returns-in_err-settings : goal.returns-in_err-settings
returns-in_err-settings c = rw c.from_residual-in_err-settings.ensures
    (λ settings spelled once. reads_twice _ _ _ _ _ c.loop-rest.invariant c.in_ok-setting.ensures c.in_err-settings.ensures settings spelled once)

pub loop-rest-preserved : goal.loop-rest-preserved
loop-rest-preserved c = reads_more _ _ _ _ _ _ c.loop-rest.invariant c.in_ok-setting.ensures c.in_ok-settings.ensures

pub returns : goal.returns
returns c = reads_all _ _ _ c.loop-rest.invariant (map_nothing _ _ (sym c.is_empty.ensures ∙ c.loop-rest-test.false))
