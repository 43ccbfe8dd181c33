use Rattle.std.proofs.Common.{◌≡◌, ◌<◌, ◌-◌, ◌^◌, [], ◌∷◌, ◌++◌, inl, inr, refl, arith, length}
use Rattle.tabview_read.proofs.Lines.{Yields-more, full-is, gives-none, gives-row, longer}
use Rattle.tabview_read.proofs.selector.Selector.read.Goals as goal

pub loop-row-init : goal.loop-row-init
loop-row-init g c = λ w names has. ([], refl, has, refl)

pub loop-row-preserved : goal.loop-row-preserved
loop-row-preserved g c = λ w names has.
    let i = c.loop-row.invariant w names has in
    let few : length i.0 < 2 ^ 64 - 1 = omega (arith, i.3) in
    (i.0 ++ _ ∷ [], Yields-more g.T.Rows.read_gives _ _ _ i.0 _ i.1 (gives-row g.T.Rows.read_gives _ _ _ _ (cc) c.in_ok-is_there.ensures), c.in_ok-take.ensures w names i.0 i.2 few, longer i.0 _ _ i.3)

pub returns-then-is_full : goal.returns-then-is_full
returns-then-is_full g c = λ w names has.
    let i = c.loop-row.invariant w names has in
    (i.0, record { reached = c.loop-row.rows; came = i.1; ended = inr (refl, inl (full-is w names i.0 c.loop-row.self _ i.2 c.is_full.ensures c.if-is_full.true)) }, i.2)

pub returns-then-not-is_there : goal.returns-then-not-is_there
returns-then-not-is_there g c = λ w names has.
    let i = c.loop-row.invariant w names has in
    (i.0, record { reached = c.loop-row.rows; came = i.1; ended = inl (gives-none g.T.Rows.read_gives _ _ _ _ (cc) c.in_ok-is_there.ensures) }, i.2)

pub returns : goal.returns
returns g c = λ w names has.
    let i = c.loop-row.invariant w names has in
    let all : length i.0 ≡ 2 ^ 64 - 1 = omega (arith, i.3) in
    (i.0, record { reached = c.loop-row.rows; came = i.1; ended = inr (refl, inr all) }, i.2)
