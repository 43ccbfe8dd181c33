use Rattle.tabled_table.proofs.Names.{arith, common_steps, inl, map, refl, rules, sniffed, subst, ℕ, ◌+◌, ◌<◌, ◌^◌, ◌≤◌}
use Rattle.tabled_table.proofs.Stream.Widths.{side-in-total}
use Rattle.tabled_table.proofs.iter_table.first_rows.lay_out.Goals as goal

pub returns-in_default-clause-err : goal.returns-in_default-clause-err
returns-in_default-clause-err g c =
    let some = subst (λ (n : ℕ). 0 < n) c.requires.count c.requires.some in
    let settings = c.args.settings.now in
    let side = side-in-total settings c.args.config.now (sniffed settings (map (map g.C.CellText.text) c.args.rows.now)) some in
    let padding = c.args.config.now.padding in
    let over : 2 ^ 64 ≤ padding.left.size + padding.right.size = first_of (search rules, grind (arith, common_steps)) in
    inl (refl, omega (arith, side, over))
