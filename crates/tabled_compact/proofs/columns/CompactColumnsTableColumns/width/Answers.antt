use Rattle.tabled_compact.proofs.Names.{CompactSheet, arith, slice_index, subst, sym, ◌<◌, ◌≡◌}
use Rattle.tabled_size.proofs.Reaching.{reached_size, reached_there}
use Rattle.tabled_compact.proofs.columns.CompactColumnsTableColumns.width.Goals as goal

pub get_width-requires : goal.get_width-requires
get_width-requires g c =
    let P : CompactSheet → Type 0 = λ t. c.args.column < t.count in
    let it = c.self.inside in
    let within = subst P (sym c.self.view_is) c.requires in
    let sized = c.self.invariant.1 in
    reached_there (g.D.Dimension.width_at it.dimension.now) it.count c.args.column (omega (arith, within, sized))

pub returns : goal.returns
returns g c =
    let P : CompactSheet → Type 0 = λ t. c.args.column < t.count in
    let Q : CompactSheet → Type 0 = λ t. c.get_width.result ≡ slice_index t.widths c.args.column in
    let it = c.self.inside in
    let within = subst P (sym c.self.view_is) c.requires in
    let sized = c.self.invariant.1 in
    subst Q c.self.view_is
    (reached_size (g.D.Dimension.width_at it.dimension.now) it.count c.args.column _ (omega (arith, within, sized)) c.get_width.ensures)
