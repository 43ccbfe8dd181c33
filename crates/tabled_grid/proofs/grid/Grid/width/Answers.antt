use Rattle.tabled_grid.proofs.Names.{Sheet, columns, length, reached_size, reached_there, slice_index, subst, sym, ◌<◌, ◌≡◌}
use Rattle.tabled_grid.proofs.grid.Grid.width.Goals as goal

pub get_width-requires : goal.get_width-requires
get_width-requires g c =
    let P : Sheet → Type 0 = λ t. c.args.column < length t.widths in
    reached_there (g.D.Dimension.width_at c.self.inside.dimension.now) (columns (g.R.ExactRecords.cells c.self.inside.records.now)) c.args.column
    (subst P (sym c.self.view_is) c.requires)

pub returns : goal.returns
returns g c =
    let P : Sheet → Type 0 = λ t. c.args.column < length t.widths in
    let Q : Sheet → Type 0 = λ t. c.get_width.result ≡ slice_index t.widths c.args.column in
    subst Q c.self.view_is
    (reached_size (g.D.Dimension.width_at c.self.inside.dimension.now) (columns (g.R.ExactRecords.cells c.self.inside.records.now)) c.args.column _
    (subst P (sym c.self.view_is) c.requires) c.get_width.ensures)
