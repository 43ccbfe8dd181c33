use Rattle.tabled_grid.proofs.Names.{Sheet, arith, length, reached_size, reached_there, slice_index, subst, sym, ◌<◌, ◌≡◌}
use Rattle.tabled_grid.proofs.grid.GridRowRow.height.Goals as goal

pub get_height-requires : goal.get_height-requires
get_height-requires g c =
    let P : Sheet → Type 0 = λ t. c.args.self.now.row < length t.heights in
    let here : P c.args.self.now.grid.now = omega (arith, c.args.self.now.inside, c.args.self.now.sized.rows) in
    reached_there (g.D.Dimension.height_at c.grid.inside.dimension.now) (length (g.R.ExactRecords.cells c.grid.inside.records.now))
    c.args.self.now.row (subst P (sym c.grid.view_is) here)

pub returns : goal.returns
returns g c =
    let P : Sheet → Type 0 = λ t. c.args.self.now.row < length t.heights in
    let Q : Sheet → Type 0 = λ t. c.get_height.result ≡ slice_index t.heights c.args.self.now.row in
    let here : P c.args.self.now.grid.now = omega (arith, c.args.self.now.inside, c.args.self.now.sized.rows) in
    subst Q c.grid.view_is
    (reached_size (g.D.Dimension.height_at c.grid.inside.dimension.now) (length (g.R.ExactRecords.cells c.grid.inside.records.now))
    c.args.self.now.row _ (subst P (sym c.grid.view_is) here) c.get_height.ensures)
