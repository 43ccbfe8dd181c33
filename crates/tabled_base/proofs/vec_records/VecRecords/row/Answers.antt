use Rattle.tabled_base.proofs.Names.{ap, arith, drop, length, map, take, ◌+◌, ◌-◌, ◌∙◌, ◌≡◌, ◌≤◌}
use Rattle.std.proofs.Common.{rules, ◌*◌}
use Rattle.tabled_base.proofs.StoredRows.{listed, listed-read, listed-row}
use Rattle.tabled_base.proofs.vec_records.VecRecords.row.Goals as goal

pub overflow_mul-start : goal.overflow_mul-start
overflow_mul-start g c =
    let l = listed g.T.CellText.text c.self.inside.stored c.in-InList.cells c.in-InList.columns c.in-InList.field-2 c.args.self.now c.in-InList.is c.self.view_is c.self.invariant in
    let w = listed-row c.args.index l c.requires in
    omega (arith, w, c.len-count.ensures, c.len-count.type_inv, c.in-InList.cells.ok.0)

pub overflow_add-result : goal.overflow_add-result
overflow_add-result g c =
    let l = listed g.T.CellText.text c.self.inside.stored c.in-InList.cells c.in-InList.columns c.in-InList.field-2 c.args.self.now c.in-InList.is c.self.view_is c.self.invariant in
    let w = listed-row c.args.index l c.requires in
    omega (arith, w, c.len-count.ensures, c.len-count.type_inv, c.in-InList.cells.ok.0)

pub offset_bounds-deref-start : goal.offset_bounds-deref-start
offset_bounds-deref-start g c =
    let l = listed g.T.CellText.text c.self.inside.stored c.in-InList.cells c.in-InList.columns c.in-InList.field-2 c.args.self.now c.in-InList.is c.self.view_is c.self.invariant in
    let w = listed-row c.args.index l c.requires in
    omega (arith, w, ap length c.deref.ensures.value)

pub returns-in-InList : goal.returns-in-InList
returns-in-InList g c =
    let f = g.T.CellText.text in
    let n = c.in-InList.columns in
    let l = listed f c.self.inside.stored c.in-InList.cells n c.in-InList.field-2 c.args.self.now c.in-InList.is c.self.view_is c.self.invariant in
    let count : c.args.index * n + n - c.args.index * n ≡ n = omega arith in
    ap (λ k. map f (take k (drop (c.args.index * n) c.deref.result.now))) count
    ∙ ap (λ xs. map f (take n (drop (c.args.index * n) xs))) c.deref.ensures.value
    ∙ listed-read c.args.index l c.requires

pub slice_bounds-result-end : goal.slice_bounds-result-end
slice_bounds-result-end g c =
    let l = listed g.T.CellText.text c.self.inside.stored c.in-InList.cells c.in-InList.columns c.in-InList.field-2 c.args.self.now c.in-InList.is c.self.view_is c.self.invariant in
    let w = listed-row c.args.index l c.requires in
    let within : c.args.index * c.in-InList.columns + c.in-InList.columns ≤ length c.deref.result.now = omega (arith, w, ap length c.deref.ensures.value) in
    search rules
