use Rattle.tabled_compact.proofs.Names.{IsSpent, [], arith, false, inl, inr, length, length-map, map, refl, sheet_by, subst, sym, true, ℕ}
use Rattle.tabled_compact.proofs.Names.{◌+◌, ◌≡◌, ◌≤◌, ◌⊎◌}
use Rattle.std.proofs.Common.{MatchResult}
use Rattle.tabled_records.proofs.RowsRead.{reads-none, reads-open}
use Rattle.tabled_compact.proofs.Printings.{prints-nothing, prints-refused}
use Rattle.tabled_compact.proofs.rows.Wanted.print_rows.Goals.{then-self-eq0-via-then-self-eq0}
use Rattle.tabled_compact.proofs.rows.Wanted.print_rows.Goals.{then-self-eq0-via-else-self-eq0+then-is_spent}
use Rattle.tabled_compact.proofs.rows.Wanted.print_rows.Goals as goal

pub returns-then-self-eq0 : goal.returns-then-self-eq0
returns-then-self-eq0 g c =
    let self = c.args.self.now in
    let t = sheet_by self.config.now (g.D.Dimension.width_at self.dimension.now) self.columns in
    let why : (self.columns ≡ 0) ⊎ IsSpent self.window =
    elim c.then-self-eq0.branch [
      | then-self-eq0-via-then-self-eq0 w ↦ inl w.if-self-eq0.true
      | then-self-eq0-via-else-self-eq0+then-is_spent w ↦ inr (w.if-is_spent.ensures.0 refl)
    ] in
    prints-nothing t self.window _ _ ([], reads-open (reads-none c.args.rows.now), refl) why

pub returns-in-Ok : goal.returns-in-Ok
returns-in-Ok g c = rw c.in-Ok.ensures.ok at c.print_table.ensures

pub returns-in-Err : goal.returns-in-Err
returns-in-Err g c =
    let self = c.args.self.now in
    let t = sheet_by self.config.now (g.D.Dimension.width_at self.dimension.now) self.columns in
    let found = c.refuse.ensures in
    let some = c.if-self-eq0.false in
    let many : length (map (map g.C.CellText.text) found.0) ≡ length found.0 = length-map found.0 (map g.C.CellText.text) in
    let P : ℕ → Type 0 = λ n. MatchResult c.refuse.result (λ _. (n ≤ self.window.skip) × (found.1 ≡ true))
    (λ e. (n ≡ self.window.skip + 1) × (e ≡ c.in-Err.error)) in
    prints-refused t self.window _ _ (λ e. omega (arith, some, e)) (map (map g.C.CellText.text) found.0) found.1
    (found.0, found.2, refl) c.in-Err.error c.refuse.result (subst P (sym many) found.3)
    (λ h. let no : false ≡ true = c.if-is_spent.ensures.1 h in cc) c.in-Err.ensures.err
