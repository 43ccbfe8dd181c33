use Rattle.tabled_grid.proofs.Names.{Err, IsPlaceable, Ok, Placement, Result, TableError, [], ap, arith, cases_lt, cell_placement, columns_in}
use Rattle.tabled_grid.proofs.Names.{false, inl, inr, length, map, map-range_with_len_more, range_with_len, reached, reached_size}
use Rattle.tabled_grid.proofs.Names.{reached_there, slice_index, style_at, subst, sym, true, ℕ, ◌++◌, ◌<◌, ◌∙◌, ◌∷◌, ◌≡◌, ◌≤◌}
use Rattle.std.proofs.Common.{OnOk, is_ok}
use Rattle.std.proofs.lemmas.List.{length-set, take_more_set}
use Rattle.tabled_config.specs.declared.spanned.CellStyle.{CellStyle}
use Rattle.tabled_line.specs.Placements.{IsPlacementIn}
use Rattle.tabled_grid.proofs.column_styles.placements_in.Goals as goal

on_ok_holds : {T : Type 0} (r : Result T TableError) (P : Type 0) → true ≡ is_ok r → OnOk r P → P
on_ok_holds (Ok x) P e h = h
on_ok_holds (Err d) P e h = let no : true ≡ false = e in absurd (cc)

pub get_width-requires : goal.get_width-requires
get_width-requires g c =
    let count = length c.args.buffer.now in
    let reaches : count ≤ length (reached (g.D.Dimension.width_at c.args.dimension.now) count) =
    on_ok_holds c.check_widths.result _ c.in_ok-ok.ensures.variant c.check_widths.ensures.ok in
    reached_there (g.D.Dimension.width_at c.args.dimension.now) count c.columns.column (omega (arith, reaches, c.columns-test.true))

pub columns-preserved : goal.columns-preserved
columns-preserved g c =
    let column = c.columns.column in
    let count = length c.args.buffer.now in
    let widths = reached (g.D.Dimension.width_at c.args.dimension.now) count in
    let style : ℕ → CellStyle = style_at c.args.config.now c.args.row in
    let f : ℕ → Placement = cell_placement style (columns_in c.args.config.now (slice_index widths) count) in
    let new = c.in_ok-placement.placement in
    let reaches : count ≤ length widths = on_ok_holds c.check_widths.result _ c.in_ok-ok.ensures.variant c.check_widths.ensures.ok in
    let inside : column < length c.columns.buffer = omega (arith, c.columns.invariant.same, c.columns-test.true) in
    let width : c.get_width.result ≡ slice_index widths column =
    reached_size (g.D.Dimension.width_at c.args.dimension.now) count column c.get_width.result
    (omega (arith, reaches, c.columns-test.true)) c.get_width.ensures in
    let found : IsPlacementIn (style column) (slice_index widths column) new =
    subst (λ w. IsPlacementIn (style column) w new) width
    (subst (λ s. IsPlacementIn s c.get_width.result new) c.style_at.ensures
    (c.in_ok-placement.ensures c.style_at.result c.in_ok-uniform.ensures)) in
    record {
      same = length-set c.columns.buffer column new ∙ c.columns.invariant.same;
      listed = take_more_set c.columns.buffer column new inside ∙ ap (λ xs. xs ++ new ∷ []) c.columns.invariant.listed
          ∙ ap (λ a. map f (range_with_len 0 column) ++ a ∷ []) found.0 ∙ sym (map-range_with_len_more f 0 column column (omega arith));
      placeable = λ k l. elim (cases_lt k column) [
        | inl lt ↦ c.columns.invariant.placeable k lt
        | inr ge ↦ (let here : column ≡ k = omega (arith, ge, l) in subst (λ i. IsPlaceable (style i) (slice_index widths i)) here found.1)
      ];
    }
