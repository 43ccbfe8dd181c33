-- The sides of columns, one column further.
use Rattle.std.proofs.Common.{List, add-one, ap, drop, drop-cons, false, get_or, length, sym, ℕ, ◌+◌, ◌<◌, ◌∙◌, ◌∷◌, ◌≡◌}
use Rattle.std.proofs.lemmas.List.{get_or-map}
use Rattle.tabled_config.specs.declared.alignment.AlignmentHorizontal.{AlignmentHorizontal}
use Rattle.tabled_config.specs.declared.alignment.AlignmentHorizontal.TheVariants.{Left}
use Rattle.tabled_config.specs.declared.spanned.SpannedConfig.{SpannedConfig}
use Rattle.tabview_print.specs.Layouts.{side_at, with_side, with_sides}
use Rattle.tabview_print.specs.declared.layout.Column.{Column}

pub sides-more : (config : SpannedConfig) (i : ℕ) (columns : List Column) (side : AlignmentHorizontal) → i < length columns → side ≡ side_at columns i
    → with_sides (with_side config i side) (i + 1) (drop (i + 1) columns) ≡ with_sides config i (drop i columns)
sides-more config i columns side h e =
    let d : Column = record { side = Left; keeps = false } in
    let own : side ≡ (get_or columns i d).side = e ∙ get_or-map (λ (k : Column). k.side) columns i d Left h in
    let next : drop i columns ≡ get_or columns i d ∷ drop (i + 1) columns = rw (add-one, drop-cons columns i d) in
    ap (λ (k : AlignmentHorizontal). with_sides (with_side config i k) (i + 1) (drop (i + 1) columns)) own ∙ sym (ap (with_sides config i) next)
