-- Tables that are shown by the width of a layout.
use Rattle.std.proofs.Common.{Bool, List, MatchOption, None, Result, Some, subst, sym, ℕ, ◌≡◌}
use Rattle.tabled_base.specs.declared.error.TableError.{TableError}
use Rattle.tabled_config.specs.declared.spanned.SpannedConfig.{SpannedConfig}
use Rattle.tabled_line.specs.Sent.{Sent}
use Rattle.tabled_size.specs.Sheet.{estimated}
use Rattle.tabview_print.proofs.Printing.{shown-so}
use Rattle.tabview_print.specs.Fitted.{IsTooNarrow, ShowsWithin}
use Rattle.tabview_print.specs.Layouts.{settings_of}
use Rattle.tabview_print.specs.PrintedTables.{CannotShow, PrintsShown, Shows, whole_table}
use Rattle.tabview_print.specs.declared.layout.Layout.{Layout}

module _ (layout : Layout) (cells : List (List (List ℕ))) (config : SpannedConfig) (old : Sent) (r : Result Bool TableError) (new : Sent)
    (same : config ≡ settings_of layout.style layout.columns.items) where
  pub printed-whole : layout.width ≡ None → PrintsShown (λ shown. shown ≡ estimated cells config) ⊥ (estimated cells config) old r new
      → PrintsShown (Shows layout (whole_table layout cells)) (CannotShow layout (whole_table layout cells)) (whole_table layout cells) old r new
  printed-whole e h =
      let t = whole_table layout cells in
      let P : SpannedConfig → Type 0 = λ k. PrintsShown (λ shown. shown ≡ estimated cells k) ⊥ (estimated cells k) old r new in
      shown-so (λ shown. shown ≡ t) (Shows layout t) ⊥ (CannotShow layout t) t old r new
      (λ shown is. subst (λ o. MatchOption o (shown ≡ t) (λ n. ShowsWithin layout.columns.items layout.has_header layout.narrowing n t shown)) (sym e) is)
      (λ no. absurd no) (subst P same h)

  pub printed-within : (n : ℕ) → layout.width ≡ Some n
      → PrintsShown (ShowsWithin layout.columns.items layout.has_header layout.narrowing n (estimated cells config))
      (IsTooNarrow layout.columns.items layout.has_header n (estimated cells config)) (estimated cells config) old r new
      → PrintsShown (Shows layout (whole_table layout cells)) (CannotShow layout (whole_table layout cells)) (whole_table layout cells) old r new
  printed-within n e h =
      let t = whole_table layout cells in
      let P : SpannedConfig → Type 0 = λ k. PrintsShown (ShowsWithin layout.columns.items layout.has_header layout.narrowing n (estimated cells k))
      (IsTooNarrow layout.columns.items layout.has_header n (estimated cells k)) (estimated cells k) old r new in
      shown-so (ShowsWithin layout.columns.items layout.has_header layout.narrowing n t) (Shows layout t)
      (IsTooNarrow layout.columns.items layout.has_header n t) (CannotShow layout t) t old r new
      (λ shown is. subst (λ o. MatchOption o (shown ≡ t) (λ n. ShowsWithin layout.columns.items layout.has_header layout.narrowing n t shown)) (sym e) is)
      (λ no. subst (λ o. MatchOption o ⊥ (λ n. IsTooNarrow layout.columns.items layout.has_header n t)) (sym e) no)
      (subst P same h)
