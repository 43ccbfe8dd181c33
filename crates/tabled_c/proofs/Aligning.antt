-- Settings with the alignment of one column more.
use Rattle.std.proofs.Common.{◌≡◌, ◌∙◌, ◌+◌, ◌<◌, ℕ, List, length, drop, get_or, sym, ap, add-one}
use Rattle.std.proofs.lemmas.List.{drop_more}
use Rattle.tabled_base.specs.declared.position.Entity.TheVariants.{Column}
use Rattle.tabled_config.specs.declared.spanned.SpannedConfig.{SpannedConfig}
use Rattle.tabled_entity.specs.Changes.{with_change}
use Rattle.tabled_c.specs.Asked.{alignment_numbered, with_alignments}

abbrev pub aligned : ℕ → ℕ → SpannedConfig → SpannedConfig
aligned column number config = record config { alignment_horizontal = with_change config.alignment_horizontal (Column column) (alignment_numbered number) }

pub one_aligned : (column : ℕ) (numbers : List ℕ) (config : SpannedConfig) → column < length numbers
    → with_alignments column (drop column numbers) config
    ≡ with_alignments (column + 1) (drop (column + 1) numbers) (aligned column (get_or numbers column 0) config)
one_aligned column numbers config h =
    ap (λ d. with_alignments column d config) (drop_more numbers column 0 h)
    ∙ ap (λ k. with_alignments k (drop (column + 1) numbers) (aligned column (get_or numbers column 0) config)) (sym (add-one column))
