use Rattle.std.proofs.Common.{◌∙◌, ◌+◌, ◌<◌, ap, arith, drop, length, sym}
use Rattle.tabled_base.specs.declared.position.Entity.TheVariants.{Column}
use Rattle.tabled_config.specs.declared.alignment.AlignmentHorizontal.{AlignmentHorizontal}
use Rattle.tabled_config.specs.declared.spanned.SpannedConfig.{SpannedConfig}
use Rattle.tabled_entity.specs.Changes.{with_change}
use Rattle.tabled_c.specs.Asked.{with_alignments}
use Rattle.tabled_c.proofs.Aligning.{one_aligned}
use Rattle.tabled_c.proofs.layout.align_columns.Goals as goal

pub columns-preserved : goal.columns-preserved
columns-preserved c =
    let numbers = c.args.alignments.now in
    let column = c.columns.column in
    let config = c.columns.config in
    let below : column < length numbers = omega arith in
    ap (λ (k : SpannedConfig). with_alignments (column + 1) (drop (column + 1) numbers) k) c.in_ok-set_alignment_horizontal.ensures.ok
    ∙ ap
    (λ (a : AlignmentHorizontal). with_alignments (column + 1) (drop (column + 1) numbers)
    (record config { alignment_horizontal = with_change config.alignment_horizontal (Column column) a }))
    c.alignment_of-alignment.ensures
    ∙ sym (one_aligned column numbers config below)
    ∙ c.columns.invariant
