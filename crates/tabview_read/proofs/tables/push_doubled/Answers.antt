use Rattle.std.proofs.Common.{◌∙◌, append-nil, append_assoc, sym}
use Rattle.std.proofs.lemmas.Str.{IsUtf8-past_char}
use Rattle.tabview_read.proofs.Quoting.{doubled-empty, doubled-step}
use Rattle.tabview_read.proofs.tables.push_doubled.Goals as goal

pub loop-c-preserved : goal.loop-c-preserved
loop-c-preserved c =
    let held = c.loop-c.invariant in
    let parts = c.in-Some.ensures.steps.0 in
    let step = doubled-step c.in-Some.c _ _ held.0 parts in (
      IsUtf8-past_char _ _ c.in-Some.c held.0 parts,
      rw (c.in_ok-push_char.ensures, append_assoc) (rw step at held.1),
    )

pub returns : goal.returns
returns c = sym (append-nil _) ∙ rw (doubled-empty _ c.in-None.ensures.steps.0.0) at c.loop-c.invariant.1
