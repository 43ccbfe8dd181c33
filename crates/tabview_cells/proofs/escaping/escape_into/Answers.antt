use Rattle.std.proofs.Common.{◌∙◌, append-nil, append_assoc, sym}
use Rattle.std.proofs.lemmas.Str.{IsUtf8-past_char}
use Rattle.tabview_cells.proofs.Escapes.{escaped-empty, escaped-step}
use Rattle.tabview_cells.proofs.escaping.escape_into.Goals as goal

pub loop-c-preserved : goal.loop-c-preserved
loop-c-preserved c =
    let held = c.loop-c.invariant in
    let parts = c.in-Some.ensures.steps.0 in
    let step = escaped-step c.args.lines c.in-Some.c _ _ held.0 parts in (
      IsUtf8-past_char _ _ c.in-Some.c held.0 parts,
      rw (c.in_ok-push_escaped.ensures, append_assoc) (rw step at held.1),
    )

pub returns : goal.returns
returns c = record {
  ok = sym (append-nil _) ∙ rw (escaped-empty c.args.lines _ c.in-None.ensures.steps.0.0) at c.loop-c.invariant.1;
}
