use Rattle.tabled_table.proofs.Names.{Bool, List, None, Option, Some, inl, nat_lt, subst, sym, length, ◌&&◌, ◌==◌, ◌||◌, ◌≡◌, ◌∙◌, true, false, if◌then◌else◌}
use Rattle.tabled_base.specs.declared.position.Entity.{Entity}
use Rattle.tabled_config.specs.declared.colored.ColoredConfig.{ColoredConfig}
use Rattle.tabled_table.specs.Applied.{Modification, StopsAtPart, kept_config}
use Rattle.tabled_table.proofs.applying.change_target.Goals as goal

kept-there : (is_kept : Bool) (config before : ColoredConfig) → (if is_kept then Some config else None) ≡ Some before → before ≡ config
kept-there true config before h = cc
kept-there false config before h = absurd (let e : None ≡ Some before = h in cc)

kept-some : (is_undone : Bool) (entities : List Entity) (config before : ColoredConfig) → kept_config is_undone entities config ≡ Some before → before ≡ config
kept-some is_undone entities config before h = kept-there (nat_lt 1 (length entities) || (is_undone && length entities == 1)) config before h

pub returns-in-Some-clause-err : goal.returns-in-Some-clause-err
returns-in-Some-clause-err g c =
    let option = c.args.option.now in
    let O = g.O.CellOption in
    let to : List Entity → Modification = λ es. record {
      is_undone = O.is_undone option;
      changes = O.changes option;
      fails = O.fails option;
      out_of_range = O.out_of_range option;
      entities = es;
    } in
    record {
      stopped =
          inl (
            c.change_parts.new.config,
            subst (λ (es : List Entity). StopsAtPart (to es) c.in-Err.e c.args.records.now c.args.config.now c.change_parts.new.records c.change_parts.new.config)
                (c.as_slice-2.ensures.value ∙ c.in_ok-entities.ensures.picked) c.in-Err.ensures.err,
          );
      kept = kept-some c.needs_undo.result c.as_slice.result.now c.args.config.now c.in-Some.before (sym c.in_ok-before.ensures.copied ∙ c.in-Some.is);
    }
