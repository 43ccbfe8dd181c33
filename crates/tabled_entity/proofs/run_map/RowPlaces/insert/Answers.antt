use Rattle.tabled_entity.proofs.Names.{ap, get_or, length, subst, sym, ◌+◌, ◌<◌, ◌∙◌}
use Rattle.std.proofs.lemmas.Bool.{false≢true}
use Rattle.tabled_entity.proofs.Spans.{successive-grown}
use Rattle.tabled_entity.proofs.run_map.RowPlaces.insert.Goals as goal
use Rattle.tabled_entity.proofs.run_map.RowPlaces.insert.Goals.{then-self, else-self}

-- changes that were in order still are, if the last one says so
pub invariant_of-self : goal.invariant_of-self
invariant_of-self c =
    elim c.if-self.branch [
      | then-self w ↦
          record {
            ordered = λ yes.
                let places = c.args.self.now.places in
                let run = c.insert-inserted.new.self.run.items in
                let count = c.len-count.ensures ∙ places.run.ok.0 in
                let said = w.goes_on-self.ensures (sym w.self-is ∙ yes) in
                let is = w.deref.ensures.value in
                successive-grown places.run.items run c.len-count.result c.args.place (c.args.self.now.ordered w.if-self.true) count
                (subst (λ xs. c.len-count.result < length xs) is said.0) c.insert-inserted.ensures.run
                (said.1 ∙ ap (λ xs. get_or xs 0 0 + c.len-count.result) is);
          }
      | else-self w ↦ record { ordered = λ yes. absurd (false≢true (sym w.if-self.false ∙ sym w.self-is ∙ yes)) }
    ]
