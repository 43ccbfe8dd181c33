use Rattle.tabled.proofs.Names.{Advances, IfSome, IsBegunOn, IsOutput, MatchResult, OnOk, Puts, PutsOutput, Writes, [], ap, block}
use Rattle.tabled.proofs.Names.{block_sent, rules, subst, sym, waiting, ◌∙◌, ◌≡◌}
use Rattle.std.specs.Prelude.{string_bytes}
use Rattle.tabled.proofs.Outputs.{either_output}
use Rattle.tabled.proofs.BytesSince.{ended_begun, ended_put, puts_err, puts_from}
use Rattle.tabled.proofs.program.print_through.Goals as goal
use Rattle.tabled.proofs.program.print_through.Goals.{in-Ok, in-Err}

pub returns : goal.returns
returns g c =
    let text = string_bytes c.args.text.now in
    let a = block g.O.Write.contents c.new-sink.result in
    let b = block g.O.Write.contents c.print_blocked-result.result.1 in
    let d = block g.O.Write.contents c.match-result.sink in
    let none : waiting c.new-sink.result.held.now ≡ [] = ap waiting c.new-sink.ensures.held ∙ c.in_ok-held.ensures in
    let h = c.print_blocked-result.ensures.put in
    let same = ap g.O.Write.contents c.new-sink.ensures.writer in
    elim c.match-result.branch [
      | in-Ok w ↦
          let k = subst (λ r. PutsOutput c.args.plan text (block_sent a).bytes r (block_sent b).bytes) w.in-Ok.is h in
          let written : Writes (block_sent b) c.match-result.result (block_sent d) [] = rw w.result-is
          (rw w.sink-is w.finish-result.ensures.written) in
          let advanced : Advances b d = rw w.sink-is w.finish-result.ensures.advanced in
          let emptied : OnOk c.match-result.result (d.waiting ≡ []) = rw w.result-is (rw w.sink-is w.finish-result.ensures.emptied) in
          record {
            output = k.output;
            is_output = either_output c.args.plan text k.output [] _ c.match-result.result _ written k.is_output;
            puts = puts_from _ _ _ c.match-result.result k.output same
                (ended_put a b d _ c.match-result.result k.output none k.puts c.print_blocked-result.ensures.advanced written advanced emptied
                (λ n. let m = n ∙ c.new-sink.ensures.same_reference in ap g.O.Write.contents (search rules)));
          }
      | in-Err w ↦
          let put : Puts (block_sent a).bytes c.print_blocked-result.result.0 (block_sent d).bytes h.output = rw w.sink-is h.puts in
          let advanced : IfSome a.contents (λ _. Advances a d) = rw w.sink-is c.print_blocked-result.ensures.advanced in
          let k = subst (λ r. PutsOutput c.args.plan text (block_sent a).bytes r (block_sent b).bytes) w.in-Err.is h in
          record {
            output = h.output;
            is_output = subst (λ r. MatchResult r (λ _. IsOutput c.args.plan text h.output) (IsBegunOn c.args.plan text h.output))
                (w.in-Err.is ∙ sym w.result-is) h.is_output;
            puts = puts_from _ _ _ c.match-result.result h.output same
                (puts_err _ _ c.match-result.result _ h.output w.result-is
                (ended_begun a d _ c.print_blocked-result.result.0 h.output none put advanced
                (λ n. let m = n ∙ c.new-sink.ensures.same_reference in ap g.O.Write.contents (search rules))));
          }
    ]
