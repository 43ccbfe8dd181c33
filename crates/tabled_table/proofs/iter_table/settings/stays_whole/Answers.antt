use Rattle.tabled_table.proofs.Names.{Some, ap, arith, length, nat_tests, sym, true, ◌∙◌, ◌≡◌}
use Rattle.std.proofs.Common.{nat_eq}
use Rattle.std.proofs.lemmas.Bool.{false≢true}
use Rattle.std.specs.Option.{option_eq}
use Rattle.tabled_table.proofs.Stream.Marked.{whole-length}
use Rattle.tabled_table.proofs.iter_table.settings.stays_whole.Goals as goal

pub returns-clause-cut : goal.returns-clause-cut
returns-clause-cut c = λ cut whole.
    let text = c.args.text.now in
    let e = c.cut_length.ensures in
    let same : c.cut_length.result ≡ Some (length text) = whole-length c.args.n text c.cut_length.result e.cut e.boundary e.none whole in
    let yes : option_eq nat_eq (Some (length text)) (Some (length text)) ≡ true = grind (arith, nat_tests) in
    false≢true (sym cut ∙ c.eq.ensures ∙ ap (λ r. option_eq nat_eq r (Some (length text))) same ∙ yes)
