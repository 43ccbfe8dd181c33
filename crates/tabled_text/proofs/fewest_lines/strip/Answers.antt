use Rattle.tabled_text.proofs.Names.{Some, ap, option_copied, sym, ◌++◌, ◌∙◌, ◌≡◌}
use Rattle.std.proofs.lemmas.Slice.Eq.{strip_prefix_is}
use Rattle.std.proofs.lemmas.Bool.Decides.{Decides-eqb}
use Rattle.tabled_text.proofs.FitLemmas.{strip_is}
use Rattle.tabled_text.proofs.fewest_lines.strip.Goals as goal

pub returns : goal.returns
returns c = λ z.
    let s = c.in_ok-rest.field-0.now in
    let p = c.args.text.now in
    let iff = strip_is s p c.strip_prefix.result (strip_prefix_is Decides-eqb s p c.strip_prefix.result c.strip_prefix.ensures.cases) z in
    let was : option_copied c.args.rest ≡ Some s = ap option_copied c.in_ok-rest.was in
    (λ e. let same : Some s ≡ Some (p ++ z) = sym was ∙ e in let at : s ≡ p ++ z = cc in iff.0 at, λ e. was ∙ ap (λ l. Some l) (iff.1 e))
