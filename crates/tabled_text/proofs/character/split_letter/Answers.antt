use Rattle.tabled_text.proofs.Names.{BeginsBy, IsLetter, ap, arith, get_or, length, nat_tests, subst, sym, ◌<◌, ◌∙◌}
use Rattle.tabled_text.proofs.LetterLemmas.{letter-split}
use Rattle.tabled_text.proofs.character.split_letter.Goals as goal

pub split_at-requires : goal.split_at-requires
split_at-requires c =
    let some : 0 < length c.args.text.now = grind (arith, nat_tests, c.is_empty.ensures, c.if-is_empty.false) in
    (letter-split c.args.text.now c.in_ok-size.size.0 c.in_ok-size.size.1 c.utf8.text some
    (λ x led. c.in_ok-size.ensures x (ap (λ bs. get_or bs 0 0) c.as_bytes.ensures.value ∙ led))).at

pub returns : goal.returns
returns c =
    let some : 0 < length c.args.text.now = grind (arith, nat_tests, c.is_empty.ensures, c.if-is_empty.false) in
    subst (BeginsBy (λ x. IsLetter x c.in_ok-size.size.1) c.args.text.now) (sym c.split_at.ensures.back)
    (letter-split c.args.text.now c.in_ok-size.size.0 c.in_ok-size.size.1 c.utf8.text some
    (λ x led. c.in_ok-size.ensures x (ap (λ bs. get_or bs 0 0) c.as_bytes.ensures.value ∙ led))).begins
