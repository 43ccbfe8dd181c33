use Rattle.tabled_text.proofs.LetterLemmas.{letter-count}
use Rattle.tabled_text.proofs.character.split_count.Goals as goal

pub returns-in-Some : goal.returns-in-Some
returns-in-Some c = letter-count c.in-Some.letter.0 c.args.text.now c.in-Some.letter.1.now c.in-Some.ensures

pub returns : goal.returns
returns c =
    let e = c.in_ok-c.ensures in
    record { first = c.in_ok-c.c; is = c.char_count.ensures.value; parts = e.0; shorter = e.1; characters = e.2 }
