use Rattle.tabled_text.proofs.Names.{arith}
use Rattle.tabled_text.proofs.ExactLines.{cut_kept, cut_longest}
use Rattle.tabled_text.proofs.FewestLines.{lines-cut}
use Rattle.tabled_text.proofs.StayLemmas.{StaysWithin-cut, StaysWithin-cut_before, StaysWithin-suffix}
use Rattle.tabled_text.proofs.laws.cut_texts.Goals as goal

pub returns : goal.returns
returns g = record {
  room = λ n text answer p c. StaysWithin-cut p c;
  suffix = λ n w text answer suffix p q h c. StaysWithin-suffix p q h c;
  followed = λ n w text answer tail le p c u h. StaysWithin-cut_before le p c u h;
  lines = lines-cut;
  longest = cut_longest;
  kept = λ n m line answer p le c. cut_kept n line answer p.utf8 p.characters (let e = p.columns in omega arith) c;
}
