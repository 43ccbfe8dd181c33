use Rattle.tabled_text.proofs.StayLemmas.{IsAdditive-stays, StaysWithin-filled, StaysWithin-from, StaysWithin-join, StaysWithin-none}
use Rattle.tabled_text.proofs.StayLemmas.{text_columns-stays}
use Rattle.tabled_text.proofs.laws.texts_that_stay.Goals as goal

pub returns : goal.returns
returns g = record {
  additive = λ n text s. (IsAdditive-stays s, text_columns-stays s);
  from = λ n text p h. StaysWithin-from p h;
  joined = λ n texts some h. StaysWithin-join texts some h;
  none = λ n. StaysWithin-none;
  filled = λ n k c le p. StaysWithin-filled k c le p;
}
