use Rattle.tabled_text.proofs.FewestLines.{fewest-wrapped}
use Rattle.tabled_text.proofs.OwnBreaking.{least_breaking, old_text}
use Rattle.tabled_text.proofs.StayLemmas.{StaysWithin-wrapped}
use Rattle.tabled_text.proofs.WrapKept.{wrap_kept}
use Rattle.tabled_text.proofs.laws.wrapped_texts.Goals as goal

pub returns : goal.returns
returns g = record {
  room = λ n words text answer p w. StaysWithin-wrapped p w;
  fewest = fewest-wrapped;
  least = least_breaking;
  whole = old_text;
  kept = wrap_kept;
}
