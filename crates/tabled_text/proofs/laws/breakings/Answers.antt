use Rattle.tabled_text.proofs.FitLemmas.{fits-room}
use Rattle.tabled_text.proofs.OwnBreaking.{fits-broken, some_breaking, text_of-units}
use Rattle.tabled_text.proofs.laws.breakings.Goals as goal

pub returns : goal.returns
returns g = record {
  units = text_of-units;
  permitted = fits-broken;
  exists = some_breaking;
  room = λ n words text pos h. fits-room n pos words text h;
}
