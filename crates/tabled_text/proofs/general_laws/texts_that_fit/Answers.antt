use Rattle.tabled_text.proofs.FittingLaws.{fits-cut, fits-filled, fits-followed, fits-joined, fits-none, fits-suffix, fits-wrapped}
use Rattle.tabled_text.proofs.general_laws.texts_that_fit.Goals as goal

pub returns : goal.returns
returns g = record {
  cut = fits-cut;
  suffix = fits-suffix;
  followed = fits-followed;
  wrapped = fits-wrapped;
  joined = fits-joined;
  none = fits-none;
  filled = fits-filled;
}
