use Rattle.tabled_set.proofs.TruncatedTexts.{IsCut-truncated, longest_lines, longest_truncated, StaysWithin-truncated, fits-truncated}
use Rattle.tabled_set.proofs.laws.truncated_texts.Goals as goal

pub returns : goal.returns
returns g = record {
  fits = fits-truncated;
  content_size = StaysWithin-truncated;
  cut = IsCut-truncated;
  longest = longest_truncated;
  lines = longest_lines;
}
