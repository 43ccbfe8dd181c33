use Rattle.tabled_text.proofs.WordLaws.{IsWordWrapped-short, fewest-words, fits-words, kept-words, least-words, old_words}
use Rattle.tabled_text.proofs.WordLaws.{stays-word_wrapped}
use Rattle.tabled_text.proofs.laws.word_wrapped_texts.Goals as goal

pub returns : goal.returns
returns g = record {
  fits = fits-words;
  room = stays-word_wrapped;
  fewest = fewest-words;
  least = least-words;
  whole = old_words;
  kept = kept-words;
  short = IsWordWrapped-short;
}
