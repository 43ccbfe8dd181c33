use Rattle.tabled_text.proofs.Names.{string_bytes}
use Rattle.tabled_text.proofs.WordLaws.{fewest-words, least-words}
use Rattle.tabled_text.proofs.word_wrap.wrap_words.Goals as goal

pub returns-clause-fewest : goal.returns-clause-fewest
returns-clause-fewest c =
    fewest-words c.args.n c.args.text.now (string_bytes c.wrap_words_into.new.out) c.in_ok-wrap_words_into.ensures.wrapped

pub returns-clause-least : goal.returns-clause-least
returns-clause-least c = λ pos fits.
    least-words c.args.n c.args.text.now (string_bytes c.wrap_words_into.new.out) pos fits c.in_ok-wrap_words_into.ensures.wrapped
