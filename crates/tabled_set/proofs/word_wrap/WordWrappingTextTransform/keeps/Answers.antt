use Rattle.tabled_set.proofs.Names.{length, sym, ◌∙◌}
use Rattle.std.proofs.Common.{arith}
use Rattle.std.proofs.lemmas.Bool.{leb-true}
use Rattle.tabled_text.proofs.WordLaws.{IsWordWrapped-short}
use Rattle.tabled_set.proofs.word_wrap.WordWrappingTextTransform.keeps.Goals as goal

pub returns-then-content_size-gt0 : goal.returns-then-content_size-gt0
returns-then-content_size-gt0 c = λ is.
    let text = c.args.text.now in
    IsWordWrapped-short c.args.content_size text c.utf8.text (omega arith)
    (leb-true (length text) c.args.content_size (sym c.fits_bytes.ensures.value ∙ is))
