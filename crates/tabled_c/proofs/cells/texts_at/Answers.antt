use Rattle.std.proofs.Common.{refl}
use Rattle.std.proofs.lemmas.Str.{IsCharBoundary-start}
use Rattle.tabled_c.proofs.cells.texts_at.Goals as goal

pub ends-init : goal.ends-init
ends-init c = record {
  boundary = IsCharBoundary-start c.args.text.now c.utf8.text;
  texts = rw c.new-texts.ensures.items refl;
  later = λ h. h;
  all = λ h. h;
}
