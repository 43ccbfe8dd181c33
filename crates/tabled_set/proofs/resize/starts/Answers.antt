use Rattle.std.proofs.lemmas.Str.{IsCharBoundary-start}
use Rattle.tabled_set.proofs.resize.starts.Goals as goal

pub returns : goal.returns
returns c = IsCharBoundary-start c.args.text.now c.utf8.text
