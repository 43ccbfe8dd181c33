use Rattle.std.specs.Prelude.{is_ok}
use Rattle.tabled_pool.proofs.TallCursors.{all_pushed}
use Rattle.tabled_pool.proofs.tall_texts.TallTexts.push.Goals as goal

pub returns-then-is_ok : goal.returns-then-is_ok
returns-then-is_ok c = λ t y all at.
    all_pushed t y c.args.self.now.texts.items c.push.new.self.items c.args.text (is_ok c.push.result) c.push.ensures.items all at

pub returns-else-is_ok : goal.returns-else-is_ok
returns-else-is_ok c = λ t y all at.
    all_pushed t y c.args.self.now.texts.items c.push.new.self.items c.args.text (is_ok c.push.result) c.push.ensures.items all at
