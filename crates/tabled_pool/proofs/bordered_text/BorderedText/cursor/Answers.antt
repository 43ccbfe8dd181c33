use Rattle.tabled_base.specs.Content.{content_text}
use Rattle.tabled_pool.proofs.Names.{subst}
use Rattle.tabled_line.specs.Cursors.{IsAt}
use Rattle.tabled_pool.proofs.bordered_text.BorderedText.cursor.Goals as goal

pub returns : goal.returns
returns c = subst (λ above. IsAt (content_text c.args.self.now.content.now) above 0 c.new.result) c.text_start-start.ensures c.new.ensures
