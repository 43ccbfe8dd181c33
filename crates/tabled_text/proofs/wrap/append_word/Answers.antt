use Rattle.tabled_text.proofs.Names.{begin_text, subst}
use Rattle.tabled_text.proofs.Filling.{encodes-word}
use Rattle.tabled_text.proofs.wrap.append_word.Goals as goal

pub returns-clause-text : goal.returns-clause-text
returns-clause-text g c =
    subst (λ x. g.S.Sink.adds c.args.out.now x c.append_str.new.self)
    (encodes-word c.args.n c.args.used c.args.width c.args.word.now c.requires c.utf8.word)
    (g.met.S.Sink.adds_more c.args.out.now c.begin.new.out c.append_str.new.self
    (begin_text c.args.n c.args.used c.args.width) c.args.word.now c.in_ok-column.ensures.text c.in_ok-append_str.ensures)
