use Rattle.tabled_text.proofs.Names.{OnOk, arith, subst}
use Rattle.tabled_text.proofs.WrapKept.{written-short}
use Rattle.tabled_text.proofs.wrap.append_line.Goals as goal

pub returns-then-line-n : goal.returns-then-line-n
returns-then-line-n g c =
    subst (λ x. OnOk c.append_str.result (g.S.Sink.adds c.args.out.now x c.append_str.new.self))
    (written-short c.args.n c.args.words c.args.line.now c.utf8.line (omega arith)) c.append_str.ensures
