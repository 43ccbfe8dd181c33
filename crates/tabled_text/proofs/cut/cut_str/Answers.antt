use Rattle.tabled_text.proofs.Names.{IfOk-weaker, IsCut, encode_utf8_all, replicate, ◌++◌, ◌≡◌}
use Rattle.std.specs.Cow.{cow_str_bytes}
use Rattle.tabled_text.proofs.CutLemmas.{IsCut-filled}
use Rattle.tabled_text.proofs.cut.cut_str.Goals as goal

pub returns-clause-cut : goal.returns-clause-cut
returns-clause-cut c =
    let parts = c.part-missing.result in
    IfOk-weaker c.fill.result (λ answer. cow_str_bytes answer ≡ parts.0.now ++ encode_utf8_all (replicate parts.1 0xFFFD))
    (λ answer. IsCut c.args.n c.args.text.now (cow_str_bytes answer))
    (λ answer e. IsCut-filled c.part-missing.ensures.front c.part-missing.ensures.parted e) c.fill.ensures.text
