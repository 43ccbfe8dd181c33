use Rattle.tabled_serde.proofs.Steps.{text-or-none}
use Rattle.tabled_serde.proofs.reader.Reader.text_of.Goals as goal

pub returns-in_default : goal.returns-in_default
returns-in_default c = record {
  ok = text-or-none c.args.self.now.none.now c.args.step.now c.scalar_text.result c.in_default.not-Unit c.scalar_text.ensures.ok;
  failed = c.scalar_text.ensures.failed;
}
