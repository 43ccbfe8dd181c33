use Rattle.tabled_line.proofs.Names.{IsUtf8-from_is_utf8}
use Rattle.tabled_line.proofs.text_sink.FixedBuffer.text.Goals as goal

pub from_utf8_unchecked-requires : goal.from_utf8_unchecked-requires
from_utf8_unchecked-requires c = IsUtf8-from_is_utf8 _ c.args.self.now.utf8
