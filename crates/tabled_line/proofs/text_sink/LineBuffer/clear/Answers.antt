use Rattle.tabled_line.proofs.Names.{IsUtf8-nil, [], is_utf8-from_IsUtf8}
use Rattle.tabled_line.proofs.text_sink.LineBuffer.clear.Goals as goal

pub invariant_of-buffer-clause-utf8 : goal.invariant_of-buffer-clause-utf8
invariant_of-buffer-clause-utf8 c = is_utf8-from_IsUtf8 [] IsUtf8-nil
