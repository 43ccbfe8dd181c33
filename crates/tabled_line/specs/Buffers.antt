-- The text in a buffer.
use Rattle.std.specs.Prelude.{ℕ, List, string_bytes, take}
use Rattle.tabled_line.specs.declared.text_sink.LineBuffer.{LineBuffer}
use Rattle.tabled_line.specs.declared.text_sink.LineBuffer.TheVariants.{Fixed, Grown}

-- what was written since the buffer was empty
abbrev pub buffer_text : LineBuffer → List ℕ
buffer_text (Fixed buffer) = take buffer.used buffer.bytes
buffer_text (Grown text) = string_bytes text
