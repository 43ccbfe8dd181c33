-- The text of a cell as it is printed.
use Rattle.std.specs.Prelude.{ℕ, List}
use Rattle.tabled_text.specs.LineEnds.{ended_text}
use Rattle.tabled_base.specs.declared.content.Content.{Content}

-- the text, with a line feed wherever one of its lines ends
abbrev pub content_text : Content → List ℕ
content_text content = ended_text content.ends content.text.now
