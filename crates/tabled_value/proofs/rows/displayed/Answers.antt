use Rattle.std.proofs.lemmas.Str.{IsUtf8-string_bytes}
use Rattle.tabled_value.proofs.rows.displayed.Goals as goal

pub returns-clause-utf8 : goal.returns-clause-utf8
returns-clause-utf8 g c = IsUtf8-string_bytes c.in_ok-to_string.field-0
