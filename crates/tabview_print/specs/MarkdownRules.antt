-- The line below the header of a table of Markdown.
use Rattle.std.specs.Prelude.{ℕ, ◌-◌, List, [], ◌∷◌, ◌++◌, encode_utf8_all, replicate}
use Rattle.tabled_config.specs.declared.alignment.AlignmentHorizontal.{AlignmentHorizontal}
use Rattle.tabled_config.specs.declared.alignment.AlignmentHorizontal.TheVariants.{Center, Left, Right}

abbrev pub dashes : ℕ → List ℕ
dashes width = encode_utf8_all (replicate width 45)

-- the part of a column: dashes, and a colon at its side
abbrev pub rule_part : ℕ → AlignmentHorizontal → List ℕ
rule_part width Left = dashes width
rule_part width Right = dashes (width - 1) ++ 58 ∷ []
rule_part width Center = (58 ∷ []) ++ dashes (width - 2) ++ 58 ∷ []
