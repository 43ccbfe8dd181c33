-- Runs of one character.
use Rattle.std.specs.Prelude.{◌≡◌, ◌<◌, ℕ, zero, suc, List, [], ◌++◌, encode_utf8}
use Rattle.tabled_config.specs.declared.sides.Indent.{Indent}
use Rattle.tabled_config.specs.declared.sides.Sides.{Sides}

-- the character `c`, `n` times
abbrev pub fill : ℕ → ℕ → List ℕ
fill c zero = []
fill c (suc n) = encode_utf8 c ++ fill c n

-- the fill character of one side, as many times as its size
abbrev pub indent : Indent → List ℕ
indent side = fill side.fill side.size

-- a text between side paddings, with spaces around it
abbrev pub padded_text : Sides Indent → ℕ → List ℕ → ℕ → List ℕ
padded_text padding before text behind =
    indent padding.left ++ (fill 32 before ++ (text ++ (fill 32 behind ++ indent padding.right)))

-- 64 copies of an ASCII character
pub record IsRun (run : List ℕ) : Type 0 where
  pub c : ℕ
  pub ascii : c < 128
  pub whole : run ≡ fill c 64
