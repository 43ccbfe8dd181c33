-- The texts of errors.
use Rattle.std.specs.Prelude.{ℕ, List, codes}
use Rattle.tabled_base.specs.declared.error.TableError.{TableError}
use Rattle.tabled_base.specs.declared.error.TableError.TheVariants.{Memory, ShortWidths, ShortHeights, Narrow, Range, Writer}

abbrev pub error_text : TableError → List ℕ
error_text Memory = codes "memory"
error_text ShortWidths = codes "short widths"
error_text ShortHeights = codes "short heights"
error_text (Narrow row column) = codes "narrow"
error_text Range = codes "range"
error_text Writer = codes "writer"
