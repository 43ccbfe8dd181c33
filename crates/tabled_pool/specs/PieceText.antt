-- Of private steps: no public call promises this.
-- The text that a piece has of a value: a text has its own, a list and a border have none.
use Rattle.std.specs.Prelude.{ℕ, List, [], string_bytes}
use Rattle.tabled_pool.specs.declared.kind.Kind.{Kind}
use Rattle.tabled_pool.specs.declared.kind.Kind.TheVariants.{Leaf, Bar, Rule}
use Rattle.tabled_pool.specs.declared.tree.TableValue.{TableValue}
use Rattle.tabled_pool.specs.declared.tree.TableValue.TheOpen.{TableValue-F, Row, Column, Cell}
use Rattle.tabled_pool.specs.declared.tree.TableValue.TheFolds.{fold-TableValue}

abbrev pub own_text_step : TableValue-F (List ℕ) → List ℕ
own_text_step (Cell s) = string_bytes s
own_text_step (Row v) = []
own_text_step (Column v) = []

abbrev pub own_text : TableValue → List ℕ
own_text = fold-TableValue (List ℕ) own_text_step

abbrev pub piece_text : Kind → TableValue → List ℕ
piece_text Leaf v = own_text v
piece_text Bar v = []
piece_text Rule v = []
