-- New tables.
use Rattle.std.specs.Prelude.{◌≡◌, ℕ, List, None, Option}
use Rattle.std.specs.List.{AllZip}
use Rattle.tabled_base.specs.Given.{Given}
use Rattle.tabled_size.specs.Stored.{heights_of, widths_of}
use Rattle.tabled_table.specs.NewConfig.{new_config}
use Rattle.tabled_table.specs.declared.table.Table.{Table}

-- a table of these rows, with the settings of a new table and no sizes stored
pub record IsNew (cells : List (List (List ℕ))) (table : Table) : Type 0 where
  pub records : table.records ≡ cells
  pub config : table.config.config ≡ new_config
  pub widths : widths_of table.dimension ≡ None
  pub heights : heights_of table.dimension ≡ None

-- the values of a source, and the rows of texts that show them
abbrev pub Shows : {U S V : Type 0} → (U → S → Type 0) → (S → Option V → S → Type 0) → U → (V → List (List ℕ) → Type 0)
    → (List (List (List ℕ)) → Type 0) → Type 0
Shows {U} {S} {V} becomes steps source shows holds =
    (values : List V) × (rows : List (List (List ℕ))) × Given becomes steps source values × AllZip shows values rows × holds rows
