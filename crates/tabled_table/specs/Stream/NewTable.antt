-- The settings of a new streamed table.
use Rattle.std.specs.Prelude.{None}
use Rattle.tabled_table.specs.declared.iter_table.IterTable.{IterTable}
use Rattle.tabled_table.specs.declared.iter_table.settings.StreamSettings.{StreamSettings}

-- 1000 rows are read ahead, and nothing else is set
abbrev pub new_settings : StreamSettings
new_settings = record { sniff = 1000; columns = None; rows = None; width = None; height = None; mark = None }

-- a table with other settings
abbrev pub with_settings : {I : Type 0} → IterTable I → StreamSettings → IterTable I
with_settings table settings = record table { settings = settings }
