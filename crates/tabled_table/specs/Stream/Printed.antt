-- The lines of a table that is printed row by row.
use Rattle.std.specs.Prelude.{ℕ, zero, suc, ◌++◌, List, [], replicate, Result, Ok, Err}
use Rattle.std.specs.List.{flat_map, join_with_byte, range_with_len}
use Rattle.tabled_config.specs.Settings.{frame}
use Rattle.tabled_line.specs.Fill.{fill}
use Rattle.tabled_size.specs.Sheet.{Sheet}
use Rattle.tabled_size.specs.Totals.{filled_width}
use Rattle.tabled_grid.specs.Picture.{row_part}
use Rattle.tabled_base.specs.declared.error.TableError.{TableError}
use Rattle.tabled_line.specs.Sent.{Sent, Sends}
use Rattle.tabled_line.specs.StopsBelow.{StopsBelow}

-- the lines above a row and its horizontal line, in a table of `count` columns: the top margin, and
-- the rows before it with the horizontal lines above them
unfoldable pub lines_above : Sheet → ℕ → ℕ → List (List ℕ)
lines_above t count row =
    let margin = (frame t.config).margin in
    replicate margin.top.size (fill margin.top.fill (filled_width t.config count t.widths))
    ++ flat_map (row_part t) (range_with_len 0 row)

-- the lines above the last of some rows; without a row there are none, not even the top margin
abbrev pub lines_before : Sheet → ℕ → ℕ → List (List ℕ)
lines_before t count zero = []
lines_before t count (suc row) = lines_above t count row

-- the text of these lines
abbrev pub text_above : Sheet → ℕ → ℕ → List ℕ
text_above t count row = join_with_byte 10 (lines_above t count row)

abbrev pub text_before : Sheet → ℕ → ℕ → List ℕ
text_before t count rows = join_with_byte 10 (lines_before t count rows)

-- what a call that writes a text leaves, by its result, if the lines above some place in it are
-- written: on `Ok` the whole text
abbrev pub WritesBelow : {T : Type 0} → List ℕ → Sent → Result T TableError → Sent → List ℕ → Type 0
WritesBelow above old (Ok _) new text = Sends old new text
WritesBelow above old (Err error) new text = StopsBelow above old error new text
