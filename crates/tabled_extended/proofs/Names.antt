-- The names of the crates below, and of the definitions of this one, that its proofs use. Declares
-- nothing.
pub use Rattle.std.proofs.Common.{All, Bool, Err, List, Ok, Option, Result, Some, [], ap, append_assoc, arith, chars, decimal, drop, false}
pub use Rattle.std.proofs.Common.{get_or, inl, inr, length, map, max, min, refl, rules, string_bytes, subst, suc, sym, take, zero, ℕ, ◌++◌}
pub use Rattle.std.proofs.Common.{◌+◌, ◌-◌, ◌<◌, ◌^◌, ◌∙◌, ◌∷◌, ◌≡◌, ◌≤◌}
pub use Rattle.std.proofs.lemmas.Bool.{cases_lt, false≢true}
pub use Rattle.std.proofs.lemmas.Bool.Decides.{nat_tests}
pub use Rattle.std.proofs.lemmas.List.{append-nil, length-append, length-map, length_push, map-append, map-id}
pub use Rattle.std.proofs.lemmas.List.Elements.{All-tail}
pub use Rattle.std.proofs.lemmas.Slice.Zip.{all_zipped_more}
pub use Rattle.std.specs.Cow.{cow_str_bytes}
pub use Rattle.std.specs.List.{AllZip, flat_map, zip}
pub use Rattle.std.specs.Prelude.{OnErr, OnOk}
pub use Rattle.std.specs.Str.{IsUtf8}
pub use Rattle.std.specs.declared.alloc.Global.{Global}
pub use Rattle.std.specs.declared.vec.Vec.{Vec}
pub use Rattle.tabled_base.specs.Cells.{row_texts}
pub use Rattle.tabled_extended.specs.Escaped.{escape, escaped}
pub use Rattle.tabled_extended.specs.RecordLines.{record_lines, rule_behind, title, value_line, widest, widest_value}
pub use Rattle.tabled_extended.specs.Truncated.{IsTruncated}
pub use Rattle.tabled_line.proofs.Leading.{lines-finished, lines-further, one-line, one-line-stopped}
pub use Rattle.tabled_line.proofs.Sending.{finished, further, stopped, stopped-first}
pub use Rattle.tabled_line.specs.Fill.{fill}
pub use Rattle.tabled_line.specs.Leading.{LineSends}
pub use Rattle.tabled_set.specs.CellChanges.{if_sized}
pub use Rattle.tabled_text.specs.Lines.{lines_left}
pub use Rattle.tabled_text.specs.Measure.{text_columns}
