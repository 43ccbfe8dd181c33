-- The names of the crates below, and of the definitions of this one, that its proofs use. Declares
-- nothing.
pub use Rattle.std.proofs.Common.{All, Bool, IfOk, IfSome, List, None, OnOk, Option, Some, [], ap, arith, bit_and, chars, cond, drop}
pub use Rattle.std.proofs.Common.{encode_utf8, encode_utf8_all, eqb, false, get_or, inl, inr, length, length-append, lit<, ltb, map, max}
pub use Rattle.std.proofs.Common.{min, nat_le, nat_lt, not, option_copied, refl, replicate, string_bytes, subst, suc, sum_by, sym, take}
pub use Rattle.std.proofs.Common.{true, w8, zero, ℕ, ⊎_elim, ◌%◌, ◌&&◌, ◌*◌, ◌++◌, ◌+◌, ◌-◌, ◌/◌, ◌<◌, ◌==◌, ◌^◌, ◌||◌, ◌↔◌, ◌∙◌, ◌∷◌, ◌≡◌}
pub use Rattle.std.proofs.Common.{◌≤◌, ◌⊎◌}
pub use Rattle.std.proofs.Math.Seq.{split_at, take-add}
pub use Rattle.std.proofs.Math.Utf8.{scalar, scalars}
pub use Rattle.std.proofs.lemmas.Bool.{agree_below_at, and_from, and_parts, cases_Bool, cases_lt, eq-eqb, eqb-false, eqb-true, le-leb}
pub use Rattle.std.proofs.lemmas.Bool.{leb-false, leb-true, lt-leb, lt-ltb, ne_eqb, not-false, not-true, or_cases, or_left, or_right}
pub use Rattle.std.proofs.lemmas.Bool.Decides.{nat_tests}
pub use Rattle.std.proofs.lemmas.List.{append-nil, append_assoc, drop-drop, drop_at, get_or-drop, get_or-map, get_or-take, get_or_default}
pub use Rattle.std.proofs.lemmas.List.{length-drop, length-map, length-take-le, nil_from_length, take-append-drop, take-append-le}
pub use Rattle.std.proofs.lemmas.List.{take-take, take_all, take_at}
pub use Rattle.std.proofs.lemmas.List.Elements.{All-cons, All-head, All-nil, All-tail}
pub use Rattle.std.proofs.lemmas.List.Folds.{list_all-append}
pub use Rattle.std.proofs.lemmas.List.Splits.{join_with_byte-slice_split, length-slice_split, slice_split-cons_no, slice_split_none}
pub use Rattle.std.proofs.lemmas.List.Sums.{sum_by-append, sum_by-cons, sum_by_push}
pub use Rattle.std.proofs.lemmas.Result.{IfOk-weaker, on_ok_weaker}
pub use Rattle.std.proofs.lemmas.Str.{IsCharBoundary-at_seam, IsCharBoundary-from_ascii, IsUtf8-append, IsUtf8-drop, IsUtf8-encode}
pub use Rattle.std.proofs.lemmas.Str.{IsUtf8-from_ascii, IsUtf8-nil, IsUtf8-past_char, chars-append, chars-encodes, chars-nil}
pub use Rattle.std.proofs.lemmas.Str.{chars_from_encodes, chars_past_char, encode_ascii, encodes-IsAscii, encodes-append, encodes-chars}
pub use Rattle.std.proofs.lemmas.Str.{len_utf8_bounds, length-encode, scalars-chars}
pub use Rattle.std.specs.Borrow.{Bor}
pub use Rattle.std.specs.Char.{IsScalar, len_utf8}
pub use Rattle.std.specs.Int.{is_in_range}
pub use Rattle.std.specs.List.{AllZip, flat_map, join_with_byte, list_all, onto_first, slice_index_or, slice_split}
pub use Rattle.std.specs.Prelude.{MatchBool, ⊤}
pub use Rattle.std.specs.Simd.Lanes.{chunk, mask_l, sum_l}
pub use Rattle.std.specs.Str.{IsCharBoundary, IsUtf8}
pub use Rattle.tabled_text.specs.Breaking.{EachUnitFits, HasFewestLines, IsBreaking, IsGrouping, IsLeastBreaking, TextUnit, space, text_of}
pub use Rattle.tabled_text.specs.Breaking.{unit_of_char, units, units_of_word, units_of_words, width_of, words_of}
pub use Rattle.tabled_text.specs.Cut.{IsCut, IsLongestReached, IsParted, IsReached, last_line, last_of, missing_columns}
pub use Rattle.tabled_text.specs.Walk.{BreaksAt, Expects, IsLetterLine, IsPiece, append_all, append_text, append_used, begin_text}
pub use Rattle.tabled_text.specs.Walk.{fits_line, fits_word, pending, used_after, words_in, written_line}
pub use Rattle.tabled_text.specs.FramedLines.{EndsApart, IsFrame, IsLine, IsSeparatorColumn, begins_apart, begins_with_selector}
pub use Rattle.tabled_text.specs.FramedLines.{ends_before, is_keycap_base, is_no_feed, is_separator, meet, stands_before}
pub use Rattle.tabled_text.specs.Letters.{AreLetters, BeginsBy, IsLetter, byte_columns, is_inner_byte, is_letter_byte, is_letter_or_break}
pub use Rattle.tabled_text.specs.Letters.{is_narrow_lead, is_wide_lead, lead_byte}
pub use Rattle.tabled_text.specs.Lines.{lines_in, lines_left}
pub use Rattle.tabled_text.specs.Longest.{IsLongestCut}
pub use Rattle.tabled_text.specs.Measure.{char_columns, char_count, columns_of, count_of, greatest, line_columns, lines_of, text_columns}
pub use Rattle.tabled_text.specs.Plain.{IsAdditive, IsAdditiveColumn, IsAdditiveLine, IsPlainColumn, has_plain_width, is_additive}
pub use Rattle.tabled_text.specs.Plain.{is_additive_or_feed, is_drawn, is_listed, is_listed_or_drawn, is_plain_character}
pub use Rattle.tabled_text.specs.Room.{is_additive_text, stays}
pub use Rattle.tabled_text.specs.Runs.{IsFirstAt, IsSplitAt, LieWithin}
pub use Rattle.tabled_text.specs.Wrapping.{AreFullest, Fits, IsFittingWrapping, IsFullest, IsFullestText, IsWrapped, needed, unit_or_filler}
pub use Rattle.tabled_text.specs.Wrapping.{text_from, text_of_groups, text_of_lines}
unfoldable pub use Rattle.ucd_bidi.specs.JoiningGroup.{joining_group}
unfoldable pub use Rattle.ucd_bidi.specs.JoiningGroupRows.{joining_group_rows}
pub use Rattle.ucd_bidi.specs.JoiningType.{joining_type, joining_type_eq}
pub use Rattle.ucd_bidi.specs.declared.JoiningGroup.TheVariants.{NoJoiningGroup}
pub use Rattle.ucd_bidi.specs.declared.JoiningType.TheVariants.{Transparent}
unfoldable pub use Rattle.ucd_emoji.specs.Binary.{is_emoji_variation_base}
unfoldable pub use Rattle.ucd_table.proofs.Computing.{tables}
pub use Rattle.ucd_table.proofs.Stepped.{of_ranges, zip_stepped}
pub use Rattle.ucd_table.specs.Rows.{Range}
unfoldable pub use Rattle.ucd_table.specs.Rows.{in_ranges}
unfoldable pub use Rattle.unicode_width.proofs.Computing.{unicode_width}
unfoldable pub use Rattle.unicode_width.proofs.KindLemmas.{kind_stepped}
pub use Rattle.unicode_width.proofs.Rules.{is_simple, is_simple_kind, str_width-append_simple, str_width-simple, width_or_zero-le}
unfoldable pub use Rattle.unicode_width.specs.Kind.{is_ligature_transparent, is_text_presentation_base, kind}
pub use Rattle.unicode_width.specs.Width.{Reading, added, before, if_kept, is_indicator, is_joined_emoji, is_kept, is_lam, is_line_feed}
pub use Rattle.unicode_width.specs.Width.{is_plain, is_quote, joined_or, of_kind, plain, read_before, single, skips_marks}
unfoldable pub use Rattle.unicode_width.specs.Width.{alone, before_alef, char_width, in_context, joins, past_emoji, past_selectors, step}
unfoldable pub use Rattle.unicode_width.specs.Width.{str_width}
pub use Rattle.unicode_width.specs.declared.kind.Kind.{Kind}
pub use Rattle.unicode_width.specs.declared.state.After.{After}
pub use Rattle.unicode_width.specs.declared.state.After.TheVariants.{Emoji, KiratAi, KiratE, LineFeed, RegionalIndicator}
pub use Rattle.unicode_width.specs.declared.state.After.TheVariants.{RegionalIndicators}
pub use Rattle.unicode_width.specs.declared.state.Change.{Change}
pub use Rattle.unicode_width.specs.declared.state.Change.TheVariants.{Less, One, Same, Three}
pub use Rattle.unicode_width.specs.declared.state.State.{State}
pub use denote.Shadow.{shadow}
pub use denote.Text.{Utf8}
pub use Rattle.tabled_text.specs.Exact.{IsExactLine}
pub use Rattle.std.proofs.lemmas.Option.{IfSome_then}
pub use Rattle.std.proofs.lemmas.Nat.{and_le_r}
pub use Rattle.std.proofs.lemmas.Simd.{length-chunk, map-map, mask_l-mod, splat_is_map, zip2_of_maps, zip2_splat}
