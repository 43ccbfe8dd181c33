-- What printing records leaves, by its steps.
use Rattle.std.proofs.Common.{Bool, ap, decimal, ◌∷◌, Err, IsUtf8, arith, false, get_or-drop, length-drop, true, List, Ok, Option, Result, Some, [], get_or, inl, inr, length, map, refl, string_bytes, subst, sym, ℕ, ◌+◌, ◌<◌, ◌∙◌, ◌≡◌}
use Rattle.std.proofs.lemmas.List.Elements.{All-map, length_all_zip}
use Rattle.std.proofs.lemmas.List.{length-map}
use Rattle.std.proofs.lemmas.List.FromFn.{length-map-range_with_len}
use Rattle.std.proofs.lemmas.Str.{IsUtf8-string_bytes}
use Rattle.tabled_base.specs.Cells.{columns}
use Rattle.std.specs.List.{All, AllZip}
use Rattle.std.specs.Prelude.{IsErrAnd}
use Rattle.std.specs.declared.alloc.Global.{Global}
use Rattle.std.specs.declared.string.String.{String}
use Rattle.tabled_base.specs.declared.error.TableError.{TableError}
use Rattle.tabled_base.specs.declared.error.TableError.TheVariants.{Memory}
use Rattle.tabled_line.specs.Sent.{Sent}
use Rattle.tabview_records.proofs.RecordFits.{records-fit}
use Rattle.tabview_records.specs.Expanded.{CanLay, CannotLay, PrintsExpanded, PrintsNamed, PrintsSheet}
use Rattle.tabview_records.specs.Narrowed.{IsNarrowedText}
use Rattle.tabview_records.specs.Records.{IsRecord, names_of, record_layout, records_of, widest, widest_cell}
use Rattle.tabview_records.specs.declared.error.PrintError.{PrintError}
use Rattle.tabview_records.specs.declared.error.PrintError.TheVariants.{Table, TooNarrow}
use Rattle.tabview_records.specs.declared.expanded.RecordOptions.{RecordOptions}
use Rattle.tabview_records.specs.declared.layout.RecordLayout.{RecordLayout}

-- the columns of the widest name and of the widest value
abbrev pub name_needs : RecordOptions → List (List (List ℕ)) → ℕ
name_needs options cells = widest (names_of options.has_header cells)

abbrev pub value_needs : RecordOptions → List (List (List ℕ)) → ℕ
value_needs options cells = widest_cell (records_of options.has_header cells)

-- nothing was sent
pub stopped-short : (options : RecordOptions) (cells : List (List (List ℕ))) (old : Sent) (r : Result (Unit {0}) PrintError)
    → IsErrAnd r (λ e. e ≡ Table Memory) → PrintsExpanded options cells old r old
stopped-short options cells old (Ok x) h = absurd h
stopped-short options cells old (Err e) h = subst (λ x. PrintsExpanded {T = Unit {0}} options cells old (Err x) old) (sym h) (inl (inl refl, refl))

unlaid : (options : RecordOptions) (cells : List (List (List ℕ))) (old : Sent) (e : PrintError) → CannotLay options.width (name_needs options cells) (value_needs options cells) e
    → PrintsExpanded {T = Unit {0}} options cells old (Err e) old
unlaid options cells old (Table e) h = inl (inr h, refl)
unlaid options cells old (TooNarrow least) h = (h, refl)

pub stopped-unlaid : (options : RecordOptions) (cells : List (List (List ℕ))) (old : Sent) (r : Result (Unit {0}) PrintError) (e : PrintError)
    → CannotLay options.width (name_needs options cells) (value_needs options cells) e → IsErrAnd r (λ d. d ≡ e) → PrintsExpanded options cells old r old
stopped-unlaid options cells old (Ok x) e h i = absurd i
stopped-unlaid options cells old (Err d) e h i = subst (λ x. PrintsExpanded {T = Unit {0}} options cells old (Err x) old) (sym i) (unlaid options cells old e h)

-- the cells of records are texts if all are
later : (has_header : Bool) (cells : List (List (List ℕ))) → All (All IsUtf8) cells → All (All IsUtf8) (records_of has_header cells)
later true cells us = λ k d l. subst (λ row. All IsUtf8 row) (sym (get_or-drop 1 cells k d)) (us (1 + k) d (omega (arith, l, length-drop 1 cells)))
later false cells us = us

-- the records of a table are printed beside names
pub printed-named : (options : RecordOptions) (cells : List (List (List ℕ))) (layout : RecordLayout) (texts shown : List (String Global)) (old : Sent)
    (r : Result (Unit {0}) TableError) (new : Sent) → map string_bytes texts ≡ names_of options.has_header cells
    → CanLay options.width (name_needs options cells) (value_needs options cells)
    → layout ≡ record_layout options.width options.cuts (name_needs options cells) (value_needs options cells)
    → AllZip (IsNarrowedText layout.cuts layout.names) (map string_bytes texts) (map string_bytes shown)
    → PrintsSheet layout (map string_bytes shown) (records_of options.has_header cells) old r new → PrintsNamed options cells old r new
printed-named options cells layout texts shown old r new names can laid narrowed prints =
    let each : All IsUtf8 (map string_bytes texts) = All-map IsUtf8 string_bytes texts (λ k d l. IsUtf8-string_bytes (get_or texts k d)) in
    record {
      layout = layout;
      can_lay = can;
      laid = laid;
      names = map string_bytes shown;
      narrowed = subst (λ ts. AllZip (IsNarrowedText layout.cuts layout.names) ts (map string_bytes shown)) names narrowed;
      prints = prints;
      fits = λ w e us index number text l h. records-fit options.cuts w (name_needs options cells) (value_needs options cells) (names_of options.has_header cells)
          (map string_bytes shown) (records_of options.has_header cells) layout
          (subst (λ (o : Option ℕ). layout ≡ record_layout o options.cuts (name_needs options cells) (value_needs options cells)) e laid)
          (subst (λ (o : Option ℕ). CanLay o (name_needs options cells) (value_needs options cells)) e can)
          (subst (λ ts. All IsUtf8 ts) names each) refl
          (subst (λ ts. AllZip (IsNarrowedText layout.cuts layout.names) ts (map string_bytes shown)) names narrowed)
          (later options.has_header cells us) refl index number text l h;
    }

names-long : (has_header : Bool) (cells : List (List (List ℕ))) → length (names_of has_header cells) ≡ columns cells
names-long true [] = refl
names-long true (row ∷ rows) = refl
names-long false cells = length-map-range_with_len (λ k. decimal (k + 1)) 0 (columns cells)

pub shown-long : (has_header : Bool) (cells : List (List (List ℕ))) (layout : RecordLayout) (texts shown : List (String Global))
    → map string_bytes texts ≡ names_of has_header cells
    → AllZip (IsNarrowedText layout.cuts layout.names) (map string_bytes texts) (map string_bytes shown) → length shown ≡ columns cells
shown-long has_header cells layout texts shown names narrowed =
    sym (length-map shown string_bytes) ∙ sym (length_all_zip (IsNarrowedText layout.cuts layout.names) (map string_bytes texts) (map string_bytes shown) narrowed)
    ∙ ap length names ∙ names-long has_header cells

-- ---- by the columns that were found

pub cannot-so : (options : RecordOptions) (cells : List (List (List ℕ))) (n v : ℕ) (e : PrintError) → n ≡ name_needs options cells → v ≡ value_needs options cells
    → CannotLay options.width n v e → CannotLay options.width (name_needs options cells) (value_needs options cells) e
cannot-so options cells n v e a b h = subst (λ k. CannotLay options.width k (value_needs options cells) e) a (subst (λ k. CannotLay options.width n k e) b h)

pub can-so : (options : RecordOptions) (cells : List (List (List ℕ))) (n v : ℕ) → n ≡ name_needs options cells → v ≡ value_needs options cells
    → CanLay options.width n v → CanLay options.width (name_needs options cells) (value_needs options cells)
can-so options cells n v a b h = subst (λ k. CanLay options.width k (value_needs options cells)) a (subst (λ k. CanLay options.width n k) b h)

pub laid-as : (options : RecordOptions) (cells : List (List (List ℕ))) (layout : RecordLayout) (n v : ℕ) → n ≡ name_needs options cells → v ≡ value_needs options cells
    → layout ≡ record_layout options.width options.cuts n v → layout ≡ record_layout options.width options.cuts (name_needs options cells) (value_needs options cells)
laid-as options cells layout n v a b h =
    h ∙ ap (λ k. record_layout options.width options.cuts n k) b ∙ ap (λ k. record_layout options.width options.cuts k (value_needs options cells)) a

pub printed-err : (options : RecordOptions) (cells : List (List (List ℕ))) (old : Sent) (r : Result (Unit {0}) PrintError) (e : TableError) (new : Sent)
    → PrintsNamed {T = Unit {0}} options cells old (Err e) new → IsErrAnd r (λ d. d ≡ Table e) → PrintsExpanded options cells old r new
printed-err options cells old (Ok x) e new h i = absurd i
printed-err options cells old (Err d) e new h i = subst (λ x. PrintsExpanded {T = Unit {0}} options cells old (Err x) new) (sym i) (inr h)
