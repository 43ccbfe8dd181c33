-- Records that are printed one after another.
use Rattle.tabled_extended.proofs.Names.{Bool, Err, LineSends, List, Ok, Result, [], ap, arith, cases_lt, false, flat_map, get_or, inl, inr}
use Rattle.tabled_extended.proofs.Names.{length, length-append, lines-finished, lines-further, record_lines, refl, subst, sym, widest}
use Rattle.tabled_extended.proofs.Names.{widest_value, ℕ, ◌++◌, ◌+◌, ◌<◌, ◌∙◌, ◌∷◌, ◌≡◌}
use Rattle.std.proofs.Common.{◌⊎◌, append-nil}
use Rattle.std.proofs.lemmas.Grind.{flat_map-append}
use Rattle.std.proofs.lemmas.List.{get_or_append_left, get_or_push}
use Rattle.tabled_base.specs.declared.error.TableError.{TableError}
use Rattle.tabled_line.specs.Leading.{LineStops, WritesLines}
use Rattle.std.specs.Prelude.{IsErrAnd}
use Rattle.tabled_line.specs.Sent.{Sent, Sends}
use Rattle.tabled_line.proofs.Leading.{lines-none, lines-text}
use Rattle.tabled_extended.specs.PrintedRecords.{EndsBefore, EndsWithin, IsTooWide, OneRecord, PrintsAll, PrintsRecord}
use Rattle.tabled_extended.specs.PrintedRecords.{PrintsRecords, RecordSheet}
use Rattle.tabled_extended.specs.RecordLines.{AreRecordLines, text_of}

-- the lines of the record at an index, under a label
abbrev pub lines_at : RecordSheet → ℕ → List ℕ → List (List ℕ)
lines_at sheet n label = record_lines (widest sheet.fields) (widest_value sheet.records) sheet.fields label (get_or sheet.records n [])

-- the record at an index
abbrev pub record_at : RecordSheet → ℕ → OneRecord
record_at sheet n = record { labels = sheet.labels n; fails = sheet.fails n; lines = lines_at sheet n }

-- the first records are printed
pub record PrintedSoFar (sheet : RecordSheet) (count : ℕ) (old : Sent) (begun : Bool) (new : Sent) (begun' : Bool) : Type 0 where
  pub parts : List (List (List ℕ))
  pub many : length parts ≡ count
  pub lines : AreRecordLines sheet.labels sheet.fields sheet.records parts
  pub sends : LineSends old begun new begun' (flat_map (λ lines. lines) parts)

pub so_far-none : (sheet : RecordSheet) (a : Sent) (p : Bool) → PrintedSoFar sheet 0 a p a p
so_far-none sheet a p = record {
  parts = [];
  many = refl;
  lines = record { each = λ index h. absurd (omega arith) };
  sends = lines-none a p;
}

-- one more part
parts-more : (sheet : RecordSheet) (parts : List (List (List ℕ))) (n : ℕ) (label : List ℕ) → length parts ≡ n
    → AreRecordLines sheet.labels sheet.fields sheet.records parts → sheet.labels n label
    → AreRecordLines sheet.labels sheet.fields sheet.records (parts ++ lines_at sheet n label ∷ [])
parts-more sheet parts n label m h a =
    let last : List (List ℕ) = lines_at sheet n label in
    record {
      each = λ index below.
          elim (cases_lt index (length parts)) [
            | inl l ↦ (let e = h.each index l in (e.0, e.1, get_or_append_left parts (last ∷ []) [] index l ∙ e.2))
            | inr r ↦
                (let same : index ≡ n = omega (arith, length-append parts (last ∷ [])) in (
                  label,
                  subst (λ k. sheet.labels k label) (sym same) a,
                  get_or_push parts last [] index (omega arith) ∙ ap (λ k. lines_at sheet k label) (sym same),
                ))
          ];
    }

pub so_far-more : {sheet : RecordSheet} {n : ℕ} {a b c : Sent} {p q r : Bool}
    (label : List ℕ) → PrintedSoFar sheet n a p b q → sheet.labels n label
    → LineSends b q c r (record_lines (widest sheet.fields) (widest_value sheet.records) sheet.fields label (get_or sheet.records n []))
    → PrintedSoFar sheet (n + 1) a p c r
so_far-more {sheet} {n} label h g k =
    let last : List (List ℕ) = lines_at sheet n label in
    record {
      parts = h.parts ++ last ∷ [];
      many = omega (arith, h.many, length-append h.parts (last ∷ []));
      lines = parts-more sheet h.parts n label h.many h.lines g;
      sends = lines-further h.sends k (flat_map-append (λ lines. lines) h.parts (last ∷ []) ∙ ap (λ u. flat_map (λ lines. lines) h.parts ++ u)
          (append-nil last));
    }

pub so_far-all : {sheet : RecordSheet} {n : ℕ} {a b : Sent} {q : Bool}
    → PrintedSoFar sheet n a false b q → n ≡ length sheet.records → PrintsAll sheet a b
so_far-all {sheet} {n} {a} {b} {q} h e = record {
  parts = h.parts;
  whole = h.many ∙ e;
  lines = h.lines;
  sends = lines-text {T = Unit {0}} a b q (Ok tt) (flat_map (λ lines. lines) h.parts) h.sends;
}

pub so_far-stopped : {sheet : RecordSheet} {n : ℕ} {a b c : Sent} {q : Bool}
    (r : Bool) (e : TableError) → PrintedSoFar sheet n a false b q → n < length sheet.records
    → PrintsRecord (record_at sheet n) b q (Err e) c r
    → EndsBefore sheet a e c ⊎ EndsWithin sheet a e c
so_far-stopped {sheet} {n} {a} {b} {c} {q} r e h l (inl w) =
    let s : Sends a b (text_of h.parts) = lines-text {T = Unit {0}} a b q (Ok tt) (flat_map (λ lines. lines) h.parts) h.sends in
    inl (record {
      parts = h.parts;
      within = omega (arith, h.many);
      refused = subst sheet.fails (sym h.many) w.1;
      lines = h.lines;
      memory = w.0;
      sends = subst (λ (x : Sent). Sends a x (text_of h.parts)) (sym w.2) s;
    })
so_far-stopped {sheet} {n} {a} {b} {c} {q} r e h l (inr w) =
    let last : List (List ℕ) = lines_at sheet n w.0 in
    let whole : flat_map (λ lines. lines) (h.parts ++ last ∷ []) ≡ flat_map (λ lines. lines) h.parts ++ last =
    flat_map-append (λ lines. lines) h.parts (last ∷ []) ∙ ap (λ u. flat_map (λ lines. lines) h.parts ++ u) (append-nil last) in
    let stops : WritesLines {T = Unit {0}} a false (Err e) c r (flat_map (λ lines. lines) (h.parts ++ last ∷ [])) =
    lines-finished {T = Unit {0}} c r last (flat_map (λ lines. lines) (h.parts ++ last ∷ [])) (Err e) h.sends w.2 whole in
    inr (record {
      parts = h.parts ++ last ∷ [];
      some = omega (arith, length-append h.parts (last ∷ []));
      within = omega (arith, h.many, length-append h.parts (last ∷ []));
      lines = parts-more sheet h.parts n w.0 h.many h.lines w.1;
      stops = lines-text {T = Unit {0}} a c r (Err e) (flat_map (λ lines. lines) (h.parts ++ last ∷ [])) stops;
    })

pub record-printed : (one : OneRecord) (a b : Sent) (p q : Bool) (r : Result (Unit {0}) TableError)
    (label : List ℕ) (printed : List (List ℕ)) → one.labels label → WritesLines a p r b q printed → printed ≡ one.lines label
    → PrintsRecord one a p r b q
record-printed one a b p q (Ok x) label printed g h e = (label, g, subst (λ l. LineSends a p b q l) e h)
record-printed one a b p q (Err d) label printed g h e = inr (label, g, subst (λ l. LineStops a p d b l) e h)

pub records-stopped : {sheet : RecordSheet} {n : ℕ} {a b c : Sent} {q : Bool}
    (r : Bool) (res : Result (Unit {0}) TableError) (e : TableError) → PrintedSoFar sheet n a false b q
    → n < length sheet.records → (IsTooWide sheet.fields sheet.records → ⊥)
    → PrintsRecord (record_at sheet n) b q (Err e) c r
    → IsErrAnd res (λ d. d ≡ e) → PrintsRecords sheet a res c
records-stopped r (Ok x) e h l w k i = absurd i
records-stopped {sheet} {n} {a} {b} {c} {q} r (Err d) e h l w k i =
    let P : TableError → Type 0 = λ x. PrintsRecord (record_at sheet n) b q (Err x) c r in
    inr (w, so_far-stopped r d h l (subst P (sym i) k))
