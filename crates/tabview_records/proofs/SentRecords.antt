-- Records that are sent one after another.
use Rattle.std.proofs.Common.{Bool, Err, List, Ok, Result, [], ap, arith, false, get_or, inl, inr, length, length-append, refl, subst, sym, true, ⊎_elim, ℕ, ◌++◌, ◌+◌, ◌<◌, ◌∙◌, ◌∷◌, ◌≡◌, ◌≤◌, ◌⊎◌}
use Rattle.std.proofs.lemmas.Bool.{cases_lt}
use Rattle.std.proofs.lemmas.List.{get_or_append_left, get_or_push}
use Rattle.std.specs.Prelude.{IsErrAnd}
use Rattle.tabled_base.specs.declared.error.TableError.{TableError}
use Rattle.tabled_base.specs.declared.error.TableError.TheVariants.{Memory}
use Rattle.tabled_line.proofs.Leading.{lines-finished, lines-further, lines-none, lines-text}
use Rattle.tabled_line.specs.Leading.{LineSends, LineStops, WritesLines}
use Rattle.tabled_line.specs.Sent.{Sent}
use Rattle.tabview_records.specs.Expanded.{AreRecords, EndsBefore, EndsWithin, PrintsSheet, SendsRecords}
use Rattle.tabview_records.specs.Records.{IsRecord}
use Rattle.tabview_records.specs.declared.layout.RecordLayout.{RecordLayout}

-- the first records are sent
pub record SentSoFar (layout : RecordLayout) (names : List (List ℕ)) (rows : List (List (List ℕ))) (count : ℕ) (old new : Sent) (begun : Bool) : Type 0 where
  pub parts : List (List ℕ)
  pub many : length parts ≡ count
  pub records : AreRecords layout names rows parts
  pub sends : LineSends old false new begun parts

pub so_far-none : (layout : RecordLayout) (names : List (List ℕ)) (rows : List (List (List ℕ))) (a : Sent) → SentSoFar layout names rows 0 a a false
so_far-none layout names rows a = record {
  parts = [];
  many = refl;
  records = record { within = omega arith; each = λ index h. absurd (omega arith) };
  sends = lines-none a false;
}

parts-more : (layout : RecordLayout) (names : List (List ℕ)) (rows : List (List (List ℕ))) (parts : List (List ℕ)) (n : ℕ) (text : List ℕ) → length parts ≡ n
    → n < length rows → AreRecords layout names rows parts → IsRecord layout names (n + 1) (get_or rows n []) text
    → AreRecords layout names rows (parts ++ text ∷ [])
parts-more layout names rows parts n text m l h i = record {
  within = omega (arith, m, length-append parts (text ∷ []));
  each = λ index below.
      elim (cases_lt index (length parts)) [
        | inl b ↦ subst (IsRecord layout names (index + 1) (get_or rows index [])) (sym (get_or_append_left parts (text ∷ []) [] index b)) (h.each index b)
        | inr b ↦
            (let same : n ≡ index = omega (arith, m, length-append parts (text ∷ [])) in
            subst (IsRecord layout names (index + 1) (get_or rows index [])) (sym (get_or_push parts text [] index (m ∙ same)))
            (subst (λ k. IsRecord layout names (k + 1) (get_or rows k []) text) same i))
      ];
}

pub so_far-more : {layout : RecordLayout} {names : List (List ℕ)} {rows : List (List (List ℕ))} {n : ℕ} {a b c : Sent} {q r : Bool} (text : List ℕ)
    → SentSoFar layout names rows n a b q → n < length rows → IsRecord layout names (n + 1) (get_or rows n []) text
    → LineSends b q c r (text ∷ []) → SentSoFar layout names rows (n + 1) a c r
so_far-more {layout} {names} {rows} {n} text h l i k = record {
  parts = h.parts ++ text ∷ [];
  many = omega (arith, h.many, length-append h.parts (text ∷ []));
  records = parts-more layout names rows h.parts n text h.many l h.records i;
  sends = lines-further h.sends k refl;
}

pub so_far-all : {layout : RecordLayout} {names : List (List ℕ)} {rows : List (List (List ℕ))} {n : ℕ} {a b : Sent} {q : Bool}
    → SentSoFar layout names rows n a b q → n ≡ length rows → SendsRecords layout names rows a b
so_far-all {layout} {names} {rows} {n} {a} {b} {q} h e = record {
  parts = h.parts;
  whole = h.many ∙ e;
  records = h.records;
  sends = lines-text {T = Unit {0}} a b q (Ok tt) h.parts h.sends;
}

-- an allocation failed for the next record
pub so_far-short : {layout : RecordLayout} {names : List (List ℕ)} {rows : List (List (List ℕ))} {n : ℕ} {a b : Sent} {q : Bool} (res : Result (Unit {0}) TableError)
    → SentSoFar layout names rows n a b q → n < length rows → IsErrAnd res (λ e. e ≡ Memory) → PrintsSheet layout names rows a res b
so_far-short (Ok x) h l i = absurd i
so_far-short {layout} {names} {rows} {n} {a} {b} {q} (Err e) h l i = inl (record {
  parts = h.parts;
  fewer = omega (arith, h.many);
  records = h.records;
  memory = i;
  sends = lines-text {T = Unit {0}} a b q (Ok tt) h.parts h.sends;
})

-- the sink failed at the next record
pub so_far-stopped : {layout : RecordLayout} {names : List (List ℕ)} {rows : List (List (List ℕ))} {n : ℕ} {a b c : Sent} {q : Bool}
    (r : Bool) (text : List ℕ) (res : Result (Unit {0}) TableError) (e : TableError) → SentSoFar layout names rows n a b q → n < length rows
    → IsRecord layout names (n + 1) (get_or rows n []) text → LineStops b q e c (text ∷ []) → IsErrAnd res (λ d. d ≡ e)
    → PrintsSheet layout names rows a res c
so_far-stopped r text (Ok x) e h l i k w = absurd w
so_far-stopped {layout} {names} {rows} {n} {a} {b} {c} {q} r text (Err d) e h l i k w =
    let stops : WritesLines {T = Unit {0}} a false (Err e) c r (h.parts ++ text ∷ []) =
    lines-finished {T = Unit {0}} c r (text ∷ []) (h.parts ++ text ∷ []) (Err e) h.sends k refl in
    inr (subst (λ x. EndsWithin layout names rows a x c) (sym w) (record {
      parts = h.parts ++ text ∷ [];
      some = omega (arith, length-append h.parts (text ∷ []));
      records = parts-more layout names rows h.parts n text h.many l h.records i;
      stops = lines-text {T = Unit {0}} a c r (Err e) (h.parts ++ text ∷ []) stops;
    }))
