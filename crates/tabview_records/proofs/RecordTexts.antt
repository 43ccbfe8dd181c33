-- The text of a record: its head, and the lines of its fields.
use Rattle.std.proofs.Common.{Bool, add-zero, List, [], ap, append-nil, append_assoc, arith, codes, drop, drop-drop, false, get_or, get_or-drop, length, length-take, map, max, refl, subst, suc, sym, take, true, ℕ, ◌++◌, ◌+◌, ◌<◌, ◌∙◌, ◌∷◌, ◌≡◌, ◌≤◌}
use Rattle.std.proofs.lemmas.Grind.{flat_map-append}
use Rattle.std.proofs.lemmas.List.{take_all, take_more}
use Rattle.std.proofs.lemmas.List.Elements.{AllZip-push, length_all_zip}
use Rattle.std.proofs.lemmas.List.FromFn.{map-range_with_len_more}
use Rattle.std.specs.List.{AllZip, flat_map, range_with_len, zip}
use Rattle.tabled_line.proofs.Leading.{lines_after-append, lines_after-joined}
use Rattle.tabled_line.specs.Leading.{begun_after, lines_after}
use Rattle.tabled_text.specs.Measure.{lines_of}
use Rattle.tabview_records.specs.Narrowed.{IsNarrowedText}
use Rattle.tabview_records.specs.Records.{IsHead, IsRecord, field_lines, fields_lines, line_at, pair_line}
use Rattle.tabview_records.specs.declared.layout.RecordLayout.{RecordLayout}

pub range-more : {X : Type 0} (f : ℕ → X) (n : ℕ) (xs : List X) (x : X) → xs ≡ map f (range_with_len 0 n) → x ≡ f n
    → xs ++ x ∷ [] ≡ map f (range_with_len 0 (n + 1))
range-more f n xs x e h = ap (λ ys. ys ++ x ∷ []) e ∙ ap (λ y. map f (range_with_len 0 n) ++ y ∷ []) h ∙ sym (map-range_with_len_more f 0 n n (omega arith))

after-true : (xs : List (List ℕ)) → begun_after true xs ≡ true
after-true [] = refl
after-true (x ∷ xs) = refl

-- lines behind other lines, each with a line feed before it
lines_after-both : (xs ys : List (List ℕ)) → lines_after true (xs ++ ys) ≡ lines_after true xs ++ lines_after true ys
lines_after-both xs ys = lines_after-append true xs ys ∙ ap (λ b. lines_after true xs ++ lines_after b ys) (after-true xs)

-- ---- the lines of a field

-- a line of a name and of its value
abbrev pub pair_at : ℕ → List ℕ → List ℕ → ℕ → List ℕ
pair_at n name value i = pair_line n (line_at (lines_of name) i) (line_at (lines_of value) i)

-- some lines of a field are appended
pub record FieldSoFar (n : ℕ) (name value : List ℕ) (count : ℕ) (old out : List ℕ) (names values : List (List ℕ)) : Type 0 where
  pub out_is : out ≡ old ++ lines_after true (map (pair_at n name value) (range_with_len 0 count))
  pub names_left : names ≡ drop count (lines_of name)
  pub values_left : values ≡ drop count (lines_of value)

pub field-none : (n : ℕ) (name value old : List ℕ) (names values : List (List ℕ)) → names ≡ lines_of name → values ≡ lines_of value
    → FieldSoFar n name value 0 old old names values
field-none n name value old names values e f = record { out_is = sym (append-nil old); names_left = e; values_left = f }

first-left : (lines left : List (List ℕ)) (i : ℕ) (line : List ℕ) → left ≡ drop i lines → line ≡ get_or left 0 [] → line ≡ line_at lines i
first-left lines left i line e f = f ∙ ap (λ ls. get_or ls 0 []) e ∙ get_or-drop i lines 0 [] ∙ ap (λ k. get_or lines k []) (add-zero i)

further-left : (lines left rest : List (List ℕ)) (i : ℕ) → left ≡ drop i lines → rest ≡ drop 1 left → rest ≡ drop (i + 1) lines
further-left lines left rest i e f = f ∙ ap (drop 1) e ∙ drop-drop 1 i lines

pub field-more : (n : ℕ) (name value : List ℕ) (i : ℕ) (old out next : List ℕ) (names values names' values' : List (List ℕ)) (a b : List ℕ)
    → FieldSoFar n name value i old out names values → a ≡ get_or names 0 [] → b ≡ get_or values 0 []
    → names' ≡ drop 1 names → values' ≡ drop 1 values → next ≡ (out ++ codes "\n") ++ pair_line n a b
    → FieldSoFar n name value (i + 1) old next names' values'
field-more n name value i old out next names values names' values' a b h first second left right e =
    let so_far = map (pair_at n name value) (range_with_len 0 i) in
    let x : pair_line n a b ≡ pair_at n name value i =
    ap (λ k. pair_line n k b) (first-left (lines_of name) names i a h.names_left first)
    ∙ ap (λ k. pair_line n (line_at (lines_of name) i) k) (first-left (lines_of value) values i b h.values_left second) in
    let more = range-more (pair_at n name value) i so_far (pair_line n a b) refl x in
    let line : lines_after true (pair_line n a b ∷ []) ≡ codes "\n" ++ pair_line n a b = ap (λ u. 10 ∷ u) (append-nil (pair_line n a b)) in
    record {
      out_is =
          e ∙ append_assoc out (codes "\n") (pair_line n a b) ∙ ap (λ o. o ++ (codes "\n" ++ pair_line n a b)) h.out_is
          ∙ append_assoc old (lines_after true so_far) (codes "\n" ++ pair_line n a b)
          ∙ ap (λ u. old ++ (lines_after true so_far ++ u)) (sym line)
          ∙ ap (λ u. old ++ u) (sym (lines_after-both so_far (pair_line n a b ∷ [])))
          ∙ ap (λ ls. old ++ lines_after true ls) more;
      names_left = further-left (lines_of name) names names' i h.names_left left;
      values_left = further-left (lines_of value) values values' i h.values_left right;
    }

pub field-all : (n : ℕ) (name value : List ℕ) (count : ℕ) (old out : List ℕ) (names values : List (List ℕ))
    → FieldSoFar n name value count old out names values → count ≡ max (length (lines_of name)) (length (lines_of value))
    → out ≡ old ++ lines_after true (field_lines n name value)
field-all n name value count old out names values h e =
    h.out_is ∙ ap (λ k. old ++ lines_after true (map (pair_at n name value) (range_with_len 0 k))) e

-- ---- the fields of a record

zip-push : {A B : Type 0} (ks : List A) (vs : List B) (k : A) (v : B) → length ks ≡ length vs → zip (ks ++ k ∷ []) (vs ++ v ∷ []) ≡ zip ks vs ++ (k, v) ∷ []
zip-push [] [] k v e = refl
zip-push [] (y ∷ ys) k v e = absurd (omega (arith, e))
zip-push (x ∷ xs) [] k v e = absurd (omega (arith, e))
zip-push (x ∷ xs) (y ∷ ys) k v e = ap (λ u. (x, y) ∷ u) (zip-push xs ys k v (omega (arith, e)))

fields-push : (n : ℕ) (names values : List (List ℕ)) (name value : List ℕ) → length names ≡ length values
    → fields_lines n (names ++ name ∷ []) (values ++ value ∷ []) ≡ fields_lines n names values ++ field_lines n name value
fields-push n names values name value e =
    let f = λ (field : List ℕ × List ℕ). field_lines n field.0 field.1 in
    ap (flat_map f) (zip-push names values name value e)
    ∙ flat_map-append f (zip names values) ((name, value) ∷ [])
    ∙ ap (λ u. fields_lines n names values ++ u) (append-nil (field_lines n name value))

-- some fields of a record are appended to its head
pub record FieldsSoFar (layout : RecordLayout) (names : List (List ℕ)) (number : ℕ) (row : List (List ℕ)) (count : ℕ) (out : List ℕ) : Type 0 where
  pub head : List ℕ
  pub is_head : IsHead layout number head
  pub values : List (List ℕ)
  pub narrowed : AllZip (IsNarrowedText layout.cuts layout.values) (take count row) values
  pub out_is : out ≡ head ++ lines_after true (fields_lines layout.names (take count names) values)

pub fields-none : (layout : RecordLayout) (names : List (List ℕ)) (number : ℕ) (row : List (List ℕ)) (head out : List ℕ) → IsHead layout number head
    → out ≡ head → FieldsSoFar layout names number row 0 out
fields-none layout names number row head out h e = record { head = head; is_head = h; values = []; narrowed = tt; out_is = e ∙ sym (append-nil head) }

pub fields-more : (layout : RecordLayout) (names : List (List ℕ)) (number : ℕ) (row : List (List ℕ)) (i : ℕ) (out next shown : List ℕ)
    → FieldsSoFar layout names number row i out → i < length names → i < length row
    → IsNarrowedText layout.cuts layout.values (get_or row i []) shown
    → next ≡ out ++ lines_after true (field_lines layout.names (get_or names i []) shown)
    → FieldsSoFar layout names number row (i + 1) next
fields-more layout names number row i out next shown h k r s e =
    let n = layout.names in
    let R = IsNarrowedText layout.cuts layout.values in
    let name = get_or names i [] in
    let so_far = fields_lines n (take i names) h.values in
    let long : length (take i names) ≡ length h.values =
    omega (arith, length_all_zip R (take i row) h.values h.narrowed, length-take i row, length-take i names) in
    let pushed : fields_lines n (take (i + 1) names) (h.values ++ shown ∷ []) ≡ so_far ++ field_lines n name shown =
    ap (λ ks. fields_lines n ks (h.values ++ shown ∷ [])) (take_more names i [] k) ∙ fields-push n (take i names) h.values name shown long in
    record {
      head = h.head;
      is_head = h.is_head;
      values = h.values ++ shown ∷ [];
      narrowed = subst (λ xs. AllZip R xs (h.values ++ shown ∷ [])) (sym (take_more row i [] r)) (AllZip-push R (take i row) h.values (get_or row i []) shown h.narrowed s);
      out_is =
          e ∙ ap (λ o. o ++ lines_after true (field_lines n name shown)) h.out_is
          ∙ append_assoc h.head (lines_after true so_far) (lines_after true (field_lines n name shown))
          ∙ ap (λ u. h.head ++ u) (sym (lines_after-both so_far (field_lines n name shown)))
          ∙ ap (λ ls. h.head ++ lines_after true ls) (sym pushed);
    }

pub fields-all : (layout : RecordLayout) (names : List (List ℕ)) (number : ℕ) (row : List (List ℕ)) (count : ℕ) (out : List ℕ)
    → FieldsSoFar layout names number row count out → length names ≤ count → length row ≤ count → IsRecord layout names number row out
fields-all layout names number row count out h k r =
    let all : take count names ≡ names = take_all count names k in
    record {
      head = h.head;
      is_head = h.is_head;
      values = h.values;
      narrowed = subst (λ xs. AllZip (IsNarrowedText layout.cuts layout.values) xs h.values) (take_all count row r) h.narrowed;
      joined =
          h.out_is ∙ ap (λ ks. h.head ++ lines_after true (fields_lines layout.names ks h.values)) all
          ∙ lines_after-joined (h.head ∷ fields_lines layout.names names h.values);
    }
