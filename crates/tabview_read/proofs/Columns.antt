-- Which columns names mean, and which are found.
use Rattle.std.proofs.Common.{◌≡◌, ◌↔◌, inl, inr, ◌∙◌, ◌+◌, ◌-◌, ◌<◌, ◌≤◌, ◌++◌, ◌∷◌, [], ℕ, Bool, true, List, Option, Some, None, IsTrue, MatchOption, ap, append_assoc, arith, eq-eqb, eqb-true, get_or, length, map, nat_eq, refl, subst, sym, take, zero, suc}
use Rattle.std.specs.Prelude.{◌==◌}
use Rattle.std.specs.Borrow.{Bor}
use Rattle.std.specs.List.{AllZip, Contains, range_with_len}
use Rattle.std.specs.Option.{option_eq}
use Rattle.std.proofs.lemmas.Bool.Decides.{leb_tells}
use Rattle.std.proofs.lemmas.List.{get_or-map, length-map, take_more}
use Rattle.csv.proofs.RecordFacts.{field-none}
use Rattle.csv.specs.Records.{field_at}
use Rattle.tabview_read.specs.Columns.{IsNamed, IsNameOf, IsNoNumber, IsNumberOf, IsUnnamed, Means, MeansNone, by_name, by_number, its_name, its_number, widened}
use Rattle.tabview_read.proofs.Lines.{AllZip-one_more}

-- ---- the column of a name

pub none-named : (name : List ℕ) → IsUnnamed [] name
unfolding field_at
none-named name = λ column e. cc e

-- no column has the name if none of those that are there has it
pub unnamed : (names : List (List ℕ)) (name : List ℕ) (n : ℕ)
    → length names ≤ n → ((k : ℕ) → k < n → ¬ (IsNamed names name k)) → IsUnnamed names name
unnamed names name n all none = λ column e.
    elim (leb_tells n column) as (λ _. ⊥) [
      | inl past ↦
          let gone : field_at names column ≡ None = field-none names column (omega arith) in
          cc (gone, e)
      | inr before ↦ none column before.1 e
    ]

same-number : (text : List ℕ) (n m : ℕ) → IsNumberOf text n → IsNumberOf text m → n ≡ m
same-number text n m a b = omega (arith, a.value, b.value)

pub none-meant : (names : List (List ℕ)) (count : ℕ) (name : List ℕ)
    → IsUnnamed names name → IsNoNumber name → MeansNone names count name
none-meant names count name none other = λ column meant. elim meant as (λ _. ⊥) [
  | by_name first ↦ none column first.named
  | by_number un number few ↦ other column number
]

-- whether a name that no column has is the number of one
pub is-its_number : (names : List (List ℕ)) (name : List ℕ) (column : ℕ) (number : Option ℕ)
    (is : Bool) → is ≡ option_eq nat_eq number (Some column) → IsUnnamed names name
    → MatchOption number (IsNoNumber name) (IsNumberOf name)
    → IsTrue is ↔ IsNameOf names name column
is-its_number names name column None is e none other = (
  λ h. absurd (cc),
  λ known. elim known as (λ _. is ≡ true) [
    | its_name named ↦ absurd (none column named)
    | its_number un number ↦ absurd (other column number)
  ],
)
is-its_number names name column (Some n) is e none number = (
  λ h.
      let same : n ≡ column = eqb-true n column (sym e ∙ h) in
      its_number none (subst (IsNumberOf name) same number),
  λ known. elim known as (λ _. is ≡ true) [
    | its_name named ↦ absurd (none column named)
    | its_number un other ↦ e ∙ eq-eqb n column (same-number name n column number other)
  ],
)

-- ---- the columns of the names that are wanted

abbrev texts : List (Bor (List ℕ)) → List (List ℕ)
texts wanted = map (λ s. s.now) wanted

-- the first n names mean these new columns
pub record FoundFirst (names : List (List ℕ)) (count : ℕ) (wanted : List (Bor (List ℕ))) (n : ℕ)
    (old new : List ℕ) : Type 0 where
  pub found : List ℕ
  pub meant : AllZip (Means names count) (take n (map (λ s. s.now) wanted)) found
  pub are : new ≡ old ++ found

AllZip-at : {A B : Type 0} (R : A → B → Type 0) (xs ys : List A) (zs : List B)
    → xs ≡ ys → AllZip R xs zs → AllZip R ys zs
AllZip-at {A = A} R xs ys zs e all = let P : List A → Type 0 = λ l. AllZip R l zs in subst P e all

text-at : (wanted : List (Bor (List ℕ))) (n : ℕ) (past : Bor (List ℕ)) (d : List ℕ)
    → n < length wanted → get_or (texts wanted) n d ≡ (get_or wanted n past).now
text-at wanted n past d few = get_or-map (λ s. s.now) wanted n past d few

count-texts : (wanted : List (Bor (List ℕ))) → length (texts wanted) ≡ length wanted
count-texts wanted = length-map wanted (λ (s : Bor (List ℕ)). s.now)

texts-next : (wanted : List (Bor (List ℕ))) (n : ℕ) (past : Bor (List ℕ)) → n < length wanted
    → take (n + 1) (texts wanted) ≡ take n (texts wanted) ++ (get_or wanted n past).now ∷ []
texts-next wanted n past few =
    let size = count-texts wanted in
    take_more (texts wanted) n past.now (omega arith)
    ∙ ap (λ t. take n (texts wanted) ++ t ∷ []) (text-at wanted n past past.now few)

pub next-found : (names : List (List ℕ)) (count : ℕ) (wanted : List (Bor (List ℕ))) (n : ℕ)
    (past : Bor (List ℕ)) (column : ℕ) (old new newer : List ℕ)
    → FoundFirst names count wanted n old new → n < length wanted
    → Means names count (get_or wanted n past).now column → newer ≡ new ++ column ∷ []
    → FoundFirst names count wanted (n + 1) old newer
next-found names count wanted n past column old new newer f few meant e =
    let text = (get_or wanted n past).now in
    let all = AllZip-one_more (Means names count) _ f.found text column f.meant meant in
    record {
      found = f.found ++ column ∷ [];
      meant = AllZip-at (Means names count) _ _ _ (sym (texts-next wanted n past few)) all;
      are = e ∙ ap (λ l. l ++ column ∷ []) f.are ∙ append_assoc old f.found (column ∷ []);
    }

-- the next name is wanted and means no column
pub no-column : (names : List (List ℕ)) (count : ℕ) (wanted : List (Bor (List ℕ))) (n : ℕ)
    (past : Bor (List ℕ)) (text : List ℕ) → n < length wanted
    → text ≡ (get_or wanted n past).now → MeansNone names count (get_or wanted n past).now
    → Contains (map (λ s. s.now) wanted) text × MeansNone names count text
no-column names count wanted n past text few e none =
    let size = count-texts wanted in (
      (n, omega arith, text-at wanted n past text few ∙ sym e),
      subst (MeansNone names count) (sym e) none,
    )

-- ---- all columns of a row

-- the columns up to one are shown. There may have been more than the row has
pub record ShownBefore (old : List ℕ) (count column : ℕ) (new : List ℕ) : Type 0 where
  pub are : new ≡ old ++ range_with_len (length old) (column - length old)
  pub over : count < length old → column ≡ length old

range-next : (a n : ℕ) → range_with_len a (suc n) ≡ range_with_len a n ++ (a + n) ∷ []
range-next a zero = let e : a ≡ a + 0 = omega arith in ap (λ k. k ∷ []) e
range-next a (suc n) =
    let e : a + 1 + n ≡ a + suc n = omega arith in
    ap (λ l. a ∷ l) (range-next (a + 1) n ∙ ap (λ k. range_with_len (a + 1) n ++ k ∷ []) e)

pub one-shown : (old new newer : List ℕ) (count column : ℕ) → ShownBefore old count column new
    → length old ≤ column → column < count → newer ≡ new ++ column ∷ []
    → ShownBefore old count (column + 1) newer
one-shown old new newer count column shown low few e =
    let a = length old in
    let n = column - length old in
    let more : suc n ≡ column + 1 - length old = omega arith in
    let here : column ≡ length old + n = omega arith in
    let next = ap (λ k. range_with_len a n ++ k ∷ []) here ∙ sym (range-next a n)
    ∙ ap (range_with_len a) more in
    record {
      are = e ∙ ap (λ l. l ++ column ∷ []) shown.are
          ∙ append_assoc old (range_with_len a n) (column ∷ []) ∙ ap (λ l. old ++ l) next;
      over = λ h. absurd (omega arith);
    }

widened-none : {A : Type 0} (wanted : List A) (count : ℕ) (old : List ℕ)
    → (length wanted == 0) ≡ true
    → widened wanted count old ≡ old ++ range_with_len (length old) (count - length old)
widened-none [] count old h = refl
widened-none (name ∷ wanted) count old h =
    let e : length (name ∷ wanted) ≡ 0 = eqb-true (length (name ∷ wanted)) 0 h in
    absurd (omega arith)

pub all-shown : {A : Type 0} (wanted : List A) (old new : List ℕ) (count column : ℕ)
    → (length wanted == 0) ≡ true → ShownBefore old count column new
    → length old ≤ column → count ≤ column → (length old ≤ count → column ≤ count)
    → new ≡ widened wanted count old
all-shown wanted old new count column none shown low all high =
    let over = shown.over in
    let e : column - length old ≡ count - length old = elim (leb_tells (length old) count) [
      | inl enough ↦ let ends = high enough.1 in omega arith
      | inr fewer ↦ let ends = over fewer.1 in omega arith
    ] in
    shown.are ∙ ap (λ n. old ++ range_with_len (length old) n) e
    ∙ sym (widened-none wanted count old none)
