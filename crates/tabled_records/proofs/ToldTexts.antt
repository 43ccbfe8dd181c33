-- What is told of narrowed texts, to which more are added.
use Rattle.tabled_records.proofs.Names.{Bool, List, None, Option, Some, [], ap, arith, cases_lt, cell_at, false, get_or}
use Rattle.tabled_records.proofs.Names.{get_or_append_left, inl, inr, length, length-append, refl, subst, sym, true, ℕ}
use Rattle.tabled_records.proofs.Names.{◌++◌, ◌+◌, ◌<◌, ◌==◌, ◌∙◌, ◌∷◌, ◌≡◌, ◌≤◌}
use Rattle.std.proofs.lemmas.Bool.{MatchBool-at_false, MatchBool-at_true, eq-eqb, ne_eqb}
use Rattle.std.proofs.lemmas.List.{get_or_push}
use Rattle.std.specs.Bool.{MatchBool}
use Rattle.tabled_base.specs.Cells.{IsInside}
use Rattle.std.specs.Option.{unwrap_or}
use Rattle.tabled_records.proofs.Rows.{ranges-grown, ranges-next}
use Rattle.tabled_records.specs.NarrowedTexts.{AddsTold, AreKnown, IsKnownIn, IsTold, IsToldFor, Makes, Tells}
use Rattle.tabled_records.specs.declared.narrowed_texts.NarrowedTexts.{NarrowedTexts}

-- ---- what is told of one text

-- the first of two cases by what follows from it
told-weaker : {A B : Type 0} (C : Type 0) (b : Bool) → (A → B) → MatchBool b A C → MatchBool b B C
told-weaker C true f h = f h
told-weaker C false f h = h

-- it stays right when further texts are made
told-grown : (makes : Makes) (tells : Tells) (width : Option ℕ) (text : List ℕ) (told : ℕ × ℕ) (made more : List (List ℕ)) → IsToldFor makes tells width text told made
    → IsToldFor makes tells width text told (made ++ more)
told-grown makes tells None text told made more h = tt
told-grown makes tells (Some n) text told made more h =
    λ some. told-weaker (tells n text told) (told.1 == 0)
    (λ t. (omega (arith, t.0, length-append made more), get_or_append_left made more [] told.0 t.0 ∙ t.1)) (h some)

-- nothing is asked where the column has no width, or the width 0
pub told-none : (makes : Makes) (tells : Tells) (width : Option ℕ) (text : List ℕ) (told : ℕ × ℕ) (made : List (List ℕ)) → unwrap_or width 0 ≡ 0
    → IsToldFor makes tells width text told made
told-none makes tells None text told made h = tt
told-none makes tells (Some n) text told made h = λ some. absurd (omega (arith, some, h))

-- what is right for the width of a column is right for the column
pub told-for : (makes : Makes) (tells : Tells) (width : Option ℕ) (text : List ℕ) (told : ℕ × ℕ) (made : List (List ℕ)) → IsTold makes tells (unwrap_or width 0) text told made
    → IsToldFor makes tells width text told made
told-for makes tells None text told made h = tt
told-for makes tells (Some n) text told made h = λ _. h

-- two numbers tell a text that needn't be made, if the second one is at least 1
pub told-in_place : (makes : Makes) (tells : Tells) (n : ℕ) (text : List ℕ) (told : ℕ × ℕ) (made : List (List ℕ)) → 0 < told.1 → tells n text told
    → IsTold makes tells n text told made
told-in_place makes tells n text told made some h =
    subst (λ b. MatchBool b ((told.0 < length made) × (get_or made told.0 [] ≡ makes n text)) (tells n text told))
    (sym (ne_eqb told.1 0 (λ e. omega (arith, e, some)))) h

-- a text that had to be made is the last one
pub told-made : (makes : Makes) (tells : Tells) (n : ℕ) (text : List ℕ) (index : ℕ) (made : List (List ℕ)) → index ≡ length made
    → IsTold makes tells n text (index, 0) (made ++ makes n text ∷ [])
told-made makes tells n text index made e =
    let new = makes n text in
    (omega (arith, e, length-append made (new ∷ [])), get_or_push made new [] index (sym e))

-- ---- what is told of the texts of rows

abbrev made_of : List (ℕ × ℕ) → List (List ℕ) → List (ℕ × ℕ) → NarrowedTexts
made_of told_of made ranges = record { told = told_of; made = made; ranges = ranges }

-- texts are the same if what is known of them is
texts-same : (told_of : List (ℕ × ℕ)) (made : List (List ℕ)) (ranges : List (ℕ × ℕ)) (new : NarrowedTexts) → new.told ≡ told_of → new.made ≡ made
    → new.ranges ≡ ranges → made_of told_of made ranges ≡ new
texts-same told_of made ranges new e f g = λ i. made_of (sym e i) (sym f i) (sym g i)

-- it stays right when further texts are added
known-grown : (makes : Makes) (tells : Tells) (widths : List (Option ℕ)) (rows : List (List (List ℕ))) (old new : NarrowedTexts) (tolds : List (ℕ × ℕ))
    (more : List (List ℕ)) → AreKnown makes tells widths rows old → new.told ≡ old.told ++ tolds → new.made ≡ old.made ++ more
    → new.ranges ≡ old.ranges → AreKnown makes tells widths rows new
known-grown makes tells widths rows old new tolds more h added made same =
    let inside = h.inside in
    let cells = h.cells in
    subst (AreKnown makes tells widths rows) (texts-same (old.told ++ tolds) (old.made ++ more) old.ranges new added made same) record {
      inside = ranges-grown (length old.told) (length (old.told ++ tolds)) old.ranges inside (omega (arith, length-append old.told tolds));
      cells = λ row column range l i.
          let k = cells row column range l i in
          let own = inside row range l in
          let place = (get_or old.ranges row range).0 + column in (
            λ c told. subst (λ t. IsToldFor makes tells (get_or widths column None) (cell_at rows row column) t (old.made ++ more))
                (sym (get_or_append_left old.told tolds told place (omega (arith, own, c))))
                (told-grown makes tells (get_or widths column None) (cell_at rows row column) (get_or old.told place told) old.made more (k.0 c told)),
            k.1,
          );
    }

-- of no rows nothing has to be known
pub known-none : (makes : Makes) (tells : Tells) (widths : List (Option ℕ)) (rows : List (List (List ℕ))) (texts : NarrowedTexts) → texts.ranges ≡ []
    → AreKnown makes tells widths rows texts
known-none makes tells widths rows texts e = record {
  inside = λ row range l. absurd (omega (arith, l, ap length e));
  cells = λ row column range l i. absurd (omega (arith, l, ap length e));
}

-- the rows before are known, and the first cells of a row behind them
pub record AreAdded (makes : Makes) (tells : Tells) (widths : List (Option ℕ)) (rows : List (List (List ℕ))) (row start count : ℕ) (ranges : List (ℕ × ℕ))
    (texts : NarrowedTexts) : Type 0 where
  pub known : AreKnown makes tells widths rows texts
  pub same : texts.ranges ≡ ranges
  pub many : length texts.told ≡ start + count
  pub told : (k : ℕ) (d : ℕ × ℕ) → k < count
      → IsToldFor makes tells (get_or widths k None) (cell_at rows row k) (get_or texts.told (start + k) d) texts.made

-- at its beginning no cell of the row is told
pub added-none : (makes : Makes) (tells : Tells) (widths : List (Option ℕ)) (rows : List (List (List ℕ))) (row start : ℕ) (texts : NarrowedTexts)
    → AreKnown makes tells widths rows texts → start ≡ length texts.told → AreAdded makes tells widths rows row start 0 texts.ranges texts
added-none makes tells widths rows row start texts h e =
    record { known = h; same = refl; many = omega (arith, e); told = λ k d l. absurd (omega (arith, l)) }

-- a further cell is told
pub added-next : (makes : Makes) (tells : Tells) (widths : List (Option ℕ)) (rows : List (List (List ℕ))) (row start count : ℕ) (ranges : List (ℕ × ℕ))
    (old new : NarrowedTexts) (width : Option ℕ) (text : List ℕ) → AreAdded makes tells widths rows row start count ranges old
    → AddsTold makes tells width text old new → new.ranges ≡ old.ranges → width ≡ get_or widths count None → text ≡ cell_at rows row count
    → AreAdded makes tells widths rows row start (count + 1) ranges new
added-next makes tells widths rows row start count ranges old new width text h adds same wide own =
    let told = adds.told in
    let many = h.many in
    let added = adds.added in
    record {
      known = known-grown makes tells widths rows old new (told ∷ []) adds.more h.known added adds.made same;
      same = same ∙ h.same;
      many = omega (arith, many, ap length added, length-append old.told (told ∷ []));
      told = λ k d l. elim (cases_lt k count) [
        | inl lt ↦
            rw (added, adds.made)
            (subst (λ t. IsToldFor makes tells (get_or widths k None) (cell_at rows row k) t (old.made ++ adds.more))
            (sym (get_or_append_left old.told (told ∷ []) d (start + k) (omega (arith, lt, many))))
            (told-grown makes tells (get_or widths k None) (cell_at rows row k) (get_or old.told (start + k) d) old.made adds.more (h.told k d lt)))
        | inr ge ↦
            let last : k ≡ count = omega (arith, l, ge) in
            subst (λ i. IsToldFor makes tells (get_or widths i None) (cell_at rows row i) (get_or new.told (start + i) d) new.made) (sym last)
            (subst (λ t. IsToldFor makes tells (get_or widths count None) (cell_at rows row count) t new.made)
            (sym (ap (λ m. get_or m (start + count) d) added ∙ get_or_push old.told told d (start + count) many))
            (subst (λ w. IsToldFor makes tells w (cell_at rows row count) told new.made) wide
            (subst (λ cell. IsToldFor makes tells width cell told new.made) own adds.is_told)))
      ];
    }

-- the row is ended: the texts behind those of the rows before are its texts
pub added-row : (makes : Makes) (tells : Tells) (widths : List (Option ℕ)) (rows : List (List (List ℕ))) (row start count : ℕ) (ranges : List (ℕ × ℕ))
    (old new : NarrowedTexts) → AreAdded makes tells widths rows row start count ranges old → row ≡ length ranges
    → ((column : ℕ) → count ≤ column → cell_at rows row column ≡ []) → new.told ≡ old.told → new.made ≡ old.made
    → new.ranges ≡ old.ranges ++ (start, count) ∷ [] → AreKnown makes tells widths rows new
added-row makes tells widths rows row start count ranges old new h next rest told_of made same =
    let known = h.known in
    let many = h.many in
    let inside = known.inside in
    let cells = known.cells in
    let last : row ≡ length old.ranges = next ∙ ap length (sym h.same) in
    subst (AreKnown makes tells widths rows) (texts-same old.told old.made (old.ranges ++ (start, count) ∷ []) new told_of made same) record {
      inside = ranges-next (length old.told) (length old.told) old.ranges (start, count) inside (omega arith) (omega (arith, many));
      cells = λ r column range l i. elim (cases_lt r (length old.ranges)) [
        | inl lt ↦
            subst (λ own. IsKnownIn makes tells widths rows old own r column) (sym (get_or_append_left old.ranges ((start, count) ∷ []) range r lt))
            (cells r column range lt i)
        | inr ge ↦
            let at : r ≡ row = omega (arith, l, ge, last, length-append old.ranges ((start, count) ∷ [])) in
            subst (λ own. IsKnownIn makes tells widths rows old own r column)
            (sym (get_or_push old.ranges (start, count) range r (sym (at ∙ last))))
            (subst (λ r. IsKnownIn makes tells widths rows old (start, count) r column) (sym at) ((λ c told. h.told column told c), rest column))
      ];
    }

-- ---- what is told of a cell

-- it is right
pub told-right : {makes : Makes} {tells : Tells} {widths : List (Option ℕ)} {rows : List (List (List ℕ))} {texts : NarrowedTexts} {row column n : ℕ}
    {text : List ℕ} (range told : ℕ × ℕ) → AreKnown makes tells widths rows texts → row < length texts.ranges → IsInside rows row column
    → column < (get_or texts.ranges row range).1 → told ≡ get_or texts.told ((get_or texts.ranges row range).0 + column) told
    → get_or widths column None ≡ Some n → text ≡ cell_at rows row column → 0 < n → IsTold makes tells n text told texts.made
told-right {makes} {tells} {widths} {rows} {texts} {row} {column} {n} {text} range told known row_in inside within is width same some =
    let own = (known.cells row column range row_in inside).0 within told in
    (subst (λ cell. IsToldFor makes tells (Some n) cell told texts.made) (sym same)
    (subst (λ width. IsToldFor makes tells width (cell_at rows row column) told texts.made) width
    (subst (λ t. IsToldFor makes tells (get_or widths column None) (cell_at rows row column) t texts.made) (sym is) own))) some

-- its text was made
pub right-made : (makes : Makes) (tells : Tells) (n : ℕ) (text : List ℕ) (told : ℕ × ℕ) (made : List (List ℕ)) → IsTold makes tells n text told made
    → told.1 ≡ 0 → (told.0 < length made) × (get_or made told.0 [] ≡ makes n text)
right-made makes tells n text told made h e = MatchBool-at_true _ _ (eq-eqb told.1 0 e) h

-- or two numbers tell it
pub right-in_place : (makes : Makes) (tells : Tells) (n : ℕ) (text : List ℕ) (told : ℕ × ℕ) (made : List (List ℕ)) → IsTold makes tells n text told made
    → (told.1 ≡ 0 → ⊥) → tells n text told
right-in_place makes tells n text told made h e = MatchBool-at_false _ _ (ne_eqb told.1 0 e) h
