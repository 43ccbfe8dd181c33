-- Titles: what is written of their lines, how wide these are, and what a call that prints one leaves.
use Rattle.tabled_table.proofs.Names.{AlignmentHorizontal, EachLineTakes, Err, IsErrAnd, IsUtf8, List, Ok, Result, Sends}
use Rattle.tabled_table.proofs.Names.{Sent, Sheet, Stops, TableError, [], ap, append-nil, append_assoc, arith, false, fill}
use Rattle.tabled_table.proofs.Names.{get_or, inl, inr, is_empty, lines_of, map, refl, sends-along, subst, suc, sym}
use Rattle.tabled_table.proofs.Names.{table_text, text_columns, total_width, true, unwrap_or, zero, ℕ, ⊎_elim, ◌++◌, ◌+◌, ◌-◌, ◌∙◌, ◌∷◌, ◌≡◌}
use Rattle.tabled_table.proofs.Names.{◌≤◌, ◌⊎◌}
use Rattle.std.proofs.lemmas.Bool.{cases_Bool, ltb-false}
use Rattle.std.proofs.lemmas.List.Elements.{All-from_get_or, All-map}
use Rattle.std.specs.Prelude.{MatchBool, nat_lt}
use Rattle.tabled_config.specs.declared.alignment.AlignmentHorizontal.TheVariants as horizontal
use Rattle.tabled_config.specs.declared.sides.Indent.{Indent}
use Rattle.tabled_config.specs.declared.sides.Sides.{Sides}
use Rattle.tabled_grid.specs.Printed.{IsPrintableSheet}
use Rattle.tabled_line.proofs.Sending.{sends-then, stopped, stops-more, stops-then}
use Rattle.tabled_line.specs.Block.{before_text}
use Rattle.tabled_line.specs.Fill.{padded_text}
use Rattle.tabled_line.specs.Sent.{Took, Writes, memory_sent}
use Rattle.tabled_text.proofs.Bridge.{line_columns-le}
use Rattle.tabled_text.proofs.Ends.{frame-as, frame-nil}
use Rattle.tabled_text.proofs.FittingLaws.{fits-cut}
use Rattle.tabled_text.proofs.LineLaws.{frame-append, frame-one, line-each, line-framed}
use Rattle.tabled_text.proofs.PlainLines.{plain_column-space}
use Rattle.tabled_text.proofs.WordLaws.{fits-words}
use Rattle.tabled_text.specs.Fitting.{FitsIn}
use Rattle.tabled_text.specs.FramedLines.{IsFrame, IsLine}
use Rattle.tabled_text.specs.Measure.{line_columns}
use Rattle.tabled_table.specs.declared.titled.Title.{Title}
use Rattle.tabled_table.specs.declared.titled.TitleFit.{TitleFit}
use Rattle.tabled_table.specs.declared.titled.TitleFit.TheVariants.{Cut, Wrap}
use Rattle.tabled_table.specs.Titled.{IsFitted, IsTitled, IsTitledText, PrintsTitled, SendsTitled, text_with_feeds, title_line, title_lines}

-- ---- how wide the lines are

frame-spaces : (n : ℕ) → IsFrame (fill 32 n) n
frame-spaces zero = frame-nil
frame-spaces (suc n) = frame-as (frame-append (frame-one 32 (record { additive = plain_column-space; steady = refl })) (frame-spaces n)) (omega arith)

before-within : (alignment : AlignmentHorizontal) (free : ℕ) → before_text alignment free ≤ free
before-within horizontal.Left free = omega arith
before-within horizontal.Center free = omega arith
before-within horizontal.Right free = omega arith

-- a line of at most n columns takes n
title_line-columns : (alignment : AlignmentHorizontal) (n : ℕ) (line : List ℕ) → IsLine line (line_columns line) → line_columns line ≤ n
    → line_columns (title_line alignment n line) ≡ n
title_line-columns alignment n line is_line fits =
    let free = n - line_columns line in
    let before = before_text alignment free in
    let within : before ≤ free = before-within alignment free in
    let framed = line-framed (frame-spaces before) is_line (frame-spaces (free - before)) in
    framed.columns ∙ (let sum : before + (line_columns line + (free - before)) ≡ n = omega arith in sum)

-- a fitted text is UTF-8, and takes at most n columns
fitted-fits : (fit : TitleFit) (n : ℕ) (text fitted : List ℕ) → IsUtf8 text → IsFitted fit n text fitted → FitsIn n fitted
fitted-fits fit n text fitted utf8 h = ⊎_elim (λ e. wide fit e h) (λ e. narrow fit e h) (cases_Bool (nat_lt n (text_columns text)))
  where
    wide : (fit : TitleFit) → nat_lt n (text_columns text) ≡ true → IsFitted fit n text fitted → FitsIn n fitted
    wide Wrap e h = fits-words n text fitted (rw e at h)
    wide Cut e h = fits-cut n text fitted (rw e at h)

    same : nat_lt n (text_columns text) ≡ false → fitted ≡ text → FitsIn n fitted
    same e h =
        let within : text_columns text ≤ n = ltb-false n (text_columns text) e in
        subst (FitsIn n) (sym h) (record { utf8 = utf8; columns = within })

    narrow : (fit : TitleFit) → nat_lt n (text_columns text) ≡ false → IsFitted fit n text fitted → FitsIn n fitted
    narrow Wrap e h = same e (rw e at h)
    narrow Cut e h = same e (rw e at h)

-- each line of a title takes n columns, whatever its text
pub title_lines_columns : (fit : TitleFit) (alignment : AlignmentHorizontal) (n : ℕ) (text fitted : List ℕ) → IsUtf8 text → IsFitted fit n text fitted
    → EachLineTakes n (title_lines alignment n fitted)
title_lines_columns fit alignment n text fitted utf8 h =
    let fits = fitted-fits fit n text fitted utf8 h in
    let P : List ℕ → Type 0 = λ line. line_columns line ≡ n in
    All-map P (title_line alignment n) (lines_of fitted)
    (All-from_get_or (λ line. P (title_line alignment n line)) (lines_of fitted) []
    (λ k l. title_line-columns alignment n (get_or (lines_of fitted) k []) (line-each fitted fits.utf8 k l)
    (let le = line_columns-le fitted k l in let all = fits.columns in omega arith)))

-- ---- what is written

-- a text between paddings of no column
pub bare-line : (alignment : AlignmentHorizontal) (n : ℕ) (line : List ℕ) (padding : Sides Indent) (none : Indent) (columns free before behind : ℕ)
    → none ≡ record { size = 0; fill = 32 } → padding ≡ record { left = none; right = none; top = none; bottom = none }
    → columns ≡ line_columns line → free ≡ n - columns → before ≡ before_text alignment free → behind ≡ free - before
    → title_line alignment n line ≡ padded_text padding before line behind
bare-line alignment n line padding none columns free before behind z p c f b h =
    rw (p, z, h, b, f, c)
    (ap (λ u. fill 32 (before_text alignment (n - line_columns line)) ++ (line ++ u))
    (sym (append-nil (fill 32 ((n - line_columns line) - before_text alignment (n - line_columns line))))))

-- a further line was written, of those that were left
module _ (f : List ℕ → List ℕ) {a b : Sent} {whole : List ℕ} {lines : List (List ℕ)} {line : List ℕ} {rest : List (List ℕ)}
    (next : lines ≡ line ∷ rest) (took : Took a b whole (text_with_feeds (map f lines))) where
  here : Took a b whole ((f line ++ 10 ∷ []) ++ text_with_feeds (map f rest))
  here = subst (λ l. Took a b whole (text_with_feeds (map f l))) next took

  pub line-written : {c : Sent} → Sends b c (f line ++ 10 ∷ []) → Took a c whole (text_with_feeds (map f rest))
  line-written {c} sends = record {
    front = here.front ++ (f line ++ 10 ∷ []);
    whole = append_assoc here.front (f line ++ 10 ∷ []) (text_with_feeds (map f rest)) ∙ here.whole;
    sends = sends-then a b c here.front (f line ++ 10 ∷ []) here.sends sends;
  }

  pub line-stopped-in : {T : Type 0} {c : Sent} (r : Result T TableError) (e : TableError) → Stops b e c (f line ++ 10 ∷ []) → IsErrAnd r (λ d. d ≡ e)
      → Writes a r c whole
  line-stopped-in r e stops h = stopped r e (text_with_feeds (map f rest)) here.sends stops h (sym here.whole)

-- all lines were written
pub lines-written : (f : List ℕ → List ℕ) {a b : Sent} {whole : List ℕ} {lines : List (List ℕ)} → lines ≡ []
    → Took a b whole (text_with_feeds (map f lines)) → Sends a b whole
lines-written f {a} {b} {whole} {lines} none took =
    let done : Took a b whole [] = subst (λ l. Took a b whole (text_with_feeds (map f l))) none took in
    sends-along a b done.front whole done.sends (sym (append-nil done.front) ∙ done.whole)

-- ---- what a call leaves that prints both

-- of an empty table nothing is printed
pub nothing-titled : (title : Title) (t : Sheet) (a : Sent) → is_empty t.cells ≡ true
    → MatchBool (is_empty t.cells) (a ≡ a) (IsPrintableSheet t × SendsTitled title t a a)
nothing-titled title t a e = rw e refl

-- a table with rows and columns that can be printed, and its title, fitted to n columns
pub record CanBeTitled (title : Title) (t : Sheet) (fitted : List ℕ) (n : ℕ) : Type 0 where
  pub filled : is_empty t.cells ≡ false
  pub printable : IsPrintableSheet t
  pub width : n ≡ total_width t
  pub is_fitted : IsFitted title.fit n title.text.now fitted

module _ (title : Title) (t : Sheet) (fitted : List ℕ) (n : ℕ) (can : CanBeTitled title t fitted n) where
  abbrev above : List ℕ
  above = text_with_feeds (title_lines title.alignment n fitted)

  is-titled : IsTitled title t (above ++ table_text t)
  is-titled = record {
    fitted = fitted;
    is_fitted = subst (λ k. IsFitted title.fit k title.text.now fitted) can.width can.is_fitted;
    whole = ap (λ k. text_with_feeds (title_lines title.alignment k fitted) ++ table_text t) can.width;
  }

  pub stops-titled : {T : Type 0} (a b : Sent) (r : Result T TableError) (e : TableError)
      → Stops a e b (text_with_feeds (title_lines title.alignment n fitted)) → IsErrAnd r (λ d. d ≡ e) → PrintsTitled title t a r b
  stops-titled a b (Ok x) e stops h = absurd h
  stops-titled a b (Err d) e stops h =
      let early = subst (λ k. Stops a k b above) (sym h) stops in
      (can.filled, inr (can.printable, record { text = above ++ table_text t; is_titled = is-titled; stops = stops-more a b d above (table_text t) early }))

  pub prints-titled : {T : Type 0} (a b c : Sent) (r : Result T TableError) (text : List ℕ) → text ≡ table_text t
      → Sends a b (text_with_feeds (title_lines title.alignment n fitted)) → Writes b r c text → PrintsTitled title t a r c
  prints-titled a b c (Ok x) text e sends writes =
      let last = subst (λ u. Sends b c u) e writes in
      rw can.filled
      (can.printable, record { text = above ++ table_text t; is_titled = is-titled; sends = sends-then a b c above (table_text t) sends last })
  prints-titled a b c (Err d) text e sends writes =
      let last = subst (λ u. Stops b d c u) e writes in
      (can.filled, inr (can.printable, record { text = above ++ table_text t; is_titled = is-titled; stops = stops-then a b c d above (table_text t) sends last }))

-- ---- in a string

-- what a string holds behind both
pub titled-text : (title : Title) (t : Sheet) (old new : List ℕ) → old ≡ []
    → MatchBool (is_empty t.cells) (memory_sent new ≡ memory_sent old) (IsPrintableSheet t × SendsTitled title t (memory_sent old) (memory_sent new))
    → IsTitledText title t new
titled-text title t old new none h = ⊎_elim empty filled (cases_Bool (is_empty t.cells))
  where
    empty : is_empty t.cells ≡ true → IsTitledText title t new
    empty e =
        let same : memory_sent new ≡ memory_sent old = rw e at h in
        let all : new ≡ [] = ap (λ (s : Sent). unwrap_or s.bytes []) same ∙ none in
        rw e all

    filled : is_empty t.cells ≡ false → IsTitledText title t new
    filled e =
        let given = rw e at h in
        let sent = given.1 in
        let all : new ≡ sent.text = sent.sends.added ∙ ap (λ l. l ++ sent.text) none in
        rw e (subst (IsTitled title t) (sym all) sent.is_titled)

pub titled-printable : (title : Title) (t : Sheet) (old new : Sent)
    → MatchBool (is_empty t.cells) (new ≡ old) (IsPrintableSheet t × SendsTitled title t old new)
    → (is_empty t.cells ≡ true) ⊎ IsPrintableSheet t
titled-printable title t old new h = ⊎_elim (λ e. inl e) (λ e. let given = rw e at h in inr given.0) (cases_Bool (is_empty t.cells))
