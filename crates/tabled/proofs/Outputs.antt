-- The output of a text, and beginnings of it.
use Rattle.tabled.proofs.Names.{Advances, Appends, AreChanged, AreTexts, Begins, Block, Bool, BreaksOff, Buffered, Cells, Cut, Err}
use Rattle.tabled.proofs.Names.{FitsInto, Halts, IfSome, IsBegunOn, IsBestPlanned, IsCause, IsCut, IsErrAnd, IsNarrowedTo, IsOutput}
use Rattle.tabled.proofs.Names.{IsPlanned, IsRectangular, IsRendered, IsUtf8, List, MatchBool-at_false, MatchBool-at_true, MatchResult}
use Rattle.tabled.proofs.Names.{Memory, Ok, Option, OrderShrinks, Plan, PutsOutput, Range, Result, Sent, Sheet, Shortened, SpellsPlan}
use Rattle.tabled.proofs.Names.{Streamed, TableError, Wrapped, Writer, Writes, [], ap, append_assoc, Table, arith, block_sent, cases_Bool}
use Rattle.tabled.proofs.Names.{tab_separated, changed_empty, cond, content_width, false, for_content_size}
use Rattle.tabled.proofs.Names.{if_wider, inl, inner_width, inr, is_empty, length}
use Rattle.tabled.proofs.Names.{lengthened, lines_of, map, most_cells, nat_le, nat_tests, new_config, new_sheet, picture, refl, row_lines}
use Rattle.tabled.proofs.Names.{sent_since, picture_lines, subst, sym, table_text, text_rows, total_width, true, truncating, with_feed}
use Rattle.tabled.proofs.Names.{without_last_feed, wrapping, ℕ, ⊎_elim, ◌++◌, ◌<◌, ◌==◌, ◌∙◌, ◌∷◌, ◌≡◌, ◌≤◌, ◌⊎◌}
use Rattle.std.proofs.Common.{IfErr, length-append}
use Rattle.tabled.specs.Rendered.{SendsTable}
use Rattle.tabled.proofs.BytesSince.{begun_none, left, left_advances}
use Rattle.tabled.specs.Runs.{HasFailed, HasRead}
use Rattle.tabled.specs.declared.program.Fault.{Fault}
use Rattle.std.specs.List.{join_with_byte}
use Rattle.std.proofs.lemmas.List.{length-map}
use Rattle.std.proofs.lemmas.List.Splits.{length-slice_split}
use Rattle.tabled_base.proofs.Lengthening.{length-lengthened}
use Rattle.tabled_records.proofs.Splitting.{rows-rectangular}
use Rattle.tabled_records.proofs.TextCells.{text_cells}
use Rattle.tabled_table.proofs.NewTables.{sheet_height}
use Rattle.tabled_base.specs.declared.error.TableError.TheVariants as refusal

-- ---- tables of texts: whether they are empty, and what is printed of them

pub text_rectangular : (text : List ℕ) → IsRectangular (text_rows text)
unfolding text_rows
text_rectangular text = rows-rectangular (row_lines text)

-- the cells of a text are texts
pub texts_of_text : (text : List ℕ) → IsUtf8 text → AreTexts (text_rows text)
texts_of_text text u = text_cells text u

-- ---- empty or not

filled_rows : (n : ℕ) (lines : List (List ℕ)) → 0 < length lines → is_empty (map (λ line. lengthened n (tab_separated line)) lines) ≡ false
filled_rows n [] h = absurd (omega arith)
filled_rows n (line ∷ lines) h =
    let cells : length (tab_separated line) ≡ _ = length-slice_split (λ b. b == 9) line in
    let long = length-lengthened n (tab_separated line) in
    grind (arith, nat_tests)

some_lines : (text : List ℕ) → false ≡ (length text == 0) → 0 < length (row_lines text)
some_lines text h =
    let whole = without_last_feed text in
    let count : length (lines_of whole) ≡ _ = length-slice_split (λ b. b == 10) whole in
    let e : row_lines text ≡ lines_of whole = ap (λ t. cond t [] (lines_of whole)) (sym h) in
    omega (arith, ap length e, count)

pub text_filled : (text : List ℕ) → false ≡ (length text == 0) → is_empty (text_rows text) ≡ false
unfolding text_rows
text_filled text h = filled_rows (most_cells (row_lines text)) (row_lines text) (some_lines text h)

some_rows : (text : List ℕ) → false ≡ (length text == 0) → 0 < length (text_rows text)
unfolding text_rows
some_rows text h =
    let e = length-map (row_lines text) (λ line. lengthened (most_cells (row_lines text)) (tab_separated line)) in
    omega (arith, e, some_lines text h)

pub text_empty : (text : List ℕ) → true ≡ (length text == 0) → is_empty (text_rows text) ≡ true
unfolding text_rows
text_empty text h =
    ap (λ lines. is_empty (map (λ line. lengthened (most_cells lines) (tab_separated line)) lines))
    (let e : row_lines text ≡ [] = ap (λ t. cond t [] (lines_of (without_last_feed text))) (sym h) in e)

-- ---- the table of a plan has the rows of the text, under the settings of a new table

pub record HasRows (cells : Cells) (t : Sheet) : Type 0 where
  pub empty : is_empty t.cells ≡ is_empty cells
  pub rows : length t.cells ≡ length cells
  pub config : t.config ≡ new_config

rows_changed : (change : ℕ → ℕ → List ℕ → List ℕ → Type 0) (cells : Cells) (t : Sheet) → AreChanged (λ row column. true) change cells t.cells → t.config ≡ new_config → HasRows cells t
rows_changed change cells t h e = record { empty = changed_empty (λ row column. true) change cells t.cells h; rows = h.rows; config = e }

rows_new : (cells : Cells) (t : Sheet) → t ≡ new_sheet cells → HasRows cells t
rows_new cells t e = subst (HasRows cells) (sym e) (record { empty = refl; rows = refl; config = refl })

rows_fitted : (shrinks : List ℕ → List ℕ → ℕ → List ℕ → Type 0) (change : ℕ → List ℕ → List ℕ → Type 0) (n : ℕ) (cells : Cells) (t : Sheet)
    → FitsInto shrinks change n (new_sheet cells) t → HasRows cells t
rows_fitted shrinks change n cells t h =
    let old = new_sheet cells in
    let small = IsNarrowedTo shrinks change n old t in
    ⊎_elim (λ y. rows_new cells t (MatchBool-at_true (t ≡ old) small y h))
    (λ no.
    let s : small = MatchBool-at_false (t ≡ old) small no h in
    rows_changed (for_content_size change (content_width old t.widths)) cells t s.cells s.config)
    (cases_Bool (nat_le (total_width old) n))

planned_rows : (plan : Plan) (cells : Cells) (t : Sheet) → IsPlanned plan cells t → HasRows cells t
planned_rows Buffered cells t h = rows_new cells t h
planned_rows Streamed cells t h = rows_changed (λ row column. IsCut (inner_width (new_sheet cells) row column)) cells t h.cells h.config
planned_rows (Wrapped n words order) cells t h = rows_fitted (OrderShrinks order) (wrapping words) n cells t h
planned_rows (Shortened n order) cells t h = rows_fitted (OrderShrinks order) (if_wider (truncating [] Cut false)) n cells t h

-- ---- the line feed behind the table

nothing_printed : (t : Sheet) → is_empty t.cells ≡ true → table_text t ≡ []
unfolding picture
nothing_printed t h = rw h refl

longer : (lines : List (List ℕ)) → 2 ≤ length lines → 0 < length (join_with_byte 10 lines)
longer [] h = absurd (omega arith)
longer (a ∷ []) h = absurd (omega arith)
longer (a ∷ b ∷ lines) h = omega (arith, length-append a (10 ∷ join_with_byte 10 (b ∷ lines)))

something_printed : (t : Sheet) → t.config ≡ new_config → is_empty t.cells ≡ false → 0 < length t.cells → 0 < length (table_text t)
something_printed t e filled h = longer (picture t) (omega (arith, sheet_height t e filled h, picture_lines t))

-- the empty text prints nothing behind its table, which is nothing too
pub feed_none : (plan : Plan) (text : List ℕ) (t : Sheet) → true ≡ (length text == 0) → IsPlanned plan (text_rows text) t → table_text t ≡ with_feed (table_text t)
unfolding with_feed
feed_none plan text t h p =
    let rows = planned_rows plan (text_rows text) t p in
    let none = nothing_printed t (rows.empty ∙ text_empty text h) in
    rw none refl

-- the table of another text is followed by a line feed
pub feed_some : (plan : Plan) (text : List ℕ) (t : Sheet) → false ≡ (length text == 0) → IsPlanned plan (text_rows text) t
    → with_feed (table_text t) ≡ table_text t ++ 10 ∷ []
unfolding with_feed
feed_some plan text t h p =
    let rows = planned_rows plan (text_rows text) t p in
    let many : 0 < length t.cells = let some = some_rows text h in let same = rows.rows in omega arith in
    let some : 0 < length (table_text t) = something_printed t rows.config (rows.empty ∙ text_filled text h) many in
    let test : (length (table_text t) == 0) ≡ false = grind (arith, nat_tests) in
    ap (λ b. table_text t ++ cond b [] (10 ∷ [])) test

-- the output goes on behind the table
pub feed_whole : (text : List ℕ) → (more : List ℕ) × (text ++ more ≡ with_feed text)
unfolding with_feed
feed_whole text = (_, refl)

-- in the middle of an output, memory is refused or the writer fails
uncaused : {A : Type 0} (plan : Plan) (e : TableError) → (e ≡ Memory → ⊥) → (⊥ ⊎ Halts plan e) → A
uncaused plan e other c = absurd (⊎_elim (λ n. n) (λ k. other k.1) c)

pub begun_on : (plan : Plan) (text output : List ℕ) (e : TableError) (grows : Bool) (a b : ℕ) → (IsCause e grows a b ⊎ Halts plan e) → IsOutput plan text output
    → IsBegunOn plan text output e
begun_on plan text output Memory grows a b c h = inr h
begun_on plan text output Writer grows a b c h = h
begun_on plan text output e grows a b c h = uncaused plan e (λ m. let bad : ⊥ = cc in bad) c

-- an output of which the last piece was written, or refused
pub either_output : {T : Type 0} (plan : Plan) (text output piece : List ℕ) (old : Sent) (r : Result T TableError) (new : Sent) → Writes old r new piece
    → IsOutput plan text output → MatchResult r (λ _. IsOutput plan text output) (IsBegunOn plan text output)
either_output plan text output piece old (Ok x) new w h = h
either_output plan text output piece old (Err e) new w h = begun_on plan text output e old.grows old.failures new.failures (inl w.cause) h

pub output_of : (plan : Plan) (text : List ℕ) (old new : Sent) → (s : SendsTable (IsPlanned plan (text_rows text)) (IsBestPlanned plan (text_rows text)) old new)
    → IsOutput plan text (with_feed (table_text s.table))
output_of plan text old new s = record { table = s.table; planned = s.is_planned; best = s.is_best; whole = refl }

-- nothing was put
output_none : {T : Type 0} (plan : Plan) (text : List ℕ) (bytes : Option (List ℕ)) (e : TableError) (r : Result T TableError)
    → IsErrAnd r (λ d. d ≡ e) → IsBegunOn plan text [] e → PutsOutput plan text bytes r bytes
output_none plan text bytes e (Ok x) i o = absurd i
output_none plan text bytes e (Err d) i o =
    record { output = []; is_output = subst (IsBegunOn plan text []) (sym i) o; puts = begun_none bytes [] }

-- a beginning of the table is one of the output
output_begun : {T : Type 0} (plan : Plan) (text : List ℕ) (old new : Sent) (e : TableError) (r : Result T TableError) → IsErrAnd r (λ d. d ≡ e)
    → BreaksOff (IsPlanned plan (text_rows text)) (IsBestPlanned plan (text_rows text)) (Halts plan) old e new → PutsOutput plan text old.bytes r new.bytes
output_begun plan text old new e (Ok x) i b = absurd i
output_begun plan text old new e (Err d) i b =
    let (more, whole) = feed_whole (table_text b.table) in
    let all = with_feed (table_text b.table) in
    record {
      output = all;
      is_output = subst (IsBegunOn plan text all) (sym i)
          (begun_on plan text all e old.grows old.failures new.failures b.cause
          (record { table = b.table; planned = b.is_planned; best = b.is_best; whole = refl }));
      puts = record {
        front = b.front;
        rest = b.rest ++ more;
        whole = sym (append_assoc b.front b.rest more) ∙ ap (λ u. u ++ more) b.whole ∙ whole;
        added = b.added;
      };
    }

-- rendering was refused
pub output_refused : {T : Type 0} (R : Type 0) (plan : Plan) (text : List ℕ) (old new : Sent) (e : TableError) (r : Result T TableError) → IsErrAnd r (λ d. d ≡ e)
    → IsRendered {T = R} plan (text_rows text) old (Err e) new → PutsOutput plan text old.bytes r new.bytes
output_refused R plan text old new e r i h =
    let P : Sent → Type 0 = λ s. PutsOutput plan text old.bytes r s.bytes in
    let none : new ≡ old → IsBegunOn plan text [] e → P new = λ s o. subst P (sym s) (output_none plan text old.bytes e r i o) in
    let B : TableError → Type 0 = IsBegunOn plan text [] in
    ⊎_elim (λ m. none m.1 (subst B (sym m.0) (inl refl)))
    (λ k. ⊎_elim (λ q. none q.1 (subst B (sym q.0) (refl, q.2))) (λ b. output_begun plan text old new e r i b) k.1) h

-- what was printed to a block whose writer is known at the start
pub since_put : {T : Type 0} (plan : Plan) (told text : List ℕ) → told ≡ text → (name : ℕ) (held : List ℕ) (a b : Block) (r : Result T TableError)
    → a.name ≡ name → IfSome a.contents (λ xs. xs ≡ held) → PutsOutput plan told (sent_since name held a).bytes r (sent_since name held b).bytes
    → PutsOutput plan text (block_sent a).bytes r (block_sent b).bytes × IfSome a.contents (λ _. Advances a b)
since_put plan told text same name held a b r e k h =
    let P : List ℕ → Type 0 = λ u. PutsOutput plan u (block_sent a).bytes r (block_sent b).bytes in
    let all = left name held a b r h.output e k h.puts in
    (subst P same (record { output = h.output; is_output = h.is_output; puts = all.put }), left_advances a b r h.output all)

-- ---- runs that failed, and what they leave

front_none : (xs ys : List ℕ) → xs ++ ys ≡ [] → xs ≡ []
front_none [] ys h = refl
front_none (x ∷ xs) ys h = let bad : ⊥ = cc in absurd bad

-- a beginning of nothing
begun_nothing : (a b : Option (List ℕ)) (output : List ℕ) → output ≡ [] → Begins a b output → Appends a b []
begun_nothing a b output e h = subst (Appends a b) (front_none h.front h.rest (h.whole ∙ e)) h.added

-- by the refusal
pub failed_by : {O : Type 0} (contents : O → Option (List ℕ)) (words : List (List ℕ)) (old left : Option (List ℕ)) (out now : O) (plan : Plan)
    (text output : List ℕ) (e : TableError) → SpellsPlan words plan → HasRead old left text → IsBegunOn plan text output e
    → Begins (contents out) (contents now) output
    → HasFailed contents (record { arguments = words; input_before = old; input_after = left; out_before = out; out_after = now }) (Table e)
failed_by contents words old left out now plan text output refusal.Memory s input b h =
    ⊎_elim (λ n. inl (begun_nothing (contents out) (contents now) output n h))
    (λ o. inr (plan, s, record { text = text; input = input; output = output; is_output = o; begun = h })) b
failed_by contents words old left out now plan text output refusal.Range s input b h =
    (plan, s, record { text = text; input = input; overflows = b.1; kept = begun_nothing (contents out) (contents now) output b.0 h })
failed_by contents words old left out now plan text output refusal.Writer s input b h =
    (plan, s, record { text = text; input = input; output = output; is_output = b; begun = h })
failed_by contents words old left out now plan text output _ s input b h = absurd b

-- a refusal that is one of the program's faults
pub if_failed : {T : Type 0} (P : Fault → Type 0) (r : Result T Fault) (fault : Fault) → IsErrAnd r (λ d. d ≡ fault) → P fault → IfErr r P
if_failed P (Ok x) fault i h = absurd i
if_failed P (Err d) fault i h = subst P (sym i) h
