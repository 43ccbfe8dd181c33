-- Cursors in texts of several lines.
use Rattle.tabled_pool.proofs.Names.{CellStyle, DrawingPlan, List, Rectangle, Some, ap, arith, drop, lines_of}
use Rattle.tabled_pool.proofs.Names.{slice_get, subst, sym, ℕ, ◌+◌, ◌-◌, ◌∙◌, ◌≡◌, ◌≤◌}
use Rattle.std.specs.Prelude.{IfSome, None, Option}
use Rattle.std.proofs.lemmas.List.Elements.{All-append}
use Rattle.tabled_pool.proofs.Names.{All, Bool, Part, [], false, if◌then◌else◌, suc, true, zero, ◌++◌, ◌∷◌}
use Rattle.tabled_base.specs.Content.{content_text}
use Rattle.tabled_line.specs.Block.{fill_above}
use Rattle.tabled_line.specs.Cursors.{IsAhead, IsAt}
use Rattle.tabled_line.specs.declared.cursor.Cursor.{Cursor}
use Rattle.tabled_pool.specs.TallTexts.{HasLine, IsIn, IsInLine, IsInPlace, IsTall}
use Rattle.tabled_pool.specs.declared.tall_texts.BoxText.{BoxText}
use Rattle.tabled_pool.specs.declared.tall_texts.TallText.{TallText}

-- lines may be counted from another one
recounted : (text : List ℕ) (a i b j : ℕ) (cursor : Cursor) → a - (i + 1) ≡ b - (j + 1) → i + 1 - a ≡ j + 1 - b → i - a ≡ j - b
    → (b ≤ j → a ≤ i) → IsAt text a i cursor → IsAt text b j cursor
recounted text a i b j cursor above next row past h = record {
  ahead = record {
    above_is = h.ahead.above_is ∙ above;
    rest_is = h.ahead.rest_is ∙ ap (λ k. drop k (lines_of text)) next;
    widest_is = h.ahead.widest_is;
  };
  line_is = λ l. h.line_is (past l) ∙ ap (slice_get (lines_of text)) row;
  columns_are = h.columns_are;
}

-- from a later line
pub from_line : (text : List ℕ) (above index from : ℕ) (cursor : Cursor) → from ≤ index → IsAt text (from + above) index cursor
    → IsAt text above (index - from) cursor
from_line text above index from cursor h =
    recounted text (from + above) index above (index - from) cursor (omega arith) (omega arith) (omega arith) (λ l. omega arith)

-- from an earlier line
pub from_top : (text : List ℕ) (above first y : ℕ) (cursor : Cursor) → above ≡ first - y → y ≤ first → IsAt text above 0 cursor
    → IsAt text first y cursor
from_top text above first y cursor e h =
    recounted text above 0 first y cursor (omega arith) (omega arith) (omega arith) (λ l. omega arith)

-- a text with its cursor in the next line
pub moved_text : (t : DrawingPlan) (y : ℕ) (tall : TallText) (cursor : Cursor)
    → ((text : List ℕ) (above index : ℕ) → IsAhead text above index tall.cursor → IsAt text above index cursor)
    → IsTall t y tall → IsTall t (y + 1) (record tall { cursor = cursor })
moved_text t y tall cursor f h = λ p e.
    let i = h p e in record { text = i.text; cursor = f p.text _ (y + 1) i.cursor.ahead }

all-one : (t : DrawingPlan) (y : ℕ) (text : TallText) → IsTall t y text → All (IsTall t y) (text ∷ [])
all-one t y text h zero d within = h
all-one t y text h (suc k) d within = absurd (omega (arith, within))

pub when_some : {A : Type 0} {P Q : A → Type 0} (o : Option A) → ((x : A) → P x → Q x) → IfSome o P → IfSome o Q
when_some None f h = tt
when_some (Some x) f h = f x h

line-here : (text : List ℕ) (above index row : ℕ) (cursor : Cursor) → above + row ≡ index → IsAt text above index cursor → HasLine text row cursor
line-here text above index row cursor e h = record {
  line_is = h.line_is (omega arith) ∙ ap (slice_get (lines_of text)) (omega arith);
  columns_are = h.columns_are;
}

-- a line of the text
pub line_in : (style : CellStyle) (r : Rectangle) (b : BoxText) (index row : ℕ)
    → fill_above style r.height (content_text b.content) + row ≡ index → IsInLine style r index b
    → IfSome b.cursor (λ cursor. HasLine (content_text b.content) row cursor.now)
line_in style r b index row e h = when_some b.cursor (λ cursor at. line-here (content_text b.content) _ index row cursor.now e at) h

-- a list after a push that may fail
pub all_pushed : (t : DrawingPlan) (y : ℕ) (old new : List TallText) (text : TallText) (ok : Bool)
    → new ≡ (if ok then old ++ (text ∷ []) else old) → All (IsTall t y) old → IsTall t y text → All (IsTall t y) new
all_pushed t y old new text true e all h =
    subst (All (IsTall t y)) (sym e) (All-append (IsTall t y) old (text ∷ []) all (all-one t y text h))
all_pushed t y old new text false e all h = subst (All (IsTall t y)) (sym e) all

-- the text of a listed part
pub tall_of : (t : DrawingPlan) (y : ℕ) (p : Part) (tall : TallText) → slice_get t.parts tall.number ≡ Some p → IsIn t.style p y tall
    → IsTall t y tall
tall_of t y p tall e i = λ q f. let same : p ≡ q = cc in subst (λ z. IsIn t.style z y tall) same i

-- its cursor in the rectangle of its part
pub in_place : (style : CellStyle) (p : Part) (y : ℕ) (tall : TallText) → p.place.y ≤ y → IsIn style p y tall
    → IsInPlace style p.place (content_text tall.content) (y - p.place.y) tall.cursor
in_place style p y tall h i =
    subst (λ text. IsInPlace style p.place text (y - p.place.y) tall.cursor) (sym i.text)
    (from_line p.text (fill_above style p.place.height p.text) y p.place.y tall.cursor h i.cursor)
