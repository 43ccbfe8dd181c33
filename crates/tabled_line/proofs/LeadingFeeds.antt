-- Lines that go out in one piece with the line feed before them.
use Rattle.tabled_line.proofs.Names.{Bool, Err, IsCharBoundary, IsCharBoundary-after_ascii, IsUtf8, List, Ok, Result, Sent, Stops, TableError}
use Rattle.tabled_line.proofs.Names.{Writes, WritesLines, [], ap, append-nil, arith, break, drop, get_or, length, lines_after, lit<, subst}
use Rattle.tabled_line.proofs.Names.{suc, sym, true, ℕ, ◌++◌, ◌<◌, ◌∙◌, ◌∷◌, ◌≡◌}
use Rattle.tabled_line.proofs.Sending.{sends-along}

-- a line that went out with what leads to it
pub lines_after-line : {T : Type 0} (a b : Sent) (p q : Bool) (l text : List ℕ) (r : Result T TableError) → text ≡ break p ++ l → q ≡ true → Writes a r b text → WritesLines a p r b q (l ∷ [])
lines_after-line a b p q l text (Ok x) e after h = record { sends = sends-along a b text (lines_after p (l ∷ [])) h (e ∙ ap (λ u. break p ++ u) (sym (append-nil l))); after = after }
lines_after-line a b p q l text (Err d) e after h =
    let P : List ℕ → Type 0 = λ u. Stops a d b u in record { stops = subst P (e ∙ ap (λ u. break p ++ u) (sym (append-nil l))) h }

-- the line behind a line feed is a text of its own
pub lines_after-boundary : (text : List ℕ) → IsUtf8 text → text ≡ 10 ∷ drop 1 text → IsCharBoundary text 1
lines_after-boundary text u e =
    let long : 0 < length text = (let s = ap length e in omega arith) in
    IsCharBoundary-after_ascii text 0 u long (subst (λ t. get_or t 0 0 < 128) (sym e) (lit< tt))

pub lines_after-parts : (text line : List ℕ) → text ≡ 10 ∷ line → text ≡ 10 ∷ drop 1 text
lines_after-parts text line e = e ∙ ap (λ u. 10 ∷ drop 1 u) (sym e)

-- what was put behind a line feed, with that
pub lines_after-length : (e l n a : List ℕ) → e ≡ [] → n ≡ e ++ (10 ∷ []) → a ≡ n ++ l → length a ≡ suc (length l)
lines_after-length e l n a none first one = ap length (one ∙ ap (λ u. u ++ l) (first ∙ ap (λ u. u ++ (10 ∷ [])) none))
