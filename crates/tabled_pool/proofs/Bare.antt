-- Without colours nothing stands around a character.
use Rattle.tabled_pool.proofs.Names.{AreNoMarks, Around, Before, Behind, Bool, DrawingPlan, List, Mark, None, Option, Outside, Part}
use Rattle.tabled_pool.proofs.Names.{Rectangle, RunSide, Some, [], across, ap, around_at, around_part, around_text, beside, cond, has_left}
use Rattle.tabled_pool.proofs.Names.{has_top, is_last_row, is_line_kind, nothing_around, refl, run_side, subst, sym, unwrap_or, ℕ, ◌+◌}
use Rattle.tabled_pool.proofs.Names.{◌==◌, ◌∙◌, ◌∷◌, ◌≡◌}
use Rattle.std.proofs.lemmas.Bool.{cond_both}
use Rattle.tabled_pool.specs.Colours.{alone, begun, ended, used_after, is_same, IsNoMark}
use Rattle.tabled_pool.specs.declared.color_marks.RunSide.TheVariants.{Inside}
use Rattle.tabled_pool.specs.Around.{is_last_column, main_around, right_around, used_main, written_corner}

-- ---- empty colours

abbrev Nothing : Around → Type 0
Nothing a = a ≡ nothing_around

begun-none : (used mark : Option Mark) → IsNoMark used → IsNoMark mark → begun used mark ≡ nothing_around
begun-none None None u m = refl
begun-none (Some v) None u m = refl
begun-none None (Some k) u m = ap (λ (j : Mark). begun None (Some j)) m
begun-none (Some v) (Some k) u m =
    cond_both (is_same v k) nothing_around _ Nothing (λ _. refl)
    (λ _. ap (λ (j : Mark). record { close = j.suffix; start = k.prefix; behind = [] }) u
    ∙ ap (λ (j : Mark). record { close = []; start = j.prefix; behind = [] }) m)

ended-none : (mark : Option Mark) → IsNoMark mark → ended mark ≡ []
ended-none None h = refl
ended-none (Some k) h = ap (λ (j : Mark). j.suffix) h

alone-none : (mark : Option Mark) → IsNoMark mark → alone mark ≡ nothing_around
alone-none None h = refl
alone-none (Some k) h = subst (λ (j : Mark). alone (Some j) ≡ nothing_around) (sym h) refl

used-none : (used mark : Option Mark) → IsNoMark used → IsNoMark mark → IsNoMark (used_after used mark)
used-none None mark u m = m
used-none (Some v) mark u m = u

corner-none : (t : DrawingPlan) (mark : Option Mark) → IsNoMark mark → IsNoMark (written_corner t mark)
corner-none t mark h = cond_both (has_left t.borders) mark None IsNoMark (λ _. h) (λ _. refl)

main-none : (t : DrawingPlan) (corner main : Option Mark) → IsNoMark corner → IsNoMark main → IsNoMark (used_main t corner main)
main-none t corner main c m = used-none (written_corner t corner) main (corner-none t corner c) m

-- ---- around a text

behind-nothing : (a : Around) (l : List ℕ) → a ≡ nothing_around → l ≡ [] → record a { behind = l } ≡ nothing_around
behind-nothing a l e h =
    ap (λ (b : Around). record b { behind = l }) e ∙ ap (λ (m : List ℕ). record nothing_around { behind = m }) h

main-bare : (t : DrawingPlan) (corner main : Option Mark) (r : Rectangle) (x : ℕ) → IsNoMark corner → IsNoMark main
    → main_around t corner main r x ≡ nothing_around
main-bare t corner main r x c m =
    let P : List ℕ → Type 0 = λ l. l ≡ [] in
    let end = ended (used_main t corner main) in
    behind-nothing _ _
    (cond_both (x == r.x) _ nothing_around Nothing (λ _. begun-none (written_corner t corner) main (corner-none t corner c) m) (λ _. refl))
    (cond_both (is_last_column t r) [] _ P (λ _. refl)
    (λ _. cond_both (r.x + r.width == x + 1) end [] P (λ _. ended-none (used_main t corner main) (main-none t corner main c m)) (λ _. refl)))

right-bare : (t : DrawingPlan) (corner main right : Option Mark) → IsNoMark corner → IsNoMark main → IsNoMark right
    → right_around t corner main right ≡ nothing_around
right-bare t corner main right c m r =
    let used = main-none t corner main c m in
    behind-nothing _ _ (begun-none (used_main t corner main) right used r)
    (ended-none (used_after (used_main t corner main) right) (used-none (used_main t corner main) right used r))

abbrev IsZeroWidth : Option Around → Type 0
IsZeroWidth a = unwrap_or a nothing_around ≡ nothing_around

if-bare : (b : Bool) (a : Option Around) → IsZeroWidth a → IsZeroWidth (cond b a None)
if-bare b a h = cond_both b a None IsZeroWidth (λ _. h) (λ _. refl)

across-bare : (t : DrawingPlan) (corner main right : Option Mark) (r : Rectangle) (s : RunSide) (x : ℕ) → IsNoMark corner → IsNoMark main → IsNoMark right
    → IsZeroWidth (across t corner main right r s x)
across-bare t corner main right r Before x c m e = if-bare (has_left t.borders) (Some (begun None corner)) (begun-none None corner refl c)
across-bare t corner main right r Inside x c m e = main-bare t corner main r x c m
across-bare t corner main right r Behind x c m e =
    if-bare (is_last_column t r) (Some (right_around t corner main right)) (right-bare t corner main right c m e)
across-bare t corner main right r Outside x c m e = refl

beside-bare : (t : DrawingPlan) (r : Rectangle) (s : RunSide) → AreNoMarks t.line_marks → IsZeroWidth (beside t r s)
beside-bare t r Before h = if-bare (has_left t.borders) (Some (alone t.line_marks.left)) (alone-none t.line_marks.left h.left)
beside-bare t r Inside h = refl
beside-bare t r Behind h = if-bare (is_last_column t r) (Some (alone t.line_marks.right)) (alone-none t.line_marks.right h.right)
beside-bare t r Outside h = refl

text-bare : (t : DrawingPlan) (r : Rectangle) (s : RunSide) (x : ℕ) → AreNoMarks t.line_marks → IsZeroWidth (around_text t r s x)
text-bare t r Before x h =
    if-bare (has_top t.borders) _
    (across-bare t t.line_marks.top_left t.line_marks.top t.line_marks.top_right r (run_side r.x r.width x) x h.top_left h.top h.top_right)
text-bare t r Inside x h = beside-bare t r (run_side r.x r.width x) h
text-bare t r Behind x h =
    if-bare (is_last_row t r) _
    (across-bare t t.line_marks.bottom_left t.line_marks.bottom t.line_marks.bottom_right r (run_side r.x r.width x) x h.bottom_left h.bottom
    h.bottom_right)
text-bare t r Outside x h = refl

-- ---- at a place

first-bare : (a : Option Around) (rest : Around) → IsZeroWidth a → rest ≡ nothing_around → unwrap_or a rest ≡ nothing_around
first-bare None rest h e = e
first-bare (Some a) rest h e = h

at-bare : (t : DrawingPlan) (ps : List Part) (x y : ℕ) → AreNoMarks t.line_marks → around_at t ps x y ≡ nothing_around
at-bare t [] x y h = refl
at-bare t (p ∷ ps) x y h =
    first-bare (around_part t p x y) (around_at t ps x y)
    (cond_both (is_line_kind p.kind) None (around_text t p.place (run_side p.place.y p.place.height y) x) IsZeroWidth (λ _. refl)
    (λ _. text-bare t p.place (run_side p.place.y p.place.height y) x h)) (at-bare t ps x y h)

pub around-bare : (t : DrawingPlan) → AreNoMarks t.line_marks → (x y : ℕ) → around_at t t.parts x y ≡ nothing_around
around-bare t h x y = at-bare t t.parts x y h
