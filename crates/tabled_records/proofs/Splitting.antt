-- The rows of a text.
use Rattle.tabled_records.proofs.Names.{All, All-cons, All-map, All-nil, IsRectangular, List, [], arith, tab_separated, get_or, length}
use Rattle.tabled_records.proofs.Names.{length-lengthened, lengthened, map, most_cells, ℕ, ◌∷◌, ◌≡◌, ◌≤◌}
use Rattle.tabled_base.proofs.Lengthening.{rectangular-from_length}

-- no line has more cells than the longest
most-above : (lines : List (List ℕ)) → All (λ line. length (tab_separated line) ≤ most_cells lines) lines
most-above [] = All-nil (λ line. length (tab_separated line) ≤ 0)
most-above (line ∷ lines) =
    All-cons (λ l. length (tab_separated l) ≤ most_cells (line ∷ lines)) line lines (omega arith)
    (λ k d h. let own = most-above lines k d h in omega arith)

pub rows-rectangular : (lines : List (List ℕ)) → IsRectangular (map (λ line. lengthened (most_cells lines) (tab_separated line)) lines)
rows-rectangular lines =
    let n = most_cells lines in
    rectangular-from_length n (map (λ line. lengthened n (tab_separated line)) lines)
    (All-map (λ row. length row ≡ n) (λ line. lengthened n (tab_separated line)) lines
    (λ k d h. let own = most-above lines k d h in omega (arith, length-lengthened n (tab_separated (get_or lines k d)))))
