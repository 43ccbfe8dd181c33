-- The columns of plain pieces, and of horizontal lines that are made of them.
use Rattle.tabled_line.proofs.Names.{Bool, ColumnSheet, Frame, HorizontalLine, IsAdditiveColumn, List, ap, arith, false, fill, flat_map}
use Rattle.tabled_line.proofs.Names.{has_bar, left_edge, line_total, one_if, piece, range_with_len, right_edge, rule_line, rule_piece}
use Rattle.tabled_line.proofs.Names.{subst, suc, sum_below, sym, true, unwrap_or, zero, ℕ, ◌*◌, ◌+◌, ◌-◌, ◌<◌, ◌∙◌, ◌≡◌}
use Rattle.tabled_text.specs.Plain.{IsAdditiveLine}
use Rattle.tabled_text.proofs.PlainLines.{plain_line-nil, plain_line-append, plain_line-as, plain_line-one}
use Rattle.tabled_line.specs.Additive.{IsAdditiveRule}
use Rattle.tabled_line.proofs.Bars.{bar-sum}
use Rattle.tabled_line.proofs.Each.{each-more}

pub plain-fill : (c n : ℕ) → IsAdditiveColumn c → IsAdditiveLine (fill c n) n
plain-fill c zero h = plain_line-nil
plain-fill c (suc n) h = plain_line-as (plain_line-append (plain_line-one c h) (plain-fill c n h)) (omega arith)

pub plain-piece : (there : Bool) (c : ℕ) → IsAdditiveColumn c → IsAdditiveLine (piece there c) (one_if there)
plain-piece true c h = plain_line-one c h
plain-piece false c h = plain_line-nil

pub plain-each : (f : ℕ → List ℕ) (w : ℕ → ℕ) (n : ℕ) → ((i : ℕ) → i < n → IsAdditiveLine (f i) (w i))
    → IsAdditiveLine (flat_map f (range_with_len 0 n)) (sum_below w n)
plain-each f w zero h = plain_line-nil
plain-each f w (suc n) h =
    let P : List ℕ → Type 0 = λ bs. IsAdditiveLine bs (sum_below w n + w n) in
    let e : n + 1 ≡ suc n = omega arith in
    let more = sym (each-more f n) ∙ ap (λ k. flat_map f (range_with_len 0 k)) e in
    subst P more (plain_line-append (plain-each f w n (λ i l. h i (omega arith))) (h n (omega arith)))

plain-rules : (columns : ColumnSheet) (line : HorizontalLine) → IsAdditiveRule line
    → IsAdditiveLine (flat_map (rule_piece columns line) (range_with_len 0 columns.count))
    (sum_below columns.width columns.count + (columns.count - 1) * one_if columns.frame.inner.there)
unfolding rule_piece
plain-rules columns line q =
    plain_line-as
    (plain-each (rule_piece columns line) (λ i. one_if (has_bar columns.frame i) + columns.width i) columns.count
    (λ i k. plain_line-append (plain-piece (has_bar columns.frame i) (unwrap_or line.intersection 32) q.intersection)
    (plain-fill (unwrap_or line.main 32) (columns.width i) q.main)))
    (bar-sum columns.frame columns.width columns.count)

pub plain-left : (f : Frame) (c : ℕ) → IsAdditiveColumn f.margin.left.fill → IsAdditiveColumn c
    → IsAdditiveLine (left_edge f c) (f.margin.left.size + one_if f.left.there)
unfolding left_edge
plain-left f c p q = plain_line-append (plain-fill f.margin.left.fill f.margin.left.size p) (plain-piece f.left.there c q)

pub plain-right : (f : Frame) (c : ℕ) → IsAdditiveColumn f.margin.right.fill → IsAdditiveColumn c
    → IsAdditiveLine (right_edge f c) (one_if f.right.there + f.margin.right.size)
unfolding right_edge
plain-right f c p q = plain_line-append (plain-piece f.right.there c q) (plain-fill f.margin.right.fill f.margin.right.size p)

-- a horizontal line of plain characters takes the columns of any line
pub plain_rule_line : (columns : ColumnSheet) (line : HorizontalLine) → IsAdditiveColumn columns.frame.margin.left.fill
    → IsAdditiveColumn columns.frame.margin.right.fill → IsAdditiveRule line → IsAdditiveLine (rule_line columns line) (line_total columns)
unfolding rule_line line_total
plain_rule_line columns line left right q =
    let f = columns.frame in
    plain_line-append (plain-left f (unwrap_or line.left 32) left q.left)
    (plain_line-append (plain-rules columns line q) (plain-right f (unwrap_or line.right 32) right q.right))
