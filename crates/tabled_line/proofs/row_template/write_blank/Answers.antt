use Rattle.tabled_line.proofs.Names.{List, [], ap, append_assoc, arith, left_edge, length, refl, rule_line, ℕ, ◌++◌, ◌∙◌, ◌≡◌}
use Rattle.tabled_line.proofs.LeadingFeeds.{lines_after-length}
use Rattle.tabled_line.proofs.row_template.write_blank.Goals as goal

blank-parts : (e f l p r n a b c : List ℕ) → e ≡ [] → n ≡ e ++ f → a ≡ n ++ l → b ≡ a ++ p → c ≡ b ++ r → c ≡ f ++ (l ++ (p ++ r))
blank-parts e f l p r n a b c none first one two three =
    three ∙ ap (λ u. u ++ r) (two ∙ ap (λ u. u ++ p) (one ∙ ap (λ u. u ++ l) (first ∙ ap (λ u. u ++ f) none))) ∙ simp append_assoc

pub returns-clause-row : goal.returns-clause-row
unfolding rule_line
returns-clause-row g c =
    blank-parts _ _ _ _ _ _ _ _ _ c.requires.empty c.in_ok-write_text.ensures.written.added c.in_ok-write_left_edge.ensures.added
    c.in_ok-write_rule_pieces.ensures.added c.in_ok-write_right_edge.ensures.added
    ∙ rw c.frame-frame.ensures refl

pub returns-clause-start : goal.returns-clause-start
returns-clause-start g c =
    let sheet = g.C.TableColumns.sheet c.args.columns.now in
    let edge : length (left_edge c.frame-frame.result.now c.frame-frame.result.now.left.main) ≡ length (left_edge sheet.frame sheet.frame.left.main) =
    ap (λ f. length (left_edge f f.left.main)) c.frame-frame.ensures in
    omega (arith, edge, ap length c.as_str-start.ensures.value, lines_after-length _ _ _ _ c.requires.empty c.in_ok-write_text.ensures.written.added c.in_ok-write_left_edge.ensures.added)
