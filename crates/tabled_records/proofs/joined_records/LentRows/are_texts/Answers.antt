use Rattle.tabled_records.proofs.Names.{IsUtf8, cell_at, length, lines_of, subst, ◌≡◌}
use Rattle.std.proofs.Common.{List, ℕ}
use Rattle.tabled_records.proofs.Cutting.{rows-lines, rows-utf8}
use Rattle.tabled_records.proofs.joined_records.LentRows.are_texts.Goals as goal

pub returns-clause-utf8 : goal.returns-clause-utf8
returns-clause-utf8 c =
    let r = c.self.inside in
    subst (λ (cells : List (List (List ℕ))). (row column : ℕ) → IsUtf8 (cell_at cells row column)) c.self.view_is
    (rows-utf8 1 r.text.now r.cells r.rows c.is_text.ensures c.self.invariant.kept.joined)

pub returns-clause-lines : goal.returns-clause-lines
returns-clause-lines c =
    let r = c.self.inside in
    subst (λ (cells : List (List (List ℕ))). (row column : ℕ) → length (lines_of (cell_at cells row column)) ≡ 1) c.self.view_is
    (rows-lines 1 r.text.now r.cells r.rows c.self.invariant.kept)
