use Rattle.tabled_line.proofs.Names.{length, string_bytes, ◌≡◌}
use Rattle.tabled_line.proofs.Appended.{IsOverlaid}
use Rattle.tabled_line.proofs.row_template.overlay_texts.Given as goal

abbrev pub invariant-texts : goal.invariant-texts
invariant-texts g l =
    record {
      overlaid : IsOverlaid (g.R.Row.sheet l.row) l.at.index (string_bytes l.blank.text) l.line l.column;
      same : length l.line ≡ length l.initial.line;
    }
