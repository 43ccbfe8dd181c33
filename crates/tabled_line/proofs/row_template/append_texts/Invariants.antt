use Rattle.tabled_line.proofs.Names.{length, string_bytes, take, ◌+◌, ◌-◌, ◌≡◌}
use Rattle.tabled_line.proofs.Appended.{IsAppended}
use Rattle.tabled_line.proofs.row_template.append_texts.Given as goal

abbrev pub invariant-texts : goal.invariant-texts
invariant-texts g l =
    record {
      appended : IsAppended (g.R.Row.sheet l.row) l.at.index (string_bytes l.blank.text) (take l.end l.line) l.passed l.column;
      left : l.end + (length (string_bytes l.blank.padded) - l.passed) + l.spare ≡ length l.line;
    }
