use Rattle.tabled_records.proofs.Names.{All, length, texts_from, true, ◌-◌, ◌≡◌}
use Rattle.tabled_base.specs.Printable.{IsPrintableAscii}
use Rattle.tabled_records.proofs.Cutting.{IsSplit}
use Rattle.tabled_records.proofs.joined_records.split_rows.Given as goal

abbrev pub invariant-bytes : goal.invariant-bytes
invariant-bytes l =
    IsSplit l.text l.cells l.rows l.start l.first l.at l.printable
    × (l.all_printable ≡ true → l.printable ≡ true)
    × (l.all_printable ≡ true → All IsPrintableAscii (texts_from 1 l.text 0 l.cells))

abbrev pub decreases-bytes : goal.decreases-bytes
decreases-bytes l = length l.text - l.at
