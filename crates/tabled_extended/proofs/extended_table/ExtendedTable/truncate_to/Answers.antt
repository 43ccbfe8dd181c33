use Rattle.tabled_extended.proofs.Names.{Option, sym, AllZip, Global, IsTruncated, List, OnErr, OnOk, Vec, if_sized, inr, refl, row_texts}
use Rattle.tabled_extended.proofs.Names.{subst, ℕ, ◌≡◌}
use Rattle.std.proofs.lemmas.Result.{on_err_weaker}
use Rattle.tabled_extended.specs.Truncated.{StopsInRecords, record_texts}
use Rattle.tabled_extended.proofs.Stopped.{in_none, ok_both}
use Rattle.tabled_extended.proofs.extended_table.ExtendedTable.truncate_to.Goals.{in-Some+in_ok-truncate_row, in_default}
use Rattle.tabled_extended.proofs.extended_table.ExtendedTable.truncate_to.Goals as goal

pub returns : goal.returns
returns g c =
    let old = c.args.self.now in
    let widths = c.args.text_widths in
    let change = IsTruncated c.args.suffix.now in
    let then = c.match-text_widths.self in
    let rows = c.truncate_rows.new.rows.items in
    let fields : AllZip (if_sized change widths.fields) old.fields.items then.fields.items = elim c.match-text_widths.branch [
      | in-Some+in_ok-truncate_row w ↦ rw w.self-is
          (subst (λ (o : Option ℕ). AllZip (if_sized change o) old.fields.items w.truncate_row.new.row.items) (sym w.in-Some.is)
          w.in_ok-truncate_row.ensures.ok)
      | in_default w ↦ rw w.self-is (in_none change widths.fields w.in_default.not-Some old.fields.items)
    ] in
    let same : then.records.items ≡ old.records.items = elim c.match-text_widths.branch [
      | in-Some+in_ok-truncate_row w ↦ rw w.self-is refl
      | in_default w ↦ rw w.self-is refl
    ] in
    record {
      ok = ok_both _ c.args.suffix.now widths (record_texts old) (record { fields = then.fields.items; records = row_texts rows }) fields
          (subst (λ (records : List (Vec (List ℕ) Global)). OnOk c.truncate_rows.result
          (AllZip (AllZip (change widths.values)) (row_texts records) (row_texts rows)))
          same c.truncate_rows.ensures.ok);
      err = on_err_weaker _ (λ h. inr (fields, h))
          (subst (λ (records : List (Vec (List ℕ) Global)). OnErr c.truncate_rows.result
          (StopsInRecords c.args.suffix.now widths.values (row_texts records) (row_texts rows))) same c.truncate_rows.ensures.err);
      template = elim c.match-text_widths.branch [
        | in-Some+in_ok-truncate_row w ↦ rw w.self-is refl
        | in_default w ↦ rw w.self-is refl
      ];
    }
