use Rattle.tabled_line.proofs.Names.{Slot, [], ap, arith, length, map, offset_at, piece, range_with_len, slot_at, suc, sym, ℕ, ◌++◌, ◌+◌}
use Rattle.tabled_line.proofs.Names.{◌∙◌, ◌∷◌, ◌≡◌}
use Rattle.std.proofs.lemmas.List.FromFn.{map-range_with_len_more}
use Rattle.tabled_line.proofs.row_template.list_slots.Goals as goal

pub slots-preserved : goal.slots-preserved
slots-preserved g c =
    let sheet = g.C.TableColumns.sheet c.args.columns.now in
    let column = c.slots.column in
    let at : ℕ → ℕ → Slot = λ place width. record { place = place; width = width } in
    let listed = map (slot_at sheet) (range_with_len 0 column) in
    let slot : at c.slots.place c.width-width.result ≡ slot_at sheet column =
    ap (λ place. at place c.width-width.result) c.slots.invariant.next ∙ ap (at (offset_at sheet column)) c.width-width.ensures in
    let bar : c.bar_length-bar.result ≡ length (piece sheet.frame.inner.there sheet.frame.inner.main) =
    c.bar_length-bar.ensures ∙ ap (λ f. length (piece f.inner.there f.inner.main)) c.frame.ensures in
    let further : column + 1 ≡ suc column = omega arith in
    let more : offset_at sheet (column + 1) ≡ offset_at sheet column + sheet.width column + length (piece sheet.frame.inner.there sheet.frame.inner.main) =
    ap (offset_at sheet) further in
    let pushed = rw (sym c.in_ok-ok.ensures.variant) at c.push.ensures.items in
    record {
      listed = pushed ∙ ap (λ slots. slots ++ at c.slots.place c.width-width.result ∷ []) c.slots.invariant.listed
          ∙ ap (λ s. listed ++ s ∷ []) slot ∙ sym (map-range_with_len_more (slot_at sheet) 0 column column (omega arith));
      next = omega (arith, c.in_ok-checked_add.ensures, c.in_ok-place.ensures, c.slots.invariant.next, c.width-width.ensures, bar, more);
    }
