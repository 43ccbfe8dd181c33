use Rattle.tabled_base.proofs.Names.{[], ap, arith, columns, length, lengthened, map, map-append, map-id, max, row_texts, sym, ◌++◌, ◌∙◌}
use Rattle.tabled_base.proofs.Names.{◌∷◌, ◌≡◌}
use Rattle.tabled_base.proofs.LengthenedRows.{written_back}
use Rattle.tabled_base.proofs.Lengthening.{lengthened-rectangular}
use Rattle.tabled_base.proofs.builder.push_row.Goals.{then-before-columns+in_ok-reserve_rows, else-before-columns}
use Rattle.tabled_base.proofs.builder.push_row.Goals as goal

pub returns-clause-ok : goal.returns-clause-ok
returns-clause-ok c =
    let old = row_texts c.args.rows.now.items in
    let row = c.args.row.items in
    let n = c.max-columns.result in
    let before : c.first_length-before.result ≡ columns old =
    c.first_length-before.ensures ∙ ap (λ l. columns (row_texts l)) c.as_slice.ensures.value in
    let size : n ≡ max (columns old) (length row) = omega (arith, before, c.max-columns.ensures, c.len.ensures, c.args.row.ok.0) in
    let wide : row_texts c.if-before-columns.rows.items ≡ map (lengthened n) old = elim c.if-before-columns.branch [
      | then-before-columns+in_ok-reserve_rows w ↦ rw w.rows-is
          (written_back _ n w.as_mut_slice-all.result.now w.reserve_rows.new.rows w.lengthen_rows.new.rows _ w.as_mut_slice-all.ensures.len
          w.reserve_rows.ensures.items w.lengthen_rows.ensures
          ∙ ap (λ l. map (lengthened n) (row_texts l)) (w.as_mut_slice-all.ensures.value ∙ c.reserve-2.ensures.items))
      | else-before-columns w ↦ rw w.rows-is
          (ap row_texts c.reserve-2.ensures.items
          ∙ sym (lengthened-rectangular n old c.requires (omega (arith, before, w.if-before-columns.false))))
    ] in
    let new = c.lengthen_row.new.row in
    ap row_texts c.push_reserved.ensures.items
    ∙ map-append (λ row. map (λ t. t) row.items) c.if-before-columns.rows.items (new ∷ [])
    ∙ ap (λ l. l ++ map (λ t. t) new.items ∷ []) wide
    ∙ ap (λ r. map (lengthened n) old ++ r ∷ []) (map-id new.items ∙ c.lengthen_row.ensures.items ∙ ap (lengthened n) c.reserve.ensures.items)
    ∙ sym (map-append (lengthened n) old (row ∷ []))
    ∙ ap (λ k. map (lengthened k) (old ++ row ∷ [])) size
