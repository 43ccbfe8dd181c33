use Rattle.tabled_base.proofs.Names.{IsRectangular, ap, arith, drop, length, lengthened, lengthened_rows, longest, map, row_texts, subst}
use Rattle.tabled_base.proofs.Names.{sym, take, ◌++◌, ◌∙◌, ◌≡◌}
use Rattle.tabled_base.proofs.LengthenedRows.{lengthened_rows-rectangular, rectangular-longest, written_back}
use Rattle.tabled_base.proofs.Lengthening.{on-err}
use Rattle.tabled_base.proofs.builder.Builder.from_vec.Goals as goal

pub returns-in_err-reserve_rows-clause-unequal : goal.returns-in_err-reserve_rows-clause-unequal
returns-in_err-reserve_rows-clause-unequal c =
    let rows = row_texts c.args.rows.items in
    let same : row_texts c.as_mut_slice-all.result.now ≡ rows = ap row_texts c.as_mut_slice-all.ensures.value in
    let most : c.longest_row-columns.result ≡ longest rows =
    c.longest_row-columns.ensures ∙ ap (λ l. longest (row_texts l)) c.as_slice.ensures.value in
    on-err c.from_residual.result (λ equal. c.in_err-reserve_rows.ensures.short (rw (most, same) (rectangular-longest rows equal)))

pub new-records-requires : goal.new-records-requires
new-records-requires c =
    let old = c.args.rows.items in
    let first = c.as_mut_slice-all.result.now in
    let new = c.lengthen_rows.new.rows in
    let n = c.longest_row-columns.result in
    let most : n ≡ longest (row_texts old) = c.longest_row-columns.ensures ∙ ap (λ l. longest (row_texts l)) c.as_slice.ensures.value in
    let long : length first ≡ c.args.rows.len =
    omega (arith, c.as_mut_slice-all.ensures.len, ap length c.as_mut_slice-all.ensures.value, c.args.rows.ok.0) in
    let back : row_texts (take c.args.rows.len (new ++ drop (length new) old)) ≡ lengthened_rows (row_texts old) =
    written_back c.args.rows.len n first c.reserve_rows.new.rows new old long c.reserve_rows.ensures.items c.lengthen_rows.ensures
    ∙ ap (λ l. map (lengthened n) (row_texts l)) c.as_mut_slice-all.ensures.value
    ∙ ap (λ k. map (lengthened k) (row_texts old)) most in
    subst IsRectangular (sym back) (lengthened_rows-rectangular (row_texts old))

pub invariant_of-result : goal.invariant_of-result
invariant_of-result c =
    let old = c.args.rows.items in
    let first = c.as_mut_slice-all.result.now in
    let new = c.lengthen_rows.new.rows in
    let n = c.longest_row-columns.result in
    let most : n ≡ longest (row_texts old) = c.longest_row-columns.ensures ∙ ap (λ l. longest (row_texts l)) c.as_slice.ensures.value in
    let long : length first ≡ c.args.rows.len =
    omega (arith, c.as_mut_slice-all.ensures.len, ap length c.as_mut_slice-all.ensures.value, c.args.rows.ok.0) in
    let back : row_texts (take c.args.rows.len (new ++ drop (length new) old)) ≡ lengthened_rows (row_texts old) =
    written_back c.args.rows.len n first c.reserve_rows.new.rows new old long c.reserve_rows.ensures.items c.lengthen_rows.ensures
    ∙ ap (λ l. map (lengthened n) (row_texts l)) c.as_mut_slice-all.ensures.value
    ∙ ap (λ k. map (lengthened k) (row_texts old)) most in
    subst IsRectangular (sym (c.new-records.ensures ∙ back)) (lengthened_rows-rectangular (row_texts old))
