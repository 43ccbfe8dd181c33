use Rattle.tabled_text.proofs.Names.{ap, arith, byte_columns, is_letter_byte, map, refl, sum_by, sum_l, sym, w8, ◌∙◌, ◌≡◌}
use Rattle.std.proofs.lemmas.Simd.{fold-sum, sum_fits}
use Rattle.tabled_text.proofs.LetterBytes.{sum-two}
use Rattle.tabled_text.proofs.RunLemmas.{each-passed, sum-map}
use Rattle.tabled_text.proofs.letters.block_columns.Goals as goal

pub overflow_add-result : goal.overflow_add-result
overflow_add-result c =
    let v = c.args.block in
    let letters = sym c.is_letter_block.ensures ∙ c.if-not-is_letter_block.false in
    let lanes : c.by_upper.result ≡ map byte_columns v = c.by_upper.ensures ∙ each-passed is_letter_byte _ byte_columns refl v c.fits-block.1 letters in
    let sum : sum_l c.by_upper.result ≡ sum_by byte_columns v = ap sum_l lanes ∙ sum-map byte_columns v in
    sum_fits w8 0 c.by_upper.result (omega (arith, sum, sum-two v, c.fits-block.0))

pub returns : goal.returns
returns c =
    let v = c.args.block in
    let letters = sym c.is_letter_block.ensures ∙ c.if-not-is_letter_block.false in
    let lanes : c.by_upper.result ≡ map byte_columns v = c.by_upper.ensures ∙ each-passed is_letter_byte _ byte_columns refl v c.fits-block.1 letters in
    let sum : sum_l c.by_upper.result ≡ sum_by byte_columns v = ap sum_l lanes ∙ sum-map byte_columns v in
    record { all = letters; columns = omega (arith, sum, fold-sum 0 c.by_upper.result) }
