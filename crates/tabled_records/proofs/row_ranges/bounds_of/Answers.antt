use Rattle.tabled_records.proofs.Names.{List, ap, arith, begin, get_or, get_or_append_left, length, sym, ℕ, ◌++◌, ◌+◌, ◌-◌, ◌<◌, ◌∙◌, ◌≡◌}
use Rattle.tabled_records.proofs.Joining.{begin-behind, begin-first}
use Rattle.tabled_records.proofs.row_ranges.bounds_of.Goals as goal

-- a text begins behind the one before it, whose pair is small too
behind-small : (gap : ℕ) (ends small great : List (ℕ × ℕ)) (place : ℕ) (pair : ℕ × ℕ) → small ++ great ≡ ends → 0 < place → place < length small
    → place < length ends → pair ≡ get_or small (place - 1) pair → pair.0 + gap ≡ begin gap 0 ends place
behind-small gap ends small great place pair is later fits inside e =
    begin-behind gap 0 ends place (place - 1) pair (omega (arith, later)) inside
    (e ∙ sym (get_or_append_left small great pair (place - 1) (omega (arith, fits))) ∙ ap (λ pairs. get_or pairs (place - 1) pair) is)

pub returns-then-place-eq0-clause-begin : goal.returns-then-place-eq0-clause-begin
returns-then-place-eq0-clause-begin c = begin-first c.args.gap 0 c.args.ends.now c.args.place c.if-place-eq0.true

pub returns-then-place-len-clause-begin : goal.returns-then-place-len-clause-begin
returns-then-place-len-clause-begin c =
    let small = c.ends.inside.small.items in
    behind-small c.args.gap c.args.ends.now small c.ends.inside.great.items c.args.place c.index.result.now c.ends.view_is
    (omega (arith, c.if-place-eq0.false)) (grind (arith, c.len.ensures, c.if-place-len.true)) c.requires.inside c.index.ensures

pub overflow_add-result : goal.overflow_add-result
overflow_add-result c =
    let small = c.ends.inside.small.items in
    let begins = behind-small c.args.gap c.args.ends.now small c.ends.inside.great.items c.args.place c.index.result.now c.ends.view_is
    (omega (arith, c.if-place-eq0.false)) (grind (arith, c.len.ensures, c.if-place-len.true)) c.requires.inside c.index.ensures in
    omega (arith, begins, c.requires.fits)

pub returns-clause-begin : goal.returns-clause-begin
returns-clause-begin c =
    let is = c.if-place-eq0.false in
    begin-behind c.args.gap 0 c.args.ends.now c.args.place (c.args.place - 1) c.at-2.result (omega (arith, is)) c.requires.inside c.at-2.ensures

pub overflow_add-result-2 : goal.overflow_add-result-2
overflow_add-result-2 c =
    let is = c.if-place-eq0.false in
    let begins = begin-behind c.args.gap 0 c.args.ends.now c.args.place (c.args.place - 1) c.at-2.result (omega (arith, is)) c.requires.inside
    c.at-2.ensures in
    omega (arith, begins, c.requires.fits)
