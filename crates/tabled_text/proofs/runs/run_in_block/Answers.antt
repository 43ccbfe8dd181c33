use Rattle.tabled_text.proofs.Names.{Bool, arith, is_in_range, not, not-false, not-true, sym, ℕ, ◌∙◌}
use Rattle.std.proofs.lemmas.Simd.{none_from_empty_mask, run_in_chunk_fails, run_in_chunk_le, run_in_chunk_stops}
use Rattle.tabled_text.proofs.RunLemmas.{lowest-is-first}
use Rattle.tabled_text.proofs.runs.run_in_block.Goals as goal

pub returns-then-outside-eq0-clause-passed : goal.returns-then-outside-eq0-clause-passed
returns-then-outside-eq0-clause-passed c =
    let p : ℕ → Bool = λ byte. not (is_in_range c.args.first c.args.last byte) in
    let none = none_from_empty_mask p c.args.bytes.now c.args.at 16 0 c.requires.room (sym c.outside-outside.ensures ∙ c.if-outside-eq0.true) in
    λ k a b. not-false _ (none k a b)

pub returns-else-outside-eq0-clause-bound : goal.returns-else-outside-eq0-clause-bound
returns-else-outside-eq0-clause-bound c =
    let p : ℕ → Bool = λ byte. not (is_in_range c.args.first c.args.last byte) in
    let counted = lowest-is-first p c.args.bytes.now c.args.at c.outside-outside.result c.requires.room c.outside-outside.ensures (omega (arith, c.if-outside-eq0.false)) in
    run_in_chunk_le p c.args.bytes.now c.args.at 16 _ 0 c.requires.room counted

pub returns-else-outside-eq0-clause-passed : goal.returns-else-outside-eq0-clause-passed
returns-else-outside-eq0-clause-passed c =
    let p : ℕ → Bool = λ byte. not (is_in_range c.args.first c.args.last byte) in
    let counted = lowest-is-first p c.args.bytes.now c.args.at c.outside-outside.result c.requires.room c.outside-outside.ensures (omega (arith, c.if-outside-eq0.false)) in
    λ k a b. not-false _ (run_in_chunk_fails p c.args.bytes.now c.args.at 16 _ 0 c.requires.room counted k a b)

pub returns-else-outside-eq0-clause-stops : goal.returns-else-outside-eq0-clause-stops
returns-else-outside-eq0-clause-stops c =
    let p : ℕ → Bool = λ byte. not (is_in_range c.args.first c.args.last byte) in
    let counted = lowest-is-first p c.args.bytes.now c.args.at c.outside-outside.result c.requires.room c.outside-outside.ensures (omega (arith, c.if-outside-eq0.false)) in
    λ l. not-true _ (run_in_chunk_stops p c.args.bytes.now c.args.at 16 _ 0 c.requires.room counted l)
