-- The boxes of a row or a column that are drawn so far.
use Rattle.tabled_pool.proofs.Names.{Across, BlockSheet, Direction, Down, List, [], ap, pick, ℕ, ◌++◌, ◌∙◌, ◌∷◌, ◌≡◌}
use Rattle.tabled_pool.specs.Inherited.{Children, PassedOn, beside, joined, no_block, passed_beside, side_by_side, stacked}
use Rattle.tabled_pool.proofs.Besides.{beside_nothing, none_beside, one_more_beside}
use Rattle.tabled_pool.proofs.Drawers.{ListWalk}

-- in a row they are at the right of what the row begins with, in a column they are apart
abbrev pub SoFar : Direction → BlockSheet → List BlockSheet → List BlockSheet → BlockSheet → Type 0
SoFar Across start drawn blocks next = next ≡ beside start (side_by_side drawn)
SoFar Down start drawn blocks next = (blocks ≡ drawn) × (next ≡ no_block)

pub record DrawnSoFar (d : Direction) (whole now : Children) (start : BlockSheet) (blocks : List BlockSheet) (sizes : List ℕ)
    (next : BlockSheet) : Type 0 where
  pub drawn : List BlockSheet
  pub walk : ListWalk whole now drawn sizes
  pub so_far : SoFar d start drawn blocks next

pub none_so_far : (d : Direction) (start : BlockSheet) (blocks : List BlockSheet) (next none : BlockSheet) → blocks ≡ [] → none ≡ no_block
    → next ≡ pick d start none → SoFar d start [] blocks next
none_so_far Across start blocks next none b n e = e ∙ none_beside start
none_so_far Down start blocks next none b n e = (b, e ∙ n)

pub more_so_far : (d : Direction) (start : BlockSheet) (drawn blocks blocks' : List BlockSheet) (next next' box block : BlockSheet)
    → SoFar d start drawn blocks next → box ≡ beside next block → blocks' ≡ pick d blocks (blocks ++ (box ∷ []))
    → next' ≡ pick d box no_block → SoFar d start (drawn ++ (block ∷ [])) blocks' next'
more_so_far Across start drawn blocks blocks' next next' box block h e b n =
    n ∙ e ∙ ap (λ u. beside u block) h ∙ one_more_beside start drawn block
more_so_far Down start drawn blocks blocks' next next' box block h e b n =
    (b ∙ ap (λ u. u ++ (box ∷ [])) h.0 ∙ ap (λ u. drawn ++ (u ∷ [])) (e ∙ ap (λ u. beside u block) h.1 ∙ beside_nothing block), n)

-- they are joined
pub joined_so_far : (d : Direction) (start : BlockSheet) (drawn blocks : List BlockSheet) (next all none : BlockSheet) (sizes above before : List ℕ)
    → SoFar d start drawn blocks next → all ≡ pick d none start
    → record { block = pick d next (beside all (stacked blocks)); above = pick d sizes above; before = pick d before sizes }
    ≡ passed_beside start (joined d (record { blocks = drawn; sizes = sizes; passed = pick d before above }))
joined_so_far Across start drawn blocks next all none sizes above before h e =
    ap (λ u. record { block = u; above = sizes; before = before }) h
joined_so_far Down start drawn blocks next all none sizes above before h e =
    ap (λ u. record { block = beside u (stacked blocks); above = above; before = sizes }) e
    ∙ ap (λ u. record { block = beside start (stacked u); above = above; before = sizes }) h.0

pub all_joined : (d : Direction) (start : BlockSheet) (drawn blocks : List BlockSheet) (next all : BlockSheet) (sizes above before : List ℕ)
    (result all-of : PassedOn) → SoFar d start drawn blocks next → all ≡ pick d no_block start
    → joined d (record { blocks = drawn; sizes = sizes; passed = pick d before above }) ≡ all-of
    → result ≡ record { block = pick d next (beside all (stacked blocks)); above = pick d sizes above; before = pick d before sizes }
    → result ≡ passed_beside start all-of
all_joined d start drawn blocks next all sizes above before result all-of h a e j =
    j ∙ joined_so_far d start drawn blocks next all no_block sizes above before h a ∙ ap (passed_beside start) e
