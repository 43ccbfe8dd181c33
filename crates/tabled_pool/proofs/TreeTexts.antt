-- What holds of the texts of trees.
use Rattle.tabled_pool.proofs.Names.{All, EachText, IsAdditive, IsPlain, IsUtf8-nil, List, TableValue, Tree, [], leaf, map, refl, tree_of}
use Rattle.tabled_pool.proofs.Names.{trees, ℕ, ◌∷◌}
use Rattle.std.proofs.lemmas.List.Elements.{All-cons, All-head, All-nil, All-tail}
use Rattle.std.proofs.lemmas.Str.{chars-nil}
use Rattle.tabled_text.proofs.PlainLines.{additive-plain}
use Rattle.tabled_pool.specs.Tree.{Trees, across, down, none, one_more, EachTextIn}

pub additive-nil : IsAdditive []
additive-nil = record { utf8 = IsUtf8-nil; characters = rw chars-nil refl }

mutual
  pub additive-each : (t : Tree) → EachText IsPlain t → EachText IsAdditive t
  additive-each (leaf text) h = additive-plain text h
  additive-each (across ts) h = additive-each_in ts h
  additive-each (down ts) h = additive-each_in ts h

  additive-each_in : (ts : Trees) → EachTextIn IsPlain ts → EachTextIn IsAdditive ts
  additive-each_in none h = tt
  additive-each_in (one_more t ts) h = (additive-each t h.0, additive-each_in ts h.1)

-- ---- the texts of values one after another

abbrev pub AllIn : (List ℕ → Type 0) → List TableValue → Type 0
AllIn P vs = All (λ v. EachText P (tree_of v)) vs

pub each-all : (P : List ℕ → Type 0) (vs : List TableValue) → AllIn P vs → EachTextIn P (trees (map tree_of vs))
each-all P [] h = tt
each-all P (v ∷ vs) h =
    let Q : TableValue → Type 0 = λ u. EachText P (tree_of u) in (All-head Q v vs h, each-all P vs (All-tail Q v vs h))

pub all-each : (P : List ℕ → Type 0) (vs : List TableValue) → EachTextIn P (trees (map tree_of vs)) → AllIn P vs
all-each P [] h = let Q : TableValue → Type 0 = λ u. EachText P (tree_of u) in All-nil Q
all-each P (v ∷ vs) h =
    let Q : TableValue → Type 0 = λ u. EachText P (tree_of u) in All-cons Q v vs h.0 (all-each P vs h.1)
