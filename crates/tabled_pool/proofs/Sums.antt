-- The sizes of boxes one after another, from the last one.
use Rattle.tabled_pool.proofs.Names.{Across, Box, BoxSpacing, Direction, Down, IsSize, List, None, Some, TableValue, [], ap}
use Rattle.tabled_pool.proofs.Names.{append_assoc, arith, box_of, inl, inr, joined_box, length, length-map, list_box, map, map-append, nodes_in}
use Rattle.tabled_pool.proofs.Names.{sized, subst, sym, ℕ, ⊎_elim, ◌++◌, ◌+◌, ◌<◌, ◌∙◌, ◌∷◌, ◌≡◌, ◌≤◌}
use Rattle.std.proofs.Common.{length-append}
use Rattle.std.proofs.lemmas.List.{nil_from_length}
use Rattle.tabled_pool.specs.declared.sizes.Size.{Size}
use Rattle.tabled_pool.specs.declared.sizes.SizeList.{SizeList}
use Rattle.tabled_pool.specs.Sizes.{AreAdded, sizes_of_all, sizes_within}
use Rattle.tabled_pool.proofs.Measures.{added_box, none_added}
use Rattle.tabled_pool.proofs.NodeSums.{nodes_in_push}
use Rattle.tabled_pool.proofs.Steps.{joined}

pub record IsWithin (b c : Box) : Type 0 where
  pub wide : b.width ≤ c.width
  pub tall : b.height ≤ c.height

first-within : (d : Direction) (g : BoxSpacing) (k : ℕ) (b c : Box) → IsWithin b (joined_box d g k b c)
first-within Across g k b c = record { wide = omega arith; tall = omega arith }
first-within Down g k b c = record { wide = omega arith; tall = omega arith }

rest-within : (d : Direction) (g : BoxSpacing) (k : ℕ) (b c : Box) → IsWithin c (joined_box d g k b c)
rest-within Across g k b c = record { wide = omega arith; tall = omega arith }
rest-within Down g k b c = record { wide = omega arith; tall = omega arith }

exceeds : (b c : Box) → IsWithin b c → IsSize None b → IsSize None c
exceeds b c w h = ⊎_elim (λ e. inl (omega (arith, e, w.wide))) (λ e. inr (omega (arith, e, w.tall))) h

-- the joined box of sizes is as large as that of their boxes
joined-is : (d : Direction) (g : BoxSpacing) (k : ℕ) (b c : Box) (s t x : Size) → IsSize (Some s) b → IsSize (Some t) c
    → IsSize (Some x) (joined_box d g 2 (sized s) (sized t)) → IsSize (Some x) (joined_box d g k b c)
joined-is Across g k b c s t x h i j = (omega (arith, h.0, i.0, j.0), omega (arith, h.1, i.1, j.1))
joined-is Down g k b c s t x h i j = (omega (arith, h.0, i.0, j.0), omega (arith, h.1, i.1, j.1))

joined-within : (d : Direction) (g : BoxSpacing) (k : ℕ) (b c : Box) (s t : Size) → IsSize (Some s) b → IsSize (Some t) c
    → IsWithin (joined_box d g 2 (sized s) (sized t)) (joined_box d g k b c)
joined-within Across g k b c s t h i = record { wide = omega (arith, h.0, i.0); tall = omega (arith, h.1, i.1) }
joined-within Down g k b c s t h i = record { wide = omega (arith, h.0, i.0); tall = omega (arith, h.1, i.1) }

-- the last boxes are no larger than all
last-within : (d : Direction) (g : BoxSpacing) (bs cs : List Box) → 0 < length cs → IsWithin (list_box d g cs) (list_box d g (bs ++ cs))
last-within d g [] cs h = record { wide = omega arith; tall = omega arith }
last-within d g (b ∷ bs) cs h =
    let w = last-within d g bs cs h in
    let r = rest-within d g (length (bs ++ cs) + 1) b (list_box d g (bs ++ cs)) in
    let n : 0 < length (bs ++ cs) = omega (arith, length-append bs cs, h) in
    subst (IsWithin (list_box d g cs)) (sym (joined d g b (bs ++ cs) n))
    (record { wide = omega (arith, w.wide, r.wide); tall = omega (arith, w.tall, r.tall) })

abbrev pub all_box : Direction → BoxSpacing → List TableValue → Box
all_box d g vs = list_box d g (map (box_of g) vs)

last_exceed : (d : Direction) (g : BoxSpacing) (all front last : List TableValue) → all ≡ front ++ last → 0 < length last
    → IsSize None (all_box d g last) → IsSize None (all_box d g all)
last_exceed d g all front last e h x =
    let n : 0 < length (map (box_of g) last) = omega (arith, length-map last (box_of g), h) in
    let w = last-within d g (map (box_of g) front) (map (box_of g) last) n in
    let is : map (box_of g) all ≡ map (box_of g) front ++ map (box_of g) last = ap (map (box_of g)) e ∙ map-append (box_of g) front last in
    subst (λ bs. IsSize None (list_box d g bs)) (sym is) (exceeds _ (list_box d g (map (box_of g) front ++ map (box_of g) last)) w x)

-- ---- a list of which the last values are measured

pub record Measuring (d : Direction) (g : BoxSpacing) (all left : List TableValue) (own : Size) (old new : SizeList) : Type 0 where
  pub done : List TableValue
  pub some : 0 < length done
  pub parts : all ≡ left ++ done
  pub size : IsSize (Some own) (all_box d g done)
  pub added : AreAdded old new (sizes_of_all g done)
  pub fewer : nodes_in left ≤ nodes_in all

pub measured_last : (d : Direction) (g : BoxSpacing) (all front : List TableValue) (v : TableValue) (own : Size) (a b c : SizeList)
    → all ≡ front ++ (v ∷ []) → IsSize (Some own) (box_of g v) → AreAdded a b (sizes_within g v) → AreAdded b c (own ∷ [])
    → Measuring d g all front own a c
measured_last d g all front v own a b c e h x y = record {
  done = v ∷ [];
  some = omega arith;
  parts = e;
  size = h;
  added = added_box g v [] own a a b c (none_added a) x y h;
  fewer = omega (arith, nodes_in_push front v, ap nodes_in e);
}

pub last_exceeds : (d : Direction) (g : BoxSpacing) (all front : List TableValue) (v : TableValue) → all ≡ front ++ (v ∷ [])
    → IsSize None (box_of g v) → IsSize None (all_box d g all)
last_exceeds d g all front v e x = last_exceed d g all front (v ∷ []) e (omega arith) x

module _ (d : Direction) (g : BoxSpacing) (all left before : List TableValue) (v : TableValue) (size : Size) (old new : SizeList)
    (m : Measuring d g all left size old new) (is : left ≡ before ++ (v ∷ [])) where
  parts-more : all ≡ before ++ (v ∷ m.done)
  parts-more = m.parts ∙ ap (λ u. u ++ m.done) is ∙ append_assoc before (v ∷ []) m.done

  box-more : all_box d g (v ∷ m.done) ≡ joined_box d g (length (map (box_of g) m.done) + 1) (box_of g v) (all_box d g m.done)
  box-more = joined d g (box_of g v) (map (box_of g) m.done) (omega (arith, length-map m.done (box_of g), m.some))

  more-exceed : (b : Box) → IsWithin b (joined_box d g (length (map (box_of g) m.done) + 1) (box_of g v) (all_box d g m.done))
      → IsSize None b → IsSize None (all_box d g all)
  more-exceed b w x =
      last_exceed d g all before (v ∷ m.done) parts-more (omega arith) (subst (IsSize None) (sym box-more) (exceeds b _ w x))

  -- all is too large where the next one is, or both together are
  pub own_exceeds : IsSize None (box_of g v) → IsSize None (all_box d g all)
  own_exceeds x = more-exceed (box_of g v) (first-within d g (length (map (box_of g) m.done) + 1) (box_of g v) (all_box d g m.done)) x

  pub both_exceed : (own : Size) → IsSize (Some own) (box_of g v) → IsSize None (joined_box d g 2 (sized own) (sized size))
      → IsSize None (all_box d g all)
  both_exceed own h x = more-exceed (joined_box d g 2 (sized own) (sized size))
      (joined-within d g (length (map (box_of g) m.done) + 1) (box_of g v) (all_box d g m.done) own size h m.size) x

  -- one more is measured
  pub measured_more : (own next : Size) (b c : SizeList) → IsSize (Some own) (box_of g v) → AreAdded new b (sizes_within g v)
      → AreAdded b c (own ∷ []) → IsSize (Some next) (joined_box d g 2 (sized own) (sized size)) → Measuring d g all before next old c
  measured_more own next b c h x y j = record {
    done = v ∷ m.done;
    some = omega arith;
    parts = parts-more;
    size = subst (IsSize (Some next)) (sym box-more) (joined-is d g (length (map (box_of g) m.done) + 1) (box_of g v) (all_box d g m.done) own size next h m.size j);
    added = added_box g v m.done own old new b c m.added x y h;
    fewer = omega (arith, m.fewer, nodes_in_push before v, ap nodes_in is);
  }

-- all are measured
pub measured_all : (d : Direction) (g : BoxSpacing) (all left : List TableValue) (own : Size) (a b : SizeList)
    → Measuring d g all left own a b → length left ≡ 0 → AreAdded a b (sizes_of_all g all)
measured_all d g all left own a b m h =
    let e : all ≡ m.done = m.parts ∙ ap (λ u. u ++ m.done) (nil_from_length left h) in
    subst (λ vs. AreAdded a b (sizes_of_all g vs)) (sym e) m.added
