-- Sizes and parts by direction.
use Rattle.tabled_pool.proofs.Names.{Across, Box, BoxSpacing, Direction, Down, Fits, Rectangle, arith, behind_border, border_size}
use Rattle.tabled_pool.proofs.Names.{box_across, box_along, first_part, given_size, joined_box, max, nat_tests, needed_by, pick}
use Rattle.tabled_pool.proofs.Names.{place_along, refl, rest_part, ℕ, ◌+◌, ◌-◌, ◌<◌, ◌≡◌, ◌≤◌}
use Rattle.std.proofs.Common.{◌/◌, ◌^◌}
use Rattle.tabled_size.specs.declared.complete_dimension.DimensionPriority.{DimensionPriority}
use Rattle.tabled_size.specs.declared.complete_dimension.DimensionPriority.TheVariants.{First, Last, List as Each}
use Rattle.std.proofs.Math.Nat.{le-mul_of_pos_right}
use Rattle.tabled_pool.specs.Boxes.{share, place_across}

pub share_within : (q : DimensionPriority) (surplus k : ℕ) → 0 < k → share q surplus k ≤ surplus
share_within First surplus k h = omega arith
share_within Last surplus k h = omega arith
share_within Each surplus k h = grind (arith, nat_tests, le-mul_of_pos_right {m = k} (surplus / k) h)

pick-same : {A : Type 0} (d : Direction) (n a b : A) → pick d (pick d n a) (pick d b n) ≡ n
pick-same Across n a b = refl
pick-same Down n a b = refl

pub joined_along : (d : Direction) (g : BoxSpacing) (k : ℕ) (b c : Box)
    → box_along d (joined_box d g k b c) ≡ needed_by d g b c
joined_along d g k b c = pick-same d _ _ _

pub joined_across : (d : Direction) (g : BoxSpacing) (k : ℕ) (b c : Box)
    → box_across d (joined_box d g k b c) ≡ max (box_across d b) (box_across d c)
joined_across d g k b c = pick-same d _ _ _

pub fits_along : (d : Direction) (b : Box) (r : Rectangle) → Fits b r → box_along d b ≤ place_along d r
fits_along Across b r f = f.wide
fits_along Down b r f = f.tall

pub fits_across : (d : Direction) (b : Box) (r : Rectangle) → Fits b r → box_across d b ≤ place_across d r
fits_across Across b r f = f.tall
fits_across Down b r f = f.wide

pub fits_bound : (d : Direction) (b : Box) (r : Rectangle) → Fits b r → place_along d r < 2 ^ 64
fits_bound Across b r f = omega (arith, f.right)
fits_bound Down b r f = omega (arith, f.low)

-- the first box and the others have the sizes that they need
pub record Shares (d : Direction) (g : BoxSpacing) (b c : Box) (n : ℕ) (r : Rectangle) : Type 0 where
  pub wide : b.width ≤ (first_part d n r).width
  pub tall : b.height ≤ (first_part d n r).height
  pub rest_wide : c.width ≤ (behind_border d g n r).width
  pub rest_tall : c.height ≤ (behind_border d g n r).height
  pub given : n ≤ place_along d r
  pub border : border_size d g ≤ place_along d (rest_part d n r)
  pub right : (behind_border d g n r).x + (behind_border d g n r).width ≤ r.x + r.width
  pub low : (behind_border d g n r).y + (behind_border d g n r).height ≤ r.y + r.height

pub shares : (d : Direction) (g : BoxSpacing) (k : ℕ) (b c : Box) (r : Rectangle) → 0 < k
    → (joined_box d g k b c).width ≤ r.width → (joined_box d g k b c).height ≤ r.height
    → Shares d g b c (given_size d g b (place_along d r) (needed_by d g b c) k) r
shares Across g k b c r z w h =
    let s = share_within g.across (r.width - (b.width + (g.bar + c.width))) k z in
    record {
      wide = omega (arith, s);
      tall = omega (arith, s);
      rest_wide = omega (arith, s);
      rest_tall = omega (arith, s);
      given = omega (arith, s);
      border = omega (arith, s);
      right = omega (arith, s);
      low = omega (arith, s);
    }
shares Down g k b c r z w h =
    let s = share_within g.down (r.height - (b.height + (g.rule + c.height))) k z in
    record {
      wide = omega (arith, s);
      tall = omega (arith, s);
      rest_wide = omega (arith, s);
      rest_tall = omega (arith, s);
      given = omega (arith, s);
      border = omega (arith, s);
      right = omega (arith, s);
      low = omega (arith, s);
    }

-- a rectangle that is split after the first of its boxes
pub record Cut (d : Direction) (g : BoxSpacing) (b : Box) (n : ℕ) (r : Rectangle) : Type 0 where
  pub wide : b.width ≤ r.width
  pub tall : b.height ≤ r.height
  pub fits : Fits b (first_part d n r)
  pub given : n ≤ place_along d r
  pub border : border_size d g ≤ place_along d (rest_part d n r)
  pub right : (rest_part d n r).x + (rest_part d n r).width < 2 ^ 64
  pub low : (rest_part d n r).y + (rest_part d n r).height < 2 ^ 64

pub cut_facts : (d : Direction) (g : BoxSpacing) (b : Box) (left count : ℕ) (r : Rectangle) → 0 < count
    → box_along d b + border_size d g ≤ left → box_across d b ≤ place_across d r → left ≤ place_along d r
    → r.x + r.width < 2 ^ 64 → r.y + r.height < 2 ^ 64 → Cut d g b (given_size d g b (place_along d r) left count) r
cut_facts Across g b left count r z o a l x y =
    let s = share_within g.across (r.width - left) count z in
    record {
      wide = omega arith;
      tall = omega arith;
      fits = record { wide = omega arith; tall = omega arith; right = omega (arith, s); low = omega arith };
      given = omega (arith, s);
      border = omega (arith, s);
      right = omega (arith, s);
      low = omega arith;
    }
cut_facts Down g b left count r z o a l x y =
    let s = share_within g.down (r.height - left) count z in
    record {
      wide = omega arith;
      tall = omega arith;
      fits = record { wide = omega arith; tall = omega arith; right = omega arith; low = omega (arith, s) };
      given = omega (arith, s);
      border = omega (arith, s);
      right = omega arith;
      low = omega (arith, s);
    }
