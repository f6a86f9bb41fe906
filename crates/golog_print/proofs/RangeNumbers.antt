-- The numbers of a range whose ends are in the range of their type.
use Rattle.std.proofs.Common.{◌≡◌, ℕ, ◌<◌, ◌^◌, false, ◌&&◌, List, Some, None, ap, ◌∙◌, arith, ℤ, pos, negsuc}
use Rattle.std.specs.Prelude.{if◌then◌else◌, not, int_lt, FitsSigned, ◌+ℤ◌, ◌-ℤ◌, ◌≤ℤ◌, ◌<ℤ◌}
use Rattle.std.specs.Int.{w32}
use Rattle.std.specs.Int.Signed.{mag}
use Rattle.std.proofs.lemmas.Int.{ints}
use Rattle.golog_tree.specs.Ground.{to_count}
use Rattle.golog_tree.specs.declared.agent.SortItem.TheVariants.{Range}
use Rattle.golog_check.specs.Sorts.{place_of_number}

below_count : (z : ℤ) (v : ℕ) → v < to_count z → pos v <ℤ z
below_count (pos n) v h = omega (arith, ints)
below_count (negsuc n) v h = absurd (omega arith)

between : (low z high : ℤ) → mag low < 2 ^ 31 → mag high < 2 ^ 31 → low ≤ℤ z → z ≤ℤ high → mag z < 2 ^ 31
between low (pos n) (pos m) h k a b = omega (arith, ints)
between low (pos n) (negsuc m) h k a b = absurd (omega (arith, ints))
between (pos l) (negsuc n) high h k a b = absurd (omega (arith, ints))
between (negsuc l) (negsuc n) high h k a b = omega (arith, ints)

module _ (low high : ℤ) (h : FitsSigned w32 low) (k : FitsSigned w32 high) (v : ℕ) (l : v < to_count (high -ℤ low +ℤ pos 1)) where
  pub at-most : (low +ℤ pos v) ≤ℤ high
  at-most = let b : pos v <ℤ (high -ℤ low +ℤ pos 1) = below_count (high -ℤ low +ℤ pos 1) v l in omega (arith, ints)

  pub inside : FitsSigned w32 (low +ℤ pos v)
  inside = record { sfits = between low (low +ℤ pos v) high h.sfits k.sfits (omega (arith, ints)) at-most }

  pub small : mag (low +ℤ pos v) < 2 ^ 63
  small = let f = inside in omega (arith, f.sfits)

not-under : (a b : ℤ) → b ≤ℤ a → int_lt a b ≡ false
not-under a b h = grind (arith, ints)

taken-off : (low : ℤ) (v : ℕ) → low +ℤ pos v -ℤ low ≡ pos v
taken-off low v = omega (arith, ints)

-- a number of a range has its place there
pub place-of : (name : List ℕ) (low high : ℤ) → FitsSigned w32 low → FitsSigned w32 high → (v : ℕ) → v < to_count (high -ℤ low +ℤ pos 1)
    → place_of_number (low +ℤ pos v) (Range name low high) ≡ Some v
place-of name low high h k v l =
    let above : int_lt (low +ℤ pos v) low ≡ false = not-under (low +ℤ pos v) low (omega (arith, ints)) in
    let below : int_lt high (low +ℤ pos v) ≡ false = not-under high (low +ℤ pos v) (at-most low high h k v l) in
    (λ i. if not (above i) && not (below i) then Some (to_count (low +ℤ pos v -ℤ low)) else None)
    ∙ ap (λ (z : ℤ). Some (to_count z)) (taken-off low v)

pub ruleset laws = (small, place-of)
