-- Numbers that are read are found in their range.
use Rattle.std.proofs.Common.{◌≡◌, ℕ, ◌<◌, ◌^◌, inl, inr, Option, Some, None, refl, sym, ap, ◌∙◌, arith, ℤ, pos, negsuc, to_z, of_z, to_z-of_z}
use Rattle.std.specs.Prelude.{FitsSigned, ◌⊎◌, nat_abs, ◌+ℤ◌, ◌-ℤ◌, ◌≤ℤ◌, ◌<ℤ◌}
use Rattle.std.specs.Int.{w32, w64}
use Rattle.std.specs.Int.Signed.{mag}
use Rattle.std.specs.Fmt.{signed_decimal}
use Rattle.std.proofs.lemmas.Int.{ints}
use Rattle.golog_tree.specs.Ground.{to_count}
use Rattle.golog_semantics.specs.Text.{Text}
use Rattle.golog_ground.specs.Texts.{IsTheOne, IsUnmarked, WritesNumber, WritesInRange, size_of_range}
use Rattle.golog_ground.proofs.Answers.{none-fits, only-fits}
use Rattle.golog_ground.proofs.Numbers.{small}
use Rattle.golog_ground.proofs.Marks.{unmarked-number}

below_count : (z : ℤ) (v : ℕ) → v < to_count z → pos v <ℤ z
below_count (pos n) v h = omega (arith, ints)
below_count (negsuc n) v h = absurd (omega arith)

counted : (z : ℤ) (v : ℕ) → pos v <ℤ z → v < to_count z
counted (pos n) v h = omega (arith, ints)
counted (negsuc n) v h = absurd (omega (arith, ints))

between : (low z high : ℤ) → mag low < 2 ^ 31 → mag high < 2 ^ 31 → low ≤ℤ z → z ≤ℤ high → mag z < 2 ^ 31
between low (pos n) (pos m) h k a b = omega (arith, ints)
between low (pos n) (negsuc m) h k a b = absurd (omega (arith, ints))
between (pos l) (negsuc n) high h k a b = absurd (omega (arith, ints))
between (negsuc l) (negsuc n) high h k a b = omega (arith, ints)

same-place : (low : ℤ) (v u : ℕ) → low +ℤ pos v ≡ low +ℤ pos u → v ≡ u
same-place low v u e = omega (arith, ints)

apart-small : (a b d : ℤ) → mag a < 2 ^ 31 → mag b < 2 ^ 31 → d ≡ a -ℤ b → mag d < 2 ^ 63
apart-small (pos a) (pos b) (pos d) h k e = omega (arith, ints)
apart-small (pos a) (pos b) (negsuc d) h k e = omega (arith, ints)
apart-small (pos a) (negsuc b) (pos d) h k e = omega (arith, ints)
apart-small (pos a) (negsuc b) (negsuc d) h k e = omega (arith, ints)
apart-small (negsuc a) (pos b) (pos d) h k e = omega (arith, ints)
apart-small (negsuc a) (pos b) (negsuc d) h k e = omega (arith, ints)
apart-small (negsuc a) (negsuc b) (pos d) h k e = omega (arith, ints)
apart-small (negsuc a) (negsuc b) (negsuc d) h k e = omega (arith, ints)

not-below : (d : ℤ) → pos 0 ≤ℤ d → pos (nat_abs d) ≡ d
not-below (pos n) h = refl
not-below (negsuc n) h = absurd (omega (arith, ints))

wide : (z : ℤ) → FitsSigned w32 z → FitsSigned w64 z
wide z h = record { sfits = omega (arith, h.sfits) }

-- the position of a number that is not below the first
pub position-is : (z low a b : ℤ) → FitsSigned w32 z → FitsSigned w32 low → a ≡ z → b ≡ low → low ≤ℤ z
    → z ≡ low +ℤ pos (nat_abs (to_z w64 (of_z w64 (to_z w64 (of_z w64 a) -ℤ to_z w64 (of_z w64 b)))))
position-is z low a b h k e f l =
    let one : to_z w64 (of_z w64 a) ≡ z = ap (λ x. to_z w64 (of_z w64 x)) e ∙ to_z-of_z (wide z h) in
    let other : to_z w64 (of_z w64 b) ≡ low = ap (λ x. to_z w64 (of_z w64 x)) f ∙ to_z-of_z (wide low k) in
    let fits : FitsSigned w64 (z -ℤ low) = record { sfits = apart-small z low (z -ℤ low) h.sfits k.sfits refl } in
    let all : to_z w64 (of_z w64 (to_z w64 (of_z w64 a) -ℤ to_z w64 (of_z w64 b))) ≡ z -ℤ low =
    (λ i. to_z w64 (of_z w64 (one i -ℤ other i))) ∙ to_z-of_z fits in
    let up : pos (nat_abs (z -ℤ low)) ≡ z -ℤ low = not-below (z -ℤ low) (omega (arith, ints)) in
    let sum : z ≡ low +ℤ pos (nat_abs (z -ℤ low)) = omega (arith, ints) in
    sum ∙ ap (λ d. low +ℤ pos (nat_abs d)) (sym all)

some-number : (x z : ℤ) (one other : Option ℤ) → one ≡ Some x → other ≡ Some z → one ≡ other → x ≡ z
some-number x z one other h k e = cc

module _ (low high : ℤ) (h : FitsSigned w32 low) (k : FitsSigned w32 high) where
  at-most : (v : ℕ) → v < size_of_range low high → (low +ℤ pos v) ≤ℤ high
  at-most v l = let b : pos v <ℤ (high -ℤ low +ℤ pos 1) = below_count (high -ℤ low +ℤ pos 1) v l in omega (arith, ints)

  pub inside : (v : ℕ) → v < size_of_range low high → FitsSigned w32 (low +ℤ pos v)
  inside v l = record { sfits = between low (low +ℤ pos v) high h.sfits k.sfits (omega (arith, ints)) (at-most v l) }

  pub unmarked : (v : ℕ) → v < size_of_range low high → IsUnmarked (signed_decimal (low +ℤ pos v))
  unmarked v l = unmarked-number (low +ℤ pos v) (small (low +ℤ pos v) (inside v l))

  module _ (bytes : Text) where
    pub no-number : IsTheOne None (WritesNumber bytes) → IsTheOne None (WritesInRange low high bytes)
    no-number read = none-fits (WritesInRange low high bytes) (λ v w.
        let e : None ≡ Some (low +ℤ pos v) = (read (low +ℤ pos v)).1 (inside v w.0, w.1) in absurd (cc))

    module _ (z : ℤ) (read : IsTheOne (Some z) (WritesNumber bytes)) where
      is : (v : ℕ) → WritesInRange low high bytes v → z ≡ low +ℤ pos v
      is v w = some-number z (low +ℤ pos v) (Some z) (Some (low +ℤ pos v)) refl refl ((read (low +ℤ pos v)).1 (inside v w.0, w.1))

      pub outside : (z <ℤ low) ⊎ (high <ℤ z) → IsTheOne None (WritesInRange low high bytes)
      outside (inl o) = none-fits (WritesInRange low high bytes) (λ v w. let e = is v w in let m = at-most v w.0 in omega (arith, ints))
      outside (inr o) = none-fits (WritesInRange low high bytes) (λ v w. let e = is v w in let m = at-most v w.0 in omega (arith, ints))

      pub found : (v : ℕ) → z ≡ low +ℤ pos v → z ≤ℤ high → IsTheOne (Some v) (WritesInRange low high bytes)
      found v e l =
          only-fits (WritesInRange low high bytes) v
          (counted (high -ℤ low +ℤ pos 1) v (omega (arith, ints)), ap signed_decimal (sym e) ∙ ((read z).0 refl).1)
          (λ u w. same-place low v u (sym e ∙ is u w))
