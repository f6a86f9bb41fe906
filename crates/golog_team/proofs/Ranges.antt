-- A range of numbers, gone through from one of them on.
use Rattle.std.proofs.Common.{◌≡◌, ℕ, suc, ◌+◌, ◌-◌, ◌≤◌, ◌<◌, Bool, true, false, ◌||◌, if◌then◌else◌, Option, Some, None, ◌∷◌, refl, ap, ◌∙◌, arith}
use Rattle.std.specs.Prelude.{find}
use Rattle.std.specs.List.{list_any, range_with_len}
use Rattle.std.proofs.lemmas.Bool.{or_left}

module _ (p : ℕ → Bool) (i n : ℕ) where
  module _ (less : i < n) where
    one-more : n - i ≡ suc (n - (i + 1))
    one-more = omega (arith, less)

    pub any-next : p i ≡ false → list_any p (range_with_len i (n - i)) ≡ list_any p (range_with_len (i + 1) (n - (i + 1)))
    any-next not_it = ap (λ k. list_any p (range_with_len i k)) one-more ∙ ap (λ b. b || list_any p (range_with_len (i + 1) (n - (i + 1)))) not_it

    pub any-here : p i ≡ true → list_any p (range_with_len i (n - i)) ≡ true
    any-here it = ap (λ k. list_any p (range_with_len i k)) one-more ∙ or_left (p i) (list_any p (range_with_len (i + 1) (n - (i + 1)))) it

    pub find-next : p i ≡ false → find p (range_with_len i (n - i)) ≡ find p (range_with_len (i + 1) (n - (i + 1)))
    find-next not_it = ap (λ k. find p (range_with_len i k)) one-more ∙ ap (λ b. if b then Some i else find p (range_with_len (i + 1) (n - (i + 1)))) not_it

    pub find-here : p i ≡ true → find p (range_with_len i (n - i)) ≡ Some i
    find-here it = ap (λ k. find p (range_with_len i k)) one-more ∙ ap (λ b. if b then Some i else find p (range_with_len (i + 1) (n - (i + 1)))) it

  module _ (past : n ≤ i) where
    none-left : n - i ≡ 0
    none-left = omega (arith, past)

    pub any-past : list_any p (range_with_len i (n - i)) ≡ false
    any-past = ap (λ k. list_any p (range_with_len i k)) none-left

    pub find-past : find p (range_with_len i (n - i)) ≡ None
    find-past = ap (λ k. find p (range_with_len i k)) none-left
