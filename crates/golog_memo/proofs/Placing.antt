-- Places by hashes, and one place more.
use Rattle.std.proofs.Common.{◌≡◌, ℕ, ◌==◌, ◌&&◌, ◌||◌, Bool, true, false, Option, Some, None, refl, sym, ap, ◌∙◌}
use Rattle.std.specs.Prelude.{cond}
use Rattle.std.specs.HashMap.{HashMap, get_by}
use Rattle.std.specs.Option.{is_some, option_map_or}
use Rattle.std.proofs.lemmas.Bool.{eqb-true, eq-eqb}
use Rattle.golog_base.proofs.Bools.{or-false, or-true}

equal-back : (a b : ℕ) (t : Bool) → (a == b) ≡ t → (b == a) ≡ t
equal-back a b true e = eq-eqb b a (sym (eqb-true a b e))
equal-back a b false e = go (b == a) refl
  where
    go : (t : Bool) → (b == a) ≡ t → (b == a) ≡ false
    go false k = k
    go true k = absurd (let there = eq-eqb a b (sym (eqb-true b a k)) in cc)

or-last : (a b : Bool) → (a || b) ≡ ((false || b) || a)
or-last true b = sym (or-true b)
or-last false true = refl
or-last false false = refl

none-there : (found : Option ℕ) → is_some found ≡ false → found ≡ None
none-there None e = refl
none-there (Some p) e = absurd (cc)

-- a place more, the first of its hash
module _ {S : Type 0} (old new : HashMap ℕ ℕ S) (hash place : ℕ) (others : ℕ → ℕ → Bool) (absent : is_some (get_by (λ k. hash == k) old) ≡ false)
    (updates : (q : ℕ) → get_by (λ k. q == k) new ≡ cond (hash == q) (Some place) (get_by (λ k. q == k) old)) where
  pub placed-first : (other at : ℕ) → (option_map_or (λ first. at == first) (get_by (λ k. other == k) new) false || others other at)
      ≡ ((option_map_or (λ first. at == first) (get_by (λ k. other == k) old) false || others other at) || (other == hash && at == place))
  placed-first other at = ap (λ found. option_map_or (λ first. at == first) found false || others other at) (updates other) ∙ go (hash == other) refl
    where
      go : (b : Bool) → (hash == other) ≡ b → (option_map_or (λ first. at == first) (cond b (Some place) (get_by (λ k. other == k) old)) false || others other at)
          ≡ ((option_map_or (λ first. at == first) (get_by (λ k. other == k) old) false || others other at) || (other == hash && at == place))
      go true e =
          let none : get_by (λ k. other == k) old ≡ None = ap (λ q. get_by (λ k. q == k) old) (sym (eqb-true hash other e)) ∙ none-there (get_by (λ k. hash == k) old) absent in
          or-last (at == place) (others other at)
          ∙ (λ i. (option_map_or (λ first. at == first) (sym none i) false || others other at) || (sym (equal-back hash other true e) i && at == place))
      go false e =
          sym (or-false _) ∙ ap (λ b. (option_map_or (λ first. at == first) (get_by (λ k. other == k) old) false || others other at) || (b && at == place)) (sym (equal-back hash other false e))
