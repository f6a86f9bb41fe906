-- What `clap` makes of the words of a `demo`.
use Rattle.std.proofs.Common.{◌≡◌, ap, refl, codes, ℕ, true, false, true≢false, sym, Bool, List, [], ◌∷◌, Option, Some, None}
use Rattle.std.specs.Prelude.{◌==◌, drop, if◌then◌else◌}
use Rattle.clap.proofs.TakesLemmas.{leaf_takes}
use Rattle.clap.proofs.OnLiterals.{clap_on_literals}
use Rattle.clap.specs.Words.{App, built, first_of, is_simple, matches_of, new_app, new_rule, takes, with_rule}
use Rattle.clap.specs.Simple.{Shape}
use Rattle.clap.specs.Walk.{nothing_held}
use Rattle.golog_base.specs.Numbers.{amount}
use Rattle.golog_words.specs.Commands.{Text, demo, demo_of, demo_in, is_size, size_in}
use Rattle.golog_words.proofs.Meeting.{Meets}
use Rattle.golog_words.proofs.Conditions.{holds_under}
use Rattle.golog_words.proofs.Digits.{natural_of, no_dash_before}
use Rattle.golog_words.proofs.Walks.{rows_on, takes_on}

abbrev pub demonstrating : App
demonstrating = with_rule (new_app (codes "demo")) (new_rule (codes "size"))

abbrev shape : Shape
shape = (built demonstrating).top

pub simple : is_simple demonstrating ≡ true
unfolding clap_on_literals
simple = refl

module _ (name : Text) (x : ℕ) (xs : Text) (e : (x == 45) ≡ false) where
  rows : first_of (codes "size") (matches_of demonstrating (name ∷ (x ∷ xs) ∷ [])) ≡ Some (x ∷ xs)
  unfolding clap_on_literals
  rows = ap (first_of (codes "size")) (rows_on shape x xs e nothing_held 1 [])

  taken : takes demonstrating (name ∷ (x ∷ xs) ∷ []) ≡ true
  unfolding clap_on_literals
  taken = leaf_takes (built demonstrating) nothing_held ((x ∷ xs) ∷ []) refl
      (takes_on shape x xs e nothing_held 1 [] refl)

sized : (word : Text) → is_size word ≡ true → size_in word ≡ Some (amount word)
sized word fits = ap (λ (b : Bool). if b then Some (amount word) else None) fits

one : (name word : Text) → is_size word ≡ true → Meets demonstrating (name ∷ word ∷ []) (Some (demo (amount word)))
one name [] fits = absurd (true≢false (sym (natural_of 200 [] fits)))
one name (x ∷ xs) fits =
    let dash = no_dash_before 200 x xs fits in
    ((x ∷ xs, rows name x xs dash, sized (x ∷ xs) fits), taken name x xs dash)

pub meets : (words : List Text) → Meets demonstrating words (demo_in (drop 1 words))
meets [] = tt
meets (name ∷ []) = tt
meets (name ∷ word ∷ []) =
    holds_under (λ (size : Option ℕ). Meets demonstrating (name ∷ word ∷ []) (demo_of size)) (is_size word)
    (Some (amount word)) tt (one name word)
meets (name ∷ word ∷ other ∷ more) = tt
