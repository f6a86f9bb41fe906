-- What `clap` makes of the words of a `check`.
use Rattle.std.proofs.Common.{◌≡◌, ap, refl, codes, ℕ, true, false, List, [], ◌∷◌, Some}
use Rattle.std.specs.Prelude.{◌==◌, drop}
use Rattle.clap.proofs.TakesLemmas.{leaf_takes}
use Rattle.clap.proofs.OnLiterals.{clap_on_literals}
use Rattle.clap.specs.Words.{App, built, first_of, is_simple, matches_of, new_app, new_rule, takes, with_rule}
use Rattle.clap.specs.Simple.{Shape}
use Rattle.clap.specs.Walk.{nothing_held}
use Rattle.golog_words.specs.Commands.{Text, check, check_in, is_file_word}
use Rattle.golog_words.proofs.Meeting.{Meets}
use Rattle.golog_words.proofs.Conditions.{holds_under, is_no}
use Rattle.golog_words.proofs.Walks.{rows_on, takes_on}

abbrev pub checking : App
checking = with_rule (new_app (codes "check")) (new_rule (codes "agent"))

abbrev shape : Shape
shape = (built checking).top

pub simple : is_simple checking ≡ true
unfolding clap_on_literals
simple = refl

module _ (first : Text) (x : ℕ) (xs : Text) (e : (x == 45) ≡ false) where
  abbrev words : List Text
  words = first ∷ (x ∷ xs) ∷ []

  rows : first_of (codes "agent") (matches_of checking words) ≡ Some (x ∷ xs)
  unfolding clap_on_literals
  rows = ap (first_of (codes "agent")) (rows_on shape x xs e nothing_held 1 [])

  taken : takes checking words ≡ true
  unfolding clap_on_literals
  taken = leaf_takes (built checking) nothing_held ((x ∷ xs) ∷ []) refl (takes_on shape x xs e nothing_held 1 [] refl)

pub meets : (words : List Text) → Meets checking words (check_in (drop 1 words))
meets [] = tt
meets (first ∷ []) = tt
meets (first ∷ [] ∷ []) = tt
meets (first ∷ (x ∷ xs) ∷ []) =
    holds_under (Meets checking (first ∷ (x ∷ xs) ∷ [])) (is_file_word (x ∷ xs)) (Some (check (x ∷ xs))) tt (λ fits.
    (rows first x xs (is_no (x == 45) fits), taken first x xs (is_no (x == 45) fits)))
meets (first ∷ agent ∷ other ∷ more) = tt
