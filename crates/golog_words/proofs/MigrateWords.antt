-- What `clap` makes of the words of a `migrate`.
use Rattle.std.proofs.Common.{◌≡◌, ◌∙◌, ap, refl, codes, ℕ, true, false, true≢false, sym, List, [], ◌∷◌, Some}
use Rattle.std.specs.Prelude.{◌==◌, ◌&&◌, drop}
use Rattle.clap.proofs.TakesLemmas.{leaf_takes}
use Rattle.clap.proofs.OnLiterals.{clap_on_literals}
use Rattle.clap.specs.Words.{App, built, is_simple, matches_of, new_app, new_rule, takes, with_rule}
use Rattle.clap.specs.Simple.{Shape}
use Rattle.clap.specs.Walk.{Walk, nothing_held}
use Rattle.golog_words.specs.Commands.{Text, migrate, migrate_in, is_file_word}
use Rattle.golog_words.proofs.Meeting.{Meets, replay_rows}
use Rattle.golog_words.proofs.Conditions.{first, second, holds_under, is_no}
use Rattle.golog_words.proofs.Walks.{next_of, rows_on, takes_on}

abbrev pub migrating : App
migrating = with_rule (with_rule (new_app (codes "migrate")) (new_rule (codes "agent"))) (new_rule (codes "journal"))

abbrev shape : Shape
shape = (built migrating).top

pub simple : is_simple migrating ≡ true
unfolding clap_on_literals
simple = refl

module _ (name : Text) (x : ℕ) (xs : Text) (e : (x == 45) ≡ false) (y : ℕ) (ys : Text) (k : (y == 45) ≡ false) where
  abbrev one : Walk
  one = next_of shape x xs e nothing_held 1

  abbrev files : List Text
  files = (x ∷ xs) ∷ (y ∷ ys) ∷ []

  rows : replay_rows (matches_of migrating (name ∷ files)) ≡ (Some (x ∷ xs), Some (y ∷ ys))
  unfolding clap_on_literals
  rows = ap replay_rows (rows_on shape x xs e nothing_held 1 ((y ∷ ys) ∷ []) ∙ rows_on shape y ys k one.held 2 [])

  taken : takes migrating (name ∷ files) ≡ true
  unfolding clap_on_literals
  taken = leaf_takes (built migrating) nothing_held files refl
      (takes_on shape x xs e nothing_held 1 ((y ∷ ys) ∷ []) refl ∙ takes_on shape y ys k one.held 2 [] refl)

two : (name agent journal : Text) → is_file_word agent ≡ true → is_file_word journal ≡ true
    → Meets migrating (name ∷ agent ∷ journal ∷ []) (Some (migrate agent journal))
two name [] journal e k = absurd (true≢false (sym e))
two name (x ∷ xs) [] e k = absurd (true≢false (sym k))
two name (x ∷ xs) (y ∷ ys) e k =
    (rows name x xs (is_no _ e) y ys (is_no _ k), taken name x xs (is_no _ e) y ys (is_no _ k))

pub meets : (words : List Text) → Meets migrating words (migrate_in (drop 1 words))
meets [] = tt
meets (name ∷ []) = tt
meets (name ∷ agent ∷ []) = tt
meets (name ∷ agent ∷ journal ∷ []) =
    holds_under (Meets migrating (name ∷ agent ∷ journal ∷ [])) (is_file_word agent && is_file_word journal)
    (Some (migrate agent journal)) tt (λ fits.
    two name agent journal (first _ (is_file_word journal) fits) (second (is_file_word agent) _ fits))
meets (name ∷ agent ∷ journal ∷ other ∷ more) = tt
