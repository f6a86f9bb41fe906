-- What `clap` makes of the words of an `ask`.
use Rattle.std.proofs.Common.{◌≡◌, ◌∙◌, ap, refl, codes, ℕ, true, false, true≢false, sym, List, [], ◌∷◌, Some}
use Rattle.std.specs.Prelude.{◌==◌, ◌&&◌, drop}
use Rattle.clap.proofs.TakesLemmas.{leaf_takes}
use Rattle.clap.proofs.OnLiterals.{clap_on_literals}
use Rattle.clap.specs.Words.{App, built, is_simple, matches_of, new_app, new_rule, takes, with_rule}
use Rattle.clap.specs.Simple.{Shape}
use Rattle.clap.specs.Walk.{Walk, nothing_held}
use Rattle.golog_words.specs.Commands.{Text, ask, ask_in, is_file_word}
use Rattle.golog_words.proofs.Meeting.{Meets, ask_rows}
use Rattle.golog_words.proofs.Conditions.{first, second, holds_under, is_no}
use Rattle.golog_words.proofs.Walks.{next_of, rows_on, takes_on}

abbrev pub asking : App
asking = with_rule
    (with_rule (with_rule (new_app (codes "ask")) (new_rule (codes "agent"))) (new_rule (codes "journal")))
    (new_rule (codes "condition"))

abbrev shape : Shape
shape = (built asking).top

pub simple : is_simple asking ≡ true
unfolding clap_on_literals
simple = refl

module _ (name : Text) (x : ℕ) (xs : Text) (e : (x == 45) ≡ false) (y : ℕ) (ys : Text) (k : (y == 45) ≡ false) (z : ℕ)
    (zs : Text) (l : (z == 45) ≡ false) where
  abbrev one : Walk
  one = next_of shape x xs e nothing_held 1

  abbrev two : Walk
  two = next_of shape y ys k one.held 2

  abbrev others : List Text
  others = (x ∷ xs) ∷ (y ∷ ys) ∷ (z ∷ zs) ∷ []

  rows : ask_rows (matches_of asking (name ∷ others)) ≡ (Some (x ∷ xs), Some (y ∷ ys), Some (z ∷ zs))
  unfolding clap_on_literals
  rows = ap ask_rows (rows_on shape x xs e nothing_held 1 ((y ∷ ys) ∷ (z ∷ zs) ∷ [])
      ∙ (rows_on shape y ys k one.held 2 ((z ∷ zs) ∷ []) ∙ rows_on shape z zs l two.held 3 []))

  taken : takes asking (name ∷ others) ≡ true
  unfolding clap_on_literals
  taken = leaf_takes (built asking) nothing_held others refl
      (takes_on shape x xs e nothing_held 1 ((y ∷ ys) ∷ (z ∷ zs) ∷ []) refl
      ∙ (takes_on shape y ys k one.held 2 ((z ∷ zs) ∷ []) refl ∙ takes_on shape z zs l two.held 3 [] refl))

three : (name agent journal condition : Text) → is_file_word agent ≡ true → is_file_word journal ≡ true
    → is_file_word condition ≡ true
    → Meets asking (name ∷ agent ∷ journal ∷ condition ∷ []) (Some (ask agent journal condition))
three name [] journal condition e k l = absurd (true≢false (sym e))
three name (x ∷ xs) [] condition e k l = absurd (true≢false (sym k))
three name (x ∷ xs) (y ∷ ys) [] e k l = absurd (true≢false (sym l))
three name (x ∷ xs) (y ∷ ys) (z ∷ zs) e k l = (
  rows name x xs (is_no _ e) y ys (is_no _ k) z zs (is_no _ l),
  taken name x xs (is_no _ e) y ys (is_no _ k) z zs (is_no _ l),
)

pub meets : (words : List Text) → Meets asking words (ask_in (drop 1 words))
meets [] = tt
meets (name ∷ []) = tt
meets (name ∷ agent ∷ []) = tt
meets (name ∷ agent ∷ journal ∷ []) = tt
meets (name ∷ agent ∷ journal ∷ condition ∷ []) =
    holds_under (Meets asking (name ∷ agent ∷ journal ∷ condition ∷ []))
    (is_file_word agent && is_file_word journal && is_file_word condition)
    (Some (ask agent journal condition)) tt (λ fits.
    let files = first (is_file_word agent && is_file_word journal) (is_file_word condition) fits in
    three name agent journal condition (first _ (is_file_word journal) files) (second (is_file_word agent) _ files)
    (second (is_file_word agent && is_file_word journal) _ fits))
meets (name ∷ agent ∷ journal ∷ condition ∷ other ∷ more) = tt
