-- A word that spells a number begins with a digit.
use Rattle.std.proofs.Common.{◌≡◌, ◌∙◌, ap, refl, sym, true, false, true≢false, ℕ, ◌≤◌, Bool, not, [], ◌∷◌, arith, nat_le}
use Rattle.std.specs.Prelude.{◌==◌, ◌&&◌, ◌||◌, nat_eq}
use Rattle.std.specs.List.{list_all}
use Rattle.std.proofs.lemmas.Bool.{false_from_ne_true}
use Rattle.std.proofs.lemmas.Bool.Decides.{nat_tests}
use Rattle.golog_base.specs.Names.{is_digit}
use Rattle.golog_base.specs.Numbers.{amount, are_digits, is_natural, is_positive}
use Rattle.golog_words.specs.Commands.{Text, is_count, is_file_word, is_up_to}
use Rattle.golog_words.proofs.Conditions.{first, second}

-- a digit is no `-`
no_dash : (x : ℕ) → is_digit x ≡ true → (x == 45) ≡ false
no_dash x digit = grind (arith, nat_tests)

-- a number without a sign begins with a digit
first_digit : (x : ℕ) (xs : Text) (b : Bool) → (b ≡ true → is_digit x ≡ true) → (b || is_positive (x ∷ xs)) ≡ true
    → is_digit x ≡ true
first_digit x xs true h natural = h refl
first_digit x xs false h natural =
    let digits : are_digits (x ∷ xs) ≡ true = first (are_digits (x ∷ xs)) (not (nat_eq x 48)) natural in
    first (is_digit x) (list_all is_digit xs) digits

begins : (x : ℕ) (xs : Text) → is_natural (x ∷ xs) ≡ true → is_digit x ≡ true
begins x [] natural = first_digit x [] (nat_eq x 48) (λ h. grind (arith, nat_tests)) natural
begins x (y ∷ ys) natural = first_digit x (y ∷ ys) false (λ h. absurd (true≢false (sym h))) natural

pub natural_of : (most : ℕ) (word : Text) → is_up_to most word ≡ true → is_natural word ≡ true
natural_of most word fits = second (nat_le (amount word) most && nat_le 1 (amount word)) (is_natural word) fits

at_most : (n most : ℕ) → nat_le n most ≡ true → n ≤ most
at_most n most h = grind (arith, nat_tests)

at_least : (n : ℕ) → nat_le 1 n ≡ true → 1 ≤ n
at_least n h = grind (arith, nat_tests)

-- such a number is from 1 to the greatest one
pub within : (most : ℕ) (word : Text) → is_up_to most word ≡ true → (1 ≤ amount word) × (amount word ≤ most)
within most word fits =
    let sizes = first (nat_le (amount word) most && nat_le 1 (amount word)) (is_natural word) fits in (
      at_least (amount word) (second (nat_le (amount word) most) (nat_le 1 (amount word)) sizes),
      at_most (amount word) most (first (nat_le (amount word) most) (nat_le 1 (amount word)) sizes),
    )

pub no_dash_before : (most x : ℕ) (xs : Text) → is_up_to most (x ∷ xs) ≡ true → (x == 45) ≡ false
no_dash_before most x xs fits = no_dash x (begins x xs (natural_of most (x ∷ xs) fits))

is_file : (most : ℕ) (word : Text) → is_up_to most word ≡ true → is_file_word word ≡ true
is_file most [] fits = absurd (true≢false (sym (natural_of most [] fits)))
is_file most (x ∷ xs) fits = ap not (no_dash_before most x xs fits)

-- what can't name a file spells no number of workers
pub no_count : (word : Text) → is_file_word word ≡ false → is_count word ≡ false
no_count word no_file = false_from_ne_true (is_count word) (λ fits. true≢false (sym (is_file 16 word fits) ∙ no_file))
