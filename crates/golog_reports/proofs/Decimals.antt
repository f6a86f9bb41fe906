-- The text of a count is digits without a leading zero, and such digits are the text of their amount.
use Rattle.std.proofs.Common.{◌≡◌, ℕ, zero, suc, ◌<◌, ◌^◌, Bool, true, false, not, ◌&&◌, ◌||◌, if◌then◌else◌, ℤ, pos, negsuc, [], ◌∷◌, length, get_or, refl, sym, ap, ◌∙◌, arith}
use Rattle.std.specs.Prelude.{decimal, nat_eq, nat_le}
use Rattle.std.specs.Fmt.{signed_decimal}
use Rattle.std.specs.Int.Signed.{mag}
use Rattle.std.specs.List.{list_all}
use Rattle.std.proofs.lemmas.Bool.{le-leb, leb-true, eqb-true, or_right}
use Rattle.std.proofs.lemmas.Fmt.{decimal_digit, first_decimal, digits_decimal, digits_value-decimal, decimal-digits_value}
use Rattle.std.proofs.lemmas.Str.Parse.{IsNumeralModel, numerals_by_fold}
use Rattle.golog_base.specs.Names.{is_digit}
use Rattle.golog_base.specs.Numbers.{are_digits, is_zero, is_positive, without_sign, is_number, amount_on, amount}
use Rattle.golog_semantics.specs.Text.{Text}
use Rattle.golog_semantics.proofs.Words.{and-both, and-left, and-right}
use Rattle.golog_reports.specs.Forms.{is_natural}

abbrev AreDigits : Text → Type 0
AreDigits digits = list_all is_digit digits ≡ true

own : IsNumeralModel AreDigits (amount_on 0)
own = numerals_by_fold AreDigits
    (record {
      empty = refl;
      parts = λ c cs h. let d = and-left (is_digit c) (list_all is_digit cs) h in
          ((leb-true 48 c (and-left (nat_le 48 c) (nat_le c 57) d), leb-true c 57 (and-right (nat_le 48 c) (nat_le c 57) d)), and-right (is_digit c) (list_all is_digit cs) h);
      more = λ c cs k h. and-both (is_digit c) (list_all is_digit cs) (and-both (nat_le 48 c) (nat_le c 57) (le-leb 48 c k.0) (le-leb c 57 k.1)) h;
    })
    amount_on
    (record { empty = λ n. refl; more = λ n c cs k. ap (λ m. amount_on m cs) (omega arith) })

pub amount-decimal : (n : ℕ) → n < 2 ^ 64 → amount (decimal n) ≡ n
amount-decimal n h = digits_value-decimal own n h

not-zero : (b : ℕ) → not (nat_eq b 48) ≡ true → b ≡ 48 → ⊥
not-zero b h e = let wrong : not (nat_eq 48 48) ≡ true = sym (ap (λ x. not (nat_eq x 48)) e) ∙ h in cc

-- digits, at least one, and a leading zero only where there is no other
record AreWhole (digits : Text) : Type 0 where
  all : AreDigits digits
  some : 0 < length digits
  leading : get_or digits 0 0 ≡ 48 → length digits ≡ 1

positive-whole : (b : ℕ) (bs : Text) → is_positive (b ∷ bs) ≡ true → AreWhole (b ∷ bs)
positive-whole b bs h = record {
  all = and-left (are_digits (b ∷ bs)) (not (nat_eq b 48)) h;
  some = omega arith;
  leading = λ e. absurd (not-zero b (and-right (are_digits (b ∷ bs)) (not (nat_eq b 48)) h) e);
}

natural-whole : (digits : Text) → is_natural digits ≡ true → AreWhole digits
natural-whole [] h = absurd (cc)
natural-whole (b ∷ []) h = go (nat_eq b 48) refl h
  where
    go : (c : Bool) → nat_eq b 48 ≡ c → (c || is_positive (b ∷ [])) ≡ true → AreWhole (b ∷ [])
    go true e h = record { all = ap (λ x. is_digit x && true) (eqb-true b 48 e); some = omega arith; leading = λ _. refl }
    go false e h = positive-whole b [] h
natural-whole (b ∷ c ∷ cs) h = positive-whole b (c ∷ cs) h

pub natural-digits : (digits : Text) → is_natural digits ≡ true → list_all is_digit digits ≡ true
natural-digits digits h = (natural-whole digits h).all

pub decimal-amount : (digits : Text) → is_natural digits ≡ true → amount digits < 2 ^ 64 → decimal (amount digits) ≡ digits
decimal-amount digits h small = let w = natural-whole digits h in decimal-digits_value own digits w.all w.some w.leading small

from-first : (digits : Text) → AreDigits digits → 48 < get_or digits 0 0 → is_positive digits ≡ true
from-first [] all first = absurd (omega (arith, first))
from-first (b ∷ bs) all first = and-both (are_digits (b ∷ bs)) (not (nat_eq b 48)) all (go (nat_eq b 48) refl)
  where
    go : (c : Bool) → nat_eq b 48 ≡ c → not (nat_eq b 48) ≡ true
    go false e = ap not e
    go true e = absurd (omega (arith, first, eqb-true b 48 e))

pub decimal-positive : (n : ℕ) → 0 < n → n < 2 ^ 64 → is_positive (decimal n) ≡ true
decimal-positive n some h = from-first (decimal n) (digits_decimal own n h) (first_decimal n some h)

pub decimal-natural : (n : ℕ) → n < 2 ^ 64 → is_natural (decimal n) ≡ true
decimal-natural zero h = ap is_natural (decimal_digit 0 (omega arith))
decimal-natural (suc n) h = or_right (is_zero (decimal (suc n))) (is_positive (decimal (suc n))) (decimal-positive (suc n) (omega arith) h)

-- digits without a leading zero are a number
unsigned : (digits : Text) → is_positive digits ≡ true → without_sign digits ≡ digits
unsigned [] h = refl
unsigned (b ∷ bs) h = go (nat_eq b 45) refl
  where
    go : (c : Bool) → nat_eq b 45 ≡ c → (if c then bs else b ∷ bs) ≡ b ∷ bs
    go false e = refl
    go true e =
        let same : b ≡ 45 = eqb-true b 45 e in
        let digit = and-left (is_digit b) (list_all is_digit bs) (and-left (are_digits (b ∷ bs)) (not (nat_eq b 48)) h) in
        absurd (let wrong : is_digit 45 ≡ true = sym (ap is_digit same) ∙ digit in cc)

if-positive : (z : Bool) (text : Text) → is_positive (without_sign text) ≡ true → (if z then true else is_positive (without_sign text)) ≡ true
if-positive true text h = refl
if-positive false text h = h

natural-number : (digits : Text) → is_natural digits ≡ true → is_number digits ≡ true
natural-number digits h = go (is_zero digits) h
  where
    go : (z : Bool) → (z || is_positive digits) ≡ true → (if z then true else is_positive (without_sign digits)) ≡ true
    go true h = refl
    go false h = ap is_positive (unsigned digits h) ∙ h

minus-number : (digits : Text) → is_positive digits ≡ true → is_number (45 ∷ digits) ≡ true
minus-number [] h = absurd (cc)
minus-number (b ∷ bs) h = h

pub signed-number : (z : ℤ) → mag z < 2 ^ 63 → is_number (signed_decimal z) ≡ true
signed-number (pos n) h = natural-number (decimal n) (decimal-natural n (omega arith))
signed-number (negsuc n) h = minus-number (decimal (suc n)) (decimal-positive (suc n) (omega arith) (omega arith))
