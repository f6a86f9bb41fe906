-- The text of a count is a number, and its value is the count.
use Rattle.std.proofs.Common.{◌≡◌, ℕ, zero, suc, ◌+◌, ◌-◌, ◌*◌, ◌/◌, ◌%◌, ◌^◌, ◌<◌, ◌≤◌, Bool, true, false, not, ◌&&◌, ◌||◌, ℤ, pos, negsuc, List, [], ◌∷◌, ◌++◌, Some, None, refl, sym, ap, ◌∙◌, arith}
use Rattle.std.specs.Prelude.{if◌then◌else◌, nat_eq, nat_lt, nat_le, decimal}
use Rattle.std.specs.List.{list_all}
use Rattle.std.proofs.Math.Nat.{mod-lt, div-add-mod}
use Rattle.std.specs.Fmt.{signed_decimal}
use Rattle.std.specs.Int.Signed.{mag}
use Rattle.std.proofs.lemmas.Bool.{le-leb, lt-leb, leb-true, eqb-true}
use Rattle.std.proofs.lemmas.Fmt.{decimal_by_steps}
use Rattle.std.proofs.lemmas.List.Folds.{list_all-append}
use Rattle.golog_base.specs.Names.{is_digit, begins_name, continues_name, is_name}
use Rattle.golog_base.specs.Numbers.{are_digits, is_zero, is_positive, has_sign, without_sign, is_number, amount_on, amount, minus, below_zero, value}
use Rattle.golog_semantics.proofs.Words.{and-both, and-left, and-right}

pub digit : (d : ℕ) → d < 10 → is_digit (48 + d) ≡ true
digit d h = and-both (nat_le 48 (48 + d)) (nat_le (48 + d) 57) (le-leb 48 (48 + d) (omega arith)) (le-leb (48 + d) 57 (omega arith))

-- one more digit
amount-push : (m : ℕ) (ds : List ℕ) (d : ℕ) → amount_on m (ds ++ (48 + d) ∷ []) ≡ 10 * amount_on m ds + d
amount-push m [] d = omega arith
amount-push m (b ∷ ds) d = amount-push (10 * m + (b - 48)) ds d

-- digits that spell the number, of which the first is no `0` where there are others
record Spells (n : ℕ) (ds : List ℕ) : Type 0 where
  digits : are_digits ds ≡ true
  amount : amount ds ≡ n
  positive : 0 < n → is_positive ds ≡ true
  none : n ≡ 0 → ds ≡ 48 ∷ []

one-digit : (n : ℕ) → n < 10 → Spells n ((48 + n) ∷ [])
one-digit n h = record {
  digits = rw (digit n h) refl;
  amount = omega arith;
  positive = λ some. let other : nat_eq (48 + n) 48 ≡ false = grind arith in rw (digit n h, other) refl;
  none = λ e. ap (λ m. (48 + m) ∷ []) e;
}

positive-push : (ds : List ℕ) (d : ℕ) → d < 10 → is_positive ds ≡ true → is_positive (ds ++ (48 + d) ∷ []) ≡ true
positive-push [] d h e = absurd cc
positive-push (b ∷ ds) d h e =
    let more : list_all is_digit (ds ++ (48 + d) ∷ []) ≡ (list_all is_digit ds && (is_digit (48 + d) && true)) = list_all-append is_digit ds ((48 + d) ∷ []) in
    go (is_digit b) (list_all is_digit ds) (not (nat_eq b 48)) e (more ∙ rw (digit d h) refl)
  where
    go : (a c g : Bool) → ((a && c) && g) ≡ true → list_all is_digit (ds ++ (48 + d) ∷ []) ≡ (c && true)
        → ((a && list_all is_digit (ds ++ (48 + d) ∷ [])) && g) ≡ true
    go true true true e h = rw h refl
    go true true false e h = absurd cc
    go true false g e h = absurd cc
    go false c g e h = absurd cc

digits-of-positive : (ds : List ℕ) → is_positive ds ≡ true → are_digits ds ≡ true
digits-of-positive [] e = absurd cc
digits-of-positive (b ∷ ds) e = and-left (are_digits (b ∷ ds)) (not (nat_eq b 48)) e

more-digits : (n : ℕ) (ds : List ℕ) → 10 ≤ n → Spells (n / 10) ds → Spells n (ds ++ (48 + n % 10) ∷ [])
more-digits n ds h s =
    let last : n % 10 < 10 = mod-lt n (omega arith) in
    let whole : 10 * (n / 10) + n % 10 ≡ n = div-add-mod n 10 in
    let front : 0 < n / 10 = omega (arith, h, last, whole) in
    let up : is_positive (ds ++ (48 + n % 10) ∷ []) ≡ true = positive-push ds (n % 10) last (s.positive front) in record {
      digits = digits-of-positive (ds ++ (48 + n % 10) ∷ []) up;
      amount = amount-push 0 ds (n % 10) ∙ ap (λ m. 10 * m + n % 10) s.amount ∙ whole;
      positive = λ _. up;
      none = λ e. absurd (omega (arith, h, e));
    }

spells : (n : ℕ) → n < 2 ^ 64 → Spells n (decimal n)
spells n h = decimal_by_steps Spells one-digit more-digits n h

unsigned : (ds : List ℕ) → are_digits ds ≡ true → (has_sign ds ≡ false) × (without_sign ds ≡ ds)
unsigned [] e = absurd cc
unsigned (b ∷ ds) e =
    let other : nat_eq b 45 ≡ false = go (nat_eq b 45) refl in (other, rw other refl)
  where
    go : (c : Bool) → nat_eq b 45 ≡ c → c ≡ false
    go false h = refl
    go true h = let same : b ≡ 45 = grind (arith, h) in absurd (let wrong : (is_digit 45 && list_all is_digit ds) ≡ true = sym (ap (λ x. is_digit x && list_all is_digit ds) same) ∙ e in cc)

pub count-number : (n : ℕ) → n < 2 ^ 31 → is_number (decimal n) ≡ true
count-number zero h = ap is_number ((spells 0 (omega arith)).none refl)
count-number (suc n) h =
    let s = spells (suc n) (omega (arith, h)) in
    let plain = unsigned (decimal (suc n)) s.digits in
    let up : is_positive (without_sign (decimal (suc n))) ≡ true = ap is_positive plain.1 ∙ s.positive (omega arith) in
    go (is_zero (decimal (suc n))) up
  where
    go : (b : Bool) → is_positive (without_sign (decimal (suc n))) ≡ true → (if b then true else is_positive (without_sign (decimal (suc n)))) ≡ true
    go true e = refl
    go false e = e

pub count-unsigned : (n : ℕ) → n < 2 ^ 31 → has_sign (decimal n) ≡ false
count-unsigned n h = (unsigned (decimal n) (spells n (omega (arith, h))).digits).0

pub count-value : (n : ℕ) → n < 2 ^ 31 → value (decimal n) ≡ Some (pos n)
count-value n h =
    let s = spells n (omega (arith, h)) in
    let below : nat_lt n (2 ^ 31) ≡ true = grind arith in
    rw (count-unsigned n h, s.amount, below) refl

-- no number is a name
no-letter : (b : ℕ) → b ≤ 57 → begins_name b ≡ false
no-letter b h =
    let upper : nat_le 65 b ≡ false = lt-leb 65 b (omega (arith, h)) in
    let lower : nat_le 97 b ≡ false = lt-leb 97 b (omega (arith, h)) in
    let other : nat_eq b 95 ≡ false = go (nat_eq b 95) refl in
    (λ i. ((upper i && nat_le b 90) || (lower i && nat_le b 122)) || other i)
  where
    go : (c : Bool) → nat_eq b 95 ≡ c → c ≡ false
    go false e = refl
    go true e = let same : b ≡ 95 = eqb-true b 95 e in absurd (omega (arith, same, h))

digits-no-name : (ds : List ℕ) → are_digits ds ≡ true → is_name ds ≡ false
digits-no-name [] e = refl
digits-no-name (b ∷ ds) e =
    let digits : is_digit b ≡ true = and-left (is_digit b) (list_all is_digit ds) e in
    ap (λ c. c && list_all continues_name ds) (no-letter b (leb-true b 57 (and-right (nat_le 48 b) (nat_le b 57) digits)))

minus-number : (ds : List ℕ) → is_positive ds ≡ true → is_number (45 ∷ ds) ≡ true
minus-number [] e = absurd (let z : false ≡ true = e in cc)
minus-number (b ∷ ds) e = e

minus-suc : (n : ℕ) → minus (suc n) ≡ negsuc n
minus-suc n =
    let other : nat_eq (suc n) 0 ≡ false = go (nat_eq (suc n) 0) refl in
    let less : suc n - 1 ≡ n = omega arith in (λ i. if other i then pos 0 else negsuc (less i))
  where
    go : (c : Bool) → nat_eq (suc n) 0 ≡ c → c ≡ false
    go false e = refl
    go true e = let same : suc n ≡ 0 = eqb-true (suc n) 0 e in absurd (omega (arith, same))

below-zero : (n : ℕ) → suc n ≤ 2 ^ 31 → below_zero (suc n) ≡ Some (negsuc n)
below-zero n h = ap (λ (c : Bool). if c then Some (minus (suc n)) else None) (le-leb (suc n) (2 ^ 31) h) ∙ ap Some (minus-suc n)

pub signed-no-name : (z : ℤ) → mag z < 2 ^ 31 → is_name (signed_decimal z) ≡ false
signed-no-name (pos n) h = digits-no-name (decimal n) (spells n (omega (arith, h))).digits
signed-no-name (negsuc n) h = refl

pub signed-number : (z : ℤ) → mag z < 2 ^ 31 → is_number (signed_decimal z) ≡ true
signed-number (pos n) h = count-number n (omega (arith, h))
signed-number (negsuc n) h = minus-number (decimal (suc n)) ((spells (suc n) (omega (arith, h))).positive (omega arith))

pub signed-value : (z : ℤ) → mag z < 2 ^ 31 → value (signed_decimal z) ≡ Some z
signed-value (pos n) h = count-value n (omega (arith, h))
signed-value (negsuc n) h = ap below_zero (spells (suc n) (omega (arith, h))).amount ∙ below-zero n (omega (arith, h))

pub ruleset laws = (count-number, count-value, signed-number, signed-value)
