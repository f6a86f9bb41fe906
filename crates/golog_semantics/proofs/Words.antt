-- Words of a text, which name bytes make up, and where they end.
use Rattle.std.proofs.Common.{◌≡◌, ℕ, suc, ◌+◌, ◌%◌, ◌<◌, ◌^◌, Bool, true, false, ◌&&◌, ◌||◌, ◌==◌, [], ◌∷◌, ◌++◌, refl, sym, ap, ◌∙◌, arith, ℤ, pos, negsuc}
use Rattle.std.specs.Prelude.{⊤, codes, decimal, nat_le}
use Rattle.std.specs.List.{list_all}
use Rattle.std.specs.Fmt.{signed_decimal}
use Rattle.std.specs.Int.Signed.{mag}
use Rattle.std.proofs.lemmas.List.Folds.{list_all-append}
use Rattle.std.proofs.lemmas.Bool.{le-leb}
use Rattle.std.proofs.Math.Nat.{mod-lt}
use Rattle.std.proofs.lemmas.Fmt.{decimal_by_steps}
use Rattle.golog_base.specs.Names.{is_digit, begins_name, continues_name, is_name}
use Rattle.golog_semantics.specs.Text.{Text}

-- bytes of names alone
abbrev pub IsWord : Text → Type 0
IsWord bytes = list_all continues_name bytes ≡ true

-- the text does not go on with a byte of a name
abbrev pub Stops : Text → Type 0
Stops [] = ⊤
Stops (b ∷ bytes) = continues_name b ≡ false

pub and-left : (a b : Bool) → (a && b) ≡ true → a ≡ true
and-left true b h = refl
and-left false b h = h

pub and-right : (a b : Bool) → (a && b) ≡ true → b ≡ true
and-right true b h = h
and-right false b h = cc

pub and-both : (a b : Bool) → a ≡ true → b ≡ true → (a && b) ≡ true
and-both true b h k = k
and-both false b h k = h

or-first : (a b c : Bool) → a ≡ true → (a || b || c) ≡ true
or-first true b c h = refl
or-first false b c h = cc

or-second : (a b c : Bool) → b ≡ true → (a || b || c) ≡ true
or-second true b c h = refl
or-second false true c h = refl
or-second false false c h = cc

-- where two texts begin with words, the words and what follows are the same
pub word_split : (xs ys s t : Text) → IsWord xs → IsWord ys → Stops s → Stops t → xs ++ s ≡ ys ++ t → (xs ≡ ys) × (s ≡ t)
word_split [] [] s t v w h k e = (refl, e)
word_split [] (y ∷ ys) [] t v w h k e = absurd (cc)
word_split [] (y ∷ ys) (b ∷ s) t v w h k e =
    let f : b ≡ y = cc in let g : continues_name y ≡ true = and-left (continues_name y) (list_all continues_name ys) w in absurd (cc (ap continues_name f))
word_split (x ∷ xs) [] s [] v w h k e = absurd (cc)
word_split (x ∷ xs) [] s (b ∷ t) v w h k e =
    let f : x ≡ b = cc in let g : continues_name x ≡ true = and-left (continues_name x) (list_all continues_name xs) v in absurd (cc (ap continues_name f))
word_split (x ∷ xs) (y ∷ ys) s t v w h k e =
    let f : x ≡ y = cc in
    let g : xs ++ s ≡ ys ++ t = cc in
    let rest : (xs ≡ ys) × (s ≡ t) = word_split xs ys s t (and-right (continues_name x) (list_all continues_name xs) v) (and-right (continues_name y) (list_all continues_name ys) w) h k g in
    (λ i. f i ∷ rest.0 i, rest.1)

pub name-word : (bytes : Text) → is_name bytes ≡ true → IsWord bytes
name-word [] h = refl
name-word (b ∷ bytes) h =
    and-both (continues_name b) (list_all continues_name bytes)
    (or-first (begins_name b) (is_digit b) (b == 45) (and-left (begins_name b) (list_all continues_name bytes) h))
    (and-right (begins_name b) (list_all continues_name bytes) h)

one-digit : (d : ℕ) → d < 10 → is_digit (48 + d) ≡ true
one-digit d h = and-both (nat_le 48 (48 + d)) (nat_le (48 + d) 57) (le-leb 48 (48 + d) (omega arith)) (le-leb (48 + d) 57 (omega arith))

digit : (d : ℕ) → d < 10 → continues_name (48 + d) ≡ true
digit d h = or-second (begins_name (48 + d)) (is_digit (48 + d)) (48 + d == 45) (one-digit d h)

pub decimal-word : (n : ℕ) → n < 2 ^ 64 → IsWord (decimal n)
decimal-word n h = decimal_by_steps (λ n ds. IsWord ds)
    (λ n k. and-both (continues_name (48 + n)) true (digit n k) refl)
    (λ n ds k w. list_all-append continues_name ds ((48 + n % 10) ∷ [])
    ∙ and-both (list_all continues_name ds) (continues_name (48 + n % 10) && true) w (and-both (continues_name (48 + n % 10)) true (digit (n % 10) (mod-lt n (omega arith))) refl)) n h

-- the digits of a number
decimal-digits : (n : ℕ) → n < 2 ^ 64 → list_all is_digit (decimal n) ≡ true
decimal-digits n h = decimal_by_steps (λ n ds. list_all is_digit ds ≡ true)
    (λ n k. and-both (is_digit (48 + n)) true (one-digit n k) refl)
    (λ n ds k w. list_all-append is_digit ds ((48 + n % 10) ∷ [])
    ∙ and-both (list_all is_digit ds) (is_digit (48 + n % 10) && true) w (and-both (is_digit (48 + n % 10)) true (one-digit (n % 10) (mod-lt n (omega arith))) refl)) n h

not-digits : list_all is_digit (codes "unknown") ≡ true → ⊥
not-digits e = cc

not-minus : (text : Text) → ◌≡◌ {A = Text} (45 ∷ text) (codes "unknown") → ⊥
not-minus text e = cc

-- a number is not written as an unknown value
pub signed-known : (z : ℤ) → mag z < 2 ^ 63 → signed_decimal z ≡ codes "unknown" → ⊥
signed-known (pos n) h e = not-digits (sym (ap (list_all is_digit) e) ∙ decimal-digits n (omega arith))
signed-known (negsuc n) h e = not-minus (decimal (suc n)) e

pub signed-word : (z : ℤ) → mag z < 2 ^ 63 → IsWord (signed_decimal z)
signed-word (pos n) h = decimal-word n (omega arith)
signed-word (negsuc n) h = decimal-word (suc n) (omega arith)
