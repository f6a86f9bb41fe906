-- Names, numbers and variables are atoms.
use Rattle.std.proofs.Common.{◌≡◌, ℕ, ◌<◌, ◌^◌, Bool, true, false, ◌||◌, ◌==◌, [], ◌∷◌, ◌++◌, length, refl, sym, ap, ◌∙◌, arith, ℤ, pos, negsuc}
use Rattle.std.specs.Prelude.{decimal}
use Rattle.std.specs.List.{list_all}
use Rattle.std.specs.Fmt.{signed_decimal}
use Rattle.std.specs.Int.Signed.{mag}
use Rattle.std.proofs.lemmas.Bool.{eqb-true}
use Rattle.std.proofs.lemmas.Fmt.{decimal_nonempty}
use Rattle.std.proofs.lemmas.List.Folds.{list_all-append}
use Rattle.golog_base.specs.Names.{is_letter, is_digit, continues_name, is_name}
use Rattle.golog_form.specs.Tokens.{class, is_atom, is_separator}
use Rattle.golog_form.specs.Printing.{atom_fits}
use Rattle.golog_semantics.specs.Text.{Text}
use Rattle.golog_semantics.proofs.Words.{IsWord, and-left, and-right, and-both, name-word, decimal-word, signed-word}
use Rattle.golog_print.specs.Printing.{stem_text}

-- a byte that continues names is none that does not
other : (b n : ℕ) → continues_name n ≡ false → continues_name b ≡ true → (b == n) ≡ false
other b n h k = go (b == n) refl
  where
    go : (c : Bool) → (b == n) ≡ c → c ≡ false
    go false e = refl
    go true e =
        let same : b ≡ n = eqb-true b n e in
        let wrong : true ≡ false = sym k ∙ ap continues_name same ∙ h in absurd (cc)

arrange : (l u d m p q r : Bool) → (((l || u) || d) || m) ≡ true → ((((((l || d) || u) || p) || m) || q) || r) ≡ true
arrange true u d m p q r e = refl
arrange false u true m p q r e = refl
arrange false true false m p q r e = refl
arrange false false false true true q r e = refl
arrange false false false true false q r e = refl
arrange false false false false p q r e = absurd (let z : false ≡ true = e in cc)

byte-atom : (b : ℕ) → continues_name b ≡ true → is_atom (class b) ≡ true
byte-atom b h =
    let plain : is_separator b ≡ false = rw (other b 32 refl h, other b 9 refl h, other b 10 refl h, other b 13 refl h) refl in
    let atom = arrange (is_letter b) (b == 95) (is_digit b) (b == 45) (b == 43) (b == 61) (b == 60) h in
    rw (plain, other b 59 refl h, other b 40 refl h, other b 41 refl h, atom) refl

all-atoms : (text : Text) → IsWord text → list_all (λ b. is_atom (class b)) text ≡ true
all-atoms [] w = refl
all-atoms (b ∷ text) w =
    and-both (is_atom (class b)) (list_all (λ b. is_atom (class b)) text)
    (byte-atom b (and-left (continues_name b) (list_all continues_name text) w))
    (all-atoms text (and-right (continues_name b) (list_all continues_name text) w))

pub word-atom : (text : Text) → IsWord text → 0 < length text → atom_fits text ≡ true
word-atom [] w some = absurd (omega (arith, some))
word-atom (b ∷ text) w some =
    let all = all-atoms (b ∷ text) w in
    and-both (is_atom (class b)) (list_all (λ b. is_atom (class b)) (b ∷ text))
    (and-left (is_atom (class b)) (list_all (λ b. is_atom (class b)) text) all) all

not-empty : (text : Text) → is_name text ≡ true → 0 < length text
not-empty [] e = absurd (let z : false ≡ true = e in cc)
not-empty (b ∷ text) e = omega arith

pub name-atom : (text : Text) → is_name text ≡ true → atom_fits text ≡ true
name-atom text e = word-atom text (name-word text e) (not-empty text e)

pub count-atom : (n : ℕ) → n < 2 ^ 64 → atom_fits (decimal n) ≡ true
count-atom n h = word-atom (decimal n) (decimal-word n h) (decimal_nonempty n h)

signed-some : (z : ℤ) → mag z < 2 ^ 63 → 0 < length (signed_decimal z)
signed-some (pos n) h = decimal_nonempty n (omega (arith, h))
signed-some (negsuc n) h = omega arith

pub number-atom : (z : ℤ) → mag z < 2 ^ 63 → atom_fits (signed_decimal z) ≡ true
number-atom z h = word-atom (signed_decimal z) (signed-word z h) (signed-some z h)

pub stem-word : (k : ℕ) → k < 2 ^ 64 → IsWord (stem_text k)
stem-word k h =
    list_all-append continues_name (decimal k) (95 ∷ [])
    ∙ and-both (list_all continues_name (decimal k)) true (decimal-word k h) refl

pub variable-word : (k x : ℕ) → k < 2 ^ 64 → x < 2 ^ 64 → IsWord (stem_text k ++ decimal x)
variable-word k x h less =
    list_all-append continues_name (stem_text k) (decimal x)
    ∙ and-both (list_all continues_name (stem_text k)) (list_all continues_name (decimal x)) (stem-word k h) (decimal-word x less)

begun-some : (b : ℕ) (text more : Text) → 0 < length ((b ∷ text) ++ more)
begun-some b text more = omega arith

pub variable-atom : (k x : ℕ) → k < 2 ^ 64 → x < 2 ^ 64 → atom_fits (stem_text k ++ decimal x) ≡ true
variable-atom k x h less = word-atom (stem_text k ++ decimal x) (variable-word k x h less) (begun-some 118 (decimal k ++ 95 ∷ []) (decimal x))

pub ruleset laws = (name-atom, count-atom, number-atom, variable-atom)
