-- Some stem is free where there are more stems than names, since a name begins with one stem at most.
use Rattle.std.proofs.Common.{◌≡◌, ℕ, zero, suc, ◌+◌, ◌%◌, ◌^◌, ◌<◌, ◌≤◌, Bool, true, false, not, ◌&&◌, ◌||◌, List, [], ◌∷◌, ◌++◌, length, take, drop, Some, refl, sym, ap, ◌∙◌, arith}
use Rattle.std.specs.Prelude.{if◌then◌else◌, nat_eq, find, decimal}
use Rattle.std.specs.List.{filter, list_any, list_all, range_with_len, starts_with}
use Rattle.std.proofs.Math.Nat.{mod-lt}
use Rattle.std.proofs.lemmas.Fmt.{decimal_injective, decimal_by_steps}
use Rattle.std.proofs.lemmas.List.{take-append-drop, append_assoc}
use Rattle.std.proofs.lemmas.List.Folds.{list_all-append}
use Rattle.golog_base.specs.Names.{is_digit}
use Rattle.golog_semantics.specs.Text.{Text}
use Rattle.golog_semantics.proofs.Words.{and-left, and-right, and-both}
use Rattle.golog_semantics.proofs.GroundNumbers.{some-same}
use Rattle.golog_semantics.proofs.Levels.{same_values-eq}
use Rattle.golog_print.specs.Printing.{stem_text}
use Rattle.golog_print.proofs.Numbers.{digit}

pub are-digits : (n : ℕ) → n < 2 ^ 64 → list_all is_digit (decimal n) ≡ true
are-digits n h = decimal_by_steps (λ n ds. list_all is_digit ds ≡ true)
    (λ n k. and-both (is_digit (48 + n)) true (digit n k) refl)
    (λ n ds k w. list_all-append is_digit ds ((48 + n % 10) ∷ [])
    ∙ and-both (list_all is_digit ds) (is_digit (48 + n % 10) && true) w (and-both (is_digit (48 + n % 10)) true (digit (n % 10) (mod-lt n (omega arith))) refl)) n h

-- digits before a `_` are the same where the texts are
digits_split : (xs ys s t : Text) → list_all is_digit xs ≡ true → list_all is_digit ys ≡ true → xs ++ 95 ∷ s ≡ ys ++ 95 ∷ t → xs ≡ ys
digits_split [] [] s t v w e = refl
digits_split [] (y ∷ ys) s t v w e =
    let f : 95 ≡ y = cc in let g : is_digit y ≡ true = and-left (is_digit y) (list_all is_digit ys) w in absurd (cc (ap is_digit f))
digits_split (x ∷ xs) [] s t v w e =
    let f : x ≡ 95 = cc in let g : is_digit x ≡ true = and-left (is_digit x) (list_all is_digit xs) v in absurd (cc (ap is_digit f))
digits_split (x ∷ xs) (y ∷ ys) s t v w e =
    let f : x ≡ y = cc in
    let g : xs ++ 95 ∷ s ≡ ys ++ 95 ∷ t = cc in
    let rest : xs ≡ ys = digits_split xs ys s t (and-right (is_digit x) (list_all is_digit xs) v) (and-right (is_digit y) (list_all is_digit ys) w) g in
    (λ i. f i ∷ rest i)

abbrev begins : ℕ → Text → Bool
begins k name = starts_with nat_eq name (stem_text k)

begun : (k : ℕ) (name : Text) → begins k name ≡ true → (rest : Text) × (name ≡ stem_text k ++ rest)
begun k name e =
    let n = length (stem_text k) in
    let front : stem_text k ≡ take n name = same_values-eq (stem_text k) (take n name) e in
    (drop n name, sym (take-append-drop n name) ∙ ap (λ x. x ++ drop n name) (sym front))

stem-digits : (k : ℕ) (rest : Text) → stem_text k ++ rest ≡ 118 ∷ (decimal k ++ 95 ∷ rest)
stem-digits k rest = ap (λ x. 118 ∷ x) (append_assoc (decimal k) (95 ∷ []) rest)

-- a name begins with one stem at most
one-stem : (name : Text) (j k : ℕ) → j < 2 ^ 64 → k < 2 ^ 64 → begins j name ≡ true → begins k name ≡ true → j ≡ k
one-stem name j k small small' e h =
    let one = begun j name e in
    let other = begun k name h in
    let same : 118 ∷ (decimal j ++ 95 ∷ one.0) ≡ 118 ∷ (decimal k ++ 95 ∷ other.0) = sym (stem-digits j one.0) ∙ sym one.1 ∙ other.1 ∙ stem-digits k other.0 in
    let inner : decimal j ++ 95 ∷ one.0 ≡ decimal k ++ 95 ∷ other.0 = ap (drop 1) same in
    decimal_injective j k small small' (digits_split (decimal j) (decimal k) one.0 other.0 (are-digits j small) (are-digits k small') inner)

-- no name begins with the stem
abbrev pub is_free : List Text → ℕ → Bool
is_free names k = not (list_any (begins k) names)

-- the names that do not begin with a stem
abbrev others : ℕ → List Text → List Text
others k names = filter (λ name. not (begins k name)) names

-- for another stem the names that do not begin with this one are all that count
same-free : (names : List Text) (j k : ℕ) → j < 2 ^ 64 → k < 2 ^ 64 → (j ≡ k → ⊥) → list_any (begins k) (others j names) ≡ list_any (begins k) names
same-free [] j k small small' apart = refl
same-free (name ∷ names) j k small small' apart = go (same-free names j k small small' apart) (begins j name) refl
  where
    at : list_any (begins k) (others j names) ≡ list_any (begins k) names → begins j name ≡ true → (c : Bool) → begins k name ≡ c
        → list_any (begins k) (others j names) ≡ (c || list_any (begins k) names)
    at rest e true h = absurd (apart (one-stem name j k small small' e h))
    at rest e false h = rest

    go : list_any (begins k) (others j names) ≡ list_any (begins k) names → (b : Bool) → begins j name ≡ b
        → list_any (begins k) (if not b then name ∷ others j names else others j names) ≡ (begins k name || list_any (begins k) names)
    go rest true e = at rest e (begins k name) refl
    go rest false e = ap (λ b. begins k name || b) rest

fewer : (names : List Text) (j : ℕ) → length (others j names) ≤ length names
fewer [] j = omega arith
fewer (name ∷ names) j = go (fewer names j) (begins j name)
  where
    go : length (others j names) ≤ length names → (b : Bool) → length (if not b then name ∷ others j names else others j names) ≤ length (name ∷ names)
    go h true = omega (arith, h)
    go h false = omega (arith, h)

less : (names : List Text) (j : ℕ) → list_any (begins j) names ≡ true → length (others j names) < length names
less [] j e = absurd (let z : false ≡ true = e in cc)
less (name ∷ names) j e = go (fewer names j) (less names j) (begins j name) refl e
  where
    go : length (others j names) ≤ length names → (list_any (begins j) names ≡ true → length (others j names) < length names)
        → (b : Bool) → begins j name ≡ b → (b || list_any (begins j) names) ≡ true → length (if not b then name ∷ others j names else others j names) < length (name ∷ names)
    go k rest true h e = omega (arith, k)
    go k rest false h e = let l = rest e in omega (arith, l)

same-found : (names : List Text) (j from count : ℕ) → j < from → from + count ≤ 2 ^ 64
    → find (is_free (others j names)) (range_with_len from count) ≡ find (is_free names) (range_with_len from count)
same-found names j from zero lt small = refl
same-found names j from (suc n) lt small =
    let here : list_any (begins from) (others j names) ≡ list_any (begins from) names = same-free names j from (omega (arith, lt, small)) (omega (arith, small)) (λ e. omega (arith, e, lt)) in
    let rest = same-found names j (from + 1) n (omega (arith, lt)) (omega (arith, small)) in
    rw (here, rest) refl

pub found-passes : (p : ℕ → Bool) (xs : List ℕ) (k : ℕ) → find p xs ≡ Some k → p k ≡ true
found-passes p [] k e = absurd cc
found-passes p (x ∷ xs) k e = go (found-passes p xs k) (p x) refl e
  where
    go : (find p xs ≡ Some k → p k ≡ true) → (b : Bool) → p x ≡ b → (if b then Some x else find p xs) ≡ Some k → p k ≡ true
    go rest true h is = ap p (sym (some-same x k is)) ∙ h
    go rest false h is = rest is

-- some number from one on, of more than there are names, is that of a free stem
abbrev pub HasFree : List Text → ℕ → ℕ → Type 0
HasFree names from count = (k : ℕ) × (find (is_free names) (range_with_len from count) ≡ Some k)

pub some-free : (names : List Text) (from count : ℕ) → from + count ≤ 2 ^ 64 → length names < count → HasFree names from count
some-free names from zero small lt = absurd (omega (arith, lt))
some-free names from (suc n) small lt =
    go (list_any (begins from) names) refl (λ h. some-free (others from names) (from + 1) n (omega (arith, small)) (omega (arith, lt, h)))
  where
    go : (b : Bool) → list_any (begins from) names ≡ b → (length (others from names) < length names → HasFree (others from names) (from + 1) n) → HasFree names from (suc n)
    go false e rest = (from, rw e refl)
    go true e rest =
        let next = rest (less names from e) in
        let found : find (is_free names) (range_with_len (from + 1) n) ≡ Some next.0 =
        sym (same-found names from (from + 1) n (omega arith) (omega (arith, small))) ∙ next.1 in
        (next.0, rw e found)

pub ruleset laws = (some-free, found-passes)
