-- The places of states by their hashes.
use Rattle.std.proofs.Common.{◌≡◌, ℕ, zero, suc, ◌+◌, ◌-◌, ◌<◌, ◌==◌, ◌&&◌, ◌||◌, inl, inr, Bool, true, false, if◌then◌else◌, List, [], ◌∷◌, ◌++◌, length, Option, Some, None, refl, sym, ap, ◌∙◌, arith}
use Rattle.std.specs.Prelude.{MatchOption, slice_get}
use Rattle.std.specs.List.{list_any}
use Rattle.std.specs.Option.{is_some, option_map_or}
use Rattle.std.proofs.lemmas.Bool.{cases_lt, eqb-true, eq-eqb}
use Rattle.std.proofs.lemmas.Option.{slice_get_past}
use Rattle.golog_base.proofs.Bools.{or-false, or-true}
use Rattle.golog_semantics.specs.Same.{same_values}
use Rattle.golog_semantics.specs.Truth.{Values}
use Rattle.golog_semantics.proofs.GroundNumbers.{slice_get-left, slice_get-right}
use Rattle.golog_semantics.proofs.Levels.{same_values-eq}
use Rattle.golog_semantics.proofs.Tests.{and_cases}
use Rattle.golog_memo.specs.Placed.{is_placed}
use Rattle.golog_memo.specs.declared.places.Places.{Places}
use Rattle.golog_find.specs.declared.numbered.Numbered.{Numbered}
use Rattle.golog_find.specs.Numbers.{Sees, is_pair, stands, with_numbered}
use Rattle.golog_find.specs.Rows.{state_hash}

-- what passes at a place passes somewhere
pub any-there : {A : Type 0} (f : A → Bool) (xs : List A) (i : ℕ) → option_map_or f (slice_get xs i) false ≡ true → list_any f xs ≡ true
any-there f [] i e = absurd (cc)
any-there f (x ∷ xs) zero e = ap (λ b. b || list_any f xs) e
any-there f (x ∷ xs) (suc i) e = ap (λ b. f x || b) (any-there f xs i e) ∙ or-true (f x)

-- what passes at no place passes nowhere
pub none-there : {A : Type 0} (f : A → Bool) (xs : List A) → ((i : ℕ) → option_map_or f (slice_get xs i) false ≡ false) → list_any f xs ≡ false
none-there f [] h = refl
none-there f (x ∷ xs) h = ap (λ b. b || list_any f xs) (h 0) ∙ none-there f xs (λ i. h (suc i))

-- equal pairs have one hash
pair-hash : (left : ℕ) (values : Values) (n : Numbered) → is_pair left values n ≡ true → state_hash left values ≡ state_hash n.left n.state
pair-hash left values n e =
    let k = and_cases (left == n.left) (same_values values n.state) e in
    let one = eqb-true left n.left k.0 in
    let other = same_values-eq values n.state k.1 in
    (λ i. state_hash (one i) (other i))

-- a pair stands nowhere that stands at no place of its hash
pub none-of_hash : (seen : Places) (states : List Numbered) (left hash : ℕ) (values : Values) → Sees seen states → hash ≡ state_hash left values
    → ((place : ℕ) → is_placed seen hash place ≡ true → option_map_or (is_pair left values) (slice_get states place) false ≡ false)
    → list_any (is_pair left values) states ≡ false
none-of_hash seen states left hash values h is none = none-there (is_pair left values) states (λ place. at place (slice_get states place) refl)
  where
    at : (place : ℕ) (o : Option Numbered) → slice_get states place ≡ o → option_map_or (is_pair left values) o false ≡ false
    at place None e = refl
    at place (Some n) e = go (is_pair left values n) refl
      where
        go : (b : Bool) → is_pair left values n ≡ b → b ≡ false
        go false k = refl
        go true k =
            let placed : is_placed seen hash place ≡ true =
            h.placed hash place
            ∙ ap (λ (o : Option Numbered). option_map_or (λ (m : Numbered). hash == state_hash m.left m.state) o false) e
            ∙ eq-eqb hash (state_hash n.left n.state) (is ∙ pair-hash left values n k) in
            sym k ∙ sym (ap (λ (o : Option Numbered). option_map_or (is_pair left values) o false) e) ∙ none place placed

-- a pair is found among the places of its hash exactly where it stands among the states
pub found-there : (Fails Passes : ℕ → Type 0) (found : Option ℕ) (seen : Places) (states : List Numbered) (left hash : ℕ) (values : Values) → Sees seen states → hash ≡ state_hash left values
    → MatchOption found ((place : ℕ) → is_placed seen hash place ≡ true → Fails place) (λ place. (is_placed seen hash place ≡ true) × Passes place)
    → ((place : ℕ) → Fails place → option_map_or (is_pair left values) (slice_get states place) false ≡ false)
    → ((place : ℕ) → Passes place → option_map_or (is_pair left values) (slice_get states place) false ≡ true)
    → is_some found ≡ list_any (is_pair left values) states
found-there Fails Passes None seen states left hash values h is m fails passes = sym (none-of_hash seen states left hash values h is (λ place placed. fails place (m place placed)))
found-there Fails Passes (Some place) seen states left hash values h is m fails passes = sym (any-there (is_pair left values) states place (passes place m.1))

and-false : (b : Bool) → (b && false) ≡ false
and-false true = refl
and-false false = refl

and-true : (b : Bool) → (b && true) ≡ b
and-true true = refl
and-true false = refl

unequal : (a b : ℕ) → a < b → (a == b) ≡ false
unequal a b l = go (a == b) refl
  where
    go : (t : Bool) → (a == b) ≡ t → t ≡ false
    go false e = refl
    go true e = let same = eqb-true a b e in absurd (omega arith)

beyond : (a b : ℕ) → b < a → (a == b) ≡ false
beyond a b l = go (a == b) refl
  where
    go : (t : Bool) → (a == b) ≡ t → t ≡ false
    go false e = refl
    go true e = let same = eqb-true a b e in absurd (omega arith)

-- what stands at a place once one state more is there
module _ (states : List Numbered) (n : Numbered) (hash place : ℕ) where
  abbrev has_hash : Option Numbered → Bool
  has_hash o = option_map_or (λ (m : Numbered). hash == state_hash m.left m.state) o false

  stands-more : stands (states ++ n ∷ []) hash place ≡ (stands states hash place || (hash == state_hash n.left n.state && place == length states))
  stands-more = elim (cases_lt place (length states)) [ inl l ↦ before l | inr l ↦ behind (place - length states) (omega arith) ]
    where
      before : place < length states → stands (states ++ n ∷ []) hash place ≡ (stands states hash place || (hash == state_hash n.left n.state && place == length states))
      before l =
          ap has_hash (slice_get-left states (n ∷ []) place l)
          ∙ sym (ap (λ b. stands states hash place || (hash == state_hash n.left n.state && b)) (unequal place (length states) l)
          ∙ ap (λ b. stands states hash place || b) (and-false (hash == state_hash n.left n.state)) ∙ or-false (stands states hash place))

      behind : (j : ℕ) → place ≡ length states + j → stands (states ++ n ∷ []) hash place ≡ (stands states hash place || (hash == state_hash n.left n.state && place == length states))
      behind zero k =
          ap has_hash (slice_get-right states (n ∷ []) place 0 k)
          ∙ sym (ap (λ o. has_hash o || (hash == state_hash n.left n.state && place == length states)) (slice_get_past states place (omega arith))
          ∙ ap (λ b. hash == state_hash n.left n.state && b) (eq-eqb place (length states) (omega arith)) ∙ and-true (hash == state_hash n.left n.state))
      behind (suc j) k =
          ap has_hash (slice_get-right states (n ∷ []) place (suc j) k)
          ∙ sym (ap (λ o. has_hash o || (hash == state_hash n.left n.state && place == length states)) (slice_get_past states place (omega arith))
          ∙ ap (λ b. hash == state_hash n.left n.state && b) (beyond place (length states) (omega arith)) ∙ and-false (hash == state_hash n.left n.state))

-- the place of one state more
pub sees-more : (old new : Places) (states more : List Numbered) (n : Numbered) (hash count : ℕ) → Sees old states → more ≡ states ++ n ∷ [] → hash ≡ state_hash n.left n.state → count ≡ length states
    → ((other at : ℕ) → is_placed new other at ≡ (is_placed old other at || (other == hash && at == count))) → Sees new more
sees-more old new states more n hash count h added is last updates = record {
  placed = λ other at.
      updates other at
      ∙ (λ i. h.placed other at i || (other == is i && at == last i))
      ∙ sym (stands-more states n other at)
      ∙ ap (λ (ns : List Numbered). stands ns other at) (sym added);
}

-- no place of no state
pub sees-none : (seen : Places) → ((hash place : ℕ) → is_placed seen hash place ≡ false) → Sees seen []
sees-none seen h = record { placed = h }

-- what is kept where a state is new, and where it was there
pub with-new : (states : List Numbered) (n : Numbered) → list_any (is_pair n.left n.state) states ≡ false → states ++ n ∷ [] ≡ with_numbered states n
with-new states n e = ap (λ (b : Bool). if b then states else states ++ n ∷ []) (sym e)

pub with-known : (states : List Numbered) (n : Numbered) → list_any (is_pair n.left n.state) states ≡ true → states ≡ with_numbered states n
with-known states n e = ap (λ (b : Bool). if b then states else states ++ n ∷ []) (sym e)
