-- Where states stand among those of a level, and one state more.
use Rattle.std.proofs.Common.{◌≡◌, ℕ, zero, suc, ◌+◌, ◌-◌, ◌<◌, Bool, true, false, ◌&&◌, ◌||◌, ◌==◌, if◌then◌else◌, Option, Some, None, List, [], ◌∷◌, ◌++◌, length, inl, inr, refl, sym, ap, ◌∙◌, subst, arith}
use Rattle.std.specs.Prelude.{All, MatchOption, slice_get}
use Rattle.std.specs.Cmp.{both_ways}
use Rattle.std.specs.List.{list_any}
use Rattle.std.specs.Option.{option_map, option_map_or}
use Rattle.std.proofs.lemmas.Bool.{cases_lt, eqb-true, eq-eqb, ne_eqb}
use Rattle.std.proofs.lemmas.List.Elements.{All-get_or, All-head, All-nil, All-tail, All-weaker}
use Rattle.std.proofs.lemmas.Option.{get_or_from_slice_get, slice_get-map, slice_get_past, slice_get_within}
use Rattle.golog_base.proofs.Bools.{and-false, or-false, or-true}
use Rattle.golog_tree.specs.declared.prog.Prog.{Prog}
use Rattle.golog_memo.specs.Numbered.{AreOnce, IsAddedTo}
use Rattle.golog_memo.specs.Placed.{is_placed}
use Rattle.golog_memo.specs.declared.places.Places.{Places}
use Rattle.golog_semantics.specs.Blocks.{same_state}
use Rattle.golog_semantics.specs.Same.{same_prog, same_values}
use Rattle.golog_semantics.specs.Truth.{Values}
use Rattle.golog_semantics.proofs.GroundNumbers.{slice_get-left, slice_get-right, some-same}
use Rattle.golog_semantics.proofs.Levels.{same_values-eq}
use Rattle.golog_semantics.proofs.SameLaws.{same_prog-eq, same_prog-same}
use Rattle.golog_semantics.proofs.Tests.{and_cases}
use Rattle.golog_branch.specs.declared.spot.Spot.{Spot}
use Rattle.golog_branch.specs.Levels.{state_of, states_of, with_state}
use Rattle.golog_branch.specs.Places.{ArePlaces, Sees, is_spot, spot_hash, stands}

-- what passes at a place passes somewhere
any-there : {A : Type 0} (test : A → Bool) (xs : List A) (i : ℕ) → option_map_or test (slice_get xs i) false ≡ true → list_any test xs ≡ true
any-there test [] i e = absurd (cc)
any-there test (x ∷ xs) zero e = ap (λ b. b || list_any test xs) e
any-there test (x ∷ xs) (suc i) e = ap (λ b. test x || b) (any-there test xs i e) ∙ or-true (test x)

-- what passes at no place passes nowhere
none-there : {A : Type 0} (test : A → Bool) (xs : List A) → ((i : ℕ) → option_map_or test (slice_get xs i) false ≡ false) → list_any test xs ≡ false
none-there test [] h = refl
none-there test (x ∷ xs) h = ap (λ b. b || list_any test xs) (h 0) ∙ none-there test xs (λ i. h (suc i))

-- equal states have one hash
one-hash : (number : ℕ) (values : Values) (spot : Spot) → is_spot number values spot ≡ true → spot_hash number values ≡ spot_hash spot.number spot.state
one-hash number values spot e =
    let k = and_cases (number == spot.number) (same_values values spot.state) e in
    let one = eqb-true number spot.number k.0 in
    let other = same_values-eq values spot.state k.1 in
    (λ i. spot_hash (one i) (other i))

-- a state is found among the places of its hash exactly where it stands among the states
module _ (seen : Places) (spots : List Spot) (number hash : ℕ) (values : Values) (sees : Sees seen spots) (is : hash ≡ spot_hash number values) where
  none-of_hash : ((place : ℕ) → is_placed seen hash place ≡ true → option_map_or (is_spot number values) (slice_get spots place) false ≡ false)
      → list_any (is_spot number values) spots ≡ false
  none-of_hash none = none-there (is_spot number values) spots (λ place. at place (slice_get spots place) refl)
    where
      at : (place : ℕ) (o : Option Spot) → slice_get spots place ≡ o → option_map_or (is_spot number values) o false ≡ false
      at place None e = refl
      at place (Some spot) e = go (is_spot number values spot) refl
        where
          go : (b : Bool) → is_spot number values spot ≡ b → b ≡ false
          go false k = refl
          go true k =
              let placed : is_placed seen hash place ≡ true =
              sees.placed hash place
              ∙ ap (λ (o : Option Spot). option_map_or (λ (s : Spot). hash == spot_hash s.number s.state) o false) e
              ∙ eq-eqb hash (spot_hash spot.number spot.state) (is ∙ one-hash number values spot k) in
              sym k ∙ sym (ap (λ (o : Option Spot). option_map_or (is_spot number values) o false) e) ∙ none place placed

  pub found-there : (Fails Passes : ℕ → Type 0) (found : Option ℕ)
      → MatchOption found ((place : ℕ) → is_placed seen hash place ≡ true → Fails place) (λ place. (is_placed seen hash place ≡ true) × Passes place)
      → ((place : ℕ) → Fails place → option_map_or (is_spot number values) (slice_get spots place) false ≡ false)
      → ((place : ℕ) → Passes place → option_map_or (is_spot number values) (slice_get spots place) false ≡ true)
      → MatchOption found (list_any (is_spot number values) spots ≡ false) (λ place. option_map_or (is_spot number values) (slice_get spots place) false ≡ true)
  found-there Fails Passes None m fails passes = none-of_hash (λ place placed. fails place (m place placed))
  found-there Fails Passes (Some place) m fails passes = passes place m.1

and-true : (b : Bool) → (b && true) ≡ b
and-true true = refl
and-true false = refl

-- what stands at a place once one state more is there
module _ (spots : List Spot) (spot : Spot) (hash place : ℕ) where
  abbrev has_hash : Option Spot → Bool
  has_hash o = option_map_or (λ (s : Spot). hash == spot_hash s.number s.state) o false

  stands-more : stands (spots ++ spot ∷ []) hash place ≡ (stands spots hash place || (hash == spot_hash spot.number spot.state && place == length spots))
  stands-more = elim (cases_lt place (length spots)) [ inl l ↦ before l | inr l ↦ behind (place - length spots) (omega arith) ]
    where
      before : place < length spots → stands (spots ++ spot ∷ []) hash place ≡ (stands spots hash place || (hash == spot_hash spot.number spot.state && place == length spots))
      before l =
          ap has_hash (slice_get-left spots (spot ∷ []) place l)
          ∙ sym (ap (λ b. stands spots hash place || (hash == spot_hash spot.number spot.state && b)) (ne_eqb place (length spots) (λ e. omega arith))
          ∙ ap (λ b. stands spots hash place || b) (and-false (hash == spot_hash spot.number spot.state)) ∙ or-false (stands spots hash place))

      behind : (j : ℕ) → place ≡ length spots + j → stands (spots ++ spot ∷ []) hash place ≡ (stands spots hash place || (hash == spot_hash spot.number spot.state && place == length spots))
      behind zero k =
          ap has_hash (slice_get-right spots (spot ∷ []) place 0 k)
          ∙ sym (ap (λ o. has_hash o || (hash == spot_hash spot.number spot.state && place == length spots)) (slice_get_past spots place (omega arith))
          ∙ ap (λ b. hash == spot_hash spot.number spot.state && b) (eq-eqb place (length spots) (omega arith)) ∙ and-true (hash == spot_hash spot.number spot.state))
      behind (suc j) k =
          ap has_hash (slice_get-right spots (spot ∷ []) place (suc j) k)
          ∙ sym (ap (λ o. has_hash o || (hash == spot_hash spot.number spot.state && place == length spots)) (slice_get_past spots place (omega arith))
          ∙ ap (λ b. hash == spot_hash spot.number spot.state && b) (ne_eqb place (length spots) (λ e. omega arith)) ∙ and-false (hash == spot_hash spot.number spot.state))

-- the place of one state more
pub sees-more : (old new : Places) (spots more : List Spot) (spot : Spot) (hash count : ℕ) → Sees old spots → more ≡ spots ++ spot ∷ [] → hash ≡ spot_hash spot.number spot.state → count ≡ length spots
    → ((other at : ℕ) → is_placed new other at ≡ (is_placed old other at || (other == hash && at == count))) → Sees new more
sees-more old new spots more spot hash count h added is last updates = record {
  placed = λ other at.
      updates other at
      ∙ (λ i. h.placed other at i || (other == is i && at == last i))
      ∙ sym (stands-more spots spot other at)
      ∙ ap (λ (ss : List Spot). stands ss other at) (sym added);
}

-- no state stands anywhere
pub no-places : (nodes : List Prog) (seen : Places) (spots : List Spot) → nodes ≡ [] → ((hash place : ℕ) → is_placed seen hash place ≡ false) → spots ≡ []
    → ArePlaces (record { nodes = nodes; seen = seen; spots = spots })
no-places nodes seen spots none empty few = record {
  once = subst AreOnce (sym none) (record { place = λ i j prog e k. absurd (cc) });
  numbers = subst (All (λ (s : Spot). slice_get nodes s.number ≡ Some s.left)) (sym few) (All-nil (λ (s : Spot). slice_get nodes s.number ≡ Some s.left));
  seen = record { placed = λ hash place. empty hash place ∙ ap (λ (ss : List Spot). stands ss hash place) (sym few) };
}

-- a program's number tells it
module _ (nodes : List Prog) (once : AreOnce nodes) (left : Prog) (number : ℕ) (values : Values) (named : slice_get nodes number ≡ Some left) where
  same-number : (other : ℕ) (q : Prog) → slice_get nodes other ≡ Some q → (number == other) ≡ same_prog left q
  same-number other q e = both_ways (number == other) (same_prog left q) forth back
    where
      forth : (number == other) ≡ true → same_prog left q ≡ true
      forth t =
          let same : left ≡ q = some-same left q (sym named ∙ ap (slice_get nodes) (eqb-true number other t) ∙ e) in
          subst (λ (p : Prog). same_prog left p ≡ true) same (same_prog-same left)

      back : same_prog left q ≡ true → (number == other) ≡ true
      back t = eq-eqb number other (once.place number other left named (e ∙ ap Some (sym (same_prog-eq left q t))))

  and-swap : (a b : Bool) → (a && b) ≡ (b && a)
  and-swap true true = refl
  and-swap true false = refl
  and-swap false true = refl
  and-swap false false = refl

  abbrev HasNumber : Spot → Type 0
  HasNumber spot = slice_get nodes spot.number ≡ Some spot.left

  -- the state is among these exactly where its number and its values are
  pub there-is : (spots : List Spot) → All HasNumber spots → list_any (same_state (left, values)) (states_of spots) ≡ list_any (is_spot number values) spots
  there-is [] h = refl
  there-is (spot ∷ spots) h =
      let one : same_state (left, values) (state_of spot) ≡ is_spot number values spot =
      ap (λ b. same_values values spot.state && b) (sym (same-number spot.number spot.left (All-head HasNumber spot spots h)))
      ∙ and-swap (same_values values spot.state) (number == spot.number) in
      let rest = there-is spots (All-tail HasNumber spot spots h) in
      (λ i. one i || rest i)

  module _ (spots : List Spot) (numbers : All HasNumber spots) where
    -- the state stands where its number and its values were found
    pub found : (place : ℕ) → option_map_or (is_spot number values) (slice_get spots place) false ≡ true
        → (slice_get (states_of spots) place ≡ Some (left, values)) × (states_of spots ≡ with_state (states_of spots) (left, values))
    found place e = at (slice_get spots place) refl e
      where
        at : (o : Option Spot) → slice_get spots place ≡ o → option_map_or (is_spot number values) o false ≡ true
            → (slice_get (states_of spots) place ≡ Some (left, values)) × (states_of spots ≡ with_state (states_of spots) (left, values))
        at None is h = absurd (cc)
        at (Some item) is h =
            let k = and_cases (number == item.number) (same_values values item.state) h in
            let one : number ≡ item.number = eqb-true number item.number k.0 in
            let other : values ≡ item.state = same_values-eq values item.state k.1 in
            let inside = slice_get_within spots place item is in
            let own : slice_get nodes item.number ≡ Some item.left = subst HasNumber (get_or_from_slice_get spots place item item is) (All-get_or HasNumber spots place item inside numbers) in
            let same : left ≡ item.left = some-same left item.left (sym named ∙ ap (slice_get nodes) one ∙ own) in
            let among : list_any (same_state (left, values)) (states_of spots) ≡ true = there-is spots numbers ∙ any-there (is_spot number values) spots place e in (
              slice_get-map state_of spots place ∙ ap (option_map state_of) is ∙ (λ i. Some (sym same i, sym other i)),
              ap (λ b. if b then states_of spots else states_of spots ++ (left, values) ∷ []) (sym among),
            )

    -- and else it is not there yet
    pub missing : list_any (is_spot number values) spots ≡ false
        → states_of spots ++ (left, values) ∷ [] ≡ with_state (states_of spots) (left, values)
    missing e =
        let none : list_any (same_state (left, values)) (states_of spots) ≡ false = there-is spots numbers ∙ e in
        ap (λ b. if b then states_of spots else states_of spots ++ (left, values) ∷ []) (sym none)

-- what has a number keeps it
pub numbers-stay : (nodes more : List Prog) (left : Prog) (spots : List Spot) → IsAddedTo nodes left more → All (λ (s : Spot). slice_get nodes s.number ≡ Some s.left) spots
    → All (λ (s : Spot). slice_get more s.number ≡ Some s.left) spots
numbers-stay nodes more left spots added h = elim added [
  | inl e ↦ subst (λ ps. All (λ (s : Spot). slice_get ps s.number ≡ Some s.left) spots) (sym e) h
  | inr e ↦ All-weaker (λ (s : Spot). slice_get nodes s.number ≡ Some s.left) (λ (s : Spot). slice_get more s.number ≡ Some s.left)
      (λ s k. ap (λ ps. slice_get ps s.number) e ∙ slice_get-left nodes (left ∷ []) s.number (slice_get_within nodes s.number s.left k) ∙ k) spots h
]
