-- An op on a shared object whose list only grows, as a seat sees it that has seen a prefix of that list.
-- Each definition is over the list that the object stands for, the party of an entry, what is allowed at a
-- list, and what is answered there.
use Rattle.std.specs.Prelude.{◌≡◌, ℕ, ◌≤◌, List, ◌++◌, length}
use Rattle.golog_turn.specs.Parties.{own, AreOf, GoesOn}

module _ {E Op Reply O : Type 0} (list : O → List E) where
  -- the op is answered, and what is added, one entry at most, stands at the end of the list
  abbrev pub Grows : (List E → Op → Reply → List E → Type 0) → O → Op → Reply → List E → O → Type 0
  Grows answers before op reply added after =
      (list after ≡ list before ++ added) × (length added ≤ 1) × answers (list before) op reply added

module _ {E Op Reply O : Type 0} (list : O → List E) (party : E → ℕ) where
  -- At every list that the object may stand for, and that goes on from what was seen with no entry of these
  -- parties, the op is allowed, and what it adds is of these parties.
  abbrev pub MayAct : (List E → Op → Type 0) → (List E → Op → Reply → List E → Type 0)
      → List E → List ℕ → Op → Type 0
  MayAct allows answers seen parties op =
      (o : O) → GoesOn party (list o) seen parties
      → allows (list o) op
      × ((reply : Reply) (added : List E) → answers (list o) op reply added → AreOf party parties added)

module _ {E Op Reply O : Type 0} (list : O → List E) (party : E → ℕ) where
  -- The op was applied to the object at one point of its history, of which a prefix was seen before and
  -- more after.
  pub record Applied (answers : List E → Op → Reply → List E → Type 0) (before : List E) (parties : List ℕ)
      (op : Op) (reply : Reply) (after : List E) : Type 0 where
    -- the history at that point, for which the object stood
    pub point : List E
    pub stands : (o : O) × (list o ≡ point)
    -- what was seen before is a prefix of it, and no entry after that is of these parties
    pub goes_on : GoesOn party point before parties
    -- the op's entry, or none; what is seen after ends with it
    pub added : List E
    pub few : length added ≤ 1
    pub ends : after ≡ point ++ added
    -- the reply is the one that the object gives at that point
    pub answered : answers point op reply added
    -- the entries of these parties are what they were, and the op's
    pub mine : own party parties after ≡ own party parties before ++ added
