-- The rule of a ticket lock: what its words, its object and the views of its seats keep between any two
-- steps. Word 0 counts the tickets drawn, word 1 the turns passed on, and word 2 the entries of the
-- history, each modulo 2^64. Slot 0 has the object, which one seat at most takes out, while it is served.
use Rattle.std.specs.Prelude.{◌≡◌, ℕ, ◌+◌, ◌%◌, ◌^◌, ◌<◌, ◌≤◌, ◌⊎◌, Bool, true, false, List, [], ◌∷◌, length}
use mathlib.Core.Option.{Option, none, some}
use lib.ListN.{get_elem?}
use Rattle.atomic_table.specs.Table.{State}
use Rattle.golog_turn.specs.Parties.{contains, parties_below, GoesOn}
use Rattle.golog_turn.specs.declared.view.View.{View}
use Rattle.golog_turn.specs.declared.view.Turn.{Turn}
use Rattle.golog_turn.specs.declared.view.Turn.TheVariants.{Away, Waits, Served}

-- the ticket that is out, if there is one
abbrev pub ticket_of : Turn → Option ℕ
ticket_of Away = none
ticket_of (Waits t) = some t
ticket_of (Served t) = some t

-- whether the turn has come
abbrev pub is_served : Turn → Bool
is_served (Served t) = true
is_served _ = false

-- how many tickets are out, none or one
abbrev pub tickets_of : Turn → ℕ
tickets_of Away = 0
tickets_of _ = 1

-- the sum over all views
abbrev pub total : {V : Type 0} → (V → ℕ) → List V → ℕ
total f [] = 0
total f (v ∷ vs) = f v + total f vs

module _ {E : Type 0} where
  -- of a seat that has taken in no other
  abbrev pub view : Turn → List E → List ℕ → View E
  view turn seen parties =
      record { turn = turn; seen = seen; parties = parties; other_seen = []; other_parties = [] }

  -- of a seat between two calls: it has no ticket
  abbrev pub IsIdleView : View E → Type 0
  IsIdleView v = v ≡ view Away v.seen v.parties

  -- of a seat that has just taken in another, before their histories are compared
  abbrev pub taking : View E → View E → View E
  taking v w =
      record {
        turn = Away;
        seen = v.seen;
        parties = v.parties;
        other_seen = w.seen;
        other_parties = w.parties;
      }

  -- of the first seat, which has seen the object's whole list and holds all parties
  abbrev pub opened : List E → ℕ → View E
  opened seen parties = view Away seen (parties_below parties)

  -- the tickets of one view
  abbrev pub tickets : View E → ℕ
  tickets v = tickets_of v.turn

  -- the number of its parties
  abbrev pub count_parties : View E → ℕ
  count_parties v = length v.parties + length v.other_parties

  -- the view has the party, perhaps from a seat that was taken in
  abbrev pub Holds : View E → ℕ → Type 0
  Holds v p = (contains v.parties p ≡ true) ⊎ (contains v.other_parties p ≡ true)

  -- A ticket that is out is not yet passed, was drawn, and belongs to a seat with a party. The ticket of
  -- the seat that is served is the one that is served, and that seat has seen the whole history.
  abbrev pub InTurn : ℕ → ℕ → List E → View E → Turn → Type 0
  InTurn serving drawn history v Away = Unit {0}
  InTurn serving drawn history v (Waits t) = (serving ≤ t) × (t < drawn) × (0 < length v.parties)
  InTurn serving drawn history v (Served t) =
      (t ≡ serving) × (t < drawn) × (0 < length v.parties) × (v.seen ≡ history)

  -- what the seat has seen is a prefix of the history and has all entries of its parties, and its ticket is
  -- in turn
  abbrev pub Fits : (E → ℕ) → ℕ → ℕ → List E → View E → Type 0
  Fits party serving drawn history v =
      GoesOn party history v.seen v.parties × GoesOn party history v.other_seen v.other_parties
      × InTurn serving drawn history v v.turn

  -- two seats have no ticket and no party in common
  abbrev pub AreApart : View E → View E → Type 0
  AreApart v w =
      ((t : ℕ) → ticket_of v.turn ≡ some t → ticket_of w.turn ≡ some t → ⊥)
      × ((p : ℕ) → Holds v p → Holds w p → ⊥)

  -- while no seat is served, the object is at home and stands for the history
  abbrev pub IsHome : {O : Type 0} → (O → List E) → List E → List (Option O) → List (View E) → Type 0
  IsHome {O} list history homes views =
      ((i : ℕ) (v : View E) → get_elem? views i ≡ some v → is_served v.turn ≡ false)
      → (o : O) × (get_elem? homes 0 ≡ some (some o)) × (list o ≡ history)

  -- There are numbers of tickets drawn and turns passed on, and a history, that the words count. The
  -- tickets between the two are out; the seats hold few parties, so no two tickets out are equal modulo
  -- 2^64.
  pub record IsKept {O : Type 0} (list : O → List E) (party : E → ℕ) (s : State O (View E)) : Type 0 where
    pub drawn : ℕ
    pub serving : ℕ
    pub history : List E
    pub words : s.words ≡ drawn % 2 ^ 64 ∷ serving % 2 ^ 64 ∷ length history % 2 ^ 64 ∷ []
    pub waiting : serving + total tickets s.views ≡ drawn
    pub few : total count_parties s.views < 2 ^ 32
    pub each : (i : ℕ) (v : View E) → get_elem? s.views i ≡ some v → Fits party serving drawn history v
    pub apart : (i j : ℕ) (v w : View E)
        → get_elem? s.views i ≡ some v → get_elem? s.views j ≡ some w → ¬ (i ≡ j) → AreApart v w
    pub home : IsHome list history s.homes s.views
