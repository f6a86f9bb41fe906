-- What each step on the lock's table tells the seat that makes it, and how a seat stands between the steps
-- of a call.
use Rattle.std.specs.Prelude.{◌≡◌, ℕ, ◌%◌, ◌^◌, List, [], ◌∷◌, ◌++◌}
use mathlib.Core.Option.{some}
use Rattle.atomic_table.specs.Table.{Me, Step}
use Rattle.atomic_table.specs.declared.shared.Seat.{Seat}
use Rattle.golog_turn.specs.Parties.{GoesOn, KeepsLonger}
use Rattle.golog_turn.specs.Acts.{MayAct, Applied}
use Rattle.golog_turn.specs.Turns.{view, ticket_of}
use Rattle.golog_turn.specs.declared.view.View.{View}
use Rattle.golog_turn.specs.declared.view.Turn.TheVariants.{Away, Waits, Served}

module _ {E O : Type 0} where
  -- the number found is the ticket's, and the seat waits with it
  abbrev pub DrawsTicket : Step O → Me O (View E) → ℕ → Me O (View E) → Type 0
  DrawsTicket s m found n = (t : ℕ) × (found ≡ t % 2 ^ 64) × (n ≡ (view (Waits t) m.0.seen m.0.parties, m.1))

  -- the turn has come: the seat has seen the whole history, and holds the object, which stands for it
  abbrev pub IsCome : (O → List E) → (E → ℕ) → View E → Me O (View E) → ℕ → Type 0
  IsCome list party v n t =
      (o : O) × GoesOn party (list o) v.seen v.parties
      × (n ≡ (view (Served t) (list o) v.parties, (0, o) ∷ []))

  -- where the number found is that of the seat's ticket, its turn has come; else nothing has changed
  abbrev pub ReadsServing : (O → List E) → (E → ℕ) → Step O → Me O (View E) → ℕ → Me O (View E) → Type 0
  ReadsServing list party s m found n =
      (t : ℕ) → ticket_of m.0.turn ≡ some t
      → (found ≡ t % 2 ^ 64 → IsCome list party m.0 n t)
      × (¬ (found ≡ t % 2 ^ 64) → n ≡ m)

  -- the seat has seen all that the object in its hand stands for
  abbrev pub Announces : (O → List E) → Step O → Me O (View E) → ℕ → Me O (View E) → Type 0
  Announces list s m found n = (o : O) → m.1 ≡ (0, o) ∷ [] → n ≡ (view m.0.turn (list o) m.0.parties, m.1)

  -- the seat has no ticket and no object
  abbrev pub PassesOn : Step O → Me O (View E) → ℕ → Me O (View E) → Type 0
  PassesOn s m found n = n ≡ (view Away m.0.seen m.0.parties, [])

  -- the seat has the parties of both seats, and the longer of their histories
  abbrev pub Compared : (E → ℕ) → Step O → Me O (View E) → ℕ → Me O (View E) → Type 0
  Compared party s m found n =
      (n ≡ (view Away n.0.seen (m.0.parties ++ m.0.other_parties), m.1))
      × KeepsLonger party m.0.seen m.0.parties m.0.other_seen m.0.other_parties n.0.seen

  -- the history that a seat of the table has seen
  abbrev pub seen_by : Seat O (View E) → List E
  seen_by token = token.me.0.seen

  -- its parties
  abbrev pub held_by : Seat O (View E) → List ℕ
  held_by token = token.me.0.parties

  -- the seat has no ticket and no object
  abbrev pub IsIdle : Me O (View E) → Type 0
  IsIdle m = m ≡ (view Away m.0.seen m.0.parties, [])

  -- the seat waits with a ticket of this number
  abbrev pub IsWaiting : ℕ → Me O (View E) → Type 0
  IsWaiting ticket m = (t : ℕ) × (ticket ≡ t % 2 ^ 64) × (m ≡ (view (Waits t) m.0.seen m.0.parties, []))

  -- the seat with a ticket of this number is served, and the object in its hand stands for what the seat
  -- has seen and what was added
  abbrev pub IsServed : (O → List E) → ℕ → List E → Me O (View E) → Type 0
  IsServed list ticket added m =
      (t : ℕ) × (o : O) × (ticket ≡ t % 2 ^ 64) × (list o ≡ m.0.seen ++ added)
      × (m ≡ (view (Served t) m.0.seen m.0.parties, (0, o) ∷ []))

  -- the seat is of the same table, and has seen the same and holds the same parties
  abbrev pub KeepsKnowledge : Seat O (View E) → Seat O (View E) → Type 0
  KeepsKnowledge before after =
      (after.table_id ≡ before.table_id) × (after.id ≡ before.id)
      × (seen_by after ≡ seen_by before) × (held_by after ≡ held_by before)

  -- the seat has seen the longer of what two had seen
  abbrev pub TakesLonger : (E → ℕ) → Seat O (View E) → Seat O (View E) → Seat O (View E) → Type 0
  TakesLonger party one other after =
      KeepsLonger party (seen_by one) (held_by one) (seen_by other) (held_by other) (seen_by after)

module _ {E Op Reply O : Type 0} (list : O → List E) (party : E → ℕ) where
  -- the op may be asked with the seat, and was answered to it
  abbrev pub TokenMayAct : (List E → Op → Type 0) → (List E → Op → Reply → List E → Type 0)
      → Seat O (View E) → Op → Type 0
  TokenMayAct allows answers token op = MayAct list party allows answers (seen_by token) (held_by token) op

  abbrev pub TokenActed : (List E → Op → Reply → List E → Type 0)
      → Seat O (View E) → Op → Reply → Seat O (View E) → Type 0
  TokenActed answers before op reply after =
      Applied list party answers (seen_by before) (held_by before) op reply (seen_by after)
