-- The notes that two sides put on their link, in one order. (This project's own.)
use Rattle.std.specs.Prelude.{ℕ, ◌-◌, Bool, true, false, not, ◌==◌, ◌&&◌, if◌then◌else◌, Option, None, Some, is_some, List, filter_map, fold, count_by}
use Rattle.golog_team.specs.declared.note.Note.{Note}
use Rattle.golog_team.specs.declared.note.Note.TheVariants.{Send, Waiting, Ended}
use Rattle.golog_team.specs.declared.note.SideNote.{SideNote}

abbrev pub Notes : Type 0
Notes = List SideNote

-- whose a note is
abbrev pub side_of : SideNote → ℕ
side_of n = n.side

-- this note of this side
abbrev pub put_by : ℕ → Note → SideNote
put_by side note = record { side = side; note = note }

abbrev pub is_waiting : Note → Bool
is_waiting (Waiting length) = true
is_waiting note = false

abbrev pub is_ended : Note → Bool
is_ended Ended = true
is_ended note = false

abbrev pub action_sent : Note → Option ℕ
action_sent (Send action) = Some action
action_sent note = None

abbrev pub is_send : Note → Bool
is_send (Send action) = true
is_send note = false

-- the other of two sides
abbrev pub across : ℕ → ℕ
across side = 1 - side

-- a note of this side
abbrev pub is_own : ℕ → SideNote → Bool
is_own side n = n.side == side

-- a Send or the Ended of the other side
abbrev pub is_news : ℕ → SideNote → Bool
is_news side n = n.side == across side && not (is_waiting n.note)

-- the action that the side sends by this note, if it does
abbrev pub sent_by : ℕ → SideNote → Option ℕ
sent_by side n = if n.side == side then action_sent n.note else None

abbrev pub is_waiting_of : ℕ → SideNote → Bool
is_waiting_of side n = n.side == side && is_waiting n.note

abbrev pub is_ended_of : ℕ → SideNote → Bool
is_ended_of side n = n.side == side && is_ended n.note

-- the actions that a side has sent, in order
abbrev pub sends : ℕ → Notes → List ℕ
sends side notes = filter_map (sent_by side) notes

-- how often a side has ended
abbrev pub ends : ℕ → Notes → ℕ
ends side notes = count_by (is_ended_of side) notes

-- a Waiting says that a side waits, and with which length; any other note says that none does any more
abbrev pub waited_with : Bool → Option ℕ → Note → Option ℕ
waited_with is_own before (Waiting length) = if is_own then Some length else before
waited_with is_own before (Send action) = None
waited_with is_own before Ended = None

-- the length of the last Waiting of the side, where only Waiting notes stand behind it
abbrev pub waited : ℕ → Notes → Option ℕ
waited side notes = fold (λ before n. waited_with (n.side == side) before n.note) None notes

-- the side has said that it waits
abbrev pub has_waited : ℕ → Notes → Bool
has_waited side notes = is_some (waited side notes)

-- both have
abbrev pub both_wait : Notes → Bool
both_wait notes = has_waited 0 notes && has_waited 1 notes
