-- The events among the entries of a journal.
use Rattle.std.specs.Prelude.{Option, Some, None, List, [], ◌∷◌}
use Rattle.golog_semantics.specs.declared.journal.Entry.{Entry}
use Rattle.golog_semantics.specs.declared.journal.Entry.TheVariants.{Do, Exo, Sense}
use Rattle.golog_semantics.specs.Journal.{Journal}
use Rattle.golog_regress.specs.declared.event.Event.{Event}
use Rattle.golog_regress.specs.declared.event.Event.TheVariants.{Did, Sensed}

-- what an entry tells of: an action that was done or that happened, or a value that was sensed
abbrev pub event_of : Entry → Option Event
event_of (Do action) = Some (Did action)
event_of (Exo poster action) = Some (Did action)
event_of (Sense poster place fluent value) = Some (Sensed fluent value)
event_of _ = None

-- an event, where there is one, and the events after it
abbrev pub put_before : Option Event → List Event → List Event
put_before None events = events
put_before (Some event) events = event ∷ events

-- the events among the entries, in their order
abbrev pub events_of : Journal → List Event
events_of [] = []
events_of (entry ∷ entries) = put_before (event_of entry) (events_of entries)
