-- Entries of steps.
use Rattle.std.specs.Prelude.{Bool, true, false}
use Rattle.golog_semantics.specs.declared.journal.Entry.{Entry}
use Rattle.golog_semantics.specs.declared.journal.Entry.TheVariants.{Do, Test}

-- an entry of a step
abbrev pub is_step_entry : Entry → Bool
is_step_entry (Do action) = true
is_step_entry Test = true
is_step_entry _ = false
