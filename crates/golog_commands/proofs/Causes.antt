-- The cause of an outcome, of what is outside before and after the call.
use Rattle.std.proofs.Common.{Option}
use Rattle.golog_words.specs.Commands.{CommandLine}
use Rattle.golog_commands.specs.declared.outcome.Outcome.{Outcome}
use Rattle.golog_commands.specs.Outcome.{Comes, Outside}

-- the outcome has its cause
abbrev pub IsCaused : Option CommandLine → Outside → Outside → Outcome → Type 0
IsCaused spelled before after = Comes before.held before.file_faults after.file_faults before.devices after.devices spelled
