use Rattle.golog_semantics.proofs.Grown.{commands_grow}
use Rattle.golog_semantics.proofs.journal_laws.one_more_command.Goals as goal

pub returns : goal.returns
returns c = commands_grow
