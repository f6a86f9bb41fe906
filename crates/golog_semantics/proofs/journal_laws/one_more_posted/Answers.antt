use Rattle.golog_semantics.proofs.Grown.{posts_grow}
use Rattle.golog_semantics.proofs.journal_laws.one_more_posted.Goals as goal

pub returns : goal.returns
returns c = posts_grow
