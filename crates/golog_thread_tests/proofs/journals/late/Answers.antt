use Rattle.golog_thread_tests.proofs.Posting.{may-late}
use Rattle.golog_thread_tests.proofs.journals.late.Goals as goal

pub post-requires-clause-allowed : goal.post-requires-clause-allowed
post-requires-clause-allowed c =
    let v = c.args.journal.now in may-late v.agent c.args.poster c.args.item v.entries c.requires.ended c.requires.device c.requires.item
