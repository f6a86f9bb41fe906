use Rattle.std.proofs.Common.{refl}
use Rattle.golog_thread_tests.proofs.Posting.{may-first, first-posted}
use Rattle.golog_thread_tests.proofs.journals.first.Goals as goal

pub post-requires-clause-allowed : goal.post-requires-clause-allowed
post-requires-clause-allowed c =
    let v = c.args.journal.now in may-first v.agent c.args.poster c.args.item v.entries c.requires.empty c.requires.device c.requires.item

pub returns-clause-one : goal.returns-clause-one
returns-clause-one c =
    (first-posted c.args.journal.now.agent c.args.poster c.args.item c.post.result _ _ c.post.ensures refl c.requires.empty).0

pub returns-clause-goes_on : goal.returns-clause-goes_on
returns-clause-goes_on c =
    (first-posted c.args.journal.now.agent c.args.poster c.args.item c.post.result _ _ c.post.ensures refl c.requires.empty).1
