use Rattle.std.proofs.Common.{refl}
use Rattle.golog_thread_tests.proofs.Posting.{test-may, test-committed}
use Rattle.golog_thread_tests.proofs.journals.test_at.Goals as goal

pub commit-requires-clause-allowed : goal.commit-requires-clause-allowed
commit-requires-clause-allowed c =
    let v = c.args.journal.now in test-may v.agent c.args.at v.entries c.requires.seen c.requires.goes_on c.requires.room

pub returns-clause-goes_on : goal.returns-clause-goes_on
returns-clause-goes_on c =
    (test-committed c.args.journal.now.agent c.args.at c.commit.result _ _ c.commit.ensures refl c.requires.goes_on).0

pub returns-clause-most : goal.returns-clause-most
returns-clause-most c =
    (test-committed c.args.journal.now.agent c.args.at c.commit.result _ _ c.commit.ensures refl c.requires.goes_on).1

pub returns-clause-no_less : goal.returns-clause-no_less
returns-clause-no_less c =
    (test-committed c.args.journal.now.agent c.args.at c.commit.result _ _ c.commit.ensures refl c.requires.goes_on).2
