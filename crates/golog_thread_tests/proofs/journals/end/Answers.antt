use Rattle.std.proofs.Common.{length, refl, ap}
use Rattle.golog_tree.specs.declared.agent.Agent.{Agent}
use Rattle.golog_thread_tests.proofs.Posting.{end-may, end-committed}
use Rattle.golog_thread_tests.proofs.journals.end.Goals as goal

pub commit-requires-clause-allowed : goal.commit-requires-clause-allowed
commit-requires-clause-allowed c = end-may c.args.journal.now.agent c.args.journal.now.entries c.requires

pub returns-clause-ended : goal.returns-clause-ended
returns-clause-ended c = end-committed c.args.journal.now.agent c.commit.result _ _ c.commit.ensures refl c.requires

pub returns-clause-agent : goal.returns-clause-agent
returns-clause-agent c = c.commit.ensures.agent

pub returns-clause-devices : goal.returns-clause-devices
returns-clause-devices c = ap (λ (a : Agent). length a.devices) c.commit.ensures.agent
