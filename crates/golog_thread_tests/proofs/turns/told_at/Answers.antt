use Rattle.std.proofs.Common.{ap}
use Rattle.golog_semantics.specs.Journal.{is_open}
use Rattle.golog_journal.specs.Boards.{AgentJournal}
use Rattle.golog_thread_tests.proofs.Starting.{none-ready}
use Rattle.golog_thread_tests.proofs.turns.told_at.Goals as goal

pub turns_of-requires-clause-agent : goal.turns_of-requires-clause-agent
turns_of-requires-clause-agent g c = ap (λ (j : AgentJournal). j.agent) c.requires.new

pub turns_of-requires-clause-ready : goal.turns_of-requires-clause-ready
turns_of-requires-clause-ready g c =
    let none = ap (λ (j : AgentJournal). j.entries) c.requires.new in
    none-ready c.args.agent.now _ 0 c.requires.devices none (ap (is_open 0) none)
