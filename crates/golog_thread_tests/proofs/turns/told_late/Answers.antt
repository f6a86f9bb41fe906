use Rattle.std.proofs.Common.{ap, ◌∙◌}
use Rattle.golog_journal.specs.Boards.{AgentJournal}
use Rattle.golog_thread_tests.proofs.FirstTurns.{ended-ready}
use Rattle.golog_thread_tests.proofs.turns.told_late.Goals as goal

pub end-requires : goal.end-requires
end-requires g c = ap (λ (j : AgentJournal). j.entries) c.requires.new

pub turns_of-requires-clause-agent : goal.turns_of-requires-clause-agent
turns_of-requires-clause-agent g c = c.end.ensures.agent ∙ ap (λ (j : AgentJournal). j.agent) c.requires.new

pub turns_of-requires-clause-ready : goal.turns_of-requires-clause-ready
turns_of-requires-clause-ready g c = ended-ready c.args.agent.now _ c.requires.devices c.end.ensures.ended
