use Rattle.std.proofs.Common.{refl, sym, ap, ◌∙◌}
use Rattle.golog_journal.specs.Boards.{AgentJournal}
use Rattle.golog_thread_tests.proofs.Starting.{none-behind}
use Rattle.golog_thread_tests.proofs.FirstTurns.{led-ready}
use Rattle.golog_thread_tests.proofs.turns.lead.Goals as goal

pub turn-requires : goal.turn-requires
turn-requires g c = record {
  agent = c.requires.agent ∙ sym (ap (λ (j : AgentJournal). j.agent) c.requires.new);
  held = refl;
  behind = none-behind _ _ c.requires.none (ap (λ (j : AgentJournal). j.entries) c.requires.new);
}

pub returns-clause-agent : goal.returns-clause-agent
returns-clause-agent g c = c.turn.ensures.leads.same_agent ∙ ap (λ (j : AgentJournal). j.agent) c.requires.new

pub returns-clause-ready : goal.returns-clause-ready
returns-clause-ready g c =
    led-ready c.args.agent.now _ _ c.turn.ensures.leads refl (ap (λ (j : AgentJournal). j.entries) c.requires.new) c.requires.devices
