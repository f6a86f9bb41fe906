use Rattle.std.proofs.Common.{refl, sym, ◌∙◌, subst}
use Rattle.golog_tree.specs.declared.agent.Agent.{Agent}
use Rattle.golog_journal.specs.Taken.{IsReady}
use Rattle.golog_thread_tests.proofs.FirstTurns.{turn-agent}
use Rattle.golog_thread_tests.proofs.turns.turns_of.Goals as goal

pub one_turn-turned-requires-clause-agent : goal.one_turn-turned-requires-clause-agent
one_turn-turned-requires-clause-agent g c = c.loop-place.invariant.agent

pub one_turn-turned-requires-clause-held : goal.one_turn-turned-requires-clause-held
one_turn-turned-requires-clause-held g c = refl

pub one_turn-turned-requires-clause-ready : goal.one_turn-turned-requires-clause-ready
one_turn-turned-requires-clause-ready g c = c.loop-place.invariant.ready

pub loop-place-preserved : goal.loop-place-preserved
loop-place-preserved g c = record {
  agent = turn-agent c.args.agent.now 0 _ _ _ _ _ _ _ c.one_turn-turned.ensures.turns ∙ c.loop-place.invariant.agent;
  ready = c.one_turn-turned.ensures.ready (c.is_closed.ensures.no c.if-is_closed.false);
}

pub next_command-requires-clause-ready : goal.next_command-requires-clause-ready
next_command-requires-clause-ready g c =
    subst (λ (a : Agent). IsReady a c.loop-place.journal.entries 0 c.loop-place.taken) (sym c.loop-place.invariant.agent) c.loop-place.invariant.ready
