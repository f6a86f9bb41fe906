use Rattle.std.proofs.Common.{sym, ap, ◌∙◌, subst}
use Rattle.golog_journal.specs.Leading.{IsBehind}
use Rattle.golog_lead.specs.Courses.{Course}
use Rattle.golog_agent.proofs.runner.Runner.turn.Goals as goal

pub turn-requires-clause-agent : goal.turn-requires-clause-agent
turn-requires-clause-agent g c = ap (λ (v : Course). v.agent) c.self.view_is ∙ c.requires.agent

pub turn-requires-clause-behind : goal.turn-requires-clause-behind
turn-requires-clause-behind g c = subst (λ (v : Course). IsBehind v.list (g.B.Board.sight c.args.board.now).seen) (sym c.self.view_is) c.requires.behind

pub invariant_of-self : goal.invariant_of-self
invariant_of-self g c = c.turn.ensures.recorded.stands_still c.self.invariant

pub returns-clause-same : goal.returns-clause-same
returns-clause-same g c = c.turn.ensures.same ∙ ap (λ (v : Course). v.agent) c.self.view_is
