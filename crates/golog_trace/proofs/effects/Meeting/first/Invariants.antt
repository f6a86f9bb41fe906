use Rattle.std.proofs.Common.{◌≡◌}
use Rattle.golog_trace.specs.Effects.{first_effect}
use Rattle.golog_trace.proofs.Matched.{from}
use Rattle.golog_trace.proofs.effects.Meeting.first.Given as goal

abbrev pub invariant-loop-number : goal.invariant-loop-number
invariant-loop-number l =
    first_effect l.self.agent.now l.self.values.now 0 l.self.agent.now.causes (l.self.action, l.self.args.now) (l.self.fluent, l.self.at.now)
    ≡ from l.self.agent.now l.self.values.now (l.self.action, l.self.args.now) (l.self.fluent, l.self.at.now) l.self.agent.now.causes l.number
