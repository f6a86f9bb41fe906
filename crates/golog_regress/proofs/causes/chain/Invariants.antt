use Rattle.std.proofs.Common.{◌≡◌, drop}
use Rattle.golog_regress.specs.Causes.{chain}
use Rattle.golog_regress.proofs.causes.chain.Given as goal

abbrev pub invariant-loop-index : goal.invariant-loop-index
invariant-loop-index l = l.term ≡ chain l.change.agent.now l.change.happened.now (drop l.index l.change.causes.now) l.fluent l.args
