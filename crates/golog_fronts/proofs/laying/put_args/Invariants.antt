use Rattle.std.proofs.Common.{◌≡◌, drop}
use Rattle.golog_fronts.specs.Puts.{cond_put_args}
use Rattle.golog_fronts.proofs.laying.put_args.Given as goal

-- what is still to be put in decides
abbrev pub invariant-loop-var : goal.invariant-loop-var
invariant-loop-var l = cond_put_args l.cond 0 l.args ≡ cond_put_args l.put l.var (drop l.var l.args)
