use Rattle.std.proofs.Common.{◌≡◌, drop}
use Rattle.golog_semantics.specs.Program.{put_args}
use Rattle.golog_fronts.proofs.bodies.put_args.Given as goal

-- what is still to be put in decides
abbrev pub invariant-loop-var : goal.invariant-loop-var
invariant-loop-var l = put_args l.body 0 l.args ≡ put_args l.put l.var (drop l.var l.args)
