use Rattle.std.proofs.Common.{◌≡◌, take}
use Rattle.golog_memo.specs.Codes.{args_code}
use Rattle.golog_memo.proofs.code.args_code.Given as goal

abbrev pub invariant-loop-arg : goal.invariant-loop-arg
invariant-loop-arg l = l.code ≡ args_code l.start (take l.arg-index l.args)
