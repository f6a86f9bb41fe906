use Rattle.std.proofs.Common.{◌≡◌, take}
use Rattle.golog_memo.specs.Codes.{conds_code}
use Rattle.golog_memo.proofs.code.+cond_code.Given as goal

abbrev pub invariant-conds_code-loop-cond : goal.invariant-conds_code-loop-cond
invariant-conds_code-loop-cond l = l.code ≡ conds_code l.start (take l.cond-index l.conds)
