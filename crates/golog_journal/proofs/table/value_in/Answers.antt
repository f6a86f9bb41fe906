use Rattle.std.proofs.Common.{arith, ap, sym, ◌∙◌}
use Rattle.golog_semantics.specs.Truth.{env_of, arg_value}
use Rattle.golog_journal.proofs.Sensing.{env-index}
use Rattle.golog_journal.proofs.table.value_in.Goals as goal

pub returns-in-Some : goal.returns-in-Some
returns-in-Some c =
    c.in-Some.ensures.lookup.4 (omega arith) 0 ∙ sym (env-index c.args.values.now c.in-Var.var)
    ∙ sym (ap (arg_value (env_of c.args.values.now)) c.in-Var.is)

pub returns-in-None : goal.returns-in-None
returns-in-None c =
    c.in-None.ensures.lookup.4 (omega arith) 0 ∙ sym (env-index c.args.values.now c.in-Var.var)
    ∙ sym (ap (arg_value (env_of c.args.values.now)) c.in-Var.is)
