use Rattle.golog_commands.specs.Outcome.{CondFails, OfCondition, TruthOf}
use Rattle.golog_commands.proofs.OutcomeLemmas.{cond-comes, cond-holds, ends-so}
use Rattle.golog_commands.proofs.commands.asked_after.Goals as goal

pub returns-in-Ok : goal.returns-in-Ok
returns-in-Ok c =
    let u = c.args.understood.now in
    cond-holds u.theory u.agent c.args.word.now (TruthOf u.agent c.args.told.now) c.in-Ok.cond c.truth_of-outcome.result c.in-Ok.ensures.spells c.truth_of-outcome.ensures

pub returns-in-Err : goal.returns-in-Err
returns-in-Err c =
    let u = c.args.understood.now in
    let next = TruthOf u.agent c.args.told.now in
    ends-so c.ended.result c.in-Err.unready (CondFails u.theory u.agent c.args.word.now) (OfCondition u.theory u.agent c.args.word.now next) c.ended.ensures.outcome
    (cond-comes u.theory u.agent c.args.word.now next) c.in-Err.ensures.unready
