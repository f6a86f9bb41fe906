use Rattle.std.proofs.Common.{◌≡◌, [], List, false, subst}
use Rattle.std.proofs.lemmas.Result.{IfOk-weaker}
use Rattle.golog_tree.specs.declared.cond.Cond.{Cond}
use Rattle.golog_watch.specs.Watched.{AreTold, with_small}
use Rattle.golog_watch.proofs.Telling.{end-told}
use Rattle.golog_watch.proofs.conditions.last_of.Goals as goal

pub end_cond-requires-clause-program : goal.end_cond-requires-clause-program
end_cond-requires-clause-program c = record { in_block = false; fits = c.requires.program }

pub returns : goal.returns
returns c =
    let agent = c.args.agent.now in
    let prog = c.args.prog.now in
    let end = c.in_ok-end.end in
    IfOk-weaker c.with_small.result (λ list. list ≡ with_small c.new.result end) (AreTold agent prog [])
    (λ list k. end-told agent prog end list c.in_ok-end.ensures.end c.in_ok-end.ensures.closed
    (subst (λ (conds : List Cond). list ≡ with_small conds end) c.new.ensures k))
    c.with_small.ensures
