use Rattle.std.proofs.Common.{◌≡◌, ◌∷◌}
use Rattle.std.proofs.lemmas.Result.{IfOk-weaker}
use Rattle.golog_watch.specs.Watched.{AreTold, IsNext, with_small}
use Rattle.golog_watch.proofs.Telling.{at-some, first-told, kept-told}
use Rattle.golog_watch.proofs.conditions.with_first.Goals as goal

pub returns-in-Ok-Some : goal.returns-in-Ok-Some
returns-in-Ok-Some c =
    let agent = c.args.agent.now in
    let prog = c.args.prog.now in
    let way = c.args.way.now in
    let later = c.args.later.now in
    let conds = c.args.conds in
    let whole = c.in-Ok-Some.whole in
    let next : IsNext agent prog (way ∷ later) conds whole =
    at-some (IsNext agent prog (way ∷ later) conds) c.in-Ok-Some.field-0 whole c.in-Ok-Some.ensures c.in-Ok-Some.field-0-is in
    IfOk-weaker c.with_small.result (λ list. list ≡ with_small conds whole) (AreTold agent prog (way ∷ later))
    (λ list k. first-told agent prog way later conds list whole c.requires.told next k)
    c.with_small.ensures

pub returns-in-Ok-None : goal.returns-in-Ok-None
returns-in-Ok-None c = kept-told c.args.agent.now c.args.prog.now c.args.way.now c.args.later.now c.args.conds c.requires.told
