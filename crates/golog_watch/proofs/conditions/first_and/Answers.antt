use Rattle.std.proofs.Common.{◌≡◌, [], ◌∷◌}
use Rattle.std.proofs.lemmas.Result.{IfOk-weaker}
use Rattle.golog_tree.specs.declared.cond.Cond.TheVariants as cond
use Rattle.golog_watch.specs.Watched.{Tells}
use Rattle.golog_watch.proofs.Telling.{first-tells}
use Rattle.golog_watch.proofs.conditions.first_and.Goals as goal

pub returns-in-Ok : goal.returns-in-Ok
returns-in-Ok c =
    let agent = c.args.agent.now in
    let prog = c.args.prog.now in
    let way = c.args.way.now in
    let later = c.args.later.now in
    let opened = c.args.opened in
    let before = c.in-Ok.next in
    IfOk-weaker c.conjunction.result (λ a. a ≡ cond.And (opened ∷ before ∷ [])) (Tells agent prog (way ∷ later))
    (λ a is. first-tells agent c.requires.formed prog way later opened c.args.next.now before c.requires.opens c.requires.tells c.in-Ok.ensures a is)
    c.conjunction.ensures
