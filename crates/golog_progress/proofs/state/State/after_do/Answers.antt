use Rattle.std.proofs.Common.{◌≡◌, subst, sym, arith}
use Rattle.std.proofs.lemmas.Grind.{common_steps}
use Rattle.golog_tree.specs.declared.prog.Label.TheVariants.{Do}
use Rattle.golog_semantics.specs.Values.{after_do}
use Rattle.golog_semantics.specs.InSorts.{AreInSorts}
use Rattle.golog_semantics.proofs.CausesKeep.{steps_stay_in_sorts}
use Rattle.golog_progress.proofs.state.State.after_do.Goals as goal

pub returns-clause-sorts : goal.returns-clause-sorts
returns-clause-sorts c =
    let kept : AreInSorts c.args.agent.now (after_do c.args.agent.now c.args.self.now c.args.action) = steps_stay_in_sorts c.args.agent.now c.requires.agent c.args.self.now (Do c.args.action) c.requires.sorts in
    let made : c.swap.new.x.items ≡ after_do c.args.agent.now c.args.self.now c.args.action = grind (arith, common_steps) in
    subst (AreInSorts c.args.agent.now) (sym made) kept
