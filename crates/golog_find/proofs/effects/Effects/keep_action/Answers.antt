use Rattle.std.proofs.Common.{◌≡◌, false, subst}
use Rattle.std.specs.Prelude.{MatchOption}
use Rattle.golog_tree.specs.declared.prog.Label.TheVariants.{Do}
use Rattle.golog_flat.specs.Effects.{IsEffectOf, is_plain_step}
use Rattle.golog_find.specs.declared.effects.Effects.{Effects}
use Rattle.golog_find.proofs.Kept.{effects-more}
use Rattle.golog_find.proofs.effects.Effects.keep_action.Goals as goal

pub returns-in_ok-insert-in-Some : goal.returns-in_ok-insert-in-Some
returns-in_ok-insert-in-Some c =
    let agent = c.args.agent.now in
    let action = c.args.action in
    let after : Effects = record { kept = c.insert.new.self } in
    let is : IsEffectOf agent (Do action) c.in-Some.effect =
    subst (λ found. MatchOption found (is_plain_step agent (Do action) ≡ false) (IsEffectOf agent (Do action))) c.in-Some.is c.in_ok-effect.ensures in
    effects-more agent c.args.self.now after action c.in-Some.effect c.requires.kept is (c.in_ok-insert-in-Some.ensures.updates).0
