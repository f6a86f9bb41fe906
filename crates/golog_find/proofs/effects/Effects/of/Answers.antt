use Rattle.std.proofs.Common.{sym, subst}
use Rattle.std.specs.Prelude.{IfSome}
use Rattle.golog_flat.specs.Effects.{IsEffectOf}
use Rattle.golog_find.proofs.Kept.{found-effect}
use Rattle.golog_find.proofs.effects.Effects.of.Goals as goal

pub returns-in-Quiet : goal.returns-in-Quiet
returns-in-Quiet c = λ agent h. tt

pub returns-in-Do : goal.returns-in-Do
returns-in-Do c = λ agent h.
    subst (λ label. IfSome c.get.result (λ e. IsEffectOf agent label e.now)) (sym c.in-Do.is)
    (found-effect agent c.args.self.now c.in-Do.action c.get.result h c.get.ensures.value)
