use Rattle.std.proofs.Common.{subst, sym}
use Rattle.golog_semantics.specs.InSorts.{AreInSorts}
use Rattle.golog_semantics.proofs.SortsStay.{set-sorts}
use Rattle.golog_progress.proofs.state.State.after_sense.Goals as goal

pub returns-clause-sorts : goal.returns-clause-sorts
returns-clause-sorts c = λ agent sorts fits.
    set-sorts agent c.self.inside.values.items (subst (AreInSorts agent) (sym c.self.view_is) sorts) c.args.fluent c.args.value fits
