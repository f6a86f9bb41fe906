use Rattle.std.proofs.Common.{◌≡◌, true, sym, subst}
use Rattle.std.proofs.lemmas.List.Elements.{All-get_or}
use Rattle.golog_semantics.specs.Reports.{fits_label}
use Rattle.golog_ways.specs.declared.expand.NumberedFront.{NumberedFront}
use Rattle.golog_find.proofs.effects.Effects.keep_all.Goals as goal

pub keep-requires-clause-label : goal.keep-requires-clause-label
keep-requires-clause-label c =
    let Fits = λ (f : NumberedFront). fits_label c.args.agent.now f.label ≡ true in
    subst Fits (sym c.front-item.is) (All-get_or Fits c.args.fronts.now c.loop-front.front-index c.front-item.result c.loop-front-test.true c.requires.labels)
