use Rattle.std.proofs.Common.{◌<◌, length, sym, subst, arith}
use Rattle.std.proofs.lemmas.Option.{slice_get_within}
use Rattle.golog_tree.specs.Ground.{AreWithin, args_at, fluent_args, ground_fluents, sizes}
use Rattle.golog_known.proofs.Evaluated.{fluent_is}
use Rattle.golog_known.proofs.fluent.fluent_at.Goals as goal

pub arg_values-args_of-requires : goal.arg_values-args_of-requires
arg_values-args_of-requires c =
    (fluent_is c.args.agent.now c.requires.countable c.args.fluent c.args.args.now c.args.env.now c.requires.fits).few

pub fluent_no-number-requires-clause-fluent : goal.fluent_no-number-requires-clause-fluent
fluent_no-number-requires-clause-fluent c =
    (fluent_is c.args.agent.now c.requires.countable c.args.fluent c.args.args.now c.args.env.now c.requires.fits).inside

pub fluent_no-number-requires-clause-fits : goal.fluent_no-number-requires-clause-fits
fluent_no-number-requires-clause-fits c =
    let is = fluent_is c.args.agent.now c.requires.countable c.args.fluent c.args.args.now c.args.env.now c.requires.fits in
    subst (λ vs. AreWithin (sizes c.args.agent.now (args_at (fluent_args c.args.agent.now) c.args.fluent)) vs)
    (sym c.arg_values-args_of.ensures) is.within

pub bounds-values-number : goal.bounds-values-number
bounds-values-number c =
    let inside : c.fluent_no-number.result < length (ground_fluents c.args.agent.now) =
    slice_get_within (ground_fluents c.args.agent.now) c.fluent_no-number.result _ c.fluent_no-number.ensures.named in
    omega arith
