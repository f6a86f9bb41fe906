use Rattle.std.proofs.Common.{length, sym, subst}
use Rattle.std.proofs.lemmas.Bool.{lt-ltb}
use Rattle.std.proofs.lemmas.Option.{slice_get_within}
use Rattle.golog_tree.specs.Ground.{AreWithin, args_at, fluent_args, ground_fluents, sizes}
use Rattle.golog_known.proofs.Evaluated.{fluent_is}
use Rattle.golog_flat.proofs.sides.place_of.Goals as goal

pub arg_values-args_of-requires : goal.arg_values-args_of-requires
arg_values-args_of-requires c =
    (fluent_is c.args.agent.now c.requires.countable c.args.fluent c.args.args.now c.args.env.now c.requires.fits).few

pub fluent_no-requires-clause-fluent : goal.fluent_no-requires-clause-fluent
fluent_no-requires-clause-fluent c =
    (fluent_is c.args.agent.now c.requires.countable c.args.fluent c.args.args.now c.args.env.now c.requires.fits).inside

pub fluent_no-requires-clause-fits : goal.fluent_no-requires-clause-fits
fluent_no-requires-clause-fits c =
    let is = fluent_is c.args.agent.now c.requires.countable c.args.fluent c.args.args.now c.args.env.now c.requires.fits in
    subst (λ vs. AreWithin (sizes c.args.agent.now (args_at (fluent_args c.args.agent.now) c.args.fluent)) vs)
    (sym c.arg_values-args_of.ensures) is.within

pub returns-clause-inside : goal.returns-clause-inside
returns-clause-inside c =
    lt-ltb c.fluent_no.result (length (ground_fluents c.args.agent.now))
    (slice_get_within (ground_fluents c.args.agent.now) c.fluent_no.result _ c.fluent_no.ensures.named)
