use Rattle.std.proofs.Common.{ℕ, List, sym, subst}
use Rattle.std.proofs.lemmas.Option.{slice_get_within}
use Rattle.golog_tree.specs.Ground.{AreWithin, sizes}
use Rattle.golog_check.proofs.StartLaws.{no-fluent, other-args, args-are}
use Rattle.golog_check.proofs.start_values.number_of.Goals as goal

pub returns-in_default : goal.returns-in_default
returns-in_default c = no-fluent c.args.agent.now c.args.fluent c.args.args.now (sym c.in_default.ensures)

pub returns-then-not-are_within : goal.returns-then-not-are_within
returns-then-not-are_within c =
    other-args c.args.agent.now c.args.fluent c.in-Some.item.now c.args.args.now (sym c.in-Some.ensures) (λ w.
    let yes = c.are_within.ensures.1
    (subst (λ (sorts : List ℕ). AreWithin (sizes c.args.agent.now sorts) c.args.args.now) (sym c.as_slice.ensures) w) in
    let no = c.if-not-are_within.true in cc)

pub fluent_no-requires-clause-fluent : goal.fluent_no-requires-clause-fluent
fluent_no-requires-clause-fluent c =
    slice_get_within c.args.agent.now.fluents c.args.fluent c.in-Some.item.now (sym c.in-Some.ensures)

pub fluent_no-requires-clause-fits : goal.fluent_no-requires-clause-fits
fluent_no-requires-clause-fits c =
    args-are c.args.agent.now c.args.fluent c.in-Some.item.now c.args.args.now (sym c.in-Some.ensures)
    (subst (λ (sorts : List ℕ). AreWithin (sizes c.args.agent.now sorts) c.args.args.now) c.as_slice.ensures
    (c.are_within.ensures.0 c.if-not-are_within.false))
