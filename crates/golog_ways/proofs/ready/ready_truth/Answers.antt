use Rattle.std.proofs.Common.{[], ap, sym, ◌∙◌, subst, arith}
use Rattle.std.proofs.lemmas.List.Elements.{All-get_or}
use Rattle.golog_tree.proofs.EqualConditions.{cond-decides}
use Rattle.golog_semantics.specs.Truth.{env_of, truth_of}
use Rattle.golog_ways.specs.Ready.{IsReady}
use Rattle.golog_ways.proofs.ready.ready_truth.Goals as goal

pub truth-requires-clause-fits : goal.truth-requires-clause-fits
truth-requires-clause-fits c =
    let agent = c.args.agent.now in
    (subst (IsReady agent) (sym c.one-item.is) (All-get_or (IsReady agent) c.args.ready.now c.loop-one.one-index c.one-item.result (omega arith) c.requires.ready)).fits

pub returns-then-eq : goal.returns-then-eq
returns-then-eq c =
    let agent = c.args.agent.now in
    let values = c.args.values.now in
    let one = c.one-item.result in
    let is = subst (IsReady agent) (sym c.one-item.is) (All-get_or (IsReady agent) c.args.ready.now c.loop-one.one-index one (omega arith) c.requires.ready) in
    c.truth.ensures ∙ is.same values
    ∙ ap (λ cond. truth_of agent values cond (env_of [])) ((cond-decides one.cond c.args.cond.now).0 (sym c.eq.ensures ∙ c.if-eq.true))
