use Rattle.std.proofs.Common.{true, Some, subst}
use Rattle.std.specs.Prelude.{IfSome}
use Rattle.golog_search.specs.declared.decision.Decision.TheVariants.{Step}
use Rattle.golog_search.specs.Decided.{IsAhead}
use Rattle.golog_agent.specs.Configuration.{Configuration}
use Rattle.golog_agent.specs.Planned.{IsNextStep}
use Rattle.golog_agent.proofs.Growth.{kept-same}
use Rattle.golog_agent.proofs.Planning.{known-inside, next-ahead}
use Rattle.golog_agent.proofs.under_way.Core.keep_step.Goals as goal

pub keep-requires : goal.keep-requires
keep-requires c =
    let r = c.self.inside in
    known-inside r.counts.agent r.counts.entries c.args.self.now c.self.view_is r.decider c.self.invariant.known_so
    (λ (known : Configuration). IsAhead known.agent known.values known.left true (Some (Step c.in-Some.step)))
    (next-ahead c.args.self.now.agent c.args.self.now.list c.in-Some.step
    (subst (λ step. IfSome step (IsNextStep c.args.self.now.agent c.args.self.now.list)) c.in-Some.is c.requires))

pub invariant_of-self : goal.invariant_of-self
invariant_of-self c =
    let r = c.self.inside in
    kept-same r.counts.agent r.counts.entries r.decider c.keep.new.self r.held r.ended c.keep.ensures c.self.invariant
