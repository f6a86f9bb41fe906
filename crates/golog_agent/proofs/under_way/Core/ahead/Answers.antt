use Rattle.std.proofs.Common.{true}
use Rattle.std.specs.Prelude.{IfOk}
use Rattle.golog_search.specs.Decided.{IsAhead}
use Rattle.golog_agent.specs.Configuration.{Configuration}
use Rattle.golog_agent.proofs.Growth.{kept-same, sound}
use Rattle.golog_agent.proofs.Planning.{known-seen}
use Rattle.golog_agent.proofs.under_way.Core.ahead.Goals as goal

pub decide-requires : goal.decide-requires
decide-requires g c =
    let r = c.self.inside in
    sound r.counts.agent r.counts.entries r.decider c.self.invariant.known_so c.self.invariant.under_way

pub invariant_of-self : goal.invariant_of-self
invariant_of-self g c =
    let r = c.self.inside in
    kept-same r.counts.agent r.counts.entries r.decider c.decide.new.self r.held r.ended c.decide.ensures.same c.self.invariant

pub returns-clause-ahead : goal.returns-clause-ahead
returns-clause-ahead g c =
    let r = c.self.inside in
    known-seen r.counts.agent r.counts.entries c.args.self.now c.self.view_is r.decider c.self.invariant.known_so
    (λ (known : Configuration). IfOk c.decide.result (IsAhead known.agent known.values known.left true)) c.decide.ensures.ahead
