use Rattle.std.proofs.Common.{◌∙◌, sym}
use Rattle.golog_plan.proofs.Decisions.{given-found, given-searched, given-so, new-ahead}
use Rattle.golog_plan.proofs.Following.{own-formed, seen_as}
use Rattle.golog_plan.proofs.plan_core.PlanCore.search_on.Goals as goal

pub plan-requires : goal.plan-requires
plan-requires c =
    let r = c.self.inside in
    let k = c.self.invariant in
    record {
      agent = own-formed (seen_as r.counts r.depth r.fuel) r.agent.now r.state r.kept r.ended k;
      facts = c.facts.ensures ∙ sym k.own_so;
      searched = given-searched (seen_as r.counts r.depth r.fuel) c.args.self.now r.agent.now r.state r.kept r.ended k c.self.view_is c.args.kept.now c.requires.kept;
      depth = k.followed.deep;
      fuel = k.followed.fueled;
    }

pub by_plan-requires-clause-found : goal.by_plan-requires-clause-found
by_plan-requires-clause-found c =
    let r = c.self.inside in
    new-ahead c.args.self.now c.requires.new c.in_ok-found.found
    (c.in_ok-found.ensures.found
    ∙ given-found (seen_as r.counts r.depth r.fuel) c.args.self.now r.agent.now r.state r.kept r.ended c.self.invariant c.self.view_is c.args.kept.now c.requires.kept)

pub by_plan-requires-clause-so : goal.by_plan-requires-clause-so
by_plan-requires-clause-so c =
    let r = c.self.inside in
    given-so (seen_as r.counts r.depth r.fuel) c.args.self.now r.agent.now r.state r.kept r.ended c.self.invariant c.self.view_is c.args.kept.now c.requires.kept c.in_ok-found.found
    c.in_ok-found.ensures.so
