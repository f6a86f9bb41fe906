use Rattle.std.proofs.Common.{◌∙◌, sym}
use Rattle.golog_plan.proofs.Decisions.{given-kept, given-searched, kept-ahead, kept-begins, kept-tail}
use Rattle.golog_plan.proofs.Following.{own-formed, seen_as}
use Rattle.golog_plan.proofs.plan_core.PlanCore.go_on.Goals as goal

pub going-requires : goal.going-requires
going-requires c =
    let r = c.self.inside in
    let k = c.self.invariant in
    record {
      agent = own-formed (seen_as r.counts r.depth r.fuel) r.agent.now r.state r.kept r.ended k;
      facts = c.facts.ensures ∙ sym k.own_so;
      searched = given-searched (seen_as r.counts r.depth r.fuel) c.args.self.now r.agent.now r.state r.kept r.ended k c.self.view_is c.args.kept.now c.requires.kept;
    }

pub begin-next-requires-clause-ahead : goal.begin-next-requires-clause-ahead
begin-next-requires-clause-ahead c =
    let r = c.self.inside in
    kept-ahead c.args.self.now c.in-Some.tree
    (sym (given-kept (seen_as r.counts r.depth r.fuel) c.args.self.now r.agent.now r.state r.kept r.ended c.self.invariant c.self.view_is c.args.kept.now c.requires.kept)
    ∙ sym c.in_ok-tree.ensures ∙ c.in-Some.is)

pub begin-next-requires-clause-step : goal.begin-next-requires-clause-step
begin-next-requires-clause-step c =
    let r = c.self.inside in
    kept-begins c.args.self.now c.in-Some.tree
    (sym (given-kept (seen_as r.counts r.depth r.fuel) c.args.self.now r.agent.now r.state r.kept r.ended c.self.invariant c.self.view_is c.args.kept.now c.requires.kept)
    ∙ sym c.in_ok-tree.ensures ∙ c.in-Some.is)

pub begin-next-requires-clause-tail : goal.begin-next-requires-clause-tail
begin-next-requires-clause-tail c =
    let r = c.self.inside in
    kept-tail c.args.self.now c.in-Some.tree
    (sym (given-kept (seen_as r.counts r.depth r.fuel) c.args.self.now r.agent.now r.state r.kept r.ended c.self.invariant c.self.view_is c.args.kept.now c.requires.kept)
    ∙ sym c.in_ok-tree.ensures ∙ c.in-Some.is)

pub search_on-requires-clause-new : goal.search_on-requires-clause-new
search_on-requires-clause-new c =
    let r = c.self.inside in
    sym (given-kept (seen_as r.counts r.depth r.fuel) c.args.self.now r.agent.now r.state r.kept r.ended c.self.invariant c.self.view_is c.args.kept.now c.requires.kept)
    ∙ sym c.in_ok-tree.ensures ∙ c.in-None.is
