use Rattle.std.proofs.Common.{ℕ, ap, ◌∙◌}
use Rattle.golog_semantics.specs.Search.{final}
use Rattle.golog_find.specs.Visits.{prog_at}
use Rattle.golog_find.proofs.search.Search.may_end.Goals as goal

pub holds-requires-clause-countable : goal.holds-requires-clause-countable
holds-requires-clause-countable c = c.requires.agent.countable

pub holds-requires-clause-fits : goal.holds-requires-clause-fits
holds-requires-clause-fits c = (c.in-Some.ensures c.args.agent.now c.args.self.now.nodes c.requires.kept).opened.end.fits

pub holds-requires-clause-whole : goal.holds-requires-clause-whole
holds-requires-clause-whole c = c.requires.searched.sorts.whole

pub returns-in-Some : goal.returns-in-Some
returns-in-Some c =
    let agent = c.args.agent.now in
    let nodes = c.args.self.now.nodes in
    let values = c.args.reached.values.now in
    let kept = c.in-Some.ensures agent nodes c.requires.kept in
    c.holds.ensures.holds
    ∙ kept.opened.end.ends c.args.mode values
    ∙ ap (λ (number : ℕ). final agent values c.args.mode (prog_at nodes number)) kept.same
