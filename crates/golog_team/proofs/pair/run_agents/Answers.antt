use Rattle.std.proofs.Common.{◌≡◌, [], ◌∙◌, subst}
use Rattle.std.specs.Prelude.{IfOk}
use Rattle.golog_team.specs.declared.pair.Kit.{Kit}
use Rattle.golog_team.proofs.pair.run_agents.Goals as goal

pub run_locked-leads-requires-clause-new : goal.run_locked-leads-requires-clause-new
run_locked-leads-requires-clause-new g c κs within = (c.in-Ok.ensures.parties, c.in-Ok.ensures.seen ∙ c.in_ok-link.ensures)

pub run_locked-leads-requires-clause-one : goal.run_locked-leads-requires-clause-one
run_locked-leads-requires-clause-one g c κs within =
    subst (λ r. IfOk r (λ (k : Kit). (k.journal ≡ record { agent = c.args.first.now; entries = [] }) × (k.facts ≡ c.args.first.now)))
    c.in_ok-one.ensures.parts.0 c.new.ensures

pub run_locked-leads-requires-clause-other : goal.run_locked-leads-requires-clause-other
run_locked-leads-requires-clause-other g c κs within =
    subst (λ r. IfOk r (λ (k : Kit). (k.journal ≡ record { agent = c.args.second.now; entries = [] }) × (k.facts ≡ c.args.second.now)))
    c.in_ok-one.ensures.parts.1 c.new-2.ensures
