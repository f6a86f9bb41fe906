use Rattle.std.proofs.Common.{◌≡◌, true, false, sym, subst, ◌∙◌}
use Rattle.std.specs.Prelude.{IsTrue}
use Rattle.golog_semantics.specs.declared.Mode.TheVariants.{Must}
use Rattle.golog_semantics.specs.Search.{final}
use Rattle.golog_semantics.specs.Blocks.{moves}
use Rattle.golog_semantics.specs.Ways.{is_empty}
use Rattle.golog_search.specs.Decided.{IsDecided}
use Rattle.golog_agent.specs.Configuration.{Configuration}
use Rattle.golog_agent.specs.Keeping.{IsUnderWay}
use Rattle.golog_agent.specs.Planned.{PlanIs}
use Rattle.golog_lead.specs.Courses.{Course}
use Rattle.golog_agent.proofs.Growth.{sound}
use Rattle.golog_agent.proofs.Planning.{blocked-plan, known-inside, known-seen, lacking-plan}
use Rattle.golog_agent.proofs.under_way.Core.blocked_plan.Goals as goal

pub why_blocked-requires-clause-sound : goal.why_blocked-requires-clause-sound
why_blocked-requires-clause-sound g c =
    let r = c.self.inside in
    sound r.counts.agent r.counts.entries r.decider c.self.invariant.known_so c.self.invariant.under_way

pub why_blocked-requires-clause-unended : goal.why_blocked-requires-clause-unended
why_blocked-requires-clause-unended g c =
    let r = c.self.inside in
    known-inside r.counts.agent r.counts.entries c.args.self.now c.self.view_is r.decider c.self.invariant.known_so
    (λ (known : Configuration). final known.agent known.values Must known.left ≡ false) c.requires.unended

pub why_blocked-requires-clause-stepless : goal.why_blocked-requires-clause-stepless
why_blocked-requires-clause-stepless g c =
    let r = c.self.inside in
    known-inside r.counts.agent r.counts.entries c.args.self.now c.self.view_is r.decider c.self.invariant.known_so
    (λ (known : Configuration). IsTrue (is_empty (moves known.agent known.values Must known.left))) c.requires.stepless

pub returns-then-lacks_results : goal.returns-then-lacks_results
returns-then-lacks_results g c =
    let now = c.args.self.now in
    lacking-plan now.agent now.list c.requires.room c.requires.answered c.requires.settled c.requires.unended c.requires.stepless c.requires.quiet
    (sym c.lacks_results.ensures ∙ c.if-lacks_results.true)

pub returns-in-Ok : goal.returns-in-Ok
returns-in-Ok g c =
    let r = c.self.inside in
    let now = c.args.self.now in
    subst (PlanIs now.agent now.list) (sym c.planned.ensures)
    (blocked-plan now.agent now.list (subst (λ (v : Course). IsUnderWay v.agent v.list) c.self.view_is c.self.invariant.under_way)
    c.requires.room c.requires.answered c.requires.settled c.in-Ok.decision
    (known-seen r.counts.agent r.counts.entries now c.self.view_is r.decider c.self.invariant.known_so
    (λ (known : Configuration). IsDecided known.agent known.values known.left true c.in-Ok.decision) c.in-Ok.ensures)
    c.requires.quiet (sym c.lacks_results.ensures ∙ c.if-lacks_results.false))
