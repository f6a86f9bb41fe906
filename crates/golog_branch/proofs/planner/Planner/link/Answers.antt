use Rattle.std.proofs.Common.{map, ap, refl, ◌∙◌}
use Rattle.std.specs.Prelude.{fold}
use Rattle.golog_branch.specs.declared.cases.Case.{Case as AnyCase}
use Rattle.golog_branch.specs.Levels.{case_of, led, states_of, with_state}
use Rattle.golog_branch.specs.Trees.{Case}
use Rattle.golog_branch.proofs.CasesKeep.{cases-searched}
use Rattle.golog_branch.proofs.TablePlans.{map-through}
use Rattle.golog_branch.proofs.planner.Planner.link.Goals as goal

pub jumps-jumps-requires-clause-cases : goal.jumps-jumps-requires-clause-cases
jumps-jumps-requires-clause-cases c =
    let way = c.requires.way in
    cases-searched c.args.self.now.agent.now c.requires.agent c.args.way.now.left way.program way.blockless c.args.state.now c.requires.sorts
    c.args.way.now.label way.label c.as_slice.result.now (ap (map case_of) c.as_slice.ensures ∙ c.in_ok-cases.ensures)

pub returns-clause-states : goal.returns-clause-states
returns-clause-states c =
    let left = c.args.way.now.left in
    let cs = c.as_slice.result.now in
    c.in_ok-jumps.ensures.states
    ∙ ap (fold with_state (states_of c.args.next.now.spots))
    (map-through (λ (x : AnyCase). (left, x.state)) (λ (x : Case). (left, x.1)) case_of (λ x. refl) cs
    ∙ ap (map (λ (x : Case). (left, x.1))) (ap (map case_of) c.as_slice.ensures ∙ c.in_ok-cases.ensures))

pub returns-clause-link : goal.returns-clause-link
returns-clause-link c =
    let left = c.args.way.now.left in
    let cs = c.as_slice.result.now in
    let way = c.in_ok-way.ensures in
    let jumps =
    c.in_ok-jumps.ensures.jumps
    ∙ map-through (λ (x : AnyCase). led left (case_of x)) (led left) case_of (λ x. refl) cs
    ∙ ap (map (led left)) (ap (map case_of) c.as_slice.ensures ∙ c.in_ok-cases.ensures) in
    (λ i. (way i, jumps i))
