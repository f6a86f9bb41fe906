use Rattle.std.proofs.Common.{◌≡◌, ◌+◌, suc, List, length, map, sym, ap, ◌∙◌, subst, refl, arith}
use Rattle.std.proofs.lemmas.List.{nil_from_length}
use Rattle.std.proofs.lemmas.Result.{IfOk-weaker}
use Rattle.golog_semantics.specs.Blocks.{State}
use Rattle.golog_branch.specs.declared.spot.Linked.{Linked}
use Rattle.golog_branch.specs.declared.spot.Spot.{Spot}
use Rattle.golog_branch.specs.Levels.{AreLevels, Table, linked_plan, state_of}
use Rattle.golog_branch.specs.Plans.{first_plan}
use Rattle.golog_branch.proofs.TablePlans.{level-is, map-through, plan_of}
use Rattle.golog_branch.proofs.planner.Planner.+table.Goals as goal

pub returns-in_default : goal.returns-in_default
returns-in_default t c =
    let agent = c.args.self.now.agent.now in
    let last = c.args.last.now in
    IfOk-weaker c.last_table.result
    (λ (table : Table). table ≡ map (λ (s : Spot). first_plan agent 1 s.left s.state) last)
    (λ (table : Table). (states : List State) → AreLevels agent states c.args.levels.now last → table ≡ map (plan_of agent (length c.args.levels.now + 1)) states)
    (λ table is states h.
    let none = nil_from_length c.args.levels.now c.in_default.ensures.cases in
    let levels = subst (λ ls. AreLevels agent states ls last) none h in
    is ∙ map-through (λ (s : Spot). first_plan agent 1 s.left s.state) (plan_of agent 1) state_of (λ s. refl) last
    ∙ ap (map (plan_of agent 1)) levels.0
    ∙ ap (λ (ls : List (List Linked)). map (plan_of agent (length ls + 1)) states) (sym none))
    c.last_table.ensures

pub returns : goal.returns
returns t c =
    let agent = c.args.self.now.agent.now in
    let last = c.args.last.now in
    let level = c.in-Some.level.now in
    let rest = c.in-Some.levels.now in
    IfOk-weaker c.linked_table-plans.result
    (λ (plans : Table). plans ≡ map (linked_plan c.as_slice.result.now) c.as_slice-2.result.now)
    (λ (plans : Table). (states : List State) → AreLevels agent states c.args.levels.now last → plans ≡ map (plan_of agent (length c.args.levels.now + 1)) states)
    (λ plans is states h.
    let some = c.in-Some.ensures.cases.0 in
    let levels = subst (λ ls. AreLevels agent states ls last) some h in
    let next = levels.0 in
    let table = c.as_slice.ensures ∙ c.in_ok-table.ensures next levels.2 in
    is ∙ ap (λ (tb : Table). map (linked_plan tb) c.as_slice-2.result.now) table
    ∙ ap (map (linked_plan (map (plan_of agent (length rest + 1)) next))) c.as_slice-2.ensures
    ∙ level-is agent (length rest + 1) next states level levels.1
    ∙ ap (λ k. map (plan_of agent k) states) (let count = ap (λ (ls : List (List Linked)). length ls) some in let e : suc (length rest + 1) ≡ length c.args.levels.now + 1 = omega arith in e))
    c.linked_table-plans.ensures
