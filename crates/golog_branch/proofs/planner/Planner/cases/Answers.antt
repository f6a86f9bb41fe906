use Rattle.std.proofs.Common.{◌≡◌, ◌<◌, List, IfOk, length, map, sym, ap, ◌∙◌, subst}
use Rattle.golog_semantics.specs.Truth.{Values}
use Rattle.golog_semantics.proofs.CausesKeep.{steps_stay_in_sorts}
use Rattle.golog_branch.specs.declared.cases.Case.{Case as AnyCase}
use Rattle.golog_branch.specs.Levels.{case_of}
use Rattle.golog_branch.specs.Trees.{Case, cases_by}
use Rattle.golog_branch.proofs.CasesKeep.{if-some, sensed-fluent}
use Rattle.golog_branch.proofs.planner.Planner.cases.Goals as goal

pub cases_there-requires-clause-whole : goal.cases_there-requires-clause-whole
cases_there-requires-clause-whole c =
    ap (λ (v : Values). length v) c.in_ok-there.ensures
    ∙ (steps_stay_in_sorts c.args.self.now.agent.now c.requires.agent c.args.state.now c.args.label c.requires.sorts).whole

pub cases_there-requires-clause-number : goal.cases_there-requires-clause-number
cases_there-requires-clause-number c =
    let whole = ap (λ (v : Values). length v) c.in_ok-there.ensures
    ∙ (steps_stay_in_sorts c.args.self.now.agent.now c.requires.agent c.args.state.now c.args.label c.requires.sorts).whole in
    if-some (λ fluent. fluent < length c.in_ok-there.there) c.sensed.result
    (λ fluent e. subst (λ n. fluent < n) (sym whole) (sensed-fluent c.args.self.now.agent.now c.requires.agent c.args.label fluent (sym c.sensed.ensures ∙ e)))

pub returns : goal.returns
returns c =
    let there = c.in_ok-there.ensures in
    let sensed = c.sensed.ensures in
    subst (λ (ds : List Case). IfOk c.cases_there.result (λ (cs : List AnyCase). map case_of cs ≡ ds))
    (λ i. cases_by c.args.self.now.agent.now (there i) (sensed i)) c.cases_there.ensures
