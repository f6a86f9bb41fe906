-- Conditions that are asked of an agent.
use Rattle.std.proofs.Common.{◌≡◌, true, List, [], ◌∷◌, Result, Ok, Err, refl, subst, arith}
use Rattle.std.specs.Prelude.{IfOk}
use Rattle.std.specs.List.{list_all}
use Rattle.golog_tree.specs.declared.agent.Agent.{Agent}
use Rattle.golog_tree.specs.declared.agent.FluentItem.{FluentItem}
use Rattle.golog_tree.specs.declared.cond.Cond.{Cond}
use Rattle.golog_tree.specs.declared.draft_cond.DraftCond.{DraftCond}
use Rattle.golog_semantics.specs.Fits.{is_sort, nothing_bound}
use Rattle.golog_semantics.specs.WellFormed.{WellFormed, are_sorts, fluent_item_fits}
use Rattle.golog_draft.specs.Drafts.{AgentCondKeeps}
use Rattle.golog_semantics.proofs.Tests.{and_both, and_cases}
use Rattle.golog_check.specs.DeclaredItems.{Declared, HasFewSorts, declared_in}
use Rattle.golog_check.specs.declared.fault.CheckFault.{CheckFault}
use Rattle.golog_check.specs.Faults.{Answers}
use Rattle.golog_check.specs.Conditions.{cond_in}
use Rattle.golog_check.specs.CheckLaws.{HasItems, IsCondOf}
use Rattle.golog_check.proofs.CondLaws.{conds-fit}

pub few-sorts : (agent : Agent) → WellFormed agent → HasFewSorts agent.sorts
few-sorts agent w = record { sorts = w.small.sorts; constants = w.countable.sorts }

pub fluents-sorted : (agent : Agent) (items : List FluentItem) → list_all (fluent_item_fits agent) items ≡ true → list_all (λ (item : FluentItem). is_sort agent item.sort) items ≡ true
fluents-sorted agent [] h = h
fluents-sorted agent (i ∷ items) h =
    let k = and_cases (fluent_item_fits agent i) (list_all (fluent_item_fits agent) items) h in
    and_both (is_sort agent i.sort) (list_all (λ (item : FluentItem). is_sort agent item.sort) items) (and_cases (are_sorts agent i.args) (is_sort agent i.sort) k.0).1 (fluents-sorted agent items k.1)

has-items : (agent : Agent) → WellFormed agent → HasItems agent (declared_in agent)
has-items agent w = record { sorts = refl; fluents = refl; sorted = fluents-sorted agent agent.fluents w.fluents }

pub asked : (agent : Agent) → WellFormed agent → (draft : DraftCond) → AgentCondKeeps agent draft → (c : Cond) → (cond_in (declared_in agent) draft []).outcome ≡ Ok c → IsCondOf agent nothing_bound 0 c
asked agent w draft keeps c h = conds-fit agent (declared_in agent) (has-items agent w) draft nothing_bound [] tt (omega arith) keeps c h

pub answered : (agent : Agent) → WellFormed agent → (draft : DraftCond) → AgentCondKeeps agent draft → (names : Declared) → names ≡ declared_in agent → (r : Result Cond CheckFault) → Answers r (cond_in names draft [])
    → IfOk r (λ c. IsCondOf agent nothing_bound 0 c)
answered agent w draft keeps names is (Ok c) h = asked agent w draft keeps c (subst (λ n. (cond_in n draft []).outcome ≡ Ok c) is h)
answered agent w draft keeps names is (Err fault) h = tt

pub ruleset laws = (few-sorts)
