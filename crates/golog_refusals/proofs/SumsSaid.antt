-- The sums of a theory that says a countable agent pass no limit.
use Rattle.std.proofs.Common.{◌≡◌, ℕ, ◌+◌, ◌≤◌, List, [], ◌∷◌, ◌++◌, map, Result, Ok, refl, ap, subst, ◌∙◌, le-ltb, arith}
use Rattle.std.specs.Prelude.{sum_by}
use Rattle.std.proofs.lemmas.List.Sums.{sum_by-cons}
use Rattle.golog_tree.specs.declared.agent.Agent.{Agent}
use Rattle.golog_tree.specs.declared.agent.SortItem.{SortItem}
use Rattle.golog_tree.specs.declared.agent.FluentItem.{FluentItem}
use Rattle.golog_tree.specs.declared.agent.ActionItem.{ActionItem}
use Rattle.golog_tree.specs.declared.draft.DraftTheory.{DraftTheory}
use Rattle.golog_tree.specs.Ground.{ground_count, IsCountable}
use Rattle.golog_rows.specs.Reading.{unless}
use Rattle.golog_rows.specs.Least.{CodeAt}
use Rattle.golog_check.specs.Codes.{GROUND_TOO_MANY}
use Rattle.golog_check.specs.Least.{refusal_of, refusals}
use Rattle.golog_check.specs.DeclaredItems.{sort_item, fluent_item, action_item}
use Rattle.golog_check.specs.Sums.{Counted, count_in, sum_from, fluent_counted, action_counted, fluent_sum, action_sum}
use Rattle.golog_check.proofs.Countable.{all-counted}
use Rattle.golog_refusals.specs.SaysAgent.{SaysDeclared}

-- where the whole sum is within its limit, no item makes it pass
sum-none : (sorts : List SortItem) (limit sum : ℕ) (items : List Counted)
    → sum + sum_by (λ (item : Counted). count_in sorts item.0) items ≤ limit
    → (sum_from sorts limit sum items).outcome ≡ Ok tt
sum-none sorts limit sum [] low = refl
sum-none sorts limit sum ((args, at) ∷ items) low =
    let cons = sum_by-cons (λ (item : Counted). count_in sorts item.0) (args, at) items in
    let rest = sum-none sorts limit (sum + count_in sorts args) items (omega (arith, low, cons)) in
    ap (λ b. unless b (GROUND_TOO_MANY, at) (sum_from sorts limit (sum + count_in sorts args) items).outcome)
    (le-ltb limit (sum + count_in sorts args) (omega (arith, low, cons))) ∙ rest

module _ {X I : Type 0} (agent : Agent) (item : X → I) (args : I → List ℕ) (counted : X → Counted)
    (same : (x : X) → args (item x) ≡ (counted x).0) where
  none-counted : (theory : DraftTheory) → SaysDeclared theory agent → (limit : ℕ) (xs : List X) (items : List I)
      → items ≡ map item xs → ground_count agent (map args items) ≤ limit
      → refusals (sum_from (map sort_item theory.sorts) limit 0 (map counted xs) ∷ []) ≡ []
  none-counted theory declared limit xs items are few =
      let whole = sum_by (λ (c : Counted). count_in (map sort_item theory.sorts) c.0) (map counted xs) in
      let count : ground_count agent (map args items) ≡ whole =
      ap (λ (ys : List I). ground_count agent (map args ys)) are ∙ all-counted agent item args counted same xs
      ∙ ap (λ (sorts : List SortItem). sum_by (λ (c : Counted). count_in sorts c.0) (map counted xs)) declared.sorts in
      let low : whole ≤ limit = subst (λ n. n ≤ limit) count few in
      ap (λ (o : Result (Unit {0}) CodeAt). refusal_of o ++ [])
      (sum-none (map sort_item theory.sorts) limit 0 (map counted xs) (omega (arith, low)))

module _ (theory : DraftTheory) (agent : Agent) (declared : SaysDeclared theory agent)
    (countable : IsCountable agent) where
  pub fluents-none : refusals (fluent_sum theory ∷ []) ≡ []
  fluents-none =
      none-counted agent fluent_item (λ (i : FluentItem). i.args) fluent_counted (λ x. refl) theory declared 4096
      theory.fluents agent.fluents declared.fluents countable.ground_fluents

  pub actions-none : refusals (action_sum theory ∷ []) ≡ []
  actions-none =
      none-counted agent action_item (λ (i : ActionItem). i.args) action_counted (λ x. refl) theory declared 65536
      theory.actions agent.actions declared.actions countable.ground_actions
