-- A plan that is found has a text.
use Rattle.std.proofs.Common.{◌≡◌, ℕ, zero, suc, ◌+◌, ◌<◌, ◌≤◌, Bool, true, false, ◌||◌, ◌==◌, if◌then◌else◌, Option, Some, None, List, [], ◌∷◌, length, map, refl, sym, ap, ◌∙◌, subst, ◌⊎◌, inl, inr, arith}
use Rattle.std.specs.Prelude.{nat_lt, slice_index}
use Rattle.std.specs.List.{list_all, range_with_len}
use Rattle.std.proofs.lemmas.Bool.{eq-eqb, eqb-true, lt-ltb, ltb-true}
use Rattle.std.proofs.lemmas.List.Folds.{list_all-map}
use Rattle.golog_base.proofs.Bools.{or-true}
use Rattle.golog_tree.specs.declared.agent.Agent.{Agent}
use Rattle.golog_tree.specs.declared.prog.Prog.{Prog}
use Rattle.golog_tree.specs.Ground.{ground_fluents, sort_size}
use Rattle.golog_semantics.specs.declared.Mode.TheVariants.{Must}
use Rattle.golog_semantics.specs.InSorts.{AreInSorts}
use Rattle.golog_semantics.specs.Reports.{fits_label}
use Rattle.golog_semantics.specs.Search.{final}
use Rattle.golog_semantics.specs.Truth.{Values, constants, is_known, unknown}
use Rattle.golog_semantics.specs.Values.{after, fluent_sort}
use Rattle.golog_semantics.specs.WellFormed.{WellFormed}
use Rattle.golog_semantics.proofs.ByParts.{OfEach}
use Rattle.golog_semantics.proofs.CausesKeep.{steps_stay_in_sorts}
use Rattle.golog_semantics.proofs.Tests.{and_both}
use Rattle.golog_ways.specs.Searched.{IsSearched}
use Rattle.golog_branch.specs.declared.tree.Branch.{Branch}
use Rattle.golog_branch.specs.declared.tree.Tree.{Tree}
use Rattle.golog_branch.specs.Plans.{Planning, first_plan}
use Rattle.golog_branch.specs.Trees.{Case, cases, cases_by, sensed_by_label, unsensed, with_sensed}
use Rattle.golog_branch.specs.TreeTexts.{Tellable, are_told, branch_told, is_sensed, is_told, is_unsensed}
use Rattle.golog_branch.proofs.CasesKeep.{cases-sorted, sensed-fluent}
use Rattle.golog_branch.proofs.Leading.{left-searched, way-stays}
use Rattle.golog_branch.proofs.PlanParts.{AreBranches, begins, is-branch, is-done, none-at-once}
use Rattle.golog_branch.proofs.Told.{tellable-values, told-done, told-of-step, values-in}

-- a known value that is in its sort is a constant of it
constant-of : (size v : ℕ) → (nat_lt v size || v == unknown) ≡ true → is_known v ≡ true → v < size
constant-of size v h known = go (nat_lt v size) refl
  where
    go : (b : Bool) → nat_lt v size ≡ b → v < size
    go true e = ltb-true v size e
    go false e =
        let same : v ≡ unknown = eqb-true v unknown (subst (λ b. (b || v == unknown) ≡ true) e h) in
        let less : v < unknown = ltb-true v unknown known in
        absurd (omega arith)

module _ (agent : Agent) (plan : Planning) (left : Prog) where
  abbrev IsTold : Branch → Bool
  IsTold b = is_told agent b.tree

  -- a plan for each of the values that are in their sorts has a text
  abbrev EachTold : Type 0
  EachTold = (values : Values) → AreInSorts agent values → (t : Tree) → plan left values ≡ Some t → is_told agent t ≡ true

  trees-told : EachTold → (cs : List Case) (next : List Branch) → AreBranches plan left cs next → OfEach (λ (c : Case). AreInSorts agent c.1) cs → list_all IsTold next ≡ true
  trees-told each [] [] h sorts = refl
  trees-told each [] (b ∷ next) h sorts = absurd h
  trees-told each (c ∷ cs) [] h sorts = absurd h
  trees-told each (c ∷ cs) (b ∷ next) h sorts =
      let so = is-branch plan left c b h.0 in
      and_both (IsTold b) (list_all IsTold next) (each c.1 sorts.0 b.tree so.plan_so) (trees-told each cs next h.1 sorts.1)

  alone-told : (there : Values) (next : List Branch) → AreBranches plan left ((unsensed, there) ∷ []) next → is_unsensed (values-in next) ≡ true
  alone-told there [] h = absurd h
  alone-told there (b ∷ []) h = let so = is-branch plan left (unsensed, there) b h.0 in eq-eqb b.value unsensed so.value_so
  alone-told there (b ∷ d ∷ next) h = absurd h.1

  module _ (fluent : ℕ) where
    abbrev size : ℕ
    size = sort_size agent (fluent_sort agent fluent)

    abbrev IsSensed : Branch → Bool
    IsSensed b = is_sensed agent (Some fluent) b.value

    values-told : (cs : List Case) (next : List Branch) → AreBranches plan left cs next → OfEach (λ (c : Case). c.0 < size) cs → list_all IsSensed next ≡ true
    values-told [] [] h small = refl
    values-told [] (b ∷ next) h small = absurd h
    values-told (c ∷ cs) [] h small = absurd h
    values-told (c ∷ cs) (b ∷ next) h small =
        let so = is-branch plan left c b h.0 in
        and_both (IsSensed b) (list_all IsSensed next) (lt-ltb b.value size (subst (λ v. v < size) (sym so.value_so) small.0)) (values-told cs next h.1 small.1)

    each-small : (there : Values) (k n : ℕ) → k + n ≤ size → OfEach (λ (c : Case). c.0 < size) (map (with_sensed there fluent) (range_with_len k n))
    each-small there k zero few = tt
    each-small there k (suc n) few = ((omega arith), each-small there (k + 1) n (omega arith))

    sensed-told : (there : Values) → AreInSorts agent there → fluent < length (ground_fluents agent) → (b : Bool) → is_known (slice_index there fluent) ≡ b → (next : List Branch)
        → AreBranches plan left (if b then (slice_index there fluent, there) ∷ [] else map (with_sensed there fluent) (constants agent (fluent_sort agent fluent))) next
        → list_all IsSensed next ≡ true
    sensed-told there sorts inside true known next h =
        let less : fluent < length there = subst (λ n. fluent < n) (sym sorts.whole) inside in
        values-told ((slice_index there fluent, there) ∷ []) next h (constant-of size (slice_index there fluent) (sorts.sorted fluent less) known, tt)
    sensed-told there sorts inside false known next h =
        values-told (map (with_sensed there fluent) (constants agent (fluent_sort agent fluent))) next h (each-small there 0 size (omega arith))

  -- there is one branch without a value, or each has one that is sensed
  cases-told : (there : Values) → AreInSorts agent there → (o : Option ℕ) → ((fluent : ℕ) → o ≡ Some fluent → fluent < length (ground_fluents agent)) → (next : List Branch)
      → AreBranches plan left (cases_by agent there o) next → (is_unsensed (values-in next) ≡ true) ⊎ (list_all (λ (b : Branch). is_sensed agent o b.value) next ≡ true)
  cases-told there sorts None inside next h = inl (alone-told there next h)
  cases-told there sorts (Some fluent) inside next h = inr (sensed-told fluent there sorts (inside fluent refl) (is_known (slice_index there fluent)) refl next h)

  branches-told : (o : Option ℕ) (next : List Branch) → list_all IsTold next ≡ true
      → (is_unsensed (values-in next) ≡ true) ⊎ (list_all (λ (b : Branch). is_sensed agent o b.value) next ≡ true) → are_told agent o (map (branch_told agent) next) ≡ true
  branches-told o next told values =
      and_both all-have (alone || all-sensed) (list_all-map (λ (t : Tellable). t.1) (branch_told agent) next ∙ told)
      (elim values [
        | inl e ↦ ap (λ (u : Bool). u || all-sensed) (ap is_unsensed (tellable-values agent next) ∙ e)
        | inr e ↦ ap (λ (u : Bool). alone || u) (list_all-map (λ (t : Tellable). is_sensed agent o t.0) (branch_told agent) next ∙ e) ∙ or-true alone
      ])
    where
      alone : Bool
      alone = is_unsensed (map (λ (t : Tellable). t.0) (map (branch_told agent) next))

      all-sensed : Bool
      all-sensed = list_all (λ (t : Tellable). is_sensed agent o t.0) (map (branch_told agent) next)

      all-have : Bool
      all-have = list_all (λ (t : Tellable). t.1) (map (branch_told agent) next)

module _ (agent : Agent) (formed : WellFormed agent) where
  pub all-told : (n : ℕ) (p : Prog) (values : Values) → IsSearched agent p values → (t : Tree) → first_plan agent n p values ≡ Some t → is_told agent t ≡ true
  all-told zero p values searched t h = go (final agent values Must p) refl
    where
      go : (b : Bool) → final agent values Must p ≡ b → is_told agent t ≡ true
      go true e = ap (is_told agent) (is-done agent zero p values t e h) ∙ told-done agent
      go false e = let none = sym (none-at-once agent p values e) ∙ h in absurd (cc)
  all-told (suc n) p values searched t h = go (final agent values Must p) refl (all-told n)
    where
      go : (b : Bool) → final agent values Must p ≡ b
          → ((q : Prog) (vs : Values) → IsSearched agent q vs → (u : Tree) → first_plan agent n q vs ≡ Some u → is_told agent u ≡ true) → is_told agent t ≡ true
      go true e later = ap (is_told agent) (is-done agent (suc n) p values t e h) ∙ told-done agent
      go false e later =
          let begun = begins agent n p values t e h in
          let way = begun.way in
          let stays = way-stays agent formed p values searched way begun.among in
          let there = after agent values way.label in
          let sorts = steps_stay_in_sorts agent formed values way.label searched.sorts in
          let sensed = sensed_by_label agent way.label in
          let inside : (fluent : ℕ) → sensed ≡ Some fluent → fluent < length (ground_fluents agent) = λ fluent e. sensed-fluent agent formed way.label fluent e in
          let each : EachTold agent (first_plan agent n) way.left = λ vs s u k. later way.left vs (left-searched agent formed way stays vs s) u k in
          ap (is_told agent) begun.is ∙ told-of-step agent way.label way.left begun.next
          ∙ and_both (fits_label agent way.label) (are_told agent sensed (map (branch_told agent) begun.next)) stays.label_fits
          (branches-told agent (first_plan agent n) way.left sensed begun.next
          (trees-told agent (first_plan agent n) way.left each (cases agent values way.label) begun.next begun.branches (cases-sorted agent formed there sorts sensed inside))
          (cases-told agent (first_plan agent n) way.left there sorts sensed inside begun.next begun.branches))
