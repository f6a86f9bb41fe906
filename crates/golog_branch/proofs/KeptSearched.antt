-- What is kept after one more entry, and that a search may go on from what is kept.
use Rattle.std.proofs.Common.{◌≡◌, ℕ, Bool, true, false, not, ◌==◌, if◌then◌else◌, Option, Some, None, List, [], ◌∷◌, ◌++◌, length, map, fold, refl, sym, ap, ◌∙◌, subst, append_assoc}
use Rattle.std.specs.Prelude.{nat_lt, slice_get}
use Rattle.std.specs.Option.{option_and_then, option_map_or}
use Rattle.std.proofs.lemmas.Bool.{lt-ltb}
use Rattle.std.proofs.lemmas.List.{append-nil}
use Rattle.std.proofs.lemmas.Option.{same_Some}
use Rattle.golog_tree.specs.declared.agent.Agent.{Agent}
use Rattle.golog_tree.specs.declared.prog.Label.{Label}
use Rattle.golog_tree.specs.declared.prog.Label.TheVariants.{Do as Doing}
use Rattle.golog_tree.specs.declared.prog.Prog.{Prog}
use Rattle.golog_tree.specs.Ground.{ground_fluents, sort_size}
use Rattle.golog_semantics.specs.declared.journal.Entry.{Entry}
use Rattle.golog_semantics.specs.declared.journal.Entry.TheVariants.{Do, Test, Exo, Sense, Rest, Close, End}
use Rattle.golog_semantics.specs.BlockFree.{has_block}
use Rattle.golog_semantics.specs.InSorts.{AreInSorts}
use Rattle.golog_semantics.specs.Journal.{Journal, fluent_sensed, outstanding_commands}
use Rattle.golog_semantics.specs.Online.{is_result, keeps_place}
use Rattle.golog_semantics.specs.Progress.{after_entry, values_after}
use Rattle.golog_semantics.specs.ProgFits.{fits}
use Rattle.golog_semantics.specs.Reports.{is_value}
use Rattle.golog_semantics.specs.Truth.{Values}
use Rattle.golog_semantics.specs.Values.{fluent_sort}
use Rattle.golog_semantics.specs.WellFormed.{WellFormed}
use Rattle.golog_semantics.proofs.CausesKeep.{has, steps_stay_in_sorts}
use Rattle.golog_semantics.proofs.Fits.{senses-it}
use Rattle.golog_semantics.proofs.Pushed.{values_after-push}
use Rattle.golog_semantics.proofs.SortsStay.{set-sorts}
use Rattle.golog_semantics.proofs.Tests.{and_cases}
use Rattle.golog_semantics.proofs.WellNamed.{starts_in_sorts}
use Rattle.golog_semantics.proofs.Words.{and-both, and-left, and-right}
use Rattle.golog_journal.proofs.Sensing.{sensed-inside}
use Rattle.golog_journal.proofs.Serving.{well_formed_serves}
use Rattle.golog_ways.specs.Searched.{IsSearched}
use Rattle.golog_branch.specs.declared.following.Kept.{Kept}
use Rattle.golog_branch.specs.declared.tree.Branch.{Branch}
use Rattle.golog_branch.specs.declared.tree.Planned.{Planned}
use Rattle.golog_branch.specs.declared.tree.Planned.TheVariants.{Found, Absent, Fuel, Large}
use Rattle.golog_branch.specs.declared.tree.Tree.{Tree}
use Rattle.golog_branch.specs.declared.tree.Tree.TheOpen.{Done, Step}
use Rattle.golog_branch.specs.declared.tree.Tree.TheVariants as tree
use Rattle.golog_branch.specs.declared.tree.Tree.TheViews.{out-Tree, roll-Tree, roll-out-Tree}
use Rattle.golog_branch.specs.Following.{Layer, after_layer, after_step, ahead, begins_with_step, goes_on, if_goes_on, kept_after, kept_at, kept_from, plan_kept, tree_in}
use Rattle.golog_branch.specs.Going.{all_go, branch_going, goes, is_step}
use Rattle.golog_branch.specs.PlanJournals.{IsPlannedSoFar}
use Rattle.golog_branch.specs.Plans.{planned}
use Rattle.golog_branch.specs.Trees.{cases}
use Rattle.golog_branch.proofs.GoingOn.{goes-found, goes-on, step-way}
use Rattle.golog_branch.proofs.PlanParts.{found-first}

-- what was found is the plan
tree-found : (x : Planned) (t : Tree) → tree_in x ≡ Some t → x ≡ Found t
tree-found (Found u) t e = ap Found (same_Some u t e)
tree-found Absent t e = absurd (cc)
tree-found Fuel t e = absurd (cc)
tree-found Large t e = absurd (cc)

-- it is a step's plan
rolled : (t : Tree) (label : Label) (left : Prog) (next : List Branch) → out-Tree t ≡ Step label left next → t ≡ tree.Step label left next
rolled t label left next e = sym (roll-out-Tree t) ∙ ap roll-Tree e ∙ tree.rolls-Step label left next

module _ (agent : Agent) where
  -- ---- what is ahead

  kept-goes : (values : Values) (k : Kept) (t : Tree) → plan_kept agent values k ≡ Some t → goes agent t k.left values ≡ true
  kept-goes values k t e = go k.plan e
    where
      test : (w : Tree) (b : Bool) → goes_on agent k.left values w ≡ b → (if b then Some w else None) ≡ Some t → goes agent t k.left values ≡ true
      test w true on h =
          let same : w ≡ t = same_Some w t h in
          ap (λ (u : Tree). goes agent u k.left values) (sym same) ∙ (and_cases (begins_with_step w) (goes agent w k.left values) on).1
      test w false on h = absurd (cc)

      go : (o : Option Tree) → option_and_then (if_goes_on agent k.left values) o ≡ Some t → goes agent t k.left values ≡ true
      go None h = absurd (cc)
      go (Some w) h = test w (goes_on agent k.left values w) refl h

  module _ (depth fuel : ℕ) where
    pub found-new : (values : Values) (k : Kept) (t : Tree) → plan_kept agent values k ≡ None → tree_in (ahead agent depth fuel values k) ≡ Some t
        → planned agent depth fuel k.left values ≡ Found t
    unfolding ahead
    found-new values k t none e =
        tree-found (planned agent depth fuel k.left values) t
        (sym (ap (λ (o : Option Tree). tree_in (option_map_or Found o (planned agent depth fuel k.left values))) none) ∙ e)

    ahead-goes : (values : Values) (k : Kept) (t : Tree) → tree_in (ahead agent depth fuel values k) ≡ Some t → goes agent t k.left values ≡ true
    unfolding ahead
    ahead-goes values k t e = go (plan_kept agent values k) refl
      where
        go : (o : Option Tree) → plan_kept agent values k ≡ o → goes agent t k.left values ≡ true
        go None none =
            let first = found-first agent depth fuel k.left values t (found-new values k t none e) in
            goes-found agent first.height k.left values t first.first
        go (Some u) some =
            let same : Some u ≡ Some t = sym (ap (λ (o : Option Tree). tree_in (option_map_or Found o (planned agent depth fuel k.left values))) some) ∙ e in
            kept-goes values k t (some ∙ same)

    -- its first step is a certain one
    pub ahead-step : (values : Values) (k : Kept) (t : Tree) → tree_in (ahead agent depth fuel values k) ≡ Some t → (label : Label) (left : Prog) (next : List Branch)
        → out-Tree t ≡ Step label left next → is_step agent label left k.left values ≡ true
    ahead-step values k t e label left next out =
        let going = ap (λ (u : Tree). goes agent u k.left values) (rolled t label left next out) ∙ goes-on agent label left next k.left values in
        (and_cases (is_step agent label left k.left values) (all_go (map (branch_going agent) next) left (cases agent values label)) (sym going ∙ ahead-goes values k t e)).0

    -- ---- what is kept after one more entry

    pub kept_from-push : (values : Values) (k : Kept) (es : Journal) (e : Entry)
        → kept_from agent depth fuel values k (es ++ e ∷ []) ≡ kept_at agent depth fuel (fold (after_entry agent) values es) (kept_from agent depth fuel values k es) e
    kept_from-push values k [] e = refl
    kept_from-push values k (d ∷ es) e = kept_from-push (after_entry agent values d) (kept_at agent depth fuel values k d) es e

    pub kept_after-push : (journal : Journal) (e : Entry)
        → kept_after agent depth fuel (journal ++ e ∷ []) ≡ kept_at agent depth fuel (values_after agent journal) (kept_after agent depth fuel journal) e
    kept_after-push journal e = kept_from-push agent.starts (record { left = agent.main; plan = None }) journal e

    module _ (formed : WellFormed agent) where
      -- a program that may be searched where values are in their sorts
      record IsClean (p : Prog) : Type 0 where
        pub program : fits agent p ≡ true
        pub blockless : not (has_block agent p) ≡ true

      step-clean : (values : Values) (k : Kept) → IsSearched agent k.left values → (o : Option Tree) → tree_in (ahead agent depth fuel values k) ≡ o
          → IsClean (option_map_or (after_step agent k) o k).left
      step-clean values k searched None e = record { program = searched.program; blockless = searched.blockless }
      step-clean values k searched (Some t) e = go (out-Tree t) refl
        where
          go : (l : Layer) → out-Tree t ≡ l → IsClean (after_layer agent t k l).left
          go Done out = record { program = searched.program; blockless = searched.blockless }
          go (Step label left next) out =
              let way = step-way agent formed k.left values searched label left (ahead-step values k t e label left next out) in
              record { program = way.program; blockless = way.blockless }

      entry-clean : (values : Values) (k : Kept) → IsSearched agent k.left values → (e : Entry) → IsClean (kept_at agent depth fuel values k e).left
      entry-clean values k searched (Do action) = step-clean values k searched (tree_in (ahead agent depth fuel values k)) refl
      entry-clean values k searched Test = step-clean values k searched (tree_in (ahead agent depth fuel values k)) refl
      entry-clean values k searched (Exo poster action) = record { program = searched.program; blockless = searched.blockless }
      entry-clean values k searched (Sense poster place fluent value) = record { program = searched.program; blockless = searched.blockless }
      entry-clean values k searched (Rest poster taken) = record { program = searched.program; blockless = searched.blockless }
      entry-clean values k searched (Close poster reason taken) = record { program = searched.program; blockless = searched.blockless }
      entry-clean values k searched (End answer) = record { program = searched.program; blockless = searched.blockless }

      -- a result that keeps its place is a value of its fluent
      result-fits : (before : Journal) (d place fluent value : ℕ) → keeps_place agent before (Sense d place fluent value) ≡ true → is_value agent fluent value ≡ true
      result-fits before d place fluent value kept =
          let first = slice_get (outstanding_commands agent d before) 0 in
          let below = nat_lt value (sort_size agent (fluent_sort agent fluent)) in
          let is-first = option_map_or (is_result agent before place fluent) first false in
          let c = has (is_result agent before place fluent) first (and-left is-first below kept) in
          let senses = senses-it agent fluent (fluent_sensed agent c.item.action)
          (and-right (c.item.place == place) (option_map_or (λ f. f == fluent) (fluent_sensed agent c.item.action) false) c.passes) in
          and-both (nat_lt fluent (length (ground_fluents agent))) below
          (lt-ltb fluent (length (ground_fluents agent)) (sensed-inside agent (well_formed_serves agent formed) c.item.action fluent senses)) (and-right is-first below kept)

      entry-sorted : (before : Journal) (values : Values) → AreInSorts agent values → (e : Entry) → keeps_place agent before e ≡ true → AreInSorts agent (after_entry agent values e)
      entry-sorted before values sorts (Do action) kept = steps_stay_in_sorts agent formed values (Doing action) sorts
      entry-sorted before values sorts Test kept = sorts
      entry-sorted before values sorts (Exo poster action) kept = steps_stay_in_sorts agent formed values (Doing action) sorts
      entry-sorted before values sorts (Sense poster place fluent value) kept = set-sorts agent values sorts fluent value (result-fits before poster place fluent value kept)
      entry-sorted before values sorts (Rest poster taken) kept = sorts
      entry-sorted before values sorts (Close poster reason taken) kept = sorts
      entry-sorted before values sorts (End answer) kept = sorts

      -- ---- along a journal

      -- what is left may be searched
      abbrev pub MayBeSearched : Journal → Type 0
      MayBeSearched before = IsSearched agent (kept_after agent depth fuel before).left (values_after agent before)

      pub searched-push : (before : Journal) (e : Entry) → MayBeSearched before → keeps_place agent before e ≡ true → MayBeSearched (before ++ e ∷ [])
      searched-push before e good kept =
          let values = values_after agent before in
          let k = kept_after agent depth fuel before in
          let clean = entry-clean values k good e in
          let next : IsSearched agent (kept_at agent depth fuel values k e).left (after_entry agent values e) =
          record { program = clean.program; blockless = clean.blockless; sorts = entry-sorted before values good.sorts e kept } in
          subst (λ (v : Values). IsSearched agent (kept_after agent depth fuel (before ++ e ∷ [])).left v) (sym (values_after-push agent before e))
          (subst (λ (z : Kept). IsSearched agent z.left (after_entry agent values e)) (sym (kept_after-push before e)) next)

      module _ (journal : Journal) (keeps : IsPlannedSoFar agent depth fuel journal) (free : not (has_block agent agent.main) ≡ true) where
        searched-from : (before rest later : Journal) → MayBeSearched before → journal ≡ before ++ (rest ++ later) → MayBeSearched (before ++ rest)
        searched-from before [] later good is = subst MayBeSearched (sym (append-nil before)) good
        searched-from before (e ∷ rest) later good is =
            let kept = (keeps.entries before e (rest ++ later) is).place in
            subst MayBeSearched (append_assoc before (e ∷ []) rest)
            (searched-from (before ++ e ∷ []) rest later (searched-push before e good kept) (is ∙ sym (append_assoc before (e ∷ []) (rest ++ later))))

        pub searched-before : (before later : Journal) → journal ≡ before ++ later → MayBeSearched before
        searched-before before later is =
            searched-from [] before later (record { program = formed.programs.main; blockless = free; sorts = starts_in_sorts agent formed }) is

        -- what is kept after a journal that keeps the rules may be searched
        pub kept-searched : IsSearched agent (kept_after agent depth fuel journal).left (values_after agent journal)
        kept-searched = searched-before journal [] (sym (append-nil journal))
