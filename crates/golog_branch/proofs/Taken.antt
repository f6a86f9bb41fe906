-- The branch that a world takes is that of a case in which all is so that is known.
use Rattle.std.proofs.Common.{◌≡◌, ℕ, zero, suc, ◌+◌, ◌<◌, ◌≤◌, Bool, true, false, cond, if◌then◌else◌, Option, Some, None, List, [], ◌∷◌, length, map, refl, sym, ap, ◌∙◌, subst, inl, inr, arith}
use Rattle.std.specs.Prelude.{find, nat_lt, slice_index, slice_set, ◌==◌}
use Rattle.std.specs.List.{AllZip, range_with_len}
use Rattle.std.proofs.lemmas.Bool.{cases_lt, eq-eqb, lt-ltb, ne_eqb}
use Rattle.golog_tree.specs.declared.agent.Agent.{Agent}
use Rattle.golog_tree.specs.declared.prog.Label.{Label}
use Rattle.golog_tree.specs.declared.prog.Label.TheVariants.{Quiet, Do}
use Rattle.golog_tree.specs.declared.prog.Prog.{Prog}
use Rattle.golog_tree.specs.Ground.{ground_fluents, sort_size}
use Rattle.golog_semantics.specs.InSorts.{AreInSorts}
use Rattle.golog_semantics.specs.Reports.{is_value}
use Rattle.golog_semantics.specs.Truth.{Values, constants, is_known}
use Rattle.golog_semantics.specs.Values.{after, fluent_sort}
use Rattle.golog_semantics.specs.WellFormed.{WellFormed}
use Rattle.golog_semantics.specs.World.{Completes, IsComplete}
use Rattle.golog_semantics.proofs.CausesKeep.{steps_stay_in_sorts}
use Rattle.golog_semantics.proofs.SortsStay.{set-sorts}
use Rattle.golog_semantics.proofs.Words.{and-both}
use Rattle.golog_certain.proofs.JournalSo.{set_refines}
use Rattle.golog_certain.proofs.ValuesStay.{after-stays}
use Rattle.golog_certain.proofs.WorldsComplete.{stays_complete}
use Rattle.golog_branch.specs.declared.tree.Branch.{Branch}
use Rattle.golog_branch.specs.declared.tree.Tree.{Tree}
use Rattle.golog_branch.specs.Plans.{Planning}
use Rattle.golog_branch.specs.Trees.{Case, cases, cases_by, sensed_by_label, unsensed, with_sensed}
use Rattle.golog_branch.specs.TreesInWorlds.{branch_taken}
use Rattle.golog_branch.proofs.CasesKeep.{sensed-fluent}
use Rattle.golog_branch.proofs.PlanParts.{AreBranches, IsBranch, is-branch}

module _ (agent : Agent) (formed : WellFormed agent) where
  complete-after : (label : Label) (world : Values) → IsComplete agent world → IsComplete agent (after agent world label)
  complete-after Quiet world complete = complete
  complete-after (Do action) world complete = (stays_complete agent formed world complete).actions action

  -- more is so after a step in each world in which all is so that is known
  pub completes-after : (label : Label) (values world : Values) → Completes agent values world → Completes agent (after agent values label) (after agent world label)
  completes-after label values world completes = record {
    complete = complete-after label world completes.complete;
    refines = after-stays agent values world completes.refines label;
  }

  module _ (plan : Planning) (left : Prog) (world : Values) where
    -- a branch, and values at which its plan was made, where all is so in the world that is known
    pub record IsTaken (o : Option Branch) : Type 0 where
      pub branch : Branch
      pub values : Values
      pub is : o ≡ Some branch
      pub plan_so : plan left values ≡ Some branch.tree
      pub completes : Completes agent values world
      pub sorts : AreInSorts agent values

    module _ (there : Values) (completes : Completes agent there world) (sorts : AreInSorts agent there) where
      taken-alone : (next : List Branch) → AreBranches plan left ((unsensed, there) ∷ []) next → IsTaken (branch_taken world None next)
      taken-alone [] h = absurd h
      taken-alone (b ∷ next) h =
          let so = is-branch plan left (unsensed, there) b h.0 in
          record { branch = b; values = there; is = refl; plan_so = so.plan_so; completes = completes; sorts = sorts }

      module _ (fluent : ℕ) (inside : fluent < length (ground_fluents agent)) where
        abbrev value : ℕ
        value = slice_index world fluent

        abbrev test : Branch → Bool
        test b = b.value == value

        taken-known : (next : List Branch) → is_known (slice_index there fluent) ≡ true → AreBranches plan left ((slice_index there fluent, there) ∷ []) next → IsTaken (find test next)
        taken-known [] known h = absurd h
        taken-known (b ∷ next) known h =
            let so = is-branch plan left (slice_index there fluent, there) b h.0 in
            let same : b.value ≡ value = so.value_so ∙ sym (completes.refines.same fluent known) in
            record {
              branch = b;
              values = there;
              is = ap (λ (u : Bool). cond u (Some b) (find test next)) (eq-eqb b.value value same);
              plan_so = so.plan_so;
              completes = completes;
              sorts = sorts;
            }

        value-inside : (k : ℕ) → k < sort_size agent (fluent_sort agent fluent) → is_value agent fluent k ≡ true
        value-inside k less =
            and-both (nat_lt fluent (length (ground_fluents agent))) (nat_lt k (sort_size agent (fluent_sort agent fluent)))
            (lt-ltb fluent (length (ground_fluents agent)) inside) (lt-ltb k (sort_size agent (fluent_sort agent fluent)) less)

        taken-among : (k n : ℕ) (next : List Branch) → AreBranches plan left (map (with_sensed there fluent) (range_with_len k n)) next
            → k ≤ value → value < k + n → k + n ≤ sort_size agent (fluent_sort agent fluent) → IsTaken (find test next)
        taken-among k zero next h low high few = absurd (omega arith)
        taken-among k (suc n) [] h low high few = absurd h
        taken-among k (suc n) (b ∷ next) h low high few =
            elim (cases_lt k value) [ inl less ↦ later less (taken-among (k + 1) n next h.1 (omega arith) (omega arith) (omega arith)) | inr more ↦ here more ]
          where
            so : IsBranch plan left (k, slice_set there fluent k) b
            so = is-branch plan left (k, slice_set there fluent k) b h.0

            here : value ≤ k → IsTaken (find test (b ∷ next))
            here more =
                let same : value ≡ k = omega arith in
                record {
                  branch = b;
                  values = slice_set there fluent k;
                  is = ap (λ (u : Bool). cond u (Some b) (find test next)) (eq-eqb b.value value (so.value_so ∙ sym same));
                  plan_so = so.plan_so;
                  completes = record { complete = completes.complete; refines = set_refines agent there world completes.refines fluent k same };
                  sorts = set-sorts agent there sorts fluent k (value-inside k (omega arith));
                }

            later : k < value → IsTaken (find test next) → IsTaken (find test (b ∷ next))
            later less rest =
                let is : b.value ≡ k = so.value_so in
                let other : (b.value == value) ≡ false = ne_eqb b.value value (λ e. omega arith) in
                record {
                  branch = rest.branch;
                  values = rest.values;
                  is = ap (λ (u : Bool). cond u (Some b) (find test next)) other ∙ rest.is;
                  plan_so = rest.plan_so;
                  completes = rest.completes;
                  sorts = rest.sorts;
                }

        inside-world : fluent < length world
        inside-world = subst (λ n. fluent < n) (sym completes.complete.whole) inside

        taken-sensed : (b : Bool) → is_known (slice_index there fluent) ≡ b → (next : List Branch)
            → AreBranches plan left (if b then (slice_index there fluent, there) ∷ [] else map (with_sensed there fluent) (constants agent (fluent_sort agent fluent))) next
            → IsTaken (find test next)
        taken-sensed true known next h = taken-known next known h
        taken-sensed false known next h =
            let below = completes.complete.known fluent inside-world in
            taken-among 0 (sort_size agent (fluent_sort agent fluent)) next h (omega arith) (omega arith) (omega arith)

      taken-by : (o : Option ℕ) → ((fluent : ℕ) → o ≡ Some fluent → fluent < length (ground_fluents agent)) → (next : List Branch)
          → AreBranches plan left (cases_by agent there o) next → IsTaken (branch_taken world o next)
      taken-by None inside next h = taken-alone next h
      taken-by (Some fluent) inside next h = taken-sensed fluent (inside fluent refl) (is_known (slice_index there fluent)) refl next h

  -- the branch that a world takes after a step
  pub taken : (plan : Planning) (left : Prog) (label : Label) (values world : Values) → Completes agent values world → AreInSorts agent values → (next : List Branch)
      → AreBranches plan left (cases agent values label) next
      → IsTaken plan left (after agent world label) (branch_taken (after agent world label) (sensed_by_label agent label) next)
  taken plan left label values world completes sorts next h =
      taken-by plan left (after agent world label) (after agent values label) (completes-after label values world completes)
      (steps_stay_in_sorts agent formed values label sorts) (sensed_by_label agent label) (λ fluent e. sensed-fluent agent formed label fluent e) next h
