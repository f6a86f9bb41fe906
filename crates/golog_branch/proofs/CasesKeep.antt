-- What a step may go on with stays inside the agent.
use Rattle.std.proofs.Common.{◌≡◌, ℕ, zero, suc, ◌+◌, ◌<◌, ◌≤◌, Bool, true, false, if◌then◌else◌, Option, Some, None, List, [], ◌∷◌, length, map, get_or, refl, sym, subst, arith}
use Rattle.std.specs.Prelude.{All, IfSome, IsTrue, not, nat_lt, slice_index}
use Rattle.std.specs.List.{range_with_len}
use Rattle.std.proofs.lemmas.Bool.{lt-ltb}
use Rattle.std.proofs.lemmas.List.Elements.{All-cons, All-get_or, All-nil}
use Rattle.golog_tree.specs.declared.agent.Agent.{Agent}
use Rattle.golog_tree.specs.declared.prog.Label.{Label}
use Rattle.golog_tree.specs.declared.prog.Label.TheVariants.{Quiet, Do}
use Rattle.golog_tree.specs.declared.prog.Prog.{Prog}
use Rattle.golog_tree.specs.declared.prog.Way.{Way}
use Rattle.golog_tree.specs.Ground.{sort_size, ground_fluents}
use Rattle.golog_semantics.specs.declared.Mode.{Mode}
use Rattle.golog_semantics.specs.BlockFree.{has_block}
use Rattle.golog_semantics.specs.InSorts.{AreInSorts}
use Rattle.golog_semantics.specs.ProgFits.{fits}
use Rattle.golog_semantics.specs.Reports.{fits_label}
use Rattle.golog_semantics.specs.Search.{plain_ways}
use Rattle.golog_semantics.specs.Truth.{Values, is_known}
use Rattle.golog_semantics.specs.Values.{after, fluent_sort}
use Rattle.golog_semantics.specs.WellFormed.{WellFormed}
use Rattle.golog_semantics.proofs.ByParts.{OfEach}
use Rattle.golog_semantics.proofs.CausesKeep.{steps_stay_in_sorts}
use Rattle.golog_semantics.proofs.SortsStay.{set-sorts}
use Rattle.golog_semantics.proofs.Words.{and-both}
use Rattle.golog_journal.proofs.Sensing.{sensed-inside}
use Rattle.golog_journal.proofs.Serving.{well_formed_serves}
use Rattle.golog_ways.specs.Searched.{IsSearched}
use Rattle.golog_ways.proofs.SearchedWays.{WayStays, ways_stay}
use Rattle.golog_branch.specs.declared.cases.Case.{Case as AnyCase}
use Rattle.golog_branch.specs.Levels.{IsWay, case_of}
use Rattle.golog_branch.specs.Trees.{Case, cases, cases_by, sensed_by_label, with_sensed}

-- so it is of the item that is read
pub all-at : {A : Type 0} (P : A → Type 0) (xs : List A) (i : ℕ) (x : A) → i < length xs → x ≡ get_or xs i x → All P xs → P x
all-at P xs i x less e h = subst P (sym e) (All-get_or P xs i x less h)

pub if-some : {A : Type 0} (P : A → Type 0) (o : Option A) → ((x : A) → o ≡ Some x → P x) → IfSome o P
if-some P None h = tt
if-some P (Some x) h = h x refl

-- so it is of all that come of others
each-back : {A B : Type 0} (P : B → Type 0) (Q : A → Type 0) (f : A → B) → ((x : A) → P (f x) → Q x) → (xs : List A) → OfEach P (map f xs) → All Q xs
each-back P Q f into [] h = All-nil Q
each-back P Q f into (x ∷ xs) h = All-cons Q x xs (into x h.0) (each-back P Q f into xs h.1)

all-each : {A : Type 0} (P Q : A → Type 0) → ((x : A) → P x → Q x) → (xs : List A) → OfEach P xs → All Q xs
all-each P Q into [] h = All-nil Q
all-each P Q into (x ∷ xs) h = All-cons Q x xs (into x h.0) (all-each P Q into xs h.1)

module _ (agent : Agent) (formed : WellFormed agent) where
  -- what a step senses is a ground fluent
  pub sensed-fluent : (label : Label) (fluent : ℕ) → sensed_by_label agent label ≡ Some fluent → fluent < length (ground_fluents agent)
  sensed-fluent Quiet fluent e = absurd (cc)
  sensed-fluent (Do action) fluent e = sensed-inside agent (well_formed_serves agent formed) action fluent e

  -- the values of the case are in their sorts
  abbrev pub IsSorted : Case → Type 0
  IsSorted c = AreInSorts agent c.1

  module _ (there : Values) (sorts : AreInSorts agent there) where
    module _ (fluent : ℕ) (inside : fluent < length (ground_fluents agent)) where
      sensed-each : (k n : ℕ) → k + n ≤ sort_size agent (fluent_sort agent fluent) → OfEach IsSorted (map (with_sensed there fluent) (range_with_len k n))
      sensed-each k zero few = tt
      sensed-each k (suc n) few =
          let value = and-both (nat_lt fluent (length (ground_fluents agent))) (nat_lt k (sort_size agent (fluent_sort agent fluent)))
          (lt-ltb fluent (length (ground_fluents agent)) inside) (lt-ltb k (sort_size agent (fluent_sort agent fluent)) (omega arith)) in
          (set-sorts agent there sorts fluent k value, sensed-each (k + 1) n (omega arith))

      by-known : (b : Bool) → OfEach IsSorted
          (if b then (slice_index there fluent, there) ∷ [] else map (with_sensed there fluent) (range_with_len 0 (sort_size agent (fluent_sort agent fluent))))
      by-known true = (sorts, tt)
      by-known false = sensed-each 0 (sort_size agent (fluent_sort agent fluent)) (omega arith)

    pub cases-sorted : (o : Option ℕ) → ((fluent : ℕ) → o ≡ Some fluent → fluent < length (ground_fluents agent)) → OfEach IsSorted (cases_by agent there o)
    cases-sorted None inside = (sorts, tt)
    cases-sorted (Some fluent) inside = by-known fluent (inside fluent refl) (is_known (slice_index there fluent))

  -- a search may reach each case of a step
  pub cases-searched : (left : Prog) → IsTrue (fits agent left) → IsTrue (not (has_block agent left)) → (values : Values) → AreInSorts agent values
      → (label : Label) → IsTrue (fits_label agent label) → (cs : List AnyCase) → map case_of cs ≡ cases agent values label
      → All (λ (c : AnyCase). IsSearched agent left c.state) cs
  cases-searched left program blockless values sorts label own cs e =
      let there = steps_stay_in_sorts agent formed values label sorts in
      let sorted = cases-sorted (after agent values label) there (sensed_by_label agent label) (λ fluent k. sensed-fluent label fluent k) in
      each-back IsSorted (λ (c : AnyCase). IsSearched agent left c.state) case_of
      (λ c h. record { program = program; blockless = blockless; sorts = h }) cs (subst (OfEach IsSorted) (sym e) sorted)

  -- a search may follow each way of a program that it may reach
  pub ways-are : (p : Prog) (values : Values) → IsSearched agent p values → (m : Mode) (ways : List Way) → ways ≡ plain_ways agent values m p → All (IsWay agent) ways
  ways-are p values searched m ways e =
      all-each (WayStays agent) (IsWay agent) (λ w h. record { program = h.left_fits; blockless = h.left_free; label = h.label_fits }) ways
      (subst (OfEach (WayStays agent)) (sym e) (ways_stay agent formed p values searched m))
