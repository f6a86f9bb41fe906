-- The results in an online execution are values of their fluents, so values stay in their sorts.
use Rattle.std.proofs.Common.{◌≡◌, ℕ, ◌<◌, Bool, true, false, ◌&&◌, ◌==◌, if◌then◌else◌, List, [], ◌∷◌, ◌++◌, length, map, refl, sym, ap, ◌∙◌, subst, Some, None, Option}
use Rattle.std.specs.Prelude.{nat_lt, slice_get, find, option_map, option_and_then, is_some}
use Rattle.std.specs.List.{list_all}
use Rattle.std.specs.Option.{option_map_or}
use Rattle.std.proofs.lemmas.Bool.{eqb-true, lt-ltb}
use Rattle.std.proofs.lemmas.Option.{slice_get_within}
use Rattle.golog_tree.specs.declared.agent.Agent.{Agent}
use Rattle.golog_tree.specs.declared.agent.SenseItem.{SenseItem}
use Rattle.golog_tree.specs.Ground.{AreWithin, sizes, sort_size, Ground, ground_actions, ground_fluents}
use Rattle.golog_semantics.specs.declared.journal.Entry.{Entry}
use Rattle.golog_semantics.specs.declared.journal.Entry.TheVariants.{Do, Test, Exo, Sense, Rest, Close, End}
use Rattle.golog_semantics.specs.declared.journal.PlacedRun.{PlacedRun}
use Rattle.golog_semantics.specs.Truth.{env_of, arg_value}
use Rattle.golog_semantics.specs.Values.{fluent_sort}
use Rattle.golog_semantics.specs.Ways.{is_empty}
use Rattle.golog_semantics.specs.Journal.{Journal, fluent_sensed, sensed_by, outstanding_commands}
use Rattle.golog_semantics.specs.Fits.{bound_from, args_fit}
use Rattle.golog_semantics.specs.WellFormed.{WellFormed, sense_fits, sense_fits_for}
use Rattle.golog_semantics.specs.Text.{at_each}
use Rattle.golog_semantics.specs.Online.{is_result, keeps_place, first_some, fault_at, first_fault}
use Rattle.golog_semantics.specs.SortLaws.{ResultsFit, OnlineStaysInSorts}
use Rattle.golog_semantics.proofs.Words.{and-left, and-right, and-both}
use Rattle.golog_semantics.proofs.Pushed.{or-left, or-right}
use Rattle.golog_semantics.proofs.NoFaults.{faults_tell, no-fault-so_far}
use Rattle.golog_semantics.proofs.GroundNumbers.{some-same, action_is}
use Rattle.golog_semantics.proofs.ActionNames.{args_at-map}
use Rattle.golog_semantics.proofs.Fits.{senses-it}
use Rattle.golog_semantics.proofs.NumbersStand.{fluent-stands}
use Rattle.golog_semantics.proofs.TermsFit.{args-within}
use Rattle.golog_semantics.proofs.WellNamed.{starts_in_sorts}
use Rattle.golog_semantics.proofs.CausesKeep.{has, typed-env, values_stay_in_sorts}

found-passes : {A : Type 0} (p : A → Bool) (xs : List A) (x : A) → find p xs ≡ Some x → p x ≡ true
found-passes p [] x e = absurd (cc)
found-passes p (y ∷ xs) x e = go (p y) refl e (found-passes p xs x)
  where
    go : (b : Bool) → p y ≡ b → (if b then Some y else find p xs) ≡ Some x → (find p xs ≡ Some x → p x ≡ true) → p x ≡ true
    go true k f rest = ap p (sym (some-same y x f)) ∙ k
    go false k f rest = rest f

found-among : {A : Type 0} (p q : A → Bool) (xs : List A) (x : A) → list_all q xs ≡ true → find p xs ≡ Some x → q x ≡ true
found-among p q [] x h e = absurd (cc)
found-among p q (y ∷ xs) x h e = go (p y) e (found-among p q xs x (and-right (q y) (list_all q xs) h))
  where
    go : (b : Bool) → (if b then Some y else find p xs) ≡ Some x → (find p xs ≡ Some x → q x ≡ true) → q x ≡ true
    go true f rest = ap q (sym (some-same y x f)) ∙ and-left (q y) (list_all q xs) h
    go false f rest = rest f

module _ (agent : Agent) (fits : WellFormed agent) where
  sensed-by-inside : (action : ℕ) (at : Ground) (item : SenseItem) → slice_get (ground_actions agent) action ≡ Some at → item.action ≡ at.0 → sense_fits agent item ≡ true → sensed_by agent at item < length (ground_fluents agent)
  sensed-by-inside action at item ours same h =
      let a = has (λ action. option_map_or (sense_fits_for agent item action) (slice_get agent.fluents item.fluent) false) (slice_get agent.actions item.action) h in
      let b = has (sense_fits_for agent item a.item) (slice_get agent.fluents item.fluent) a.passes in
      let args = and-right (is_some a.item.device && is_empty a.item.posters) (args_fit agent (bound_from 0 a.item.args) b.item.args item.args) b.passes in
      let action_item : slice_get agent.actions at.0 ≡ Some a.item = ap (slice_get agent.actions) (sym same) ∙ a.is in
      let within : AreWithin (sizes agent a.item.args) at.1 = subst (λ s. AreWithin (sizes agent s) at.1) (args_at-map agent.actions at.0 a.item action_item) (action_is agent action at.0 at.1 ours).within in
      let start = starts_in_sorts agent fits in
      let typed = typed-env agent agent.starts start a.item.args at.1 within in
      let fluent = fluent-stands agent item.fluent b.item (map (arg_value (env_of at.1)) item.args) b.is (args-within agent agent.starts start (bound_from 0 a.item.args) (env_of at.1) typed b.item.args item.args args) in
      slice_get_within (ground_fluents agent) (sensed_by agent at item) (item.fluent, map (arg_value (env_of at.1)) item.args) fluent.stands

  sensed-item : (action : ℕ) (at : Ground) (fluent : ℕ) (o : Option SenseItem) → slice_get (ground_actions agent) action ≡ Some at
      → find (λ item. item.action == at.0) agent.senses ≡ o → option_map (sensed_by agent at) o ≡ Some fluent → fluent < length (ground_fluents agent)
  sensed-item action at fluent None ours e h = absurd (cc)
  sensed-item action at fluent (Some item) ours e h =
      let same : item.action ≡ at.0 = eqb-true item.action at.0 (found-passes (λ i. i.action == at.0) agent.senses item e) in
      subst (λ f. f < length (ground_fluents agent)) (some-same (sensed_by agent at item) fluent h)
      (sensed-by-inside action at item ours same (found-among (λ i. i.action == at.0) (sense_fits agent) agent.senses item fits.actions_fit.senses e))

  sensed-at : (action fluent : ℕ) (o : Option Ground) → slice_get (ground_actions agent) action ≡ o
      → option_and_then (λ at. option_map (sensed_by agent at) (find (λ item. item.action == at.0) agent.senses)) o ≡ Some fluent → fluent < length (ground_fluents agent)
  sensed-at action fluent None e h = absurd (cc)
  sensed-at action fluent (Some at) e h = sensed-item action at fluent (find (λ item. item.action == at.0) agent.senses) e refl h

  sensed-inside : (action fluent : ℕ) → fluent_sensed agent action ≡ Some fluent → fluent < length (ground_fluents agent)
  sensed-inside action fluent h = sensed-at action fluent (slice_get (ground_actions agent) action) refl h

  module _ (runs : List PlacedRun) where
    abbrev NoFault : Journal → Journal → Type 0
    NoFault before entries = first_some (at_each (fault_at agent None runs) before entries) ≡ None

    later : (before : Journal) (e : Entry) (entries : Journal) → NoFault before (e ∷ entries) → NoFault (before ++ e ∷ []) entries
    later before e entries h = or-right (fault_at agent None runs before e) (first_some (at_each (fault_at agent None runs) (before ++ e ∷ []) entries)) h

    place-kept : (before : Journal) (e : Entry) (entries : Journal) → NoFault before (e ∷ entries) → keeps_place agent before e ≡ true
    place-kept before e entries h =
        let none = or-left (fault_at agent None runs before e) (first_some (at_each (fault_at agent None runs) (before ++ e ∷ []) entries)) h in
        ((faults_tell agent None runs before e).kept none).place

    results-from : (before entries : Journal) → NoFault before entries → ResultsFit agent entries
    results-from before [] h = tt
    results-from before (Do action ∷ entries) h = results-from (before ++ Do action ∷ []) entries (later before (Do action) entries h)
    results-from before (Test ∷ entries) h = results-from (before ++ Test ∷ []) entries (later before Test entries h)
    results-from before (Exo d action ∷ entries) h = results-from (before ++ Exo d action ∷ []) entries (later before (Exo d action) entries h)
    results-from before (Sense d place fluent value ∷ entries) h =
        let kept = place-kept before (Sense d place fluent value) entries h in
        let first = slice_get (outstanding_commands agent d before) 0 in
        let below = nat_lt value (sort_size agent (fluent_sort agent fluent)) in
        let c = has (is_result agent before place fluent) first (and-left (option_map_or (is_result agent before place fluent) first false) below kept) in
        let senses = senses-it agent fluent (fluent_sensed agent c.item.action) (and-right (c.item.place == place) (option_map_or (λ f. f == fluent) (fluent_sensed agent c.item.action) false) c.passes) in (
          and-both (nat_lt fluent (length (ground_fluents agent))) below (lt-ltb fluent (length (ground_fluents agent)) (sensed-inside c.item.action fluent senses))
              (and-right (option_map_or (is_result agent before place fluent) first false) below kept),
          results-from (before ++ Sense d place fluent value ∷ []) entries (later before (Sense d place fluent value) entries h),
        )
    results-from before (Rest d taken ∷ entries) h = results-from (before ++ Rest d taken ∷ []) entries (later before (Rest d taken) entries h)
    results-from before (Close d reason taken ∷ entries) h = results-from (before ++ Close d reason taken ∷ []) entries (later before (Close d reason taken) entries h)
    results-from before (End answer ∷ entries) h = results-from (before ++ End answer ∷ []) entries (later before (End answer) entries h)

pub online_stays : OnlineStaysInSorts
unfolding first_fault
online_stays agent fits report h = values_stay_in_sorts agent fits report.entries (results-from agent fits report.runs [] report.entries (no-fault-so_far agent report h))
