-- What an action's result tells is a ground fluent of the agent.
use Rattle.std.proofs.Common.{◌≡◌, ℕ, zero, suc, ◌+◌, ◌-◌, ◌<◌, Bool, true, false, ◌&&◌, ◌==◌, if◌then◌else◌, Option, Some, None, List, [], ◌∷◌, ◌++◌, length, map, refl, sym, ap, ◌∙◌, subst, arith, zero-add, add-zero}
use Rattle.std.specs.Prelude.{find, slice_get, slice_index, replicate, is_some, option_map, option_and_then}
use Rattle.std.specs.List.{list_all}
use Rattle.std.specs.Option.{option_map_or}
use Rattle.std.proofs.lemmas.Bool.{and_parts, eqb-true, eq-eqb, ne_eqb, ltb-true}
use Rattle.std.proofs.lemmas.List.{length-map}
use Rattle.std.proofs.lemmas.Option.{same_Some, slice_get_within}
use Rattle.golog_tree.specs.declared.agent.Agent.{Agent}
use Rattle.golog_tree.specs.declared.agent.ActionItem.{ActionItem}
use Rattle.golog_tree.specs.declared.agent.FluentItem.{FluentItem}
use Rattle.golog_tree.specs.declared.agent.SenseItem.{SenseItem}
use Rattle.golog_tree.specs.declared.cond.Arg.{Arg}
use Rattle.golog_tree.specs.declared.cond.Arg.TheVariants.{Const, Var}
use Rattle.golog_tree.specs.Ground.{Ground, AreWithin, sizes, sort_size, args_at, action_args, fluent_args, ground_actions, ground_fluents}
use Rattle.golog_tree.proofs.Numbers.{get-number_of}
use Rattle.golog_semantics.specs.Truth.{env_of, arg_value}
use Rattle.golog_semantics.specs.Ways.{is_empty}
use Rattle.golog_semantics.specs.Fits.{bound_from, arg_fits, args_fit}
use Rattle.golog_semantics.specs.WellFormed.{sense_fits_for, sense_fits}
use Rattle.golog_semantics.specs.Journal.{fluent_sensed, sensed_by}
use Rattle.golog_semantics.proofs.GroundNumbers.{action_is}
use Rattle.golog_semantics.proofs.ActionNames.{args_at-map}
use Rattle.golog_semantics.proofs.NumbersStand.{fluent_args-at}
use Rattle.golog_semantics.proofs.CausesKeep.{has}
use Rattle.golog_journal.specs.Agents.{ServesDevices}

-- what is found passes, and keeps what all keep
pub record IsFound {A : Type 0} (p q : A → Bool) (x : A) : Type 0 where
  pub passes : p x ≡ true
  pub keeps : q x ≡ true

pub is-found : {A : Type 0} (p q : A → Bool) (xs : List A) (x : A) → list_all q xs ≡ true → find p xs ≡ Some x → IsFound p q x
is-found p q [] x all found = absurd (cc)
is-found p q (y ∷ ys) x all found = go (p y) refl found (λ later. is-found p q ys x (and_parts (q y) (list_all q ys) all).1 later)
  where
    go : (b : Bool) → p y ≡ b → (if b then Some y else find p ys) ≡ Some x → (find p ys ≡ Some x → IsFound p q x) → IsFound p q x
    go true is found rest =
        let same = same_Some y x found in record { passes = ap p (sym same) ∙ is; keeps = ap q (sym same) ∙ (and_parts (q y) (list_all q ys) all).0 }
    go false is found rest = rest found

index-zeros : (n k : ℕ) → slice_index (replicate n 0) k ≡ 0
index-zeros zero k = refl
index-zeros (suc n) zero = refl
index-zeros (suc n) (suc k) = index-zeros n k

index-padded : (xs : List ℕ) (n k : ℕ) → slice_index (xs ++ replicate n 0) k ≡ slice_index xs k
index-padded [] n k = index-zeros n k
index-padded (x ∷ xs) n zero = refl
index-padded (x ∷ xs) n (suc k) = index-padded xs n k

-- the value of a variable is at its number
pub env-index : (vs : List ℕ) (k : ℕ) → slice_index (env_of vs) k ≡ slice_index vs k
unfolding env_of
env-index vs k = index-padded vs (32 - length vs) k

module _ (agent : Agent) where
  -- a bound variable has a value of its sort
  bound-below : (n : ℕ) (sorts vs : List ℕ) (x k sort : ℕ) → AreWithin (sizes agent sorts) vs → x ≡ n + k → bound_from n sorts x ≡ Some sort
      → slice_index vs k < sort_size agent sort
  bound-below n [] vs x k sort within at h = absurd (cc)
  bound-below n (s ∷ sorts) [] x k sort within at h = absurd within
  bound-below n (s ∷ sorts) (v ∷ vs) x zero sort within at h =
      let here : (x == n) ≡ true = eq-eqb x n (at ∙ add-zero n) in
      let same : s ≡ sort = same_Some s sort (sym (ap (λ b. if b then Some s else bound_from (suc n) sorts x) here) ∙ h) in
      subst (λ t. v < sort_size agent t) same within.0
  bound-below n (s ∷ sorts) (v ∷ vs) x (suc k) sort within at h =
      let there : (x == n) ≡ false = ne_eqb x n (λ e. omega (arith, e, at)) in
      bound-below (suc n) sorts vs x k sort within.1 (omega (arith, at))
      (sym (ap (λ b. if b then Some s else bound_from (suc n) sorts x) there) ∙ h)

  arg-below : (sorts vs : List ℕ) (sort : ℕ) (arg : Arg) → AreWithin (sizes agent sorts) vs → arg_fits agent (bound_from 0 sorts) sort arg ≡ true
      → arg_value (env_of vs) arg < sort_size agent sort
  arg-below sorts vs sort (Const c) within fits = ltb-true c (sort_size agent sort) fits
  arg-below sorts vs sort (Var x) within fits =
      let bound = has (λ s. s == sort) (bound_from 0 sorts x) fits in
      let is : bound_from 0 sorts x ≡ Some sort = bound.is ∙ ap Some (eqb-true bound.item sort bound.passes) in
      subst (λ v. v < sort_size agent sort) (sym (env-index vs x)) (bound-below 0 sorts vs x x sort within (sym (zero-add x)) is)

  -- arguments that fit have values of their sorts
  pub args-within : (sorts vs : List ℕ) (needed : List ℕ) (args : List Arg) → AreWithin (sizes agent sorts) vs
      → args_fit agent (bound_from 0 sorts) needed args ≡ true → AreWithin (sizes agent needed) (map (arg_value (env_of vs)) args)
  args-within sorts vs [] [] within fits = tt
  args-within sorts vs [] (arg ∷ args) within fits = absurd (cc)
  args-within sorts vs (sort ∷ needed) [] within fits = absurd (cc)
  args-within sorts vs (sort ∷ needed) (arg ∷ args) within fits =
      let parts = and_parts (arg_fits agent (bound_from 0 sorts) sort arg) (args_fit agent (bound_from 0 sorts) needed args) fits in
      (arg-below sorts vs sort arg within parts.0, args-within sorts vs needed args within parts.1)

  -- an item of sensing names a ground fluent
  pub record Names (sense : SenseItem) (args : List ℕ) : Type 0 where
    pub declared : sense.fluent < length agent.fluents
    pub within : AreWithin (sizes agent (args_at (fluent_args agent) sense.fluent)) (map (arg_value (env_of args)) sense.args)

  pub sense-names : (sense : SenseItem) (args : List ℕ) → sense_fits agent sense ≡ true
      → AreWithin (sizes agent (args_at (action_args agent) sense.action)) args → Names sense args
  sense-names sense args fits within =
      let a = has (λ action. option_map_or (sense_fits_for agent sense action) (slice_get agent.fluents sense.fluent) false) (slice_get agent.actions sense.action) fits in
      let f = has (sense_fits_for agent sense a.item) (slice_get agent.fluents sense.fluent) a.passes in
      let action : ActionItem = a.item in
      let fluent : FluentItem = f.item in
      let fitting = (and_parts (is_some action.device && is_empty action.posters) (args_fit agent (bound_from 0 action.args) fluent.args sense.args) f.passes).1 in
      let own : AreWithin (sizes agent action.args) args = subst (λ sorts. AreWithin (sizes agent sorts) args) (args_at-map agent.actions sense.action action a.is) within in
      let place = fluent_args-at agent agent.fluents sense.fluent fluent f.is in
      record {
        declared = place.1;
        within = subst (λ sorts. AreWithin (sizes agent sorts) (map (arg_value (env_of args)) sense.args)) (sym place.0)
            (args-within action.args args fluent.args sense.args own fitting);
      }

  -- the item of sensing for a ground action names a ground fluent
  pub found-names : (serves : ServesDevices agent) (item : ℕ) (args : List ℕ) (sense : SenseItem)
      → AreWithin (sizes agent (args_at (action_args agent) item)) args
      → find (λ s. s.action == item) agent.senses ≡ Some sense → Names sense args
  found-names serves item args sense within found =
      let is = is-found (λ (s : SenseItem). s.action == item) (sense_fits agent) agent.senses sense serves.senses found in
      let same : sense.action ≡ item = eqb-true sense.action item is.passes in
      sense-names sense args is.keeps (subst (λ n. AreWithin (sizes agent (args_at (action_args agent) n)) args) (sym same) within)

  -- what the result of an action tells is a ground fluent of the agent
  pub sensed-inside : ServesDevices agent → (action fluent : ℕ) → fluent_sensed agent action ≡ Some fluent → fluent < length (ground_fluents agent)
  sensed-inside serves action fluent h = by-ground (slice_get (ground_actions agent) action) refl h
    where
      by-sense : (at : Ground) (o : Option SenseItem) → find (λ s. s.action == at.0) agent.senses ≡ o → AreWithin (sizes agent (args_at (action_args agent) at.0)) at.1
          → option_map (sensed_by agent at) o ≡ Some fluent → fluent < length (ground_fluents agent)
      by-sense at None found within h = absurd (cc)
      by-sense at (Some sense) found within h =
          let names = found-names serves at.0 at.1 sense within found in
          let stands = get-number_of agent (fluent_args agent) sense.fluent (map (arg_value (env_of at.1)) sense.args)
          (subst (λ n. sense.fluent < n) (sym (length-map agent.fluents (λ item. item.args))) names.declared) names.within in
          let number : sensed_by agent at sense ≡ fluent = same_Some (sensed_by agent at sense) fluent h in
          subst (λ n. n < length (ground_fluents agent)) number
          (slice_get_within (ground_fluents agent) (sensed_by agent at sense) (sense.fluent, map (arg_value (env_of at.1)) sense.args) stands)

      by-ground : (o : Option Ground) → slice_get (ground_actions agent) action ≡ o
          → option_and_then (λ at. option_map (sensed_by agent at) (find (λ item. item.action == at.0) agent.senses)) o ≡ Some fluent
          → fluent < length (ground_fluents agent)
      by-ground None is h = absurd (cc)
      by-ground (Some (item, args)) is h = by-sense (item, args) (find (λ s. s.action == item) agent.senses) refl (action_is agent action item args is).within h
