-- Conditions taken back over actions and over sensing.
use Rattle.std.proofs.Common.{◌≡◌, ℕ, zero, suc, ◌-◌, ◌<◌, ◌≤◌, ◌⊎◌, inl, inr, Bool, true, false, ◌&&◌, ◌==◌, if◌then◌else◌, Option, Some, None, List, [], ◌∷◌, ◌++◌, drop, get_or, length, map, refl, sym, ap, ◌∙◌, subst, arith, zero-add}
use Rattle.std.specs.Prelude.{IfOk, Result, Ok, Err, fold, slice_get, slice_index, slice_set}
use Rattle.std.specs.List.{list_all, enumerate_from}
use Rattle.std.specs.Option.{option_map_or}
use Rattle.std.proofs.lemmas.Bool.{eqb-true, eq-eqb, lt-ltb}
use Rattle.std.proofs.lemmas.List.{get_or-set_same, get_or-set_other, length-map}
use Rattle.std.proofs.lemmas.List.FromFn.{length-enumerate_from}
use Rattle.std.proofs.lemmas.List.Sums.{fold-append}
use Rattle.std.proofs.Math.ListN.{length-set}
use Rattle.golog_tree.specs.declared.agent.Agent.{Agent}
use Rattle.golog_tree.specs.declared.agent.ActionItem.{ActionItem}
use Rattle.golog_tree.specs.declared.agent.CauseItem.{CauseItem}
use Rattle.golog_tree.specs.declared.agent.FluentItem.{FluentItem}
use Rattle.golog_tree.specs.declared.cond.Arg.TheVariants.{Const}
use Rattle.golog_tree.specs.declared.cond.Cond.{Cond}
use Rattle.golog_tree.specs.declared.cond.Term.TheVariants as term
use Rattle.golog_tree.specs.declared.cond.Cond.TheVariants as cond
use Rattle.golog_tree.specs.Ground.{AreWithin, Ground, action_args, args_at, fluent_args, fluent_no, ground_actions, ground_count, ground_fluents, sizes, sort_size}
use Rattle.golog_tree.proofs.Decoded.{args_at-get_or}
use Rattle.golog_tree.proofs.Numbers.{length-all_from}
use Rattle.golog_semantics.specs.Truth.{Values, chosen, env_of, truth_of}
use Rattle.golog_semantics.specs.Values.{after_if, cause_for, value_caused, fluent_sort, matched_values, value_by_causes}
use Rattle.golog_semantics.specs.Fits.{bound_from, is_sort}
use Rattle.golog_semantics.specs.Written.{Wording, written_cond_step, written_term_step}
use Rattle.golog_semantics.specs.WellFormed.{WellFormed, action_item_fits, are_sorts, is_device_no, cause_fits, cause_fits_for, effect_fits, head_sorts}
use Rattle.golog_semantics.proofs.ActionNames.{args_at-map}
use Rattle.golog_semantics.proofs.CausesKeep.{has, within-length}
use Rattle.golog_semantics.proofs.CondByParts as conds
use Rattle.golog_semantics.proofs.GroundNumbers.{some-same, stands}
use Rattle.golog_semantics.proofs.NumbersStand.{fluent_args-at, one_number, sort-at}
use Rattle.golog_semantics.proofs.SortsStay.{mapped-at}
use Rattle.golog_semantics.proofs.Tests.{and_cases}
use Rattle.golog_semantics.proofs.Words.{and-left}
use Rattle.golog_regress.specs.declared.event.Event.{Event}
use Rattle.golog_regress.specs.declared.event.Event.TheVariants.{Did, Sensed}
use Rattle.golog_regress.specs.declared.happened.Happened.{Happened}
use Rattle.golog_regress.specs.Regressed.{cond_back}
use Rattle.golog_regress.specs.Regression.{after_event, IsRegressed}
use Rattle.golog_regress.proofs.Back.{Rules, all-get, taken_back}
use Rattle.golog_regress.proofs.Evaluation as by
use Rattle.golog_regress.proofs.Layers.{HappensIn, EffectIs, Effects}

module _ (agent : Agent) (fits : WellFormed agent) where
  -- what is taken back, where the values after are those by the rule of the causes
  by-rules : (happened : Happened) (causes : List CauseItem) (vals : List ℕ) (happens : HappensIn agent happened vals) (effects : Effects agent happened causes) (event : Event)
      → ((values : Values) → length values ≡ length (ground_fluents agent) → Rules agent fits happened causes vals happens effects values (after_event agent values event))
      → (c answer : Cond) → answer ≡ cond_back agent happened causes c → IsRegressed agent (event ∷ []) c answer
  by-rules happened causes vals happens effects event rules c answer same = subst (IsRegressed agent (event ∷ []) c) (sym same) (record {
    fits = λ scope e. (taken_back agent fits happened causes vals happens effects c scope e).0;
    truth = λ values env whole count at.
        (taken_back agent fits happened causes vals happens effects c at.scope at.fits).1 values (after_event agent values event) env env (rules values whole, refl, count, at.set);
  })

  effect-of : (happened : Happened) (item : ActionItem) → slice_get agent.actions happened.action ≡ Some item → happened.sorts ≡ item.args
      → (cause : CauseItem) → cause_fits agent cause ≡ true → (fluent : FluentItem) → (cause.action == happened.action) ≡ true → slice_get agent.fluents cause.fluent ≡ Some fluent → EffectIs agent happened cause fluent
  effect-of happened item is sorts cause ok fluent same there =
      let a = has (λ action. option_map_or (cause_fits_for agent cause action) (slice_get agent.fluents cause.fluent) false) (slice_get agent.actions cause.action) ok in
      let b = has (cause_fits_for agent cause a.item) (slice_get agent.fluents cause.fluent) a.passes in
      let c = has (effect_fits agent cause b.item.sort) (head_sorts agent (a.item.args ++ b.item.args) (cause.action_args ++ cause.fluent_args) []) b.passes in
      let action : a.item ≡ item = some-same a.item item (sym a.is ∙ ap (slice_get agent.actions) (eqb-true cause.action happened.action same) ∙ is) in
      let of : b.item ≡ fluent = some-same b.item fluent (sym b.is ∙ there) in
      subst (λ (f : FluentItem). EffectIs agent happened cause f) of (record {
        all = c.item;
        head = ap (λ ss. head_sorts agent (ss ++ b.item.args) (cause.action_args ++ cause.fluent_args) []) (sorts ∙ sym (ap (λ (i : ActionItem). i.args) action)) ∙ c.is;
        fits = c.passes;
      })

  effects-of : (happened : Happened) (item : ActionItem) → slice_get agent.actions happened.action ≡ Some item → happened.sorts ≡ item.args
      → (causes : List CauseItem) → list_all (cause_fits agent) causes ≡ true → Effects agent happened causes
  effects-of happened item is sorts [] h = tt
  effects-of happened item is sorts (cause ∷ causes) h =
      let k = and_cases (cause_fits agent cause) (list_all (cause_fits agent) causes) h in
      (λ fluent same there. effect-of happened item is sorts cause k.0 fluent same there, effects-of happened item is sorts causes k.1)

  sorts-of-item : (item : ActionItem) → action_item_fits agent item ≡ true → are_sorts agent item.args ≡ true
  sorts-of-item item h =
      let devices = are_sorts agent item.args && option_map_or (is_device_no agent) item.device true in
      and-left (are_sorts agent item.args) (option_map_or (is_device_no agent) item.device true)
      (and-left devices (list_all (is_device_no agent) item.posters)
      (and-left (devices && list_all (is_device_no agent) item.posters) _ h))

  -- a condition taken back over an action
  pub over_action : (action : ℕ) (item : ActionItem) (vals : List ℕ) (happened : Happened) → slice_get (ground_actions agent) action ≡ Some (happened.action, vals)
      → AreWithin (sizes agent (args_at (action_args agent) happened.action)) vals → slice_get agent.actions happened.action ≡ Some item → happened.sorts ≡ item.args → happened.args ≡ map Const vals
      → (c answer : Cond) → answer ≡ cond_back agent happened agent.causes c → IsRegressed agent (Did action ∷ []) c answer
  over_action action item vals happened named within is sorts args =
      by-rules happened agent.causes vals happens (effects-of happened item is sorts agent.causes fits.actions_fit.causes) (Did action)
      (λ values whole. record {
        rule = λ f fluent e.
            ap (λ o. slice_index (after_if agent values o) f) named
            ∙ mapped-at (λ g. value_by_causes agent values agent.causes (happened.action, vals) g.1 (slice_index values g.0)) 0 (ground_fluents agent) f fluent e
            ∙ ap (λ n. value_by_causes agent values agent.causes (happened.action, vals) fluent (slice_index values n)) (zero-add f);
      })
    where
      happens : HappensIn agent happened vals
      happens = record {
        sorts = ap (list_all (is_sort agent)) sorts ∙ sorts-of-item item (all-get (action_item_fits agent) agent.actions happened.action item fits.actions is);
        args = args;
        within = subst (λ ss. AreWithin (sizes agent ss) vals) (args_at-map agent.actions happened.action item is ∙ sym sorts) within;
      }

  -- a result is one cause, of an action without arguments
  abbrev pub result_cause : ℕ → List ℕ → ℕ → CauseItem
  result_cause fluent vals value = record {
    action = 0;
    action_args = [];
    fluent = fluent;
    fluent_args = map Const vals;
    term = term.Arg (Const value);
    cond = cond.Truth true;
  }

  abbrev pub result_happened : Happened
  result_happened = record { action = 0; sorts = []; args = [] }

  consts-matched : (vals at : List ℕ) → length vals ≡ length at → (matched_values (map Const vals) at [] ≡ None) ⊎ (vals ≡ at)
  consts-matched [] [] l = inr refl
  consts-matched [] (a ∷ at) l = absurd (omega arith)
  consts-matched (v ∷ vals) [] l = absurd (omega arith)
  consts-matched (v ∷ vals) (a ∷ at) l = go (v == a) refl (consts-matched vals at (omega arith))
    where
      go : (b : Bool) → (v == a) ≡ b → (matched_values (map Const vals) at [] ≡ None) ⊎ (vals ≡ at) → ((if v == a then matched_values (map Const vals) at [] else None) ≡ None) ⊎ (v ∷ vals ≡ a ∷ at)
      go true e (inl k) = inl (ap (λ b. if b then matched_values (map Const vals) at [] else None) e ∙ k)
      go true e (inr k) = let h : v ≡ a = eqb-true v a e in inr (λ i. h i ∷ k i)
      go false e r = inl (ap (λ b. if b then matched_values (map Const vals) at [] else None) e)

  consts-self : (vals : List ℕ) → matched_values (map Const vals) vals [] ≡ Some []
  consts-self [] = refl
  consts-self (v ∷ vals) = ap (λ b. if b then matched_values (map Const vals) vals [] else None) (eq-eqb v v refl) ∙ consts-self vals

  consts-head : (sorts vals : List ℕ) → AreWithin (sizes agent sorts) vals → head_sorts agent sorts (map Const vals) [] ≡ Some []
  consts-head [] [] w = refl
  consts-head [] (v ∷ vals) w = elim w [ ]
  consts-head (s ∷ sorts) [] w = elim w [ ]
  consts-head (s ∷ sorts) (v ∷ vals) w = ap (λ b. if b then head_sorts agent sorts (map Const vals) [] else None) (lt-ltb v (sort_size agent s) w.0) ∙ consts-head sorts vals w.1

  module _ (number fluent value : ℕ) (vals : List ℕ) (named : slice_get (ground_fluents agent) number ≡ Some (fluent, vals))
      (within : AreWithin (sizes agent (args_at (fluent_args agent) fluent)) vals) (below : value < sort_size agent (fluent_sort agent number)) where
    abbrev cause : CauseItem
    cause = result_cause fluent vals value

    result-happens : HappensIn agent result_happened []
    result-happens = record { sorts = refl; args = refl; within = tt }

    result-fits : (item : FluentItem) → slice_get agent.fluents fluent ≡ Some item → effect_fits agent cause item.sort [] ≡ true
    result-fits item is =
        let term_fit = by.fits-arg agent (Const value) (bound_from 0 []) item.sort ∙ lt-ltb value (sort_size agent item.sort) (subst (λ s. value < sort_size agent s) (sort-at agent number fluent item vals named is) below) in
        let cond_fit = by.fits-truth agent true (bound_from 0 []) in
        let term_written = ap (λ (w : Wording). w.written) (conds.fold-arg (ℕ → Bool) Wording (written_cond_step agent) (written_term_step agent) (Const value)) in
        let cond_written = ap (λ (f : ℕ → Bool). f 0) (conds.fold-truth (ℕ → Bool) Wording (written_cond_step agent) (written_term_step agent) true) in
        (λ i. term_fit i && cond_fit i && term_written i && cond_written i)

    result-effects : Effects agent result_happened (cause ∷ [])
    result-effects = (
      λ item same is. record {
        all = [];
        head = consts-head item.args vals (subst (λ ss. AreWithin (sizes agent ss) vals) (fluent_args-at agent agent.fluents fluent item is).0 within);
        fits = result-fits item is;
      },
      tt,
    )

    abbrev Goal : Values → ℕ → Ground → Type 0
    Goal values f at = slice_index (slice_set values number value) f ≡ value_by_causes agent values (cause ∷ []) (0, []) at (slice_index values f)

    caused-none : (values : Values) (at : Ground) (old : ℕ) → cause_for cause (0, []) at ≡ None → value_by_causes agent values (cause ∷ []) (0, []) at old ≡ old
    caused-none values at old e = ap (λ o. value_caused agent values cause o old) e

    caused-here : (values : Values) (old : ℕ) → value_by_causes agent values (cause ∷ []) (0, []) (fluent, vals) old ≡ value
    caused-here values old =
        ap (λ o. value_caused agent values cause o old) (ap (λ b. if b then matched_values (map Const vals) vals [] else None) (eq-eqb fluent fluent refl) ∙ consts-self vals)
        ∙ (λ i. chosen (by.truth-truth agent values true (env_of []) i) (by.value-arg agent values (Const value) (env_of []) i) old)

    result-here : (values : Values) → length values ≡ length (ground_fluents agent) → number < length (ground_fluents agent) → (at : Ground) → slice_get (ground_fluents agent) number ≡ Some at → Goal values number at
    result-here values whole inside at e =
        get_or-set_same values number value 0 (subst (λ n. number < n) (sym whole) inside)
        ∙ sym (caused-here values (slice_index values number))
        ∙ ap (λ g. value_by_causes agent values (cause ∷ []) (0, []) g (slice_index values number)) (some-same (fluent, vals) at (sym named ∙ e))

    result-away : (values : Values) (f : ℕ) (at : Ground) → slice_get (ground_fluents agent) f ≡ Some at → (f == number) ≡ false → Goal values f at
    result-away values f at e other =
        get_or-set_other values number f value 0 (λ same. let t : (f == number) ≡ true = eq-eqb f number same in cc)
        ∙ sym (caused-none values at (slice_index values f) (none (fluent == at.0) refl))
      where
        numbers : vals ≡ at.1 → fluent ≡ at.0 → f ≡ number
        numbers v g =
            sym ((one_number agent).fluents f at.0 at.1 e) ∙ (λ i. fluent_no agent (sym g i) (sym v i)) ∙ (one_number agent).fluents number fluent vals named

        lengths : fluent ≡ at.0 → length vals ≡ length at.1
        lengths g =
            let s = stands agent (fluent_args agent) 0 f at.0 at.1 e in
            let there : s.at ≡ fluent = sym (zero-add s.at) ∙ sym s.is ∙ sym g in
            sym (within-length agent (args_at (fluent_args agent) fluent) vals within)
            ∙ ap (λ n. length (args_at (fluent_args agent) n)) (sym there) ∙ within-length agent (args_at (fluent_args agent) s.at) at.1 s.within

        none : (b : Bool) → (fluent == at.0) ≡ b → (if b then matched_values (map Const vals) at.1 [] else None) ≡ None
        none false g = refl
        none true g =
            let same = eqb-true fluent at.0 g in
            elim (consts-matched vals at.1 (lengths same)) [
              | inl k ↦ k
              | inr k ↦ absurd (let t : (f == number) ≡ true = eq-eqb f number (numbers k same) in cc)
            ]

    result-rule : (values : Values) → length values ≡ length (ground_fluents agent) → number < length (ground_fluents agent) → (f : ℕ) (at : Ground) → slice_get (ground_fluents agent) f ≡ Some at → Goal values f at
    result-rule values whole inside f at e = go (f == number) refl
      where
        go : (b : Bool) → (f == number) ≡ b → Goal values f at
        go true t = let same = eqb-true f number t in subst (λ n. Goal values n at) (sym same) (result-here values whole inside at (ap (slice_get (ground_fluents agent)) (sym same) ∙ e))
        go false t = result-away values f at e t

    -- a condition taken back over a result
    pub over_result : number < length (ground_fluents agent) → (c answer : Cond) → answer ≡ cond_back agent result_happened (cause ∷ []) c → IsRegressed agent (Sensed number value ∷ []) c answer
    over_result inside =
        by-rules result_happened (cause ∷ []) [] result-happens result-effects (Sensed number value)
        (λ values whole. record { rule = λ f at e. result-rule values whole inside f at e })

  -- the values after an event are as many
  as-many : (values : Values) (event : Event) → length values ≡ length (ground_fluents agent) → length (after_event agent values event) ≡ length (ground_fluents agent)
  as-many values (Did action) whole = go (slice_get (ground_actions agent) action)
    where
      go : (o : Option Ground) → length (after_if agent values o) ≡ length (ground_fluents agent)
      go None = whole
      go (Some at) = length-map (enumerate_from 0 (ground_fluents agent)) _ ∙ length-enumerate_from 0 (ground_fluents agent)
  as-many values (Sensed fluent value) whole = length-set values fluent value ∙ whole

  -- an event before others
  pub over_more : (event : Event) (events : List Event) (c later answer : Cond) → IsRegressed agent events c later → IsRegressed agent (event ∷ []) later answer → IsRegressed agent (event ∷ events) c answer
  over_more event events c later answer r s = record {
    fits = λ scope e. s.fits scope (r.fits scope e);
    truth = λ values env whole count at.
        s.truth values env whole count (record { scope = at.scope; fits = r.fits at.scope at.fits; set = at.set })
        ∙ r.truth (after_event agent values event) env (as-many values event whole) count at;
  }

  as-many-all : (values : Values) (events : List Event) → length values ≡ length (ground_fluents agent) → length (fold (after_event agent) values events) ≡ length (ground_fluents agent)
  as-many-all values [] whole = whole
  as-many-all values (event ∷ events) whole = as-many-all (after_event agent values event) events (as-many values event whole)

  -- events before others
  pub over_both : (first second : List Event) (c later answer : Cond) → IsRegressed agent second c later → IsRegressed agent first later answer → IsRegressed agent (first ++ second) c answer
  over_both first second c later answer r s = record {
    fits = λ scope e. s.fits scope (r.fits scope e);
    truth = λ values env whole count at.
        s.truth values env whole count (record { scope = at.scope; fits = r.fits at.scope at.fits; set = at.set })
        ∙ r.truth (fold (after_event agent) values first) env (as-many-all values first whole) count at
        ∙ ap (λ vs. truth_of agent vs c env) (sym (fold-append (after_event agent) values first second));
  }

-- a condition before no event
pub over_none : (agent : Agent) (c answer : Cond) → answer ≡ c → IsRegressed agent [] c answer
over_none agent c answer same = subst (IsRegressed agent [] c) (sym same) (record { fits = λ scope e. e; truth = λ values env whole count at. refl })

pub over_end : (agent : Agent) (events : List Event) (c answer : Cond) → answer ≡ c → IsRegressed agent (drop (length events) events) c answer
over_end agent events c answer same = subst (λ es. IsRegressed agent es c answer) (sym (past events)) (over_none agent c answer same)
  where
    past : (es : List Event) → drop (length es) es ≡ []
    past [] = refl
    past (e ∷ es) = past es

drop-one : (events : List Event) (n : ℕ) (d : Event) → n < length events → drop n events ≡ get_or events n d ∷ drop (suc n) events
drop-one [] n d h = absurd (omega arith)
drop-one (e ∷ events) zero d h = refl
drop-one (e ∷ events) (suc n) d h = drop-one events n d (omega arith)

-- the event before those behind it
pub over_before : (agent : Agent) → WellFormed agent → (events : List Event) (n : ℕ) (d : Event) → 0 < n → n ≤ length events → (c later answer : Cond) → IsRegressed agent (drop n events) c later
    → IsRegressed agent (get_or events (n - 1) d ∷ []) later answer → IsRegressed agent (drop (n - 1) events) c answer
over_before agent fits events n d some inside c later answer r s =
    let next : n ≡ suc (n - 1) = omega arith in
    subst (λ es. IsRegressed agent es c answer) (sym (drop-one events (n - 1) d (omega arith)))
    (over_more agent fits (get_or events (n - 1) d) (drop (suc (n - 1)) events) c later answer (subst (λ m. IsRegressed agent (drop m events) c later) next r) s)

pub if-so : {E : Type 0} (P : Cond → Type 0) (v : Cond) (r : Result Cond E) → IfOk r (λ c. c ≡ v) → ((answer : Cond) → answer ≡ v → P answer) → IfOk r P
if-so P v (Ok c) h k = k c h
if-so P v (Err e) h k = tt

pub count-fluents : (agent : Agent) → length (ground_fluents agent) ≡ ground_count agent (fluent_args agent)
count-fluents agent = length-all_from agent (fluent_args agent) 0

pub few-fluent-args : (agent : Agent) (fits : WellFormed agent) (item : ℕ) → item < length (fluent_args agent) → length (args_at (fluent_args agent) item) ≤ 3
few-fluent-args agent fits item inside = subst (λ xs. length xs ≤ 3) (sym (args_at-get_or (fluent_args agent) item)) (fits.countable.fluent_arities item [] inside)
