-- The agent that a draft makes: its preconditions and what its actions sense.
use Rattle.std.proofs.Common.{◌≡◌, ℕ, zero, suc, ◌+◌, ◌≤◌, Bool, true, false, not, ◌&&◌, ◌||◌, List, [], ◌∷◌, length, map, Option, Ok, Some, None, refl, sym, ap, subst, ◌∙◌, arith}
use Rattle.std.specs.Prelude.{◌==◌, nat_eq, nat_lt, nat_le, slice_get, is_some, if◌then◌else◌, option_map}
use Rattle.std.specs.List.{list_all, IsDistinct}
use Rattle.std.specs.Option.{option_map_or}
use Rattle.std.proofs.lemmas.Bool.{eqb-true, eq-eqb, ne_eqb}
use Rattle.std.proofs.lemmas.Option.{slice_get-map}
use Rattle.golog_tree.specs.declared.agent.Agent.{Agent}
use Rattle.golog_tree.specs.declared.agent.FluentItem.{FluentItem}
use Rattle.golog_tree.specs.declared.agent.ActionItem.{ActionItem}
use Rattle.golog_tree.specs.declared.agent.PossItem.{PossItem}
use Rattle.golog_tree.specs.declared.agent.SenseItem.{SenseItem}
use Rattle.golog_tree.specs.declared.cond.Arg.{Arg}
use Rattle.golog_tree.specs.declared.cond.Cond.{Cond}
use Rattle.golog_tree.specs.declared.draft.DraftTheory.{DraftTheory}
use Rattle.golog_tree.specs.declared.draft.DraftProgram.{DraftProgram}
use Rattle.golog_tree.specs.declared.draft.DraftFluent.{DraftFluent}
use Rattle.golog_tree.specs.declared.draft.DraftAction.{DraftAction}
use Rattle.golog_tree.specs.declared.draft.DraftPoss.{DraftPoss}
use Rattle.golog_tree.specs.declared.draft.DraftSense.{DraftSense}
use Rattle.golog_rows.specs.Reading.{Reading, gives, ◌>>=◌}
use Rattle.golog_semantics.specs.Text.{Text}
use Rattle.golog_semantics.specs.Ways.{is_empty}
use Rattle.golog_semantics.specs.Fits as fits
use Rattle.golog_semantics.specs.Fits.{bound_from, is_sort}
use Rattle.golog_draft.specs.Drafts.{TheoryKeeps, ProgramKeeps, signature, cond_keeps, fluent_keeps, draft_args_keep, draft_action_at, draft_fluent_keeps, draft_action_keeps, draft_poss_keeps, draft_sense_keeps}
use Rattle.golog_semantics.specs.Written.{is_written_cond}
use Rattle.golog_semantics.specs.WellFormed.{poss_fits, poss_fits_for, sense_fits, sense_fits_for}
use Rattle.golog_semantics.proofs.Tests.{and_both, and_cases, neither_first, neither_second}
use Rattle.golog_check.specs.DeclaredItems.{Declared, fluent_item, action_item}
use Rattle.golog_check.specs.Sorts.{fluent_sorts, action_sorts}
use Rattle.golog_check.specs.Scope.{Scope, within, scope_on, scope_of_vars}
use Rattle.golog_check.specs.Terms.{args_in}
use Rattle.golog_check.specs.Conditions.{cond_in}
use Rattle.golog_check.specs.CheckLaws.{HasItems, Binds, signature_of}
use Rattle.golog_check.specs.Effects.{may_sense, poss_in, sense_by}
use Rattle.golog_check.specs.Check.{names_of, agent_of}
use Rattle.golog_check.proofs.TermLaws.{not-false}
use Rattle.golog_check.proofs.Readings.{both, past, ok-same}
use Rattle.golog_check.proofs.ArgLaws.{args-fit}
use Rattle.golog_check.proofs.CondLaws.{conds-fit}
use Rattle.golog_check.proofs.Countable.{action-args, all-get, few-of, made}
use Rattle.golog_check.proofs.Signatures.{declared-signature}
use Rattle.golog_check.proofs.MadeItems.{args-in, sort-in}
use Rattle.golog_check.proofs.Given.{given-all, given-once, senses-all, senses-once}

-- the variable of a place is bound to the sort there
pub bound-at : (first : ℕ) (sorts : List ℕ) (i sort : ℕ) → slice_get sorts i ≡ Some sort → bound_from first sorts (first + i) ≡ Some sort
bound-at first [] i sort e = absurd (cc)
bound-at first (own ∷ sorts) zero sort e =
    ap (λ (b : Bool). if b then Some own else bound_from (suc first) sorts (first + 0)) (eq-eqb (first + 0) first (omega arith)) ∙ e
bound-at first (own ∷ sorts) (suc i) sort e =
    let next : first + suc i ≡ suc first + i = omega arith in
    ap (λ (b : Bool). if b then Some own else bound_from (suc first) sorts (first + suc i)) (ne_eqb (first + suc i) first (λ s. omega arith))
    ∙ ap (λ x. bound_from (suc first) sorts x) next ∙ bound-at (suc first) sorts i sort e

-- words that are bound to the sorts of their places
pub record IsBound (agent : Agent) (bound : fits.Scope) (scope : Scope) (count : ℕ) : Type 0 where
  pub binds : Binds agent bound scope
  pub long : length scope ≡ count

pub scope-bound : (agent : Agent) (bound : fits.Scope) (n : ℕ) (sorts : List ℕ) (words : List Text) (outer : Scope)
    → length outer ≡ n → length words ≡ length sorts
    → ((i sort : ℕ) → slice_get sorts i ≡ Some sort → bound (n + i) ≡ Some sort) → list_all (is_sort agent) sorts ≡ true
    → Binds agent bound outer → IsBound agent bound (scope_on outer sorts words) (n + length words)
scope-bound agent bound n [] [] outer l same at are binds = record { binds = binds; long = omega (arith, l) }
scope-bound agent bound n (sort ∷ sorts) [] outer l same at are binds = absurd (omega (arith, same))
scope-bound agent bound n [] (word ∷ words) outer l same at are binds = absurd (omega (arith, same))
scope-bound agent bound n (sort ∷ sorts) (word ∷ words) outer l same at are binds =
    let t = and_cases (is_sort agent sort) (list_all (is_sort agent) sorts) are in
    let here : length outer ≡ n + 0 = omega (arith, l) in
    let rest = scope-bound agent bound (n + 1) sorts words (within word sort outer) (omega (arith, l)) (omega (arith, same))
    (λ i s e. ap bound (let k : (n + 1) + i ≡ n + suc i = omega arith in k) ∙ at (suc i) s e) t.1
    ((ap bound here ∙ at 0 sort refl, t.0), binds) in
    record { binds = rest.binds; long = omega (arith, rest.long) }

module _ (theory : DraftTheory) (program : DraftProgram) (keeps : TheoryKeeps theory) (also : ProgramKeeps theory program) where
  abbrev agent : Agent
  agent = agent_of theory program

  abbrev names : Declared
  names = names_of theory program

  pub same-signature : signature_of (names_of theory program) ≡ signature theory
  same-signature = declared-signature theory program.procs

  pub has-items : HasItems (agent_of theory program) (names_of theory program)
  has-items = record {
    sorts = refl;
    fluents = refl;
    sorted = made (λ (item : FluentItem). is_sort agent item.sort) fluent_item (draft_fluent_keeps theory)
        (λ item h. sym (sort-in theory program keeps also item.sort)
        ∙ (and_cases (draft_args_keep theory item.args) (nat_lt item.sort (length theory.sorts)) h).1)
        theory.fluents keeps.fluents;
  }

  -- an action's arguments in scope under these words
  action-scope : (action : DraftAction) (words : List Text) → draft_args_keep theory action.args ≡ true
      → length action.args ≡ length words
      → IsBound agent (bound_from 0 action.args) (scope_of_vars words action.args) (0 + length words)
  action-scope action words h l =
      scope-bound agent (bound_from 0 action.args) 0 action.args words [] refl (sym l) (bound-at 0 action.args)
      (args-in theory program keeps also action.args h) tt

  pub action-get : (action : ℕ) (item : DraftAction) → slice_get theory.actions action ≡ Some item
      → slice_get agent.actions action ≡ Some (action_item item)
  action-get action item e = slice_get-map action_item theory.actions action ∙ ap (λ o. option_map action_item o) e

  -- the precondition of an action
  poss-at : (item : DraftPoss) (action : DraftAction) (c : Cond) → slice_get theory.actions item.action ≡ Some action
      → (length action.args == length item.vars && is_empty action.posters) ≡ true → nat_le 2 item.action ≡ true
      → cond_keeps (signature theory) item.cond (length item.vars) ≡ true
      → (cond_in names item.cond (scope_of_vars item.vars (action_sorts names item.action))).outcome ≡ Ok c
      → poss_fits agent (record { action = item.action; cond = c }) ≡ true
  poss-at item action c e h two k o =
      let t = and_cases (length action.args == length item.vars) (is_empty action.posters) h in
      let l : length action.args ≡ length item.vars = eqb-true (length action.args) (length item.vars) t.0 in
      let get = action-get item.action action e in
      let kept = action-args theory keeps action (all-get (draft_action_keeps theory) theory.actions keeps.actions item.action action e) in
      let scope = action-scope action item.vars kept l in
      let short : length action.args ≤ 3 = few-of theory keeps action.args kept in
      let few : length (scope_of_vars item.vars action.args) ≤ 32 = omega (arith, scope.long, l, short) in
      let long : length (scope_of_vars item.vars action.args) ≡ length item.vars = omega (arith, scope.long) in
      let again : length (scope_of_vars item.vars action.args) ≡ length action.args = omega (arith, long, l) in
      let sorts : action_sorts names item.action ≡ action.args = ap (λ (o : Option ActionItem). option_map_or (λ (i : ActionItem). i.args) o []) get in
      let is = conds-fit agent names has-items item.cond (bound_from 0 action.args) (scope_of_vars item.vars action.args) scope.binds few
      (ap (λ s. cond_keeps s item.cond (length (scope_of_vars item.vars action.args))) same-signature
      ∙ ap (λ n. cond_keeps (signature theory) item.cond n) long ∙ k)
      c (subst (λ ss. (cond_in names item.cond (scope_of_vars item.vars ss)).outcome ≡ Ok c) sorts o) in
      let written : is_written_cond agent c (length action.args) ≡ true = ap (is_written_cond agent c) (sym again) ∙ is.written in
      ap (λ (o : Option ActionItem). option_map_or (poss_fits_for agent (record { action = item.action; cond = c })) o false) get
      ∙ and_both _ _ (and_both _ _ (and_both _ _ two t.1) is.fits) written

  poss-by : (item : DraftPoss) (c : Cond) (o : Option DraftAction) → slice_get theory.actions item.action ≡ o
      → option_map_or (λ (action : DraftAction). length action.args == length item.vars && is_empty action.posters) o false ≡ true
      → nat_le 2 item.action ≡ true → cond_keeps (signature theory) item.cond (length item.vars) ≡ true
      → (cond_in names item.cond (scope_of_vars item.vars (action_sorts names item.action))).outcome ≡ Ok c
      → poss_fits agent (record { action = item.action; cond = c }) ≡ true
  poss-by item c None e h two k o = absurd (cc)
  poss-by item c (Some action) e h two k o = poss-at item action c e h two k o

  poss-is : (item : DraftPoss) (y : PossItem) → (poss_in names item).outcome ≡ Ok y
      → (c : Cond) × ((cond_in names item.cond (scope_of_vars item.vars (action_sorts names item.action))).outcome ≡ Ok c)
      × (record { action = item.action; cond = c } ≡ y)
  unfolding poss_in
  poss-is item y h =
      let b = both (cond_in names item.cond (scope_of_vars item.vars (action_sorts names item.action)))
      (λ (c : Cond). gives (record { action = item.action; cond = c })) y h in
      (b.value, b.one, ok-same (record { action = item.action; cond = b.value }) y b.other)

  pub poss : list_all (poss_fits agent) (agent_of theory program).poss ≡ true
  poss = given-all (poss_in names) (poss_fits agent) (draft_poss_keeps theory) (λ item h y e.
      let is = poss-is item y e in
      let t = and_cases _ (cond_keeps (signature theory) item.cond (length item.vars)) h in
      let u = and_cases (draft_action_at theory item.action (length item.vars) (λ action. is_empty action.posters)) (nat_le 2 item.action) t.0 in
      ap (poss_fits agent) (sym is.2) ∙ poss-by item is.0 (slice_get theory.actions item.action) refl u.0 u.1 t.1 is.1)
      theory.poss keeps.poss

  pub poss-once : IsDistinct nat_eq (map (λ (item : PossItem). item.action) (agent_of theory program).poss)
  poss-once = given-once (poss_in names) (λ (item : PossItem). item.action) (λ (item : DraftPoss). item.action)
      (λ item y e. ap (λ (p : PossItem). p.action) (sym (poss-is item y e).2)) theory.poss keeps.poss_once

  record IsSense (again : Bool) (item : DraftSense) (y : SenseItem) : Type 0 where
    first : again ≡ false
    may : may_sense (names_of theory program).actions item.action ≡ true
    args : List Arg
    read : (args_in (names_of theory program) (scope_of_vars item.vars (action_sorts (names_of theory program) item.action))
        (fluent_sorts (names_of theory program) item.fluent) item.args).outcome ≡ Ok args
    is : ◌≡◌ {A = SenseItem} (record { action = item.action; fluent = item.fluent; args = args; later = item.later }) y

  sense-is : (again : Bool) (item : DraftSense) (y : SenseItem) → (sense_by names again item).outcome ≡ Ok y → IsSense again item y
  unfolding sense_by
  sense-is again item y h =
      let reading = args_in names (scope_of_vars item.vars (action_sorts names item.action)) (fluent_sorts names item.fluent) item.args in
      let next : List Arg → Reading SenseItem = λ args. gives (record { action = item.action; fluent = item.fluent; args = args; later = item.later }) in
      let p = past (again || not (may_sense names.actions item.action)) _ item.at (reading >>= next) y h in
      let b = both reading next y p.rest in
      record {
        first = neither_first again (not (may_sense names.actions item.action)) p.none;
        may = not-false (may_sense names.actions item.action) (neither_second again (not (may_sense names.actions item.action)) p.none);
        args = b.value;
        read = b.one;
        is = ok-same (record { action = item.action; fluent = item.fluent; args = b.value; later = item.later }) y b.other;
      }

  pub fluent-get : (fluent : ℕ) (item : DraftFluent) → slice_get theory.fluents fluent ≡ Some item
      → slice_get agent.fluents fluent ≡ Some (fluent_item item)
  fluent-get fluent item e = slice_get-map fluent_item theory.fluents fluent ∙ ap (λ o. option_map fluent_item o) e

  pub fluent-long : (fluent : ℕ) (item : DraftFluent) (count : ℕ) → slice_get theory.fluents fluent ≡ Some item
      → option_map_or (λ arity. arity == count) (slice_get (signature theory).arities fluent) false ≡ true → length item.args ≡ count
  fluent-long fluent item count e h =
      let get : slice_get (signature theory).arities fluent ≡ Some (length item.args) =
      slice_get-map (λ (i : DraftFluent). length i.args) theory.fluents fluent
      ∙ ap (λ o. option_map (λ (i : DraftFluent). length i.args) o) e in
      eqb-true (length item.args) count (sym (ap (λ o. option_map_or (λ arity. arity == count) o false) get) ∙ h)

  pub fluent-some : (fluent count : ℕ) (o : Option DraftFluent) → slice_get theory.fluents fluent ≡ o
      → option_map_or (λ arity. arity == count) (slice_get (signature theory).arities fluent) false ≡ true
      → (item : DraftFluent) × (slice_get theory.fluents fluent ≡ Some item)
  fluent-some fluent count None e h =
      let get : slice_get (signature theory).arities fluent ≡ None =
      slice_get-map (λ (i : DraftFluent). length i.args) theory.fluents fluent
      ∙ ap (λ o. option_map (λ (i : DraftFluent). length i.args) o) e in
      let never : false ≡ true = sym (ap (λ (o : Option ℕ). option_map_or (λ arity. arity == count) o false) get) ∙ h in
      absurd (cc)
  fluent-some fluent count (Some item) e h = (item, e)

  -- what an action senses
  sense-at : (again : Bool) (item : DraftSense) (action : DraftAction) (fluent : DraftFluent) (y : SenseItem)
      → slice_get theory.actions item.action ≡ Some action → slice_get theory.fluents item.fluent ≡ Some fluent
      → length action.args ≡ length item.vars → length fluent.args ≡ length item.args
      → IsSense again item y → sense_fits agent y ≡ true
  sense-at again item action fluent y e f l m s =
      let get = action-get item.action action e in
      let got = fluent-get item.fluent fluent f in
      let kept = action-args theory keeps action (all-get (draft_action_keeps theory) theory.actions keeps.actions item.action action e) in
      let scope = action-scope action item.vars kept l in
      let short : length action.args ≤ 3 = few-of theory keeps action.args kept in
      let few : length (scope_of_vars item.vars action.args) ≤ 32 = omega (arith, scope.long, l, short) in
      let sorts : action_sorts names item.action ≡ action.args = ap (λ (o : Option ActionItem). option_map_or (λ (i : ActionItem). i.args) o []) get in
      let places : fluent_sorts names item.fluent ≡ fluent.args = ap (λ (o : Option FluentItem). option_map_or (λ (i : FluentItem). i.args) o []) got in
      let read : (args_in names (scope_of_vars item.vars action.args) fluent.args item.args).outcome ≡ Ok s.args =
      subst (λ ps. (args_in names (scope_of_vars item.vars action.args) ps item.args).outcome ≡ Ok s.args) places
      (subst (λ ss. (args_in names (scope_of_vars item.vars ss) (fluent_sorts names item.fluent) item.args).outcome ≡ Ok s.args) sorts s.read) in
      let fit = args-fit agent names has-items (bound_from 0 action.args) (scope_of_vars item.vars action.args) scope.binds few
      fluent.args item.args (sym m) s.args read in
      let may : (is_some action.device && is_empty action.posters) ≡ true =
      sym (ap (λ (o : Option ActionItem). option_map_or (λ (i : ActionItem). is_some i.device && is_empty i.posters) o false) get) ∙ s.may in
      let made : SenseItem = record { action = item.action; fluent = item.fluent; args = s.args; later = item.later } in
      ap (sense_fits agent) (sym s.is)
      ∙ ap (λ (o : Option ActionItem). option_map_or (λ a. option_map_or (sense_fits_for agent made a) (slice_get agent.fluents item.fluent) false) o false) get
      ∙ ap (λ (o : Option FluentItem). option_map_or (sense_fits_for agent made (action_item action)) o false) got
      ∙ and_both (is_some action.device && is_empty action.posters) _ may fit

  sense-by : (again : Bool) (item : DraftSense) (y : SenseItem) (o : Option DraftAction) → slice_get theory.actions item.action ≡ o
      → option_map_or (λ (action : DraftAction). length action.args == length item.vars && true) o false ≡ true
      → fluent_keeps (signature theory) item.fluent item.args ≡ true → IsSense again item y → sense_fits agent y ≡ true
  sense-by again item y None e h k s = absurd (cc)
  sense-by again item y (Some action) e h k s =
      let t = and_cases (length action.args == length item.vars) true h in
      let f = fluent-some item.fluent (length item.args) (slice_get theory.fluents item.fluent) refl k in
      sense-at again item action f.0 y e f.1 (eqb-true (length action.args) (length item.vars) t.0)
      (fluent-long item.fluent f.0 (length item.args) f.1 k) s

  pub senses : list_all (sense_fits agent) (agent_of theory program).senses ≡ true
  senses = senses-all names (sense_fits agent) (draft_sense_keeps theory) (λ again item h y e.
      let t = and_cases (draft_action_at theory item.action (length item.vars) (λ _. true)) (fluent_keeps (signature theory) item.fluent item.args) h in
      sense-by again item y (slice_get theory.actions item.action) refl t.0 t.1 (sense-is again item y e))
      [] theory.senses keeps.senses

  pub senses-distinct : IsDistinct nat_eq (map (λ (item : SenseItem). item.action) (agent_of theory program).senses)
  senses-distinct = senses-once names (λ again item y e.
      let s = sense-is again item y e in (s.first, ap (λ (i : SenseItem). i.action) (sym s.is))) [] theory.senses
