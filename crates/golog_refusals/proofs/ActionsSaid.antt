-- Preconditions and what actions sense: a draft is taken for what it says, and says what it is taken for.
use Rattle.std.proofs.Common.{◌≡◌, ℕ, Bool, true, false, not, ◌&&◌, ◌||◌, List, [], ◌∷◌, ◌++◌, length, map, Option, Result, Ok, Some, None, refl, sym, ap, subst, ◌∙◌, eqb-true}
use Rattle.std.specs.Prelude.{◌==◌, nat_eq, slice_get, is_some}
use Rattle.std.specs.List.{list_all, IsDistinct, AllByRecursion}
use Rattle.std.specs.Option.{option_map_or}
use Rattle.std.proofs.lemmas.List.Folds.{list_any-append}
use Rattle.golog_tree.specs.declared.agent.Agent.{Agent}
use Rattle.golog_tree.specs.declared.agent.FluentItem.{FluentItem}
use Rattle.golog_tree.specs.declared.agent.ActionItem.{ActionItem}
use Rattle.golog_tree.specs.declared.agent.PossItem.{PossItem}
use Rattle.golog_tree.specs.declared.agent.SenseItem.{SenseItem}
use Rattle.golog_tree.specs.declared.cond.Arg.{Arg}
use Rattle.golog_tree.specs.declared.cond.Cond.{Cond}
use Rattle.golog_tree.specs.declared.draft.DraftTheory.{DraftTheory}
use Rattle.golog_tree.specs.declared.draft.DraftProgram.{DraftProgram}
use Rattle.golog_tree.specs.declared.draft.DraftPoss.{DraftPoss}
use Rattle.golog_tree.specs.declared.draft.DraftSense.{DraftSense}
use Rattle.golog_rows.specs.Reading.{Reading, gives, ◌>>=◌}
use Rattle.golog_rows.specs.Least.{CodeAt}
use Rattle.golog_semantics.specs.Ways.{is_empty}
use Rattle.golog_semantics.specs.Fits.{bound_from, args_fit, cond_fits}
use Rattle.golog_semantics.specs.Written.{is_written_cond}
use Rattle.golog_semantics.specs.WellFormed.{is_plain_action, poss_fits, poss_fits_for, sense_fits, sense_fits_for}
use Rattle.golog_semantics.proofs.Tests.{and_both, and_cases}
use Rattle.golog_draft.specs.Drafts.{Signature, TheoryKeeps, ProgramKeeps, signature, cond_keeps, fluent_keeps, draft_action_at, draft_poss_keeps, draft_sense_keeps}
use Rattle.golog_check.specs.Codes.{SENSE_CLASH}
use Rattle.golog_check.specs.DeclaredItems.{Declared}
use Rattle.golog_check.specs.Sorts.{fluent_sorts, action_sorts}
use Rattle.golog_check.specs.Scope.{scope_of_vars}
use Rattle.golog_check.specs.Terms.{args_in}
use Rattle.golog_check.specs.Conditions.{cond_in}
use Rattle.golog_check.specs.Effects.{may_sense, is_sensed, poss_in, sense_by, senses_in}
use Rattle.golog_check.specs.Least.{refusals, given}
use Rattle.golog_check.specs.CheckLaws.{HasItems}
use Rattle.golog_check.specs.Check.{names_of}
use Rattle.golog_check.proofs.Readings.{both, past, ok-same}
use Rattle.golog_check.proofs.ArgLaws.{same-number}
use Rattle.golog_check.proofs.MadeActions.{same-signature}
use Rattle.golog_refusals.specs.Says.{args_say, cond_says}
use Rattle.golog_refusals.specs.SaysAgent.{AreSaid, same_truth, poss_says, sense_says}
use Rattle.golog_refusals.proofs.Taking.{never, past-by, then-by}
use Rattle.golog_refusals.proofs.ArgsSaid.{args-taken, args-said, arity}
use Rattle.golog_refusals.proofs.CondsTaken.{cond-taken}
use Rattle.golog_refusals.proofs.CondsSaid.{cond-said}
use Rattle.golog_refusals.proofs.ItemsSaid.{Give, one-more, one-said}

abbrev poss_of : ℕ → Cond → PossItem
poss_of action cond = record { action = action; cond = cond }

abbrev sense_of : ℕ → ℕ → Bool → List Arg → SenseItem
sense_of action fluent later args = record { action = action; fluent = fluent; args = args; later = later }

poss-same : (y : PossItem) (action : ℕ) → y.action ≡ action
    → ◌≡◌ {A = Result PossItem CodeAt} (Ok (poss_of action y.cond)) (Ok y)
poss-same y action e = ap {B = Result PossItem CodeAt} (λ n. Ok (poss_of n y.cond)) (sym e)

sense-same : (y : SenseItem) (action fluent : ℕ) (later : Bool) → y.action ≡ action → y.fluent ≡ fluent → y.later ≡ later
    → ◌≡◌ {A = Result SenseItem CodeAt} (Ok (sense_of action fluent later y.args)) (Ok y)
sense-same y action fluent later e f l =
    ap {B = Result SenseItem CodeAt} (λ n. Ok (sense_of n fluent later y.args)) (sym e)
    ∙ ap {B = Result SenseItem CodeAt} (λ n. Ok (sense_of y.action n later y.args)) (sym f)
    ∙ ap {B = Result SenseItem CodeAt} (λ b. Ok (sense_of y.action y.fluent b y.args)) (sym l)

-- a truth is the same as itself alone
truth-same : (one other : Bool) → same_truth one other ≡ true → one ≡ other
truth-same true true t = refl
truth-same true false t = absurd (cc)
truth-same false true t = absurd (cc)
truth-same false false t = refl

same-truth : (b : Bool) → same_truth b b ≡ true
same-truth true = refl
same-truth false = refl

-- no item senses anything
unsensed : (ns : List ℕ) → AllByRecursion (λ n. is_sensed [] n ≡ false) ns
unsensed [] = tt
unsensed (n ∷ ns) = (refl, unsensed ns)

-- what items so far sense, and one more
sensed-more : (before : List DraftSense) (item : DraftSense) (ns : List ℕ)
    → AllByRecursion (λ n. is_sensed before n ≡ false) ns → AllByRecursion (λ n. nat_eq item.action n ≡ false) ns
    → AllByRecursion (λ n. is_sensed (before ++ item ∷ []) n ≡ false) ns
sensed-more before item [] h k = tt
sensed-more before item (n ∷ ns) h k = (
  list_any-append (λ (i : DraftSense). i.action == n) before (item ∷ [])
      ∙ ap (λ b. b || (item.action == n || false)) h.0 ∙ ap (λ b. b || false) k.0,
  sensed-more before item ns h.1 k.1,
)

module _ (agent : Agent) (names : Declared) (has : HasItems agent names) where
  poss-by : (item : DraftPoss) (y : PossItem) (o : Option ActionItem)
      → option_map_or (poss_fits_for agent y) o false ≡ true
      → cond_says names item.cond (scope_of_vars item.vars (action_sorts names item.action)) y.cond ≡ true
      → (cond_in names item.cond (scope_of_vars item.vars (action_sorts names item.action))).outcome ≡ Ok y.cond
  poss-by item y None fit says = absurd (never fit)
  poss-by item y (Some action) fit says =
      let bound = bound_from 0 action.args in
      let t = and_cases _ (is_written_cond agent y.cond (length action.args)) fit in
      let u = and_cases (is_plain_action agent y.action action) (cond_fits agent y.cond bound) t.0 in
      cond-taken agent names has item.cond bound (scope_of_vars item.vars (action_sorts names item.action))
      (length action.args) y.cond says u.1 t.1

  -- the precondition of an action of the agent
  pub poss-taken : (item : DraftPoss) (y : PossItem) → poss_fits agent y ≡ true → poss_says names item y ≡ true
      → (poss_in names item).outcome ≡ Ok y
  unfolding poss_in
  poss-taken item y fit says =
      let scope = scope_of_vars item.vars (action_sorts names item.action) in
      let s = and_cases (y.action == item.action) (cond_says names item.cond scope y.cond) says in
      then-by (cond_in names item.cond scope) (λ (c : Cond). gives (poss_of item.action c)) y.cond
      (poss-by item y (slice_get agent.actions y.action) fit s.1)
      ∙ poss-same y item.action (eqb-true y.action item.action s.0)

  module _ (same : agent.actions ≡ names.actions) where
    may-sense : (y : SenseItem) → sense_fits agent y ≡ true → may_sense agent.actions y.action ≡ true
    may-sense y h = by (slice_get agent.actions y.action) h
      where
        first : (a : ActionItem) (o : Option FluentItem) → option_map_or (sense_fits_for agent y a) o false ≡ true
            → (is_some a.device && is_empty a.posters) ≡ true
        first a None k = absurd (never k)
        first a (Some f) k =
            (and_cases (is_some a.device && is_empty a.posters)
            (args_fit agent (bound_from 0 a.args) f.args y.args) k).0

        by : (o : Option ActionItem)
            → option_map_or
            (λ a. option_map_or (sense_fits_for agent y a) (slice_get agent.fluents y.fluent) false) o false ≡ true
            → option_map_or (λ (a : ActionItem). is_some a.device && is_empty a.posters) o false ≡ true
        by None k = k
        by (Some a) k = first a (slice_get agent.fluents y.fluent) k

    -- what an action of the agent senses, where no item before tells it
    sense-taken : (again : Bool) (item : DraftSense) (y : SenseItem) → again ≡ false → sense_fits agent y ≡ true
        → sense_says names item y ≡ true → (sense_by names again item).outcome ≡ Ok y
    unfolding sense_by
    sense-taken again item y once fit says =
        let scope = scope_of_vars item.vars (action_sorts names item.action) in
        let sorts = fluent_sorts names item.fluent in
        let next : List Arg → Reading SenseItem = λ args. gives (sense_of item.action item.fluent item.later args) in
        let t = and_cases _ (args_say names scope sorts item.args y.args) says in
        let v = and_cases _ (same_truth y.later item.later) t.0 in
        let u = and_cases (y.action == item.action) (y.fluent == item.fluent) v.0 in
        let action : y.action ≡ item.action = eqb-true y.action item.action u.0 in
        let may : may_sense names.actions item.action ≡ true =
        ap (may_sense names.actions) (sym action)
        ∙ ap (λ (xs : List ActionItem). may_sense xs y.action) (sym same) ∙ may-sense y fit in
        let clear : (again || not (may_sense names.actions item.action)) ≡ false =
        ap (λ b. b || not (may_sense names.actions item.action)) once ∙ ap not may in
        past-by (again || not (may_sense names.actions item.action)) SENSE_CLASH item.at
        (args_in names scope sorts item.args >>= next) clear
        ∙ then-by (args_in names scope sorts item.args) next y.args (args-taken names scope sorts item.args y.args t.1)
        ∙ sense-same y item.action item.fluent item.later action (eqb-true y.fluent item.fluent u.1)
        (truth-same y.later item.later v.1)

    taken-from : (before items : List DraftSense) (ys : List SenseItem) → list_all (sense_fits agent) ys ≡ true
        → AreSaid (sense_says names) items ys → IsDistinct nat_eq (map (λ (y : SenseItem). y.action) ys)
        → AllByRecursion (λ n. is_sensed before n ≡ false) (map (λ (y : SenseItem). y.action) ys)
        → Give (senses_in names before items) ys
    unfolding IsDistinct
    taken-from before [] [] fit says once away = (refl, refl)
    taken-from before [] (y ∷ ys) fit says once away = absurd says
    taken-from before (item ∷ items) [] fit says once away = absurd says
    taken-from before (item ∷ items) (y ∷ ys) fit says once away =
        let f = and_cases (sense_fits agent y) (list_all (sense_fits agent) ys) fit in
        let scope = scope_of_vars item.vars (action_sorts names item.action) in
        let t = and_cases _ (args_say names scope (fluent_sorts names item.fluent) item.args y.args) says.0 in
        let u = and_cases _ (same_truth y.later item.later) t.0 in
        let action : y.action ≡ item.action =
        eqb-true y.action item.action (and_cases (y.action == item.action) (y.fluent == item.fluent) u.0).0 in
        let actions = map (λ (z : SenseItem). z.action) ys in
        one-more (sense_by names (is_sensed before item.action) item) (senses_in names (before ++ item ∷ []) items) y ys
        (sense-taken (is_sensed before item.action) item y (ap (is_sensed before) (sym action) ∙ away.0) f.0 says.0)
        (taken-from (before ++ item ∷ []) items ys f.1 says.1 once.1
        (sensed-more before item actions away.1
        (subst (λ n. AllByRecursion (λ m. nat_eq n m ≡ false) actions) action once.0)))

    -- each action senses once, so that each item is taken
    pub senses-taken : (items : List DraftSense) (ys : List SenseItem) → list_all (sense_fits agent) ys ≡ true
        → AreSaid (sense_says names) items ys → IsDistinct nat_eq (map (λ (y : SenseItem). y.action) ys)
        → Give (senses_in names [] items) ys
    senses-taken items ys fit says once =
        taken-from [] items ys fit says once (unsensed (map (λ (y : SenseItem). y.action) ys))

module _ (theory : DraftTheory) (program : DraftProgram) (keeps : TheoryKeeps theory)
    (also : ProgramKeeps theory program) where
  abbrev names : Declared
  names = names_of theory program

  pub poss-said : (item : DraftPoss) (y : PossItem) → draft_poss_keeps theory item ≡ true
      → (poss_in (names_of theory program) item).outcome ≡ Ok y → poss_says (names_of theory program) item y ≡ true
  unfolding poss_in
  poss-said item y keep h =
      let scope = scope_of_vars item.vars (action_sorts names item.action) in
      let k = and_cases _ (cond_keeps (signature theory) item.cond (length item.vars)) keep in
      let b = both (cond_in names item.cond scope) (λ (c : Cond). gives (poss_of item.action c)) y h in
      subst (λ (z : PossItem). poss_says names item z ≡ true) (ok-same (poss_of item.action b.value) y b.other)
      (and_both _ _ (same-number item.action)
      (cond-said names item.cond scope (length item.vars)
      (ap (λ (s : Signature). cond_keeps s item.cond (length item.vars)) (same-signature theory program keeps also)
      ∙ k.1) b.value b.one))

  sense-said : (again : Bool) (item : DraftSense) (y : SenseItem) → draft_sense_keeps theory item ≡ true
      → (sense_by (names_of theory program) again item).outcome ≡ Ok y
      → sense_says (names_of theory program) item y ≡ true
  unfolding sense_by
  sense-said again item y keep h =
      let scope = scope_of_vars item.vars (action_sorts names item.action) in
      let sorts = fluent_sorts names item.fluent in
      let next : List Arg → Reading SenseItem = λ args. gives (sense_of item.action item.fluent item.later args) in
      let k = and_cases (draft_action_at theory item.action (length item.vars) (λ _. true))
      (fluent_keeps (signature theory) item.fluent item.args) keep in
      let long = arity names item.fluent item.args
      (ap (λ (s : Signature). fluent_keeps s item.fluent item.args) (same-signature theory program keeps also) ∙ k.1) in
      let p = past (again || not (may_sense names.actions item.action)) SENSE_CLASH item.at
      (args_in names scope sorts item.args >>= next) y h in
      let b = both (args_in names scope sorts item.args) next y p.rest in
      subst (λ (z : SenseItem). sense_says names item z ≡ true)
      (ok-same (sense_of item.action item.fluent item.later b.value) y b.other)
      (and_both _ _ (and_both _ _ (and_both _ _ (same-number item.action) (same-number item.fluent)) (same-truth item.later))
      (args-said names scope sorts item.args b.value long b.one))

  pub senses-said : (before items : List DraftSense) → list_all (draft_sense_keeps theory) items ≡ true
      → refusals (senses_in (names_of theory program) before items) ≡ []
      → AreSaid (sense_says (names_of theory program)) items (given (senses_in (names_of theory program) before items))
  senses-said before [] keep none = tt
  senses-said before (item ∷ items) keep none =
      let k = and_cases (draft_sense_keeps theory item) (list_all (draft_sense_keeps theory) items) keep in
      let behind = senses_in names (before ++ item ∷ []) items in
      one-said (sense_says names) item (sense_by names (is_sensed before item.action) item).outcome (refusals behind)
      items (given behind) (λ y e. sense-said (is_sensed before item.action) item y k.0 e)
      (senses-said (before ++ item ∷ []) items k.1) none
