-- Effects: a draft is taken for what it says, and says what it is taken for.
use Rattle.std.proofs.Common.{◌≡◌, ℕ, zero, suc, Bool, true, false, ◌&&◌, List, [], ◌∷◌, ◌++◌, length, map, Option, Result, Ok, Some, None, sym, ap, subst, ◌∙◌, eqb-true}
use Rattle.std.specs.Prelude.{◌==◌, slice_get, option_map, unwrap_or}
use Rattle.std.specs.Option.{option_map_or}
use Rattle.golog_tree.specs.declared.agent.Agent.{Agent}
use Rattle.golog_tree.specs.declared.agent.FluentItem.{FluentItem}
use Rattle.golog_tree.specs.declared.agent.ActionItem.{ActionItem}
use Rattle.golog_tree.specs.declared.agent.CauseItem.{CauseItem}
use Rattle.golog_tree.specs.declared.cond.Arg.{Arg}
use Rattle.golog_tree.specs.declared.cond.Term.{Term}
use Rattle.golog_tree.specs.declared.cond.Cond.{Cond}
use Rattle.golog_tree.specs.declared.draft.DraftTheory.{DraftTheory}
use Rattle.golog_tree.specs.declared.draft.DraftProgram.{DraftProgram}
use Rattle.golog_tree.specs.declared.draft.DraftAction.{DraftAction}
use Rattle.golog_tree.specs.declared.draft.DraftCause.{DraftCause}
use Rattle.golog_rows.specs.Reading.{Reading}
use Rattle.golog_rows.specs.Least.{CodeAt}
use Rattle.golog_semantics.specs.Fits.{bound_from, term_fits, cond_fits}
use Rattle.golog_semantics.specs.Written.{is_written_term, is_written_cond}
use Rattle.golog_semantics.specs.WellFormed.{head_sorts, effect_fits, cause_fits_for, cause_fits}
use Rattle.golog_semantics.proofs.Tests.{and_both, and_cases}
use Rattle.golog_draft.specs.Drafts.{Signature, TheoryKeeps, ProgramKeeps, signature, term_keeps, cond_keeps, fluent_keeps, draft_action_at, draft_cause_keeps, cause_vars}
use Rattle.golog_check.specs.declared.heads.Head.{Head}
use Rattle.golog_check.specs.DeclaredItems.{Declared, action_item}
use Rattle.golog_check.specs.Sorts.{fluent_sorts, action_sorts}
use Rattle.golog_check.specs.Terms.{term_in}
use Rattle.golog_check.specs.Conditions.{cond_in}
use Rattle.golog_check.specs.Starts.{own_sort}
use Rattle.golog_check.specs.Effects.{head_within, cause_in}
use Rattle.golog_check.specs.CheckLaws.{HasItems}
use Rattle.golog_check.specs.Check.{names_of}
use Rattle.golog_check.proofs.CauseParts.{cause_of, made, with_term, with_heads, fluent_head, with_action, action_head, cause-is}
use Rattle.golog_check.proofs.ArgLaws.{same-number}
use Rattle.golog_check.proofs.MadeActions.{same-signature}
use Rattle.golog_refusals.specs.Says.{term_says, cond_says}
use Rattle.golog_refusals.specs.SaysAgent.{scope_behind, head_says, action_scope, cause_scope, cause_says}
use Rattle.golog_refusals.proofs.Taking.{never, then-by}
use Rattle.golog_refusals.proofs.ArgsSaid.{arity}
use Rattle.golog_refusals.proofs.TermsSaid.{term-taken, term-said}
use Rattle.golog_refusals.proofs.CondsTaken.{cond-taken}
use Rattle.golog_refusals.proofs.CondsSaid.{cond-said}
use Rattle.golog_refusals.proofs.HeadsSaid.{head_of, head-taken, head-said}

cause-same : (item : DraftCause) (y : CauseItem) → y.action ≡ item.action → y.fluent ≡ item.fluent
    → ◌≡◌ {A = Result CauseItem CodeAt} (Ok (cause_of item y.action_args y.fluent_args y.term y.cond)) (Ok y)
cause-same item y e f =
    let made : ℕ → ℕ → Result CauseItem CodeAt = λ action fluent. Ok (record y { action = action; fluent = fluent }) in
    ap (λ n. made n item.fluent) (sym e) ∙ ap (λ n. made y.action n) (sym f)

-- as many sorts as arguments
action-arity : (items : List DraftAction) (action count : ℕ) (holds : DraftAction → Bool)
    → option_map_or (λ (item : DraftAction). length item.args == count && holds item) (slice_get items action) false
    ≡ true
    → count ≡ length (option_map_or (λ (item : ActionItem). item.args) (slice_get (map action_item items) action) [])
action-arity [] action count holds h = absurd (never h)
action-arity (x ∷ items) zero count holds h =
    sym (eqb-true (length x.args) count (and_cases (length x.args == count) (holds x) h).0)
action-arity (x ∷ items) (suc action) count holds h = action-arity items action count holds h

module _ (names : Declared) where
  -- what an effect is, by its term and its condition
  cause-by : (item : DraftCause) (y : CauseItem) → cause_says names item y ≡ true
      → (term_in names (cause_scope names item) (own_sort names item.fluent) item.term).outcome ≡ Ok y.term
      → (cond_in names item.cond (cause_scope names item)).outcome ≡ Ok y.cond → (cause_in names item).outcome ≡ Ok y
  unfolding cause_in
  cause-by item y says term cond =
      let sorts = fluent_sorts names item.fluent in
      let before = action_scope names item in
      let scope = cause_scope names item in
      let s = and_cases _ (cond_says names item.cond scope y.cond) says in
      let t = and_cases _ (term_says names scope item.term (own_sort names item.fluent) y.term) s.0 in
      let u = and_cases _ (head_says names before sorts item.fluent_args y.fluent_args) t.0 in
      let v = and_cases _ (head_says names [] (action_sorts names item.action) item.action_args y.action_args) u.0 in
      let w = and_cases (y.action == item.action) (y.fluent == item.fluent) v.0 in
      let first = head_of y.action_args before in
      let second = head_of y.fluent_args scope in
      then-by (action_head names item) (λ (a : Head). with_action names item a) first
      (head-taken names (action_sorts names item.action) item.action_args y.action_args (head_within []) v.1)
      ∙ then-by (fluent_head names item first) (λ (f : Head). with_heads names item first f) second
      (head-taken names sorts item.fluent_args y.fluent_args (head_within before) u.1)
      ∙ then-by (term_in names scope (own_sort names item.fluent) item.term)
      (λ (x : Term). with_term names item first second x) y.term term
      ∙ then-by (cond_in names item.cond scope) (λ (c : Cond). made names item first second y.term c) y.cond cond
      ∙ cause-same item y (eqb-true y.action item.action w.0) (eqb-true y.fluent item.fluent w.1)

  module _ (agent : Agent) (has : HasItems agent names) where
    -- an effect of the agent, within whichever variables its heads bind
    record Effect (y : CauseItem) (sort : ℕ) : Type 0 where
      vars : List ℕ
      term : term_fits agent y.term (bound_from 0 vars) sort ≡ true
      cond : cond_fits agent y.cond (bound_from 0 vars) ≡ true
      written : is_written_cond agent y.cond (length vars) ≡ true

    effect-by : (y : CauseItem) (sort : ℕ) (o : Option (List ℕ))
        → option_map_or (effect_fits agent y sort) o false ≡ true → Effect y sort
    effect-by y sort None fit = absurd (never fit)
    effect-by y sort (Some vars) fit =
        let t = and_cases _ (is_written_cond agent y.cond (length vars)) fit in
        let u = and_cases _ (is_written_term agent y.term) t.0 in
        let v = and_cases (term_fits agent y.term (bound_from 0 vars) sort)
        (cond_fits agent y.cond (bound_from 0 vars)) u.0 in
        record { vars = vars; term = v.0; cond = v.1; written = t.1 }

    effect-of : (y : CauseItem) (action : ActionItem) (o : Option FluentItem)
        → option_map_or (cause_fits_for agent y action) o false ≡ true
        → Effect y (unwrap_or (option_map (λ (item : FluentItem). item.sort) o) 0)
    effect-of y action None fit = absurd (never fit)
    effect-of y action (Some fluent) fit =
        effect-by y fluent.sort (head_sorts agent (action.args ++ fluent.args) (y.action_args ++ y.fluent_args) []) fit

    effect-at : (y : CauseItem) (o : Option ActionItem)
        → option_map_or
        (λ action. option_map_or (cause_fits_for agent y action) (slice_get agent.fluents y.fluent) false) o false
        ≡ true
        → Effect y (unwrap_or (option_map (λ (item : FluentItem). item.sort) (slice_get agent.fluents y.fluent)) 0)
    effect-at y None fit = absurd (never fit)
    effect-at y (Some action) fit = effect-of y action (slice_get agent.fluents y.fluent) fit

    pub cause-taken : (item : DraftCause) (y : CauseItem) → cause_fits agent y ≡ true → cause_says names item y ≡ true
        → (cause_in names item).outcome ≡ Ok y
    cause-taken item y fit says =
        let own = own_sort names item.fluent in
        let scope = cause_scope names item in
        let s = and_cases _ (cond_says names item.cond scope y.cond) says in
        let t = and_cases _ (term_says names scope item.term own y.term) s.0 in
        let w = and_cases _ _ (and_cases _ _ (and_cases _ _ t.0).0).0 in
        let fluent : y.fluent ≡ item.fluent = eqb-true y.fluent item.fluent w.1 in
        let e = effect-at y (slice_get agent.actions y.action) fit in
        let bound = bound_from 0 e.vars in
        let sort_of : List FluentItem → ℕ → ℕ =
        λ xs n. unwrap_or (option_map (λ (i : FluentItem). i.sort) (slice_get xs n)) 0 in
        let sort : sort_of agent.fluents y.fluent ≡ own =
        ap (sort_of agent.fluents) fluent ∙ ap (λ xs. sort_of xs item.fluent) has.fluents in
        cause-by item y says
        (term-taken agent names has bound scope item.term own y.term t.1
        (ap (term_fits agent y.term bound) (sym sort) ∙ e.term))
        (cond-taken agent names has item.cond bound scope (length e.vars) y.cond s.1 e.cond e.written)

module _ (theory : DraftTheory) (program : DraftProgram) (keeps : TheoryKeeps theory)
    (also : ProgramKeeps theory program) where
  abbrev names : Declared
  names = names_of theory program

  pub cause-said : (item : DraftCause) (y : CauseItem) → draft_cause_keeps theory item ≡ true
      → (cause_in (names_of theory program) item).outcome ≡ Ok y → cause_says (names_of theory program) item y ≡ true
  cause-said item y keep h =
      let signed = same-signature theory program keeps also in
      let count = length (cause_vars theory item) in
      let t = and_cases _ (cond_keeps (signature theory) item.cond count) keep in
      let u = and_cases _ (term_keeps (signature theory) item.term) t.0 in
      let v = and_cases (draft_action_at theory item.action (length item.action_args) (λ _. true))
      (fluent_keeps (signature theory) item.fluent item.fluent_args) u.0 in
      let before = action_sorts names item.action in
      let sorts = fluent_sorts names item.fluent in
      let own = own_sort names item.fluent in
      let c = cause-is names item y h in
      let one = head-said names before item.action_args (head_within []) c.action
      (action-arity theory.actions item.action (length item.action_args) (λ _. true) v.0) c.action_read in
      let two = head-said names sorts item.fluent_args (head_within c.action.scope) c.fluent
      (arity names item.fluent item.fluent_args
      (ap (λ (s : Signature). fluent_keeps s item.fluent item.fluent_args) signed ∙ v.1)) c.fluent_read in
      let scope : c.fluent.scope ≡ cause_scope names item =
      two.scope ∙ ap (λ outer. scope_behind names outer sorts item.fluent_args) one.scope in
      let term = term-said names c.fluent.scope item.term
      (ap (λ (s : Signature). term_keeps s item.term) signed ∙ u.1) own c.term c.term_read in
      let cond = cond-said names item.cond c.fluent.scope count
      (ap (λ (s : Signature). cond_keeps s item.cond count) signed ∙ t.1) c.cond c.cond_read in
      subst (λ (z : CauseItem). cause_says names item z ≡ true) c.is
      (and_both _ _ (and_both _ _ (and_both _ _ (and_both _ _
      (and_both _ _ (same-number item.action) (same-number item.fluent))
      (ap (head_says names [] before item.action_args) one.args ∙ one.said))
      (ap (head_says names (action_scope names item) sorts item.fluent_args) two.args
      ∙ ap (λ outer. head_says names outer sorts item.fluent_args two.added) (sym one.scope) ∙ two.said))
      (ap (λ inner. term_says names inner item.term own c.term) (sym scope) ∙ term))
      (ap (λ inner. cond_says names item.cond inner c.cond) (sym scope) ∙ cond))
