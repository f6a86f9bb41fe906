-- What a precondition and a start value keep.
use Rattle.std.proofs.Common.{◌≡◌, ℕ, ◌+◌, ◌<◌, suc, true, false, not, List, [], ◌∷◌, length, Ok, refl, sym, ap, ◌∙◌, arith}
use Rattle.std.proofs.lemmas.Option.{slice_get-get_or}
use Rattle.std.proofs.lemmas.List.Quantifiers.{position-Some}
use Rattle.std.specs.Prelude.{nat_le, nat_lt, slice_get, get_or}
use Rattle.std.specs.List.{IsDistinct}
use Rattle.golog_form.specs.declared.form.Form.{Form}
use Rattle.golog_tree.specs.declared.draft.DraftTheory.{DraftTheory}
use Rattle.golog_tree.specs.declared.draft.DraftFluent.{DraftFluent}
use Rattle.golog_tree.specs.declared.draft.DraftAction.{DraftAction}
use Rattle.golog_tree.specs.declared.draft.DraftPoss.{DraftPoss}
use Rattle.golog_tree.specs.declared.draft.DraftStart.{DraftStart}
use Rattle.golog_tree.specs.declared.draft.DraftStart.TheVariants.{One}
use Rattle.golog_tree.specs.declared.draft_cond.DraftCond.{DraftCond}
use Rattle.golog_tree.specs.declared.draft_cond.DraftArg.{DraftArg}
use Rattle.golog_theory.specs.declared.names.Actions.TheVariants as actions
use Rattle.golog_theory.specs.declared.heads.Called.{Called}
use Rattle.golog_theory.specs.declared.heads.Schema.{Schema}
use Rattle.golog_theory.specs.Reading.{Reading, gives, refused, row, each}
use Rattle.golog_theory.specs.Names.{same, action_no, fluent_no, fluent_arity, is_posted, is_of_program}
use Rattle.golog_theory.specs.Heads.{head_word, arguments, fluent_named, schema_of}
use Rattle.golog_theory.specs.Fluents.{constant_arg, constants_of, ground_of, start_value, is_started, is_started_again, start_item}
use Rattle.golog_theory.specs.Conditions.{cond_of}
use Rattle.golog_theory.specs.Effects.{has_poss, has_poss_at, is_restricted, poss_item}
use Rattle.golog_draft.specs.Drafts.{signature, fluent_keeps, draft_poss_keeps, draft_start_keeps}
use Rattle.golog_semantics.specs.Ways.{is_empty}
use Rattle.golog_semantics.specs.BuiltIn.{same_text}
use Rattle.golog_semantics.proofs.Words.{and-left, and-right}
use Rattle.golog_theory.proofs.Yields.{Yields, gives-yields, refused-yields, row-yields, then-yields, each-yields}
use Rattle.golog_theory.proofs.KeptOnce.{Fresh, fresh-one}
use Rattle.golog_theory.proofs.KeptTerms.{some_fluent, call-yields, fluent_keeps-from}
use Rattle.golog_theory.proofs.KeptConds.{Keeps, cond_of-yields}
use Rattle.golog_theory.proofs.KeptEffects.{some_action, SchemaFits, schema_of-yields, action_at-from}

-- a precondition that is the first of its action
pub record PossFits (theory : DraftTheory) (item : DraftPoss) : Type 0 where
  pub keeps : draft_poss_keeps theory item ≡ true
  pub first : has_poss theory.poss item.action ≡ false
  pub once : IsDistinct same_text item.vars

unposted : (posters : List ℕ) → not (nat_lt 0 (length posters)) ≡ true → is_empty posters ≡ true
unposted [] e = refl
unposted (p ∷ posters) e = absurd (wrong (length posters) e)
  where
    wrong : (n : ℕ) → not (nat_lt 0 (suc n)) ≡ true → ⊥
    wrong n e = grind arith

free_action : (theory : DraftTheory) (n : ℕ) → n < length theory.actions → not (is_posted (slice_get theory.actions n)) ≡ true
    → is_empty (get_or theory.actions n some_action).posters ≡ true
free_action theory n lt e =
    unposted (get_or theory.actions n some_action).posters (sym (ap (λ o. not (is_posted o)) (slice_get-get_or theory.actions n some_action lt)) ∙ e)

poss-keeps : (theory : DraftTheory) (f : Form) (s : Schema) (c : DraftCond) (at : ℕ) → SchemaFits theory actions.OfProgram f s → Keeps theory (length s.vars) c
    → draft_poss_keeps theory (record { action = s.action; vars = s.vars; cond = c; at = at }) ≡ true
unfolding is_of_program
poss-keeps theory f s c at fits k =
    let own = and-left (nat_le 2 s.action) (not (is_posted (slice_get theory.actions s.action))) fits.is_allowed in
    let free = and-right (nat_le 2 s.action) (not (is_posted (slice_get theory.actions s.action))) fits.is_allowed in
    rw (action_at-from theory s.action (length s.vars) (λ action. is_empty action.posters) fits.declared fits.count (free_action theory s.action fits.declared free), own, k) refl

pub poss_item-yields : (theory : DraftTheory) (at : ℕ) (fs : List Form) → Yields (PossFits theory) (poss_item theory at fs)
unfolding poss_item is_restricted
poss_item-yields theory at [] = refused-yields (PossFits theory) 20 at
poss_item-yields theory at (schema ∷ []) = refused-yields (PossFits theory) 20 at
poss_item-yields theory at (schema ∷ cond ∷ []) =
    row-yields _ (has_poss_at theory.poss (action_no theory (head_word schema))) (21, at) _ (λ new.
    then-yields _ _ (schema_of theory actions.OfProgram schema).outcome _ (schema_of-yields theory actions.OfProgram schema) (λ s fits.
    then-yields _ _ (cond_of theory cond (length s.vars)).outcome _ (cond_of-yields theory cond (length s.vars)) (λ c k.
    gives-yields (PossFits theory) (record { action = s.action; vars = s.vars; cond = c; at = at }) (record {
      keeps = poss-keeps theory schema s c at fits k;
      first = sym (ap (has_poss_at theory.poss) fits.named) ∙ new;
      once = fits.once;
    }))))
poss_item-yields theory at (schema ∷ cond ∷ other ∷ fs) = refused-yields (PossFits theory) 20 at

ground_of-yields : (theory : DraftTheory) (f : Form) → Yields (λ (c : Called). fluent_keeps (signature theory) c.item c.args ≡ true) (ground_of theory f)
unfolding ground_of fluent_named constants_of
ground_of-yields theory f =
    call-yields f (fluent_arity theory) (fluent_no theory (head_word f)) (each (λ (_ : List DraftArg). constant_arg theory) [] (arguments f))
    (λ args. Unit {0} × (length args ≡ 0 + length (arguments f))) (λ (c : Called). fluent_keeps (signature theory) c.item c.args ≡ true)
    (each-yields (λ _. Unit {0}) (λ (_ : List DraftArg). constant_arg theory) (λ before part held x e. tt) [] (arguments f) tt) (λ n args is all.
    fluent_keeps-from theory n args ((position-Some (λ (fluent : DraftFluent). same (head_word f) fluent.name) theory.fluents n some_fluent is.declared).0)
    (all.1 ∙ adds (length (arguments f)) ∙ is.count))
  where
    adds : (n : ℕ) → 0 + n ≡ n
    adds n = omega arith

-- a start value that is the first of its ground fluent
pub record StartFits (theory : DraftTheory) (start : DraftStart) : Type 0 where
  pub keeps : draft_start_keeps theory start ≡ true
  pub first : Fresh start theory.starts

pub start_item-yields : (theory : DraftTheory) (at : ℕ) (fs : List Form) → Yields (StartFits theory) (start_item theory at fs)
unfolding start_item is_started
start_item-yields theory at [] = refused-yields _ 20 at
start_item-yields theory at (fluent ∷ []) = refused-yields _ 20 at
start_item-yields theory at (fluent ∷ value ∷ []) =
    row-yields _ (is_started_again theory (ground_of theory fluent).outcome) (21, at) _ (λ new.
    then-yields (λ c. ((ground_of theory fluent).outcome ≡ Ok c) × (fluent_keeps (signature theory) c.item c.args ≡ true)) _ (ground_of theory fluent).outcome _ (λ c e. (e, ground_of-yields theory fluent c e)) (λ c known.
    then-yields (λ _. Unit {0}) _ (start_value theory value).outcome _ (λ x e. tt) (λ v _.
    gives-yields (StartFits theory) (One c.item c.args v at) (record {
      keeps = known.1;
      first = fresh-one theory.starts c.item c.args v at (sym (ap (is_started_again theory) known.0) ∙ new);
    }))))
start_item-yields theory at (fluent ∷ value ∷ other ∷ fs) = refused-yields _ 20 at

pub ruleset laws = (poss_item-yields, start_item-yields)
