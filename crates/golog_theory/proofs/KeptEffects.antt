-- What the items on actions and start values keep.
use Rattle.std.proofs.Common.{◌≡◌, ℕ, ◌+◌, ◌<◌, Bool, true, false, not, ◌&&◌, ◌||◌, ◌==◌, List, [], ◌∷◌, ◌++◌, length, Option, Some, None, refl, sym, ap, subst, ◌∙◌, arith}
use Rattle.std.proofs.lemmas.Option.{slice_get-get_or}
use Rattle.std.proofs.lemmas.List.Quantifiers.{position-Some}
use Rattle.std.proofs.lemmas.Map.Keys.{IsDistinct-push}
use Rattle.std.proofs.lemmas.Cmp.{nat_list_eq_equiv}
use Rattle.std.specs.Prelude.{if◌then◌else◌, nat_lt, slice_get, get_or, codes}
use Rattle.std.specs.List.{list_any, IsDistinct}
use Rattle.std.specs.Option.{option_map_or}
use Rattle.golog_base.specs.Names.{is_name}
use Rattle.golog_form.specs.declared.form.Form.{Form}
use Rattle.golog_form.specs.Shape.{place_of}
use Rattle.golog_tree.specs.declared.draft.DraftTheory.{DraftTheory}
use Rattle.golog_tree.specs.declared.draft.DraftFluent.{DraftFluent}
use Rattle.golog_tree.specs.declared.draft.DraftAction.{DraftAction}
use Rattle.golog_tree.specs.declared.draft.DraftPoss.{DraftPoss}
use Rattle.golog_tree.specs.declared.draft.DraftSense.{DraftSense}
use Rattle.golog_tree.specs.declared.draft_cond.DraftCond.{DraftCond}
use Rattle.golog_tree.specs.declared.draft_cond.DraftArg.{DraftArg}
use Rattle.golog_theory.specs.declared.names.Actions.{Actions}
use Rattle.golog_theory.specs.declared.names.Actions.TheVariants as actions
use Rattle.golog_theory.specs.declared.heads.Called.{Called}
use Rattle.golog_theory.specs.declared.heads.Schema.{Schema}
use Rattle.golog_theory.specs.Reading.{Reading, gives, refused, row, found, each}
use Rattle.golog_theory.specs.Names.{same, action_no, action_arity, action_args, allows, is_constant}
use Rattle.golog_theory.specs.Parts.{word, short_name}
use Rattle.golog_theory.specs.Heads.{head_word, arguments, called, allowed, allowed_action, var_of, schema_of, fluent_called}
use Rattle.golog_theory.specs.Effects.{sense_of, senses_item}
use Rattle.golog_draft.specs.Drafts.{draft_action_at, draft_sense_keeps}
use Rattle.golog_semantics.specs.BuiltIn.{same_text}
use Rattle.golog_theory.proofs.Yields.{Yields, gives-yields, refused-yields, row-yields, then-yields, each-yields}
use Rattle.golog_theory.proofs.KeptTerms.{called-yields, fluent_called-yields, equals}

abbrev pub some_action : DraftAction
some_action = record { name = []; args = []; device = None; posters = []; at = 0 }

-- an action that is declared and allowed, and different words for its arguments
pub record SchemaFits (theory : DraftTheory) (which : Actions) (f : Form) (schema : Schema) : Type 0 where
  pub named : action_no theory (head_word f) ≡ Some schema.action
  pub declared : schema.action < length theory.actions
  pub is_allowed : allows theory which schema.action ≡ true
  pub count : length schema.vars ≡ action_arity theory schema.action
  pub once : IsDistinct same_text schema.vars

pub is_allowed-from : (theory : DraftTheory) (which : Actions) (o : Option ℕ) (n : ℕ) → allowed theory which o ≡ Some n → (o ≡ Some n) × (allows theory which n ≡ true)
is_allowed-from theory which None n e = absurd cc
is_allowed-from theory which (Some m) n e = chosen (allows theory which m) refl e
  where
    chosen : (b : Bool) → allows theory which m ≡ b → (if b then Some m else None) ≡ Some n → (Some m ≡ Some n) × (allows theory which n ≡ true)
    chosen true is e = (e, subst (λ o. allows theory which (from o) ≡ true) e is)
      where
        from : Option ℕ → ℕ
        from None = 0
        from (Some x) = x
    chosen false is e = absurd cc

var_of-yields : (theory : DraftTheory) (before : List (List ℕ)) (f : Form) → IsDistinct same_text before
    → Yields (λ name. IsDistinct same_text (before ++ name ∷ [])) (var_of theory before f)
unfolding var_of short_name
var_of-yields theory before f distinct =
    row-yields _ (not (is_name (word f)) || is_constant theory (word f)) (20, place_of f) _ (λ _.
    row-yields _ (list_any (same (word f)) before) (21, place_of f) _ (λ new.
    row-yields _ (nat_lt 31 (length (word f))) (25, place_of f) _ (λ _.
    gives-yields (λ name. IsDistinct same_text (before ++ name ∷ [])) (word f) (IsDistinct-push nat_list_eq_equiv before (word f) distinct new))))

pub schema_of-yields : (theory : DraftTheory) (which : Actions) (f : Form) → Yields (SchemaFits theory which f) (schema_of theory which f)
unfolding schema_of allowed_action IsDistinct
schema_of-yields theory which f =
    then-yields _ _ (called f (allowed_action theory which (head_word f))).outcome _
    (called-yields f (action_arity theory) (allowed theory which (action_no theory (head_word f)))) (λ n is.
    then-yields (λ vars. IsDistinct same_text vars × (length vars ≡ 0 + length (arguments f))) _ (each (var_of theory) [] (arguments f)).outcome _
    (each-yields (IsDistinct same_text) (var_of theory) (λ before part held. var_of-yields theory before part held) [] (arguments f) tt) (λ vars all.
    let found = is_allowed-from theory which (action_no theory (head_word f)) n is.declared in
    gives-yields (SchemaFits theory which f) (record { action = n; vars = vars }) (record {
      named = found.0;
      declared = (position-Some (λ (action : DraftAction). same (head_word f) action.name) theory.actions n some_action found.0).0;
      is_allowed = found.1;
      count = all.1 ∙ adds (length (arguments f)) ∙ is.count;
      once = all.0;
    })))
  where
    adds : (n : ℕ) → 0 + n ≡ n
    adds n = omega arith

-- an action with as many arguments
pub action_at-from : (theory : DraftTheory) (n count : ℕ) (holds : DraftAction → Bool) → n < length theory.actions → count ≡ action_arity theory n
    → holds (get_or theory.actions n some_action) ≡ true → draft_action_at theory n count holds ≡ true
action_at-from theory n count holds lt same is =
    let here = slice_get-get_or theory.actions n some_action lt in
    let counts : count ≡ length (get_or theory.actions n some_action).args = same ∙ ap action_args here in
    ap (λ o. option_map_or (λ (item : DraftAction). (length item.args == count) && holds item) o false) here
    ∙ rw (equals (length (get_or theory.actions n some_action).args) count (sym counts), is) refl

pub record SenseFits (theory : DraftTheory) (item : DraftSense) : Type 0 where
  pub keeps : draft_sense_keeps theory item ≡ true
  pub once : IsDistinct same_text item.vars

sense_of-yields : (theory : DraftTheory) (at : ℕ) (later : Bool) (schema fluent : Form) → Yields (SenseFits theory) (sense_of theory at later schema fluent)
sense_of-yields theory at later schema fluent =
    then-yields _ _ (schema_of theory actions.All schema).outcome _ (schema_of-yields theory actions.All schema) (λ s fits.
    then-yields _ _ (fluent_called theory fluent).outcome _ (fluent_called-yields theory fluent) (λ c k.
    gives-yields (SenseFits theory) (record { action = s.action; vars = s.vars; fluent = c.item; args = c.args; later = later; at = at }) (record {
      keeps = rw (action_at-from theory s.action (length s.vars) (λ _. true) fits.declared fits.count refl, k) refl;
      once = fits.once;
    })))

pub senses_item-yields : (theory : DraftTheory) (at : ℕ) (fs : List Form) → Yields (SenseFits theory) (senses_item theory at fs)
unfolding senses_item
senses_item-yields theory at [] = refused-yields (SenseFits theory) 20 at
senses_item-yields theory at (schema ∷ []) = refused-yields (SenseFits theory) 20 at
senses_item-yields theory at (schema ∷ fluent ∷ []) = sense_of-yields theory at false schema fluent
senses_item-yields theory at (schema ∷ fluent ∷ late ∷ []) =
    row-yields _ (not (same (word late) (codes "later"))) (20, at) _ (λ _. sense_of-yields theory at true schema fluent)
senses_item-yields theory at (schema ∷ fluent ∷ late ∷ other ∷ fs) = refused-yields (SenseFits theory) 20 at

pub ruleset laws = (schema_of-yields, senses_item-yields)
