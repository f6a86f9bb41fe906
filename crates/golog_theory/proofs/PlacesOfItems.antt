-- The places in an item ascend, and a fluent and an action have the place of their item.
use Rattle.std.proofs.Common.{ℕ, ◌+◌, ◌<◌, ◌≤◌, Bool, true, false, not, List, [], ◌∷◌, ◌++◌, length, None, sym, subst, arith}
use Rattle.std.specs.Prelude.{nat_le, codes}
use Rattle.golog_form.specs.declared.form.Form.{Form}
use Rattle.golog_form.specs.Shape.{place_of}
use Rattle.golog_tree.specs.declared.draft.DraftTheory.{DraftTheory}
use Rattle.golog_tree.specs.declared.draft.DraftFluent.{DraftFluent}
use Rattle.golog_tree.specs.declared.draft.DraftStart.{DraftStart}
use Rattle.golog_tree.specs.declared.draft.DraftStart.TheVariants.{One}
use Rattle.golog_tree.specs.declared.draft.DraftAction.{DraftAction}
use Rattle.golog_tree.specs.declared.draft.DraftPoss.{DraftPoss}
use Rattle.golog_tree.specs.declared.draft.DraftCause.{DraftCause}
use Rattle.golog_tree.specs.declared.draft.DraftSense.{DraftSense}
use Rattle.golog_tree.specs.declared.draft_cond.DraftCond.TheVariants.{Truth}
use Rattle.golog_draft.specs.DraftPlaces.{arg_places, term_places, cond_places, value_places, start_places, poss_places, cause_places, sense_places}
use Rattle.golog_draft.specs.DraftOrder.{Ascend, IsAscending}
use Rattle.golog_theory.specs.declared.names.Actions.TheVariants.{OfProgram, All}
use Rattle.golog_theory.specs.declared.fluents.FluentItem.{FluentItem}
use Rattle.golog_theory.specs.declared.effects.Effect.{Effect}
use Rattle.golog_theory.specs.Names.{same}
use Rattle.golog_theory.specs.Parts.{word}
use Rattle.golog_theory.specs.Heads.{head_word, fluent_called, action_called, schema_of}
use Rattle.golog_theory.specs.Fluents.{start_value, fluent_of, fluent_item, ground_of, is_started_again, start_item}
use Rattle.golog_theory.specs.Terms.{term_of}
use Rattle.golog_theory.specs.Conditions.{cond_of}
use Rattle.golog_theory.specs.Effects.{is_restricted, poss_item, variable_count, effect_of, cause_of, causes_item, sense_of, senses_item}
use Rattle.golog_theory.proofs.Inside.{end_of, Between, stands}
use Rattle.golog_theory.proofs.Yields.{Yields, gives-yields, refused-yields, row-yields, then-yields}
use Rattle.golog_theory.proofs.Ascend.{ascend-low, ascend-append, is_ascending}
use Rattle.golog_theory.proofs.PlacesOfTerms.{called_places, outside, fluent_called-ascend, action_called-ascend, start_value-ascend, ground_of-ascend, term_of-ascend}
use Rattle.golog_theory.proofs.PlacesOfConds.{places-Truth, cond_of-ascend}

-- places in a form, and then those behind it
behind : (f : Form) (ones others : List ℕ) (from to : ℕ) → from ≤ place_of f → Ascend (place_of f) ones (end_of f) → Ascend (end_of f) others to
    → Ascend from (ones ++ others) to
behind f ones others from to le a b =
    ascend-append from (end_of f) to ones others (ascend-low from (place_of f) (end_of f) ones le a) b

module _ (theory : DraftTheory) where
  abbrev pub ValueAscends : FluentItem → Type 0
  ValueAscends item = IsAscending (value_places item.value)

  pub fluent_item-ascend : (at : ℕ) (fs : List Form) (from to : ℕ) → Between from fs to → Yields ValueAscends (fluent_item theory at fs)
  unfolding fluent_item
  fluent_item-ascend at [] from to b = refused-yields ValueAscends 20 at
  fluent_item-ascend at (name ∷ []) from to b = refused-yields ValueAscends 20 at
  fluent_item-ascend at (name ∷ sorts ∷ []) from to b = refused-yields ValueAscends 20 at
  fluent_item-ascend at (name ∷ sorts ∷ sort ∷ []) from to b =
      then-yields (λ _. Unit {0}) _ (fluent_of theory at name sorts sort).outcome _ (λ x e. tt) (λ fluent _.
      gives-yields ValueAscends (record { fluent = fluent; value = None }) (is_ascending 0 [] 0 (omega arith)))
  fluent_item-ascend at (name ∷ sorts ∷ sort ∷ value ∷ []) from to b =
      then-yields (λ _. Unit {0}) _ (fluent_of theory at name sorts sort).outcome _ (λ x e. tt) (λ fluent _.
      then-yields _ _ (start_value theory value).outcome _ (start_value-ascend theory value b.2.2.2.1) (λ v a.
      gives-yields ValueAscends (record { fluent = fluent; value = v }) (is_ascending (place_of value) (value_places v) (end_of value) a)))
  fluent_item-ascend at (name ∷ sorts ∷ sort ∷ value ∷ other ∷ fs) from to b = refused-yields ValueAscends 20 at

  abbrev StartAscends : DraftStart → Type 0
  StartAscends item = IsAscending (start_places item)

  pub start_item-ascend : (at : ℕ) (fs : List Form) (from to : ℕ) → Between from fs to → Yields StartAscends (start_item theory at fs)
  unfolding start_item
  start_item-ascend at [] from to b = refused-yields StartAscends 20 at
  start_item-ascend at (fluent ∷ []) from to b = refused-yields StartAscends 20 at
  start_item-ascend at (fluent ∷ value ∷ []) from to b =
      row-yields _ (is_started_again theory (ground_of theory fluent).outcome) (21, at) _ (λ _.
      then-yields _ _ (ground_of theory fluent).outcome _ (outside called_places fluent (ground_of theory fluent) (ground_of-ascend theory fluent b.1)) (λ c is.
      then-yields _ _ (start_value theory value).outcome _ (start_value-ascend theory value b.2.1) (λ v is'.
      gives-yields StartAscends (One c.item c.args v at)
      (is_ascending from (arg_places c.args ++ value_places v) (end_of value)
      (behind fluent (arg_places c.args) (value_places v) from (end_of value) b.0 is (ascend-low (end_of fluent) (place_of value) (end_of value) (value_places v) b.2.0 is'))))))
  start_item-ascend at (fluent ∷ value ∷ other ∷ fs) from to b = refused-yields StartAscends 20 at

  abbrev PossAscends : DraftPoss → Type 0
  PossAscends item = IsAscending (poss_places item)

  pub poss_item-ascend : (at : ℕ) (fs : List Form) (from to : ℕ) → Between from fs to → Yields PossAscends (poss_item theory at fs)
  unfolding poss_item
  poss_item-ascend at [] from to b = refused-yields PossAscends 20 at
  poss_item-ascend at (schema ∷ []) from to b = refused-yields PossAscends 20 at
  poss_item-ascend at (schema ∷ cond ∷ []) from to b =
      row-yields _ (is_restricted theory (head_word schema)) (21, at) _ (λ _.
      then-yields (λ _. Unit {0}) _ (schema_of theory OfProgram schema).outcome _ (λ x e. tt) (λ s _.
      then-yields _ _ (cond_of theory cond (length s.vars)).outcome _ (cond_of-ascend theory cond b.2.1 (length s.vars)) (λ c is.
      gives-yields PossAscends (record { action = s.action; vars = s.vars; cond = c; at = at }) (is_ascending (place_of cond) (cond_places c) (end_of cond) is))))
  poss_item-ascend at (schema ∷ cond ∷ other ∷ fs) from to b = refused-yields PossAscends 20 at

  -- an effect, and places behind it
  abbrev effect_places : Effect → List ℕ → List ℕ
  effect_places effect others =
      arg_places effect.action.args ++ (arg_places effect.fluent.args ++ (term_places effect.term ++ others))

  abbrev EffectAscends : ℕ → ℕ → Effect → Type 0
  EffectAscends from to effect = (others : List ℕ) (later : ℕ) → Ascend to others later → Ascend from (effect_places effect others) later

  effect_of-ascend : (action fluent term : Form) (fs : List Form) (from to : ℕ) → Between from (action ∷ fluent ∷ term ∷ fs) to
      → Yields (EffectAscends from (end_of term)) (effect_of theory action fluent term)
  unfolding effect_of
  effect_of-ascend action fluent term fs from to b =
      then-yields _ _ (action_called theory action).outcome _ (outside called_places action (action_called theory action) (action_called-ascend theory action b.1)) (λ a is.
      then-yields _ _ (fluent_called theory fluent).outcome _ (outside called_places fluent (fluent_called theory fluent) (fluent_called-ascend theory fluent b.2.1)) (λ c is'.
      then-yields _ _ (term_of theory term).outcome _ (term_of-ascend theory term b.2.2.1) (λ t is''.
      gives-yields (EffectAscends from (end_of term)) (record { action = a; fluent = c; term = t }) (λ others later more.
      behind action (arg_places a.args) _ from later b.0 is
      (behind fluent (arg_places c.args) _ (end_of action) later b.2.0 is'
      (behind term (term_places t) others (end_of fluent) later b.2.2.0 is'' more))))))

  abbrev CauseAscends : DraftCause → Type 0
  CauseAscends item = IsAscending (cause_places item)

  pub causes_item-ascend : (at : ℕ) (fs : List Form) (from to : ℕ) → Between from fs to → Yields CauseAscends (causes_item theory at fs)
  unfolding causes_item
  causes_item-ascend at [] from to b = refused-yields CauseAscends 20 at
  causes_item-ascend at (action ∷ []) from to b = refused-yields CauseAscends 20 at
  causes_item-ascend at (action ∷ fluent ∷ []) from to b = refused-yields CauseAscends 20 at
  causes_item-ascend at (action ∷ fluent ∷ term ∷ []) from to b =
      row-yields _ (nat_le 1026 (length theory.causes)) (25, at) _ (λ _.
      then-yields _ _ (effect_of theory action fluent term).outcome _ (effect_of-ascend action fluent term [] from to b) (λ effect is.
      gives-yields CauseAscends (cause_of at effect (Truth true at))
      (is_ascending from (cause_places (cause_of at effect (Truth true at))) (end_of term)
      (is (cond_places (Truth true at)) (end_of term) (subst (λ places. Ascend (end_of term) places (end_of term)) (sym (places-Truth true at)) (omega arith))))))
  causes_item-ascend at (action ∷ fluent ∷ term ∷ cond ∷ []) from to b =
      row-yields _ (nat_le 1026 (length theory.causes)) (25, at) _ (λ _.
      then-yields _ _ (effect_of theory action fluent term).outcome _ (effect_of-ascend action fluent term (cond ∷ []) from to b) (λ effect is.
      then-yields _ _ (cond_of theory cond (variable_count theory effect)).outcome _ (cond_of-ascend theory cond b.2.2.2.1 (variable_count theory effect)) (λ c is'.
      gives-yields CauseAscends (cause_of at effect c)
      (is_ascending from (cause_places (cause_of at effect c)) (end_of cond)
      (is (cond_places c) (end_of cond) (ascend-low (end_of term) (place_of cond) (end_of cond) (cond_places c) b.2.2.2.0 is'))))))
  causes_item-ascend at (action ∷ fluent ∷ term ∷ cond ∷ other ∷ fs) from to b = refused-yields CauseAscends 20 at

  abbrev SenseAscends : DraftSense → Type 0
  SenseAscends item = IsAscending (sense_places item)

  sense_of-ascend : (at : ℕ) (later : Bool) (schema fluent : Form) (fs : List Form) (from to : ℕ) → at < from → Between from (schema ∷ fluent ∷ fs) to
      → Yields SenseAscends (sense_of theory at later schema fluent)
  sense_of-ascend at later schema fluent fs from to lt b =
      then-yields (λ _. Unit {0}) _ (schema_of theory All schema).outcome _ (λ x e. tt) (λ s _.
      then-yields _ _ (fluent_called theory fluent).outcome _ (fluent_called-ascend theory fluent b.2.1) (λ c is.
      gives-yields SenseAscends (record { action = s.action; vars = s.vars; fluent = c.item; args = c.args; later = later; at = at })
      (is_ascending at (at ∷ arg_places c.args) (end_of fluent) (
        omega arith,
        ascend-low (at + 1) (place_of fluent + 1) (end_of fluent) (arg_places c.args) (omega (arith, lt, b.0, b.2.0, (stands schema b.1).size)) is,
      ))))

  pub senses_item-ascend : (at : ℕ) (fs : List Form) (from to : ℕ) → at < from → Between from fs to → Yields SenseAscends (senses_item theory at fs)
  unfolding senses_item
  senses_item-ascend at [] from to lt b = refused-yields SenseAscends 20 at
  senses_item-ascend at (schema ∷ []) from to lt b = refused-yields SenseAscends 20 at
  senses_item-ascend at (schema ∷ fluent ∷ []) from to lt b = sense_of-ascend at false schema fluent [] from to lt b
  senses_item-ascend at (schema ∷ fluent ∷ late ∷ []) from to lt b =
      row-yields _ (not (same (word late) (codes "later"))) (20, at) _ (λ _. sense_of-ascend at true schema fluent (late ∷ []) from to lt b)
  senses_item-ascend at (schema ∷ fluent ∷ late ∷ other ∷ fs) from to lt b = refused-yields SenseAscends 20 at

pub ruleset laws = (fluent_item-ascend, senses_item-ascend)
