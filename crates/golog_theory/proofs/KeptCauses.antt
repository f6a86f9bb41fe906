-- An effect that was read keeps what it has to, also where more is declared: sorts stand before the words of
-- the effects behind them.
use Rattle.std.proofs.Common.{◌≡◌, ℕ, ◌+◌, ◌<◌, ◌≤◌, Bool, true, false, ◌&&◌, List, [], ◌∷◌, ◌++◌, length, refl, ap, subst, ◌∙◌, arith}
use Rattle.std.proofs.lemmas.List.Quantifiers.{position-Some}
use Rattle.std.specs.Prelude.{nat_le}
use Rattle.std.specs.List.{list_all, AllByRecursion}
use Rattle.golog_base.specs.Names.{is_name}
use Rattle.golog_form.specs.declared.form.Form.{Form}
use Rattle.golog_form.specs.Shape.{place_of}
use Rattle.golog_form.specs.Places.{IsInOrder}
use Rattle.golog_tree.specs.declared.draft.DraftTheory.{DraftTheory}
use Rattle.golog_tree.specs.declared.draft.DraftSort.{DraftSort}
use Rattle.golog_tree.specs.declared.draft.DraftFluent.{DraftFluent}
use Rattle.golog_tree.specs.declared.draft.DraftAction.{DraftAction}
use Rattle.golog_tree.specs.declared.draft.DraftCause.{DraftCause}
use Rattle.golog_tree.specs.declared.draft_cond.DraftArg.{DraftArg}
use Rattle.golog_tree.specs.declared.draft_cond.DraftArg.TheVariants.{Word, Number}
use Rattle.golog_tree.specs.declared.draft_cond.DraftCond.{DraftCond}
use Rattle.golog_tree.specs.declared.draft_cond.DraftCond.TheVariants.{Truth}
use Rattle.golog_theory.specs.declared.fluents.FluentItem.{FluentItem}
use Rattle.golog_theory.specs.declared.heads.Called.{Called}
use Rattle.golog_theory.specs.declared.effects.Effect.{Effect}
use Rattle.golog_theory.specs.Reading.{gives, refused, each}
use Rattle.golog_theory.specs.Names.{same, action_no, action_arity, fluent_no, fluent_arity}
use Rattle.golog_theory.specs.Parts.{word, short_name, number_of, arg_of}
use Rattle.golog_theory.specs.Heads.{head_word, arguments, args_of, fluent_named, action_named, fluent_called, action_called}
use Rattle.golog_theory.specs.Terms.{term_of}
use Rattle.golog_theory.specs.Conditions.{cond_of}
use Rattle.golog_theory.specs.Effects.{variable_count, effect_of, cause_of, causes_item}
use Rattle.golog_theory.specs.declared.keyword.ItemKeyword.{ItemKeyword}
use Rattle.golog_draft.specs.Drafts.{signature, fluent_keeps, term_keeps, cond_keeps, cause_vars, draft_action_at, draft_cause_keeps}
use Rattle.golog_theory.proofs.Yields.{Yields, gives-yields, refused-yields, row-yields, if-yields, then-yields}
use Rattle.golog_theory.proofs.Inside.{end_of, Between, stands, between-to, arguments-between}
use Rattle.golog_theory.proofs.Tables.{between-le}
use Rattle.golog_theory.proofs.Amid.{all-append, all-weaker}
use Rattle.golog_theory.proofs.CauseVars.{arg_place, AreFrom, AreBefore, SortsUpTo, count-read, vars-still}
use Rattle.golog_semantics.proofs.Tests.{and_more}
use Rattle.golog_theory.proofs.KeptTerms as terms
use Rattle.golog_theory.proofs.KeptConds as conds
use Rattle.golog_theory.proofs.KeptEffects.{some_action, action_at-from}
use Rattle.golog_theory.proofs.KeptStill.{term-still, cond-still}
use Rattle.golog_theory.proofs.Grown.{Grew, action_at-still, declares-more}

-- an argument within the form whose argument it is
abbrev IsWithin : ℕ → ℕ → DraftArg → Type 0
IsWithin from to arg = (from ≤ arg_place arg) × (arg_place arg < to)

abbrev AreWithin : ℕ → ℕ → List DraftArg → Type 0
AreWithin from to args = AllByRecursion (IsWithin from to) args

module _ (from to : ℕ) where
  arg_of-within : (f : Form) → from ≤ place_of f → place_of f < to → Yields (IsWithin from to) (arg_of f)
  unfolding arg_of
  arg_of-within f le lt =
      if-yields (IsWithin from to) (is_name (word f)) _ _
      (λ _. then-yields (λ _. Unit {0}) _ (short_name f).outcome _ (λ x e. tt) (λ name _. gives-yields (IsWithin from to) (Word name (place_of f)) (le, lt)))
      (λ _. then-yields (λ _. Unit {0}) _ (number_of f).outcome _ (λ x e. tt) (λ number _. gives-yields (IsWithin from to) (Number number (place_of f)) (le, lt)))

  each-within : (next : ℕ) (before : List DraftArg) (fs : List Form) → from ≤ next → Between next fs to → AreWithin from to before
      → Yields (AreWithin from to) (each (λ (_ : List DraftArg). arg_of) before fs)
  each-within next before [] le b held = gives-yields (AreWithin from to) before held
  each-within next before (f ∷ fs) le b held =
      let size = (stands f b.1).size in
      then-yields (IsWithin from to) (AreWithin from to) (arg_of f).outcome (λ x. each (λ (_ : List DraftArg). arg_of) (before ++ x ∷ []) fs)
      (arg_of-within f (omega (arith, le, b.0)) (omega (arith, size, between-le (end_of f) fs to b.2)))
      (λ x is. each-within (end_of f) (before ++ x ∷ []) fs (omega (arith, le, b.0, size)) b.2 (all-append (IsWithin from to) before (x ∷ []) held (is, tt)))

  args_of-within : (f : Form) → IsInOrder f → from ≤ place_of f → end_of f ≤ to → Yields (AreWithin from to) (args_of (arguments f))
  unfolding args_of
  args_of-within f order le le' =
      each-within (place_of f + 1) [] (arguments f) (omega (arith, le)) (between-to (place_of f + 1) (arguments f) (end_of f) to le' (arguments-between f order)) tt

  abbrev ArgsFit : Form → List DraftArg → Type 0
  ArgsFit f args = (length args ≡ length (arguments f)) × AreWithin from to args

  args_of-fits : (f : Form) → IsInOrder f → from ≤ place_of f → end_of f ≤ to → Yields (ArgsFit f) (args_of (arguments f))
  args_of-fits f order le le' args e = (terms.args_of-yields (arguments f) args e, args_of-within f order le le' args e)

  module _ (theory : DraftTheory) where
    -- a fluent or an action that is declared, with as many arguments, and where these stand
    record FluentFits (c : Called) : Type 0 where
      keeps : fluent_keeps (signature theory) c.item c.args ≡ true
      within : AreWithin from to c.args

    record ActionFits (c : Called) : Type 0 where
      keeps : draft_action_at theory c.item (length c.args) (λ _. true) ≡ true
      within : AreWithin from to c.args

    fluent_called-fits : (f : Form) → IsInOrder f → from ≤ place_of f → end_of f ≤ to → Yields FluentFits (fluent_called theory f)
    unfolding fluent_called fluent_named
    fluent_called-fits f order le le' =
        terms.call-yields f (fluent_arity theory) (fluent_no theory (head_word f)) (args_of (arguments f)) (ArgsFit f) FluentFits (args_of-fits f order le le') (λ n args is both. record {
          keeps = terms.fluent_keeps-from theory n args ((position-Some (λ (item : DraftFluent). same (head_word f) item.name) theory.fluents n terms.some_fluent is.declared).0) (both.0 ∙ is.count);
          within = both.1;
        })

    action_called-fits : (f : Form) → IsInOrder f → from ≤ place_of f → end_of f ≤ to → Yields ActionFits (action_called theory f)
    unfolding action_called action_named
    action_called-fits f order le le' =
        terms.call-yields f (action_arity theory) (action_no theory (head_word f)) (args_of (arguments f)) (ArgsFit f) ActionFits (args_of-fits f order le le') (λ n args is both. record {
          keeps = action_at-from theory n (length args) (λ _. true) ((position-Some (λ (action : DraftAction). same (head_word f) action.name) theory.actions n some_action is.declared).0) (both.0 ∙ is.count) refl;
          within = both.1;
        })

    record EffectFits (effect : Effect) : Type 0 where
      action : ActionFits effect.action
      fluent : FluentFits effect.fluent
      term : term_keeps (signature theory) effect.term ≡ true

    effect_of-fits : (action fluent term : Form) → IsInOrder action → IsInOrder fluent → from ≤ place_of action → end_of action ≤ place_of fluent → end_of fluent ≤ to
        → Yields EffectFits (effect_of theory action fluent term)
    unfolding effect_of
    effect_of-fits action fluent term order order' le between le' =
        let size = (stands action order).size in
        let size' = (stands fluent order').size in
        then-yields _ _ (action_called theory action).outcome _ (action_called-fits action order le (omega (arith, between, size', le'))) (λ action' of_action.
        then-yields _ _ (fluent_called theory fluent).outcome _ (fluent_called-fits fluent order' (omega (arith, le, size, between)) le') (λ fluent' of_fluent.
        then-yields _ _ (term_of theory term).outcome _ (terms.term_of-yields theory term) (λ term' of_term.
        gives-yields EffectFits (record { action = action'; fluent = fluent'; term = term' }) (record { action = of_action; fluent = of_fluent; term = of_term }))))

pub all_four : (a b c d : Bool) → a ≡ true → b ≡ true → c ≡ true → d ≡ true → (a && b && c && d) ≡ true
all_four a b c d e f g h = rw (e, f, g, h) refl

-- an effect of the theory, whose words stand before a place
pub record CauseFits (to : ℕ) (theory : DraftTheory) (item : DraftCause) : Type 0 where
  pub keeps : draft_cause_keeps theory item ≡ true
  pub before : AreBefore to (item.action_args ++ item.fluent_args)

module _ (from to : ℕ) (theory : DraftTheory) (early : SortsUpTo from theory.sorts) where
  ends : (args : List DraftArg) → AreWithin from to args → AreBefore to args
  ends args all = all-weaker (IsWithin from to) (λ arg. arg_place arg < to) args (λ arg is. is.1) all

  begins : (args : List DraftArg) → AreWithin from to args → AreFrom from args
  begins args all = all-weaker (IsWithin from to) (λ arg. from ≤ arg_place arg) args (λ arg is. is.0) all

  cause-fits : (at : ℕ) (effect : Effect) (cond : DraftCond) → EffectFits from to theory effect → cond_keeps (signature theory) cond (variable_count theory effect) ≡ true
      → CauseFits to theory (cause_of at effect cond)
  cause-fits at effect cond fits e = record {
    keeps = all_four _ _ _ _ fits.action.keeps fits.fluent.keeps fits.term
        (subst (λ n. cond_keeps (signature theory) cond n ≡ true)
        (count-read theory from early at effect cond (begins effect.action.args fits.action.within) (begins effect.fluent.args fits.fluent.within)) e);
    before = all-append (λ arg. arg_place arg < to) effect.action.args effect.fluent.args (ends effect.action.args fits.action.within) (ends effect.fluent.args fits.fluent.within);
  }

  abbrev Fits : DraftCause → Type 0
  Fits item = CauseFits to theory item × (length theory.causes < 1026)

  is_less : (n : ℕ) → nat_le 1026 n ≡ false → n < 1026
  is_less n e = grind arith

  pub causes_item-fits : (at : ℕ) (fs : List Form) → from ≤ at → Between (at + 1) fs to → Yields Fits (causes_item theory at fs)
  unfolding causes_item
  causes_item-fits at [] le b = refused-yields _ 20 at
  causes_item-fits at (action ∷ []) le b = refused-yields _ 20 at
  causes_item-fits at (action ∷ fluent ∷ []) le b = refused-yields _ 20 at
  causes_item-fits at (action ∷ fluent ∷ term ∷ []) le b =
      row-yields _ (nat_le 1026 (length theory.causes)) (25, at) _ (λ few.
      then-yields _ _ (effect_of theory action fluent term).outcome _
      (effect_of-fits from to theory action fluent term b.1 b.2.1 (omega (arith, le, b.0)) b.2.0 (between-le (end_of fluent) (term ∷ []) to b.2.2)) (λ effect fits.
      gives-yields Fits (cause_of at effect (Truth true at))
      (cause-fits at effect (Truth true at) fits (conds.keeps-Truth theory true at (variable_count theory effect)), is_less (length theory.causes) few)))
  causes_item-fits at (action ∷ fluent ∷ term ∷ cond ∷ []) le b =
      row-yields _ (nat_le 1026 (length theory.causes)) (25, at) _ (λ few.
      then-yields _ _ (effect_of theory action fluent term).outcome _
      (effect_of-fits from to theory action fluent term b.1 b.2.1 (omega (arith, le, b.0)) b.2.0 (between-le (end_of fluent) (term ∷ cond ∷ []) to b.2.2)) (λ effect fits.
      then-yields _ _ (cond_of theory cond (variable_count theory effect)).outcome _ (conds.cond_of-yields theory cond (variable_count theory effect)) (λ c is.
      gives-yields Fits (cause_of at effect c) (cause-fits at effect c fits is, is_less (length theory.causes) few))))
  causes_item-fits at (action ∷ fluent ∷ term ∷ cond ∷ other ∷ fs) le b = refused-yields _ 20 at

-- Where more is declared, and the same words are constants, effects keep what they have to.
module _ (from to : ℕ) (le : from ≤ to) (theory other : DraftTheory) (grew : Grew from theory other) where
  below : (n m k : ℕ) → n < m → m ≤ k → n < k
  below n m k a b = omega (arith, a, b)

  pub cause-still : (item : DraftCause) → CauseFits from theory item → CauseFits to other item
  cause-still item fits =
      let more = declares-more from theory other grew in
      let args = item.action_args ++ item.fluent_args in
      let action = draft_action_at theory item.action (length item.action_args) (λ _. true) in
      let action' = draft_action_at other item.action (length item.action_args) (λ _. true) in
      let fluent = fluent_keeps (signature theory) item.fluent item.fluent_args in
      let fluent' = fluent_keeps (signature other) item.fluent item.fluent_args in
      let term = term_keeps (signature theory) item.term in
      let term' = term_keeps (signature other) item.term in
      let vars : length (cause_vars theory item) ≡ length (cause_vars other item) = ap (λ vars. length vars) (vars-still theory other from grew.constants [] args fits.before) in
      let cond = cond_keeps (signature theory) item.cond (length (cause_vars theory item)) in
      let cond' = cond_keeps (signature other) item.cond (length (cause_vars other item)) in
      record {
        keeps = and_more (action && fluent && term) (action' && fluent' && term') cond cond'
            (and_more (action && fluent) (action' && fluent') term term'
            (and_more action action' fluent fluent' (action_at-still from theory other grew item.action (length item.action_args) (λ _. true)) (more.fluents item.fluent item.fluent_args))
            (term-still theory other more item.term))
            (λ e. subst (λ n. cond_keeps (signature other) item.cond n ≡ true) vars (cond-still theory other more item.cond (length (cause_vars theory item)) e))
            fits.keeps;
        before = all-weaker (λ arg. arg_place arg < from) (λ arg. arg_place arg < to) args (λ arg lt. below (arg_place arg) from to lt le) fits.before;
      }

pub all-keep : (to : ℕ) (theory : DraftTheory) (items : List DraftCause) → AllByRecursion (CauseFits to theory) items → list_all (draft_cause_keeps theory) items ≡ true
all-keep to theory [] all = refl
all-keep to theory (item ∷ items) all = rw (all.0.keeps, all-keep to theory items all.1) refl

pub ruleset laws = (causes_item-fits, all-keep)
