-- A cause of a well-formed agent, put into the values of all ground fluents.
use Rattle.std.proofs.Common.{◌≡◌, ℕ, zero, suc, ◌+◌, ◌-◌, ◌<◌, ◌≤◌, ◌⊎◌, inl, inr, Bool, true, false, ◌==◌, ◌&&◌, if◌then◌else◌, Option, Some, None, List, [], ◌∷◌, ◌++◌, length, length-append, take, drop, refl, sym, ap, ◌∙◌, subst, arith, zero-add}
use Rattle.std.specs.Prelude.{nat_lt, slice_get, slice_index, sum_by, option_and_then}
use Rattle.std.specs.Option.{option_map_or}
use Rattle.std.proofs.lemmas.Bool.{cases_lt, eqb-true, eqb-false, eq-eqb}
use Rattle.std.proofs.lemmas.List.{length-map}
use Rattle.std.proofs.lemmas.Option.{slice_get_within}
use Rattle.golog_tree.specs.declared.agent.Agent.{Agent}
use Rattle.golog_tree.specs.declared.agent.ActionItem.{ActionItem}
use Rattle.golog_tree.specs.declared.agent.FluentItem.{FluentItem}
use Rattle.golog_tree.specs.declared.agent.CauseItem.{CauseItem}
use Rattle.golog_tree.specs.declared.cond.Arg.{Arg}
use Rattle.golog_tree.specs.declared.cond.Arg.TheVariants.{Const, Var}
use Rattle.golog_tree.specs.Ground.{AreWithin, Ground, action_args, args_at, args_of, fluent_args, ground_fluents, place_of, product, sizes, sort_size}
use Rattle.golog_tree.proofs.Decoded.{args_at-get_or}
use Rattle.golog_tree.proofs.Numbers.{get-at-place}
use Rattle.golog_tree.proofs.Places.{place-below, args_of-place_of}
use Rattle.golog_semantics.specs.Truth.{Values}
use Rattle.golog_semantics.specs.Values.{matched_values, cause_for, value_caused}
use Rattle.golog_semantics.specs.Fits.{bound_from, cond_fits, term_fits}
use Rattle.golog_semantics.specs.Written.{is_written_term, is_written_cond}
use Rattle.golog_semantics.specs.WellFormed.{WellFormed, head_sorts, effect_fits, cause_fits_for, cause_fits}
use Rattle.golog_semantics.proofs.Words.{and-left, and-right}
use Rattle.golog_semantics.proofs.ActionNames.{args_at-map}
use Rattle.golog_semantics.proofs.GroundNumbers.{some-same, stands}
use Rattle.golog_semantics.proofs.CausesKeep.{Has, has, chosen-some}
use Rattle.golog_progress.specs.Effects.{effect_of, HeadFits, IsSpread, ArePlaces, IsAffected}
use Rattle.golog_semantics.proofs.CausesKeep.{within-length}
use Rattle.golog_progress.proofs.Placed.{args-of-item, fluent_of}
use Rattle.golog_progress.proofs.Bound.{matched-split, bind}

pub take-parts : {A : Type 0} (n k m : ℕ) (xs : List A) → n + k ≡ m → m ≤ length xs → take n xs ++ take k (drop n xs) ≡ take m xs
take-parts zero k m xs e l = let same : k ≡ m = omega arith in ap (λ j. take j xs) same
take-parts (suc n) k m [] e l = absurd (omega arith)
take-parts (suc n) k zero (x ∷ xs) e l = absurd (omega arith)
take-parts (suc n) k (suc m) (x ∷ xs) e l = ap (λ ys. x ∷ ys) (take-parts n k m xs (omega arith) (omega arith))

module _ (agent : Agent) where
  head-length : (ss : List ℕ) (xs : List Arg) (found all : List ℕ) → head_sorts agent ss xs found ≡ Some all → length xs ≡ length ss
  head-length [] [] found all h = refl
  head-length [] (x ∷ xs) found all h = absurd (cc)
  head-length (s ∷ ss) [] found all h = absurd (cc)
  head-length (s ∷ ss) (Const c ∷ xs) found all h = ap suc (head-length ss xs found all (chosen-some (nat_lt c (sort_size agent s)) (head_sorts agent ss xs found) all h))
  head-length (s ∷ ss) (Var x ∷ xs) found all h = go (x == length found) h (head-length ss xs (found ++ s ∷ []) all) (head-length ss xs found all)
    where
      go : (b : Bool) → (if b then head_sorts agent ss xs (found ++ s ∷ []) else (if option_map_or (λ own. own == s) (slice_get found x) false then head_sorts agent ss xs found else None)) ≡ Some all
          → (head_sorts agent ss xs (found ++ s ∷ []) ≡ Some all → length xs ≡ length ss) → (head_sorts agent ss xs found ≡ Some all → length xs ≡ length ss)
          → suc (length xs) ≡ suc (length ss)
      go true k new old = ap suc (new k)
      go false k new old = ap suc (old (chosen-some (option_map_or (λ own. own == s) (slice_get found x) false) (head_sorts agent ss xs found) all k))

  -- the action and the fluent of a cause, and its head
  pub record CauseIs (cause : CauseItem) : Type 0 where
    pub action : ActionItem
    pub action_is : slice_get agent.actions cause.action ≡ Some action
    pub fluent : FluentItem
    pub fluent_is : slice_get agent.fluents cause.fluent ≡ Some fluent
    pub inside : cause.fluent < length agent.fluents
    pub few_given : length action.args ≤ 3
    pub few_free : length fluent.args ≤ 3
    pub even : length (cause.action_args ++ cause.fluent_args) ≡ length action.args + length fluent.args
    pub head : HeadFits agent cause (action.args ++ fluent.args) (cause.action_args ++ cause.fluent_args) []

  pub cause_is : (cause : CauseItem) → WellFormed agent → cause_fits agent cause ≡ true → CauseIs cause
  cause_is cause fits ok = record {
    action = a.item;
    action_is = a.is;
    fluent = b.item;
    fluent_is = b.is;
    inside = inside;
    few_given = few_given;
    few_free = few_free;
    even = even;
    head = record {
      sort = b.item.sort;
      bound = [];
      all = c.item;
      few = omega (arith, even, few_given, few_free);
      within = tt;
      head = c.is;
      term = and-left term_test cond_test (and-left (term_test && cond_test) written (and-left (term_test && cond_test && written) last c.passes));
      cond = and-right term_test cond_test (and-left (term_test && cond_test) written (and-left (term_test && cond_test && written) last c.passes));
    };
  }
    where
      a : Has (λ action. option_map_or (cause_fits_for agent cause action) (slice_get agent.fluents cause.fluent) false) (slice_get agent.actions cause.action)
      a = has (λ action. option_map_or (cause_fits_for agent cause action) (slice_get agent.fluents cause.fluent) false) (slice_get agent.actions cause.action) ok

      b : Has (cause_fits_for agent cause a.item) (slice_get agent.fluents cause.fluent)
      b = has (cause_fits_for agent cause a.item) (slice_get agent.fluents cause.fluent) a.passes

      c : Has (effect_fits agent cause b.item.sort) (head_sorts agent (a.item.args ++ b.item.args) (cause.action_args ++ cause.fluent_args) [])
      c = has (effect_fits agent cause b.item.sort) (head_sorts agent (a.item.args ++ b.item.args) (cause.action_args ++ cause.fluent_args) []) b.passes

      term_test : Bool
      term_test = term_fits agent cause.term (bound_from 0 c.item) b.item.sort

      cond_test : Bool
      cond_test = cond_fits agent cause.cond (bound_from 0 c.item)

      written : Bool
      written = is_written_term agent cause.term

      last : Bool
      last = is_written_cond agent cause.cond (length c.item)

      inside : cause.fluent < length agent.fluents
      inside = slice_get_within agent.fluents cause.fluent _ b.is

      within_actions : cause.action < length (action_args agent)
      within_actions = subst (λ n. cause.action < n) (sym (length-map agent.actions (λ f. f.args))) (slice_get_within agent.actions cause.action _ a.is)

      few_given : length a.item.args ≤ 3
      few_given = subst (λ xs. length xs ≤ 3) (sym (args_at-get_or (action_args agent) cause.action) ∙ args_at-map agent.actions cause.action a.item a.is) (fits.countable.action_arities cause.action [] within_actions)

      few_free : length b.item.args ≤ 3
      few_free = (fluent_of agent fits cause.fluent b.item inside b.is).few

      even : length (cause.action_args ++ cause.fluent_args) ≡ length a.item.args + length b.item.args
      even = head-length (a.item.args ++ b.item.args) (cause.action_args ++ cause.fluent_args) [] c.item c.is ∙ length-append a.item.args b.item.args

  pub args_even : (cause : CauseItem) (fits : WellFormed agent) (ok : cause_fits agent cause ≡ true) (args : List ℕ) → AreWithin (sizes agent (args_at (action_args agent) cause.action)) args
      → length (cause_is cause fits ok).action.args ≡ length args
  args_even cause fits ok args within =
      let is = cause_is cause fits ok in
      within-length agent is.action.args args (subst (λ ss. AreWithin (sizes agent ss) args) (args_at-map agent.actions cause.action is.action is.action_is) within)

  module _ (cause : CauseItem) (fits : WellFormed agent) (ok : cause_fits agent cause ≡ true) (args : List ℕ) (within : AreWithin (sizes agent (args_at (action_args agent) cause.action)) args)
      (given free : List Arg) (split : given ++ free ≡ cause.action_args ++ cause.fluent_args) (even : length given ≡ length args) where
    abbrev is : CauseIs cause
    is = cause_is cause fits ok

    within_action : AreWithin (sizes agent is.action.args) args
    within_action = subst (λ ss. AreWithin (sizes agent ss) args) (args_at-map agent.actions cause.action is.action is.action_is) within

    pub given_few : length given ≤ 3
    given_few = omega (arith, even, within-length agent is.action.args args within_action, is.few_given)

    pub head_after : (found : List ℕ) → matched_values given args [] ≡ Some found → HeadFits agent cause is.fluent.args free found
    head_after found m =
        bind agent cause is.fluent.args free is.action.args given args [] found (even ∙ sym (within-length agent is.action.args args within_action)) within_action m
        (subst (λ xs. HeadFits agent cause (is.action.args ++ is.fluent.args) xs []) (sym split) is.head)

    pub item_is : (item : FluentItem) → slice_get agent.fluents cause.fluent ≡ Some item → item.args ≡ is.fluent.args
    item_is item e = ap (λ (i : FluentItem). i.args) (some-same item is.fluent (sym e ∙ is.fluent_is))

    -- what the cause says of a fluent
    same-test : (fluent : ℕ) → (cause.action == cause.action && cause.fluent == fluent) ≡ (cause.fluent == fluent)
    same-test fluent = ap (λ b. b && cause.fluent == fluent) (eq-eqb cause.action cause.action refl)

    says : (fluent : ℕ) (at : List ℕ) → cause_for cause (cause.action, args) (fluent, at) ≡ (if cause.fluent == fluent then option_and_then (λ f. matched_values free at f) (matched_values given args []) else None)
    says fluent at =
        ap (λ b. if b then matched_values (cause.action_args ++ cause.fluent_args) (args ++ at) [] else None) (same-test fluent)
        ∙ ap (λ o. if cause.fluent == fluent then o else None)
        (ap (λ xs. matched_values xs (args ++ at) []) (sym split) ∙ matched-split given free args at [] even)

    module _ (values old : Values) where
      pub unaffected : matched_values given args [] ≡ None → IsAffected agent values cause (cause.action, args) old old
      unaffected m = record { changed = λ f fluent e. sym (ap (λ o. value_caused agent values cause o (slice_index old f)) (none fluent.0 fluent.1)) }
        where
          none : (fluent : ℕ) (at : List ℕ) → cause_for cause (cause.action, args) (fluent, at) ≡ None
          none fluent at = says fluent at ∙ ap (λ o. if cause.fluent == fluent then option_and_then (λ f. matched_values free at f) o else None) m ∙ both (cause.fluent == fluent) None refl
            where
              both : (b : Bool) (o : Option (List ℕ)) → o ≡ None → (if b then o else None) ≡ None
              both true o e = e
              both false o e = refl

      module _ (new : Values) (found : List ℕ) (m : matched_values given args [] ≡ Some found) (first count : ℕ) (places : ArePlaces agent cause.fluent first count)
          (spread : IsSpread (effect_of agent values cause) (sizes agent is.fluent.args) free found first old new) where
        abbrev ns : List ℕ
        ns = sizes agent is.fluent.args

        sorts-are : args_at (fluent_args agent) cause.fluent ≡ is.fluent.args
        sorts-are = args-of-item agent.fluents cause.fluent is.fluent is.fluent_is

        abbrev Goal : ℕ → Ground → Type 0
        Goal f fluent = slice_index new f ≡ value_caused agent values cause (cause_for cause (cause.action, args) fluent) (slice_index old f)

        said : (fluent : ℕ) (at : List ℕ) (b : Bool) → (cause.fluent == fluent) ≡ b → cause_for cause (cause.action, args) (fluent, at) ≡ (if b then matched_values free at found else None)
        said fluent at b e = says fluent at ∙ ap (λ o. if cause.fluent == fluent then option_and_then (λ f. matched_values free at f) o else None) m ∙ ap (λ t. if t then matched_values free at found else None) e

        -- a ground fluent of the cause's fluent
        here : (f fluent : ℕ) (at : List ℕ) → slice_get (ground_fluents agent) f ≡ Some (fluent, at) → (cause.fluent == fluent) ≡ true → Goal f (fluent, at)
        here f fluent at e t =
            let s = stands agent (fluent_args agent) 0 f fluent at e in
            let same : s.at ≡ cause.fluent = sym (s.is ∙ zero-add s.at) ∙ sym (eqb-true cause.fluent fluent t) in
            let w : AreWithin ns at = subst (λ ss. AreWithin (sizes agent ss) at) (ap (args_at (fluent_args agent)) same ∙ sorts-are) s.within in
            let number : first + place_of ns at ≡ f =
            ap (λ n. n + place_of ns at) places.first_is
            ∙ ap (λ i. sum_by (λ ss. product (sizes agent ss)) (take i (fluent_args agent)) + place_of ns at) (sym same)
            ∙ ap (λ ss. sum_by (λ ss. product (sizes agent ss)) (take s.at (fluent_args agent)) + place_of (sizes agent ss) at) (sym (ap (args_at (fluent_args agent)) same ∙ sorts-are))
            ∙ s.number in
            let put : slice_index new f ≡ value_caused agent values cause (matched_values free (args_of ns (place_of ns at)) found) (slice_index old f) =
            subst (λ n. slice_index new n ≡ value_caused agent values cause (matched_values free (args_of ns (place_of ns at)) found) (slice_index old n)) number (spread.inside (place_of ns at) (place-below ns at w)) in
            put ∙ ap (λ xs. value_caused agent values cause (matched_values free xs found) (slice_index old f)) (args_of-place_of ns at w)
            ∙ ap (λ o. value_caused agent values cause o (slice_index old f)) (sym (said fluent at true t))

        -- a number of the cause's fluent names it
        ours : (f fluent : ℕ) (at : List ℕ) → slice_get (ground_fluents agent) f ≡ Some (fluent, at) → first ≤ f → f < first + count → cause.fluent ≡ fluent
        ours f fluent at e low high =
            let inside : cause.fluent < length (fluent_args agent) = subst (λ n. cause.fluent < n) (sym (length-map agent.fluents (λ f. f.args))) is.inside in
            let below : f - first < product (sizes agent (args_at (fluent_args agent) cause.fluent)) = omega (arith, places.count_is, low, high) in
            let there : sum_by (λ ss. product (sizes agent ss)) (take cause.fluent (fluent_args agent)) + (f - first) ≡ f = omega (arith, places.first_is, low) in
            let named = get-at-place agent (fluent_args agent) 0 cause.fluent (f - first) inside below in
            let both : (0 + cause.fluent, args_of (sizes agent (args_at (fluent_args agent) cause.fluent)) (f - first)) ≡ (fluent, at) = some-same _ _ (sym named ∙ ap (slice_get (ground_fluents agent)) there ∙ e) in
            sym (zero-add cause.fluent) ∙ ap (λ (g : Ground). g.0) both

        beside : (f fluent : ℕ) (at : List ℕ) → slice_get (ground_fluents agent) f ≡ Some (fluent, at) → (cause.fluent ≡ fluent → ⊥) → (f < first) ⊎ (first + product ns ≤ f)
        beside f fluent at e other =
            let whole : count ≡ product ns = places.count_is ∙ ap (λ ss. product (sizes agent ss)) sorts-are in
            elim (cases_lt f first) [
              | inl h ↦ inl h
              | inr h ↦ elim (cases_lt f (first + count)) [ inl k ↦ absurd (other (ours f fluent at e h k)) | inr k ↦ inr (subst (λ n. first + n ≤ f) whole k) ]
            ]

        away : (f fluent : ℕ) (at : List ℕ) → slice_get (ground_fluents agent) f ≡ Some (fluent, at) → (cause.fluent == fluent) ≡ false → Goal f (fluent, at)
        away f fluent at e t =
            spread.outside f (beside f fluent at e (eqb-false cause.fluent fluent t))
            ∙ ap (λ o. value_caused agent values cause o (slice_index old f)) (sym (said fluent at false t))

        at-each : (f fluent : ℕ) (at : List ℕ) → slice_get (ground_fluents agent) f ≡ Some (fluent, at) → (b : Bool) → (cause.fluent == fluent) ≡ b → Goal f (fluent, at)
        at-each f fluent at e true t = here f fluent at e t
        at-each f fluent at e false t = away f fluent at e t

        pub affected : IsAffected agent values cause (cause.action, args) old new
        affected = record { changed = λ f fluent e. at-each f fluent.0 fluent.1 e (cause.fluent == fluent.0) refl }
