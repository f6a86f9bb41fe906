-- What touches no fluent of a condition leaves it as it is when it is taken back.
use Rattle.std.proofs.Common.{◌≡◌, ℕ, ◌<◌, length, Bool, true, false, ◌&&◌, ◌||◌, ◌==◌, if◌then◌else◌, Some, List, [], ◌∷◌, ◌++◌, map, refl, sym, ap, ◌∙◌, subst}
use Rattle.std.specs.Prelude.{slice_get}
use Rattle.std.specs.List.{list_any}
use Rattle.std.proofs.lemmas.Bool.{eqb-true, eq-eqb}
use Rattle.golog_tree.specs.declared.agent.Agent.{Agent}
use Rattle.golog_tree.specs.declared.agent.CauseItem.{CauseItem}
use Rattle.golog_tree.specs.declared.agent.ActionItem.{ActionItem}
use Rattle.golog_tree.specs.declared.cond.Arg.{Arg}
use Rattle.golog_tree.specs.declared.cond.Arg.TheVariants.{Const}
use Rattle.golog_tree.specs.declared.cond.Term.{Term}
use Rattle.golog_tree.specs.declared.cond.Cond.{Cond}
use Rattle.golog_tree.specs.declared.cond.Term.TheVariants as term
use Rattle.golog_tree.specs.declared.cond.Cond.TheVariants as cond
use Rattle.golog_tree.specs.Ground.{AreWithin, action_args, args_at, fluent_args, ground_actions, ground_fluents, sizes, sort_size}
use Rattle.golog_semantics.specs.Values.{fluent_sort}
use Rattle.golog_semantics.specs.WellFormed.{WellFormed}
use Rattle.golog_semantics.proofs.ByParts.{OfEach}
use Rattle.golog_semantics.proofs.CondByParts as conds
use Rattle.golog_semantics.proofs.Tests.{and_cases, neither_first, neither_second}
use Rattle.golog_regress.specs.declared.event.Event.TheVariants.{Did, Sensed}
use Rattle.golog_regress.specs.declared.happened.Happened.{Happened}
use Rattle.golog_regress.specs.Causes.{layer, sorts_of, chain}
use Rattle.golog_regress.specs.Regressed.{layer_is_true, is_true, cond_back, term_back}
use Rattle.golog_regress.specs.Regression.{IsRegressed}
use Rattle.golog_regress.specs.Touched.{cond_step, term_step, reads, term_reads, is_touched}
use Rattle.golog_regress.proofs.BackParts as back
use Rattle.golog_regress.proofs.Events.{over_action, over_result}

module _ (agent : Agent) (happened : Happened) (causes : List CauseItem) where
  -- the cause is of what happened and of the fluent
  abbrev speaks : ℕ → CauseItem → Bool
  speaks f cause = cause.action == happened.action && cause.fluent == f

  abbrev Speaks : ℕ → Type 0
  Speaks f = list_any (speaks f) causes ≡ true

  chain-stays : (cs : List CauseItem) (f : ℕ) (args : List Arg) → list_any (speaks f) cs ≡ false → chain agent happened cs f args ≡ term.Fluent f args
  chain-stays [] f args h = refl
  chain-stays (cause ∷ cs) f args h =
      ap (λ b. if b then layer cause (sorts_of agent happened f) (happened.args ++ args) (chain agent happened cs f args) else chain agent happened cs f args)
      (neither_first (speaks f cause) (list_any (speaks f) cs) h)
      ∙ chain-stays cs f args (neither_second (speaks f cause) (list_any (speaks f) cs) h)

  fluent-stays : (f : ℕ) (args : List Arg) → ((g : ℕ) → Speaks g → (f == g) ≡ false) → chain agent happened causes f args ≡ term.Fluent f args
  fluent-stays f args h = go (list_any (speaks f) causes) refl
    where
      go : (b : Bool) → list_any (speaks f) causes ≡ b → chain agent happened causes f args ≡ term.Fluent f args
      go true e = absurd (let k : (f == f) ≡ false = h f e in let l : (f == f) ≡ true = eq-eqb f f refl in cc)
      go false e = chain-stays causes f args e

  abbrev StaysCond : Cond → Type 0
  StaysCond c = ((f : ℕ) → Speaks f → reads f c ≡ false) → cond_back agent happened causes c ≡ c

  abbrev StaysTerm : Term → Type 0
  StaysTerm t = ((f : ℕ) → Speaks f → term_reads f t ≡ false) → term_back agent happened causes t ≡ t

  all-stay : (cs : List Cond) → OfEach StaysCond cs → ((f : ℕ) → Speaks f → list_any (λ b. b) (map (reads f) cs) ≡ false) → map (cond_back agent happened causes) cs ≡ cs
  all-stay [] k h = refl
  all-stay (c ∷ cs) k h =
      let first : cond_back agent happened causes c ≡ c = k.0 (λ f s. neither_first (reads f c) (list_any (λ b. b) (map (reads f) cs)) (h f s)) in
      let others : map (cond_back agent happened causes) cs ≡ cs = all-stay cs k.1 (λ f s. neither_second (reads f c) (list_any (λ b. b) (map (reads f) cs)) (h f s)) in
      (λ i. first i ∷ others i)

  both-stay : (t u : Term) → StaysTerm t → StaysTerm u → ((f : ℕ) → Speaks f → (term_reads f t || term_reads f u) ≡ false)
      → (term_back agent happened causes t ≡ t) × (term_back agent happened causes u ≡ u)
  both-stay t u k l h =
      (k (λ f s. neither_first (term_reads f t) (term_reads f u) (h f s)), l (λ f s. neither_second (term_reads f t) (term_reads f u) (h f s)))

  ite-stays : (c : Cond) (t u : Term) → StaysCond c → StaysTerm t → StaysTerm u → StaysTerm (term.Ite c t u)
  ite-stays c t u k l m h =
      let parts : (f : ℕ) → Speaks f → (reads f c || term_reads f t || term_reads f u) ≡ false = λ f s. sym (conds.fold-ite Bool Bool (cond_step f) (term_step f) c t u) ∙ h f s in
      let front : (f : ℕ) → Speaks f → (reads f c || term_reads f t) ≡ false = λ f s. neither_first (reads f c || term_reads f t) (term_reads f u) (parts f s) in
      let test : cond_back agent happened causes c ≡ c = k (λ f s. neither_first (reads f c) (term_reads f t) (front f s)) in
      let one : term_back agent happened causes t ≡ t = l (λ f s. neither_second (reads f c) (term_reads f t) (front f s)) in
      let other : term_back agent happened causes u ≡ u = m (λ f s. neither_second (reads f c || term_reads f t) (term_reads f u) (parts f s)) in
      back.back-ite agent happened causes c t u ∙ (λ i. term.Ite (test i) (one i) (other i))

  stays-cases : conds.Cases StaysCond StaysTerm
  stays-cases = record {
    arg_case = λ arg h. back.back-arg agent happened causes arg;
    fluent_case = λ f args h. back.back-fluent agent happened causes f args
        ∙ fluent-stays f args (λ g s. sym (conds.fold-fluent Bool Bool (cond_step g) (term_step g) f args) ∙ h g s);
    shift_case = λ sort t amount k h. back.back-shift agent happened causes sort t amount
        ∙ ap (λ u. term.Shift sort u amount) (k (λ f s. sym (conds.fold-shift Bool Bool (cond_step f) (term_step f) sort t amount) ∙ h f s));
    ite_case = ite-stays;
    truth_case = λ b h. back.back-truth agent happened causes b;
    is_case = λ f args h. back.back-is agent happened causes f args
        ∙ ap is_true (fluent-stays f args (λ g s. sym (conds.fold-is Bool Bool (cond_step g) (term_step g) f args) ∙ h g s))
        ∙ ap (λ l. layer_is_true l (term.Fluent f args)) (term.outs-Fluent f args);
    equal_case = λ sort t u k l h.
        let b = both-stay t u k l (λ f s. sym (conds.fold-equal Bool Bool (cond_step f) (term_step f) sort t u) ∙ h f s) in
        back.back-equal agent happened causes sort t u ∙ (λ i. cond.Equal sort (b.0 i) (b.1 i));
    less_case = λ sort t u k l h.
        let b = both-stay t u k l (λ f s. sym (conds.fold-less Bool Bool (cond_step f) (term_step f) sort t u) ∙ h f s) in
        back.back-less agent happened causes sort t u ∙ (λ i. cond.Less sort (b.0 i) (b.1 i));
    at_most_case = λ sort t u k l h.
        let b = both-stay t u k l (λ f s. sym (conds.fold-at_most Bool Bool (cond_step f) (term_step f) sort t u) ∙ h f s) in
        back.back-at_most agent happened causes sort t u ∙ (λ i. cond.AtMost sort (b.0 i) (b.1 i));
    not_case = λ c k h. back.back-not agent happened causes c ∙ ap cond.Not (k (λ f s. sym (conds.fold-not Bool Bool (cond_step f) (term_step f) c) ∙ h f s));
    and_case = λ cs k h. back.back-and agent happened causes cs ∙ ap cond.And (all-stay cs k (λ f s. sym (conds.fold-and Bool Bool (cond_step f) (term_step f) cs) ∙ h f s));
    or_case = λ cs k h. back.back-or agent happened causes cs ∙ ap cond.Or (all-stay cs k (λ f s. sym (conds.fold-or Bool Bool (cond_step f) (term_step f) cs) ∙ h f s));
    some_case = λ x sort c k h. back.back-some agent happened causes x sort c
        ∙ ap (cond.ForSome x sort) (k (λ f s. sym (conds.fold-some Bool Bool (cond_step f) (term_step f) x sort c) ∙ h f s));
    all_case = λ x sort c k h. back.back-all agent happened causes x sort c
        ∙ ap (cond.ForAll x sort) (k (λ f s. sym (conds.fold-all Bool Bool (cond_step f) (term_step f) x sort c) ∙ h f s));
  }

  stays : (c : Cond) → StaysCond c
  stays = conds.cond_by_parts StaysCond StaysTerm stays-cases

  -- a fluent of a cause of what happened doesn't stand in a condition that isn't touched
  unread : (c : Cond) (cs : List CauseItem) → is_touched cs happened.action c ≡ false → (f : ℕ) → list_any (speaks f) cs ≡ true → reads f c ≡ false
  unread c [] h f s = absurd (cc)
  unread c (cause ∷ cs) h f s =
      go (speaks f cause) refl (unread c cs (neither_second (cause.action == happened.action && reads cause.fluent c) (is_touched cs happened.action c) h) f)
    where
      go : (b : Bool) → speaks f cause ≡ b → (list_any (speaks f) cs ≡ true → reads f c ≡ false) → reads f c ≡ false
      go true e others =
          let both = and_cases (cause.action == happened.action) (cause.fluent == f) e in
          subst (λ g. reads g c ≡ false) (eqb-true cause.fluent f both.1)
          (sym (ap (λ b. b && reads cause.fluent c) both.0) ∙ neither_first (cause.action == happened.action && reads cause.fluent c) (is_touched cs happened.action c) h)
      go false e others = others (sym (ap (λ b. b || list_any (speaks f) cs) e) ∙ s)

  pub untouched : (c : Cond) → is_touched causes happened.action c ≡ false → cond_back agent happened causes c ≡ c
  untouched c h = stays c (unread c causes h)

module _ (agent : Agent) (fits : WellFormed agent) where
  -- a condition before an action that touches none of its fluents
  pub untouched-action : (action number : ℕ) (item : ActionItem) (vals : List ℕ) → slice_get (ground_actions agent) action ≡ Some (number, vals)
      → AreWithin (sizes agent (args_at (action_args agent) number)) vals → slice_get agent.actions number ≡ Some item
      → (c : Cond) → is_touched agent.causes number c ≡ false → IsRegressed agent (Did action ∷ []) c c
  untouched-action action number item vals named within is c none =
      let happened : Happened = record { action = number; sorts = item.args; args = map Const vals } in
      over_action agent fits action item vals happened named within is refl refl c c (sym (untouched agent happened agent.causes c none))

  -- a condition before another fluent is sensed
  pub untouched-result : (number fluent value : ℕ) (vals : List ℕ) → slice_get (ground_fluents agent) number ≡ Some (fluent, vals)
      → AreWithin (sizes agent (args_at (fluent_args agent) fluent)) vals → value < sort_size agent (fluent_sort agent number) → number < length (ground_fluents agent)
      → (c : Cond) → reads fluent c ≡ false → IsRegressed agent (Sensed number value ∷ []) c c
  untouched-result number fluent value vals named within below inside c none =
      let happened : Happened = record { action = 0; sorts = []; args = [] } in
      let cause : CauseItem = record { action = 0; action_args = []; fluent = fluent; fluent_args = map Const vals; term = term.Arg (Const value); cond = cond.Truth true } in
      let not_touched : is_touched (cause ∷ []) 0 c ≡ false = ap (λ b. (0 == 0 && b) || false) none in
      over_result agent fits number fluent value vals named within below inside c c (sym (untouched agent happened (cause ∷ []) c not_touched))
