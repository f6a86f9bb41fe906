-- What causes make of a fluent, as a term: it has the value that the fluent has after the action.
use Rattle.std.proofs.Common.{◌≡◌, ℕ, suc, ◌+◌, ◌<◌, inl, inr, Bool, true, false, ◌&&◌, ◌==◌, if◌then◌else◌, Option, Some, None, List, [], ◌∷◌, ◌++◌, length, map, refl, sym, ap, ◌∙◌, subst, arith}
use Rattle.std.specs.Prelude.{nat_lt, slice_get}
use Rattle.std.specs.List.{list_all}
use Rattle.std.specs.Option.{option_map_or}
use Rattle.std.proofs.lemmas.Bool.{eqb-true, eq-eqb, lt-ltb}
use Rattle.std.proofs.lemmas.List.Folds.{list_all-append}
use Rattle.golog_tree.specs.declared.agent.Agent.{Agent}
use Rattle.golog_tree.specs.declared.agent.CauseItem.{CauseItem}
use Rattle.golog_tree.specs.declared.agent.FluentItem.{FluentItem}
use Rattle.golog_tree.specs.declared.cond.Arg.{Arg}
use Rattle.golog_tree.specs.declared.cond.Arg.TheVariants.{Const}
use Rattle.golog_tree.specs.declared.cond.Truth.{Truth}
use Rattle.golog_tree.specs.declared.cond.Truth.TheVariants.{Yes}
use Rattle.golog_tree.specs.declared.cond.Term.{Term}
use Rattle.golog_tree.specs.declared.cond.Cond.{Cond}
use Rattle.golog_tree.specs.declared.cond.Term.TheVariants as term
use Rattle.golog_tree.specs.Ground.{AreWithin, IsCountable, sizes, sort_size}
use Rattle.golog_semantics.specs.Truth.{Env, Values, truth, both, and_of, chosen, arg_value, truth_of, value_of}
use Rattle.golog_semantics.specs.Values.{matched_values, cause_for, value_caused, value_by_causes}
use Rattle.golog_semantics.specs.Fits.{Scope, bound_from, arg_fits, args_fit, is_sort, cond_fits, term_fits}
use Rattle.golog_semantics.specs.Written.{is_written_cond, is_written_term}
use Rattle.golog_semantics.specs.WellFormed.{head_sorts, effect_fits}
use Rattle.golog_semantics.proofs.CondByParts as conds
use Rattle.golog_semantics.proofs.Tests.{and_both, and_cases}
use Rattle.golog_known.specs.Fits.{Sets}
use Rattle.golog_known.proofs.Folds.{and_of-push}
use Rattle.golog_regress.specs.declared.happened.Happened.{Happened}
use Rattle.golog_regress.specs.declared.matching.Matched.{Matched}
use Rattle.golog_regress.specs.Images.{Images, cond_image, term_image}
use Rattle.golog_regress.specs.Causes.{matching, guarded, plainly, is_plainly_true, choice, layered, layer, sorts_at, sorts_of, chain}
use Rattle.golog_regress.proofs.Evaluation.{A, E}
use Rattle.golog_regress.proofs.Evaluation as by
use Rattle.golog_regress.proofs.Imaged.{Imaged, env_at, image_of_cond, image_of_term}
use Rattle.golog_regress.proofs.Heads.{AllFit, Outcome, truth_of_all, fit-length, fit-at, matches}

all-map : (agent : Agent) (scope : Scope) (cs : List Cond) → list_all (λ (test : A). test scope) (map (cond_fits agent) cs) ≡ list_all (λ c. cond_fits agent c scope) cs
all-map agent scope [] = refl
all-map agent scope (c ∷ cs) = ap (λ b. cond_fits agent c scope && b) (all-map agent scope cs)

truths-map : (agent : Agent) (vs : Values) (env : Env) (cs : List Cond) → map (λ (t : E). t env) (map (truth_of agent vs) cs) ≡ map (λ c. truth_of agent vs c env) cs
truths-map agent vs env [] = refl
truths-map agent vs env (c ∷ cs) = ap (λ ts. truth_of agent vs c env ∷ ts) (truths-map agent vs env cs)

module _ (agent : Agent) (vs : Values) (env : Env) where
  abbrev IsSo : Cond → Type 0
  IsSo c = is_plainly_true c ≡ true → truth_of agent vs c env ≡ Yes

  so-cases : conds.Cases IsSo (λ t. Unit {0})
  so-cases = record {
    arg_case = λ arg. tt;
    fluent_case = λ fluent args. tt;
    shift_case = λ sort t amount h. tt;
    ite_case = λ c t u f g h. tt;
    truth_case = λ b e. by.truth-truth agent vs b env ∙ ap truth (sym (conds.fold-truth Bool Bool plainly (λ t. false) b) ∙ e);
    is_case = λ fluent args e. absurd (let k = conds.fold-is Bool Bool plainly (λ t. false) fluent args in cc);
    equal_case = λ sort t u g h e. absurd (let k = conds.fold-equal Bool Bool plainly (λ t. false) sort t u in cc);
    less_case = λ sort t u g h e. absurd (let k = conds.fold-less Bool Bool plainly (λ t. false) sort t u in cc);
    at_most_case = λ sort t u g h e. absurd (let k = conds.fold-at_most Bool Bool plainly (λ t. false) sort t u in cc);
    not_case = λ c h e. absurd (let k = conds.fold-not Bool Bool plainly (λ t. false) c in cc);
    and_case = λ cs h e. absurd (let k = conds.fold-and Bool Bool plainly (λ t. false) cs in cc);
    or_case = λ cs h e. absurd (let k = conds.fold-or Bool Bool plainly (λ t. false) cs in cc);
    some_case = λ x sort c h e. absurd (let k = conds.fold-some Bool Bool plainly (λ t. false) x sort c in cc);
    all_case = λ x sort c h e. absurd (let k = conds.fold-all Bool Bool plainly (λ t. false) x sort c in cc);
  }

  plain_is_so : (c : Cond) → IsSo c
  plain_is_so = conds.cond_by_parts IsSo (λ t. Unit {0}) so-cases

  choice-value : (c : Cond) (one other : Term) → value_of agent vs (choice c one other) env ≡ chosen (truth_of agent vs c env) (value_of agent vs one env) (value_of agent vs other env)
  choice-value c one other = go (is_plainly_true c) refl
    where
      go : (b : Bool) → is_plainly_true c ≡ b
          → value_of agent vs (if b then one else term.Ite c one other) env ≡ chosen (truth_of agent vs c env) (value_of agent vs one env) (value_of agent vs other env)
      go true e = ap (λ t. chosen t (value_of agent vs one env) (value_of agent vs other env)) (sym (plain_is_so c e))
      go false e = by.value-ite agent vs c one other env

module _ (agent : Agent) where
  -- the sorts of an action's arguments, and the arguments
  pub record HappensIn (happened : Happened) (vals : List ℕ) : Type 0 where
    pub sorts : list_all (is_sort agent) happened.sorts ≡ true
    pub args : happened.args ≡ map Const vals
    pub within : AreWithin (sizes agent happened.sorts) vals

  -- a cause of the action, for a fluent
  pub record EffectIs (happened : Happened) (cause : CauseItem) (item : FluentItem) : Type 0 where
    pub all : List ℕ
    pub head : head_sorts agent (happened.sorts ++ item.args) (cause.action_args ++ cause.fluent_args) [] ≡ Some all
    pub fits : effect_fits agent cause item.sort all ≡ true

  -- each cause of the action fits
  abbrev pub Effects : Happened → List CauseItem → Type 0
  Effects happened [] = Unit {0}
  Effects happened (cause ∷ causes) =
      ((item : FluentItem) → (cause.action == happened.action) ≡ true → slice_get agent.fluents cause.fluent ≡ Some item → EffectIs happened cause item)
      × Effects happened causes

module _ (agent : Agent) (countable : IsCountable agent) (scope : Scope) where
  choice-fits : (sort : ℕ) (c : Cond) (one other : Term) → cond_fits agent c scope ≡ true → term_fits agent one scope sort ≡ true → term_fits agent other scope sort ≡ true
      → term_fits agent (choice c one other) scope sort ≡ true
  choice-fits sort c one other e h k = go (is_plainly_true c)
    where
      go : (b : Bool) → term_fits agent (if b then one else term.Ite c one other) scope sort ≡ true
      go true = h
      go false =
          by.fits-ite agent c one other scope sort
          ∙ and_both (cond_fits agent c scope && term_fits agent one scope sort) (term_fits agent other scope sort) (and_both (cond_fits agent c scope) (term_fits agent one scope sort) e h) k

  abbrev all_fit : List Cond → Type 0
  all_fit = AllFit agent countable scope

  abbrev truths : Values → Env → List Cond → Truth
  truths = truth_of_all agent countable scope

  all-last : (tests : List Cond) (c : Cond) → all_fit tests → cond_fits agent c scope ≡ true → list_all (λ (test : A). test scope) (map (cond_fits agent) (tests ++ c ∷ [])) ≡ true
  all-last [] c e h = and_both (cond_fits agent c scope) true h refl
  all-last (t ∷ tests) c e h =
      let k = and_cases (cond_fits agent t scope) (list_all (λ c. cond_fits agent c scope) tests) e in
      and_both (cond_fits agent t scope) (list_all (λ (test : A). test scope) (map (cond_fits agent) (tests ++ c ∷ []))) k.0 (all-last tests c k.1 h)

  guarded-fits : (tests : List Cond) (c : Cond) → all_fit tests → cond_fits agent c scope ≡ true → cond_fits agent (guarded tests c) scope ≡ true
  guarded-fits [] c e h = h
  guarded-fits (t ∷ tests) c e h = by.fits-and agent ((t ∷ tests) ++ c ∷ []) scope ∙ all-last (t ∷ tests) c e h

  truths-last : (vs : Values) (env : Env) (tests : List Cond) (c : Cond) → map (λ c. truth_of agent vs c env) (tests ++ c ∷ []) ≡ map (λ c. truth_of agent vs c env) tests ++ truth_of agent vs c env ∷ []
  truths-last vs env [] c = refl
  truths-last vs env (t ∷ tests) c = ap (λ ts. truth_of agent vs t env ∷ ts) (truths-last vs env tests c)

  guarded-truth : (vs : Values) (env : Env) (tests : List Cond) (c : Cond) → truth_of agent vs (guarded tests c) env ≡ both (truths vs env tests) (truth_of agent vs c env)
  guarded-truth vs env [] c = refl
  guarded-truth vs env (t ∷ tests) c =
      by.truth-and agent vs ((t ∷ tests) ++ c ∷ []) env ∙ ap and_of (truths-map agent vs env ((t ∷ tests) ++ c ∷ []) ∙ truths-last vs env (t ∷ tests) c)
      ∙ and_of-push (map (λ c. truth_of agent vs c env) (t ∷ tests)) (truth_of agent vs c env)

  -- a bound variable by its place
  bound-at : (n : ℕ) (sorts : List ℕ) (args : List Arg) (x s : ℕ) → length sorts ≡ length args → bound_from n sorts x ≡ Some s → (at : ℕ) × (x ≡ n + at) × (slice_get sorts at ≡ Some s) × (at < length args)
  bound-at n [] args x s l e = absurd (cc)
  bound-at n (t ∷ sorts) [] x s l e = absurd (omega arith)
  bound-at n (t ∷ sorts) (arg ∷ args) x s l e = go (x == n) refl e (bound-at (suc n) sorts args x s (omega arith))
    where
      go : (b : Bool) → (x == n) ≡ b → (if b then Some t else bound_from (suc n) sorts x) ≡ Some s
          → (bound_from (suc n) sorts x ≡ Some s → (at : ℕ) × (x ≡ suc n + at) × (slice_get sorts at ≡ Some s) × (at < length args))
          → (at : ℕ) × (x ≡ n + at) × (slice_get (t ∷ sorts) at ≡ Some s) × (at < length (arg ∷ args))
      go true f h rest = (0, (let k : x ≡ n = eqb-true x n f in omega arith), h, omega arith)
      go false f h rest =
          let r = rest h in
          (suc r.0, (let k : x ≡ suc n + r.0 = r.1 in omega arith), r.2, (let k : r.0 < length args = r.3 in omega arith))

  imaged : (all : List ℕ) (found : Images) → args_fit agent scope all found ≡ true → Imaged agent (bound_from 0 all) scope found
  imaged all found fit = record {
    inside = λ x s e. let b = bound-at 0 all found x s (fit-length agent scope all found fit) e in let k : x ≡ 0 + b.0 = b.1 in let l : b.0 < length found = b.3 in omega arith;
    fits = λ x s e.
        let b = bound-at 0 all found x s (fit-length agent scope all found fit) e in
        let same : x ≡ b.0 = (let k : x ≡ 0 + b.0 = b.1 in omega arith) in
        fit-at agent scope all found x s fit (ap (λ o. option_map_or (λ own. own == s) o false) (ap (slice_get all) same ∙ b.2) ∙ eq-eqb s s refl);
  }

  module _ (cause : CauseItem) (all : List ℕ) (sort : ℕ) (fits : effect_fits agent cause sort all ≡ true) (later : Term) (later_fits : term_fits agent later scope sort ≡ true) where
    abbrev in_head : Scope
    in_head = bound_from 0 all

    outer : ((term_fits agent cause.term in_head sort && cond_fits agent cause.cond in_head && is_written_term agent cause.term) ≡ true) × (is_written_cond agent cause.cond (length all) ≡ true)
    outer = and_cases (term_fits agent cause.term in_head sort && cond_fits agent cause.cond in_head && is_written_term agent cause.term) (is_written_cond agent cause.cond (length all)) fits

    middle : ((term_fits agent cause.term in_head sort && cond_fits agent cause.cond in_head) ≡ true) × (is_written_term agent cause.term ≡ true)
    middle = and_cases (term_fits agent cause.term in_head sort && cond_fits agent cause.cond in_head) (is_written_term agent cause.term) outer.0

    inner : (term_fits agent cause.term in_head sort ≡ true) × (cond_fits agent cause.cond in_head ≡ true)
    inner = and_cases (term_fits agent cause.term in_head sort) (cond_fits agent cause.cond in_head) middle.0

    -- what a cause makes of a fluent, where its head is matched so far
    layered-goes : (hit : Env → Option (List ℕ)) (o : Option Matched) → Outcome agent countable scope hit [] all o
        → (term_fits agent (layered cause o later) scope sort ≡ true)
        × ((vs : Values) (env : Env) → length env ≡ 32 → Sets agent scope env
        → value_of agent vs (layered cause o later) env ≡ value_caused agent vs cause (hit env) (value_of agent vs later env))
    layered-goes hit None h = (later_fits, λ vs env l set. ap (λ o. value_caused agent vs cause o (value_of agent vs later env)) (sym (h env)))
    layered-goes hit (Some m) h =
        let is = imaged all m.found h.0 in
        let written : is_written_cond agent cause.cond (length m.found) ≡ true =
        subst (λ n. is_written_cond agent cause.cond n ≡ true) (fit-length agent scope all m.found h.0) outer.1 in
        let c = image_of_cond agent cause.cond in_head scope m.found is written inner.1 in
        let t = image_of_term agent cause.term in_head scope m.found is middle.1 sort inner.0 in
        let cond_there = cond_image cause.cond m.found in
        let term_there = term_image cause.term m.found in (
          choice-fits sort (guarded m.tests cond_there) term_there later (guarded-fits m.tests cond_there h.1 c.0) t.0 later_fits,
          λ vs env l set.
              let old = value_of agent vs later env in
              let there = env_at m.found env in
              let value = value_of agent vs term_there env in
              choice-value agent vs env (guarded m.tests cond_there) term_there later
              ∙ ap (λ g. chosen g value old) (guarded-truth vs env m.tests cond_there)
              ∙ elim (h.2 vs env set) [
                | inl k ↦ ap (λ g. chosen (both g (truth_of agent vs cond_there env)) value old) k.0
                    ∙ (λ i. chosen (c.1 vs vs env there (refl, l, refl) i) (t.1 vs vs env there (refl, l, refl) i) old)
                    ∙ ap (λ o. value_caused agent vs cause o old) (sym k.1)
                | inr k ↦ ap (λ g. chosen (both g (truth_of agent vs cond_there env)) value old) k.0
                    ∙ ap (λ o. value_caused agent vs cause o old) (sym k.1)
              ],
        )

  constants-fit : (sorts vals : List ℕ) → AreWithin (sizes agent sorts) vals → args_fit agent scope sorts (map Const vals) ≡ true
  constants-fit [] [] w = refl
  constants-fit [] (v ∷ vals) w = elim w [ ]
  constants-fit (s ∷ sorts) [] w = elim w [ ]
  constants-fit (s ∷ sorts) (v ∷ vals) w = and_both (nat_lt v (sort_size agent s)) (args_fit agent scope sorts (map Const vals)) (lt-ltb v (sort_size agent s) w.0) (constants-fit sorts vals w.1)

  fit-append : (ss ts : List ℕ) (xs ys : List Arg) → args_fit agent scope ss xs ≡ true → args_fit agent scope ts ys ≡ true → args_fit agent scope (ss ++ ts) (xs ++ ys) ≡ true
  fit-append [] ts [] ys e h = h
  fit-append [] ts (x ∷ xs) ys e h = absurd (cc)
  fit-append (s ∷ ss) ts [] ys e h = absurd (cc)
  fit-append (s ∷ ss) ts (x ∷ xs) ys e h =
      let k = and_cases (arg_fits agent scope s x) (args_fit agent scope ss xs) e in
      and_both (arg_fits agent scope s x) (args_fit agent scope (ss ++ ts) (xs ++ ys)) k.0 (fit-append ss ts xs ys k.1 h)

  given-values : (env : Env) (vals : List ℕ) (args : List Arg) → map (arg_value env) (map Const vals ++ args) ≡ vals ++ map (arg_value env) args
  given-values env [] args = refl
  given-values env (v ∷ vals) args = ap (λ vs. v ∷ vs) (given-values env vals args)

  module _ (happened : Happened) (vals : List ℕ) (happens : HappensIn agent happened vals) (fluent : ℕ) (args : List Arg) (item : FluentItem) (is : slice_get agent.fluents fluent ≡ Some item)
      (sorted : list_all (is_sort agent) item.args ≡ true) (fit : args_fit agent scope item.args args ≡ true) where
    abbrev Goes : List CauseItem → Term → Type 0
    Goes causes t =
        (term_fits agent t scope item.sort ≡ true)
        × ((vs : Values) (env : Env) → length env ≡ 32 → Sets agent scope env
        → value_of agent vs t env ≡ value_by_causes agent vs causes (happened.action, vals) (fluent, map (arg_value env) args) (value_of agent vs (term.Fluent fluent args) env))

    all_sorted : list_all (is_sort agent) (happened.sorts ++ item.args) ≡ true
    all_sorted = list_all-append (is_sort agent) happened.sorts item.args ∙ and_both (list_all (is_sort agent) happened.sorts) (list_all (is_sort agent) item.args) happens.sorts sorted

    given_fit : args_fit agent scope (happened.sorts ++ item.args) (happened.args ++ args) ≡ true
    given_fit = fit-append happened.sorts item.args happened.args args (subst (λ xs. args_fit agent scope happened.sorts xs ≡ true) (sym happens.args) (constants-fit happened.sorts vals happens.within)) fit

    given_are : (env : Env) → map (arg_value env) (happened.args ++ args) ≡ vals ++ map (arg_value env) args
    given_are env = ap (λ xs. map (arg_value env) (xs ++ args)) happens.args ∙ given-values env vals args

    sorts_are : sorts_of agent happened fluent ≡ happened.sorts ++ item.args
    sorts_are = ap (λ o. happened.sorts ++ sorts_at o) is

    module _ (cause : CauseItem) (causes : List CauseItem) (effect : (cause.action == happened.action) ≡ true → slice_get agent.fluents cause.fluent ≡ Some item → EffectIs agent happened cause item)
        (rest : Goes causes (chain agent happened causes fluent args)) where
      abbrev head : List Arg
      head = cause.action_args ++ cause.fluent_args

      abbrev later_is : Values → Env → ℕ
      later_is vs env = value_by_causes agent vs causes (happened.action, vals) (fluent, map (arg_value env) args) (value_of agent vs (term.Fluent fluent args) env)

      for-both : (env : Env) (b : Bool) → (cause.action == happened.action && cause.fluent == fluent) ≡ b
          → cause_for cause (happened.action, vals) (fluent, map (arg_value env) args) ≡ (if b then matched_values head (vals ++ map (arg_value env) args) [] else None)
      for-both env b e = ap (λ b. if b then matched_values head (vals ++ map (arg_value env) args) [] else None) e

      chain-by : (b : Bool) → (cause.action == happened.action && cause.fluent == fluent) ≡ b
          → Goes (cause ∷ causes) (if b then layer cause (sorts_of agent happened fluent) (happened.args ++ args) (chain agent happened causes fluent args) else chain agent happened causes fluent args)
      chain-by false e = (rest.0, λ vs env l set. rest.1 vs env l set ∙ ap (λ o. value_caused agent vs cause o (later_is vs env)) (sym (for-both env false e)))
      chain-by true e =
          let tests = and_cases (cause.action == happened.action) (cause.fluent == fluent) e in
          let is_effect = effect tests.0 (ap (slice_get agent.fluents) (eqb-true cause.fluent fluent tests.1) ∙ is) in
          let hit = λ (env : Env). matched_values head (map (arg_value env) (happened.args ++ args)) [] in
          let matched_are = matches agent countable scope (happened.sorts ++ item.args) head (happened.args ++ args) [] [] [] is_effect.all all_sorted is_effect.head given_fit refl refl in
          let g = layered-goes cause is_effect.all item.sort is_effect.fits (chain agent happened causes fluent args) rest.0 hit (matching (happened.sorts ++ item.args) head (happened.args ++ args) [] []) matched_are in
          subst (λ ss. Goes (cause ∷ causes) (layer cause ss (happened.args ++ args) (chain agent happened causes fluent args))) (sym sorts_are) (
            g.0,
            λ vs env l set. g.1 vs env l set
                ∙ (λ i. value_caused agent vs cause (matched_values head (given_are env i) []) (rest.1 vs env l set i))
                ∙ ap (λ o. value_caused agent vs cause o (later_is vs env)) (sym (for-both env true e)),
          )

    pub chain_goes : (causes : List CauseItem) → Effects agent happened causes → Goes causes (chain agent happened causes fluent args)
    chain_goes [] effects = (
      by.fits-fluent agent fluent args scope item.sort
          ∙ ap (λ o. option_map_or (λ (i : FluentItem). i.sort == item.sort && args_fit agent scope i.args args) o false) is
          ∙ and_both (item.sort == item.sort) (args_fit agent scope item.args args) (eq-eqb item.sort item.sort refl) fit,
      λ vs env l set. refl,
    )
    chain_goes (cause ∷ causes) effects =
        chain-by cause causes (λ same. effects.0 item same) (chain_goes causes effects.1) (cause.action == happened.action && cause.fluent == fluent) refl
