-- Heads of causes, matched with arguments that may be variables.
use Rattle.std.proofs.Common.{◌≡◌, ℕ, zero, suc, ◌<◌, ◌≤◌, ◌⊎◌, inl, inr, Bool, true, false, ◌&&◌, ◌==◌, if◌then◌else◌, Option, Some, None, List, [], ◌∷◌, ◌++◌, length, map, refl, sym, ap, ◌∙◌, subst, arith}
use Rattle.std.specs.Prelude.{nat_lt, slice_get, slice_index, option_and_then}
use Rattle.std.specs.List.{list_all}
use Rattle.std.specs.Option.{option_map_or}
use Rattle.std.proofs.lemmas.Bool.{eqb-true, lt-ltb}
use Rattle.std.proofs.lemmas.List.{length-map}
use Rattle.golog_tree.specs.declared.agent.Agent.{Agent}
use Rattle.golog_tree.specs.declared.cond.Arg.{Arg}
use Rattle.golog_tree.specs.declared.cond.Arg.TheVariants.{Const, Var}
use Rattle.golog_tree.specs.declared.cond.Truth.{Truth}
use Rattle.golog_tree.specs.declared.cond.Truth.TheVariants.{Yes, No, Unknown}
use Rattle.golog_tree.specs.declared.cond.Cond.{Cond}
use Rattle.golog_tree.specs.declared.cond.Term.TheVariants as term
use Rattle.golog_tree.specs.declared.cond.Cond.TheVariants as cond
use Rattle.golog_tree.specs.Ground.{IsCountable, sort_size}
use Rattle.golog_tree.proofs.Decoded.{sort_size-small}
use Rattle.golog_semantics.specs.Truth.{Env, Values, is_known, truth, both, and_of, comparison_of, arg_value, truth_of}
use Rattle.golog_semantics.specs.Values.{matched_values}
use Rattle.golog_semantics.specs.Fits.{Scope, arg_fits, args_fit, is_sort, cond_fits}
use Rattle.golog_semantics.specs.WellFormed.{head_sorts}
use Rattle.golog_semantics.proofs.CausesKeep.{chosen-some, chosen-true}
use Rattle.golog_semantics.proofs.GroundNumbers.{some-same}
use Rattle.golog_semantics.proofs.Tests.{and_both, and_cases}
use Rattle.golog_known.specs.Fits.{Sets}
use Rattle.golog_known.proofs.Evaluated.{args-within}
use Rattle.golog_known.proofs.Folds.{and_of-push, both-Yes}
use Rattle.golog_progress.specs.Effects as effects
use Rattle.golog_progress.proofs.Spread.{matched-fixed, matched-free}
use Rattle.golog_regress.specs.declared.matching.Matched.{Matched}
use Rattle.golog_regress.specs.Images.{Images, image, image_at}
use Rattle.golog_regress.specs.Causes.{is_next, tested, matching}
use Rattle.golog_regress.proofs.Evaluation as by

both-no : (t : Truth) → both t No ≡ No
both-no Yes = refl
both-no No = refl
both-no Unknown = refl

map-last : {A B : Type 0} (f : A → B) (xs : List A) (x : A) → map f (xs ++ x ∷ []) ≡ map f xs ++ f x ∷ []
map-last f [] x = refl
map-last f (y ∷ xs) x = ap (λ ys. f y ∷ ys) (map-last f xs x)

image-at-value : (images : Images) (env : Env) (x : ℕ) → arg_value env (image_at (slice_get images x)) ≡ slice_index (map (arg_value env) images) x
image-at-value [] env x = refl
image-at-value (arg ∷ images) env zero = refl
image-at-value (arg ∷ images) env (suc x) = image-at-value images env x

image-is : (images : Images) (env : Env) (arg : Arg) → arg_value env (image images arg) ≡ arg_value (map (arg_value env) images) arg
image-is images env (Const c) = refl
image-is images env (Var x) = image-at-value images env x

next-is : (images : Images) (env : Env) (arg : Arg) → effects.is_next (map (arg_value env) images) arg ≡ is_next images arg
next-is images env (Const c) = refl
next-is images env (Var x) = ap (λ n. x == n) (length-map images (arg_value env))

module _ (agent : Agent) where
  pub fit-length : (scope : Scope) (sorts : List ℕ) (args : List Arg) → args_fit agent scope sorts args ≡ true → length sorts ≡ length args
  fit-length scope [] [] e = refl
  fit-length scope [] (arg ∷ args) e = absurd (cc)
  fit-length scope (s ∷ sorts) [] e = absurd (cc)
  fit-length scope (s ∷ sorts) (arg ∷ args) e = ap suc (fit-length scope sorts args (and_cases (arg_fits agent scope s arg) (args_fit agent scope sorts args) e).1)

  fit-last : (scope : Scope) (sorts : List ℕ) (args : List Arg) (s : ℕ) (arg : Arg) → args_fit agent scope sorts args ≡ true → arg_fits agent scope s arg ≡ true
      → args_fit agent scope (sorts ++ s ∷ []) (args ++ arg ∷ []) ≡ true
  fit-last scope [] [] s arg e h = and_both (arg_fits agent scope s arg) true h refl
  fit-last scope [] (a ∷ args) s arg e h = absurd (cc)
  fit-last scope (t ∷ sorts) [] s arg e h = absurd (cc)
  fit-last scope (t ∷ sorts) (a ∷ args) s arg e h =
      let k = and_cases (arg_fits agent scope t a) (args_fit agent scope sorts args) e in
      and_both (arg_fits agent scope t a) (args_fit agent scope (sorts ++ s ∷ []) (args ++ arg ∷ [])) k.0 (fit-last scope sorts args s arg k.1 h)

  -- the image of a variable that has one of this sort
  pub fit-at : (scope : Scope) (sorts : List ℕ) (args : List Arg) (x s : ℕ) → args_fit agent scope sorts args ≡ true → option_map_or (λ own. own == s) (slice_get sorts x) false ≡ true
      → arg_fits agent scope s (image_at (slice_get args x)) ≡ true
  fit-at scope [] args x s e h = absurd (cc)
  fit-at scope (t ∷ sorts) [] x s e h = absurd (cc)
  fit-at scope (t ∷ sorts) (arg ∷ args) zero s e h =
      subst (λ k. arg_fits agent scope k arg ≡ true) (eqb-true t s h) (and_cases (arg_fits agent scope t arg) (args_fit agent scope sorts args) e).0
  fit-at scope (t ∷ sorts) (arg ∷ args) (suc x) s e h = fit-at scope sorts args x s (and_cases (arg_fits agent scope t arg) (args_fit agent scope sorts args) e).1 h

  module _ (countable : IsCountable agent) (scope : Scope) where
    -- a value of a sort is known
    known : (env : Env) → Sets agent scope env → (s : ℕ) (arg : Arg) → arg_fits agent scope s arg ≡ true → is_known (arg_value env arg) ≡ true
    known env set s arg e =
        let l : arg_value env arg < sort_size agent s = (args-within agent scope env set (s ∷ []) (arg ∷ []) (and_both (arg_fits agent scope s arg) true e refl)).0 in
        let small : sort_size agent s ≤ 255 = sort_size-small agent s countable in
        lt-ltb (arg_value env arg) 255 (omega arith)

    -- the truth of all of the tests
    abbrev pub truth_of_all : Values → Env → List Cond → Truth
    truth_of_all vs env tests = and_of (map (λ t. truth_of agent vs t env) tests)

    abbrev pub AllFit : List Cond → Type 0
    AllFit tests = list_all (λ t. cond_fits agent t scope) tests ≡ true

    abbrev pub Plain : Truth → Type 0
    Plain t = (t ≡ Yes) ⊎ (t ≡ No)

    equal-is : (env : Env) → Sets agent scope env → (s : ℕ) (one to : Arg) → arg_fits agent scope s one ≡ true → arg_fits agent scope s to ≡ true
        → comparison_of (λ a b. a == b) (arg_value env one) (arg_value env to) ≡ truth (arg_value env one == arg_value env to)
    equal-is env set s one to e h =
        ap (λ b. if b then truth (arg_value env one == arg_value env to) else Unknown)
        (and_both (is_known (arg_value env one)) (is_known (arg_value env to)) (known env set s one e) (known env set s to h))

    -- what one more test says
    abbrev Says : List Cond → Arg → Arg → Option (List Cond) → Type 0
    Says tests one to None = (env : Env) → (arg_value env one == arg_value env to) ≡ false
    Says tests one to (Some more) =
        (AllFit tests → AllFit more)
        × ((vs : Values) (env : Env) → Sets agent scope env → truth_of_all vs env more ≡ both (truth_of_all vs env tests) (truth (arg_value env one == arg_value env to)))

    all-last : (tests : List Cond) (t : Cond) → AllFit tests → cond_fits agent t scope ≡ true → AllFit (tests ++ t ∷ [])
    all-last [] t e h = and_both (cond_fits agent t scope) true h refl
    all-last (u ∷ tests) t e h =
        let k = and_cases (cond_fits agent u scope) (list_all (λ t. cond_fits agent t scope) tests) e in
        and_both (cond_fits agent u scope) (list_all (λ t. cond_fits agent t scope) (tests ++ t ∷ [])) k.0 (all-last tests t k.1 h)

    test-more : (s : ℕ) (one to : Arg) (tests : List Cond) → is_sort agent s ≡ true → arg_fits agent scope s one ≡ true → arg_fits agent scope s to ≡ true
        → Says tests one to (Some (tests ++ cond.Equal s (term.Arg one) (term.Arg to) ∷ []))
    test-more s one to tests sorted e h =
        let test = cond.Equal s (term.Arg one) (term.Arg to) in
        let fits : cond_fits agent test scope ≡ true =
        by.fits-equal agent s (term.Arg one) (term.Arg to) scope
        ∙ (λ i. is_sort agent s && by.fits-arg agent one scope s i && by.fits-arg agent to scope s i)
        ∙ and_both (is_sort agent s && arg_fits agent scope s one) (arg_fits agent scope s to) (and_both (is_sort agent s) (arg_fits agent scope s one) sorted e) h in (
          λ all. all-last tests test all fits,
          λ vs env set.
              ap and_of (map-last (λ t. truth_of agent vs t env) tests test)
              ∙ and_of-push (map (λ t. truth_of agent vs t env) tests) (truth_of agent vs test env)
              ∙ ap (both (truth_of_all vs env tests))
              (by.truth-equal agent vs s (term.Arg one) (term.Arg to) env
              ∙ (λ i. comparison_of (λ a b. a == b) (by.value-arg agent vs one env i) (by.value-arg agent vs to env i))
              ∙ equal-is env set s one to e h),
        )

    test-says : (s : ℕ) (one to : Arg) (tests : List Cond) → is_sort agent s ≡ true → arg_fits agent scope s one ≡ true → arg_fits agent scope s to ≡ true → Says tests one to (tested s one to tests)
    test-says s (Const c) (Const d) tests sorted e h = go (c == d) refl
      where
        go : (b : Bool) → (c == d) ≡ b → Says tests (Const c) (Const d) (if b then Some tests else None)
        go true f = (λ all. all, λ vs env set. sym (both-Yes (truth_of_all vs env tests)) ∙ ap (λ b. both (truth_of_all vs env tests) (truth b)) (sym f))
        go false f = λ env. f
    test-says s (Const c) (Var y) tests sorted e h = test-more s (Const c) (Var y) tests sorted e h
    test-says s (Var x) (Const d) tests sorted e h = test-more s (Var x) (Const d) tests sorted e h
    test-says s (Var x) (Var y) tests sorted e h = test-more s (Var x) (Var y) tests sorted e h

    -- What the images and the tests of a match say of the match that is to be, given the tests before it.
    abbrev pub Outcome : (Env → Option (List ℕ)) → List Cond → List ℕ → Option Matched → Type 0
    Outcome hit tests all None = (env : Env) → hit env ≡ None
    Outcome hit tests all (Some m) =
        (args_fit agent scope all m.found ≡ true)
        × AllFit m.tests
        × ((vs : Values) (env : Env) → Sets agent scope env
        → ((truth_of_all vs env m.tests ≡ truth_of_all vs env tests) × (hit env ≡ Some (map (arg_value env) m.found)))
        ⊎ ((truth_of_all vs env m.tests ≡ No) × (hit env ≡ None)))

    abbrev hits : List Arg → List Arg → Images → Env → Option (List ℕ)
    hits head given found env = matched_values head (map (arg_value env) given) (map (arg_value env) found)

    outcome-by : (hit other : Env → Option (List ℕ)) (tests : List Cond) (all : List ℕ) → ((env : Env) → hit env ≡ other env) → (o : Option Matched) → Outcome other tests all o → Outcome hit tests all o
    outcome-by hit other tests all same None h = λ env. same env ∙ h env
    outcome-by hit other tests all same (Some m) h = (
      h.0,
      h.1,
      λ vs env set. elim (h.2 vs env set) [
        | inl k ↦ inl (k.0, same env ∙ k.1)
        | inr k ↦ inr (k.0, same env ∙ k.1)
      ],
    )

    module _ (hit rest : Env → Option (List ℕ)) (tests : List Cond) (all : List ℕ) (one to : Arg)
        (fixed : (env : Env) → hit env ≡ (if arg_value env one == arg_value env to then rest env else None)) where
      missed : (env : Env) → (arg_value env one == arg_value env to) ≡ false → hit env ≡ None
      missed env e = fixed env ∙ ap (λ b. if b then rest env else None) e

      met : (env : Env) → (arg_value env one == arg_value env to) ≡ true → hit env ≡ rest env
      met env e = fixed env ∙ ap (λ b. if b then rest env else None) e

      module _ (more : List Cond) (says : Says tests one to (Some more)) where
        outcome-more : (o : Option Matched) → Outcome rest more all o → Outcome hit tests all o
        outcome-more None h = λ env. go env (arg_value env one == arg_value env to) refl
          where
            go : (env : Env) (b : Bool) → (arg_value env one == arg_value env to) ≡ b → hit env ≡ None
            go env true e = met env e ∙ h env
            go env false e = missed env e
        outcome-more (Some m) h = (h.0, h.1, λ vs env set. go vs env set (arg_value env one == arg_value env to) refl (h.2 vs env set))
          where
            go : (vs : Values) (env : Env) → Sets agent scope env → (b : Bool) → (arg_value env one == arg_value env to) ≡ b
                → ((truth_of_all vs env m.tests ≡ truth_of_all vs env more) × (rest env ≡ Some (map (arg_value env) m.found))) ⊎ ((truth_of_all vs env m.tests ≡ No) × (rest env ≡ None))
                → ((truth_of_all vs env m.tests ≡ truth_of_all vs env tests) × (hit env ≡ Some (map (arg_value env) m.found))) ⊎ ((truth_of_all vs env m.tests ≡ No) × (hit env ≡ None))
            go vs env set true e (inl k) =
                inl (k.0 ∙ says.1 vs env set ∙ ap (λ b. both (truth_of_all vs env tests) (truth b)) e ∙ both-Yes (truth_of_all vs env tests), met env e ∙ k.1)
            go vs env set true e (inr k) = inr (k.0, met env e ∙ k.1)
            go vs env set false e (inl k) =
                inr (k.0 ∙ says.1 vs env set ∙ ap (λ b. both (truth_of_all vs env tests) (truth b)) e ∙ both-no (truth_of_all vs env tests), missed env e)
            go vs env set false e (inr k) = inr (k.0, missed env e)

    next-head : (s : ℕ) (sorts : List ℕ) (arg : Arg) (head : List Arg) (bound all : List ℕ) (found : Images) → length bound ≡ length found → is_next found arg ≡ true
        → head_sorts agent (s ∷ sorts) (arg ∷ head) bound ≡ Some all → head_sorts agent sorts head (bound ++ s ∷ []) ≡ Some all
    next-head s sorts (Const c) head bound all found l n h = absurd (cc)
    next-head s sorts (Var x) head bound all found l n h =
        sym (ap (λ b. if b then head_sorts agent sorts head (bound ++ s ∷ []) else (if option_map_or (λ own. own == s) (slice_get bound x) false then head_sorts agent sorts head bound else None)) (ap (λ k. x == k) l ∙ n)) ∙ h

    fixed-head : (s : ℕ) (sorts : List ℕ) (arg : Arg) (head : List Arg) (bound all : List ℕ) (found : Images) → args_fit agent scope bound found ≡ true → is_next found arg ≡ false
        → head_sorts agent (s ∷ sorts) (arg ∷ head) bound ≡ Some all → (arg_fits agent scope s (image found arg) ≡ true) × (head_sorts agent sorts head bound ≡ Some all)
    fixed-head s sorts (Const c) head bound all found fit n h =
        (chosen-true (nat_lt c (sort_size agent s)) (head_sorts agent sorts head bound) all h, chosen-some (nat_lt c (sort_size agent s)) (head_sorts agent sorts head bound) all h)
    fixed-head s sorts (Var x) head bound all found fit n h =
        let test = option_map_or (λ own. own == s) (slice_get bound x) false in
        let old : (x == length bound) ≡ false = ap (λ k. x == k) (fit-length scope bound found fit) ∙ n in
        let k : (if test then head_sorts agent sorts head bound else None) ≡ Some all =
        sym (ap (λ (b : Bool). if b then head_sorts agent sorts head (bound ++ s ∷ []) else (if test then head_sorts agent sorts head bound else None)) old) ∙ h in
        (fit-at scope bound found x s fit (chosen-true test (head_sorts agent sorts head bound) all k), chosen-some test (head_sorts agent sorts head bound) all k)

    -- one argument of a head
    module _ (s : ℕ) (sorts : List ℕ) (arg : Arg) (head : List Arg) (to : Arg) (given : List Arg) (found : Images) (tests : List Cond) (bound all : List ℕ) where
      abbrev whole_hit : Env → Option (List ℕ)
      whole_hit = hits (arg ∷ head) (to ∷ given) found

      free : is_next found arg ≡ true → (env : Env) → whole_hit env ≡ hits head given (found ++ to ∷ []) env
      free n env =
          matched-free arg head (arg_value env to) (map (arg_value env) given) (map (arg_value env) found) (next-is found env arg ∙ n)
          ∙ ap (matched_values head (map (arg_value env) given)) (sym (map-last (arg_value env) found to))

      fixed : is_next found arg ≡ false → (env : Env) → whole_hit env ≡ (if arg_value env (image found arg) == arg_value env to then hits head given found env else None)
      fixed n env =
          matched-fixed arg head (arg_value env to) (map (arg_value env) given) (map (arg_value env) found) (next-is found env arg ∙ n)
          ∙ ap (λ v. if v == arg_value env to then hits head given found env else None) (sym (image-is found env arg))

      module _ (sorted : is_sort agent s ≡ true) (h : head_sorts agent (s ∷ sorts) (arg ∷ head) bound ≡ Some all) (fit : arg_fits agent scope s to ≡ true) (fits : args_fit agent scope bound found ≡ true) (all_fit : AllFit tests)
          (next : head_sorts agent sorts head (bound ++ s ∷ []) ≡ Some all → args_fit agent scope (bound ++ s ∷ []) (found ++ to ∷ []) ≡ true
          → Outcome (hits head given (found ++ to ∷ [])) tests all (matching sorts head given (found ++ to ∷ []) tests))
          (rest : (more : List Cond) → head_sorts agent sorts head bound ≡ Some all → AllFit more → Outcome (hits head given found) more all (matching sorts head given found more)) where
        tested-go : is_next found arg ≡ false → (o : Option (List Cond)) → Says tests (image found arg) to o → head_sorts agent sorts head bound ≡ Some all
            → Outcome whole_hit tests all (option_and_then (matching sorts head given found) o)
        tested-go n None says k = λ env. missed whole_hit (hits head given found) tests all (image found arg) to (fixed n) env (says env)
        tested-go n (Some more) says k =
            outcome-more whole_hit (hits head given found) tests all (image found arg) to (fixed n) more says (matching sorts head given found more) (rest more k (says.0 all_fit))

        match-by : (b : Bool) → is_next found arg ≡ b
            → Outcome whole_hit tests all (if b then matching sorts head given (found ++ to ∷ []) tests else option_and_then (matching sorts head given found) (tested s (image found arg) to tests))
        match-by true n =
            outcome-by whole_hit (hits head given (found ++ to ∷ [])) tests all (free n) (matching sorts head given (found ++ to ∷ []) tests)
            (next (next-head s sorts arg head bound all found (fit-length scope bound found fits) n h) (fit-last scope bound found s to fits fit))
        match-by false n =
            let k = fixed-head s sorts arg head bound all found fits n h in
            tested-go n (tested s (image found arg) to tests) (test-says s (image found arg) to tests sorted k.0 fit) k.1

        match-one : Outcome whole_hit tests all (matching (s ∷ sorts) (arg ∷ head) (to ∷ given) found tests)
        match-one = match-by (is_next found arg) refl

    pub matches : (sorts : List ℕ) (head given : List Arg) (found : Images) (tests : List Cond) (bound all : List ℕ) → list_all (is_sort agent) sorts ≡ true → head_sorts agent sorts head bound ≡ Some all
        → args_fit agent scope sorts given ≡ true → args_fit agent scope bound found ≡ true → AllFit tests → Outcome (hits head given found) tests all (matching sorts head given found tests)
    matches [] [] given found tests bound all sorted h fit fits tested =
        (subst (λ ss. args_fit agent scope ss found ≡ true) (some-same bound all h) fits, tested, λ vs env set. inl (refl, refl))
    matches (s ∷ sorts) [] given found tests bound all sorted h fit fits tested = absurd (cc)
    matches [] (arg ∷ head) given found tests bound all sorted h fit fits tested = absurd (cc)
    matches (s ∷ sorts) (arg ∷ head) [] found tests bound all sorted h fit fits tested = absurd (cc)
    matches (s ∷ sorts) (arg ∷ head) (to ∷ given) found tests bound all sorted h fit fits all_fit =
        let sorts_are = and_cases (is_sort agent s) (list_all (is_sort agent) sorts) sorted in
        let fit_are = and_cases (arg_fits agent scope s to) (args_fit agent scope sorts given) fit in
        match-one s sorts arg head to given found tests bound all sorts_are.0 h fit_are.0 fits all_fit
        (λ k l. matches sorts head given (found ++ to ∷ []) tests (bound ++ s ∷ []) all sorts_are.1 k fit_are.1 l all_fit)
        (λ more k l. matches sorts head given found more bound all sorts_are.1 k fit_are.1 fits l)
