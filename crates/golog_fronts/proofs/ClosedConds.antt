-- Conditions with no free variable, of the agent's numbers and sorts: put together, of fronts, and with constants put in.
use Rattle.std.proofs.Common.{◌≡◌, ℕ, suc, ◌+◌, Bool, true, false, ◌&&◌, if◌then◌else◌, ◌==◌, List, [], ◌∷◌, ◌++◌, map, Some, refl, ap, ◌∙◌, subst, arith}
use Rattle.std.specs.Prelude.{nat_lt}
use Rattle.std.specs.List.{list_all}
use Rattle.std.specs.Option.{option_map_or}
use Rattle.std.proofs.lemmas.Bool.{eqb-true}
use Rattle.std.proofs.lemmas.List.Folds.{list_all-append, list_all-map}
use Rattle.golog_tree.specs.declared.agent.Agent.{Agent}
use Rattle.golog_tree.specs.declared.cond.Arg.{Arg}
use Rattle.golog_tree.specs.declared.cond.Arg.TheVariants.{Const, Var}
use Rattle.golog_tree.specs.declared.cond.Cond.{Cond}
use Rattle.golog_tree.specs.declared.cond.Cond.TheVariants as cond
use Rattle.golog_tree.specs.declared.prog.Prog.{Prog}
use Rattle.golog_tree.specs.Ground.{sort_size}
use Rattle.golog_tree.specs.Substitute.{cond_put}
use Rattle.golog_semantics.specs.Fits.{Scope, arg_fits, args_fit, bound_from, cond_fits, cond_step, nothing_bound, term_step}
use Rattle.golog_semantics.proofs.CondByParts.{fold-and, fold-not, fold-or, fold-truth}
use Rattle.golog_semantics.proofs.ScopePut.{Puts, cond_put_fits}
use Rattle.golog_semantics.proofs.Tests.{and_both, and_cases}
use Rattle.golog_fronts.specs.declared.front_lists.Front.{Front}
use Rattle.golog_fronts.specs.FrontLists.{are_closed, front_in, front_where, none_open}
use Rattle.golog_fronts.specs.Puts.{cond_put_args}

module _ (agent : Agent) where
  abbrev F : Type 0
  F = Scope → Bool

  abbrev T : Type 0
  T = Scope → ℕ → Bool

  -- with no free variable
  abbrev pub fits : Cond → Bool
  fits c = cond_fits agent c nothing_bound

  pub fits-truth : (b : Bool) → fits (cond.Truth b) ≡ true
  fits-truth b = ap (λ (f : F). f nothing_bound) (fold-truth F T (cond_step agent) (term_step agent) b)

  pub fits-not : (c : Cond) → fits c ≡ true → fits (cond.Not c) ≡ true
  fits-not c h = ap (λ (f : F). f nothing_bound) (fold-not F T (cond_step agent) (term_step agent) c) ∙ h

  each : (cs : List Cond) → list_all fits cs ≡ true → list_all (λ (f : F). f nothing_bound) (map (cond_fits agent) cs) ≡ true
  each cs h = list_all-map (λ (f : F). f nothing_bound) (cond_fits agent) cs ∙ h

  fits-and : (cs : List Cond) → list_all fits cs ≡ true → fits (cond.And cs) ≡ true
  fits-and cs h = ap (λ (f : F). f nothing_bound) (fold-and F T (cond_step agent) (term_step agent) cs) ∙ each cs h

  pub fits-or : (cs : List Cond) → list_all fits cs ≡ true → fits (cond.Or cs) ≡ true
  fits-or cs h = ap (λ (f : F). f nothing_bound) (fold-or F T (cond_step agent) (term_step agent) cs) ∙ each cs h

  all_two : (c d : Cond) → fits c ≡ true → fits d ≡ true → list_all fits (c ∷ d ∷ []) ≡ true
  all_two c d h k = and_both (fits c) (fits d && true) h (and_both (fits d) true k refl)

  pub fits-both : (c d : Cond) → fits c ≡ true → fits d ≡ true → fits (cond.And (c ∷ d ∷ [])) ≡ true
  fits-both c d h k = fits-and (c ∷ d ∷ []) (all_two c d h k)

  pub fits-either : (c d : Cond) → fits c ≡ true → fits d ≡ true → fits (cond.Or (c ∷ d ∷ [])) ≡ true
  fits-either c d h k = fits-or (c ∷ d ∷ []) (all_two c d h k)

  pub fits-more : (cs : List Cond) (c : Cond) → list_all fits cs ≡ true → fits c ≡ true → list_all fits (cs ++ c ∷ []) ≡ true
  fits-more cs c h k = list_all-append fits cs (c ∷ []) ∙ and_both (list_all fits cs) (fits c && true) h (and_both (fits c) true k refl)

  -- lists of fronts
  pub closed-one : (f : Front) → fits f.cond ≡ true → are_closed agent (f ∷ []) ≡ true
  closed-one f h = and_both (fits f.cond) true h refl

  pub closed-both : (fs hs : List Front) → are_closed agent fs ≡ true → are_closed agent hs ≡ true → are_closed agent (fs ++ hs) ≡ true
  closed-both fs hs h k = list_all-append (λ (f : Front). fits f.cond) fs hs ∙ and_both (are_closed agent fs) (are_closed agent hs) h k

  pub closed-in : (f : Prog → Prog) (fs : List Front) → are_closed agent fs ≡ true → are_closed agent (map (front_in f) fs) ≡ true
  closed-in f fs h = list_all-map (λ (x : Front). fits x.cond) (front_in f) fs ∙ h

  pub closed-where : (c : Cond) (fs : List Front) → fits c ≡ true → are_closed agent fs ≡ true → are_closed agent (map (front_where c) fs) ≡ true
  closed-where c [] h k = refl
  closed-where c (f ∷ fs) h k =
      let l = and_cases (fits f.cond) (are_closed agent fs) k in
      and_both (fits (cond.And (c ∷ f.cond ∷ []))) (are_closed agent (map (front_where c) fs)) (fits-both c f.cond h l.0) (closed-where c fs h l.1)

  pub fits-none_open : (fs : List Front) → are_closed agent fs ≡ true → fits (none_open fs) ≡ true
  fits-none_open fs h =
      let conds = map (λ (f : Front). f.cond) fs in
      fits-not (cond.Or conds) (fits-or conds (list_all-map fits (λ (f : Front). f.cond) fs ∙ h))

  -- a constant of its sort, in place of the first variable
  puts_first : (n sort v : ℕ) (sorts : List ℕ) → nat_lt v (sort_size agent sort) ≡ true → Puts agent (Some (n, v)) (bound_from n (sort ∷ sorts)) (bound_from (suc n) sorts)
  puts_first n sort v sorts l = record { fits_too = λ x s h. go x s (x == n) h }
    where
      go : (x s : ℕ) (b : Bool) → option_map_or (λ k. k == s) (if b then Some sort else bound_from (suc n) sorts x) false ≡ true
          → arg_fits agent (bound_from (suc n) sorts) s (if b then Const v else Var x) ≡ true
      go x s true h = subst (λ k. nat_lt v (sort_size agent k) ≡ true) (eqb-true sort s h) l
      go x s false h = h

  -- constants of their sorts put in for all variables
  pub fits-puts : (args : List Arg) (sorts : List ℕ) (n : ℕ) (c : Cond) → cond_fits agent c (bound_from n sorts) ≡ true → args_fit agent nothing_bound sorts args ≡ true
      → fits (cond_put_args c n args) ≡ true
  fits-puts [] [] n c h k = h
  fits-puts [] (sort ∷ sorts) n c h k = absurd (cc)
  fits-puts (arg ∷ args) [] n c h k = absurd (cc)
  fits-puts (Const v ∷ args) (sort ∷ sorts) n c h k =
      let l = and_cases (nat_lt v (sort_size agent sort)) (args_fit agent nothing_bound sorts args) k in
      let e : suc n ≡ n + 1 = omega arith in
      let put = cond_put_fits agent c (Some (n, v)) (bound_from n (sort ∷ sorts)) (bound_from (suc n) sorts) (puts_first n sort v sorts l.0) h in
      fits-puts args sorts (n + 1) (cond_put c (Some (n, v))) (subst (λ m. cond_fits agent (cond_put c (Some (n, v))) (bound_from m sorts) ≡ true) e put) l.1
  fits-puts (Var x ∷ args) (sort ∷ sorts) n c h k = absurd (cc)
