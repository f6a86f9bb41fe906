-- Conditions and programs still fit where a constant of its sort is put in for a variable.
use Rattle.std.proofs.Common.{◌≡◌, ℕ, Bool, true, false, ◌&&◌, if◌then◌else◌, ◌==◌, List, [], ◌∷◌, map, Option, Some, None, refl, sym, ap, ◌∙◌}
use Rattle.std.specs.Prelude.{slice_get}
use Rattle.std.specs.List.{list_all}
use Rattle.std.specs.Option.{option_map_or}
use Rattle.std.proofs.lemmas.Bool.{eqb-true}
use Rattle.golog_tree.specs.declared.agent.Agent.{Agent}
use Rattle.golog_tree.specs.declared.agent.FluentItem.{FluentItem}
use Rattle.golog_tree.specs.declared.cond.Arg.{Arg}
use Rattle.golog_tree.specs.declared.cond.Arg.TheVariants.{Const, Var}
use Rattle.golog_tree.specs.declared.cond.Cond.{Cond}
use Rattle.golog_tree.specs.declared.cond.Term.{Term}
use Rattle.golog_tree.specs.Substitute.{Put, within, arg_put, cond_put, term_put}
use Rattle.golog_semantics.specs.Fits.{Scope, bound, arg_fits, args_fit, fluent_fits, bool_sort, is_sort, is_range, binder_fits, cond_fits, term_fits, cond_step, term_step}
use Rattle.golog_semantics.proofs.CondByParts as conds
use Rattle.golog_semantics.proofs.ByParts.{OfEach}
use Rattle.golog_semantics.proofs.Tests.{and_more}

-- the same where a test says that two numbers differ
bound-other : (scope : Scope) (y s x : ℕ) → (x == y) ≡ false → bound scope y s x ≡ scope x
bound-other scope y s x e = ap (λ b. if b then Some s else scope x) e

bound-same : (scope : Scope) (y s x : ℕ) → (x == y) ≡ true → bound scope y s x ≡ Some s
bound-same scope y s x e = ap (λ b. if b then Some s else scope x) e

-- within a binder of a variable that variable stays
within-self : (put : Put) (y x : ℕ) → x ≡ y → arg_put (within y put) (Var x) ≡ Var x
within-self None y x e = refl
within-self (Some (z, c)) y x e = go (y == z) refl
  where
    go : (b : Bool) → (y == z) ≡ b → arg_put (if y == z then None else Some (z, c)) (Var x) ≡ Var x
    go true h = ap (λ d. arg_put (if d then None else Some (z, c)) (Var x)) h
    go false h = ap (λ d. arg_put (if d then None else Some (z, c)) (Var x)) h ∙ ap (λ d. if d then Const c else Var x) (ap (λ k. k == z) e ∙ h)

-- and every other one is put in for as outside
within-other : (put : Put) (y x : ℕ) → (x == y) ≡ false → arg_put (within y put) (Var x) ≡ arg_put put (Var x)
within-other None y x e = refl
within-other (Some (z, c)) y x e = go (y == z) refl
  where
    go : (b : Bool) → (y == z) ≡ b → arg_put (if y == z then None else Some (z, c)) (Var x) ≡ (if x == z then Const c else Var x)
    go true h = ap (λ d. arg_put (if d then None else Some (z, c)) (Var x)) h ∙ sym (ap (λ d. if d then Const c else Var x) (ap (λ k. x == k) (sym (eqb-true y z h)) ∙ e))
    go false h = ap (λ d. arg_put (if d then None else Some (z, c)) (Var x)) h

module _ (agent : Agent) where
  -- what fits the first scope fits the second one, with the constant put in
  pub record Puts (put : Put) (one other : Scope) : Type 0 where
    pub fits_too : (x sort : ℕ) → arg_fits agent one sort (Var x) ≡ true → arg_fits agent other sort (arg_put put (Var x)) ≡ true

  bound_fits : (put : Put) (scope : Scope) (y s x sort : ℕ) → (x == y) ≡ false → arg_fits agent scope sort (arg_put put (Var x)) ≡ true
      → arg_fits agent (bound scope y s) sort (arg_put put (Var x)) ≡ true
  bound_fits None scope y s x sort e h = ap (λ o. option_map_or (λ k. k == sort) o false) (bound-other scope y s x e) ∙ h
  bound_fits (Some (z, c)) scope y s x sort e h = go (x == z) h
    where
      go : (b : Bool) → arg_fits agent scope sort (if b then Const c else Var x) ≡ true → arg_fits agent (bound scope y s) sort (if b then Const c else Var x) ≡ true
      go true k = k
      go false k = ap (λ o. option_map_or (λ n. n == sort) o false) (bound-other scope y s x e) ∙ k

  pub puts_bound : (put : Put) (one other : Scope) → Puts put one other → (y s : ℕ) → Puts (within y put) (bound one y s) (bound other y s)
  puts_bound put one other p y s = record { fits_too = λ x sort h. go x sort h (x == y) refl }
    where
      go : (x sort : ℕ) → arg_fits agent (bound one y s) sort (Var x) ≡ true → (b : Bool) → (x == y) ≡ b → arg_fits agent (bound other y s) sort (arg_put (within y put) (Var x)) ≡ true
      go x sort h true e =
          ap (arg_fits agent (bound other y s) sort) (within-self put y x (eqb-true x y e))
          ∙ ap (λ o. option_map_or (λ n. n == sort) o false) (bound-same other y s x e ∙ sym (bound-same one y s x e)) ∙ h
      go x sort h false e =
          ap (arg_fits agent (bound other y s) sort) (within-other put y x e)
          ∙ bound_fits put other y s x sort e (p.fits_too x sort (sym (ap (λ o. option_map_or (λ n. n == sort) o false) (bound-other one y s x e)) ∙ h))

  put_const : (put : Put) (c : ℕ) → arg_put put (Const c) ≡ Const c
  put_const None c = refl
  put_const (Some (z, d)) c = refl

  arg_put_fits : (put : Put) (one other : Scope) → Puts put one other → (sort : ℕ) (arg : Arg) → arg_fits agent one sort arg ≡ true → arg_fits agent other sort (arg_put put arg) ≡ true
  arg_put_fits put one other p sort (Const c) h = ap (arg_fits agent other sort) (put_const put c) ∙ h
  arg_put_fits put one other p sort (Var x) h = p.fits_too x sort h

  pub args_put_fit : (put : Put) (one other : Scope) → Puts put one other → (sorts : List ℕ) (args : List Arg) → args_fit agent one sorts args ≡ true → args_fit agent other sorts (map (arg_put put) args) ≡ true
  args_put_fit put one other p [] [] h = h
  args_put_fit put one other p [] (arg ∷ args) h = h
  args_put_fit put one other p (sort ∷ sorts) [] h = h
  args_put_fit put one other p (sort ∷ sorts) (arg ∷ args) h =
      and_more (arg_fits agent one sort arg) (arg_fits agent other sort (arg_put put arg)) (args_fit agent one sorts args) (args_fit agent other sorts (map (arg_put put) args))
      (arg_put_fits put one other p sort arg) (args_put_fit put one other p sorts args) h

  pub option_more : {A : Type 0} (f g : A → Bool) → ((x : A) → f x ≡ true → g x ≡ true) → (o : Option A) → option_map_or f o false ≡ true → option_map_or g o false ≡ true
  option_more f g h None e = e
  option_more f g h (Some x) e = h x e

  fluent_put_fits : (put : Put) (one other : Scope) → Puts put one other → (sort fluent : ℕ) (args : List Arg) → fluent_fits agent one sort fluent args ≡ true → fluent_fits agent other sort fluent (map (arg_put put) args) ≡ true
  fluent_put_fits put one other p sort fluent args =
      option_more (λ (item : FluentItem). item.sort == sort && args_fit agent one item.args args) (λ (item : FluentItem). item.sort == sort && args_fit agent other item.args (map (arg_put put) args))
      (λ item. and_more (item.sort == sort) (item.sort == sort) (args_fit agent one item.args args) (args_fit agent other item.args (map (arg_put put) args)) (λ e. e) (args_put_fit put one other p item.args args))
      (slice_get agent.fluents fluent)

  abbrev PutCond : Cond → Type 0
  PutCond c = (put : Put) (one other : Scope) → Puts put one other → cond_fits agent c one ≡ true → cond_fits agent (cond_put c put) other ≡ true

  abbrev PutTerm : Term → Type 0
  PutTerm t = (put : Put) (one other : Scope) → Puts put one other → (sort : ℕ) → term_fits agent t one sort ≡ true → term_fits agent (term_put t put) other sort ≡ true

  abbrev A : Type 0
  A = Scope → Bool

  abbrev B : Type 0
  B = Scope → ℕ → Bool

  all_put : (cs : List Cond) (put : Put) (one other : Scope) → Puts put one other → OfEach PutCond cs → list_all (λ c. c one) (map (cond_fits agent) cs) ≡ true
      → list_all (λ c. c other) (map (cond_fits agent) (map (λ c. cond_put c put) cs)) ≡ true
  all_put [] put one other p h e = e
  all_put (c ∷ cs) put one other p h e =
      and_more (cond_fits agent c one) (cond_fits agent (cond_put c put) other) (list_all (λ d. d one) (map (cond_fits agent) cs)) (list_all (λ d. d other) (map (cond_fits agent) (map (λ d. cond_put d put) cs)))
      (h.0 put one other p) (all_put cs put one other p h.1) e

  cond_cases : conds.Cases PutCond PutTerm
  cond_cases = record {
    arg_case = λ arg put one other p to e.
        ap (λ z. term_fits agent z other to) (conds.put-arg arg put) ∙ ap (λ (f : B). f other to) (conds.fold-arg A B (cond_step agent) (term_step agent) (arg_put put arg))
        ∙ arg_put_fits put one other p to arg (sym (ap (λ (f : B). f one to) (conds.fold-arg A B (cond_step agent) (term_step agent) arg)) ∙ e);
    fluent_case = λ fluent args put one other p to e.
        ap (λ z. term_fits agent z other to) (conds.put-fluent fluent args put) ∙ ap (λ (f : B). f other to) (conds.fold-fluent A B (cond_step agent) (term_step agent) fluent (map (arg_put put) args))
        ∙ fluent_put_fits put one other p to fluent args (sym (ap (λ (f : B). f one to) (conds.fold-fluent A B (cond_step agent) (term_step agent) fluent args)) ∙ e);
    shift_case = λ sort t by h1 put one other p to e.
        ap (λ z. term_fits agent z other to) (conds.put-shift sort t by put) ∙ ap (λ (f : B). f other to) (conds.fold-shift A B (cond_step agent) (term_step agent) sort (term_put t put) by)
        ∙ and_more (sort == to && is_range agent to) (sort == to && is_range agent to) (term_fits agent t one to) (term_fits agent (term_put t put) other to) (λ k. k) (h1 put one other p to) (sym (ap (λ (f : B). f one to) (conds.fold-shift A B (cond_step agent) (term_step agent) sort t by)) ∙ e);
    ite_case = λ c t u h0 h1 h2 put one other p to e.
        ap (λ z. term_fits agent z other to) (conds.put-ite c t u put) ∙ ap (λ (f : B). f other to) (conds.fold-ite A B (cond_step agent) (term_step agent) (cond_put c put) (term_put t put) (term_put u put))
        ∙ and_more (cond_fits agent c one && (term_fits agent t one to)) (cond_fits agent (cond_put c put) other && (term_fits agent (term_put t put) other to)) (term_fits agent u one to) (term_fits agent (term_put u put) other to) (and_more (cond_fits agent c one) (cond_fits agent (cond_put c put) other) (term_fits agent t one to) (term_fits agent (term_put t put) other to) (h0 put one other p) (h1 put one other p to)) (h2 put one other p to) (sym (ap (λ (f : B). f one to) (conds.fold-ite A B (cond_step agent) (term_step agent) c t u)) ∙ e);
    truth_case = λ b put one other p e.
        ap (λ z. cond_fits agent z other) (conds.put-truth b put) ∙ ap (λ (f : A). f other) (conds.fold-truth A B (cond_step agent) (term_step agent) b)
        ∙ (λ (k : true ≡ true). k) refl;
    is_case = λ fluent args put one other p e.
        ap (λ z. cond_fits agent z other) (conds.put-is fluent args put) ∙ ap (λ (f : A). f other) (conds.fold-is A B (cond_step agent) (term_step agent) fluent (map (arg_put put) args))
        ∙ fluent_put_fits put one other p bool_sort fluent args (sym (ap (λ (f : A). f one) (conds.fold-is A B (cond_step agent) (term_step agent) fluent args)) ∙ e);
    equal_case = λ sort t u h1 h2 put one other p e.
        ap (λ z. cond_fits agent z other) (conds.put-equal sort t u put) ∙ ap (λ (f : A). f other) (conds.fold-equal A B (cond_step agent) (term_step agent) sort (term_put t put) (term_put u put))
        ∙ and_more (is_sort agent sort && (term_fits agent t one sort)) (is_sort agent sort && (term_fits agent (term_put t put) other sort)) (term_fits agent u one sort) (term_fits agent (term_put u put) other sort) (and_more (is_sort agent sort) (is_sort agent sort) (term_fits agent t one sort) (term_fits agent (term_put t put) other sort) (λ k. k) (h1 put one other p sort)) (h2 put one other p sort) (sym (ap (λ (f : A). f one) (conds.fold-equal A B (cond_step agent) (term_step agent) sort t u)) ∙ e);
    less_case = λ sort t u h1 h2 put one other p e.
        ap (λ z. cond_fits agent z other) (conds.put-less sort t u put) ∙ ap (λ (f : A). f other) (conds.fold-less A B (cond_step agent) (term_step agent) sort (term_put t put) (term_put u put))
        ∙ and_more (is_range agent sort && (term_fits agent t one sort)) (is_range agent sort && (term_fits agent (term_put t put) other sort)) (term_fits agent u one sort) (term_fits agent (term_put u put) other sort) (and_more (is_range agent sort) (is_range agent sort) (term_fits agent t one sort) (term_fits agent (term_put t put) other sort) (λ k. k) (h1 put one other p sort)) (h2 put one other p sort) (sym (ap (λ (f : A). f one) (conds.fold-less A B (cond_step agent) (term_step agent) sort t u)) ∙ e);
    at_most_case = λ sort t u h1 h2 put one other p e.
        ap (λ z. cond_fits agent z other) (conds.put-at_most sort t u put) ∙ ap (λ (f : A). f other) (conds.fold-at_most A B (cond_step agent) (term_step agent) sort (term_put t put) (term_put u put))
        ∙ and_more (is_range agent sort && (term_fits agent t one sort)) (is_range agent sort && (term_fits agent (term_put t put) other sort)) (term_fits agent u one sort) (term_fits agent (term_put u put) other sort) (and_more (is_range agent sort) (is_range agent sort) (term_fits agent t one sort) (term_fits agent (term_put t put) other sort) (λ k. k) (h1 put one other p sort)) (h2 put one other p sort) (sym (ap (λ (f : A). f one) (conds.fold-at_most A B (cond_step agent) (term_step agent) sort t u)) ∙ e);
    not_case = λ c h0 put one other p e.
        ap (λ z. cond_fits agent z other) (conds.put-not c put) ∙ ap (λ (f : A). f other) (conds.fold-not A B (cond_step agent) (term_step agent) (cond_put c put))
        ∙ h0 put one other p (sym (ap (λ (f : A). f one) (conds.fold-not A B (cond_step agent) (term_step agent) c)) ∙ e);
    and_case = λ cs h0 put one other p e.
        ap (λ z. cond_fits agent z other) (conds.put-and cs put) ∙ ap (λ (f : A). f other) (conds.fold-and A B (cond_step agent) (term_step agent) (map (λ c. cond_put c put) cs))
        ∙ all_put cs put one other p h0 (sym (ap (λ (f : A). f one) (conds.fold-and A B (cond_step agent) (term_step agent) cs)) ∙ e);
    or_case = λ cs h0 put one other p e.
        ap (λ z. cond_fits agent z other) (conds.put-or cs put) ∙ ap (λ (f : A). f other) (conds.fold-or A B (cond_step agent) (term_step agent) (map (λ c. cond_put c put) cs))
        ∙ all_put cs put one other p h0 (sym (ap (λ (f : A). f one) (conds.fold-or A B (cond_step agent) (term_step agent) cs)) ∙ e);
    some_case = λ x sort c h2 put one other p e.
        ap (λ z. cond_fits agent z other) (conds.put-some x sort c put) ∙ ap (λ (f : A). f other) (conds.fold-some A B (cond_step agent) (term_step agent) x sort (cond_put c (within x put)))
        ∙ and_more (binder_fits agent x sort) (binder_fits agent x sort) (cond_fits agent c (bound one x sort)) (cond_fits agent (cond_put c (within x put)) (bound other x sort)) (λ k. k) (h2 (within x put) (bound one x sort) (bound other x sort) (puts_bound put one other p x sort)) (sym (ap (λ (f : A). f one) (conds.fold-some A B (cond_step agent) (term_step agent) x sort c)) ∙ e);
    all_case = λ x sort c h2 put one other p e.
        ap (λ z. cond_fits agent z other) (conds.put-all x sort c put) ∙ ap (λ (f : A). f other) (conds.fold-all A B (cond_step agent) (term_step agent) x sort (cond_put c (within x put)))
        ∙ and_more (binder_fits agent x sort) (binder_fits agent x sort) (cond_fits agent c (bound one x sort)) (cond_fits agent (cond_put c (within x put)) (bound other x sort)) (λ k. k) (h2 (within x put) (bound one x sort) (bound other x sort) (puts_bound put one other p x sort)) (sym (ap (λ (f : A). f one) (conds.fold-all A B (cond_step agent) (term_step agent) x sort c)) ∙ e);
  }

  pub cond_put_fits : (c : Cond) → PutCond c
  cond_put_fits = conds.cond_by_parts PutCond PutTerm cond_cases
