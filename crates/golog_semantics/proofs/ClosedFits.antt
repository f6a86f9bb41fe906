-- Constants of their sorts put in for all variables make a body fit with no free variable.
use Rattle.std.proofs.Common.{◌≡◌, ℕ, zero, suc, ◌+◌, ◌<◌, Bool, true, false, ◌&&◌, if◌then◌else◌, ◌==◌, List, [], ◌∷◌, Option, Some, None, refl, sym, ap, ◌∙◌, subst, arith}
use Rattle.std.specs.Prelude.{not, nat_lt, slice_get}
use Rattle.std.specs.List.{list_all}
use Rattle.std.specs.Option.{option_map_or}
use Rattle.std.proofs.lemmas.Bool.{eqb-true}
use Rattle.golog_tree.specs.declared.agent.Agent.{Agent}
use Rattle.golog_tree.specs.declared.agent.ProcItem.{ProcItem}
use Rattle.golog_tree.specs.declared.cond.Arg.{Arg}
use Rattle.golog_tree.specs.declared.cond.Arg.TheVariants.{Const, Var}
use Rattle.golog_tree.specs.declared.prog.Prog.{Prog}
use Rattle.golog_tree.specs.Ground.{sort_size}
use Rattle.golog_semantics.specs.Program.{put_arg, put_args, body_with, body_of}
use Rattle.golog_semantics.specs.BlockFree.{block_at, proc_blocks}
use Rattle.golog_semantics.specs.Fits.{Scope, arg_fits, args_fit, bound, bound_from, nothing_bound}
use Rattle.golog_semantics.specs.ProgFits.{call_fits, prog_fits}
use Rattle.golog_semantics.specs.FitLaws.{ProcsFit}
use Rattle.golog_semantics.proofs.BlockRounds.{block_in_body, unblocked}
use Rattle.golog_semantics.proofs.ProgPut.{at_scope, prog_put_fits}
use Rattle.golog_semantics.proofs.ScopePut.{Puts}
use Rattle.golog_semantics.proofs.Tests.{and_cases}

module _ (agent : Agent) where
  -- no variable is bound
  abbrev pub Closed : Bool → Prog → Type 0
  Closed in_block p = prog_fits agent p (at_scope nothing_bound in_block) ≡ true

  below : (n m : ℕ) → n < m → nat_lt n m ≡ true
  below n m h = grind arith

  -- a constant of the sort, in place of a variable that is bound to it
  puts_one : (x sort c : ℕ) (inner outer : Scope) → ((y : ℕ) → inner y ≡ (if y == x then Some sort else outer y)) → c < sort_size agent sort → Puts agent (Some (x, c)) inner outer
  puts_one x sort c inner outer is l = record { fits_too = λ y s h. go y s (y == x) (sym (ap (λ o. option_map_or (λ k. k == s) o false) (is y)) ∙ h) }
    where
      go : (y s : ℕ) (b : Bool) → option_map_or (λ k. k == s) (if b then Some sort else outer y) false ≡ true → arg_fits agent outer s (if b then Const c else Var y) ≡ true
      go y s true h = subst (λ k. nat_lt c (sort_size agent k) ≡ true) (eqb-true sort s h) (below c (sort_size agent sort) l)
      go y s false h = h

  pub put_closed : (b : Bool) (p : Prog) (x sort c : ℕ) → prog_fits agent p (at_scope (bound nothing_bound x sort) b) ≡ true → c < sort_size agent sort → Closed b (put_arg p x c)
  put_closed b p x sort c h l = prog_put_fits agent p (Some (x, c)) (bound nothing_bound x sort) nothing_bound b (puts_one x sort c (bound nothing_bound x sort) nothing_bound (λ y. refl) l) h

  args_closed : (b : Bool) (args : List Arg) (sorts : List ℕ) (n : ℕ) (p : Prog) → prog_fits agent p (at_scope (bound_from n sorts) b) ≡ true → args_fit agent nothing_bound sorts args ≡ true → Closed b (put_args p n args)
  args_closed b [] [] n p h k = h
  args_closed b [] (sort ∷ sorts) n p h k = absurd (cc)
  args_closed b (arg ∷ args) [] n p h k = absurd (cc)
  args_closed b (Const c ∷ args) (sort ∷ sorts) n p h k =
      let l = and_cases (nat_lt c (sort_size agent sort)) (args_fit agent nothing_bound sorts args) k in
      let e : suc n ≡ n + 1 = omega arith in
      let put = prog_put_fits agent p (Some (n, c)) (bound_from n (sort ∷ sorts)) (bound_from (suc n) sorts) b (puts_one n sort c (bound_from n (sort ∷ sorts)) (bound_from (suc n) sorts) (λ y. refl) (let a = l.0 in grind arith)) h in
      args_closed b args sorts (n + 1) (put_arg p n c) (subst (λ m. prog_fits agent (put_arg p n c) (at_scope (bound_from m sorts) b) ≡ true) e put) l.1
  args_closed b (Var x ∷ args) (sort ∷ sorts) n p h k = absurd (cc)

  abbrev BodyFits : ProcItem → Bool
  BodyFits proc = prog_fits agent proc.body (at_scope (bound_from 0 proc.params) false)

  body_fits : (procs : List ProcItem) (item : ℕ) (proc : ProcItem) → list_all BodyFits procs ≡ true → slice_get procs item ≡ Some proc → BodyFits proc ≡ true
  body_fits [] item proc h e = absurd (cc)
  body_fits (i ∷ procs) zero proc h e = let is : i ≡ proc = cc in subst (λ z. BodyFits z ≡ true) is (and_cases (BodyFits i) (list_all BodyFits procs) h).0
  body_fits (i ∷ procs) (suc item) proc h e = body_fits procs item proc (and_cases (BodyFits i) (list_all BodyFits procs) h).1 e

  -- where the body may stand in a block, it fits there
  within_fits : (b : Bool) (item : ℕ) (proc : ProcItem) → slice_get agent.procs item ≡ Some proc → BodyFits proc ≡ true → not (b && block_at (proc_blocks agent) item) ≡ true
      → prog_fits agent proc.body (at_scope (bound_from 0 proc.params) b) ≡ true
  within_fits false item proc e h k = h
  within_fits true item proc e h k = unblocked agent proc.body (sym (block_in_body agent item proc e) ∙ not_true (block_at (proc_blocks agent) item) k) (bound_from 0 proc.params) h
    where
      not_true : (c : Bool) → not c ≡ true → c ≡ false
      not_true true e = sym e
      not_true false e = refl

  body_closed-of : ProcsFit agent → (b : Bool) (item : ℕ) (args : List Arg) (o : Option ProcItem) → slice_get agent.procs item ≡ o
      → option_map_or (λ (proc : ProcItem). args_fit agent nothing_bound proc.params args) o false ≡ true → not (b && block_at (proc_blocks agent) item) ≡ true → Closed b (body_with o args)
  body_closed-of p b item args None e h k = absurd (cc)
  body_closed-of p b item args (Some proc) e h k = args_closed b args proc.params 0 proc.body (within_fits b item proc e (body_fits agent.procs item proc p.bodies e) k) h

  -- the body of a call that fits
  pub body_closed : ProcsFit agent → (b : Bool) (item : ℕ) (args : List Arg) → call_fits agent (at_scope nothing_bound b) item args ≡ true → Closed b (body_of agent item args)
  body_closed p b item args h =
      let k = and_cases (option_map_or (λ (proc : ProcItem). args_fit agent nothing_bound proc.params args) (slice_get agent.procs item) false) (not (b && block_at (proc_blocks agent) item)) h in
      body_closed-of p b item args (slice_get agent.procs item) refl k.0 k.1
