-- The rounds of reaching tell exactly which procedures reach one without a step.
use Rattle.std.proofs.Common.{◌≡◌, inl, inr, ℕ, zero, suc, Bool, true, false, ◌||◌, ◌==◌, List, [], ◌∷◌, length, map, Option, Some, None, refl, sym, ap, subst, ◌∙◌, arith}
use Rattle.std.specs.Prelude.{Contains, slice_get, unwrap_or}
use Rattle.std.specs.List.{list_any}
use Rattle.std.specs.Option.{option_map_or}
use Rattle.std.proofs.lemmas.Bool.{eqb-true, eq-eqb}
use Rattle.golog_tree.specs.declared.agent.Agent.{Agent}
use Rattle.golog_tree.specs.declared.agent.ProcItem.{ProcItem}
use Rattle.golog_semantics.specs.FrontCalls.{front_calls, body_calls, proc_calls, directly, through, Reaches}
use Rattle.golog_semantics.proofs.Rounds.{Below, below-at, last_round, tested-rounds}
use Rattle.golog_semantics.proofs.Tests.{or_cases, or_first, or_second, or_more}
use Rattle.golog_shapes.specs.Unguarded.{said, leads_to, reaching_to, reaching}

pub any-in : (f : ℕ → Bool) (xs : List ℕ) (x : ℕ) → Contains xs x → f x ≡ true → list_any f xs ≡ true
any-in f [] x h e = absurd (omega arith)
any-in f (y ∷ xs) x (zero, l, is) e = or_first (f y) (list_any f xs) (ap f is ∙ e)
any-in f (y ∷ xs) x (suc k, l, is) e = or_second (f y) (list_any f xs) (any-in f xs x (k, omega arith, is) e)

-- one of the list that passes
record Passes (f : ℕ → Bool) (xs : List ℕ) : Type 0 where
  one : ℕ
  there : Contains xs one
  passes : f one ≡ true

further : (xs : List ℕ) (y x : ℕ) → Contains xs x → Contains (y ∷ xs) x
further xs y x (k, l, is) = (suc k, omega arith, is)

in-any : (f : ℕ → Bool) (xs : List ℕ) → list_any f xs ≡ true → Passes f xs
in-any f [] e = absurd (cc)
in-any f (y ∷ xs) e =
    elim (or_cases (f y) (list_any f xs) e) [
      | inl h ↦ record { one = y; there = (0, omega arith, refl); passes = h }
      | inr h ↦
          let found = in-any f xs h in
          record { one = found.one; there = further xs y found.one found.there; passes = found.passes }
    ]

leads-more : (goal : ℕ) (bs cs : List Bool) → Below bs cs → (calls : List ℕ) → leads_to goal bs calls ≡ true → leads_to goal cs calls ≡ true
leads-more goal bs cs h [] e = e
leads-more goal bs cs h (item ∷ calls) e =
    or_more (item == goal || said bs item) (item == goal || said cs item) (leads_to goal bs calls) (leads_to goal cs calls)
    (or_more (item == goal) (item == goal) (said bs item) (said cs item) (λ k. k) (below-at (λ o. unwrap_or o false) (λ b. refl) bs cs h item))
    (leads-more goal bs cs h calls) e

said-map : (f : ProcItem → Bool) (items : List ProcItem) (item : ℕ) → said (map f items) item ≡ option_map_or f (slice_get items item) false
said-map f [] item = refl
said-map f (i ∷ items) zero = refl
said-map f (i ∷ items) (suc item) = said-map f items item

none-said : (items : List ProcItem) (item : ℕ) → said (map (λ i. false) items) item ≡ false
none-said [] item = refl
none-said (i ∷ items) zero = refl
none-said (i ∷ items) (suc item) = none-said items item

module _ (agent : Agent) (goal : ℕ) where
  abbrev leads : List Bool → ProcItem → Bool
  leads reached item = leads_to goal reached (front_calls agent item.body)

  -- one more round says the same
  pub settled : reaching agent goal ≡ map (leads (reaching agent goal)) agent.procs
  unfolding reaching
  settled =
      last_round (λ k. reaching_to agent k goal) (length agent.procs)
      (tested-rounds agent.procs leads (λ k. reaching_to agent k goal) refl (λ k. refl) (λ bs cs h item. leads-more goal bs cs h (front_calls agent item.body)))

  pub said-at : (p : ℕ) → said (reaching agent goal) p ≡ option_map_or (leads (reaching agent goal)) (slice_get agent.procs p) false
  said-at p = ap (λ bs. said bs p) settled ∙ said-map (leads (reaching agent goal)) agent.procs p

  by-call : (o : Option ProcItem) (r : ℕ) → Contains (body_calls agent o) r → (r == goal || said (reaching agent goal) r) ≡ true
      → option_map_or (leads (reaching agent goal)) o false ≡ true
  by-call None r c e = absurd (omega arith)
  by-call (Some item) r c e = any-in (λ i. i == goal || said (reaching agent goal) i) (front_calls agent item.body) r c e

  -- which procedures reach it is said of them
  pub reach-said : (p : ℕ) → Reaches agent goal p → said (reaching agent goal) p ≡ true
  reach-said p (directly q c) =
      said-at q ∙ by-call (slice_get agent.procs q) goal c (or_first (goal == goal) (said (reaching agent goal) goal) (eq-eqb goal goal refl))
  reach-said p (through q r c more) =
      said-at q ∙ by-call (slice_get agent.procs q) r c (or_second (r == goal) (said (reaching agent goal) r) (reach-said r more))

  from-call : (p : ℕ) (o : Option ProcItem) → slice_get agent.procs p ≡ o → (reached : List Bool)
      → ((r : ℕ) → said reached r ≡ true → Reaches agent goal r) → option_map_or (leads reached) o false ≡ true → Reaches agent goal p
  from-call p None e reached more h = absurd (cc)
  from-call p (Some item) e reached more h =
      let found = in-any (λ i. i == goal || said reached i) (front_calls agent item.body) h in
      let r = found.one in
      let there : Contains (proc_calls agent p) r = subst (λ o. Contains (body_calls agent o) r) (sym e) found.there in
      elim (or_cases (r == goal) (said reached r) found.passes) [
        | inl same ↦ directly p (subst (λ i. Contains (proc_calls agent p) i) (eqb-true r goal same) there)
        | inr k ↦ through p r there (more r k)
      ]

  said-to : (k p : ℕ) → said (reaching_to agent k goal) p ≡ true → Reaches agent goal p
  said-to zero p h = absurd (let n = none-said agent.procs p in cc)
  said-to (suc k) p h =
      from-call p (slice_get agent.procs p) refl (reaching_to agent k goal) (said-to k)
      (sym (said-map (leads (reaching_to agent k goal)) agent.procs p) ∙ h)

  -- and it is said of no others
  pub said-reach : (p : ℕ) → said (reaching agent goal) p ≡ true → Reaches agent goal p
  unfolding reaching
  said-reach p h = said-to (length agent.procs) p h
