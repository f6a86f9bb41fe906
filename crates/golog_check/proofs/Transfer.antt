-- Two agents whose procedures are alike call, reach, nest and search alike.
use Rattle.std.proofs.Common.{◌≡◌, ℕ, zero, suc, ◌+◌, ◌*◌, Bool, false, List, [], ◌∷◌, length, map, refl, sym, ap, subst, ◌∙◌}
use Rattle.std.specs.Prelude.{⊤, Contains, slice_get, slice_index}
use Rattle.golog_tree.specs.declared.agent.Agent.{Agent}
use Rattle.golog_tree.specs.declared.agent.ProcItem.{ProcItem}
use Rattle.golog_tree.specs.Nest.{nest}
use Rattle.golog_semantics.specs.BlockFree.{has_block_by, proc_blocks, proc_blocks_to}
use Rattle.golog_semantics.specs.Guarded.{Front, front_by, fronts_to, no_front, proc_fronts}
use Rattle.golog_semantics.specs.FrontCalls.{Calling, calling, front_calls, body_calls, proc_calls, greatest, nests_to, front_nests, directly, through, Reaches}

pub record Alike (x y : ProcItem) : Type 0 where
  pub nests : nest x.body ≡ nest y.body
  pub fronts : (fs : List Front) → front_by fs x.body ≡ front_by fs y.body
  pub calls : (fs : List Front) → calling fs x.body ≡ calling fs y.body
  pub blocks : (bs : List Bool) → has_block_by bs x.body ≡ has_block_by bs y.body

abbrev pub AllAlike : List ProcItem → List ProcItem → Type 0
AllAlike [] [] = ⊤
AllAlike [] (y ∷ ys) = ⊥
AllAlike (x ∷ xs) [] = ⊥
AllAlike (x ∷ xs) (y ∷ ys) = Alike x y × AllAlike xs ys

pub map-alike : {B : Type 0} (f g : ProcItem → B) → ((x y : ProcItem) → Alike x y → f x ≡ g y)
    → (xs ys : List ProcItem) → AllAlike xs ys → map f xs ≡ map g ys
map-alike f g h [] [] a = refl
map-alike f g h [] (y ∷ ys) a = absurd a
map-alike f g h (x ∷ xs) [] a = absurd a
map-alike f g h (x ∷ xs) (y ∷ ys) a = ap (λ b. b ∷ map f xs) (h x y a.0) ∙ ap (λ bs. g y ∷ bs) (map-alike f g h xs ys a.1)

long : (xs ys : List ProcItem) → AllAlike xs ys → length xs ≡ length ys
long [] [] a = refl
long [] (y ∷ ys) a = absurd a
long (x ∷ xs) [] a = absurd a
long (x ∷ xs) (y ∷ ys) a = ap suc (long xs ys a.1)

module _ (agent other : Agent) (alike : AllAlike agent.procs other.procs) where
  same-long : length agent.procs ≡ length other.procs
  same-long = long agent.procs other.procs alike

  -- what rounds find of each procedure, from what they found before
  rounds-same : {B : Type 0} (none : B) (by : Agent → List B → ProcItem → B) (to : ℕ → Agent → List B)
      → ((of : Agent) → to zero of ≡ map (λ item. none) of.procs) → ((k : ℕ) (of : Agent) → to (suc k) of ≡ map (by of (to k of)) of.procs)
      → ((bs : List B) (x y : ProcItem) → Alike x y → by agent bs x ≡ by other bs y) → (k : ℕ) → to k agent ≡ to k other
  rounds-same none by to first next same zero =
      first agent ∙ map-alike (λ item. none) (λ item. none) (λ x y a. refl) agent.procs other.procs alike ∙ sym (first other)
  rounds-same none by to first next same (suc k) =
      next k agent ∙ ap (λ bs. map (by agent bs) agent.procs) (rounds-same none by to first next same k)
      ∙ map-alike (by agent (to k other)) (by other (to k other)) (same (to k other)) agent.procs other.procs alike ∙ sym (next k other)

  fronts-same : (k : ℕ) → fronts_to k agent ≡ fronts_to k other
  fronts-same = rounds-same no_front (λ of fs item. front_by fs item.body) (λ k of. fronts_to k of) (λ of. refl) (λ k of. refl) (λ fs x y a. a.fronts fs)

  pub same-fronts : proc_fronts agent ≡ proc_fronts other
  unfolding proc_fronts
  same-fronts = ap (λ n. fronts_to (2 * n) agent) same-long ∙ fronts-same (2 * length other.procs)

  same-calls : (x y : ProcItem) → Alike x y → front_calls agent x.body ≡ front_calls other y.body
  same-calls x y a =
      ap (λ fs. (calling fs x.body).calls) same-fronts ∙ ap (λ (c : Calling). c.calls) (a.calls (proc_fronts other))

  abbrev nest_in : Agent → List ℕ → ProcItem → ℕ
  nest_in of nests item = nest item.body + greatest (map (slice_index nests) (front_calls of item.body))

  nests-same : (k : ℕ) → nests_to k agent ≡ nests_to k other
  nests-same = rounds-same 0 nest_in (λ k of. nests_to k of) (λ of. refl) (λ k of. refl) (λ nests x y a.
      ap (λ n. n + greatest (map (slice_index nests) (front_calls agent x.body))) a.nests
      ∙ ap (λ cs. nest y.body + greatest (map (slice_index nests) cs)) (same-calls x y a))

  pub same-nests : front_nests agent ≡ front_nests other
  unfolding front_nests
  same-nests = ap (λ n. nests_to n agent) same-long ∙ nests-same (length other.procs)

  blocks-same : (k : ℕ) → proc_blocks_to k agent ≡ proc_blocks_to k other
  blocks-same = rounds-same false (λ of bs item. has_block_by bs item.body) (λ k of. proc_blocks_to k of) (λ of. refl) (λ k of. refl) (λ bs x y a. a.blocks bs)

  pub same-blocks : proc_blocks agent ≡ proc_blocks other
  unfolding proc_blocks
  same-blocks = ap (λ n. proc_blocks_to n agent) same-long ∙ blocks-same (length other.procs)

  calls-in : (xs ys : List ProcItem) → AllAlike xs ys → (p : ℕ) → body_calls agent (slice_get xs p) ≡ body_calls other (slice_get ys p)
  calls-in [] [] a p = refl
  calls-in [] (y ∷ ys) a p = absurd a
  calls-in (x ∷ xs) [] a p = absurd a
  calls-in (x ∷ xs) (y ∷ ys) a zero = same-calls x y a.0
  calls-in (x ∷ xs) (y ∷ ys) a (suc p) = calls-in xs ys a.1 p

  calls-at : (p : ℕ) → proc_calls agent p ≡ proc_calls other p
  calls-at p = calls-in agent.procs other.procs alike p

  -- what reaches a procedure in the one reaches it in the other
  pub same-reach : (goal p : ℕ) → Reaches agent goal p → Reaches other goal p
  same-reach goal p (directly q c) = directly q (subst (λ cs. Contains cs goal) (calls-at q) c)
  same-reach goal p (through q r c more) =
      through q r (subst (λ cs. Contains cs r) (calls-at q) c) (same-reach goal r more)
