-- Rounds that change nothing more, and the definitions that are settled by rounds.
use Rattle.std.proofs.Common.{◌≡◌, ℕ, zero, suc, ◌+◌, ◌<◌, Bool, false, List, [], ◌∷◌, ◌++◌, length, get_or, map, take, refl, sym, ap, ◌∙◌, replicate}
use Rattle.std.proofs.lemmas.List.{map-append, take_more, length-map}
use Rattle.golog_tree.specs.declared.agent.ProcItem.{ProcItem}
use Rattle.golog_tree.specs.declared.draft.DraftProc.{DraftProc}
use Rattle.golog_semantics.specs.BlockFree.{has_block_by, proc_blocks, proc_blocks_to}
use Rattle.golog_semantics.specs.FrontCalls.{front_calls}
use Rattle.golog_shapes.specs.Shapes.{shape, shape_of, shapes}
use Rattle.golog_shapes.specs.Unguarded.{leads_to, reaching, reaching_to}
use Rattle.golog_shapes.specs.Settled.{rounds_of}
use Rattle.golog_shapes.specs.Fronts.{draft_has, block_round, reach_round}
use Rattle.golog_shapes.proofs.Fores.{has-same}

-- the procedures that each may call without a step
abbrev pub calls_in : List DraftProc → List (List ℕ)
calls_in procs = map (λ (item : DraftProc). front_calls (shapes procs) (shape item.body)) procs

pub map-same : {A B : Type 0} (b : B) (xs : List A) → map (λ x. b) xs ≡ replicate (length xs) b
map-same b [] = refl
map-same b (x ∷ xs) = ap (λ bs. b ∷ bs) (map-same b xs)

pub map-two : {A B C : Type 0} (f : B → C) (g : A → B) (xs : List A) → map f (map g xs) ≡ map (λ x. f (g x)) xs
map-two f g [] = refl
map-two f g (x ∷ xs) = ap (λ ys. f (g x) ∷ ys) (map-two f g xs)

pub map-alike : {A B : Type 0} (f g : A → B) → ((x : A) → f x ≡ g x) → (xs : List A) → map f xs ≡ map g xs
map-alike f g h [] = refl
map-alike f g h (x ∷ xs) = ap (λ y. y ∷ map f xs) (h x) ∙ ap (λ ys. g x ∷ ys) (map-alike f g h xs)

-- one more, of which the same is told as of its draft
pub map-pushed : {A B P : Type 0} (f : A → B) (g : P → B) (all after : List A) (x : A) (xs : List P) (i : ℕ) (p : P) → after ≡ all ++ x ∷ []
    → map f all ≡ map g (take i xs) → f x ≡ g p → i < length xs → p ≡ get_or xs i p → map f after ≡ map g (take (i + 1) xs)
map-pushed f g all after x xs i p e h k lt is =
    ap (map f) e ∙ map-append f all (x ∷ []) ∙ ap (λ bs. bs ++ f x ∷ []) h ∙ ap (λ b. map g (take i xs) ++ b ∷ []) k
    ∙ sym (ap (map g) (take_more xs i p lt ∙ ap (λ q. take i xs ++ q ∷ []) (sym is)) ∙ map-append g (take i xs) (p ∷ []))

module _ (procs : List DraftProc) where
  none-said : {B : Type 0} (b : B) → map (λ (item : ProcItem). b) (map shape_of procs) ≡ replicate (length procs) b
  none-said b = map-same b (map shape_of procs) ∙ ap (λ n. replicate n b) (length-map procs shape_of)

  blocks-to : (k : ℕ) → proc_blocks_to k (shapes procs) ≡ rounds_of (block_round procs) k (replicate (length procs) false)
  blocks-to zero = none-said false
  blocks-to (suc k) =
      map-two (λ (item : ProcItem). has_block_by (proc_blocks_to k (shapes procs)) item.body) shape_of procs
      ∙ map-alike (λ (item : DraftProc). has_block_by (proc_blocks_to k (shapes procs)) (shape item.body)) (λ (item : DraftProc). draft_has (proc_blocks_to k (shapes procs)) item.body)
      (λ item. has-same (proc_blocks_to k (shapes procs)) item.body) procs
      ∙ ap (block_round procs) (blocks-to k)

  -- the procedures that have a block
  pub blocks-rounds : proc_blocks (shapes procs) ≡ rounds_of (block_round procs) (length procs) (replicate (length procs) false)
  unfolding proc_blocks
  blocks-rounds =
      ap (λ n. proc_blocks_to n (shapes procs)) (length-map procs shape_of) ∙ blocks-to (length procs)

  module _ (goal : ℕ) where
    reach-next : (said : List Bool) → map (λ (item : ProcItem). leads_to goal said (front_calls (shapes procs) item.body)) (map shape_of procs) ≡ reach_round (calls_in procs) goal said
    reach-next said =
        map-two (λ (item : ProcItem). leads_to goal said (front_calls (shapes procs) item.body)) shape_of procs
        ∙ sym (map-two (leads_to goal said) (λ (item : DraftProc). front_calls (shapes procs) (shape item.body)) procs)

    reaching-rounds-to : (k : ℕ) → reaching_to (shapes procs) k goal ≡ rounds_of (reach_round (calls_in procs) goal) k (replicate (length procs) false)
    reaching-rounds-to zero = none-said false
    reaching-rounds-to (suc k) = reach-next (reaching_to (shapes procs) k goal) ∙ ap (reach_round (calls_in procs) goal) (reaching-rounds-to k)

    -- the procedures that reach one
    pub reaching-rounds : reaching (shapes procs) goal ≡ rounds_of (reach_round (calls_in procs) goal) (length (calls_in procs)) (replicate (length (calls_in procs)) false)
    unfolding reaching
    reaching-rounds =
        let n = length-map procs shape_of in
        let m = length-map procs (λ (item : DraftProc). front_calls (shapes procs) (shape item.body)) in
        ap (λ k. reaching_to (shapes procs) k goal) n ∙ reaching-rounds-to (length procs)
        ∙ sym (ap (λ k. rounds_of (reach_round (calls_in procs) goal) k (replicate k false)) m)
