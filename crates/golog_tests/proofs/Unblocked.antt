-- Where no program of an agent holds a search block, its program reaches none.
use Rattle.std.proofs.Common.{◌≡◌, ℕ, zero, suc, Bool, false, List, [], ◌∷◌, length, map, refl, ap, ◌∙◌}
use Rattle.std.specs.Prelude.{not}
use Rattle.std.specs.List.{list_any}
use Rattle.golog_tree.specs.declared.agent.Agent.{Agent}
use Rattle.golog_tree.specs.declared.agent.ProcItem.{ProcItem}
use Rattle.golog_tree.specs.declared.prog.Prog.{Prog}
use Rattle.golog_tree.specs.declared.prog.Prog.TheOpen.{Prog-F, Nil, Act, Test, Seq, Choice, Pick, Star, If, While, Conc, Prio, Cstar, Call, Search, Follow}
use Rattle.golog_semantics.specs.BlockFree.{block_at, has_block, has_block_by, has_block_step, proc_blocks, proc_blocks_to}
use Rattle.golog_semantics.proofs.FoldsRelated.{Leaf, free, Answers, WayAnswers, folds_related, ones, twos}
use Rattle.golog_semantics.proofs.Tests.{neither_first, neither_second}
use Rattle.golog_tests.specs.Blockless.{holds_block, has_blocks, IsBlockless}

none-at : {A : Type 0} (xs : List A) (item : ℕ) → block_at (map (λ x. false) xs) item ≡ false
none-at [] item = refl
none-at (x ∷ xs) zero = refl
none-at (x ∷ xs) (suc item) = none-at xs item

-- of procedures of which none has a block, a program has one exactly where it holds one itself
module _ (bs : List Bool) (none : (item : ℕ) → block_at bs item ≡ false) where
  abbrev Same : Bool → Bool → Leaf → Type 0
  Same p q r = p ≡ q

  same-step : (y : Prog-F (Answers Bool Bool Leaf Bool Bool Leaf Same free) (WayAnswers Bool Bool Leaf Bool Bool Leaf Same free))
      → Same (has_block_step bs (ones Bool Bool Leaf Bool Bool Leaf Same free y)) (has_block_step [] (twos Bool Bool Leaf Bool Bool Leaf Same free y)) tt
  same-step Nil = refl
  same-step (Act action args) = refl
  same-step (Test c) = refl
  same-step (Seq p q) = let h = p.related in let k = q.related in cc
  same-step (Choice p q) = let h = p.related in let k = q.related in cc
  same-step (Pick x sort p) = p.related
  same-step (Star p) = p.related
  same-step (If c p q) = let h = p.related in let k = q.related in cc
  same-step (While c p) = p.related
  same-step (Conc p q) = let h = p.related in let k = q.related in cc
  same-step (Prio p q) = let h = p.related in let k = q.related in cc
  same-step (Cstar p) = p.related
  same-step (Call item args) = none item
  same-step (Search depth fuel p) = refl
  same-step (Follow depth fuel p rest) = refl

  held : (p : Prog) → has_block_by bs p ≡ holds_block p
  held =
      folds_related Bool Bool Leaf Bool Bool Leaf Same free (has_block_step bs) (λ w. false) (has_block_step []) (λ w. false) (λ y. tt) (λ w. tt)
      (record { of_layer = same-step; of_way = λ a b c label h. tt })

  each-held : (procs : List ProcItem) → list_any (λ (item : ProcItem). holds_block item.body) procs ≡ false
      → map (λ (item : ProcItem). has_block_by bs item.body) procs ≡ map (λ (item : ProcItem). false) procs
  each-held [] h = refl
  each-held (item ∷ procs) h =
      let one = held item.body ∙ neither_first (holds_block item.body) (list_any (λ (item : ProcItem). holds_block item.body) procs) h in
      let more = each-held procs (neither_second (holds_block item.body) (list_any (λ (item : ProcItem). holds_block item.body) procs) h) in cc

module _ (agent : Agent) (h : list_any (λ (item : ProcItem). holds_block item.body) agent.procs ≡ false) where
  rounds : (k : ℕ) → proc_blocks_to k agent ≡ map (λ (item : ProcItem). false) agent.procs
  rounds zero = refl
  rounds (suc k) =
      let e = rounds k in
      each-held (proc_blocks_to k agent) (λ item. ap (λ bs. block_at bs item) e ∙ none-at agent.procs item) agent.procs h

  reached : (p : Prog) → holds_block p ≡ false → has_block agent p ≡ false
  unfolding proc_blocks
  reached p e =
      let r = rounds (length agent.procs) in
      held (proc_blocks agent) (λ item. ap (λ bs. block_at bs item) r ∙ none-at agent.procs item) p ∙ e

-- an agent in whose programs no block stands
pub blockless : (agent : Agent) → has_blocks agent ≡ false → IsBlockless agent
blockless agent e =
    let procs = list_any (λ (item : ProcItem). holds_block item.body) agent.procs in
    ap not (reached agent (neither_second (holds_block agent.main) procs e) agent.main (neither_first (holds_block agent.main) procs e))
