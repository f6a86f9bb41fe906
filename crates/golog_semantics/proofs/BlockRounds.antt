-- Which procedures have a search block is settled by its rounds; a program with none fits within a block.
use Rattle.std.proofs.Common.{◌≡◌, ℕ, zero, suc, Bool, true, false, List, [], ◌∷◌, length, map, Some, refl, ap, ◌∙◌}
use Rattle.std.specs.Prelude.{not, slice_get}
use Rattle.std.specs.Option.{option_map_or}
use Rattle.golog_tree.specs.declared.agent.Agent.{Agent}
use Rattle.golog_tree.specs.declared.agent.ProcItem.{ProcItem}
use Rattle.golog_tree.specs.declared.prog.Prog.{Prog}
use Rattle.golog_tree.specs.declared.prog.Prog.TheOpen.{Prog-F, Nil, Act, Test, Seq, Choice, Pick, Star, If, While, Conc, Prio, Cstar, Call, Search, Follow}
use Rattle.golog_semantics.specs.BlockFree.{block_at, has_block, has_block_by, has_block_step, proc_blocks, proc_blocks_to}
use Rattle.golog_semantics.specs.Fits.{Scope, bound}
use Rattle.golog_semantics.specs.ProgFits.{Position, prog_fits, prog_step, way_step}
use Rattle.golog_semantics.proofs.FoldsRelated.{Leaf, free, Answers, WayAnswers, folds_related, ones, twos}
use Rattle.golog_semantics.proofs.ProgPut.{at_scope}
use Rattle.golog_semantics.proofs.Rounds.{Below, below-at, last_round, tested-rounds}
use Rattle.golog_semantics.proofs.Tests.{and_more, neither_first, neither_second, or_more}

module _ (bs cs : List Bool) (below : Below bs cs) where
  abbrev More : Bool → Bool → Leaf → Type 0
  More p q r = p ≡ true → q ≡ true

  more_step : (y : Prog-F (Answers Bool Bool Leaf Bool Bool Leaf More free) (WayAnswers Bool Bool Leaf Bool Bool Leaf More free))
      → More (has_block_step bs (ones Bool Bool Leaf Bool Bool Leaf More free y)) (has_block_step cs (twos Bool Bool Leaf Bool Bool Leaf More free y)) tt
  more_step Nil e = e
  more_step (Act action args) e = e
  more_step (Test c) e = e
  more_step (Seq p q) e = or_more p.one p.two q.one q.two p.related q.related e
  more_step (Choice p q) e = or_more p.one p.two q.one q.two p.related q.related e
  more_step (Pick x sort p) e = p.related e
  more_step (Star p) e = p.related e
  more_step (If c p q) e = or_more p.one p.two q.one q.two p.related q.related e
  more_step (While c p) e = p.related e
  more_step (Conc p q) e = or_more p.one p.two q.one q.two p.related q.related e
  more_step (Prio p q) e = or_more p.one p.two q.one q.two p.related q.related e
  more_step (Cstar p) e = p.related e
  more_step (Call item args) e = below-at (λ o. option_map_or (λ b. b) o false) (λ b. refl) bs cs below item e
  more_step (Search depth fuel p) e = refl
  more_step (Follow depth fuel p rest) e = refl

  block-more : (p : Prog) → has_block_by bs p ≡ true → has_block_by cs p ≡ true
  block-more =
      folds_related Bool Bool Leaf Bool Bool Leaf More free (has_block_step bs) (λ w. false) (has_block_step cs) (λ w. false) (λ y. tt) (λ w. tt)
      (record { of_layer = more_step; of_way = λ a b c label h. tt })

module _ (agent : Agent) where
  -- one more round says the same
  blocks-settled : proc_blocks agent ≡ map (λ (item : ProcItem). has_block agent item.body) agent.procs
  unfolding proc_blocks
  blocks-settled =
      last_round (λ k. proc_blocks_to k agent) (length agent.procs)
      (tested-rounds agent.procs (λ bs item. has_block_by bs item.body) (λ k. proc_blocks_to k agent) refl (λ k. refl) (λ bs cs h item. block-more bs cs h item.body))

  block_of : (f : ProcItem → Bool) (procs : List ProcItem) (item : ℕ) (proc : ProcItem) → slice_get procs item ≡ Some proc → block_at (map f procs) item ≡ f proc
  block_of f [] item proc e = absurd (cc)
  block_of f (i ∷ procs) zero proc e = ap f (let h : i ≡ proc = cc in h)
  block_of f (i ∷ procs) (suc item) proc e = block_of f procs item proc e

  -- a procedure has a block where its body has one
  pub block_in_body : (item : ℕ) (proc : ProcItem) → slice_get agent.procs item ≡ Some proc → block_at (proc_blocks agent) item ≡ has_block agent proc.body
  block_in_body item proc e = ap (λ bs. block_at bs item) blocks-settled ∙ block_of (λ (i : ProcItem). has_block agent i.body) agent.procs item proc e

  abbrev A : Type 0
  A = Position → Bool

  abbrev Unblocked : A → Bool → Leaf → Type 0
  Unblocked p b r = b ≡ false → (scope : Scope) → p (at_scope scope false) ≡ true → p (at_scope scope true) ≡ true

  abbrev Y : Type 0
  Y = Prog-F (Answers A Bool Leaf A Bool Leaf Unblocked free) (WayAnswers A Bool Leaf A Bool Leaf Unblocked free)

  unblocked_step : (y : Y) → Unblocked (prog_step agent (ones A Bool Leaf A Bool Leaf Unblocked free y)) (has_block_step (proc_blocks agent) (twos A Bool Leaf A Bool Leaf Unblocked free y)) tt
  unblocked_step Nil e scope h = h
  unblocked_step (Act action args) e scope h = h
  unblocked_step (Test c) e scope h = h
  unblocked_step (Seq p q) e scope h =
      and_more (p.one (at_scope scope false)) (p.one (at_scope scope true)) (q.one (at_scope scope false)) (q.one (at_scope scope true)) (p.related (neither_first p.two q.two e) scope) (q.related (neither_second p.two q.two e) scope) h
  unblocked_step (Choice p q) e scope h =
      and_more (p.one (at_scope scope false)) (p.one (at_scope scope true)) (q.one (at_scope scope false)) (q.one (at_scope scope true)) (p.related (neither_first p.two q.two e) scope) (q.related (neither_second p.two q.two e) scope) h
  unblocked_step (Pick x sort p) e scope h =
      and_more _ _ (p.one (at_scope (bound scope x sort) false)) (p.one (at_scope (bound scope x sort) true)) (λ k. k) (p.related e (bound scope x sort)) h
  unblocked_step (Star p) e scope h = p.related e scope h
  unblocked_step (If c p q) e scope h =
      and_more _ _ (q.one (at_scope scope false)) (q.one (at_scope scope true))
      (and_more _ _ (p.one (at_scope scope false)) (p.one (at_scope scope true)) (λ k. k) (p.related (neither_first p.two q.two e) scope)) (q.related (neither_second p.two q.two e) scope) h
  unblocked_step (While c p) e scope h = and_more _ _ (p.one (at_scope scope false)) (p.one (at_scope scope true)) (λ k. k) (p.related e scope) h
  unblocked_step (Conc p q) e scope h =
      and_more (p.one (at_scope scope false)) (p.one (at_scope scope true)) (q.one (at_scope scope false)) (q.one (at_scope scope true)) (p.related (neither_first p.two q.two e) scope) (q.related (neither_second p.two q.two e) scope) h
  unblocked_step (Prio p q) e scope h =
      and_more (p.one (at_scope scope false)) (p.one (at_scope scope true)) (q.one (at_scope scope false)) (q.one (at_scope scope true)) (p.related (neither_first p.two q.two e) scope) (q.related (neither_second p.two q.two e) scope) h
  unblocked_step (Cstar p) e scope h = p.related e scope h
  unblocked_step (Call item args) e scope h =
      and_more _ _ true (not (block_at (proc_blocks agent) item)) (λ k. k) (λ k. ap not e) h
  unblocked_step (Search depth fuel p) e scope h = absurd (cc)
  unblocked_step (Follow depth fuel p rest) e scope h = absurd (cc)

  -- a program that fits and has no block fits within one
  pub unblocked : (p : Prog) → has_block agent p ≡ false → (scope : Scope) → prog_fits agent p (at_scope scope false) ≡ true → prog_fits agent p (at_scope scope true) ≡ true
  unblocked =
      folds_related A Bool Leaf A Bool Leaf Unblocked free (prog_step agent) (way_step agent) (has_block_step (proc_blocks agent)) (λ w. false) (λ y. tt) (λ w. tt)
      (record { of_layer = unblocked_step; of_way = λ a b c label h. tt })
