-- Without a block at its front a program has the steps that it has without blocks.
use Rattle.std.proofs.Common.{◌≡◌, ℕ, zero, suc, ◌+◌, Bool, true, false, ◌&&◌, ◌||◌, List, [], ◌∷◌, length, map, Option, Some, None, refl, sym, ap, ◌∙◌}
use Rattle.std.specs.Prelude.{not, slice_get, if◌then◌else◌, ◌++◌}
use Rattle.std.specs.List.{flat_map}
use Rattle.std.proofs.lemmas.List.{length-map}
use Rattle.golog_tree.specs.declared.agent.Agent.{Agent}
use Rattle.golog_tree.specs.declared.agent.ProcItem.{ProcItem}
use Rattle.golog_tree.specs.declared.cond.Arg.{Arg}
use Rattle.golog_tree.specs.declared.cond.Arg.TheVariants.{Const, Var}
use Rattle.golog_tree.specs.declared.prog.Prog.{Prog}
use Rattle.golog_tree.specs.declared.prog.Way.{Way}
use Rattle.golog_tree.specs.declared.prog.Prog.TheOpen.{Prog-F, Nil, Act, Test, Seq, Choice, Pick, Star, If, While, Conc, Prio, Cstar, Call, Search, Follow}
use Rattle.golog_tree.specs.declared.prog.Prog.TheViews.{out-Prog}
use Rattle.golog_tree.specs.declared.prog.Prog.TheFolds.{fold_out-Prog, fold-Way, map-Prog}
use Rattle.golog_tree.specs.Tidy.{Layer}
use Rattle.golog_semantics.specs.declared.Mode.{Mode}
use Rattle.golog_semantics.specs.declared.search.Move.{Move}
use Rattle.golog_semantics.specs.Modes.{flip}
use Rattle.golog_semantics.specs.Truth.{Values, constants}
use Rattle.golog_semantics.specs.Program.{put_arg, put_args, body_with, body_of}
use Rattle.golog_semantics.specs.Ways.{Blocks, final_to, moves_step, moves_to, only_if}
use Rattle.golog_semantics.specs.Search.{no_blocks}
use Rattle.golog_semantics.specs.Moves.{plain_moves}
use Rattle.golog_semantics.specs.Blocks.{block_moves, moves}
use Rattle.golog_semantics.specs.BlockFree.{block_at, has_block, has_block_by, has_block_step, proc_blocks, proc_blocks_to}
use Rattle.golog_semantics.specs.Guarded.{Front, front, front_step, no_front, proc_fronts, IsGuarded}
use Rattle.golog_semantics.specs.Heavy.{Reached, blocks_step, blocks_to, front_blocks as reached_blocks}
use Rattle.golog_semantics.proofs.ByParts as parts
use Rattle.golog_semantics.proofs.FoldsRelated.{Leaf, free, Answers, WayAnswers, folds_related, ones, twos}
use Rattle.golog_semantics.proofs.PutByParts.{IgnoresPut, fold-put}
use Rattle.golog_semantics.proofs.Rounds.{Below, Rounds, below-map, last_round}
use Rattle.golog_semantics.proofs.Settled.{Bodies, bodies, skips}
use Rattle.golog_semantics.proofs.Tests.{and_more, neither_first, neither_second, or_more}
use Rattle.golog_fronts.specs.FrontBlock.{Fronted, front_block_step, front_blocks, front_blocks_to, fronted, fronted_step, has_front_block}

abbrev no_fronted : Fronted
no_fronted = record { front = no_front; block = false }

below-block : (bs cs : List Bool) → Below bs cs → (item : ℕ) → block_at bs item ≡ true → block_at cs item ≡ true
below-block [] [] h item e = e
below-block [] (c ∷ cs) h item e = absurd h
below-block (b ∷ bs) [] h item e = absurd h
below-block (b ∷ bs) (c ∷ cs) h zero e = h.0 e
below-block (b ∷ bs) (c ∷ cs) h (suc item) e = below-block bs cs h.1 item e

module _ (fs : List Front) (bs cs : List Bool) (below : Below bs cs) where
  -- the same front, and a block in the second where there is one in the first
  record More (p q : Fronted) (r : Leaf) : Type 0 where
    same : p.front ≡ q.front
    more : p.block ≡ true → q.block ≡ true

  abbrev Y : Type 0
  Y = Prog-F (Answers Fronted Fronted Leaf Fronted Fronted Leaf More free) (WayAnswers Fronted Fronted Leaf Fronted Fronted Leaf More free)

  abbrev One : Y → Prog-F Fronted Fronted
  One = ones Fronted Fronted Leaf Fronted Fronted Leaf More free

  abbrev Two : Y → Prog-F Fronted Fronted
  Two = twos Fronted Fronted Leaf Fronted Fronted Leaf More free

  same_step : (y : Y) → (fronted_step fs bs (One y)).front ≡ (fronted_step fs cs (Two y)).front
  same_step Nil = refl
  same_step (Act action args) = refl
  same_step (Test c) = refl
  same_step (Seq p q) = let h = p.related.same in let k = q.related.same in rw (h, k) refl
  same_step (Choice p q) = let h = p.related.same in let k = q.related.same in rw (h, k) refl
  same_step (Pick x sort p) = let h = p.related.same in rw h refl
  same_step (Star p) = let h = p.related.same in rw h refl
  same_step (If c p q) = let h = p.related.same in let k = q.related.same in rw (h, k) refl
  same_step (While c p) = let h = p.related.same in rw h refl
  same_step (Conc p q) = let h = p.related.same in let k = q.related.same in rw (h, k) refl
  same_step (Prio p q) = let h = p.related.same in let k = q.related.same in rw (h, k) refl
  same_step (Cstar p) = let h = p.related.same in rw h refl
  same_step (Call item args) = refl
  same_step (Search depth fuel p) = let h = p.related.same in rw h refl
  same_step (Follow depth fuel p rest) = let h = p.related.same in rw h refl

  more_step : (y : Y) → front_block_step bs (One y) ≡ true → front_block_step cs (Two y) ≡ true
  more_step Nil e = e
  more_step (Act action args) e = e
  more_step (Test c) e = e
  more_step (Seq p q) e =
      or_more p.one.block p.two.block (p.one.front.skip && q.one.block) (p.two.front.skip && q.two.block) p.related.more
      (and_more p.one.front.skip p.two.front.skip q.one.block q.two.block (λ h. sym (ap (λ (f : Front). f.skip) p.related.same) ∙ h) q.related.more) e
  more_step (Choice p q) e = or_more p.one.block p.two.block q.one.block q.two.block p.related.more q.related.more e
  more_step (Pick x sort p) e = p.related.more e
  more_step (Star p) e = p.related.more e
  more_step (If c p q) e = or_more p.one.block p.two.block q.one.block q.two.block p.related.more q.related.more e
  more_step (While c p) e = p.related.more e
  more_step (Conc p q) e = or_more p.one.block p.two.block q.one.block q.two.block p.related.more q.related.more e
  more_step (Prio p q) e = or_more p.one.block p.two.block q.one.block q.two.block p.related.more q.related.more e
  more_step (Cstar p) e = p.related.more e
  more_step (Call item args) e = below-block bs cs below item e
  more_step (Search depth fuel p) e = refl
  more_step (Follow depth fuel p rest) e = refl

  related : (p : Prog) → More (fronted fs bs p) (fronted fs cs p) tt
  related =
      folds_related Fronted Fronted Leaf Fronted Fronted Leaf More free (fronted_step fs bs) (λ w. no_fronted) (fronted_step fs cs) (λ w. no_fronted) (λ y. tt) (λ w. tt)
      (record { of_layer = λ y. record { same = same_step y; more = more_step y }; of_way = λ a b c label h. tt })

  block-more : (p : Prog) → (fronted fs bs p).block ≡ true → (fronted fs cs p).block ≡ true
  block-more p e = (related p).more e

module _ (agent : Agent) where
  abbrev fs : List Front
  fs = proc_fronts agent

  abbrev Alike : Fronted → Front → Leaf → Type 0
  Alike p q r = p.front ≡ q

  abbrev Z : Type 0
  Z = Prog-F (Answers Fronted Front Leaf Fronted Front Leaf Alike free) (WayAnswers Fronted Front Leaf Fronted Front Leaf Alike free)

  alike_step : (bs : List Bool) → (y : Z) → (fronted_step fs bs (ones Fronted Front Leaf Fronted Front Leaf Alike free y)).front ≡ front_step fs (twos Fronted Front Leaf Fronted Front Leaf Alike free y)
  alike_step bs Nil = refl
  alike_step bs (Act action args) = refl
  alike_step bs (Test c) = refl
  alike_step bs (Seq p q) = let h = p.related in let k = q.related in rw (h, k) refl
  alike_step bs (Choice p q) = let h = p.related in let k = q.related in rw (h, k) refl
  alike_step bs (Pick x sort p) = let h = p.related in rw h refl
  alike_step bs (Star p) = let h = p.related in rw h refl
  alike_step bs (If c p q) = let h = p.related in let k = q.related in rw (h, k) refl
  alike_step bs (While c p) = let h = p.related in rw h refl
  alike_step bs (Conc p q) = let h = p.related in let k = q.related in rw (h, k) refl
  alike_step bs (Prio p q) = let h = p.related in let k = q.related in rw (h, k) refl
  alike_step bs (Cstar p) = let h = p.related in rw h refl
  alike_step bs (Call item args) = refl
  alike_step bs (Search depth fuel p) = let h = p.related in rw h refl
  alike_step bs (Follow depth fuel p rest) = let h = p.related in rw h refl

  -- the front beside the block is the front of the program
  pub front-alike : (bs : List Bool) (p : Prog) → (fronted fs bs p).front ≡ front agent p
  front-alike bs =
      folds_related Fronted Front Leaf Fronted Front Leaf Alike free (fronted_step fs bs) (λ w. no_fronted) (front_step fs) (λ w. no_front) (λ y. tt) (λ w. tt)
      (record { of_layer = alike_step bs; of_way = λ a b c label h. tt })

  abbrev of_item : List Bool → ProcItem → Bool
  of_item bs item = (fronted fs bs item.body).block

  rises : (k : ℕ) → Below (front_blocks_to k agent) (front_blocks_to (suc k) agent)
  rises zero = below-map (λ item. false) (of_item (front_blocks_to 0 agent)) (λ item e. cc) agent.procs
  rises (suc k) =
      below-map (of_item (front_blocks_to k agent)) (of_item (front_blocks_to (suc k) agent))
      (λ item e. block-more fs (front_blocks_to k agent) (front_blocks_to (suc k) agent) (rises k) item.body e) agent.procs

  lengths : (k : ℕ) → length (front_blocks_to k agent) ≡ length agent.procs
  lengths zero = length-map agent.procs (λ (item : ProcItem). false)
  lengths (suc k) = length-map agent.procs (of_item (front_blocks_to k agent))

  block_rounds : Rounds (λ k. front_blocks_to k agent) (length agent.procs)
  block_rounds = record { rises = rises; lengths = lengths; next = λ k j e. ap (λ bs. map (of_item bs) agent.procs) e }

  -- one more round says the same
  blocks-settled : front_blocks agent ≡ map (λ (item : ProcItem). has_front_block agent item.body) agent.procs
  unfolding front_blocks
  blocks-settled = last_round (λ k. front_blocks_to k agent) (length agent.procs) block_rounds

  block_of : (f : ProcItem → Bool) (procs : List ProcItem) (item : ℕ) (proc : ProcItem) → slice_get procs item ≡ Some proc → block_at (map f procs) item ≡ f proc
  block_of f [] item proc e = absurd (cc)
  block_of f (i ∷ procs) zero proc e = ap f (let h : i ≡ proc = cc in h)
  block_of f (i ∷ procs) (suc item) proc e = block_of f procs item proc e

  block_none : (f : ProcItem → Bool) (procs : List ProcItem) (item : ℕ) → slice_get procs item ≡ None → block_at (map f procs) item ≡ false
  block_none f [] item e = refl
  block_none f (i ∷ procs) zero e = absurd (cc)
  block_none f (i ∷ procs) (suc item) e = block_none f procs item e

  -- a procedure has a block at its front where its body has one, and one that there is not has none
  pub block_in_body : (item : ℕ) (proc : ProcItem) → slice_get agent.procs item ≡ Some proc → block_at (front_blocks agent) item ≡ has_front_block agent proc.body
  block_in_body item proc e = ap (λ bs. block_at bs item) blocks-settled ∙ block_of (λ (i : ProcItem). has_front_block agent i.body) agent.procs item proc e

  pub block_in_none : (item : ℕ) → slice_get agent.procs item ≡ None → block_at (front_blocks agent) item ≡ false
  block_in_none item e = ap (λ bs. block_at bs item) blocks-settled ∙ block_none (λ (i : ProcItem). has_front_block agent i.body) agent.procs item e

  abbrev way_fold : Way → Fronted
  way_fold = fold-Way Fronted Fronted (fronted_step fs (front_blocks agent)) (λ w. no_fronted)

  -- what stands at the front, by one level of a program
  pub fronted-by : (p : Prog) (l : Layer) → out-Prog p ≡ l
      → fronted fs (front_blocks agent) p ≡ fronted_step fs (front_blocks agent) (map-Prog Prog Way Fronted Fronted (fronted fs (front_blocks agent)) way_fold l)
  fronted-by p l e =
      fold_out-Prog Fronted Fronted (fronted_step fs (front_blocks agent)) (λ w. no_fronted) p
      ∙ ap (λ k. fronted_step fs (front_blocks agent) (map-Prog Prog Way Fronted Fronted (fronted fs (front_blocks agent)) way_fold k)) e

  ignores : IgnoresPut Fronted Fronted (fronted_step fs (front_blocks agent)) (λ w. no_fronted)
  ignores = record {
    act_same = λ action args put. refl;
    test_same = λ c put. refl;
    if_same = λ c put a b. refl;
    while_same = λ c put a. refl;
    call_same = λ item args put. refl;
  }

  put_block : (p : Prog) (x c : ℕ) → has_front_block agent (put_arg p x c) ≡ has_front_block agent p
  put_block p x c = ap (λ (f : Fronted). f.block) (fold-put Fronted Fronted (fronted_step fs (front_blocks agent)) (λ w. no_fronted) ignores p (Some (x, c)))

  puts_block : (args : List Arg) (p : Prog) (x : ℕ) → has_front_block agent (put_args p x args) ≡ has_front_block agent p
  puts_block [] p x = refl
  puts_block (Const c ∷ args) p x = puts_block args (put_arg p x c) (x + 1) ∙ put_block p x c
  puts_block (Var y ∷ args) p x = puts_block args p (x + 1)

  body_block : (item : ℕ) (args : List Arg) (o : Option ProcItem) → slice_get agent.procs item ≡ o → block_at (front_blocks agent) item ≡ false → has_front_block agent (body_with o args) ≡ false
  body_block item args None e h = ap (λ (f : Fronted). f.block) (parts.fold-nil Fronted Fronted (fronted_step fs (front_blocks agent)) (λ w. no_fronted))
  body_block item args (Some proc) e h = puts_block args proc.body 0 ∙ sym (block_in_body item proc e) ∙ h

  abbrev Free : Prog → Type 0
  Free p = has_front_block agent p ≡ false

  flat_same : (f g : ℕ → List Move) (cs : List ℕ) → ((c : ℕ) → f c ≡ g c) → flat_map f cs ≡ flat_map g cs
  flat_same f g [] h = refl
  flat_same f g (c ∷ cs) h = let e = h c in let k = flat_same f g cs h in cc

  only_same : (b s : Bool) (us vs : List Move) → (b ≡ true → s ≡ true) → (s ≡ true → us ≡ vs) → only_if b us ≡ only_if b vs
  only_same true s us vs h k = k (h refl)
  only_same false s us vs h k = refl

  second_free : (a s b : Bool) → (a || (s && b)) ≡ false → s ≡ true → b ≡ false
  second_free true s b e h = absurd (cc)
  second_free false true b e h = e
  second_free false false b e h = absurd (cc)

  module _ (values : Values) (one other : Blocks) where
    step_same : (f : Mode → Prog → Bool) (u v : Mode → Prog → List Move) (m : Mode) → ((p : Prog) → f m p ≡ true → (front agent p).skip ≡ true)
        → ((k : Mode) (p : Prog) → Free p → u k p ≡ v k p) → (l : Layer)
        → front_block_step (front_blocks agent) (map-Prog Prog Way Fronted Fronted (fronted fs (front_blocks agent)) way_fold l) ≡ false
        → moves_step agent values one f u m l ≡ moves_step agent values other f v m l
    step_same f u v m s h Nil x = refl
    step_same f u v m s h (Act action args) x = refl
    step_same f u v m s h (Test c) x = refl
    step_same f u v m s h (Seq p q) x =
        let e = h m p (neither_first (has_front_block agent p) ((fronted fs (front_blocks agent) p).front.skip && has_front_block agent q) x) in
        let skip = ap (λ (r : Front). r.skip) (front-alike (front_blocks agent) p) in
        let k = only_same (f m p) (front agent p).skip (u m q) (v m q) (s p)
        (λ t. h m q (second_free (has_front_block agent p) (fronted fs (front_blocks agent) p).front.skip (has_front_block agent q) x (skip ∙ t))) in
        rw (e, k) refl
    step_same f u v m s h (Choice p q) x = let e = h m p (neither_first (has_front_block agent p) (has_front_block agent q) x) in let k = h m q (neither_second (has_front_block agent p) (has_front_block agent q) x) in rw (e, k) refl
    step_same f u v m s h (Pick y sort p) x = flat_same (λ c. u m (put_arg p y c)) (λ c. v m (put_arg p y c)) (constants agent sort) (λ c. h m (put_arg p y c) (put_block p y c ∙ x))
    step_same f u v m s h (Star p) x = let e = h m p x in rw e refl
    step_same f u v m s h (If c p q) x = let e = h m p (neither_first (has_front_block agent p) (has_front_block agent q) x) in let k = h m q (neither_second (has_front_block agent p) (has_front_block agent q) x) in rw (e, k) refl
    step_same f u v m s h (While c p) x = let e = h m p x in rw e refl
    step_same f u v m s h (Conc p q) x = let e = h m p (neither_first (has_front_block agent p) (has_front_block agent q) x) in let k = h m q (neither_second (has_front_block agent p) (has_front_block agent q) x) in rw (e, k) refl
    step_same f u v m s h (Prio p q) x =
        let one_free = neither_first (has_front_block agent p) (has_front_block agent q) x in
        let e = h m p one_free in let d = h (flip m) p one_free in
        let k = h m q (neither_second (has_front_block agent p) (has_front_block agent q) x) in
        rw (e, k, d) refl
    step_same f u v m s h (Cstar p) x = let e = h m p x in rw e refl
    step_same f u v m s h (Call item args) x = h m (body_of agent item args) (body_block item args (slice_get agent.procs item) refl x)
    step_same f u v m s h (Search depth fuel p) x = absurd (cc)
    step_same f u v m s h (Follow depth fuel p rest) x = absurd (cc)

    same_steps : ((m : Mode) → Bodies agent values m) → (n : ℕ) (m : Mode) (p : Prog) → Free p → moves_to agent values one n m p ≡ moves_to agent values other n m p
    same_steps b zero m p x = refl
    same_steps b (suc n) m p x =
        step_same (final_to agent values n) (moves_to agent values one n) (moves_to agent values other n) m (λ q. skips agent values m (b m) n q) (same_steps b n) (out-Prog p)
        (sym (ap (λ (f : Fronted). f.block) (fronted-by p (out-Prog p) refl)) ∙ x)

  none_among : (f : ℕ → List Reached) (cs : List ℕ) → ((c : ℕ) → f c ≡ []) → flat_map f cs ≡ []
  none_among f [] h = refl
  none_among f (c ∷ cs) h = let e = h c in let k = none_among f cs h in cc

  none_if : (b : Bool) (rs : List Reached) → (b ≡ true → rs ≡ []) → (if b then rs else []) ≡ []
  none_if true rs h = h refl
  none_if false rs h = refl

  none_both : (rs ss : List Reached) → rs ≡ [] → ss ≡ [] → rs ++ ss ≡ []
  none_both rs ss e k = rw (e, k) refl

  module _ (values : Values) where
    none_step : (u : Bool → Prog → List Reached) (higher : Bool) → ((k : Bool) (p : Prog) → Free p → u k p ≡ []) → (l : Layer)
        → front_block_step (front_blocks agent) (map-Prog Prog Way Fronted Fronted (fronted fs (front_blocks agent)) way_fold l) ≡ false
        → blocks_step agent values u higher l ≡ []
    none_step u k h Nil x = refl
    none_step u k h (Act action args) x = refl
    none_step u k h (Test c) x = refl
    none_step u k h (Seq p q) x =
        let skip = ap (λ (r : Front). r.skip) (front-alike (front_blocks agent) p) in
        none_both (u k p) (if (front agent p).skip then u k q else [])
        (h k p (neither_first (has_front_block agent p) ((fronted fs (front_blocks agent) p).front.skip && has_front_block agent q) x))
        (none_if (front agent p).skip (u k q)
        (λ t. h k q (second_free (has_front_block agent p) (fronted fs (front_blocks agent) p).front.skip (has_front_block agent q) x (skip ∙ t))))
    none_step u k h (Choice p q) x = none_both (u k p) (u k q) (h k p (neither_first (has_front_block agent p) (has_front_block agent q) x)) (h k q (neither_second (has_front_block agent p) (has_front_block agent q) x))
    none_step u k h (Pick y sort p) x = none_among (λ c. u k (put_arg p y c)) (constants agent sort) (λ c. h k (put_arg p y c) (put_block p y c ∙ x))
    none_step u k h (Star p) x = h k p x
    none_step u k h (If c p q) x = none_both (u k p) (u k q) (h k p (neither_first (has_front_block agent p) (has_front_block agent q) x)) (h k q (neither_second (has_front_block agent p) (has_front_block agent q) x))
    none_step u k h (While c p) x = h k p x
    none_step u k h (Conc p q) x = none_both (u k p) (u k q) (h k p (neither_first (has_front_block agent p) (has_front_block agent q) x)) (h k q (neither_second (has_front_block agent p) (has_front_block agent q) x))
    none_step u k h (Prio p q) x = none_both (u true p) (u k q) (h true p (neither_first (has_front_block agent p) (has_front_block agent q) x)) (h k q (neither_second (has_front_block agent p) (has_front_block agent q) x))
    none_step u k h (Cstar p) x = h k p x
    none_step u k h (Call item args) x = h k (body_of agent item args) (body_block item args (slice_get agent.procs item) refl x)
    none_step u k h (Search depth fuel p) x = absurd (cc)
    none_step u k h (Follow depth fuel p rest) x = absurd (cc)

    none_to : (n : ℕ) (higher : Bool) (p : Prog) → Free p → blocks_to agent values n higher p ≡ []
    none_to zero k p x = refl
    none_to (suc n) k p x =
        none_step (blocks_to agent values n) k (none_to n) (out-Prog p) (sym (ap (λ (f : Fronted). f.block) (fronted-by p (out-Prog p) refl)) ∙ x)

  -- where no block stands at the front, none is reached without a step
  pub none_reached : (values : Values) (p : Prog) → has_front_block agent p ≡ false → reached_blocks agent values p ≡ []
  none_reached values p x = none_to values (front agent p).height false p x

  not_so : (b : Bool) → not b ≡ true → b ≡ false
  not_so true e = sym e
  not_so false e = refl

  pub free_steps : IsGuarded agent → (values : Values) (m : Mode) (p : Prog) → not (has_front_block agent p) ≡ true → moves agent values m p ≡ plain_moves agent values m p
  unfolding moves plain_moves
  free_steps g values m p h = same_steps values (block_moves agent values) no_blocks (λ k. bodies agent values k g) (front agent p).height m p (not_so (has_front_block agent p) h)

and_other : (a b : Bool) → (a && b) ≡ true → b ≡ true
and_other true b e = e
and_other false b e = absurd (cc)

module _ (fs : List Front) (bs cs : List Bool) (below : Below bs cs) where
  abbrev Held : Fronted → Bool → Leaf → Type 0
  Held p b r = p.block ≡ true → b ≡ true

  held_step : (y : Prog-F (Answers Fronted Bool Leaf Fronted Bool Leaf Held free) (WayAnswers Fronted Bool Leaf Fronted Bool Leaf Held free))
      → front_block_step bs (ones Fronted Bool Leaf Fronted Bool Leaf Held free y) ≡ true → has_block_step cs (twos Fronted Bool Leaf Fronted Bool Leaf Held free y) ≡ true
  held_step Nil e = e
  held_step (Act action args) e = e
  held_step (Test c) e = e
  held_step (Seq p q) e = or_more p.one.block p.two (p.one.front.skip && q.one.block) q.two p.related (λ h. q.related (and_other p.one.front.skip q.one.block h)) e
  held_step (Choice p q) e = or_more p.one.block p.two q.one.block q.two p.related q.related e
  held_step (Pick x sort p) e = p.related e
  held_step (Star p) e = p.related e
  held_step (If c p q) e = or_more p.one.block p.two q.one.block q.two p.related q.related e
  held_step (While c p) e = p.related e
  held_step (Conc p q) e = or_more p.one.block p.two q.one.block q.two p.related q.related e
  held_step (Prio p q) e = or_more p.one.block p.two q.one.block q.two p.related q.related e
  held_step (Cstar p) e = p.related e
  held_step (Call item args) e = below-block bs cs below item e
  held_step (Search depth fuel p) e = refl
  held_step (Follow depth fuel p rest) e = refl

  held : (p : Prog) → (fronted fs bs p).block ≡ true → has_block_by cs p ≡ true
  held =
      folds_related Fronted Bool Leaf Fronted Bool Leaf Held free (fronted_step fs bs) (λ w. no_fronted) (has_block_step cs) (λ w. false) (λ y. tt) (λ w. tt)
      (record { of_layer = held_step; of_way = λ a b c label h. tt })

module _ (agent : Agent) where
  below-blocks : (k : ℕ) → Below (front_blocks_to k agent) (proc_blocks_to k agent)
  below-blocks zero = below-map (λ (item : ProcItem). false) (λ (item : ProcItem). false) (λ item e. e) agent.procs
  below-blocks (suc k) =
      below-map (λ (item : ProcItem). (fronted (proc_fronts agent) (front_blocks_to k agent) item.body).block) (λ (item : ProcItem). has_block_by (proc_blocks_to k agent) item.body)
      (λ item e. held (proc_fronts agent) (front_blocks_to k agent) (proc_blocks_to k agent) (below-blocks k) item.body e) agent.procs

  -- a block at the front is a block in the program
  pub block-held : (p : Prog) → has_front_block agent p ≡ true → has_block agent p ≡ true
  unfolding front_blocks proc_blocks
  block-held = held (proc_fronts agent) (front_blocks agent) (proc_blocks agent) (below-blocks (length agent.procs))
