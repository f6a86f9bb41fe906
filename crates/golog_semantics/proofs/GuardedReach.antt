-- An agent is guarded exactly if no path of calls without a step leads from a procedure to itself.
use Rattle.std.proofs.Common.{◌≡◌, ◌⊎◌, inl, inr, ℕ, zero, suc, ◌+◌, ◌*◌, ◌≤◌, ◌<◌, Bool, true, false, List, [], ◌∷◌, ◌++◌, length, map, Option, Some, None, refl, sym, ap, ◌∙◌, subst, arith}
use Rattle.std.specs.Prelude.{◌-◌, slice_get}
use Rattle.std.proofs.lemmas.List.{length-map}
use Rattle.golog_tree.specs.declared.agent.Agent.{Agent}
use Rattle.golog_tree.specs.declared.agent.ProcItem.{ProcItem}
use Rattle.golog_semantics.specs.Guarded.{Front, front, front_at, front_by, fronts_to, no_front, proc_fronts, IsGuarded}
use Rattle.golog_semantics.proofs.Reach.{calls_first, calls_from, fore_by, is_skipped, proc_skips, IsPath, NoPathToItself, PathTo}
use Rattle.golog_semantics.proofs.SkipRounds.{fronts-skips, skipped-front, skips-settled}
use Rattle.golog_semantics.proofs.FrontHeights.{deeper, near}

module _ (agent : Agent) where
  abbrev size : ℕ
  size = length agent.procs

  -- the skipping of each later round
  round_skips : (more k : ℕ) → k ≡ more + size → map (λ (f : Front). f.skip) (fronts_to k agent) ≡ proc_skips agent
  round_skips more k e = fronts-skips agent k ∙ skips-settled agent more k e

  -- down a path of a guarded agent the heights fall
  abbrev height_at : ℕ → ℕ
  height_at item = (front_at (proc_fronts agent) item).height

  front_of : (f : ProcItem → Front) (items : List ProcItem) (at : ℕ) (item : ProcItem) → slice_get items at ≡ Some item → front_at (map f items) at ≡ f item
  front_of f [] at item e = absurd (cc)
  front_of f (i ∷ items) zero item e = ap f (let h : i ≡ item = cc in h)
  front_of f (i ∷ items) (suc at) item e = front_of f items at item e

  pub all_skips : map (λ (f : Front). f.skip) (proc_fronts agent) ≡ proc_skips agent
  unfolding proc_fronts
  all_skips = round_skips size (2 * size) (omega arith)

  falls_from : IsGuarded agent → (at to : ℕ) (o : Option ProcItem) → slice_get agent.procs at ≡ o → calls_from agent o to ≡ true → height_at to < height_at at
  falls_from g at to None e h = absurd (cc)
  falls_from g at to (Some item) e h =
      let d = (deeper (proc_fronts agent) item.body).lower to (ap (λ bs. (fore_by bs item.body).calls to) all_skips ∙ h) in
      let k : front_at (proc_fronts agent) at ≡ front agent item.body = ap (λ fs. front_at fs at) (sym g.settled) ∙ front_of (λ i. front agent i.body) agent.procs at item e in
      subst (λ (f : Front). height_at to < f.height) (sym k) d

  falls : IsGuarded agent → (at to : ℕ) → calls_first agent at to ≡ true → height_at to < height_at at
  falls g at to h = falls_from g at to (slice_get agent.procs at) refl h

  path_falls : IsGuarded agent → (path : List ℕ) (at to : ℕ) → IsPath agent at path to → height_at to < height_at at
  path_falls g [] at to h = falls g at to h
  path_falls g (via ∷ path) at to h = let a = falls g at via h.0 in let b = path_falls g path via to h.1 in omega arith

  pub no_path : IsGuarded agent → NoPathToItself agent
  no_path g item r = let h = path_falls g r.0 item item r.1 in omega arith

  -- paths put together
  path_join : (path more : List ℕ) (at via to : ℕ) → IsPath agent at path via → IsPath agent via more to → IsPath agent at (path ++ via ∷ more) to
  path_join [] more at via to h k = (h, k)
  path_join (next ∷ path) more at via to h k = (h.0, path_join path more next via to h.1 k)

  reach_join : (at via to : ℕ) → PathTo agent at via → PathTo agent via to → PathTo agent at to
  reach_join at via to h k = (h.0 ++ via ∷ k.0, path_join h.0 k.0 at via to h.1 k.1)

  -- procedures that are marked, by their numbers; a number of no procedure always is
  mark : List Bool → ℕ → List Bool
  mark [] at = []
  mark (b ∷ bs) zero = true ∷ bs
  mark (b ∷ bs) (suc at) = b ∷ mark bs at

  unmarked : List Bool → ℕ
  unmarked [] = 0
  unmarked (true ∷ bs) = unmarked bs
  unmarked (false ∷ bs) = suc (unmarked bs)

  marked-cases : (bs : List Bool) (at other : ℕ) → is_skipped (mark bs at) other ≡ true → (is_skipped bs other ≡ true) ⊎ (other ≡ at)
  unfolding mark
  marked-cases [] at other e = inl e
  marked-cases (b ∷ bs) zero zero e = inr refl
  marked-cases (b ∷ bs) zero (suc other) e = inl e
  marked-cases (b ∷ bs) (suc at) zero e = inl e
  marked-cases (b ∷ bs) (suc at) (suc other) e = elim (marked-cases bs at other e) [ inl h ↦ inl h | inr h ↦ inr (ap suc h) ]

  unmarked-mark : (bs : List Bool) (at : ℕ) → is_skipped bs at ≡ false → unmarked bs ≡ suc (unmarked (mark bs at))
  unfolding mark unmarked
  unmarked-mark [] at e = absurd (cc)
  unmarked-mark (true ∷ bs) zero e = absurd (cc)
  unmarked-mark (false ∷ bs) zero e = refl
  unmarked-mark (true ∷ bs) (suc at) e = unmarked-mark bs at e
  unmarked-mark (false ∷ bs) (suc at) e = ap suc (unmarked-mark bs at e)

  unmarked-length : (bs : List Bool) → unmarked bs ≤ length bs
  unfolding unmarked
  unmarked-length [] = omega arith
  unmarked-length (true ∷ bs) = let h = unmarked-length bs in omega arith
  unmarked-length (false ∷ bs) = let h = unmarked-length bs in omega arith

  abbrev none_marked : List Bool
  none_marked = map (λ (item : ProcItem). false) agent.procs

  abbrev SameHeight : ℕ → ℕ → Type 0
  SameHeight k at = (front_at (fronts_to k agent) at).height ≡ (front_at (fronts_to (suc k) agent) at).height

  same_at : (f g : ProcItem → Front) (items : List ProcItem) (at : ℕ) → ((item : ProcItem) → slice_get items at ≡ Some item → (f item).height ≡ (g item).height)
      → (front_at (map f items) at).height ≡ (front_at (map g items) at).height
  same_at f g [] at h = refl
  same_at f g (i ∷ items) zero h = h i refl
  same_at f g (i ∷ items) (suc at) h = same_at f g items at h

  beyond : (f g : ProcItem → Front) (items : List ProcItem) (at : ℕ) → is_skipped (map (λ (item : ProcItem). false) items) at ≡ true
      → (front_at (map f items) at).height ≡ (front_at (map g items) at).height
  beyond f g [] at h = refl
  beyond f g (i ∷ items) zero h = absurd (cc)
  beyond f g (i ∷ items) (suc at) h = beyond f g items at h

  -- each marked procedure reaches this one, or is none
  abbrev Before : List Bool → ℕ → Type 0
  Before bs at = (other : ℕ) → is_skipped bs other ≡ true → PathTo agent other at ⊎ (is_skipped none_marked other ≡ true)

  beyond_round : (k at : ℕ) → is_skipped none_marked at ≡ true → SameHeight k at
  beyond_round zero at h = beyond (λ item. no_front) (λ item. front_by (fronts_to zero agent) item.body) agent.procs at h
  beyond_round (suc k) at h = beyond (λ item. front_by (fronts_to k agent) item.body) (λ item. front_by (fronts_to (suc k) agent) item.body) agent.procs at h

  skips_at : (k : ℕ) → size ≤ k → map (λ (f : Front). f.skip) (fronts_to k agent) ≡ proc_skips agent
  skips_at k l = round_skips (k - size) k (omega arith)

  -- the unmarked ones that a procedure calls settle, so it does
  next_settles : NoPathToItself agent → (bs : List Bool) (at : ℕ) → Before bs at → (k : ℕ)
      → ((to : ℕ) → is_skipped (mark bs at) to ≡ false → Before (mark bs at) to → SameHeight k to)
      → (to : ℕ) → calls_first agent at to ≡ true → (b : Bool) → is_skipped (mark bs at) to ≡ b → SameHeight k to
  next_settles none bs at before k more to calls false e =
      more to e (λ other h. elim (marked-cases bs at other h) [
        | inl m ↦ elim (before other m) [ inl r ↦ inl (reach_join other at to r ([], calls)) | inr out ↦ inr out ]
        | inr same ↦ inl (subst (λ x. PathTo agent x to) (sym same) ([], calls))
      ])
  next_settles none bs at before k more to calls true e =
      elim (marked-cases bs at to e) [
        | inl m ↦ elim (before to m) [ inl r ↦ absurd (none to (reach_join to at to r ([], calls))) | inr out ↦ beyond_round k to out ]
        | inr same ↦ absurd (none at (subst (λ x. PathTo agent at x) same ([], calls)))
      ]

  -- the heights settle in as many rounds as procedures are unmarked, where the marked ones come before
  settles : NoPathToItself agent → (n : ℕ) (bs : List Bool) (at : ℕ) → unmarked bs ≤ n → is_skipped bs at ≡ false → Before bs at → (k : ℕ) → n + size ≤ k → SameHeight k at
  settles none zero bs at le e before k l = absurd (let h = unmarked-mark bs at e in omega arith)
  settles none (suc n) bs at le e before zero l = absurd (omega arith)
  settles none (suc n) bs at le e before (suc k) l =
      same_at (λ item. front_by (fronts_to k agent) item.body) (λ item. front_by (fronts_to (suc k) agent) item.body) agent.procs at
      (λ item is. (near (fronts_to k agent) (fronts_to (suc k) agent) (proc_skips agent) (skips_at k (omega arith)) (skips_at (suc k) (omega arith)) item.body).heights
      (λ to calls.
      next_settles none bs at before k (λ other h b. settles none n (mark bs at) other (let u = unmarked-mark bs at e in omega arith) h b k (omega arith))
      to (ap (λ o. calls_from agent o to) is ∙ calls) (is_skipped (mark bs at) to) refl))

  height_settles : NoPathToItself agent → (at : ℕ) (b : Bool) → is_skipped none_marked at ≡ b → SameHeight (2 * size) at
  height_settles none at true e = beyond_round (2 * size) at e
  height_settles none at false e =
      settles none size none_marked at
      (let h = unmarked-length none_marked in let k = length-map agent.procs (λ (item : ProcItem). false) in omega arith) e (λ other h. inr h) (2 * size) (omega arith)

  front_same : (f g : Front) → f.skip ≡ g.skip → f.height ≡ g.height → f ≡ g
  front_same f g e h = λ i. record { skip = e i; height = h i }

  fronts_same : (fs gs : List Front) → length fs ≡ length gs → ((at : ℕ) → front_at fs at ≡ front_at gs at) → fs ≡ gs
  fronts_same [] [] e h = refl
  fronts_same [] (g ∷ gs) e h = absurd (omega arith)
  fronts_same (f ∷ fs) [] e h = absurd (omega arith)
  fronts_same (f ∷ fs) (g ∷ gs) e h = let k = h zero in let r = fronts_same fs gs (omega arith) (λ at. h (suc at)) in cc

  round_length : (k : ℕ) → length (fronts_to k agent) ≡ size
  round_length zero = length-map agent.procs (λ (item : ProcItem). no_front)
  round_length (suc k) = length-map agent.procs (λ (item : ProcItem). front_by (fronts_to k agent) item.body)

  skip_settles : (at : ℕ) → (front_at (fronts_to (2 * size) agent) at).skip ≡ (front_at (fronts_to (suc (2 * size)) agent) at).skip
  skip_settles at =
      skipped-front (fronts_to (2 * size) agent) at
      ∙ ap (λ bs. is_skipped bs at) (skips_at (2 * size) (omega arith) ∙ sym (skips_at (suc (2 * size)) (omega arith)))
      ∙ sym (skipped-front (fronts_to (suc (2 * size)) agent) at)

  pub guarded_without_path : NoPathToItself agent → IsGuarded agent
  unfolding proc_fronts
  guarded_without_path none = record {
    settled = sym (fronts_same (fronts_to (2 * size) agent) (fronts_to (suc (2 * size)) agent) (round_length (2 * size) ∙ sym (round_length (suc (2 * size))))
        (λ at. front_same (front_at (fronts_to (2 * size) agent) at) (front_at (fronts_to (suc (2 * size)) agent) at) (skip_settles at) (height_settles none at (is_skipped none_marked at) refl)));
  }
