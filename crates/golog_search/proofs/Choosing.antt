-- What a program does next, from its ends and its steps, and from the fuel that its blocks lack.
use Rattle.std.proofs.Common.{◌≡◌, Bool, true, false, ◌&&◌, ◌||◌, if◌then◌else◌, List, [], ◌∷◌, Option, Some, None, inl, inr, refl, sym, ap, ◌∙◌, subst}
use Rattle.std.specs.Prelude.{not, IfOk, Result, Ok, Err}
use Rattle.std.specs.List.{list_any}
use Rattle.std.specs.Option.{is_some, option_map}
use Rattle.golog_base.proofs.Bools.{or-true}
use Rattle.golog_tree.specs.declared.agent.Agent.{Agent}
use Rattle.golog_tree.specs.declared.prog.Prog.{Prog}
use Rattle.golog_semantics.specs.declared.Mode.{Mode}
use Rattle.golog_semantics.specs.declared.Mode.TheVariants.{Must, May, Near}
use Rattle.golog_semantics.specs.declared.search.Move.{Move}
use Rattle.golog_semantics.specs.Truth.{Values}
use Rattle.golog_semantics.specs.Ways.{is_empty}
use Rattle.golog_semantics.specs.Search.{final}
use Rattle.golog_semantics.specs.Blocks.{block_moves, moves}
use Rattle.golog_semantics.specs.Guarded.{IsGuarded}
use Rattle.golog_semantics.specs.Heavy.{Reached, front_blocks, heavy, is_above}
use Rattle.golog_semantics.specs.InSorts.{AreInSorts}
use Rattle.golog_semantics.specs.WellFormed.{WellFormed}
use Rattle.golog_ways.specs.First.{head_of}
use Rattle.golog_ways.specs.FirstMove.{first_move}
use Rattle.golog_ways.specs.Lacking.{Lacks}
use Rattle.golog_ways.specs.Reach.{has_move}
use Rattle.golog_search.specs.declared.decision.Blocked.TheVariants.{Unknown, Depth, Stuck}
use Rattle.golog_search.specs.declared.decision.Decision.{Decision}
use Rattle.golog_search.specs.declared.decision.Decision.TheVariants.{Final, Blocked as Blocking, Fuel}
use Rattle.golog_search.specs.BlockSteps.{IsSearchedIn}
use Rattle.golog_search.specs.Decided.{IsAhead, IsDecided, ahead, along, blocked, decision, stepping}
use Rattle.golog_search.specs.Weighing.{weighs_by}
use Rattle.golog_search.proofs.FuelLacked.{lacks-told, or_cases, wants}
use Rattle.golog_search.proofs.HeavyPrograms.{heavy_weighs}

-- a block weighs where fewer did
weighs-too : (must near s t higher : Bool) → (s ≡ true → t ≡ true) → (must || (near && (s || higher))) ≡ true → (must || (near && (t || higher))) ≡ true
weighs-too true near s t higher h e = refl
weighs-too false false s t higher h e = e
weighs-too false true true t higher h e = ap (λ b. b || higher) (h refl)
weighs-too false true false true higher h e = refl
weighs-too false true false false higher h e = e

module _ (agent : Agent) (values : Values) where
  weighs-more : (s t : Bool) → (s ≡ true → t ≡ true) → (blocks : List Reached) → list_any (weighs_by agent values s) blocks ≡ true → list_any (weighs_by agent values t) blocks ≡ true
  weighs-more s t h [] e = e
  weighs-more s t h (at ∷ blocks) e = elim (or_cases (weighs_by agent values s at) (list_any (weighs_by agent values s) blocks) e) [
    | inl k ↦ ap (λ c. c || list_any (weighs_by agent values t) blocks) (weighs-too (is_above agent values Must at.block) (is_above agent values Near at.block) s t at.is_higher h k)
    | inr k ↦ ap (λ c. weighs_by agent values t at || c) (weighs-more s t h blocks k) ∙ or-true (weighs_by agent values t at)
  ]

module _ (agent : Agent) (values : Values) (p : Prog) where
  -- a program that does not end is heavy where a block weighs
  pub heavy-so : final agent values Must p ≡ false → (s : Bool) → (s ≡ true → is_empty (moves agent values Must p) ≡ true)
      → list_any (weighs_by agent values s) (front_blocks agent values p) ≡ true → heavy agent values p ≡ true
  heavy-so e s h k =
      let stepless = is_empty (moves agent values Must p) in
      sym (heavy_weighs agent values p stepless refl e) ∙ weighs-more agent values s stepless h (front_blocks agent values p) k

  pub ends : (bounded : Bool) → final agent values Must p ≡ true → IsAhead agent values p bounded (Some Final)
  unfolding ahead
  ends bounded e = inl (sym (ap (λ b. if b then Some Final else option_map stepping (head_of (moves agent values Must p))) e))

  by-first : final agent values Must p ≡ false → (found : Option Move) → found ≡ first_move agent (block_moves agent values) values p → option_map stepping found ≡ ahead agent values p
  unfolding ahead first_move moves
  by-first e found f = ap (option_map stepping) f ∙ sym (ap (λ b. if b then Some Final else option_map stepping (head_of (moves agent values Must p))) e)

  pub steps : (bounded : Bool) → final agent values Must p ≡ false → (step : Move) → Some step ≡ first_move agent (block_moves agent values) values p → IsAhead agent values p bounded (Some (stepping step))
  steps bounded e step f = inl (by-first e (Some step) f)

  pub stepless : (bounded : Bool) → final agent values Must p ≡ false → None ≡ first_move agent (block_moves agent values) values p → IsAhead agent values p bounded None
  stepless bounded e f = by-first e None f

  module _ (bounded : Bool) (g : IsGuarded agent) (unended : final agent values Must p ≡ false) where
    pub first-lacks : Lacks agent (wants bounded agent values false) false p → IsAhead agent values p bounded (Some Fuel)
    first-lacks l =
        let k = lacks-told bounded agent values false g l.deep false false (λ e. absurd (cc)) p l.lacks in
        inr (k.0, refl, heavy-so unended false (λ e. absurd (cc)) k.1)

    pub reach-lacks : is_empty (moves agent values Must p) ≡ true → Lacks agent (wants bounded agent values true) true p → IsDecided agent values p bounded Fuel
    reach-lacks none l =
        let k = lacks-told bounded agent values true g l.deep true false (λ e. refl) p l.lacks in
        inr (k.0, refl, heavy-so unended true (λ e. none) k.1)

  -- what is ahead is what is decided
  ahead-decided : (d : Decision) → Some d ≡ ahead agent values p → d ≡ decision agent values p
  unfolding ahead decision
  ahead-decided d h = go (final agent values Must p) (moves agent values Must p) h
    where
      go : (b : Bool) (steps : List Move) → Some d ≡ (if b then Some Final else option_map stepping (head_of steps)) → d ≡ (if b then Final else along agent values p steps)
      go true steps h = cc
      go false [] h = absurd (cc)
      go false (m ∷ steps) h = cc

  pub decided : (bounded : Bool) (d : Decision) → IsAhead agent values p bounded (Some d) → IsDecided agent values p bounded d
  decided bounded d (inl h) = inl (ahead-decided d h)
  decided bounded d (inr h) = inr h

  -- where nothing is ahead, the program has no certain end and no certain step
  pub nothing-ahead : None ≡ ahead agent values p → (final agent values Must p ≡ false) × (is_empty (moves agent values Must p) ≡ true)
  unfolding ahead
  nothing-ahead h = go (final agent values Must p) (moves agent values Must p) h
    where
      go : (b : Bool) (steps : List Move) → None ≡ (if b then Some Final else option_map stepping (head_of steps)) → (b ≡ false) × (is_empty steps ≡ true)
      go true steps h = absurd (cc)
      go false [] h = (refl, refl)
      go false (m ∷ steps) h = absurd (cc)

  -- where a step is ahead, there is one
  something-ahead : (d : Decision) → final agent values Must p ≡ false → Some d ≡ ahead agent values p → is_empty (moves agent values Must p) ≡ false
  unfolding ahead
  something-ahead d e h = go (final agent values Must p) (moves agent values Must p) e h
    where
      go : (b : Bool) (steps : List Move) → b ≡ false → Some d ≡ (if b then Some Final else option_map stepping (head_of steps)) → is_empty steps ≡ false
      go true steps e h = absurd (cc)
      go false [] e h = absurd (cc)
      go false (m ∷ steps) e h = refl

  module _ (unended : final agent values Must p ≡ false) (none : is_empty (moves agent values Must p) ≡ true) where
    is-blocked : decision agent values p ≡ Blocking (blocked agent values p)
    unfolding decision
    is-blocked = ap (λ b. if b then Final else along agent values p (moves agent values Must p)) unended ∙ go (moves agent values Must p) none
      where
        go : (steps : List Move) → is_empty steps ≡ true → along agent values p steps ≡ Blocking (blocked agent values p)
        go [] e = refl
        go (m ∷ steps) e = absurd (cc)

    pub near-end : (bounded : Bool) → final agent values Near p ≡ true → IsDecided agent values p bounded (Blocking Unknown)
    near-end bounded e = inl (sym (is-blocked ∙ ap Blocking (go (not (is_empty (moves agent values Near p))) (final agent values Near p) e)))
      where
        go : (near ends : Bool) → ends ≡ true → (if near || ends then Unknown else if not (is_empty (moves agent values May p)) then Depth else Stuck) ≡ Unknown
        go true ends e = refl
        go false true e = refl
        go false false e = absurd (cc)

    -- why the program is blocked, by its steps in Near and in May
    pub by-reach : (bounded : Bool) → final agent values Near p ≡ false → (near may : Bool) → near ≡ has_move agent (block_moves agent values) values Near p
        → may ≡ has_move agent (block_moves agent values) values May p → IsDecided agent values p bounded (Blocking (if near then Unknown else if may then Depth else Stuck))
    unfolding has_move moves
    by-reach bounded e near may n m =
        inl (ap (λ b. Blocking (if b then Unknown else if may then Depth else Stuck)) n
        ∙ ap (λ b. Blocking (if not (is_empty (moves agent values Near p)) then Unknown else if b then Depth else Stuck)) m
        ∙ sym (is-blocked ∙ ap Blocking (go (not (is_empty (moves agent values Near p))) (final agent values Near p) e)))
      where
        go : (near ends : Bool) → ends ≡ false → (if near || ends then Unknown else if not (is_empty (moves agent values May p)) then Depth else Stuck)
            ≡ (if near then Unknown else if not (is_empty (moves agent values May p)) then Depth else Stuck)
        go true ends e = refl
        go false true e = absurd (cc)
        go false false e = refl

  -- searches without bounds lack no fuel
  unbounded-step : (d : Decision) → IsAhead agent values p false (Some d) → Some d ≡ ahead agent values p
  unbounded-step d (inl h) = h
  unbounded-step d (inr h) = absurd (let k = h.0 in cc)

  -- a program that does not end has no certain step where nothing is ahead
  pub stepless-ahead : final agent values Must p ≡ false → (found : Option Decision) → IsAhead agent values p false found → not (is_some found) ≡ is_empty (moves agent values Must p)
  stepless-ahead e None h = sym (nothing-ahead h).1
  stepless-ahead e (Some d) h = sym (something-ahead d e (unbounded-step d h))

  unbounded : (d : Decision) → IsDecided agent values p false d → d ≡ decision agent values p
  unbounded d (inl h) = h
  unbounded d (inr h) = absurd (let k = h.0 in cc)

  pub unbounded-ok : {E : Type 0} (result : Result Decision E) → IfOk result (IsDecided agent values p false) → IfOk result (λ d. d ≡ decision agent values p)
  unbounded-ok (Ok d) h = unbounded d h
  unbounded-ok (Err e) h = h

-- what is told of the values of a state is told of the state
module _ (agent : Agent) (p : Prog) (given state : Values) (same : given ≡ state) where
  pub first-at : (found other : Option Move) → found ≡ other → found ≡ first_move agent (block_moves agent given) given p → other ≡ first_move agent (block_moves agent state) state p
  first-at found other e h = sym e ∙ subst (λ v. found ≡ first_move agent (block_moves agent v) v p) same h

  pub move-at : (m : Mode) (b : Bool) → b ≡ has_move agent (block_moves agent given) given m p → b ≡ has_move agent (block_moves agent state) state m p
  move-at m b h = subst (λ v. b ≡ has_move agent (block_moves agent v) v m p) same h

  pub lacks-at : (bounded stepless higher : Bool) → Lacks agent (wants bounded agent given stepless) higher p → Lacks agent (wants bounded agent state stepless) higher p
  lacks-at bounded stepless higher h = subst (λ v. Lacks agent (wants bounded agent v stepless) higher p) same h

  pub searched-at : WellFormed agent → AreInSorts agent state → IsSearchedIn agent given state
  searched-at w s = record { formed = w; sorts = subst (AreInSorts agent) (sym same) s; same = same }
