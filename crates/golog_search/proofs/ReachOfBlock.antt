-- In which modes a search block has a step, by what its searches find.
use Rattle.std.proofs.Common.{◌≡◌, ◌≤◌, Bool, true, false, ◌&&◌, ◌||◌, if◌then◌else◌, List, [], ◌∷◌, length, Option, Some, None, refl, sym, ap, ◌∙◌, subst, arith}
use Rattle.std.specs.Prelude.{not, nat_le, MatchOption, IfOk, IfErr, Result, Ok, Err}
use Rattle.std.specs.List.{list_all}
use Rattle.std.specs.Option.{is_some}
use Rattle.std.proofs.lemmas.Bool.{leb-true}
use Rattle.golog_base.proofs.Bools.{or-true}
use Rattle.golog_tree.specs.declared.agent.Agent.{Agent}
use Rattle.golog_semantics.specs.declared.Mode.{Mode}
use Rattle.golog_semantics.specs.declared.Mode.TheVariants.{Must, May, Near}
use Rattle.golog_semantics.specs.declared.search.Block.{Block}
use Rattle.golog_semantics.specs.declared.search.Move.{Move}
use Rattle.golog_semantics.specs.Truth.{Values}
use Rattle.golog_semantics.specs.Ways.{is_empty}
use Rattle.golog_semantics.specs.Search.{Run, best, is_followed}
use Rattle.golog_semantics.specs.Blocks.{beginning, block_moves, going_on, is_cut, is_kept}
use Rattle.golog_semantics.specs.Heavy.{is_above}
use Rattle.golog_semantics.specs.RunLaws.{IsLeast, NoneUpTo}
use Rattle.golog_semantics.proofs.BestRuns.{best_is_least}
use Rattle.golog_semantics.proofs.Tests.{and_cases}
use Rattle.golog_ways.specs.declared.answering.Stop.{Stop}
use Rattle.golog_ways.specs.declared.answering.Stop.TheVariants.{Fuel, Memory}
use Rattle.golog_ways.specs.declared.reaches.Reach.{Reach}
use Rattle.golog_ways.specs.First.{head_of}
use Rattle.golog_ways.specs.Reach.{reaches}
use Rattle.golog_find.specs.declared.found.Found.TheVariants as finds
use Rattle.golog_search.specs.declared.reach.FirstStep.TheVariants as first
use Rattle.golog_search.specs.declared.reach.NearStep.TheVariants as near
use Rattle.golog_search.specs.BlockSteps.{AreNear, first_of_block, has_step, near_of_block, wants_more}
use Rattle.golog_find.specs.Finding.{found_by, run_or}
use Rattle.golog_search.proofs.BlockSteps.{may-steps, near-steps}
use Rattle.golog_search.proofs.CertainNear.{best-near, kept-near}

module _ (bounded : Bool) (agent : Agent) (values : Values) (block : Block) where
  module _ (m : Mode) where
    abbrev cut : Bool
    cut = is_cut agent m block.depth block.body values

    -- what a search in the mode finds tells of the best run
    pub run-found : (run : Run) → finds.Run run ≡ found_by bounded agent values m block → best agent m block.depth block.body values ≡ Some run
    unfolding found_by
    run-found run h = go (bounded && is_above agent values m block) (best agent m block.depth block.body values) h
      where
        go : (b : Bool) (o : Option Run) → finds.Run run ≡ (if b then finds.Fuel else run_or cut o) → o ≡ Some run
        go true o h = absurd (cc)
        go false None h = absurd (cc)
        go false (Some r) h = cc

    pub none-found : (c : Bool) → finds.Absent c ≡ found_by bounded agent values m block → best agent m block.depth block.body values ≡ None
    unfolding found_by
    none-found c h = go (bounded && is_above agent values m block) (best agent m block.depth block.body values) h
      where
        go : (b : Bool) (o : Option Run) → finds.Absent c ≡ (if b then finds.Fuel else run_or cut o) → o ≡ None
        go true o h = absurd (cc)
        go false None h = refl
        go false (Some r) h = absurd (cc)

    pub fuel-found : finds.Fuel ≡ found_by bounded agent values m block → (bounded && is_above agent values m block) ≡ true
    unfolding found_by
    fuel-found h = go (bounded && is_above agent values m block) (best agent m block.depth block.body values) h
      where
        go : (b : Bool) (o : Option Run) → finds.Fuel ≡ (if b then finds.Fuel else run_or cut o) → b ≡ true
        go true o h = refl
        go false None h = absurd (cc)
        go false (Some r) h = absurd (cc)

  module _ (rest : Run) where
    -- what a search in mode Near tells
    pub near-told : (n m : Bool) → near.Steps n m ≡ near_of_block bounded agent values block rest → (n ≡ has_step agent values Near block rest) × (m ≡ has_step agent values May block rest)
    unfolding near_of_block
    near-told n m h = go (bounded && is_above agent values Near block) h
      where
        go : (b : Bool) → near.Steps n m ≡ (if b then near.Fuel else near.Steps (has_step agent values Near block rest) (has_step agent values May block rest))
            → (n ≡ has_step agent values Near block rest) × (m ≡ has_step agent values May block rest)
        go true h = absurd (cc)
        go false h = (cc, cc)

    pub near-lacks : near.Fuel ≡ near_of_block bounded agent values block rest → (bounded && is_above agent values Near block) ≡ true
    unfolding near_of_block
    near-lacks h = go (bounded && is_above agent values Near block) h
      where
        go : (b : Bool) → near.Fuel ≡ (if b then near.Fuel else near.Steps (has_step agent values Near block rest) (has_step agent values May block rest)) → b ≡ true
        go true h = refl
        go false h = absurd (cc)

    -- what the first step tells
    pub step-told : (step : Option Move) → first.Step step ≡ first_of_block bounded agent values block rest
        → step ≡ head_of (block_moves agent values Must block.depth block.fuel block.body rest)
    unfolding first_of_block
    step-told step h = go (wants_more bounded agent values Must block rest) h
      where
        go : (b : Bool) → first.Step step ≡ (if b then first.Fuel else first.Step (head_of (block_moves agent values Must block.depth block.fuel block.body rest)))
            → step ≡ head_of (block_moves agent values Must block.depth block.fuel block.body rest)
        go true h = absurd (cc)
        go false h = cc

    pub step-lacks : first.Fuel ≡ first_of_block bounded agent values block rest → wants_more bounded agent values Must block rest ≡ true
    unfolding first_of_block
    step-lacks h = go (wants_more bounded agent values Must block rest) h
      where
        go : (b : Bool) → first.Fuel ≡ (if b then first.Fuel else first.Step (head_of (block_moves agent values Must block.depth block.fuel block.body rest))) → b ≡ true
        go true h = refl
        go false h = absurd (cc)

    -- a search that wants more, where no run is kept
    pub wants-anew : (m : Mode) → is_kept agent values block.body rest ≡ false → (bounded && is_above agent values m block) ≡ true → wants_more bounded agent values m block rest ≡ true
    wants-anew m k e = ap (λ b. not b && (bounded && is_above agent values m block)) k ∙ e

module _ (agent : Agent) (values : Values) (block : Block) (rest : Run) where
  pub by-modes : (r : Reach) → r.must ≡ has_step agent values Must block rest → r.near ≡ has_step agent values Near block rest → r.may ≡ has_step agent values May block rest
      → (m : Mode) → reaches m r ≡ has_step agent values m block rest
  by-modes r a b c Must = a
  by-modes r a b c Near = b
  by-modes r a b c May = c

  abbrev everywhere : Reach
  everywhere = record { must = true; near = true; may = true }

  abbrev begun : List Move
  begun = beginning block.depth block.fuel (best agent Must block.depth block.body values)

  all-three : 1 ≤ block.depth → true ≡ has_step agent values Must block rest → is_some (best agent Near block.depth block.body values) ≡ true
      → (m : Mode) → reaches m everywhere ≡ has_step agent values m block rest
  all-three some must e =
      by-modes everywhere must (sym (near-steps agent values block.body block.depth block.fuel rest ∙ e))
      (sym (may-steps agent values block.body block.depth block.fuel rest some ∙ ap (λ b. b || is_cut agent Near block.depth block.body values) e))

  -- a run that is kept is a certain step
  pub kept-must : is_kept agent values block.body rest ≡ true → true ≡ has_step agent values Must block rest
  kept-must k = go rest k ∙ sym (ap (λ b. not (is_empty (if b then going_on block.depth block.fuel rest else begun))) k)
    where
      go : (r : Run) → is_kept agent values block.body r ≡ true → true ≡ not (is_empty (going_on block.depth block.fuel r))
      go [] e = absurd (cc)
      go (w ∷ r) e = refl

  pub kept-all : 1 ≤ block.depth → is_kept agent values block.body rest ≡ true → (nat_le (length rest) block.depth && list_all is_followed rest) ≡ true
      → (m : Mode) → reaches m everywhere ≡ has_step agent values m block rest
  kept-all some k w =
      let parts = and_cases (nat_le (length rest) block.depth) (list_all is_followed rest) w in
      all-three some (kept-must k) (kept-near agent values block.body block.depth rest k (leb-true (length rest) block.depth parts.0) parts.1)

  -- else the certain step is the first of the best run
  anew-must : is_kept agent values block.body rest ≡ false → has_step agent values Must block rest ≡ not (is_empty begun)
  anew-must k = ap (λ b. not (is_empty (if b then going_on block.depth block.fuel rest else begun))) k

  starts : (o : Option Run) → MatchOption o (NoneUpTo agent Must block.body values block.depth) (IsLeast agent Must block.body values block.depth)
      → not (is_empty (beginning block.depth block.fuel o)) ≡ is_some o
  starts None h = refl
  starts (Some []) h = let some : 1 ≤ 0 = h.some in absurd (omega arith)
  starts (Some (w ∷ r)) h = refl

  pub anew-all : 1 ≤ block.depth → is_kept agent values block.body rest ≡ false → (run : Run) → best agent Must block.depth block.body values ≡ Some run
      → (m : Mode) → reaches m everywhere ≡ has_step agent values m block rest
  anew-all some k run e =
      all-three some (sym (anew-must k ∙ starts (best agent Must block.depth block.body values) (best_is_least agent Must block.depth block.body values) ∙ ap is_some e))
      (best-near agent values block.body block.depth run e)

  pub anew-none : is_kept agent values block.body rest ≡ false → best agent Must block.depth block.body values ≡ None → false ≡ has_step agent values Must block rest
  anew-none k e = sym (anew-must k ∙ ap (λ o. not (is_empty (beginning block.depth block.fuel o))) e)

  -- where no step is near, none is certain
  pub anew-nowhere : is_kept agent values block.body rest ≡ false → has_step agent values Near block rest ≡ false → false ≡ has_step agent values Must block rest
  anew-nowhere k none = anew-none k (go (best agent Must block.depth block.body values) refl)
    where
      go : (o : Option Run) → best agent Must block.depth block.body values ≡ o → o ≡ None
      go None e = refl
      go (Some run) e =
          let there : is_some (best agent Near block.depth block.body values) ≡ true = best-near agent values block.body block.depth run e in
          let near : has_step agent values Near block rest ≡ true = near-steps agent values block.body block.depth block.fuel rest ∙ there in
          let no : true ≡ false = sym near ∙ none in
          absurd (cc)

  -- with what a search tells in Near, and the certain step as told
  pub near-modes : {E : Type 0} (result : Result Reach E) (must : Bool) → must ≡ has_step agent values Must block rest
      → IfOk result (λ r. (follows : Run) → AreNear agent values block follows must r) → IfOk result (λ r. (m : Mode) → reaches m r ≡ has_step agent values m block rest)
  near-modes (Ok r) must e h = let k = h rest in by-modes r (k.certain ∙ e) k.near k.may
  near-modes (Err x) must e h = h

  -- without bounds no fuel is lacked
  pub never-lacks : {A : Type 0} (result : Result A Stop) (above : Bool) → IfErr result (λ stop. stop ≡ Fuel → (false && above) ≡ true) → IfErr result (λ stop. stop ≡ Memory)
  never-lacks (Ok a) above h = h
  never-lacks (Err Memory) above h = refl
  never-lacks (Err Fuel) above h = absurd (let k = h refl in cc)

  pub memory-alone : {A : Type 0} (result : Result A Stop) (b : Bool) → IfErr result (λ stop. stop ≡ Memory) → IfErr result (λ stop. stop ≡ Fuel → b ≡ true)
  memory-alone (Ok a) b h = h
  memory-alone (Err stop) b h = λ e. absurd (cc)

  -- a search that lacks fuel, where no run is kept
  pub near-wanted : (bounded : Bool) → is_kept agent values block.body rest ≡ false → (bounded && is_above agent values Near block) ≡ true
      → (wants_more bounded agent values Must block rest || wants_more bounded agent values Near block rest) ≡ true
  near-wanted bounded k e =
      ap (λ b. wants_more bounded agent values Must block rest || b) (wants-anew bounded agent values block rest Near k e)
      ∙ or-true (wants_more bounded agent values Must block rest)

  pub must-wants : (bounded : Bool) → is_kept agent values block.body rest ≡ false → (bounded && is_above agent values Must block) ≡ true
      → (wants_more bounded agent values Must block rest || wants_more bounded agent values Near block rest) ≡ true
  must-wants bounded k e = ap (λ b. b || wants_more bounded agent values Near block rest) (wants-anew bounded agent values block rest Must k e)

-- What is told of a block at the values of a state is told of its parts at the values that are given.
module _ (agent : Agent) (values state : Values) (same : values ≡ state) (block parts : Block) (e : block ≡ parts) (rest : Run) where
  pub first-given : (step : Option Move) → step ≡ head_of (block_moves agent state Must block.depth block.fuel block.body rest) → step ≡ head_of (block_moves agent values Must parts.depth parts.fuel parts.body rest)
  first-given step h =
      subst (λ (b : Block). step ≡ head_of (block_moves agent values Must b.depth b.fuel b.body rest)) e
      (subst (λ (v : Values). step ≡ head_of (block_moves agent v Must block.depth block.fuel block.body rest)) (sym same) h)

  pub wants-given : (bounded : Bool) (m : Mode) → wants_more bounded agent state m block rest ≡ true → wants_more bounded agent values m parts rest ≡ true
  wants-given bounded m h =
      subst (λ (b : Block). wants_more bounded agent values m b rest ≡ true) e
      (subst (λ (v : Values). wants_more bounded agent v m block rest ≡ true) (sym same) h)

  pub reach-given : {E : Type 0} (result : Result Reach E) → IfOk result (λ r. (m : Mode) → reaches m r ≡ has_step agent state m block rest)
      → IfOk result (λ r. (m : Mode) → reaches m r ≡ has_step agent values m parts rest)
  reach-given result h =
      subst (λ (b : Block). IfOk result (λ r. (m : Mode) → reaches m r ≡ has_step agent values m b rest)) e
      (subst (λ (v : Values). IfOk result (λ r. (m : Mode) → reaches m r ≡ has_step agent v m block rest)) (sym same) h)

  abbrev either_wants : Bool → Values → Block → Bool
  either_wants bounded v b = wants_more bounded agent v Must b rest || wants_more bounded agent v Near b rest

  pub lacks-given : {A : Type 0} (bounded : Bool) (result : Result A Stop) → IfErr result (λ stop. stop ≡ Fuel → either_wants bounded state block ≡ true)
      → IfErr result (λ stop. stop ≡ Fuel → either_wants bounded values parts ≡ true)
  lacks-given bounded result h =
      subst (λ (b : Block). IfErr result (λ stop. stop ≡ Fuel → either_wants bounded values b ≡ true)) e
      (subst (λ (v : Values). IfErr result (λ stop. stop ≡ Fuel → either_wants bounded v block ≡ true)) (sym same) h)
