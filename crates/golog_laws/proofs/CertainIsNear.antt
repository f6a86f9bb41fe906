-- Where no step is near none is certain, search blocks included.
use Rattle.std.proofs.Common.{◌≡◌, ℕ, zero, suc, ◌+◌, ◌≤◌, ◌<◌, Bool, true, false, if◌then◌else◌, List, [], ◌∷◌, ◌++◌, length, map, Option, Some, None, refl, sym, ◌∙◌, arith}
use Rattle.std.specs.Prelude.{filter}
use Rattle.std.specs.List.{list_all}
use Rattle.golog_tree.specs.declared.agent.Agent.{Agent}
use Rattle.golog_tree.specs.declared.agent.ProcItem.{ProcItem}
use Rattle.golog_tree.specs.declared.prog.Prog.{Prog}
use Rattle.golog_tree.specs.declared.prog.Way.{Way}
use Rattle.golog_semantics.specs.declared.Mode.TheVariants.{Must, May, Near}
use Rattle.golog_semantics.specs.declared.search.Move.{Move}
use Rattle.golog_semantics.specs.Truth.{Values}
use Rattle.golog_semantics.specs.Ways.{is_empty, moves_to}
use Rattle.golog_semantics.specs.Search.{Run, best, best_from, plain_ways, runs}
use Rattle.golog_semantics.specs.Blocks.{beginning, begins_run, block_moves, first_step, goes_through, is_kept, moves}
use Rattle.golog_semantics.specs.Guarded.{front}
use Rattle.golog_certain.specs.FollowedRuns.{runs_within}
use Rattle.golog_semantics.proofs.BestRuns.{longer}
use Rattle.golog_certain.proofs.CertainRuns.{begins, found, goes-runs, ways-must_near}
use Rattle.golog_laws.proofs.FollowedRunsLaws.{RestWithin, ran_within, within_goes}
use Rattle.golog_certain.proofs.Members.{not_empty}
use Rattle.golog_semantics.proofs.Among.{filter-among, Among}
use Rattle.golog_semantics.proofs.StepsInModes.{steps-near_may}
use Rattle.golog_semantics.proofs.StepsOrdered.{Order, must_near_more}
use Rattle.golog_semantics.proofs.Sublists.{sublist-empty}
use Rattle.golog_semantics.proofs.Tests.{and_cases}

-- where the second list is empty, so is the first
abbrev Covers : List Move → List Move → Type 0
Covers us vs = is_empty vs ≡ true → is_empty us ≡ true

append_left : (us vs : List Move) → is_empty (us ++ vs) ≡ true → is_empty us ≡ true
append_left [] vs h = refl
append_left (u ∷ us) vs h = h

append_right : (us vs : List Move) → is_empty (us ++ vs) ≡ true → is_empty vs ≡ true
append_right [] vs h = h
append_right (u ∷ us) vs h = absurd (cc)

append_empty : (us vs : List Move) → is_empty us ≡ true → is_empty vs ≡ true → is_empty (us ++ vs) ≡ true
append_empty [] vs h k = k
append_empty (u ∷ us) vs h k = h

map_empty : {A B : Type 0} (f : A → B) (xs : List A) → is_empty (map f xs) ≡ is_empty xs
map_empty f [] = refl
map_empty f (x ∷ xs) = refl

covers_order : Order Covers
covers_order = record {
  none = λ us h. refl;
  same = λ us h. h;
  joined = λ us vs us' vs' h k e. append_empty us us' (h (append_left vs vs' e)) (k (append_right vs vs' e));
  within = λ context us vs h e.
      map_empty (λ (m : Move). record { label = m.label; left = context m.left; run = m.run }) us
      ∙ h (sym (map_empty (λ (m : Move). record { label = m.label; left = context m.left; run = m.run }) vs) ∙ e);
  empties = λ us vs h e. h e;
}

module _ (agent : Agent) (values : Values) where
  -- a certain run within the depth begins with a near way of the block
  no_run : (depth n : ℕ) (body : Prog) (run : Run) → Among (runs agent Must (suc n) body values) run → suc n ≤ depth
      → is_empty (filter (begins_run agent values depth) (plain_ways agent values Near body)) ≡ true → ⊥
  no_run depth n body run h l e =
      let b = longer agent Must n body values run h in
      let k = begins agent values depth n body b.way b.rest l b.followed b.later in
      let w = filter-among (begins_run agent values depth) (plain_ways agent values Near body) b.way (ways-must_near agent values body b.way b.step) k in
      let no = not_empty (filter (begins_run agent values depth) (plain_ways agent values Near body)) b.way w in
      cc

  kept_none : (depth : ℕ) (body : Prog) (rest : List Way) → RestWithin depth rest → is_kept agent values body rest ≡ true
      → is_empty (filter (begins_run agent values depth) (plain_ways agent values Near body)) ≡ true → ⊥
  kept_none depth body [] r h e = absurd (cc)
  kept_none depth body (w ∷ rest) r h e =
      let k = and_cases true (goes_through agent body (w ∷ rest) values) h in
      no_run depth (length rest) body (w ∷ rest) (goes-runs agent (w ∷ rest) body values k.1 r.followed) (let a = r.short in grind arith) e

  best_none : (depth fuel : ℕ) (body : Prog) (o : Option Run) → best_from agent Must 1 depth body values ≡ o
      → is_empty (filter (begins_run agent values depth) (plain_ways agent values Near body)) ≡ true → is_empty (beginning depth fuel o) ≡ true
  best_none depth fuel body None e h = refl
  best_none depth fuel body (Some run) e h = let f = found agent Must 1 depth body values run e in absurd (sized f.size f.low f.high f.among)
    where
      sized : (size : ℕ) → 1 ≤ size → size < 1 + depth → Among (runs agent Must size body values) run → ⊥
      sized zero l k a = omega arith
      sized (suc n) l k a = no_run depth n body run a (omega arith) h

  certain_none : (b : Bool) (depth fuel : ℕ) (body : Prog) (rest : List Way) → is_kept agent values body rest ≡ b → RestWithin depth rest
      → is_empty (filter (begins_run agent values depth) (plain_ways agent values Near body)) ≡ true
      → is_empty (if b then first_step depth fuel None rest else beginning depth fuel (best_from agent Must 1 depth body values)) ≡ true
  certain_none true depth fuel body rest k r h = absurd (kept_none depth body rest r k h)
  certain_none false depth fuel body rest k r h = best_none depth fuel body (best_from agent Must 1 depth body values) refl h

  blocks_covered : (depth fuel : ℕ) (body : Prog) (rest : List Way) → RestWithin depth rest → Covers (block_moves agent values Must depth fuel body rest) (block_moves agent values Near depth fuel body rest)
  unfolding best
  blocks_covered depth fuel body rest r h =
      certain_none (is_kept agent values body rest) depth fuel body rest refl r
      (sym (map_empty _ (filter (begins_run agent values depth) (plain_ways agent values Near body))) ∙ h)

  module _ (bodies : list_all (λ (i : ProcItem). runs_within i.body) agent.procs ≡ true) where
    steps_covered : (n : ℕ) (p : Prog) → runs_within p ≡ true → Covers (moves_to agent values (block_moves agent values) n Must p) (moves_to agent values (block_moves agent values) n Near p)
    steps_covered =
        must_near_more Covers covers_order agent values (block_moves agent values) ran_within (within_goes agent bodies)
        (λ n p h e. sublist-empty (moves_to agent values (block_moves agent values) n Near p) (moves_to agent values (block_moves agent values) n May p) (steps-near_may agent values n p) e)
        blocks_covered

    pub no_near_no_certain : (p : Prog) → runs_within p ≡ true → is_empty (moves agent values Near p) ≡ true → is_empty (moves agent values Must p) ≡ true
    unfolding moves
    no_near_no_certain p h e = steps_covered (front agent p).height p h e
