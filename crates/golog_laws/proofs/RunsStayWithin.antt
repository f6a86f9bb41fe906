-- A run under way in what a step leaves may be found by a search within its depth.
use Rattle.std.proofs.Common.{◌≡◌, ℕ, zero, suc, ◌≤◌, Bool, true, false, ◌&&◌, if◌then◌else◌, List, [], ◌∷◌, length, map, Option, Some, None, refl, sym, ap, ◌∙◌, subst, arith}
use Rattle.std.specs.Prelude.{Contains, nat_le, filter}
use Rattle.std.specs.List.{list_all}
use Rattle.std.proofs.lemmas.List.{length-map}
use Rattle.golog_tree.specs.declared.agent.Agent.{Agent}
use Rattle.golog_tree.specs.declared.agent.ProcItem.{ProcItem}
use Rattle.golog_tree.specs.declared.prog.Label.{Label}
use Rattle.golog_tree.specs.declared.prog.Prog.{Prog}
use Rattle.golog_tree.specs.declared.prog.Prog.TheOpen.{Nil, Act, Test, Seq, Choice, Pick, Star, If, While, Conc, Prio, Cstar, Call, Search, Follow}
use Rattle.golog_tree.specs.declared.prog.Prog.TheVariants as prog
use Rattle.golog_tree.specs.declared.prog.Prog.TheViews.{out-Prog}
use Rattle.golog_tree.specs.declared.prog.Prog.TheFolds.{fold_out-Prog, map-Prog}
use Rattle.golog_tree.specs.declared.prog.Way.{Way}
use Rattle.golog_tree.specs.Tidy.{Layer, tidy_right}
use Rattle.golog_semantics.specs.declared.Mode.{Mode}
use Rattle.golog_semantics.specs.declared.Mode.TheVariants.{Must, May, Near}
use Rattle.golog_semantics.specs.declared.search.Move.{Move}
use Rattle.golog_semantics.specs.Truth.{Values}
use Rattle.golog_semantics.specs.Values.{after}
use Rattle.golog_semantics.specs.Ways.{plain_move}
use Rattle.golog_semantics.specs.Search.{Run, best, best_from, is_followed, nest_limit, plain_ways, runs}
use Rattle.golog_semantics.specs.Blocks.{beginning, begins_run, block_moves, first_step, is_kept, labels_of, may_succeed, moves, searching}
use Rattle.golog_semantics.specs.Guarded.{front}
use Rattle.golog_certain.specs.FollowedRuns.{Ran, found_step, ran, ran_step, run_within, runs_within}
use Rattle.golog_semantics.proofs.BlocksFit.{each-contains, each-filter, each-map}
use Rattle.golog_semantics.proofs.ByParts as parts
use Rattle.golog_semantics.proofs.ByParts.{OfEach}
use Rattle.golog_semantics.proofs.BestRuns.{longer}
use Rattle.golog_certain.proofs.CertainRuns.{found}
use Rattle.golog_laws.proofs.BlocksKeep.{each-among, if_empty, plain_keep}
use Rattle.golog_laws.proofs.FollowedRunsLaws.{RestWithin, no_rest, ran-nest, ran_way, rest_within, way_ran, within_body-of, within_put}
use Rattle.golog_semantics.proofs.FrontParts.{Claim}
use Rattle.golog_semantics.proofs.Among.{Among}
use Rattle.golog_semantics.proofs.StepsFit.{tidy_left-keeps, tidy_right-keeps}
use Rattle.golog_semantics.proofs.StepsKeep.{InParts, Keeps, OfLefts, moves_keep}
use Rattle.golog_semantics.proofs.Tests.{and_both, and_cases}

abbrev P : Prog → Type 0
P p = runs_within p ≡ true

-- a block of which all this holds, within it and along its run
abbrev within : Claim
within = record { of_prog = P; of_block = λ depth fuel p rest. P p × RestWithin depth rest }

abbrev of_ran : Ran → Bool
of_ran r = r.found

seq_within : (p q : Prog) → P p → P q → P (prog.Seq p q)
seq_within p q h k = ap of_ran (parts.fold-seq Ran Ran ran_step (λ w. w.left) p q) ∙ and_both (runs_within p) (runs_within q) h k

conc_within : (p q : Prog) → P p → P q → P (prog.Conc p q)
conc_within p q h k = ap of_ran (parts.fold-conc Ran Ran ran_step (λ w. w.left) p q) ∙ and_both (runs_within p) (runs_within q) h k

prio_within : (p q : Prog) → P p → P q → P (prog.Prio p q)
prio_within p q h k = ap of_ran (parts.fold-prio Ran Ran ran_step (λ w. w.left) p q) ∙ and_both (runs_within p) (runs_within q) h k

rest_whole : (rest : List Way) → OfEach (λ w. is_followed w ≡ true) rest → OfEach (λ (w : Way). P w.left) rest → list_all (λ (r : Ran). nat_le r.nest nest_limit && r.found) (map ran_way rest) ≡ true
rest_whole [] h k = refl
rest_whole (w ∷ rest) h k =
    and_both (nat_le (ran_way w).nest nest_limit && (ran_way w).found) (list_all (λ (r : Ran). nat_le r.nest nest_limit && r.found) (map ran_way rest))
    (and_both (nat_le (ran_way w).nest nest_limit) (ran_way w).found (ap (λ n. nat_le n nest_limit) (ap (λ (r : Ran). r.nest) (way_ran w) ∙ ran-nest w.left) ∙ h.0) (ap of_ran (way_ran w) ∙ k.0))
    (rest_whole rest h.1 k.1)

follow_within : (depth fuel : ℕ) (p : Prog) (rest : List Way) → P p → RestWithin depth rest → P (prog.Follow depth fuel p rest)
follow_within depth fuel p rest h r =
    ap of_ran (parts.fold-follow Ran Ran ran_step (λ w. w.left) depth fuel p rest)
    ∙ and_both (runs_within p) (run_within depth (map ran_way rest)) h
    (and_both (nat_le (length (map ran_way rest)) depth) (list_all (λ (r : Ran). nat_le r.nest nest_limit && r.found) (map ran_way rest))
    (ap (λ n. nat_le n depth) (length-map rest ran_way) ∙ r.short) (rest_whole rest r.followed r.lefts))

module _ (agent : Agent) (bodies : list_all (λ (i : ProcItem). runs_within i.body) agent.procs ≡ true) where
  in_parts : (l : Layer) → found_step (map-Prog Prog Way Ran Ran ran ran_way l) ≡ true → InParts agent within l
  in_parts Nil h = tt
  in_parts (Act action args) h = tt
  in_parts (Test c) h = tt
  in_parts (Seq p q) h = and_cases (runs_within p) (runs_within q) h
  in_parts (Choice p q) h = and_cases (runs_within p) (runs_within q) h
  in_parts (Pick x sort p) h = λ c l. within_put p x c ∙ h
  in_parts (Star p) h = (h, ap of_ran (parts.fold-star Ran Ran ran_step (λ w. w.left) p) ∙ h)
  in_parts (If c p q) h = and_cases (runs_within p) (runs_within q) h
  in_parts (While c p) h = (h, ap of_ran (parts.fold-while Ran Ran ran_step (λ w. w.left) c p) ∙ h)
  in_parts (Conc p q) h = and_cases (runs_within p) (runs_within q) h
  in_parts (Prio p q) h = and_cases (runs_within p) (runs_within q) h
  in_parts (Cstar p) h = (h, ap of_ran (parts.fold-cstar Ran Ran ran_step (λ w. w.left) p) ∙ h)
  in_parts (Call item args) h = within_body-of agent.procs item args bodies
  in_parts (Search depth fuel p) h = (h, no_rest agent bodies depth)
  in_parts (Follow depth fuel p rest) h =
      let k = and_cases (runs_within p) (run_within depth (map ran_way rest)) h in
      (k.0, rest_within depth rest k.1)

  keeps : Keeps agent within
  keeps = record {
    of_nil = ap of_ran (parts.fold-nil Ran Ran ran_step (λ w. w.left));
    of_seq = λ p q h k. tidy_left-keeps P prog.Seq (out-Prog p) p q k (seq_within p q h k);
    of_conc = λ p q h k. tidy_left-keeps P (tidy_right prog.Conc (out-Prog q)) (out-Prog p) p q k (tidy_right-keeps P prog.Conc (out-Prog q) p q h (conc_within p q h k));
    of_prio = λ p q h k. tidy_left-keeps P (tidy_right prog.Prio (out-Prog q)) (out-Prog p) p q k (tidy_right-keeps P prog.Prio (out-Prog q) p q h (prio_within p q h k));
    parts = λ p h. in_parts (out-Prog p) (sym (ap of_ran (fold_out-Prog Ran Ran ran_step (λ w. w.left) p)) ∙ h);
  }

  -- a run of exactly so many ways, each of which may be followed
  pub record RunWithin (n : ℕ) (run : Run) : Type 0 where
    pub size : length run ≡ n
    pub followed : OfEach (λ w. is_followed w ≡ true) run
    pub lefts : OfEach (λ (w : Way). P w.left) run

  none_left : (m : Mode) (p : Prog) (values : Values) (run : Run) → Among (runs agent m zero p values) run → RunWithin zero run
  unfolding runs
  none_left m p values run h = subst (RunWithin zero) (if_empty _ run h) (record { size = refl; followed = tt; lefts = tt })

  runs_keep : (m : Mode) (n : ℕ) (p : Prog) (values : Values) (run : Run) → P p → Among (runs agent m n p values) run → RunWithin n run
  runs_keep m zero p values run h k = none_left m p values run k
  runs_keep m (suc n) p values run h k =
      let b = longer agent m n p values run k in
      let e = each-among (λ (w : Way). P w.left) (plain_ways agent values m p) b.way (plain_keep agent within keeps values m p h) b.step in
      let r = runs_keep m n b.way.left (after agent values b.way.label) b.rest e b.later in
      subst (RunWithin (suc n)) b.is (record { size = (let s = r.size in omega arith); followed = (b.followed, r.followed); lefts = (e, r.lefts) })

  first_keeps : (depth fuel : ℕ) (begun_run : Option (List Label)) (run : Run) → RestWithin depth run → OfLefts agent within (first_step depth fuel begun_run run)
  first_keeps depth fuel b [] r = tt
  first_keeps depth fuel b (w ∷ rest) r =
      (follow_within depth fuel w.left rest r.lefts.0 (record { short = (let s = r.short in grind arith); followed = r.followed.1; lefts = r.lefts.1 }), tt)

  best_keeps : (depth fuel : ℕ) (p : Prog) (values : Values) → P p → (o : Option Run) → best_from agent Must 1 depth p values ≡ o → OfLefts agent within (beginning depth fuel o)
  best_keeps depth fuel p values h None e = tt
  best_keeps depth fuel p values h (Some run) e =
      let f = found agent Must 1 depth p values run e in
      let r = runs_keep Must f.size p values run h f.among in
      first_keeps depth fuel (Some (labels_of run)) run
      (record { short = (let s = r.size in let l = f.high in let k : length run ≤ depth = omega arith in grind arith); followed = r.followed; lefts = r.lefts })

  certain_keeps : (b : Bool) (depth fuel : ℕ) (p : Prog) (values : Values) (rest : List Way) → P p → RestWithin depth rest
      → OfLefts agent within (if b then first_step depth fuel None rest else beginning depth fuel (best_from agent Must 1 depth p values))
  certain_keeps true depth fuel p values rest h r = first_keeps depth fuel None rest r
  certain_keeps false depth fuel p values rest h r = best_keeps depth fuel p values h (best_from agent Must 1 depth p values) refl

  searching_keeps : (depth fuel : ℕ) (ws : List Way) → OfEach (λ (w : Way). P w.left) ws → OfLefts agent within (searching depth fuel ws)
  searching_keeps depth fuel ws h =
      each-map (λ (w : Way). P w.left) (λ (move : Move). P move.left) (λ (w : Way). plain_move w.label (prog.Follow depth fuel w.left []))
      (λ w k. follow_within depth fuel w.left [] k (no_rest agent bodies depth)) ws h

  blocks_keep : (values : Values) (m : Mode) (depth fuel : ℕ) (p : Prog) (rest : List Way) → P p × RestWithin depth rest → OfLefts agent within (block_moves agent values m depth fuel p rest)
  unfolding best
  blocks_keep values Must depth fuel p rest h = certain_keeps (is_kept agent values p rest) depth fuel p values rest h.0 h.1
  blocks_keep values Near depth fuel p rest h =
      searching_keeps depth fuel (filter (begins_run agent values depth) (plain_ways agent values Near p))
      (each-filter (λ (w : Way). P w.left) (begins_run agent values depth) (plain_ways agent values Near p) (plain_keep agent within keeps values Near p h.0))
  blocks_keep values May depth fuel p rest h =
      searching_keeps depth fuel (filter (may_succeed agent values depth) (plain_ways agent values Near p))
      (each-filter (λ (w : Way). P w.left) (may_succeed agent values depth) (plain_ways agent values Near p) (plain_keep agent within keeps values Near p h.0))

  runs_stay : (values : Values) (m : Mode) (p : Prog) → P p → OfLefts agent within (moves agent values m p)
  unfolding moves
  runs_stay values m p h = moves_keep agent within keeps values (block_moves agent values) (blocks_keep values) (front agent p).height m p h

  pub runs_stay_within : (values : Values) (m : Mode) (p : Prog) → P p → (move : Move) → Contains (moves agent values m p) move → P move.left
  runs_stay_within values m p h move c = each-contains (λ (k : Move). P k.left) (moves agent values m p) move (runs_stay values m p h) c
