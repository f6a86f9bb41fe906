-- What goes along the steps of a program, and from a body and the rest of a run to a block under way, goes along all steps.
use Rattle.std.proofs.Common.{◌≡◌, ℕ, zero, suc, Bool, true, false, if◌then◌else◌, List, [], ◌∷◌, Option, Some, None, inl, inr, refl, subst}
use Rattle.std.specs.Prelude.{filter}
use Rattle.golog_tree.specs.declared.agent.Agent.{Agent}
use Rattle.golog_tree.specs.declared.prog.Label.{Label}
use Rattle.golog_tree.specs.declared.prog.Prog.{Prog}
use Rattle.golog_tree.specs.declared.prog.Prog.TheVariants as prog
use Rattle.golog_tree.specs.declared.prog.Way.{Way}
use Rattle.golog_semantics.specs.declared.Mode.{Mode}
use Rattle.golog_semantics.specs.declared.Mode.TheVariants.{Must, May, Near}
use Rattle.golog_semantics.specs.declared.search.Move.{Move}
use Rattle.golog_semantics.specs.Truth.{Values}
use Rattle.golog_semantics.specs.Values.{after}
use Rattle.golog_semantics.specs.Ways.{plain_move, way_of}
use Rattle.golog_semantics.specs.Search.{Run, best, best_from, moves_with, no_blocks, plain_ways, runs}
use Rattle.golog_semantics.specs.Blocks.{beginning, begins_run, block_moves, first_step, is_kept, labels_of, may_succeed, moves, searching}
use Rattle.golog_semantics.specs.Guarded.{front}
use Rattle.golog_semantics.proofs.BlocksFit.{each-filter, each-map}
use Rattle.golog_semantics.proofs.ByParts.{OfEach}
use Rattle.golog_semantics.proofs.BestRuns.{longer}
use Rattle.golog_certain.proofs.CertainRuns.{found}
use Rattle.golog_semantics.proofs.FrontParts.{Claim}
use Rattle.golog_semantics.proofs.Among.{Among}
use Rattle.golog_semantics.proofs.StepsKeep.{Keeps, OfLefts, moves_keep}

pub each-among : {A : Type 0} (Q : A → Type 0) (xs : List A) (x : A) → OfEach Q xs → Among xs x → Q x
each-among Q [] x h k = absurd k
each-among Q (y ∷ xs) x h (inl e) = subst Q e h.0
each-among Q (y ∷ xs) x h (inr k) = each-among Q xs x h.1 k

pub if_empty : (b : Bool) (run : Run) → Among (if b then [] ∷ [] else []) run → [] ≡ run
if_empty true run (inl e) = e
if_empty true run (inr h) = absurd h
if_empty false run h = absurd h

-- what is said of a program is said of what its ways leave
pub plain_keep : (agent : Agent) (claim : Claim) → Keeps agent claim → (values : Values) (m : Mode) (p : Prog) → claim.of_prog p
    → OfEach (λ (w : Way). claim.of_prog w.left) (plain_ways agent values m p)
unfolding plain_ways
plain_keep agent claim keeps values m p h =
    each-map (λ (move : Move). claim.of_prog move.left) (λ (w : Way). claim.of_prog w.left) way_of (λ move k. k) (moves_with agent no_blocks values m p)
    (moves_keep agent claim keeps values no_blocks (λ k depth fuel q rest x. tt) (front agent p).height m p h)

module _ (agent : Agent) (P : Prog → Type 0) where
  abbrev pub OfRun : List Way → Type 0
  OfRun = OfEach (λ (w : Way). P w.left)

  -- the claim of programs, and of blocks by their bodies and the rests of their runs
  abbrev pub along_runs : Claim
  along_runs = record { of_prog = P; of_block = λ depth fuel p rest. P p × OfRun rest }

  module _ (keeps : Keeps agent along_runs) (follows : (depth fuel : ℕ) (p : Prog) (rest : List Way) → P p → OfRun rest → P (prog.Follow depth fuel p rest)) where
    none_left : (m : Mode) (p : Prog) (values : Values) (run : Run) → Among (runs agent m zero p values) run → OfRun run
    unfolding runs
    none_left m p values run h = subst OfRun (if_empty _ run h) tt

    runs_keep : (m : Mode) (n : ℕ) (p : Prog) (values : Values) (run : Run) → P p → Among (runs agent m n p values) run → OfRun run
    runs_keep m zero p values run h k = none_left m p values run k
    runs_keep m (suc n) p values run h k =
        let b = longer agent m n p values run k in
        let e = each-among (λ (w : Way). P w.left) (plain_ways agent values m p) b.way (plain_keep agent along_runs keeps values m p h) b.step in
        subst OfRun b.is (e, runs_keep m n b.way.left (after agent values b.way.label) b.rest e b.later)

    first_keeps : (depth fuel : ℕ) (begun_run : Option (List Label)) (run : Run) → OfRun run → OfLefts agent along_runs (first_step depth fuel begun_run run)
    first_keeps depth fuel b [] r = tt
    first_keeps depth fuel b (w ∷ rest) r = (follows depth fuel w.left rest r.0 r.1, tt)

    best_keeps : (depth fuel : ℕ) (p : Prog) (values : Values) → P p → (o : Option Run) → best_from agent Must 1 depth p values ≡ o → OfLefts agent along_runs (beginning depth fuel o)
    best_keeps depth fuel p values h None e = tt
    best_keeps depth fuel p values h (Some run) e =
        let f = found agent Must 1 depth p values run e in
        first_keeps depth fuel (Some (labels_of run)) run (runs_keep Must f.size p values run h f.among)

    certain_keeps : (b : Bool) (depth fuel : ℕ) (p : Prog) (values : Values) (rest : List Way) → P p → OfRun rest
        → OfLefts agent along_runs (if b then first_step depth fuel None rest else beginning depth fuel (best_from agent Must 1 depth p values))
    certain_keeps true depth fuel p values rest h r = first_keeps depth fuel None rest r
    certain_keeps false depth fuel p values rest h r = best_keeps depth fuel p values h (best_from agent Must 1 depth p values) refl

    searching_keeps : (depth fuel : ℕ) (ws : List Way) → OfRun ws → OfLefts agent along_runs (searching depth fuel ws)
    searching_keeps depth fuel ws h =
        each-map (λ (w : Way). P w.left) (λ (move : Move). P move.left) (λ (w : Way). plain_move w.label (prog.Follow depth fuel w.left [])) (λ w k. follows depth fuel w.left [] k tt) ws h

    blocks_keep : (values : Values) (m : Mode) (depth fuel : ℕ) (p : Prog) (rest : List Way) → P p × OfRun rest → OfLefts agent along_runs (block_moves agent values m depth fuel p rest)
    unfolding best
    blocks_keep values Must depth fuel p rest h = certain_keeps (is_kept agent values p rest) depth fuel p values rest h.0 h.1
    blocks_keep values Near depth fuel p rest h =
        searching_keeps depth fuel (filter (begins_run agent values depth) (plain_ways agent values Near p))
        (each-filter (λ (w : Way). P w.left) (begins_run agent values depth) (plain_ways agent values Near p) (plain_keep agent along_runs keeps values Near p h.0))
    blocks_keep values May depth fuel p rest h =
        searching_keeps depth fuel (filter (may_succeed agent values depth) (plain_ways agent values Near p))
        (each-filter (λ (w : Way). P w.left) (may_succeed agent values depth) (plain_ways agent values Near p) (plain_keep agent along_runs keeps values Near p h.0))

    pub steps_keep : (values : Values) (m : Mode) (p : Prog) → P p → OfLefts agent along_runs (moves agent values m p)
    unfolding moves
    steps_keep values m p h = moves_keep agent along_runs keeps values (block_moves agent values) (blocks_keep values) (front agent p).height m p h
