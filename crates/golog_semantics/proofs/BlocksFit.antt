-- The steps of search blocks that fit, and of all programs that fit, fit.
use Rattle.std.proofs.Common.{◌≡◌, ℕ, zero, suc, ◌+◌, Bool, true, false, ◌&&◌, if◌then◌else◌, List, [], ◌∷◌, map, Option, Some, None, refl, sym, ap, ◌∙◌, subst, arith}
use Rattle.std.specs.Prelude.{⊤, Contains, filter}
use Rattle.std.specs.List.{flat_map, list_all}
use Rattle.golog_tree.specs.declared.agent.Agent.{Agent}
use Rattle.golog_tree.specs.declared.prog.Label.{Label}
use Rattle.golog_tree.specs.declared.prog.Prog.{Prog}
use Rattle.golog_tree.specs.declared.prog.Prog.TheVariants as prog
use Rattle.golog_tree.specs.declared.prog.Way.{Way}
use Rattle.golog_semantics.specs.declared.Mode.{Mode}
use Rattle.golog_semantics.specs.declared.Mode.TheVariants.{Must, May, Near}
use Rattle.golog_semantics.specs.declared.search.Move.{Move}
use Rattle.golog_semantics.specs.Truth.{Values}
use Rattle.golog_semantics.specs.Values.{after}
use Rattle.golog_semantics.specs.Ways.{plain_move, way_of}
use Rattle.golog_semantics.specs.Search.{Run, best, best_from, final, first_of, is_followed, moves_with, no_blocks, plain_ways, runs}
use Rattle.golog_semantics.specs.Blocks.{beginning, begins_run, block_moves, first_step, is_kept, labels_of, may_succeed, moves, searching}
use Rattle.golog_semantics.specs.Guarded.{front}
use Rattle.golog_semantics.specs.Reports.{fits_label}
use Rattle.golog_semantics.specs.ProgFits.{Position, block_fits, fits, prog_fits, prog_step, way_step}
use Rattle.golog_semantics.specs.FitLaws.{ProcsFit, StepStays}
use Rattle.golog_semantics.proofs.ByParts as parts
use Rattle.golog_semantics.proofs.ByParts.{OfEach}
use Rattle.golog_semantics.proofs.ClosedFits.{Closed}
use Rattle.golog_semantics.proofs.ProgPut.{inside, outside, way_fits}
use Rattle.golog_semantics.proofs.StepsFit.{AllFit, StepFits, each-append, moves_to-fit}
use Rattle.golog_semantics.proofs.Tests.{and_both, and_cases}

pub each-map : {A B : Type 0} (P : A → Type 0) (Q : B → Type 0) (f : A → B) → ((x : A) → P x → Q (f x)) → (xs : List A) → OfEach P xs → OfEach Q (map f xs)
each-map P Q f h [] k = tt
each-map P Q f h (x ∷ xs) k = (h x k.0, each-map P Q f h xs k.1)

each-flat_list : {A B : Type 0} (P : A → Type 0) (Q : B → Type 0) (f : A → List B) → ((x : A) → P x → OfEach Q (f x)) → (xs : List A) → OfEach P xs → OfEach Q (flat_map f xs)
each-flat_list P Q f h [] k = tt
each-flat_list P Q f h (x ∷ xs) k = each-append Q (f x) (flat_map f xs) (h x k.0) (each-flat_list P Q f h xs k.1)

each-kept : {A : Type 0} (P : A → Type 0) (b : Bool) (x : A) (xs : List A) → P x → OfEach P xs → OfEach P (if b then x ∷ xs else xs)
each-kept P true x xs h k = (h, k)
each-kept P false x xs h k = k

pub each-filter : {A : Type 0} (P : A → Type 0) (f : A → Bool) (xs : List A) → OfEach P xs → OfEach P (filter f xs)
each-filter P f [] k = tt
each-filter P f (x ∷ xs) k = each-kept P (f x) x (filter f xs) k.0 (each-filter P f xs k.1)

all_each : {A : Type 0} (f : A → Bool) (xs : List A) → list_all f xs ≡ true → OfEach (λ x. f x ≡ true) xs
all_each f [] h = tt
all_each f (x ∷ xs) h = let k = and_cases (f x) (list_all f xs) h in (k.0, all_each f xs k.1)

pub each-contains : {A : Type 0} (P : A → Type 0) (xs : List A) (x : A) → OfEach P xs → Contains xs x → P x
each-contains P [] x h (k, l, e) = absurd (omega arith)
each-contains P (y ∷ xs) x h (zero, l, e) = subst P e h.0
each-contains P (y ∷ xs) x h (suc k, l, e) = each-contains P xs x h.1 (k, omega arith, e)

module _ (agent : Agent) where
  abbrev A : Type 0
  A = Position → Bool

  -- a way within a block
  abbrev WayFits : Way → Type 0
  WayFits w = way_fits agent w inside ≡ true

  way_parts : (w : Way) → WayFits w → (fits_label agent w.label ≡ true) × Closed agent true w.left
  way_parts w h = and_cases (fits_label agent w.label) (prog_fits agent w.left inside) (sym (ap (λ (f : A). f inside) (parts.fold-way A A (prog_step agent) (way_step agent) w.label w.left)) ∙ h)

  way_whole : (label : Label) (left : Prog) → fits_label agent label ≡ true → Closed agent true left → WayFits (record { label = label; left = left })
  way_whole label left h k = ap (λ (f : A). f inside) (parts.fold-way A A (prog_step agent) (way_step agent) label left) ∙ and_both (fits_label agent label) (prog_fits agent left inside) h k

  rest_whole : (rest : List Way) → OfEach WayFits rest → list_all (λ (v : A). v inside) (map (way_fits agent) rest) ≡ true
  rest_whole [] h = refl
  rest_whole (w ∷ rest) h = and_both (way_fits agent w inside) (list_all (λ (v : A). v inside) (map (way_fits agent) rest)) h.0 (rest_whole rest h.1)

  follow_closed : (depth fuel : ℕ) (body : Prog) (rest : List Way) → block_fits outside depth fuel ≡ true → Closed agent true body → OfEach WayFits rest → Closed agent false (prog.Follow depth fuel body rest)
  follow_closed depth fuel body rest h k r =
      ap (λ (f : A). f outside) (parts.fold-follow A A (prog_step agent) (way_step agent) depth fuel body rest)
      ∙ and_both (block_fits outside depth fuel && prog_fits agent body inside) (list_all (λ (v : A). v inside) (map (way_fits agent) rest))
      (and_both (block_fits outside depth fuel) (prog_fits agent body inside) h k) (rest_whole rest r)

  labels_fit : (run : Run) → OfEach WayFits run → list_all (fits_label agent) (labels_of run) ≡ true
  labels_fit [] h = refl
  labels_fit (w ∷ run) h = and_both (fits_label agent w.label) (list_all (fits_label agent) (labels_of run)) (way_parts w h.0).0 (labels_fit run h.1)

  module _ (p : ProcsFit agent) where
    plain_fit : (values : Values) (m : Mode) (q : Prog) → Closed agent true q → OfEach WayFits (plain_ways agent values m q)
    unfolding plain_ways
    plain_fit values m q h =
        each-map (StepFits agent true) WayFits way_of (λ step k. way_whole step.label step.left k.label_fits k.left_fits) (moves_with agent no_blocks values m q)
        (moves_to-fit agent true p values no_blocks (λ k depth fuel body rest e f g. tt) (front agent q).height m q h)

    runs_fit : (m : Mode) (n : ℕ) (q : Prog) (values : Values) → Closed agent true q → OfEach (OfEach WayFits) (runs agent m n q values)
    unfolding runs
    runs_fit m zero q values h = each-kept (OfEach WayFits) (final agent values m q) [] [] tt tt
    runs_fit m (suc n) q values h =
        each-flat_list WayFits (OfEach WayFits) (λ (w : Way). map (λ r. w ∷ r) (runs agent m n w.left (after agent values w.label)))
        (λ w k. each-map (OfEach WayFits) (OfEach WayFits) (λ r. w ∷ r) (λ r j. (k, j)) (runs agent m n w.left (after agent values w.label)) (runs_fit m n w.left (after agent values w.label) (way_parts w k).1))
        (filter is_followed (plain_ways agent values m q)) (each-filter WayFits is_followed (plain_ways agent values m q) (plain_fit values m q h))

    -- a run that fits, if there is one
    abbrev RunFits : Option Run → Type 0
    RunFits None = ⊤
    RunFits (Some run) = OfEach WayFits run

    first_fits : (found : List Run) (later : Option Run) → OfEach (OfEach WayFits) found → RunFits later → RunFits (first_of found later)
    first_fits [] later h k = k
    first_fits (run ∷ found) later h k = h.0

    best_fits : (m : Mode) (n more : ℕ) (q : Prog) (values : Values) → Closed agent true q → RunFits (best_from agent m n more q values)
    best_fits m n zero q values h = tt
    best_fits m n (suc more) q values h = first_fits (runs agent m n q values) (best_from agent m (n + 1) more q values) (runs_fit m n q values h) (best_fits m (n + 1) more q values h)

    begun_fits : (run : Option (List Label)) → Type 0
    begun_fits None = ⊤
    begun_fits (Some labels) = list_all (fits_label agent) labels ≡ true

    first_step_fits : (depth fuel : ℕ) (begun : Option (List Label)) (run : Run) → block_fits outside depth fuel ≡ true → begun_fits begun → OfEach WayFits run → AllFit agent false (first_step depth fuel begun run)
    unfolding begun_fits
    first_step_fits depth fuel begun [] h b k = tt
    first_step_fits depth fuel None (w ∷ rest) h b k = (record { left_fits = follow_closed depth fuel w.left rest h (way_parts w k.0).1 k.1; label_fits = (way_parts w k.0).0; run_fits = refl }, tt)
    first_step_fits depth fuel (Some labels) (w ∷ rest) h b k = (record { left_fits = follow_closed depth fuel w.left rest h (way_parts w k.0).1 k.1; label_fits = (way_parts w k.0).0; run_fits = b }, tt)

    beginning_fits : (depth fuel : ℕ) (run : Option Run) → block_fits outside depth fuel ≡ true → RunFits run → AllFit agent false (beginning depth fuel run)
    unfolding begun_fits
    beginning_fits depth fuel None h k = tt
    beginning_fits depth fuel (Some run) h k = first_step_fits depth fuel (Some (labels_of run)) run h (labels_fit run k) k

    certain_fits : (b : Bool) (depth fuel : ℕ) (rest : Run) (run : Option Run) → block_fits outside depth fuel ≡ true → OfEach WayFits rest → RunFits run
        → AllFit agent false (if b then first_step depth fuel None rest else beginning depth fuel run)
    unfolding begun_fits
    certain_fits true depth fuel rest run h k r = first_step_fits depth fuel None rest h tt k
    certain_fits false depth fuel rest run h k r = beginning_fits depth fuel run h r

    searching_fits : (depth fuel : ℕ) (ws : List Way) → block_fits outside depth fuel ≡ true → OfEach WayFits ws → AllFit agent false (searching depth fuel ws)
    searching_fits depth fuel ws h k =
        each-map WayFits (StepFits agent false) (λ (w : Way). plain_move w.label (prog.Follow depth fuel w.left []))
        (λ w j. record { left_fits = follow_closed depth fuel w.left [] h (way_parts w j).1 tt; label_fits = (way_parts w j).0; run_fits = refl }) ws k

    block_moves-fit : (values : Values) (m : Mode) (depth fuel : ℕ) (body : Prog) (rest : List Way) → block_fits outside depth fuel ≡ true → Closed agent true body
        → list_all (λ w. way_fits agent w inside) rest ≡ true → AllFit agent false (block_moves agent values m depth fuel body rest)
    unfolding best
    block_moves-fit values Must depth fuel body rest h k r =
        certain_fits (is_kept agent values body rest) depth fuel rest (best_from agent Must 1 depth body values) h (all_each (λ w. way_fits agent w inside) rest r) (best_fits Must 1 depth body values k)
    block_moves-fit values Near depth fuel body rest h k r =
        searching_fits depth fuel (filter (begins_run agent values depth) (plain_ways agent values Near body)) h
        (each-filter WayFits (begins_run agent values depth) (plain_ways agent values Near body) (plain_fit values Near body k))
    block_moves-fit values May depth fuel body rest h k r =
        searching_fits depth fuel (filter (may_succeed agent values depth) (plain_ways agent values Near body)) h
        (each-filter WayFits (may_succeed agent values depth) (plain_ways agent values Near body) (plain_fit values Near body k))

    pub moves-fit : (values : Values) (m : Mode) (q : Prog) → fits agent q ≡ true → AllFit agent false (moves agent values m q)
    unfolding moves
    moves-fit values m q h = moves_to-fit agent false p values (block_moves agent values) (block_moves-fit values) (front agent q).height m q h

    pub step_stays : (values : Values) (m : Mode) (q : Prog) → fits agent q ≡ true → (step : Move) → Contains (moves agent values m q) step → StepStays agent step
    step_stays values m q h step c =
        let k = each-contains (StepFits agent false) (moves agent values m q) step (moves-fit values m q h) c in
        record { left = k.left_fits; label = k.label_fits; run = k.run_fits }
