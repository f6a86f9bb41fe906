-- A run that a step of a program begins has a label, and 64 at most.
use Rattle.std.proofs.Common.{◌≡◌, ℕ, zero, suc, ◌≤◌, Bool, true, false, not, ◌&&◌, if◌then◌else◌, List, [], ◌∷◌, length, map, Option, Some, None, refl, sym, ap, ◌∙◌, arith}
use Rattle.std.specs.Prelude.{Contains, IfSome, MatchOption, filter, nat_le}
use Rattle.std.specs.List.{list_all}
use Rattle.std.specs.Option.{option_map_or}
use Rattle.std.proofs.lemmas.Bool.{leb-true}
use Rattle.std.proofs.lemmas.List.{length-map}
use Rattle.golog_tree.specs.declared.agent.Agent.{Agent}
use Rattle.golog_tree.specs.declared.prog.Label.{Label}
use Rattle.golog_tree.specs.declared.prog.Label.TheVariants.{Quiet, Do}
use Rattle.golog_tree.specs.declared.prog.Prog.{Prog}
use Rattle.golog_tree.specs.declared.prog.Prog.TheOpen.{Nil, Act, Test, Seq, Choice, Pick, Star, If, While, Conc, Prio, Cstar, Call, Search, Follow}
use Rattle.golog_tree.specs.declared.prog.Prog.TheVariants as prog
use Rattle.golog_tree.specs.declared.prog.Prog.TheViews.{out-Prog}
use Rattle.golog_tree.specs.declared.prog.Prog.TheFolds.{fold_out-Prog, map-Prog}
use Rattle.golog_tree.specs.declared.prog.Way.{Way}
use Rattle.golog_tree.specs.Ground.{action_no, sort_size}
use Rattle.golog_tree.specs.Tidy.{Layer, tidy_conc, tidy_prio, tidy_seq}
use Rattle.golog_semantics.specs.declared.Mode.{Mode}
use Rattle.golog_semantics.specs.declared.Mode.TheVariants.{Must, May, Near}
use Rattle.golog_semantics.specs.declared.search.Move.{Move}
use Rattle.golog_semantics.specs.Modes.{flip}
use Rattle.golog_semantics.specs.Truth.{Values, arg_value, env_of}
use Rattle.golog_semantics.specs.Values.{is_possible}
use Rattle.golog_semantics.specs.Program.{put_arg, body_of}
use Rattle.golog_semantics.specs.Search.{Run, best, plain_ways}
use Rattle.golog_semantics.specs.Ways.{final_to, is_empty, is_not, is_so, left_in, moves_step, moves_to, only_if, plain_move}
use Rattle.golog_semantics.specs.Blocks.{beginning, begins_run, block_moves, first_step, is_kept, may_succeed, moves, searching}
use Rattle.golog_semantics.specs.Guarded.{front}
use Rattle.golog_semantics.specs.Fits.{binder_fits, bound, cond_fits, nothing_bound}
use Rattle.golog_semantics.specs.FitLaws.{ProcsFit}
use Rattle.golog_semantics.specs.ProgFits.{Position, block_fits, depth_limit, fits, fuel_limit, is_between, prog_fits, prog_step, way_step}
use Rattle.golog_semantics.specs.RunLaws.{IsLeast, NoneUpTo}
use Rattle.golog_semantics.proofs.BestRuns.{best_is_least}
use Rattle.golog_semantics.proofs.BlocksFit.{each-contains}
use Rattle.golog_semantics.proofs.ByParts.{OfEach}
use Rattle.golog_semantics.proofs.ClosedFits.{Closed, body_closed, put_closed}
use Rattle.golog_semantics.proofs.ProgPut.{at_scope, way_fits}
use Rattle.golog_semantics.proofs.StepsFit.{each-append, each-flat}
use Rattle.golog_semantics.proofs.Tests.{and_cases}

-- the run that begins, if one does, has a label, and 64 at most
pub record MayBegin (run : Option (List Label)) : Type 0 where
  pub some : option_map_or (λ labels. not (is_empty labels)) run true ≡ true
  pub few : IfSome run (λ labels. length labels ≤ 64)

pub none-begins : MayBegin None
none-begins = record { some = refl; few = tt }

abbrev pub Begins : Move → Type 0
Begins move = MayBegin move.run

abbrev AllBegin : List Move → Type 0
AllBegin = OfEach Begins

in_begin : (context : Prog → Prog) (moves : List Move) → AllBegin moves → AllBegin (left_in context moves)
in_begin context [] h = tt
in_begin context (move ∷ moves) h = (h.0, in_begin context moves h.1)

if_begin : (b : Bool) (moves : List Move) → AllBegin moves → AllBegin (only_if b moves)
if_begin true moves h = h
if_begin false moves h = tt

-- ---- blocks

along_begin : (depth fuel : ℕ) (run : Run) → AllBegin (first_step depth fuel None run)
along_begin depth fuel [] = tt
along_begin depth fuel (w ∷ run) = (none-begins, tt)

new_begin : (depth fuel : ℕ) (o : Option Run) → IfSome o (λ run. length run ≤ 64) → AllBegin (beginning depth fuel o)
new_begin depth fuel None short = tt
new_begin depth fuel (Some []) short = tt
new_begin depth fuel (Some (w ∷ run)) short =
    (record { some = refl; few = let many = length-map (w ∷ run) (λ (v : Way). v.label) in omega (arith, short, many) }, tt)

certain_begin : (b : Bool) (depth fuel : ℕ) (rest : Run) (o : Option Run) → IfSome o (λ run. length run ≤ 64)
    → AllBegin (if b then first_step depth fuel None rest else beginning depth fuel o)
certain_begin true depth fuel rest o short = along_begin depth fuel rest
certain_begin false depth fuel rest o short = new_begin depth fuel o short

searching_begin : (depth fuel : ℕ) (ws : List Way) → AllBegin (searching depth fuel ws)
searching_begin depth fuel [] = tt
searching_begin depth fuel (w ∷ ws) = (none-begins, searching_begin depth fuel ws)

module _ (agent : Agent) (values : Values) where
  short_run : (depth : ℕ) (body : Prog) (o : Option Run) → depth ≤ 64 → MatchOption o (NoneUpTo agent Must body values depth) (IsLeast agent Must body values depth)
      → IfSome o (λ run. length run ≤ 64)
  short_run depth body None low is = tt
  short_run depth body (Some run) low is = let within = is.within in omega (arith, low, within)

  -- the depth of a block that fits
  low_depth : (at : Position) (depth fuel : ℕ) → block_fits at depth fuel ≡ true → depth ≤ 64
  low_depth at depth fuel h =
      leb-true depth depth_limit
      (and_cases (nat_le 1 depth) (nat_le depth depth_limit)
      (and_cases (not at.in_block) (is_between 1 depth_limit depth)
      (and_cases (not at.in_block && is_between 1 depth_limit depth) (is_between 1 fuel_limit fuel) h).0).1).1

  block_begin : (m : Mode) (depth fuel : ℕ) (body : Prog) (rest : List Way) → depth ≤ 64 → AllBegin (block_moves agent values m depth fuel body rest)
  block_begin Must depth fuel body rest low =
      certain_begin (is_kept agent values body rest) depth fuel rest (best agent Must depth body values)
      (short_run depth body (best agent Must depth body values) low (best_is_least agent Must depth body values))
  block_begin Near depth fuel body rest low = searching_begin depth fuel (filter (begins_run agent values depth) (plain_ways agent values Near body))
  block_begin May depth fuel body rest low = searching_begin depth fuel (filter (may_succeed agent values depth) (plain_ways agent values Near body))

  -- ---- one construct

  abbrev A : Type 0
  A = Position → Bool

  abbrev here : Position
  here = at_scope nothing_bound false

  abbrev inside : Position
  inside = at_scope nothing_bound true

  module _ (procs : ProcsFit agent) where
    step_begin : (f : Mode → Prog → Bool) (u : Mode → Prog → List Move) (m : Mode) → ((k : Mode) (q : Prog) → Closed agent false q → AllBegin (u k q))
        → (l : Layer) → prog_step agent (map-Prog Prog Way A A (prog_fits agent) (way_fits agent) l) here ≡ true
        → AllBegin (moves_step agent values (block_moves agent values) f u m l)
    step_begin f u m h Nil e = tt
    step_begin f u m h (Act action args) e =
        if_begin (is_possible agent values m action (map (arg_value (env_of [])) args)) (plain_move (Do (action_no agent action (map (arg_value (env_of [])) args))) prog.Nil ∷ []) (none-begins, tt)
    step_begin f u m h (Test c) e = if_begin (is_so agent values m c) (plain_move Quiet prog.Nil ∷ []) (none-begins, tt)
    step_begin f u m h (Seq q r) e =
        let k = and_cases (prog_fits agent q here) (prog_fits agent r here) e in
        each-append Begins (left_in (λ l. tidy_seq l r) (u m q)) (only_if (f m q) (u m r))
        (in_begin (λ l. tidy_seq l r) (u m q) (h m q k.0)) (if_begin (f m q) (u m r) (h m r k.1))
    step_begin f u m h (Choice q r) e =
        let k = and_cases (prog_fits agent q here) (prog_fits agent r here) e in
        each-append Begins (u m q) (u m r) (h m q k.0) (h m r k.1)
    step_begin f u m h (Pick x sort q) e =
        let k = and_cases (binder_fits agent x sort) (prog_fits agent q (at_scope (bound nothing_bound x sort) false)) e in
        each-flat Begins (λ c. u m (put_arg q x c)) 0 (sort_size agent sort) (λ c l. h m (put_arg q x c) (put_closed agent false q x sort c k.1 (omega arith)))
    step_begin f u m h (Star q) e = in_begin (λ l. tidy_seq l (prog.Star q)) (u m q) (h m q e)
    step_begin f u m h (If c q r) e =
        let k = and_cases (cond_fits agent c nothing_bound && prog_fits agent q here) (prog_fits agent r here) e in
        let j = and_cases (cond_fits agent c nothing_bound) (prog_fits agent q here) k.0 in
        each-append Begins (only_if (is_so agent values m c) (u m q)) (only_if (is_not agent values m c) (u m r))
        (if_begin (is_so agent values m c) (u m q) (h m q j.1)) (if_begin (is_not agent values m c) (u m r) (h m r k.1))
    step_begin f u m h (While c q) e =
        let k = and_cases (cond_fits agent c nothing_bound) (prog_fits agent q here) e in
        if_begin (is_so agent values m c) (left_in (λ l. tidy_seq l (prog.While c q)) (u m q)) (in_begin (λ l. tidy_seq l (prog.While c q)) (u m q) (h m q k.1))
    step_begin f u m h (Conc q r) e =
        let k = and_cases (prog_fits agent q here) (prog_fits agent r here) e in
        each-append Begins (left_in (λ l. tidy_conc l r) (u m q)) (left_in (λ l. tidy_conc q l) (u m r))
        (in_begin (λ l. tidy_conc l r) (u m q) (h m q k.0)) (in_begin (λ l. tidy_conc q l) (u m r) (h m r k.1))
    step_begin f u m h (Prio q r) e =
        let k = and_cases (prog_fits agent q here) (prog_fits agent r here) e in
        each-append Begins (left_in (λ l. tidy_prio l r) (u m q)) (only_if (is_empty (u (flip m) q)) (left_in (λ l. tidy_prio q l) (u m r)))
        (in_begin (λ l. tidy_prio l r) (u m q) (h m q k.0))
        (if_begin (is_empty (u (flip m) q)) (left_in (λ l. tidy_prio q l) (u m r)) (in_begin (λ l. tidy_prio q l) (u m r) (h m r k.1)))
    step_begin f u m h (Cstar q) e = in_begin (λ l. tidy_conc l (prog.Cstar q)) (u m q) (h m q e)
    step_begin f u m h (Call item args) e = h m (body_of agent item args) (body_closed agent procs false item args e)
    step_begin f u m h (Search depth fuel q) e =
        let k = and_cases (block_fits here depth fuel) (prog_fits agent q inside) e in
        block_begin m depth fuel q [] (low_depth here depth fuel k.0)
    step_begin f u m h (Follow depth fuel q rest) e =
        let k = and_cases (block_fits here depth fuel && prog_fits agent q inside) (list_all (λ (w : A). w inside) (map (way_fits agent) rest)) e in
        block_begin m depth fuel q rest (low_depth here depth fuel (and_cases (block_fits here depth fuel) (prog_fits agent q inside) k.0).0)

    moves_begin : (n : ℕ) (m : Mode) (p : Prog) → Closed agent false p → AllBegin (moves_to agent values (block_moves agent values) n m p)
    moves_begin zero m p e = tt
    moves_begin (suc n) m p e =
        step_begin (final_to agent values n) (moves_to agent values (block_moves agent values) n) m (moves_begin n) (out-Prog p)
        (sym (ap (λ (f : A). f here) (fold_out-Prog A A (prog_step agent) (way_step agent) p)) ∙ e)

    all_begin : (m : Mode) (p : Prog) → fits agent p ≡ true → AllBegin (moves agent values m p)
    unfolding moves
    all_begin m p e = moves_begin (front agent p).height m p e

    pub steps_begin : (m : Mode) (p : Prog) → fits agent p ≡ true → (step : Move) → Contains (moves agent values m p) step → Begins step
    steps_begin m p e step inside = each-contains Begins (moves agent values m p) step (all_begin m p e) inside
