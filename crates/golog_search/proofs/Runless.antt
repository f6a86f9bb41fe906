-- A step of a program without search blocks begins no run.
use Rattle.std.proofs.Common.{◌≡◌, ℕ, zero, suc, Bool, true, false, List, [], ◌∷◌, map, None, refl, arith}
use Rattle.golog_tree.specs.declared.agent.Agent.{Agent}
use Rattle.golog_tree.specs.declared.prog.Label.TheVariants.{Quiet, Do}
use Rattle.golog_tree.specs.declared.prog.Prog.{Prog}
use Rattle.golog_tree.specs.declared.prog.Prog.TheOpen.{Nil, Act, Test, Seq, Choice, Pick, Star, If, While, Conc, Prio, Cstar, Call, Search, Follow}
use Rattle.golog_tree.specs.declared.prog.Prog.TheVariants as prog
use Rattle.golog_tree.specs.declared.prog.Prog.TheViews.{out-Prog}
use Rattle.golog_tree.specs.Ground.{action_no, sort_size}
use Rattle.golog_tree.specs.Tidy.{Layer, tidy_conc, tidy_prio, tidy_seq}
use Rattle.golog_semantics.specs.declared.Mode.{Mode}
use Rattle.golog_semantics.specs.declared.search.Move.{Move}
use Rattle.golog_semantics.specs.Modes.{flip}
use Rattle.golog_semantics.specs.Truth.{Values, arg_value, env_of}
use Rattle.golog_semantics.specs.Values.{is_possible}
use Rattle.golog_semantics.specs.Program.{put_arg, body_of}
use Rattle.golog_semantics.specs.Ways.{final_to, is_empty, is_not, is_so, left_in, moves_step, moves_to, only_if, plain_move}
use Rattle.golog_semantics.specs.Blocks.{block_moves, moves}
use Rattle.golog_semantics.specs.Guarded.{front}
use Rattle.golog_semantics.proofs.ByParts.{OfEach}
use Rattle.golog_semantics.proofs.StepsFit.{each-append, each-flat}
use Rattle.golog_semantics.proofs.StepsKeep.{InParts}
use Rattle.golog_semantics.proofs.NoBlocks.{blockless}
use Rattle.golog_ways.proofs.Blockless.{P, blockless_parts}

abbrev pub BeginsNone : Move → Type 0
BeginsNone move = move.run ≡ None

abbrev pub Runless : List Move → Type 0
Runless = OfEach BeginsNone

in_runless : (context : Prog → Prog) (moves : List Move) → Runless moves → Runless (left_in context moves)
in_runless context [] h = tt
in_runless context (move ∷ moves) h = (h.0, in_runless context moves h.1)

if_runless : (b : Bool) (moves : List Move) → Runless moves → Runless (only_if b moves)
if_runless true moves h = h
if_runless false moves h = tt

module _ (agent : Agent) (values : Values) where
  step_runless : (f : Mode → Prog → Bool) (u : Mode → Prog → List Move) (m : Mode) → ((k : Mode) (q : Prog) → P agent q → Runless (u k q)) → (l : Layer) → InParts agent (blockless agent) l
      → Runless (moves_step agent values (block_moves agent values) f u m l)
  step_runless f u m h Nil x = tt
  step_runless f u m h (Act action args) x =
      if_runless (is_possible agent values m action (map (arg_value (env_of [])) args)) (plain_move (Do (action_no agent action (map (arg_value (env_of [])) args))) prog.Nil ∷ []) (refl, tt)
  step_runless f u m h (Test c) x = if_runless (is_so agent values m c) (plain_move Quiet prog.Nil ∷ []) (refl, tt)
  step_runless f u m h (Seq q r) x =
      each-append BeginsNone (left_in (λ l. tidy_seq l r) (u m q)) (only_if (f m q) (u m r)) (in_runless (λ l. tidy_seq l r) (u m q) (h m q x.0)) (if_runless (f m q) (u m r) (h m r x.1))
  step_runless f u m h (Choice q r) x = each-append BeginsNone (u m q) (u m r) (h m q x.0) (h m r x.1)
  step_runless f u m h (Pick y sort q) x = each-flat BeginsNone (λ c. u m (put_arg q y c)) 0 (sort_size agent sort) (λ c l. h m (put_arg q y c) (x c (omega arith)))
  step_runless f u m h (Star q) x = in_runless (λ l. tidy_seq l (prog.Star q)) (u m q) (h m q x.0)
  step_runless f u m h (If c q r) x =
      each-append BeginsNone (only_if (is_so agent values m c) (u m q)) (only_if (is_not agent values m c) (u m r))
      (if_runless (is_so agent values m c) (u m q) (h m q x.0)) (if_runless (is_not agent values m c) (u m r) (h m r x.1))
  step_runless f u m h (While c q) x =
      if_runless (is_so agent values m c) (left_in (λ l. tidy_seq l (prog.While c q)) (u m q)) (in_runless (λ l. tidy_seq l (prog.While c q)) (u m q) (h m q x.0))
  step_runless f u m h (Conc q r) x =
      each-append BeginsNone (left_in (λ l. tidy_conc l r) (u m q)) (left_in (λ l. tidy_conc q l) (u m r))
      (in_runless (λ l. tidy_conc l r) (u m q) (h m q x.0)) (in_runless (λ l. tidy_conc q l) (u m r) (h m r x.1))
  step_runless f u m h (Prio q r) x =
      each-append BeginsNone (left_in (λ l. tidy_prio l r) (u m q)) (only_if (is_empty (u (flip m) q)) (left_in (λ l. tidy_prio q l) (u m r)))
      (in_runless (λ l. tidy_prio l r) (u m q) (h m q x.0))
      (if_runless (is_empty (u (flip m) q)) (left_in (λ l. tidy_prio q l) (u m r)) (in_runless (λ l. tidy_prio q l) (u m r) (h m r x.1)))
  step_runless f u m h (Cstar q) x = in_runless (λ l. tidy_conc l (prog.Cstar q)) (u m q) (h m q x.0)
  step_runless f u m h (Call item args) x = h m (body_of agent item args) x
  step_runless f u m h (Search depth fuel q) x = absurd x
  step_runless f u m h (Follow depth fuel q rest) x = absurd x

  moves_runless : (n : ℕ) (m : Mode) (p : Prog) → P agent p → Runless (moves_to agent values (block_moves agent values) n m p)
  moves_runless zero m p h = tt
  moves_runless (suc n) m p h =
      step_runless (final_to agent values n) (moves_to agent values (block_moves agent values) n) m (moves_runless n) (out-Prog p) (blockless_parts agent p h)

  pub steps_runless : (m : Mode) (p : Prog) → P agent p → Runless (moves agent values m p)
  unfolding moves
  steps_runless m p h = moves_runless (front agent p).height m p h
