-- What goes from a program to its parts, and from lefts to lefts put together, goes along steps.
use Rattle.std.proofs.Common.{ℕ, zero, suc, ◌<◌, Bool, true, false, List, [], ◌∷◌, map, arith}
use Rattle.std.specs.Prelude.{⊤}
use Rattle.golog_tree.specs.declared.agent.Agent.{Agent}
use Rattle.golog_tree.specs.declared.prog.Label.TheVariants.{Quiet, Do}
use Rattle.golog_tree.specs.declared.prog.Prog.{Prog}
use Rattle.golog_tree.specs.declared.prog.Prog.TheOpen.{Nil, Act, Test, Seq, Choice, Pick, Star, If, While, Conc, Prio, Cstar, Call, Search, Follow}
use Rattle.golog_tree.specs.declared.prog.Prog.TheVariants as prog
use Rattle.golog_tree.specs.declared.prog.Prog.TheViews.{out-Prog}
use Rattle.golog_tree.specs.declared.prog.Way.{Way}
use Rattle.golog_tree.specs.Ground.{action_no, sort_size}
use Rattle.golog_tree.specs.Tidy.{Layer, tidy_conc, tidy_prio, tidy_seq}
use Rattle.golog_semantics.specs.declared.Mode.{Mode}
use Rattle.golog_semantics.specs.declared.search.Move.{Move}
use Rattle.golog_semantics.specs.Modes.{flip}
use Rattle.golog_semantics.specs.Truth.{Values, arg_value, env_of}
use Rattle.golog_semantics.specs.Values.{is_possible}
use Rattle.golog_semantics.specs.Program.{put_arg, body_of}
use Rattle.golog_semantics.specs.Ways.{Blocks, final_to, is_empty, is_not, is_so, left_in, moves_step, moves_to, only_if, plain_move}
use Rattle.golog_semantics.proofs.ByParts.{OfEach}
use Rattle.golog_semantics.proofs.FrontParts.{Claim}
use Rattle.golog_semantics.proofs.StepsFit.{each-append, each-flat}

module _ (agent : Agent) (claim : Claim) where
  abbrev P : Prog → Type 0
  P = claim.of_prog

  -- the claim holds of the parts of one level, of a loop itself, of the body that is called and of the block
  abbrev pub InParts : Layer → Type 0
  InParts Nil = ⊤
  InParts (Act action args) = ⊤
  InParts (Test c) = ⊤
  InParts (Seq p q) = P p × P q
  InParts (Choice p q) = P p × P q
  InParts (Pick x sort p) = (c : ℕ) → c < sort_size agent sort → P (put_arg p x c)
  InParts (Star p) = P p × P (prog.Star p)
  InParts (If c p q) = P p × P q
  InParts (While c p) = P p × P (prog.While c p)
  InParts (Conc p q) = P p × P q
  InParts (Prio p q) = P p × P q
  InParts (Cstar p) = P p × P (prog.Cstar p)
  InParts (Call item args) = P (body_of agent item args)
  InParts (Search depth fuel p) = claim.of_block depth fuel p []
  InParts (Follow depth fuel p rest) = claim.of_block depth fuel p rest

  pub record Keeps : Type 0 where
    pub of_nil : P prog.Nil
    pub of_seq : (p q : Prog) → P p → P q → P (tidy_seq p q)
    pub of_conc : (p q : Prog) → P p → P q → P (tidy_conc p q)
    pub of_prio : (p q : Prog) → P p → P q → P (tidy_prio p q)
    pub parts : (p : Prog) → P p → InParts (out-Prog p)

  -- the claim holds of what each step leaves
  abbrev pub OfLefts : List Move → Type 0
  OfLefts = OfEach (λ (move : Move). P move.left)

  module _ (keeps : Keeps) (values : Values) (blocks : Blocks)
      (of_blocks : (m : Mode) (depth fuel : ℕ) (p : Prog) (rest : List Way) → claim.of_block depth fuel p rest → OfLefts (blocks m depth fuel p rest)) where
    left_in-keeps : (context : Prog → Prog) → ((p : Prog) → P p → P (context p)) → (moves : List Move) → OfLefts moves → OfLefts (left_in context moves)
    left_in-keeps context h [] k = tt
    left_in-keeps context h (move ∷ moves) k = (h move.left k.0, left_in-keeps context h moves k.1)

    only_if-keeps : (b : Bool) (moves : List Move) → OfLefts moves → OfLefts (only_if b moves)
    only_if-keeps true moves h = h
    only_if-keeps false moves h = tt

    abbrev L : Move → Type 0
    L move = P move.left

    step_keeps : (f : Mode → Prog → Bool) (u : Mode → Prog → List Move) (m : Mode) → ((k : Mode) (q : Prog) → P q → OfLefts (u k q)) → (l : Layer) → InParts l → OfLefts (moves_step agent values blocks f u m l)
    step_keeps f u m h Nil x = tt
    step_keeps f u m h (Act action args) x =
        only_if-keeps (is_possible agent values m action (map (arg_value (env_of [])) args)) (plain_move (Do (action_no agent action (map (arg_value (env_of [])) args))) prog.Nil ∷ []) (keeps.of_nil, tt)
    step_keeps f u m h (Test c) x = only_if-keeps (is_so agent values m c) (plain_move Quiet prog.Nil ∷ []) (keeps.of_nil, tt)
    step_keeps f u m h (Seq q r) x =
        each-append L (left_in (λ l. tidy_seq l r) (u m q)) (only_if (f m q) (u m r))
        (left_in-keeps (λ l. tidy_seq l r) (λ l c. keeps.of_seq l r c x.1) (u m q) (h m q x.0)) (only_if-keeps (f m q) (u m r) (h m r x.1))
    step_keeps f u m h (Choice q r) x = each-append L (u m q) (u m r) (h m q x.0) (h m r x.1)
    step_keeps f u m h (Pick y sort q) x = each-flat L (λ c. u m (put_arg q y c)) 0 (sort_size agent sort) (λ c l. h m (put_arg q y c) (x c (omega arith)))
    step_keeps f u m h (Star q) x = left_in-keeps (λ l. tidy_seq l (prog.Star q)) (λ l c. keeps.of_seq l (prog.Star q) c x.1) (u m q) (h m q x.0)
    step_keeps f u m h (If c q r) x =
        each-append L (only_if (is_so agent values m c) (u m q)) (only_if (is_not agent values m c) (u m r))
        (only_if-keeps (is_so agent values m c) (u m q) (h m q x.0)) (only_if-keeps (is_not agent values m c) (u m r) (h m r x.1))
    step_keeps f u m h (While c q) x =
        only_if-keeps (is_so agent values m c) (left_in (λ l. tidy_seq l (prog.While c q)) (u m q))
        (left_in-keeps (λ l. tidy_seq l (prog.While c q)) (λ l d. keeps.of_seq l (prog.While c q) d x.1) (u m q) (h m q x.0))
    step_keeps f u m h (Conc q r) x =
        each-append L (left_in (λ l. tidy_conc l r) (u m q)) (left_in (λ l. tidy_conc q l) (u m r))
        (left_in-keeps (λ l. tidy_conc l r) (λ l c. keeps.of_conc l r c x.1) (u m q) (h m q x.0))
        (left_in-keeps (λ l. tidy_conc q l) (λ l c. keeps.of_conc q l x.0 c) (u m r) (h m r x.1))
    step_keeps f u m h (Prio q r) x =
        each-append L (left_in (λ l. tidy_prio l r) (u m q)) (only_if (is_empty (u (flip m) q)) (left_in (λ l. tidy_prio q l) (u m r)))
        (left_in-keeps (λ l. tidy_prio l r) (λ l c. keeps.of_prio l r c x.1) (u m q) (h m q x.0))
        (only_if-keeps (is_empty (u (flip m) q)) (left_in (λ l. tidy_prio q l) (u m r)) (left_in-keeps (λ l. tidy_prio q l) (λ l c. keeps.of_prio q l x.0 c) (u m r) (h m r x.1)))
    step_keeps f u m h (Cstar q) x = left_in-keeps (λ l. tidy_conc l (prog.Cstar q)) (λ l c. keeps.of_conc l (prog.Cstar q) c x.1) (u m q) (h m q x.0)
    step_keeps f u m h (Call item args) x = h m (body_of agent item args) x
    step_keeps f u m h (Search depth fuel q) x = of_blocks m depth fuel q [] x
    step_keeps f u m h (Follow depth fuel q rest) x = of_blocks m depth fuel q rest x

    pub moves_keep : (n : ℕ) (m : Mode) (q : Prog) → P q → OfLefts (moves_to agent values blocks n m q)
    moves_keep zero m q h = tt
    moves_keep (suc n) m q h = step_keeps (final_to agent values n) (moves_to agent values blocks n) m (moves_keep n) (out-Prog q) (keeps.parts q h)
