-- Final and Ways: when a program may end, and the steps that it may take.
--
-- Beside each equation stands the axiom of Final or Trans of De Giacomo, Lespérance and Levesque, "ConGolog"
-- (2000), and of the search block that of De Giacomo and Levesque (1999). Three things are this project's
-- own: the modes, which say how sure a condition is to be where some values are unknown; that the steps stand
-- in a list, in a fixed order, and not in a set; and that the program left is written without an empty part.
use Rattle.std.specs.Prelude.{ℕ, zero, suc, Bool, true, false, ◌&&◌, ◌||◌, if◌then◌else◌, None, List, [], ◌∷◌, ◌++◌, map}
use Rattle.std.specs.List.{list_any, flat_map}
use Rattle.golog_tree.specs.declared.agent.Agent.{Agent}
use Rattle.golog_tree.specs.declared.cond.Cond.{Cond}
use Rattle.golog_tree.specs.declared.prog.Prog.{Prog}
use Rattle.golog_tree.specs.declared.prog.Prog.TheOpen.{Nil, Act, Test, Seq, Choice, Pick, Star, If, While, Conc, Prio, Cstar, Call, Search, Follow}
use Rattle.golog_tree.specs.declared.prog.Prog.TheVariants as prog
use Rattle.golog_tree.specs.declared.prog.Prog.TheViews.{out-Prog}
use Rattle.golog_tree.specs.declared.prog.Way.{Way}
use Rattle.golog_tree.specs.declared.prog.Label.{Label}
use Rattle.golog_tree.specs.declared.prog.Label.TheVariants.{Quiet, Do}
use Rattle.golog_semantics.specs.declared.search.Move.{Move}
use Rattle.golog_semantics.specs.declared.Mode.{Mode}
use Rattle.golog_semantics.specs.Modes.{holds, flip}
use Rattle.golog_semantics.specs.Truth.{Values, env_of, constants, truth_of, arg_value, not_of}
use Rattle.golog_tree.specs.Ground.{action_no}
use Rattle.golog_semantics.specs.Values.{is_possible}
use Rattle.golog_semantics.specs.Program.{put_arg, body_of}
use Rattle.golog_tree.specs.Tidy.{Layer, tidy_seq, tidy_conc, tidy_prio}

-- a step that begins no run of a block
abbrev pub plain_move : Label → Prog → Move
plain_move label left = record { label = label; left = left; run = None }

-- a step without the run that it begins
abbrev pub way_of : Move → Way
way_of move = record { label = move.label; left = move.left }

-- these steps, the program left of each being put into a context
abbrev pub left_in : (Prog → Prog) → List Move → List Move
left_in context moves = map (λ m. record { label = m.label; left = context m.left; run = m.run }) moves

-- these steps where the test holds, else none
abbrev pub only_if : Bool → List Move → List Move
only_if b moves = if b then moves else []

-- a list has no item
abbrev pub is_empty : {A : Type 0} → List A → Bool
is_empty [] = true
is_empty (x ∷ xs) = false

-- the steps of a search block in a mode, by its depth, fuel, body and the rest of the run that it follows
abbrev pub Blocks : Type 0
Blocks = Mode → ℕ → ℕ → Prog → List Way → List Move

module _ (agent : Agent) (values : Values) where
  -- a condition with no free variable holds in the mode
  abbrev pub is_so : Mode → Cond → Bool
  is_so mode c = holds mode (truth_of agent values c (env_of []))

  -- its negation holds in the mode
  abbrev pub is_not : Mode → Cond → Bool
  is_not mode c = holds mode (not_of (truth_of agent values c (env_of [])))

  -- Final in a mode, given that of smaller programs
  abbrev pub final_step : (Mode → Prog → Bool) → Mode → Layer → Bool
  -- Final(nil, s) ≡ True
  final_step final m Nil = true
  -- Final(α, s) ≡ False
  final_step final m (Act action args) = false
  -- Final(φ?, s) ≡ False
  final_step final m (Test c) = false
  -- Final(δ1; δ2, s) ≡ Final(δ1, s) ∧ Final(δ2, s)
  final_step final m (Seq p q) = final m p && final m q
  -- Final(δ1 | δ2, s) ≡ Final(δ1, s) ∨ Final(δ2, s)
  final_step final m (Choice p q) = final m p || final m q
  -- Final(πv.δ, s) ≡ ∃x. Final(δ[v/x], s)
  final_step final m (Pick x sort p) = list_any (λ c. final m (put_arg p x c)) (constants agent sort)
  -- Final(δ*, s) ≡ True
  final_step final m (Star p) = true
  -- Final(if φ then δ1 else δ2, s) ≡ φ[s] ∧ Final(δ1, s) ∨ ¬φ[s] ∧ Final(δ2, s)
  final_step final m (If c p q) = (is_so m c && final m p) || (is_not m c && final m q)
  -- Final(while φ do δ, s) ≡ ¬φ[s] ∨ Final(δ, s)
  final_step final m (While c p) = is_not m c || final m p
  -- Final(δ1 ∥ δ2, s) ≡ Final(δ1, s) ∧ Final(δ2, s)
  final_step final m (Conc p q) = final m p && final m q
  -- Final(δ1 ⟩⟩ δ2, s) ≡ Final(δ1, s) ∧ Final(δ2, s)
  final_step final m (Prio p q) = final m p && final m q
  -- Final(δ^∥, s) ≡ True
  final_step final m (Cstar p) = true
  -- Final(P(t), s) ≡ Final(δ[v/t], s), where δ is the body of P and v are its parameters
  final_step final m (Call item args) = final m (body_of agent item args)
  -- Final(Σδ, s) ≡ Final(δ, s)
  final_step final m (Search depth fuel p) = final m p
  final_step final m (Follow depth fuel p rest) = final m p

  -- Final, looking at most so deep into parts and calls
  abbrev pub final_to : ℕ → Mode → Prog → Bool
  final_to zero m p = false
  final_to (suc n) m p = final_step (final_to n) m (out-Prog p)

  module _ (blocks : Blocks) where
    -- the steps in a mode, in order, given Final and the steps of smaller programs
    abbrev pub moves_step : (Mode → Prog → Bool) → (Mode → Prog → List Move) → Mode → Layer → List Move
    -- Trans(nil, s, δ', s') ≡ False
    moves_step final moves m Nil = []
    -- Trans(α, s, δ', s') ≡ Poss(α, s) ∧ δ' = nil ∧ s' = do(α, s)
    moves_step final moves m (Act action args) =
        let at = map (arg_value (env_of [])) args in
        let done = plain_move (Do (action_no agent action at)) prog.Nil in
        only_if (is_possible agent values m action at) (done ∷ [])
    -- Trans(φ?, s, δ', s') ≡ φ[s] ∧ δ' = nil ∧ s' = s
    moves_step final moves m (Test c) = only_if (is_so m c) (plain_move Quiet prog.Nil ∷ [])
    -- Trans(δ1; δ2, s, δ', s') ≡ ∃γ. δ' = (γ; δ2) ∧ Trans(δ1, s, γ, s') ∨ Final(δ1, s) ∧ Trans(δ2, s, δ', s')
    moves_step final moves m (Seq p q) =
        left_in (λ l. tidy_seq l q) (moves m p) ++ only_if (final m p) (moves m q)
    -- Trans(δ1 | δ2, s, δ', s') ≡ Trans(δ1, s, δ', s') ∨ Trans(δ2, s, δ', s')
    moves_step final moves m (Choice p q) = moves m p ++ moves m q
    -- Trans(πv.δ, s, δ', s') ≡ ∃x. Trans(δ[v/x], s, δ', s')
    moves_step final moves m (Pick x sort p) = flat_map (λ c. moves m (put_arg p x c)) (constants agent sort)
    -- Trans(δ*, s, δ', s') ≡ ∃γ. δ' = (γ; δ*) ∧ Trans(δ, s, γ, s')
    moves_step final moves m (Star p) = left_in (λ l. tidy_seq l (prog.Star p)) (moves m p)
    -- Trans(if φ then δ1 else δ2, s, δ', s') ≡ φ[s] ∧ Trans(δ1, s, δ', s') ∨ ¬φ[s] ∧ Trans(δ2, s, δ', s')
    moves_step final moves m (If c p q) = only_if (is_so m c) (moves m p) ++ only_if (is_not m c) (moves m q)
    -- Trans(while φ do δ, s, δ', s') ≡ ∃γ. δ' = (γ; while φ do δ) ∧ φ[s] ∧ Trans(δ, s, γ, s')
    moves_step final moves m (While c p) =
        only_if (is_so m c) (left_in (λ l. tidy_seq l (prog.While c p)) (moves m p))
    -- Trans(δ1 ∥ δ2, s, δ', s') ≡
    --     ∃γ. δ' = (γ ∥ δ2) ∧ Trans(δ1, s, γ, s') ∨ ∃γ. δ' = (δ1 ∥ γ) ∧ Trans(δ2, s, γ, s')
    moves_step final moves m (Conc p q) =
        left_in (λ l. tidy_conc l q) (moves m p) ++ left_in (λ l. tidy_conc p l) (moves m q)
    -- Trans(δ1 ⟩⟩ δ2, s, δ', s') ≡ ∃γ. δ' = (γ ⟩⟩ δ2) ∧ Trans(δ1, s, γ, s')
    --     ∨ ∃γ. δ' = (δ1 ⟩⟩ γ) ∧ Trans(δ2, s, γ, s') ∧ ¬∃ζ, s''. Trans(δ1, s, ζ, s'')
    -- A certain step of the second part wants that the first may not step, and a possible one that no step of
    -- the first is certain.
    moves_step final moves m (Prio p q) =
        left_in (λ l. tidy_prio l q) (moves m p)
        ++ only_if (is_empty (moves (flip m) p)) (left_in (λ l. tidy_prio p l) (moves m q))
    -- Trans(δ^∥, s, δ', s') ≡ ∃γ. δ' = (γ ∥ δ^∥) ∧ Trans(δ, s, γ, s')
    moves_step final moves m (Cstar p) = left_in (λ l. tidy_conc l (prog.Cstar p)) (moves m p)
    -- Trans(P(t), s, δ', s') ≡ Trans(δ[v/t], s, δ', s'), where δ is the body of P and v are its parameters
    moves_step final moves m (Call item args) = moves m (body_of agent item args)
    -- Trans(Σδ, s, δ', s') ≡
    --     ∃γ. δ' = Σγ ∧ Trans(δ, s, γ, s') ∧ ∃γ', s''. Trans*(γ, s', γ', s'') ∧ Final(γ', s'')
    moves_step final moves m (Search depth fuel p) = blocks m depth fuel p []
    moves_step final moves m (Follow depth fuel p rest) = blocks m depth fuel p rest

    -- the steps, looking at most so deep into parts and calls
    abbrev pub moves_to : ℕ → Mode → Prog → List Move
    moves_to zero m p = []
    moves_to (suc n) m p = moves_step (final_to n) (moves_to n) m (out-Prog p)
