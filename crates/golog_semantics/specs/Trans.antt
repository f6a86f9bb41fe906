-- The steps of a program in a world, where every condition is true or false.
--
-- These are Trans and Final of "ConGolog" (2000), case by case, and the search block of De Giacomo and
-- Levesque (1999) without a depth. Two things are this project's own: the program left is written without an
-- empty part, and a search block searches programs without blocks alone. The steps are found by a recursion of
-- bounded depth; that those of a guarded agent satisfy each axiom is the law `trans_unfolds` of golog_certain.
use Rattle.std.specs.Prelude.{◌≡◌, ℕ, zero, suc, ◌<◌, IsTrue, ◌⊎◌, [], map}
use Rattle.golog_tree.specs.declared.agent.Agent.{Agent}
use Rattle.golog_tree.specs.declared.prog.Prog.{Prog}
use Rattle.golog_tree.specs.declared.prog.Prog.TheOpen.{Nil, Act, Test, Seq, Choice, Pick, Star, If, While, Conc, Prio, Cstar, Call, Search, Follow}
use Rattle.golog_tree.specs.declared.prog.Prog.TheVariants as prog
use Rattle.golog_tree.specs.declared.prog.Prog.TheViews.{out-Prog}
use Rattle.golog_tree.specs.declared.prog.Label.{Label}
use Rattle.golog_tree.specs.declared.prog.Label.TheVariants.{Quiet, Do}
use Rattle.golog_semantics.specs.declared.Mode.TheVariants.{Must}
use Rattle.golog_tree.specs.Ground.{sort_size, action_no}
use Rattle.golog_semantics.specs.Truth.{Values, env_of, arg_value}
use Rattle.golog_semantics.specs.Values.{after, is_possible}
use Rattle.golog_semantics.specs.Program.{put_arg, body_of}
use Rattle.golog_tree.specs.Tidy.{Layer, tidy_seq, tidy_conc, tidy_prio}
use Rattle.golog_semantics.specs.Ways.{is_so, is_not}
use Rattle.golog_semantics.specs.Guarded.{front}
use Rattle.golog_semantics.specs.Search.{final}

-- the steps of one program, as a relation: a label and the program left
abbrev pub Steps : Type 1
Steps = Label → Prog → Type 0

-- a step whose left is put into a context
abbrev pub Within : (Prog → Prog) → Steps → Steps
Within context steps label left = (p : Prog) × steps label p × (left ≡ context p)

-- the program has a step
abbrev pub HasStep : Steps → Type 0
HasStep steps = (label : Label) × (left : Prog) × steps label left

-- the steps of a block, by its depth, its fuel and its body
abbrev pub BlockSteps : Type 1
BlockSteps = ℕ → ℕ → Prog → Steps

module _ (agent : Agent) (world : Values) where
  -- the program may end in this world
  abbrev pub FinalW : Prog → Type 0
  FinalW p = IsTrue (final agent world Must p)

  module _ (blocks : BlockSteps) where
    -- the steps of a program, given those of smaller programs
    abbrev pub trans_step : (Prog → Steps) → Layer → Steps
    -- Trans(nil, s, δ', s') ≡ False
    trans_step trans Nil label left = ⊥
    -- Trans(α, s, δ', s') ≡ Poss(α, s) ∧ δ' = nil ∧ s' = do(α, s)
    trans_step trans (Act action args) label left =
        let at = map (arg_value (env_of [])) args in
        IsTrue (is_possible agent world Must action at)
        × (label ≡ Do (action_no agent action at)) × (left ≡ prog.Nil)
    -- Trans(φ?, s, δ', s') ≡ φ[s] ∧ δ' = nil ∧ s' = s
    trans_step trans (Test c) label left =
        IsTrue (is_so agent world Must c) × (label ≡ Quiet) × (left ≡ prog.Nil)
    -- Trans(δ1; δ2, s, δ', s') ≡ ∃γ. δ' = (γ; δ2) ∧ Trans(δ1, s, γ, s') ∨ Final(δ1, s) ∧ Trans(δ2, s, δ', s')
    trans_step trans (Seq p q) label left =
        Within (λ k. tidy_seq k q) (trans p) label left ⊎ (FinalW p × trans q label left)
    -- Trans(δ1 | δ2, s, δ', s') ≡ Trans(δ1, s, δ', s') ∨ Trans(δ2, s, δ', s')
    trans_step trans (Choice p q) label left = trans p label left ⊎ trans q label left
    -- Trans(πv.δ, s, δ', s') ≡ ∃x. Trans(δ[v/x], s, δ', s')
    trans_step trans (Pick x sort p) label left =
        (c : ℕ) × (c < sort_size agent sort) × trans (put_arg p x c) label left
    -- Trans(δ*, s, δ', s') ≡ ∃γ. δ' = (γ; δ*) ∧ Trans(δ, s, γ, s')
    trans_step trans (Star p) label left = Within (λ k. tidy_seq k (prog.Star p)) (trans p) label left
    -- Trans(if φ then δ1 else δ2, s, δ', s') ≡ φ[s] ∧ Trans(δ1, s, δ', s') ∨ ¬φ[s] ∧ Trans(δ2, s, δ', s')
    trans_step trans (If c p q) label left =
        (IsTrue (is_so agent world Must c) × trans p label left)
        ⊎ (IsTrue (is_not agent world Must c) × trans q label left)
    -- Trans(while φ do δ, s, δ', s') ≡ ∃γ. δ' = (γ; while φ do δ) ∧ φ[s] ∧ Trans(δ, s, γ, s')
    trans_step trans (While c p) label left =
        IsTrue (is_so agent world Must c) × Within (λ k. tidy_seq k (prog.While c p)) (trans p) label left
    -- Trans(δ1 ∥ δ2, s, δ', s') ≡
    --     ∃γ. δ' = (γ ∥ δ2) ∧ Trans(δ1, s, γ, s') ∨ ∃γ. δ' = (δ1 ∥ γ) ∧ Trans(δ2, s, γ, s')
    trans_step trans (Conc p q) label left =
        Within (λ k. tidy_conc k q) (trans p) label left ⊎ Within (λ k. tidy_conc p k) (trans q) label left
    -- Trans(δ1 ⟩⟩ δ2, s, δ', s') ≡ ∃γ. δ' = (γ ⟩⟩ δ2) ∧ Trans(δ1, s, γ, s')
    --     ∨ ∃γ. δ' = (δ1 ⟩⟩ γ) ∧ Trans(δ2, s, γ, s') ∧ ¬∃ζ, s''. Trans(δ1, s, ζ, s'')
    trans_step trans (Prio p q) label left =
        Within (λ k. tidy_prio k q) (trans p) label left
        ⊎ ((¬ HasStep (trans p)) × Within (λ k. tidy_prio p k) (trans q) label left)
    -- Trans(δ^∥, s, δ', s') ≡ ∃γ. δ' = (γ ∥ δ^∥) ∧ Trans(δ, s, γ, s')
    trans_step trans (Cstar p) label left = Within (λ k. tidy_conc k (prog.Cstar p)) (trans p) label left
    -- Trans(P(t), s, δ', s') ≡ Trans(δ[v/t], s, δ', s'), where δ is the body of P and v are its parameters
    trans_step trans (Call item args) label left = trans (body_of agent item args) label left
    -- Trans(Σδ, s, δ', s') ≡
    --     ∃γ. δ' = Σγ ∧ Trans(δ, s, γ, s') ∧ ∃γ', s''. Trans*(γ, s', γ', s'') ∧ Final(γ', s'')
    trans_step trans (Search depth fuel p) label left = blocks depth fuel p label left
    trans_step trans (Follow depth fuel p rest) label left = blocks depth fuel p label left

    -- the steps, looking at most so deep into parts and calls
    abbrev pub trans_to : ℕ → Prog → Steps
    trans_to zero p label left = ⊥
    trans_to (suc n) p label left = trans_step (trans_to n) (out-Prog p) label left

    -- the steps, looking as deep as the program leads without one, which is as deep as the axioms need
    abbrev pub trans_with : Prog → Steps
    trans_with p = trans_to (front agent p).height p

-- no block stands in the body of a block
abbrev pub no_steps : BlockSteps
no_steps depth fuel body label left = ⊥

-- the steps of a program that holds and reaches no block
abbrev pub PlainTrans : Agent → Values → Prog → Steps
PlainTrans agent world = trans_with agent world no_steps

-- exactly so many steps lead to a program that may end
abbrev pub LeadsIn : Agent → ℕ → Prog → Values → Type 0
LeadsIn agent zero p world = FinalW agent world p
LeadsIn agent (suc n) p world =
    (label : Label) × (left : Prog)
    × PlainTrans agent world p label left × LeadsIn agent n left (after agent world label)

-- some steps, perhaps none, lead to a program that may end
abbrev pub Leads : Agent → Prog → Values → Type 0
Leads agent p world = (n : ℕ) × LeadsIn agent n p world

-- a step of the body after which some list of steps, of any length, leads to where it may end
abbrev pub block_trans : Agent → Values → BlockSteps
block_trans agent world depth fuel body =
    Within (prog.Search depth fuel)
    (λ label p. PlainTrans agent world body label p × Leads agent p (after agent world label))

-- the steps of a program in this world
unfoldable pub TransW : Agent → Values → Prog → Steps
TransW agent world = trans_with agent world (block_trans agent world)
