-- What holds of the parts, bodies and blocks that stand at the front of one level of a program.
use Rattle.std.proofs.Common.{ℕ, ◌<◌, List, []}
use Rattle.std.specs.Prelude.{⊤}
use Rattle.golog_tree.specs.declared.agent.Agent.{Agent}
use Rattle.golog_tree.specs.declared.prog.Prog.{Prog}
use Rattle.golog_tree.specs.declared.prog.Prog.TheOpen.{Nil, Act, Test, Seq, Choice, Pick, Star, If, While, Conc, Prio, Cstar, Call, Search, Follow}
use Rattle.golog_tree.specs.declared.prog.Prog.TheViews.{out-Prog}
use Rattle.golog_tree.specs.declared.prog.Way.{Way}
use Rattle.golog_tree.specs.Tidy.{Layer}
use Rattle.golog_tree.specs.Ground.{sort_size}
use Rattle.golog_semantics.specs.Program.{put_arg, body_of}

-- what is said of a program, and of a block by its depth, its fuel, its body and the rest of its run
pub record Claim : Type 1 where
  pub of_prog : Prog → Type 0
  pub of_block : ℕ → ℕ → Prog → List Way → Type 0

module _ (agent : Agent) (claim : Claim) where
  -- the claim holds of what stands at the front of this level
  abbrev pub AtFront : Layer → Type 0
  AtFront Nil = ⊤
  AtFront (Act action args) = ⊤
  AtFront (Test c) = ⊤
  AtFront (Seq p q) = claim.of_prog p × claim.of_prog q
  AtFront (Choice p q) = claim.of_prog p × claim.of_prog q
  AtFront (Pick x sort p) = (c : ℕ) → c < sort_size agent sort → claim.of_prog (put_arg p x c)
  AtFront (Star p) = claim.of_prog p
  AtFront (If c p q) = claim.of_prog p × claim.of_prog q
  AtFront (While c p) = claim.of_prog p
  AtFront (Conc p q) = claim.of_prog p × claim.of_prog q
  AtFront (Prio p q) = claim.of_prog p × claim.of_prog q
  AtFront (Cstar p) = claim.of_prog p
  AtFront (Call item args) = claim.of_prog (body_of agent item args)
  AtFront (Search depth fuel p) = claim.of_block depth fuel p []
  AtFront (Follow depth fuel p rest) = claim.of_block depth fuel p rest

  -- the claim goes on to what stands at the front
  pub record GoesOn : Type 0 where
    pub parts : (p : Prog) → claim.of_prog p → AtFront (out-Prog p)

-- a claim that says nothing of programs
abbrev pub anything : (ℕ → ℕ → Prog → List Way → Type 0) → Claim
anything of_block = record { of_prog = λ p. ⊤; of_block = of_block }
