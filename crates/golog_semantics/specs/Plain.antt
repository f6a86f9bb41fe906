-- Programs without runs under way.
use Rattle.std.specs.Prelude.{◌≡◌, All}
use Rattle.golog_tree.specs.declared.agent.Agent.{Agent}
use Rattle.golog_tree.specs.declared.prog.Prog.{Prog}
use Rattle.golog_tree.specs.declared.prog.Prog.TheOpen.{Prog-F, Way-F, Nil, Act, Test, Seq, Choice, Pick, Star, If, While, Conc, Prio, Cstar, Call, Search, Follow}
use Rattle.golog_tree.specs.declared.prog.Prog.TheVariants as prog
use Rattle.golog_tree.specs.declared.prog.Prog.TheFolds.{fold-Prog}
use Rattle.golog_tree.specs.declared.prog.Way.{Way}

-- a layer of a program, a block under way being written as a block
abbrev pub plain_step : Prog-F Prog Way → Prog
plain_step Nil = prog.Nil
plain_step (Act action args) = prog.Act action args
plain_step (Test c) = prog.Test c
plain_step (Seq p q) = prog.Seq p q
plain_step (Choice p q) = prog.Choice p q
plain_step (Pick x sort p) = prog.Pick x sort p
plain_step (Star p) = prog.Star p
plain_step (If c p q) = prog.If c p q
plain_step (While c p) = prog.While c p
plain_step (Conc p q) = prog.Conc p q
plain_step (Prio p q) = prog.Prio p q
plain_step (Cstar p) = prog.Cstar p
plain_step (Call item args) = prog.Call item args
plain_step (Search depth fuel p) = prog.Search depth fuel p
plain_step (Follow depth fuel p rest) = prog.Search depth fuel p

-- the same of a way
abbrev pub plain_way : Way-F Prog Way → Way
plain_way w = record { label = w.label; left = w.left }

-- the program with each block under way written as a block
abbrev pub plain : Prog → Prog
plain = fold-Prog Prog Way plain_step plain_way

-- an agent as it is read: no block is under way
pub record IsPlain (agent : Agent) : Type 0 where
  pub procs : All (λ item. plain item.body ≡ item.body) agent.procs
  pub main : plain agent.main ≡ agent.main
