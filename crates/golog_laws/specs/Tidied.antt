-- Tidy programs: no empty part stands where putting programs together leaves it out.
use Rattle.std.specs.Prelude.{IsTrue, Bool, true, false, not, ◌&&◌, Contains}
use Rattle.std.specs.List.{list_all}
use Rattle.golog_tree.specs.declared.agent.Agent.{Agent}
use Rattle.golog_tree.specs.declared.prog.Prog.{Prog}
use Rattle.golog_tree.specs.declared.prog.Prog.TheOpen.{Prog-F, Nil, Act, Test, Seq, Choice, Pick, Star, If, While, Conc, Prio, Cstar, Call, Search, Follow}
use Rattle.golog_tree.specs.declared.prog.Prog.TheFolds.{fold-Prog}
use Rattle.golog_semantics.specs.declared.Mode.{Mode}
use Rattle.golog_semantics.specs.declared.search.Move.{Move}
use Rattle.golog_semantics.specs.Truth.{Values}
use Rattle.golog_semantics.specs.Blocks.{moves}

-- whether a program is empty, and whether it is tidy
pub record Tidied : Type 0 where
  pub empty : Bool
  pub tidy : Bool

abbrev pub whole : Bool → Tidied
whole tidy = record { empty = false; tidy = tidy }

-- two tidy parts, neither of them empty
abbrev pub tidy_parts : Tidied → Tidied → Bool
tidy_parts p q = not p.empty && not q.empty && p.tidy && q.tidy

abbrev pub tidied_step : Prog-F Tidied Tidied → Tidied
tidied_step Nil = record { empty = true; tidy = true }
tidied_step (Act action args) = whole true
tidied_step (Test c) = whole true
tidied_step (Seq p q) = whole (not p.empty && p.tidy && q.tidy)
tidied_step (Choice p q) = whole (p.tidy && q.tidy)
tidied_step (Pick x sort p) = whole p.tidy
tidied_step (Star p) = whole p.tidy
tidied_step (If c p q) = whole (p.tidy && q.tidy)
tidied_step (While c p) = whole p.tidy
tidied_step (Conc p q) = whole (tidy_parts p q)
tidied_step (Prio p q) = whole (tidy_parts p q)
tidied_step (Cstar p) = whole p.tidy
tidied_step (Call item args) = whole true
tidied_step (Search depth fuel p) = whole p.tidy
tidied_step (Follow depth fuel p rest) = whole (p.tidy && list_all (λ r. r.tidy) rest)

abbrev pub tidied : Prog → Tidied
tidied = fold-Prog Tidied Tidied tidied_step (λ w. w.left)

-- no sequence in the program begins with an empty one, and no empty one runs beside, over or under another
abbrev pub is_tidy : Prog → Bool
is_tidy p = (tidied p).tidy

-- what a step leaves of a tidy program is tidy
abbrev pub LeftsAreTidy : Type 0
LeftsAreTidy =
    (agent : Agent) → IsTrue (list_all (λ item. is_tidy item.body) agent.procs)
    → (values : Values) (m : Mode) (p : Prog) → IsTrue (is_tidy p)
    → (step : Move) → Contains (moves agent values m p) step → IsTrue (is_tidy step.left)
