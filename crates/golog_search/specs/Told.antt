-- What is told of the runs of search blocks that are under way.
use Rattle.std.specs.Prelude.{◌≡◌, ℕ, List, [], ◌∷◌, ◌++◌, All}
use Rattle.golog_tree.specs.declared.agent.Agent.{Agent}
use Rattle.golog_tree.specs.declared.prog.Prog.{Prog}
use Rattle.golog_tree.specs.declared.prog.Prog.TheOpen.{Prog-F, Seq, Conc, Prio, Follow}
use Rattle.golog_tree.specs.declared.prog.Prog.TheFolds.{fold-Prog}
use Rattle.golog_tree.specs.declared.prog.Prog.TheViews.{out-Prog}
use Rattle.golog_tree.specs.Tidy.{Layer}
use Rattle.golog_semantics.specs.Blocks.{goes_through}
use Rattle.golog_semantics.specs.Search.{Run}
use Rattle.golog_semantics.specs.Truth.{Values}
use Rattle.golog_search.specs.declared.told.Told.{Told}
use Rattle.golog_search.specs.BlockSteps.{IsSearchedIn}

-- of a run it is told whether it goes through
abbrev pub IsTold : Agent → Values → Told → Type 0
IsTold agent values t = t.through ≡ goes_through agent t.body t.rest values

-- and so of each of these
abbrev pub AreTold : Agent → Values → List Told → Type 0
AreTold agent values told = All (IsTold agent values) told

-- the values can be searched, and what is told of runs is so there
pub record IsReady (agent : Agent) (values state : Values) (runs : List Told) : Type 0 where
  pub searched : IsSearchedIn agent values state
  pub told : AreTold agent state runs

module _ (agent : Agent) (values : Values) where
  -- what is told of a run that is under way
  abbrev pub told_at : Prog → Run → List Told
  told_at body [] = []
  told_at body (w ∷ rest) =
      record { body = body; rest = w ∷ rest; through = goes_through agent body (w ∷ rest) values } ∷ []

  -- what is told of the runs in a program, given how that is told of each of its parts
  abbrev pub told_step : Prog-F (Prog → List Told) ℕ → Layer → List Told
  told_step (Seq one other) (Seq p q) = one p
  told_step (Conc one other) (Conc p q) = one p ++ other q
  told_step (Prio one other) (Prio p q) = one p ++ other q
  told_step (Follow depth fuel body ways) (Follow d f p rest) = told_at p rest
  told_step _ _ = []

  abbrev pub told_by : Prog → Prog → List Told
  told_by = fold-Prog (Prog → List Told) ℕ (λ l p. told_step l (out-Prog p)) (λ w. 0)

  -- what is told of the runs that are under way in a program, beside or before its other parts
  abbrev pub told_in : Prog → List Told
  told_in p = told_by p p
