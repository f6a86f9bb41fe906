-- Which of many conditions hold, by their places.
use Rattle.std.specs.Prelude.{ℕ, suc, if◌then◌else◌, All, List, [], ◌∷◌}
use Rattle.golog_tree.specs.declared.agent.Agent.{Agent}
use Rattle.golog_tree.specs.declared.cond.Cond.{Cond}
use Rattle.golog_semantics.specs.declared.Mode.{Mode}
use Rattle.golog_semantics.specs.Truth.{Values}
use Rattle.golog_semantics.specs.Ways.{is_so}
use Rattle.golog_flat.specs.Checks.{IsCheckOf}
use Rattle.golog_ways.specs.declared.expand.NumberedFront.{NumberedFront}

-- the check of each step is that of its condition
abbrev pub AreChecked : Agent → List NumberedFront → Type 0
AreChecked agent fronts = All (λ f. IsCheckOf agent f.cond f.check) fronts

module _ (agent : Agent) (values : Values) (m : Mode) where
  -- the places of the conditions that hold, where the first one has this place
  abbrev pub open_from : ℕ → List Cond → List ℕ
  open_from place [] = []
  open_from place (c ∷ cs) =
      if is_so agent values m c then place ∷ open_from (suc place) cs else open_from (suc place) cs

  -- the places of the conditions that hold, from 0
  abbrev pub open_places : List Cond → List ℕ
  open_places conds = open_from 0 conds
