-- Ways with their conditions in place of the values.
use Rattle.std.specs.Prelude.{◌≡◌, List, map, filter}
use Rattle.golog_tree.specs.declared.agent.Agent.{Agent}
use Rattle.golog_tree.specs.declared.cond.Cond.{Cond}
use Rattle.golog_tree.specs.declared.prog.Prog.{Prog}
use Rattle.golog_tree.specs.declared.prog.Way.{Way}
use Rattle.golog_semantics.specs.declared.Mode.{Mode}
use Rattle.golog_semantics.specs.Truth.{Values}
use Rattle.golog_semantics.specs.Ways.{is_so}
use Rattle.golog_semantics.specs.Search.{final, plain_ways}

-- a step and the condition under which it may be taken
pub record Guarded : Type 0 where
  pub cond : Cond
  pub way : Way

-- the steps whose condition holds, in order
abbrev pub open_ways : Agent → Values → Mode → List Guarded → List Way
open_ways agent values m fs = map (λ f. f.way) (filter (λ f. is_so agent values m f.cond) fs)

-- in every mode and at all values, the ways are those whose condition holds
pub record AreFronts (agent : Agent) (p : Prog) (fs : List Guarded) : Type 0 where
  pub ways : (m : Mode) (values : Values) → open_ways agent values m fs ≡ plain_ways agent values m p

-- in every mode and at all values, the program is final where the condition holds
pub record IsEnd (agent : Agent) (p : Prog) (c : Cond) : Type 0 where
  pub final : (m : Mode) (values : Values) → is_so agent values m c ≡ final agent values m p
