-- What an answer on steps or ends says of each world in which all is so that is known.
use Rattle.std.specs.Prelude.{Bool, true, false, ⊤}
use Rattle.golog_tree.specs.declared.agent.Agent.{Agent}
use Rattle.golog_tree.specs.declared.prog.Prog.{Prog}
use Rattle.golog_tree.specs.declared.prog.Way.{Way}
use Rattle.golog_semantics.specs.declared.Mode.{Mode}
use Rattle.golog_semantics.specs.declared.Mode.TheVariants.{Must, May}
use Rattle.golog_semantics.specs.Truth.{Values}
use Rattle.golog_semantics.specs.Plain.{plain}
use Rattle.golog_semantics.specs.Trans.{FinalW, HasStep, TransW}
use Rattle.golog_semantics.specs.Certain.{EndIsCertain, InEachWorld, StepIsCertain}

module _ (agent : Agent) (values : Values) (p : Prog) where
  -- the program may end in no world
  abbrev pub NoWorldEnds : Type 0
  NoWorldEnds = InEachWorld agent values (λ world. ¬ FinalW agent world (plain p))

  -- the program has a step in each world
  abbrev pub EachWorldSteps : Type 0
  EachWorldSteps = InEachWorld agent values (λ world. HasStep (TransW agent world (plain p)))

  -- the program has a step in no world
  abbrev pub NoWorldSteps : Type 0
  NoWorldSteps = InEachWorld agent values (λ world. ¬ HasStep (TransW agent world (plain p)))

  -- Whether the program may end: where that is certain, it may in each world; where it isn't possible, in none.
  abbrev pub EndIsSo : Mode → Bool → Type 0
  EndIsSo Must true = EndIsCertain agent values p
  EndIsSo May false = NoWorldEnds
  EndIsSo mode answer = ⊤

  -- Whether the program has a step: where that is certain, it has one in each world; where it isn't possible, in
  -- none.
  abbrev pub StepIsSo : Mode → Bool → Type 0
  StepIsSo Must true = EachWorldSteps
  StepIsSo May false = NoWorldSteps
  StepIsSo mode answer = ⊤

  -- the step is one in each world
  abbrev pub WayIsCertain : Way → Type 0
  WayIsCertain way = StepIsCertain agent values p way.label way.left
