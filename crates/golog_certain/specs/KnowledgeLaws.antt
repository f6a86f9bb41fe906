-- Laws of knowledge: what is certain stays so where more is known, and no more becomes possible.
use Rattle.std.specs.Prelude.{IsTrue, Contains}
use Rattle.golog_tree.specs.declared.agent.Agent.{Agent}
use Rattle.golog_tree.specs.declared.prog.Prog.{Prog}
use Rattle.golog_tree.specs.declared.prog.Way.{Way}
use Rattle.golog_tree.specs.declared.prog.Label.{Label}
use Rattle.golog_semantics.specs.declared.Mode.{Mode}
use Rattle.golog_semantics.specs.declared.Mode.TheVariants.{Must, May, Near}
use Rattle.golog_semantics.specs.Truth.{Values}
use Rattle.golog_semantics.specs.Values.{after}
use Rattle.golog_semantics.specs.Search.{Run, final, plain_ways}
use Rattle.golog_semantics.specs.World.{Refines}
use Rattle.golog_semantics.specs.Certain.{KnownIsSo, RunStays}

-- a truth or a value that is known stays so where more is known
abbrev pub KnownStays : Type 0
KnownStays = (agent : Agent) (old new : Values) → Refines old new → KnownIsSo agent old new

module _ (agent : Agent) (p : Prog) where
  -- what holds in the mode at the first values holds at the second
  pub record StayIn (m : Mode) (one other : Values) : Type 0 where
    pub ways : (w : Way) → Contains (plain_ways agent one m p) w → Contains (plain_ways agent other m p) w
    pub ends : IsTrue (final agent one m p) → IsTrue (final agent other m p)

  -- with more knowledge there are more certain ways and ends, and fewer possible ones
  pub record KnowledgeSettles (old new : Values) : Type 0 where
    pub certain : StayIn Must old new
    pub possible : StayIn May new old
    pub near : StayIn Near new old

abbrev pub WaysSettle : Type 0
WaysSettle = (agent : Agent) (p : Prog) (old new : Values) → Refines old new
    → KnowledgeSettles agent p old new

-- more knowledge before a step is more knowledge after it
abbrev pub StepsKeepKnowledge : Type 0
StepsKeepKnowledge =
    (agent : Agent) (label : Label) (old new : Values)
    → Refines old new → Refines (after agent old label) (after agent new label)

-- a run that goes through still does where more is known
abbrev pub RunsStay : Type 0
RunsStay = (agent : Agent) (p : Prog) (run : Run) → RunStays agent p run
