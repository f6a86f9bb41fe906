-- What certain means: in every world that completes what is known. (This project's own.)
use Rattle.std.specs.Prelude.{◌≡◌, IsTrue, Contains, Some, [], ◌∷◌, ◌++◌}
use Rattle.golog_tree.specs.declared.agent.Agent.{Agent}
use Rattle.golog_tree.specs.declared.cond.Cond.{Cond}
use Rattle.golog_tree.specs.declared.cond.Term.{Term}
use Rattle.golog_tree.specs.declared.cond.Truth.TheVariants.{Yes, No}
use Rattle.golog_tree.specs.declared.prog.Prog.{Prog}
use Rattle.golog_tree.specs.declared.prog.Way.{Way}
use Rattle.golog_tree.specs.declared.prog.Label.{Label}
use Rattle.golog_semantics.specs.declared.Mode.TheVariants.{Must, May}
use Rattle.golog_semantics.specs.declared.journal.Entry.{Entry}
use Rattle.golog_semantics.specs.declared.journal.Entry.TheVariants.{End}
use Rattle.golog_semantics.specs.declared.journal.Answer.TheVariants.{Done, Stuck}
use Rattle.golog_semantics.specs.Truth.{Env, Values, is_known, truth_of, value_of}
use Rattle.golog_semantics.specs.Search.{Run, final}
use Rattle.golog_semantics.specs.Blocks.{ways, goes_through}
use Rattle.golog_semantics.specs.Plain.{plain}
use Rattle.golog_semantics.specs.Trans.{FinalW, TransW, HasStep}
use Rattle.golog_semantics.specs.World.{Refines, Completes, IsWorld, Agrees, world_after}
use Rattle.golog_semantics.specs.Journal.{Journal}
use Rattle.golog_semantics.specs.Progress.{left_after}
use Rattle.golog_semantics.specs.Online.{label_of}

module _ (agent : Agent) (values world : Values) where
  -- what is known of conditions and terms is so in the world
  pub record KnownIsSo : Type 0 where
    pub yes : (c : Cond) (env : Env) → truth_of agent values c env ≡ Yes → truth_of agent world c env ≡ Yes
    pub no : (c : Cond) (env : Env) → truth_of agent values c env ≡ No → truth_of agent world c env ≡ No
    pub value : (t : Term) (env : Env) → IsTrue (is_known (value_of agent values t env))
        → value_of agent world t env ≡ value_of agent values t env

  -- a certain step is a step of the world, and a certain end an end
  pub record CertainIsTrans (p : Prog) : Type 0 where
    pub steps : (w : Way) → Contains (ways agent values Must p) w
        → TransW agent world (plain p) w.label (plain w.left)
    pub ends : IsTrue (final agent values Must p) → FinalW agent world (plain p)

  -- a way that may be taken and leaves this
  pub record MayLeave (p : Prog) (label : Label) (left : Prog) : Type 0 where
    pub way : Way
    pub among : Contains (ways agent values May p) way
    pub label_same : way.label ≡ label
    pub left_same : plain way.left ≡ left

  -- each step of the world may be taken, and each end may be one
  pub record TransIsPossible (p : Prog) : Type 0 where
    pub steps : (label : Label) (left : Prog)
        → TransW agent world (plain p) label left → MayLeave p label left
    pub ends : FinalW agent world (plain p) → IsTrue (final agent values May p)

-- the program may not go on in this world
pub record IsStuckIn (agent : Agent) (world : Values) (p : Prog) : Type 0 where
  pub no_step : ¬ HasStep (TransW agent world p)
  pub no_end : ¬ FinalW agent world p

-- a fact of each world in which all is so that is known
abbrev pub InEachWorld : Agent → Values → (Values → Type 0) → Type 0
InEachWorld agent values P = (world : Values) → Completes agent values world → P world

-- the program may end in each world
abbrev pub EndIsCertain : Agent → Values → Prog → Type 0
EndIsCertain agent values p = InEachWorld agent values (λ world. FinalW agent world (plain p))

-- the step is one in each world
abbrev pub StepIsCertain : Agent → Values → Prog → Label → Prog → Type 0
StepIsCertain agent values p label left =
    InEachWorld agent values (λ world. TransW agent world (plain p) label (plain left))

-- the program is stuck in each world
abbrev pub StuckIsCertain : Agent → Values → Prog → Type 0
StuckIsCertain agent values p = InEachWorld agent values (λ world. IsStuckIn agent world (plain p))

-- more knowledge keeps a run
abbrev pub RunStays : Agent → Prog → Run → Type 0
RunStays agent p run =
    (old new : Values) → Refines old new
    → IsTrue (goes_through agent p run old) → IsTrue (goes_through agent p run new)

-- what the entry at the end of these entries says of a world that agrees with those before it
pub record EntryIsSo (agent : Agent) (before : Journal) (e : Entry) (world : Values) : Type 0 where
  pub step : (label : Label) → label_of e ≡ Some label
      → TransW agent world (plain (left_after agent before)) label
      (plain (left_after agent (before ++ e ∷ [])))
  pub done : e ≡ End Done → FinalW agent world (plain (left_after agent before))
  pub stuck : e ≡ End Stuck → IsStuckIn agent world (plain (left_after agent before))

-- each entry of the journal is so in each world that agrees with the entries before it
abbrev pub JournalIsSo : Agent → Journal → Type 0
JournalIsSo agent journal =
    (before later : Journal) (e : Entry) (start : Values) → journal ≡ before ++ e ∷ later
    → IsWorld agent start → Agrees agent start before
    → EntryIsSo agent before e (world_after agent start before)
