-- What a turn of a runner gives where no one else adds entries.
use Rattle.std.specs.Prelude.{◌≡◌, ◌⊎◌, true, IsTrue, [], ◌∷◌, ◌++◌}
use Rattle.golog_tree.specs.declared.agent.Agent.{Agent}
use Rattle.golog_semantics.specs.declared.journal.Entry.{Entry}
use Rattle.golog_semantics.specs.declared.journal.Entry.TheVariants.{End}
use Rattle.golog_semantics.specs.declared.journal.Answer.{Answer}
use Rattle.golog_semantics.specs.Inline.{lead}
use Rattle.golog_semantics.specs.Online.{IsOnlineSoFar}
use Rattle.golog_semantics.specs.InlineText.{report_of}
use Rattle.golog_journal.specs.Growing.{Sight}
use Rattle.golog_lead.specs.Short.{EndsShort, IsShort}
use Rattle.golog_lead.specs.declared.stepped.Stepped.{Stepped}
use Rattle.golog_lead.specs.Run.{is_step_entry}
use Rattle.golog_lead.specs.Seeing.{CommitsStep, EndStood}
use Rattle.golog_agent.specs.Turns.{CommitsEnd, StillWaits, TurnIs}

-- the turn is that of the program in a round, or memory or fuel was wanted
abbrev pub LeadsAlone : Type 0
LeadsAlone =
    (agent : Agent) (old new : Sight) (stepped : Stepped)
    → agent ≡ old.agent → old.alone ≡ true → TurnIs old new stepped → IsOnlineSoFar agent (report_of agent new.seen)
    → (new.seen ≡ lead agent old.seen) ⊎ EndsShort IsShort old.seen new.seen

-- a step was added and no more
pub record AddsStep (old new : Sight) : Type 0 where
  pub entry : Entry
  pub is_step : IsTrue (is_step_entry entry)
  pub one : new.seen ≡ old.seen ++ entry ∷ []

-- nothing is added where the program waits or had ended, and else one entry
pub record AddsOne (old new : Sight) : Type 0 where
  pub step : CommitsStep old new → AddsStep old new
  pub waiting : StillWaits old new → new.seen ≡ old.seen
  pub stood : EndStood old new → new.seen ≡ old.seen
  pub ended : (answer : Answer) → CommitsEnd answer old new → new.seen ≡ old.seen ++ End answer ∷ []

abbrev pub AddsOneAlone : Type 0
AddsOneAlone = (old new : Sight) → old.alone ≡ true → AddsOne old new
