-- What comes of a turn of a lead that copies all that it lacks of a board, decides at that, and commits it.
use Rattle.std.specs.Prelude.{◌≡◌, ◌<◌, ◌≤◌, ◌⊎◌, Option, Some, None, Bool, true, false, IsTrue, [], ◌∷◌, ◌++◌, length, Contains}
use Rattle.golog_tree.specs.declared.agent.Agent.{Agent}
use Rattle.golog_semantics.specs.declared.journal.Entry.{Entry}
use Rattle.golog_semantics.specs.declared.journal.Entry.TheVariants.{End}
use Rattle.golog_semantics.specs.declared.journal.Answer.{Answer}
use Rattle.golog_semantics.specs.Journal.{Journal, has_end, longest}
use Rattle.golog_journal.specs.declared.lead.Led.{Led}
use Rattle.golog_journal.specs.declared.lead.Led.TheVariants as led
use Rattle.golog_journal.specs.Growing.{AreOthers, Sight, program}
use Rattle.golog_journal.specs.Leading.{IsBehind}
use Rattle.golog_lead.specs.Courses.{Course}
use Rattle.golog_lead.specs.declared.stepped.Stepped.{Stepped}
use Rattle.golog_lead.specs.declared.stepped.Stepped.TheVariants.{Step, Waiting, Ended}
use Rattle.golog_lead.specs.Run.{is_step_entry}

-- a board of its agent that holds the program; what it lacks of the board's list are entries of devices
pub record IsOver (course : Course) (sight : Sight) : Type 0 where
  pub of_agent : course.agent ≡ sight.agent
  pub held : sight.holds program ≡ true
  pub behind : IsBehind course.list sight.seen

-- it lacks none
pub record IsCurrent (course : Course) (sight : Sight) : Type 0 where
  pub of_agent : course.agent ≡ sight.agent
  pub held : sight.holds program ≡ true
  pub whole : course.list ≡ sight.seen

-- what this turn committed stands behind all that others had added
pub record Follows (old new : Sight) (committed : Journal) : Type 0 where
  pub same_agent : new.agent ≡ old.agent
  pub same_alone : new.alone ≡ old.alone
  pub same_holds : new.holds ≡ old.holds
  pub others : Journal
  pub are_others : AreOthers old others
  pub grows : new.seen ≡ (old.seen ++ others) ++ committed

-- entries came before anything could be committed
pub record IsOvertaken (old new : Sight) : Type 0 where
  pub follows : Follows old new []
  pub longer : length old.seen < length new.seen
  pub short : length new.seen ≤ longest

-- the entry was committed right behind what was seen
pub record IsCommitted (e : Entry) (old new : Sight) : Type 0 where
  pub follows : Follows old new (e ∷ [])
  pub next : new.seen ≡ old.seen ++ e ∷ []

abbrev pub CommitGives : Entry → Sight → Sight → Bool → Type 0
CommitGives e old new true = IsCommitted e old new
CommitGives e old new false = IsOvertaken old new

-- an action or a test was committed
pub record CommitsStep (old new : Sight) : Type 0 where
  pub entry : Entry
  pub is_step : IsTrue (is_step_entry entry)
  pub follows : Follows old new (entry ∷ [])

-- the program had ended, and nothing was committed
pub record EndStood (old new : Sight) : Type 0 where
  pub ended : has_end old.seen ≡ true
  pub follows : Follows old new []

-- nothing was committed, and the program has not ended; at all that was seen it waits for a device, as `waiting` tells
pub record StillWaits (waiting : Agent → Journal → Bool) (old new : Sight) : Type 0 where
  pub goes_on : has_end new.seen ≡ false
  pub is_waiting : IsTrue (waiting new.agent new.seen)
  pub follows : Follows old new []

-- the end was committed, with an answer that `may` allows after all entries before it
pub record CommitsEnd (may : Agent → Journal → Answer → Type 0) (answer : Answer) (old new : Sight) : Type 0 where
  pub goes_on : has_end old.seen ≡ false
  pub follows : Follows old new (End answer ∷ [])
  pub answered : may old.agent (old.seen ++ follows.others) answer

-- the end with this answer stands
pub record HasEnded (may : Agent → Journal → Answer → Type 0) (answer : Answer) (old new : Sight) : Type 0 where
  pub stands : Contains new.seen (End answer)
  pub how : EndStood old new ⊎ CommitsEnd may answer old new

module _ (waiting : Agent → Journal → Bool) (may : Agent → Journal → Answer → Type 0) where
  abbrev pub TurnIs : Sight → Sight → Stepped → Type 0
  TurnIs old new Step = CommitsStep old new
  TurnIs old new Waiting = StillWaits waiting old new
  TurnIs old new (Ended answer) = HasEnded may answer old new

  abbrev pub AttemptIs : Sight → Sight → Option Stepped → Type 0
  AttemptIs old new None = IsOvertaken old new
  AttemptIs old new (Some stepped) = TurnIs old new stepped

-- whether the program has ended, by what came of its turn
abbrev pub led_for : Stepped → Led
led_for Step = led.More
led_for Waiting = led.More
led_for (Ended answer) = led.Ended
