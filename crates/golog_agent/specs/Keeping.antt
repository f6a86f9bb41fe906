-- What a runner keeps of the entries so far.
use Rattle.std.specs.Prelude.{◌≡◌, ◌≢◌, ℕ, ◌<◌, ◌==◌, Option, Some, None, option_map, option_and_then, if◌then◌else◌, [], ◌∷◌, length}
use Rattle.golog_tree.specs.declared.agent.Agent.{Agent}
use Rattle.golog_semantics.specs.declared.journal.Entry.{Entry}
use Rattle.golog_semantics.specs.declared.journal.Entry.TheVariants.{Do, Sense}
use Rattle.golog_semantics.specs.declared.journal.Answer.{Answer}
use Rattle.golog_semantics.specs.Journal.{Journal, Command, held_commands}
use Rattle.golog_semantics.specs.Online.{IsOnlineSoFar}
use Rattle.golog_semantics.specs.InlineText.{report_of}
use Rattle.golog_semantics.specs.WellFormed.{WellFormed}
use Rattle.golog_journal.specs.Boards.{IsBoardList}
use Rattle.golog_journal.specs.Quiet.{held_of}
use Rattle.golog_lead.specs.Keeping.{EndsBy}
use Rattle.golog_agent.specs.declared.held.Held.{Held}
use Rattle.golog_agent.specs.Configuration.{Configuration, configuration_after}

-- the program waits for the result of this command alone
pub record AwaitsOne (agent : Agent) (journal : Journal) (held : Held) : Type 0 where
  pub is_device : held.device < length agent.devices
  pub command : Command
  pub at_place : command.place ≡ held.place
  pub own : held_commands agent held.device journal ≡ command ∷ []
  pub others : (d : ℕ) → d ≢ held.device → held_commands agent d journal ≡ []

-- the command whose result the program waits for, if it waits for one: it goes on only after it, so there is
-- one at most
abbrev pub AwaitsFrom : Agent → Journal → Option Held → Type 0
AwaitsFrom agent journal None = (d : ℕ) → held_commands agent d journal ≡ []
AwaitsFrom agent journal (Some held) = AwaitsOne agent journal held

-- a command of this device at this place
abbrev pub held_at : ℕ → ℕ → Held
held_at place device = record { device = device; place = place }

-- what is waited for once the result of the command at this place has come
abbrev pub unless_told : ℕ → Option Held → Option Held
unless_told place held = option_and_then (λ (h : Held). if h.place == place then None else Some h) held

-- what is waited for after so many entries and one more
abbrev pub held_by : Agent → ℕ → Option Held → Entry → Option Held
held_by agent count held (Do action) = option_map (held_at count) (held_of agent action)
held_by agent count held (Sense poster place fluent value) = unless_told place held
held_by agent count held _ = held

module _ (agent : Agent) (journal : Journal) where
  -- a well-formed agent, and an online execution of it so far
  pub record IsUnderWay : Type 0 where
    pub formed : WellFormed agent
    pub lawful : IsBoardList agent journal
    pub online : IsOnlineSoFar agent (report_of agent journal)

  -- the configuration, the command whose result is waited for and the answer are those of the entries
  pub record KeepsUp (known : Configuration) (held : Option Held) (ended : Option Answer) : Type 0 where
    pub under_way : IsUnderWay
    pub known_so : known ≡ configuration_after agent journal
    pub awaits : AwaitsFrom agent journal held
    pub ends : EndsBy journal ended
