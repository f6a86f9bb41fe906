-- What a demo comes to.
use Rattle.std.specs.Prelude.{◌≡◌, ℕ, Bool, true, false, List, ◌++◌, Ok, Contains, codes, count_by, decimal, length}
use Rattle.golog_tree.specs.declared.agent.Agent.{Agent}
use Rattle.golog_semantics.specs.declared.journal.Answer.{Answer}
use Rattle.golog_semantics.specs.declared.journal.Answer.TheVariants.{Memory, Fuel}
use Rattle.golog_semantics.specs.declared.journal.Entry.{Entry}
use Rattle.golog_semantics.specs.declared.journal.Entry.TheVariants.{Do, Exo, End}
use Rattle.golog_semantics.specs.declared.journal.Report.{Report}
use Rattle.golog_semantics.specs.InlineText.{inline_report}
use Rattle.golog_semantics.specs.Journal.{Journal}
use Rattle.golog_semantics.specs.Text.{Text, answer_text}
use Rattle.golog_device.specs.Slots.{Standing}
use Rattle.golog_script.specs.declared.scripts.Script.{Script}
use Rattle.golog_script.specs.DevicesFile.{scripts_of}
use Rattle.golog_file.specs.Spelled.{SpellsAgent}
use Rattle.golog_demo.specs.Demo.{demo_agent, demo_devices}
use Rattle.golog_commands.specs.declared.outcome.Outcome.{Outcome}
use Rattle.golog_commands.specs.declared.outcome.Outcome.TheVariants.{Demonstrated}
use Rattle.golog_commands.specs.Inputs.{line, scripts_for}
use Rattle.golog_commands.specs.Runs.{AllTellLeft, IsReportOf}

abbrev pub is_do : Entry → Bool
is_do (Do action) = true
is_do entry = false

abbrev pub is_exo : Entry → Bool
is_exo (Exo poster action) = true
is_exo entry = false

-- memory was wanted, or the fuel of a search block
abbrev pub is_short : Answer → Bool
is_short Memory = true
is_short Fuel = true
is_short answer = false

-- what stands in the line of a demo of this size before its answer: how many entries its journal has, and how many
-- actions and posts are among them
abbrev pub demo_counts : ℕ → Journal → Text
demo_counts size journal =
    codes "demo " ++ decimal size ++ codes " entries " ++ decimal (length journal)
    ++ codes " actions " ++ decimal (count_by is_do journal) ++ codes " posts " ++ decimal (count_by is_exo journal)

-- the line of a demo of this size
abbrev pub demo_text : ℕ → Journal → Answer → Text
demo_text size journal answer = line (demo_counts size journal ++ codes " answer " ++ answer_text answer)

-- the outcome says what stands in this report of a demo of this size, which no want of memory or of fuel cut short
pub record SaysDemo (size : ℕ) (report : Report) (outcome : Outcome) : Type 0 where
  pub answer : Answer
  pub ended : Contains report.entries (End answer)
  pub whole : is_short answer ≡ false
  pub is : outcome ≡ Demonstrated (demo_text size report.entries answer)

-- The files of the demo of this size spell an agent and scripts, and the outcome says what stands in the report of
-- their run in rounds, which no want of memory or of fuel cut short. Where the devices tell what is left of
-- their scripts, it is the report of the rounds.
pub record Demonstrates (size : ℕ) (olds news : List Standing) (outcome : Outcome) : Type 0 where
  pub agent : Agent
  pub spelled : SpellsAgent (demo_agent size) agent
  pub listed : List Script
  pub scripts : (scripts_of agent.devices (demo_devices size)).outcome ≡ Ok listed
  pub report : Report
  pub run : IsReportOf agent (scripts_for agent listed) true olds news report
  pub answer : Answer
  pub ended : Contains report.entries (End answer)
  pub whole : is_short answer ≡ false
  pub rounds : AllTellLeft agent olds → report ≡ inline_report agent (scripts_for agent listed)
  pub is : outcome ≡ Demonstrated (demo_text size report.entries answer)
