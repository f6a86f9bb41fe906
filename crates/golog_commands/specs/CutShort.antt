-- What a run has written, whole or not.
use Rattle.std.specs.Prelude.{◌≡◌, ◌⊎◌, ◌++◌, ⊤, ℕ, Bool, false, Option, None, Some, List, []}
use Rattle.golog_base.specs.Known.{and_then_bytes}
use Rattle.golog_tree.specs.declared.agent.Agent.{Agent}
use Rattle.golog_semantics.specs.Text.{Text}
use Rattle.golog_semantics.specs.BlockFree.{has_block}
use Rattle.golog_semantics.specs.Certain.{JournalIsSo}
use Rattle.golog_semantics.specs.Execution.{BeginsOnline}
use Rattle.golog_semantics.specs.Journal.{Journal}
use Rattle.golog_semantics.specs.Restart.{started}
use Rattle.golog_semantics.specs.Truth.{Values}
use Rattle.golog_script.specs.declared.scripts.Script.{Script}
use Rattle.golog_file.specs.Spelled.{SpellsAgent}
use Rattle.golog_branch.specs.PlanJournals.{IsPlannedSoFar}
use Rattle.golog_branch.specs.PlansInWorlds.{PlansAreSo}
use Rattle.golog_plan.specs.PlanTexts.{plan_text}
use Rattle.golog_words.specs.Commands.{CommandLine, run, check, replay, ask, migrate, demo, team, plan}
use Rattle.golog_commands.specs.Inputs.{LeavesValues, SpellsScripts}
use Rattle.golog_commands.specs.Outcome.{Outside, CallEnds}
use Rattle.golog_commands.specs.Exact.{IsRead}

-- what was written is the beginning of the text of an online execution from this start, each entry of which is so in
-- each world that agrees with those before it
pub record AddsBeginning (agent : Agent) (start : Option Values) (old new : Option Text) : Type 0 where
  pub bytes : Text
  pub begins : BeginsOnline agent start bytes
  pub so : JournalIsSo (started agent start) begins.report.entries
  pub added : new ≡ and_then_bytes old bytes

-- so it is, or of a run from a journal nothing was written
abbrev pub AddsRun : Agent → Option Values → Option Text → Option Text → Type 0
AddsRun agent None old new = AddsBeginning agent None old new
AddsRun agent (Some values) old new = (new ≡ old) ⊎ AddsBeginning agent (Some values) old new

-- what was written is the beginning of the text of a journal of a program that follows plans, each entry of which is so
-- in each world that agrees with those before it
pub record AddsPlanned (agent : Agent) (depth fuel : ℕ) (old new : Option Text) : Type 0 where
  pub journal : Journal
  pub bytes : Text
  pub rest : Text
  pub begins : plan_text agent depth fuel journal ≡ bytes ++ rest
  pub planned : IsPlannedSoFar agent depth fuel journal
  pub so : PlansAreSo agent depth fuel journal
  pub added : new ≡ and_then_bytes old bytes

-- the file is read and spells the agent
pub record GivesAgent (name : Text) (before after : Outside) (agent : Agent) : Type 0 where
  pub bytes : Text
  pub read : IsRead name bytes before after
  pub spells : SpellsAgent bytes agent

-- and the devices file is read and spells these scripts, or there is none
abbrev pub GivesScripts : Option Text → Outside → Outside → Agent → List Script → Type 0
GivesScripts None before after agent listed = listed ≡ []
GivesScripts (Some name) before after agent listed =
    (bytes : Text) × IsRead name bytes before after × SpellsScripts agent bytes listed

-- and the journal file is read and leaves the values that the run begins from, or there is none
abbrev pub GivesStart : Option Text → Outside → Outside → Agent → Option Values → Type 0
GivesStart None before after agent start = start ≡ None
GivesStart (Some name) before after agent start =
    (bytes : Text) × (values : Values) × IsRead name bytes before after × LeavesValues agent bytes values
    × (start ≡ Some values)

-- Where the words are those of a run, planned or not, and its files spell an agent, scripts and a start, the beginning
-- of such a text was written, whatever the status: all of it, a part where a write failed, or nothing.
abbrev pub LinesBegin : Option CommandLine → Outside → Outside → Type 0
LinesBegin None before after = ⊤
LinesBegin (Some (run name devices inline from workers)) before after =
    (agent : Agent) (listed : List Script) (start : Option Values) → GivesAgent name before after agent
    → GivesScripts devices before after agent listed → GivesStart from before after agent start
    → AddsRun agent start before.taken after.taken
LinesBegin (Some (check name)) before after = ⊤
LinesBegin (Some (replay name journal)) before after = ⊤
LinesBegin (Some (ask name journal condition)) before after = ⊤
LinesBegin (Some (migrate name journal)) before after = ⊤
LinesBegin (Some (demo size)) before after = ⊤
LinesBegin (Some (team first second inline)) before after = ⊤
LinesBegin (Some (plan depth fuel name devices inline)) before after =
    (agent : Agent) (listed : List Script) → GivesAgent name before after agent → has_block agent agent.main ≡ false
    → GivesScripts devices before after agent listed → AddsPlanned agent depth fuel before.taken after.taken

-- where the files of a run spell an agent, scripts and a start, this is so of each call that ends as a write failed
abbrev pub CutShortBeginsOnline : Type 0
CutShortBeginsOnline =
    (name : Text) (devices : Option Text) (inline : Bool) (from : Option Text) (workers : Option ℕ) (before after : Outside)
    (agent : Agent) (listed : List Script) (start : Option Values) → GivesAgent name before after agent
    → GivesScripts devices before after agent listed → GivesStart from before after agent start
    → CallEnds 5 (Some (run name devices inline from workers)) before after
    → AddsBeginning agent start before.taken after.taken
