-- What a command reads: an agent, the scripts of its devices, a journal, a condition; and what is said where it can't.
use Rattle.std.specs.Prelude.{◌≡◌, ◌⊎◌, ◌^◌, ℕ, ◌<◌, ◌≤◌, List, [], ◌∷◌, ◌++◌, Option, None, Some, Ok, Err, length, map, find, codes, decimal}
use Rattle.std.specs.Option.{option_map_or}
use Rattle.golog_base.specs.Faults.{Rose}
use Rattle.golog_base.specs.Files.{HasNone, FileHas, file_limit}
use Rattle.golog_base.specs.declared.mem_files.HeldFile.{HeldFile}
use Rattle.golog_rows.specs.Reading.{first}
use Rattle.golog_tree.specs.declared.agent.Agent.{Agent}
use Rattle.golog_semantics.specs.Text.{Text}
use Rattle.golog_semantics.specs.Same.{same_values}
use Rattle.golog_semantics.specs.Dealt.{Script}
use Rattle.golog_semantics.specs.Restart.{values_left}
use Rattle.golog_semantics.specs.Truth.{Values}
use Rattle.golog_script.specs.declared.scripts.Script.{Script as Named}
use Rattle.golog_script.specs.DevicesFile.{scripts_of}
use Rattle.golog_script.specs.ScriptTexts.{script_of_named}
use Rattle.golog_reports.specs.Reads.{journal_of}
use Rattle.golog_file.specs.Spelled.{SpellsAgent, SpellsWith}
use Rattle.golog_file.specs.declared.reading.Understood.{Understood}
use Rattle.golog_commands.specs.declared.outcome.Input.{Input}
use Rattle.golog_commands.specs.declared.outcome.Input.TheVariants.{Agent as AgentFile, Devices as DevicesFile, Journal as JournalFile, Condition, First, Second}
use Rattle.golog_commands.specs.declared.ready.Told.{Told}

-- ---- scripts

-- the script of a device that has none
abbrev pub empty_script : Script
empty_script = record { answers = []; idle = [] }

-- the script under the name of a device, the empty one where there is none
abbrev pub script_under : List Named → Text → Script
script_under listed name =
    option_map_or script_of_named (find (λ (s : Named). same_values name s.name) listed) empty_script

-- the scripts of the devices of an agent, in the order of the devices
abbrev pub scripts_for : Agent → List Named → List Script
scripts_for agent listed = map (script_under listed) agent.devices

-- the bytes of a devices file are within the limit and spell these scripts
pub record SpellsScripts (agent : Agent) (bytes : Text) (listed : List Named) : Type 0 where
  pub small : length bytes ≤ file_limit
  pub spelled : (scripts_of agent.devices bytes).outcome ≡ Ok listed

-- the first refusal of the bytes of a devices file: they are above the limit, or the first row fits of
-- those that refuse scripts
pub data RefusesScripts (agent : Agent) (bytes : Text) : ℕ → ℕ → Type 0 where
  too_long : file_limit < length bytes → RefusesScripts agent bytes 5 file_limit
  of_row : (code at : ℕ) → length bytes ≤ file_limit → (scripts_of agent.devices bytes).outcome ≡ Err (code, at)
      → first (scripts_of agent.devices bytes).rows ≡ Some (code, at) → RefusesScripts agent bytes code at

-- ---- journals

-- how many bytes a journal file may have
abbrev pub journal_limit : ℕ
journal_limit = 2 ^ 28

-- the bytes of a journal file are within the limit and say this report
pub record SpellsJournal (agent : Agent) (bytes : Text) (told : Told) : Type 0 where
  pub same : told.bytes ≡ bytes
  pub small : length bytes ≤ journal_limit
  pub said : (journal_of agent bytes).outcome ≡ Ok told.report

-- the first refusal of the bytes of a journal file: they are above the limit, or the first row fits of those
-- that refuse a line
pub data RefusesJournal (agent : Agent) (bytes : Text) : ℕ → ℕ → Type 0 where
  journal_too_long : journal_limit < length bytes → RefusesJournal agent bytes 5 journal_limit
  of_line : (code at : ℕ) → length bytes ≤ journal_limit → (journal_of agent bytes).outcome ≡ Err (code, at)
      → first (journal_of agent bytes).rows ≡ Some (code, at) → RefusesJournal agent bytes code at

-- the bytes of a journal file say a report that leaves these values to the next run
pub record LeavesValues (agent : Agent) (bytes : Text) (values : Values) : Type 0 where
  pub told : Told
  pub spells : SpellsJournal agent bytes told
  pub left : values ≡ values_left agent told.report

-- ---- files

-- the file has bytes of which this is so; they are the bytes held, where files tell them
pub record Reads (held : Option (List HeldFile)) (name : Text) (P : Text → Type 0) : Type 0 where
  pub bytes : Text
  pub has : FileHas held name (λ told. told ≡ bytes)
  pub so : P bytes

-- the agent file spells the agent
abbrev pub ReadsAgent : Option (List HeldFile) → Text → Agent → Type 0
ReadsAgent held name agent = Reads held name (λ bytes. SpellsAgent bytes agent)

-- the bytes of an agent file spell an agent, over this theory
abbrev pub SpellsBoth : Text → Understood → Type 0
SpellsBoth bytes understood = SpellsWith bytes understood.theory understood.agent

-- the devices file spells these scripts; without a devices file there are none
abbrev pub ReadsScripts : Option (List HeldFile) → Agent → Option Text → List Named → Type 0
ReadsScripts held agent None listed = listed ≡ []
ReadsScripts held agent (Some name) listed = Reads held name (λ bytes. SpellsScripts agent bytes listed)

-- a run begins from the values that the journal file leaves; without a journal file it begins from none but the agent's
abbrev pub ReadsStart : Option (List HeldFile) → Agent → Option Text → Option Values → Type 0
ReadsStart held agent None start = start ≡ None
ReadsStart held agent (Some name) start =
    (values : Values) × Reads held name (λ bytes. LeavesValues agent bytes values) × (start ≡ Some values)

-- ---- refusals and faults

-- the text of a line
abbrev pub line : Text → Text
line text = text ++ 10 ∷ []

abbrev pub input_name : Input → Text
input_name AgentFile = codes "agent"
input_name DevicesFile = codes "devices"
input_name JournalFile = codes "journal"
input_name Condition = codes "condition"
input_name First = codes "first"
input_name Second = codes "second"

-- how many bytes an input may have
abbrev pub input_limit : Input → ℕ
input_limit AgentFile = file_limit
input_limit DevicesFile = file_limit
input_limit JournalFile = journal_limit
input_limit Condition = file_limit
input_limit First = file_limit
input_limit Second = file_limit

-- the refusal of an input, with its code and its place or position
abbrev pub refusal_text : Input → ℕ → ℕ → Text
refusal_text input code at =
    line (codes "refused " ++ input_name input ++ codes " " ++ decimal code ++ codes " at " ++ decimal at)

abbrev pub fault_text : Input → Text
fault_text input = line (codes "read fault " ++ input_name input)

-- the text tells a refusal of the input by its code and its place
pub record Tells (input : Input) (Refuses : ℕ → ℕ → Type 0) (text : Text) : Type 0 where
  pub code : ℕ
  pub at : ℕ
  pub refused : Refuses code at
  pub is : text ≡ refusal_text input code at

-- no file of this name is held, or a call of the files failed
abbrev pub IsUnread : Option (List HeldFile) → Text → ℕ → ℕ → Type 0
IsUnread held name faults_before faults_after = HasNone held name ⊎ Rose faults_before faults_after
