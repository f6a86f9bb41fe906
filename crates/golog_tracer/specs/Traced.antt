-- The trace of a journal file with an agent file, and how a call of the program ends.
use Rattle.std.specs.Prelude.{◌≡◌, ℕ, List, [], ◌∷◌, Option, None, Some}
use Rattle.golog_base.specs.declared.mem_files.HeldFile.{HeldFile}
use Rattle.golog_tree.specs.declared.agent.Agent.{Agent}
use Rattle.golog_semantics.specs.Restart.{started}
use Rattle.golog_semantics.specs.Text.{Text}
use Rattle.golog_file.specs.Spelled.{IsFirstRefusal}
use Rattle.golog_commands.specs.Inputs.{Reads, ReadsAgent, RefusesJournal, SpellsJournal}
use Rattle.golog_commands.specs.Outcome.{FileFails, Reports, outcome_status, outcome_text}
use Rattle.golog_commands.specs.declared.outcome.Input.TheVariants.{Agent as AgentFile, Journal as JournalFile}
use Rattle.golog_commands.specs.declared.outcome.Outcome.{Outcome}
use Rattle.golog_commands.specs.declared.outcome.Outcome.TheVariants.{WordsRefused}
use Rattle.golog_commands.specs.declared.ready.Told.{Told}
use Rattle.golog_trace.specs.Traced.{IsTrace}

-- The file of this name spells a journal of the agent, of which the text is the trace. The agent starts from the
-- journal's start, where that has one.
pub record IsTraceWith (held : Option (List HeldFile)) (agent : Agent) (journal text : Text) : Type 0 where
  pub told : Told
  pub reads : Reads held journal (λ bytes. SpellsJournal agent bytes told)
  pub is_trace : IsTrace (started agent told.report.start) told.report text

-- the file of one name spells an agent, and that of the other a journal of it, of which the text is the trace
pub record IsTraceOf (held : Option (List HeldFile)) (name journal text : Text) : Type 0 where
  pub agent : Agent
  pub reads : ReadsAgent held name agent
  pub traces : IsTraceWith held agent journal text

-- Why there is no trace of two files, and what the call comes to then: the agent file can't be read or is refused; or
-- it spells an agent, and the journal file can't be read or is refused.
pub data IsUntraced (held : Option (List HeldFile)) (faults_before faults_after : ℕ) (name journal : Text)
    (outcome : Outcome) : Type 0 where
  no_agent : FileFails AgentFile IsFirstRefusal held name faults_before faults_after outcome
      → IsUntraced held faults_before faults_after name journal outcome
  no_journal : (agent : Agent) → ReadsAgent held name agent
      → FileFails JournalFile (RefusesJournal agent) held journal faults_before faults_after outcome
      → IsUntraced held faults_before faults_after name journal outcome

-- ---- the call

-- the names of the agent file and of the journal file that the words say; other words name none
abbrev pub named_in : List Text → Option (Text × Text)
named_in [] = None
named_in (agent ∷ []) = None
named_in (agent ∷ journal ∷ []) = Some (agent, journal)
named_in (agent ∷ journal ∷ more ∷ words) = None

-- what the files and the sink mean at one moment
pub record Around : Type 0 where
  pub held : Option (List HeldFile)
  pub file_faults : ℕ
  pub taken : Option Text
  pub sink_faults : ℕ

-- what these files and this sink mean
abbrev pub around : {F K : Type 0} → (F → Option (List HeldFile)) → (F → ℕ) → (K → Option Text) → (K → ℕ) → F → K
    → Around
around held file_faults taken sink_faults files out =
    record { held = held files; file_faults = file_faults files; taken = taken out; sink_faults = sink_faults out }

-- the text was reported, whole or as far as writes went, and the status is its own or that of a fault
abbrev pub IsWritten : ℕ → Text → ℕ → Around → Around → Type 0
IsWritten answered text status before after =
    Reports answered text status before.taken after.taken before.sink_faults after.sink_faults

-- How a call ends that names both files: the trace of the two is written; or there is none, and what is said of it has
-- its cause; or memory ran out, nothing was written and no write failed.
pub data TraceEnds (status : ℕ) (name journal : Text) (before after : Around) : Type 0 where
  traced : (text : Text) → IsTraceOf before.held name journal text → IsWritten status text 0 before after
      → TraceEnds status name journal before after
  untraced : (outcome : Outcome) → IsUntraced before.held before.file_faults after.file_faults name journal outcome
      → IsWritten status (outcome_text outcome) (outcome_status outcome) before after
      → TraceEnds status name journal before after
  starved : status ≡ 6 → after.taken ≡ before.taken → after.sink_faults ≡ before.sink_faults
      → TraceEnds status name journal before after

-- how a call ends whose words name these files, or none
abbrev pub CallEnds : ℕ → Option (Text × Text) → Around → Around → Type 0
CallEnds status None before after =
    IsWritten status (outcome_text WordsRefused) (outcome_status WordsRefused) before after
CallEnds status (Some (name, journal)) before after = TraceEnds status name journal before after
