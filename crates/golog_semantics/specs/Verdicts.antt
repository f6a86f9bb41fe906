-- What a replay answers, and the word for each rule of a journal.
use Rattle.std.specs.Prelude.{◌≡◌, ℕ, ◌+◌, ◌==◌, Option, Some, None, List, Contains, codes, drop, length}
use Rattle.std.specs.List.{slice_split}
use Rattle.std.specs.Option.{option_map_or}
use Rattle.golog_tree.specs.declared.agent.Agent.{Agent}
use Rattle.golog_semantics.specs.declared.journal.Entry.TheVariants.{End}
use Rattle.golog_semantics.specs.declared.journal.Report.{Report}
use Rattle.golog_semantics.specs.declared.journal.Verdict.{Verdict}
use Rattle.golog_semantics.specs.declared.journal.Verdict.TheVariants.{Online, Not}
use Rattle.golog_semantics.specs.declared.journal.Why.{Why}
use Rattle.golog_semantics.specs.declared.journal.Why.TheVariants.{After, Poster, Place, Taken, Step, Run, Answer, Close, Text as TextRule, Short}
use Rattle.golog_semantics.specs.Online.{fault_of}
use Rattle.golog_semantics.specs.Text.{Text}
use Rattle.golog_semantics.specs.Truth.{Values}
use Rattle.golog_semantics.specs.Values.{ground_fluents}

-- the word that is printed where the rule is the first to fail
abbrev pub why_text : Why → Text
why_text After = codes "after"
why_text Poster = codes "poster"
why_text Place = codes "place"
why_text Taken = codes "taken"
why_text Step = codes "step"
why_text Run = codes "run"
why_text Answer = codes "answer"
why_text Close = codes "close"
why_text TextRule = codes "text"
why_text Short = codes "short"

-- the parts of a text between its line feeds
abbrev pub lines_in : Text → List Text
lines_in bytes = slice_split (λ b. b == 10) bytes

-- how many lines a head has: its first, one for each ground fluent, and its last
abbrev pub head_length : Agent → ℕ
head_length agent = length (ground_fluents agent) + 2

-- The lines of the entries: those behind the head, where the report has a start.
abbrev pub entry_lines : Agent → Text → Option Values → List Text
entry_lines agent bytes start = drop (option_map_or (λ values. head_length agent) start 0) (lines_in bytes)

-- The agent is the one that starts from the report's start.
module _ (agent : Agent) (bytes : Text) (report : Report) where
  -- the answer is that of the end, where no rule is broken; else the place is the first where one is, and
  -- this is the first rule that is broken there
  abbrev pub VerdictIs : Verdict → Type 0
  VerdictIs (Online answer) =
      (fault_of agent (Some (entry_lines agent bytes report.start)) report ≡ None) × Contains report.entries (End answer)
  VerdictIs (Not place why) =
      fault_of agent (Some (entry_lines agent bytes report.start)) report ≡ Some (record { place = place; why = why })
