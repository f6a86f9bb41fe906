-- What a replay that ends with 0 says of its journal.
use Rattle.std.specs.Prelude.{Some}
use Rattle.golog_tree.specs.declared.agent.Agent.{Agent}
use Rattle.golog_semantics.specs.declared.journal.Answer.{Answer}
use Rattle.golog_semantics.specs.Execution.{IsOnlineRun, status_of}
use Rattle.golog_semantics.specs.Text.{Text}
use Rattle.golog_semantics.specs.declared.journal.Verdict.TheVariants.{Online}
use Rattle.golog_words.specs.Commands.{replay}
use Rattle.golog_commands.specs.declared.ready.Told.{Told}
use Rattle.golog_commands.specs.Exact.{Writes}
use Rattle.golog_commands.specs.Inputs.{Reads, ReadsAgent, SpellsJournal}
use Rattle.golog_commands.specs.Outcome.{CallEnds, Outside, verdict_line}

-- the agent file spells an agent, the journal file has the text of an online execution of it, from the start that the
-- text has, where it has one, and what was written tells how that ends
pub record ReplaysRun (before after : Outside) (name journal : Text) : Type 0 where
  pub agent : Agent
  pub reads : ReadsAgent before.held name agent
  pub answer : Answer
  pub told : Told
  pub said : Reads before.held journal (λ bytes. SpellsJournal agent bytes told)
  pub run : Reads before.held journal (λ bytes. IsOnlineRun agent told.report.start bytes (status_of answer))
  pub written : Writes before after (verdict_line (Online answer))

-- so it is of each replay that ends with 0
abbrev pub OnlineReplaysRun : Type 0
OnlineReplaysRun =
    (name journal : Text) (before after : Outside) → CallEnds 0 (Some (replay name journal)) before after
    → ReplaysRun before after name journal
