-- A journal of which a replay says that it is online is the text of an online execution.
use Rattle.std.proofs.Common.{◌≡◌, ℕ, Some, Ok, inl, inr, sym, ap, ◌∙◌, subst}
use Rattle.golog_base.specs.Known.{and_then_bytes}
use Rattle.golog_tree.specs.declared.agent.Agent.{Agent}
use Rattle.golog_semantics.specs.Execution.{IsOnlineRun, status_of as answer_status}
use Rattle.golog_semantics.specs.Restart.{started}
use Rattle.golog_semantics.specs.Text.{Text}
use Rattle.golog_semantics.specs.WellFormed.{WellFormed}
use Rattle.golog_reports.specs.Reads.{journal_of}
use Rattle.golog_replay.specs.Laws.{OnlineIsAnOnlineRun}
use Rattle.golog_semantics.specs.Verdicts.{VerdictIs}
use Rattle.golog_semantics.specs.declared.journal.Verdict.{Verdict}
use Rattle.golog_semantics.specs.declared.journal.Verdict.TheVariants.{Online, Not}
use Rattle.golog_words.specs.Commands.{replay}
use Rattle.golog_commands.specs.declared.outcome.Outcome.{Outcome}
use Rattle.golog_commands.specs.declared.outcome.Outcome.TheVariants.{Judged}
use Rattle.golog_commands.specs.declared.ready.Told.{Told}
use Rattle.golog_commands.specs.Exact.{Writes}
use Rattle.golog_commands.specs.Inputs.{Reads, ReadsAgent, SpellsJournal}
use Rattle.golog_commands.specs.Outcome.{unread, refused, holds, Judges, OfJournal, Outside, Reports, outcome_status, outcome_text, verdict_line}
use Rattle.golog_main.specs.Replayed.{OnlineReplaysRun, ReplaysRun}
use Rattle.golog_commands.proofs.Causes.{IsCaused}

-- neither a refusal nor a fault has the status 0
nonzero : {P : Type 0} (n : ℕ) → 0 ≡ n → (n ≡ 0 → ⊥) → P
nonzero n is never = absurd (never (sym is))

module _ (law : OnlineIsAnOnlineRun) (name journal : Text) (before after : Outside) where
  module _ (agent : Agent) (reads : ReadsAgent before.held name agent) (formed : WellFormed agent) (told : Told)
      (spells : Reads before.held journal (λ bytes. SpellsJournal agent bytes told)) where
    abbrev same : told.bytes ≡ spells.bytes
    same = spells.so.same

    said : (journal_of agent told.bytes).outcome ≡ Ok told.report
    said = subst (λ b. (journal_of agent b).outcome ≡ Ok told.report) (sym same) spells.so.said

    of-verdict : (v : Verdict) (outcome : Outcome) → 0 ≡ outcome_status outcome → Writes before after (outcome_text outcome) → VerdictIs (started agent told.report.start) told.bytes told.report v
        → outcome ≡ Judged v (verdict_line v) → ReplaysRun before after name journal
    of-verdict (Online answer) outcome shown written so is = record {
      agent = agent;
      reads = reads;
      answer = answer;
      told = told;
      said = spells;
      run = record {
        bytes = spells.bytes;
        has = spells.has;
        so = subst (λ b. IsOnlineRun agent told.report.start b (answer_status answer)) same ((law agent formed told.bytes told.report said answer).run so);
      };
      written = written ∙ ap (λ x. and_then_bytes before.taken (outcome_text x)) is;
    }
    of-verdict (Not place why) outcome shown written so is = nonzero 17 (shown ∙ ap outcome_status is) (λ e. cc)

  module _ (outcome : Outcome) (shown : 0 ≡ outcome_status outcome) (written : Writes before after (outcome_text outcome)) where
    of-journal : (agent : Agent) → ReadsAgent before.held name agent → OfJournal before.held before.file_faults after.file_faults agent journal (Judges agent) outcome
        → ReplaysRun before after name journal
    of-journal agent reads (unread is u) = nonzero 4 (shown ∙ ap outcome_status is) (λ e. cc)
    of-journal agent reads (refused text is r) = nonzero 3 (shown ∙ ap outcome_status is) (λ e. cc)
    of-journal agent reads (holds told spells judges) = of-verdict agent reads judges.formed told spells judges.verdict outcome shown written judges.so judges.is

    of-agent : IsCaused (Some (replay name journal)) before after outcome → ReplaysRun before after name journal
    of-agent (unread is u) = nonzero 4 (shown ∙ ap outcome_status is) (λ e. cc)
    of-agent (refused text is r) = nonzero 3 (shown ∙ ap outcome_status is) (λ e. cc)
    of-agent (holds agent reads comes) = of-journal agent reads comes

  of-report : (outcome : Outcome) → IsCaused (Some (replay name journal)) before after outcome
      → Reports 0 (outcome_text outcome) (outcome_status outcome) before.taken after.taken before.sink_faults after.sink_faults → ReplaysRun before after name journal
  of-report outcome cause (inl (shown, written, still)) = of-agent outcome shown written cause
  of-report outcome cause (inr (five, prefix, rose)) = nonzero 5 five (λ e. cc)

pub replays-run : OnlineIsAnOnlineRun → OnlineReplaysRun
replays-run law name journal before after (inl reported) = of-report law name journal before after reported.outcome reported.cause reported.report
replays-run law name journal before after (inr starved) = nonzero 6 starved.answered (λ e. cc)
