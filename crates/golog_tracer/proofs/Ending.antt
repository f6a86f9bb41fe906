-- How a call of the program ends.
use Rattle.std.proofs.Common.{◌≡◌, ◌≤◌, ℕ, Option, Some, List, [], ◌∷◌, Result, Ok, Err, IfOk, length, map, subst, sym, ap, ◌∙◌, arith}
use Rattle.std.specs.Prelude.{IfErr, OnErr, slice_index_or}
use Rattle.golog_base.specs.declared.mem_files.HeldFile.{HeldFile}
use Rattle.golog_tree.specs.declared.agent.Agent.{Agent}
use Rattle.golog_semantics.specs.Text.{Text}
use Rattle.golog_file.specs.Spelled.{IsFirstRefusal}
use Rattle.golog_commands.specs.Inputs.{ReadsAgent, RefusesJournal}
use Rattle.golog_commands.specs.Outcome.{FileFails, IfEnded, outcome_status, outcome_text}
use Rattle.golog_commands.specs.Writing.{ReportsUnready}
use Rattle.golog_commands.specs.declared.outcome.Input.TheVariants.{Agent as AgentFile, Journal as JournalFile}
use Rattle.golog_commands.specs.declared.outcome.Outcome.{Outcome}
use Rattle.golog_commands.specs.declared.ready.Unready.{Unready}
use Rattle.golog_commands.specs.declared.ready.Unready.TheVariants.{Ended, Memory}
use Rattle.golog_commands.proofs.OutcomeLemmas.{ended-so, fails-since}
use Rattle.golog_tracer.specs.Traced.{Around, IsUntraced, no_agent, no_journal, named_in, IsWritten, TraceEnds, untraced, starved, CallEnds}

-- want of memory alone has no cause among the files
pub if-memory : {A : Type 0} (r : Result A Unready) (P : Outcome → Type 0) → IfErr r (λ fault. fault ≡ Memory) → IfErr r (λ fault. IfEnded fault P)
if-memory (Ok a) P is = tt
if-memory (Err fault) P is = subst (λ f. IfEnded f P) (sym is) tt

module _ (held : Option (List HeldFile)) (name journal : Text) (before after : ℕ) where
  -- no agent, so no trace
  pub without-agent : (fault : Unready) → IfEnded fault (FileFails AgentFile IsFirstRefusal held name before after)
      → IfEnded fault (IsUntraced held before after name journal)
  without-agent fault fails =
      ended-so fault (FileFails AgentFile IsFirstRefusal held name before after) (IsUntraced held before after name journal)
      (λ outcome f. no_agent f) fails

  -- an agent, and no journal of it, where calls of the files may have failed before
  pub without-journal : {A : Type 0} (r : Result A Unready) (agent : Agent) (mid : ℕ) → before ≤ mid → ReadsAgent held name agent
      → IfErr r (λ fault. IfEnded fault (FileFails JournalFile (RefusesJournal agent) held journal mid after))
      → IfErr r (λ fault. IfEnded fault (IsUntraced held before after name journal))
  without-journal (Ok a) agent mid grows reads fails = tt
  without-journal (Err fault) agent mid grows reads fails =
      ended-so fault (FileFails JournalFile (RefusesJournal agent) held journal mid after) (IsUntraced held before after name journal)
      (λ outcome f. no_journal agent reads (fails-since JournalFile held journal mid after before grows (RefusesJournal agent) outcome f)) fails

-- a call without a trace
pub without-trace : {E : Type 0} (name journal : Text) (before after : Around) (status : ℕ) (fault : Unready) (r : Result ℕ E)
    → IfEnded fault (IsUntraced before.held before.file_faults after.file_faults name journal)
    → ReportsUnready fault r before.taken after.taken before.sink_faults after.sink_faults → IfOk r (λ s. status ≡ s) → OnErr r (status ≡ 6)
    → TraceEnds status name journal before after
without-trace name journal before after status (Ended outcome) (Ok s) cause reports is starves =
    untraced outcome cause (subst (λ n. IsWritten n (outcome_text outcome) (outcome_status outcome) before after) (sym is) reports)
without-trace name journal before after status (Ended outcome) (Err e) cause reports is starves = absurd reports
without-trace name journal before after status Memory (Ok s) cause reports is starves = absurd reports
without-trace name journal before after status Memory (Err e) cause reports is starves = starved starves reports.0 reports.1

-- two words name two files
names-two : {S : Type 0} (bytes : S → Text) (words : List S) (agent journal : S) (name other : Text) → length words ≡ 2
    → agent ≡ slice_index_or words 0 agent → journal ≡ slice_index_or words 1 journal → name ≡ bytes agent → other ≡ bytes journal
    → named_in (map bytes words) ≡ Some (name, other)
names-two bytes [] agent journal name other two first second named told = absurd (omega (arith, two))
names-two bytes (one ∷ []) agent journal name other two first second named told = absurd (omega (arith, two))
names-two bytes (one ∷ more ∷ []) agent journal name other two first second named told =
    ap (λ (t : Text). Some (bytes one, t)) (sym (told ∙ ap bytes second)) ∙ ap (λ (t : Text). Some (t, other)) (sym (named ∙ ap bytes first))
names-two bytes (one ∷ more ∷ third ∷ words) agent journal name other two first second named told = absurd (omega (arith, two))

-- a call whose words are two
pub call-ends : {S : Type 0} (bytes : S → Text) (words : List S) (agent journal : S) (name other : Text) (before after : Around) (status : ℕ) → length words ≡ 2
    → agent ≡ slice_index_or words 0 agent → journal ≡ slice_index_or words 1 journal → name ≡ bytes agent → other ≡ bytes journal
    → TraceEnds status name other before after → CallEnds status (named_in (map bytes words)) before after
call-ends bytes words agent journal name other before after status two first second named told ends =
    subst (λ n. CallEnds status n before after) (sym (names-two bytes words agent journal name other two first second named told)) ends
