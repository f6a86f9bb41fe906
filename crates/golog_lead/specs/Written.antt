-- What a lead has written of the entries that it has copied.
use Rattle.std.specs.Prelude.{◌≡◌, ℕ, ◌≤◌, Bool, true, false, Option}
use Rattle.golog_base.specs.Known.{AddsPrefix, and_then_bytes}
use Rattle.golog_base.specs.Faults.{Rose}
use Rattle.golog_tree.specs.declared.agent.Agent.{Agent}
use Rattle.golog_semantics.specs.Journal.{Journal}
use Rattle.golog_semantics.specs.InlineText.{report_of}
use Rattle.golog_semantics.specs.Text.{Text, report_text}

-- Behind what was taken at first stands this text, and the count of faults stands as it did. Where a write has failed,
-- a prefix of it stands there, and the count has risen since; it never falls.
pub record IsWritten (text : Text) (was is : Option Text) (before after : ℕ) (faulted : Bool) : Type 0 where
  pub whole : faulted ≡ false → is ≡ and_then_bytes was text
  pub no_fault : faulted ≡ false → after ≡ before
  pub cut : faulted ≡ true → AddsPrefix was is text
  pub rose : faulted ≡ true → Rose before after
  pub counted : before ≤ after

-- the text of the entries, with the runs that its steps begin
abbrev pub whole_text : Agent → Journal → Text
whole_text agent journal = report_text agent (report_of agent journal)

-- the lines of the entries were written, or those before a write that failed
abbrev pub HasWritten : Agent → Journal → Option Text → Option Text → ℕ → ℕ → Bool → Type 0
HasWritten agent journal was is before after faulted = IsWritten (whole_text agent journal) was is before after faulted
