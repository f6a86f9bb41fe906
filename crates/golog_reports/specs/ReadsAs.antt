-- The reports that bytes say line by line, whatever value known before stands behind a result.
use Rattle.std.specs.Prelude.{◌≡◌, ℕ, ◌+◌, ⊤, IsTrue, Option, Some, None, List, [], ◌∷◌, ◌++◌, codes, decimal}
use Rattle.std.specs.Option.{option_map_or}
use Rattle.golog_tree.specs.declared.agent.Agent.{Agent}
use Rattle.golog_tree.specs.declared.prog.Label.{Label}
use Rattle.golog_semantics.specs.declared.journal.Entry.{Entry}
use Rattle.golog_semantics.specs.declared.journal.Entry.TheVariants.{Sense}
use Rattle.golog_semantics.specs.declared.journal.PlacedRun.{PlacedRun}
use Rattle.golog_semantics.specs.declared.journal.Report.{Report}
use Rattle.golog_semantics.specs.Journal.{Journal}
use Rattle.golog_semantics.specs.Reports.{IsReport, is_value}
use Rattle.golog_semantics.specs.Text.{Text, body_text, device_text, head_text, run_at, value_text, with_line_feed}

module _ (agent : Agent) where
  -- a value that may stand behind ` against`: behind a result, one of its fluent
  abbrev pub MayStand : Entry → Option ℕ → Type 0
  MayStand e None = ⊤
  MayStand (Sense poster place fluent value) (Some old) = IsTrue (is_value agent fluent old)
  MayStand e (Some old) = ⊥

  -- the text of an entry with this value behind ` against`
  abbrev pub said_body : Option (List Label) → Option ℕ → Entry → Text
  said_body run old (Sense poster place fluent value) =
      codes "sense " ++ device_text agent poster ++ codes " " ++ decimal place
      ++ codes " " ++ value_text agent fluent value
      ++ option_map_or (λ v. codes " against " ++ value_text agent fluent v) old []
  said_body run old e = body_text agent [] run e

  -- the line of an entry behind so many, with this value behind ` against`
  abbrev pub said_line : List PlacedRun → ℕ → Option ℕ → Entry → Text
  said_line runs place old e = decimal place ++ codes " " ++ said_body (run_at runs place) old e

  -- the bytes are the lines of these entries, each with some value behind ` against` or none
  abbrev pub AreLines : List PlacedRun → ℕ → Journal → Text → Type 0
  AreLines runs place [] bytes = bytes ≡ []
  AreLines runs place (e ∷ entries) bytes =
      (old : Option ℕ) × (rest : Text) × MayStand e old
      × (bytes ≡ with_line_feed agent (said_line runs place old e) ++ rest)
      × AreLines runs (place + 1) entries rest

-- the bytes say the report: the head of its start, where it has one, and the lines of its entries
pub record ReadsAs (agent : Agent) (bytes : Text) (report : Report) : Type 0 where
  pub fits : IsReport agent report
  pub rest : Text
  pub head : bytes ≡ option_map_or (head_text agent) report.start [] ++ rest
  pub lines : AreLines agent report.runs 0 report.entries rest
