-- What the line of an entry says, with a value behind ` against`, if any.
use Rattle.std.proofs.Common.{◌≡◌, ℕ, Option, Some, None, List, [], ◌∷◌, ◌++◌, refl}
use Rattle.std.specs.Prelude.{codes, decimal, option_map}
use Rattle.std.specs.List.{join_by}
use Rattle.std.specs.Option.{option_map_or}
use Rattle.golog_tree.specs.declared.agent.Agent.{Agent}
use Rattle.golog_tree.specs.declared.prog.Label.{Label}
use Rattle.golog_semantics.specs.declared.journal.Entry.{Entry}
use Rattle.golog_semantics.specs.declared.journal.Entry.TheVariants.{Do, Test, Exo, Sense, Rest, Close, End}
use Rattle.golog_semantics.specs.Journal.{device_of}
use Rattle.golog_semantics.specs.Text.{Text, action_text, at_device, device_text, label_text, run_text, value_text}
use Rattle.golog_reports.specs.declared.reading.Line.{Line}
use Rattle.golog_reports.specs.ReadsAs.{said_body}
use Rattle.golog_reports.specs.Said.{Body, SaysDo, SaysTest, SaysExo, SaysSense, SaysRest, SaysClose, SaysEnd, with_prefix, body_said}

-- an entry without a run
abbrev pub bare : Entry → Line
bare e = record { entry = e; run = None }

module _ (agent : Agent) where
  -- a label, with the space before it
  abbrev pub step_text : Label → Text
  step_text label = 32 ∷ label_text agent label

  -- the text behind the word `run`
  abbrev pub run_words : List Label → Text
  run_words labels = 32 ∷ join_by (label_text agent) (codes "; ") labels

  abbrev pub body_of_entry : Option (List Label) → Option ℕ → Entry → Body
  body_of_entry run old (Do action) =
      SaysDo (action_text agent action) (option_map (device_text agent) (device_of agent action)) (option_map run_words run)
  body_of_entry run old Test = SaysTest (option_map run_words run)
  body_of_entry run old (Exo poster action) = SaysExo (device_text agent poster) (action_text agent action)
  body_of_entry run old (Sense poster place fluent value) =
      SaysSense (device_text agent poster) (decimal place) (value_text agent fluent value) (option_map (value_text agent fluent) old)
  body_of_entry run old (Rest poster taken) = SaysRest (device_text agent poster) (decimal taken)
  body_of_entry run old (Close poster reason taken) = SaysClose (device_text agent poster) reason (decimal taken)
  body_of_entry run old (End answer) = SaysEnd answer

  device-same : (o : Option ℕ) → with_prefix (codes " @") (option_map (device_text agent) o) ≡ at_device agent o
  device-same None = refl
  device-same (Some d) = refl

  run-same : (run : Option (List Label)) → with_prefix (codes " run") (option_map run_words run) ≡ run_text agent run
  run-same None = refl
  run-same (Some labels) = refl

  old-same : (fluent : ℕ) (old : Option ℕ) → with_prefix (codes " against ") (option_map (value_text agent fluent) old) ≡ option_map_or (λ v. codes " against " ++ value_text agent fluent v) old []
  old-same fluent None = refl
  old-same fluent (Some v) = refl

  pub body-text : (run : Option (List Label)) (old : Option ℕ) (e : Entry) → body_said (body_of_entry run old e) ≡ said_body agent run old e
  body-text run old (Do action) = (λ i. codes "do " ++ action_text agent action ++ device-same (device_of agent action) i ++ run-same run i)
  body-text run old Test = (λ i. codes "test" ++ run-same run i)
  body-text run old (Exo poster action) = refl
  body-text run old (Sense poster place fluent value) =
      (λ i. codes "sense " ++ device_text agent poster ++ codes " " ++ decimal place ++ codes " " ++ value_text agent fluent value ++ old-same fluent old i)
  body-text run old (Rest poster taken) = refl
  body-text run old (Close poster reason taken) = refl
  body-text run old (End answer) = refl
