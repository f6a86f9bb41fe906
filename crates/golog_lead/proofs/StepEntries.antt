-- Steps are actions and tests.
use Rattle.std.proofs.Common.{◌≡◌, ℕ, true}
use Rattle.golog_semantics.specs.declared.journal.Entry.{Entry}
use Rattle.golog_semantics.specs.declared.journal.Entry.TheVariants.{Do, Test, Exo, Sense, Rest, Close, End}
use Rattle.golog_lead.specs.Run.{is_step_entry}

-- what is so of each action and of a test is so of each step
pub each-step : (P : Entry → Type 0) → ((action : ℕ) → P (Do action)) → P Test → (e : Entry) → is_step_entry e ≡ true → P e
each-step P acts tests (Do a) h = acts a
each-step P acts tests Test h = tests
each-step P acts tests (Exo p a) h = absurd (cc)
each-step P acts tests (Sense p at f v) h = absurd (cc)
each-step P acts tests (Rest p t) h = absurd (cc)
each-step P acts tests (Close p r t) h = absurd (cc)
each-step P acts tests (End a) h = absurd (cc)
