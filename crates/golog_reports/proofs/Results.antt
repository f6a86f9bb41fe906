-- The commands that results are of.
use Rattle.std.proofs.Common.{◌≡◌, ℕ, ◌<◌, Bool, true, false, Option, Some, None, length, refl, arith}
use Rattle.std.specs.Prelude.{slice_get, option_and_then}
use Rattle.golog_tree.specs.declared.agent.Agent.{Agent}
use Rattle.golog_tree.specs.Ground.{fluent_args, ground_count, ground_fluents}
use Rattle.golog_tree.proofs.Numbers.{length-all_from}
use Rattle.golog_semantics.specs.declared.journal.Entry.{Entry}
use Rattle.golog_semantics.specs.declared.journal.Entry.TheVariants.{Do, Test, Exo, Sense, Rest, Close, End}
use Rattle.golog_semantics.specs.Journal.{Journal, is_carried_by, fluent_sensed}
use Rattle.golog_semantics.specs.WellFormed.{WellFormed}
use Rattle.golog_journal.proofs.Sensing.{sensed-inside}
use Rattle.golog_journal.proofs.Serving.{well_formed_serves}
use Rattle.golog_reports.specs.Said.{if_so}
use Rattle.golog_reports.specs.Reads.{sensed_by_entry, sensed_at}

-- a test that lets an answer pass holds
pub if-so : {A : Type 0} (b : Bool) (answer : Option A) (x : A) → if_so b answer ≡ Some x → (b ≡ true) × (answer ≡ Some x)
if-so true answer x e = (refl, e)
if-so false answer x e = absurd (cc)

pub and-then : {A B : Type 0} (f : A → Option B) (o : Option A) (y : B) → option_and_then f o ≡ Some y → (x : A) × (o ≡ Some x) × (f x ≡ Some y)
and-then f None y e = absurd (cc)
and-then f (Some x) y e = (x, refl, e)

module _ (agent : Agent) where
  -- the command of an entry, of which a result may be
  pub record IsSensing (device fluent : ℕ) (e : Entry) : Type 0 where
    pub action : ℕ
    pub is : e ≡ Do action
    pub carried : is_carried_by agent device action ≡ true
    pub senses : fluent_sensed agent action ≡ Some fluent

  pub entry_senses : (device fluent : ℕ) (e : Entry) → sensed_by_entry agent device e ≡ Some fluent → IsSensing device fluent e
  unfolding sensed_by_entry
  entry_senses device fluent (Do action) h =
      let both = if-so (is_carried_by agent device action) (fluent_sensed agent action) fluent h in
      record { action = action; is = refl; carried = both.0; senses = both.1 }
  entry_senses device fluent _ h = absurd (cc)

  pub record IsSensedAt (before : Journal) (device place fluent : ℕ) : Type 0 where
    pub entry : Entry
    pub stands : slice_get before place ≡ Some entry
    pub command : IsSensing device fluent entry

  pub sensed_is : (before : Journal) (device place fluent : ℕ) → sensed_at agent before device place ≡ Some fluent → IsSensedAt before device place fluent
  unfolding sensed_at
  sensed_is before device place fluent h =
      let r = and-then (sensed_by_entry agent device) (slice_get before place) fluent h in
      record { entry = r.0; stands = r.1; command = entry_senses device fluent r.0 r.2 }

  pub sensed_inside : WellFormed agent → (before : Journal) (device place fluent : ℕ) → sensed_at agent before device place ≡ Some fluent → fluent < length (ground_fluents agent)
  sensed_inside well before device place fluent h =
      let r = sensed_is before device place fluent h in
      sensed-inside agent (well_formed_serves agent well) r.command.action fluent r.command.senses

  pub sensed_below : WellFormed agent → (before : Journal) (device place fluent : ℕ) → sensed_at agent before device place ≡ Some fluent → fluent < ground_count agent (fluent_args agent)
  sensed_below well before device place fluent h =
      let inside = sensed_inside well before device place fluent h in
      let whole = length-all_from agent (fluent_args agent) 0 in
      omega (arith, inside, whole)
