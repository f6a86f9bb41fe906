-- The entries of a report that has a text speak of the agent's things.
use Rattle.std.proofs.Common.{◌≡◌, ℕ, zero, suc, ◌<◌, true, ◌&&◌, List, [], ◌∷◌, ◌++◌, length, Option, Some, None, refl, arith}
use Rattle.std.specs.Prelude.{slice_get}
use Rattle.std.specs.List.{list_all, list_any}
use Rattle.golog_tree.specs.declared.agent.Agent.{Agent}
use Rattle.golog_tree.specs.Ground.{Ground, ground_actions}
use Rattle.golog_semantics.specs.declared.journal.Entry.{Entry}
use Rattle.golog_semantics.specs.declared.journal.Entry.TheVariants.{Do, Test, Exo, Sense, Rest, Close, End}
use Rattle.golog_semantics.specs.Journal.{Journal, commands}
use Rattle.golog_semantics.specs.Text.{at_each}
use Rattle.golog_semantics.specs.Online.{is_result}
use Rattle.golog_semantics.specs.Reports.{fits_entry, is_own, is_exogenous, is_device, is_value}
use Rattle.golog_semantics.proofs.Words.{and-left, and-right}
use Rattle.golog_progress.specs.Entries.{EntryFits, EntriesFit}
use Rattle.golog_ask.specs.Laws.{EntriesOfReportsFit}

-- what is got from a list stands in it
within : {A : Type 0} (xs : List A) (i : ℕ) (x : A) → slice_get xs i ≡ Some x → i < length xs
within [] i x e = absurd cc
within (y ∷ xs) zero x e = omega arith
within (y ∷ xs) (suc i) x e = let k = within xs i x e in omega (arith, k)

module _ (agent : Agent) where
  found : (action : ℕ) (at : Option Ground) → slice_get (ground_actions agent) action ≡ at → (at ≡ None → ⊥) → action < length (ground_actions agent)
  found action None e some = absurd (some refl)
  found action (Some at) e some = within (ground_actions agent) action at e

  own : (action : ℕ) → is_own agent action ≡ true → action < length (ground_actions agent)
  own action h = found action (slice_get (ground_actions agent) action) refl (λ e. absurd cc)

  exogenous : (action : ℕ) → is_exogenous agent action ≡ true → action < length (ground_actions agent)
  exogenous action h = found action (slice_get (ground_actions agent) action) refl (λ e. absurd cc)

  abbrev Fit : Journal → Journal → Type 0
  Fit before entries = list_all (λ fits. fits) (at_each (fits_entry agent) before entries) ≡ true

  fit-from : (before entries : Journal) → Fit before entries → EntriesFit agent entries
  fit-from before [] h = tt
  fit-from before (e ∷ entries) h =
      let rest = list_all (λ fits. fits) (at_each (fits_entry agent) (before ++ e ∷ []) entries) in
      let one = and-left (fits_entry agent before e) rest h in
      let others = fit-from (before ++ e ∷ []) entries (and-right (fits_entry agent before e) rest h) in
      (entry-fits before e one, others)
    where
      entry-fits : (before : Journal) (e : Entry) → fits_entry agent before e ≡ true → EntryFits agent e
      entry-fits before (Do action) h = own action h
      entry-fits before Test h = tt
      entry-fits before (Exo d action) h = exogenous action (and-right (is_device agent d) (is_exogenous agent action) h)
      entry-fits before (Sense d place fluent value) h =
          let both = and-left (is_device agent d && is_value agent fluent value) (list_any (is_result agent before place fluent) (commands agent d before)) h in
          and-right (is_device agent d) (is_value agent fluent value) both
      entry-fits before (Rest d taken) h = tt
      entry-fits before (Close d reason taken) h = tt
      entry-fits before (End answer) h = tt

pub reported : EntriesOfReportsFit
reported agent report fits = fit-from agent [] report.entries fits.entries
