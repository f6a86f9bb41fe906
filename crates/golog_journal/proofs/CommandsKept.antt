-- The rest and the awaited results that are kept are those of the journal.
use Rattle.std.proofs.Common.{◌≡◌, ℕ, ◌-◌, ◌<◌, false, ◌==◌, if◌then◌else◌, Option, Some, None, List, length, get_or, refl, sym, ap, ◌∙◌, subst, arith}
use Rattle.std.specs.Prelude.{slice_get}
use Rattle.std.specs.Option.{option_map_or}
use Rattle.std.proofs.lemmas.Bool.{ne_eqb}
use Rattle.golog_tree.specs.declared.agent.Agent.{Agent}
use Rattle.golog_semantics.specs.declared.journal.Entry.{Entry}
use Rattle.golog_semantics.specs.declared.journal.Entry.TheVariants.{Do, Test, Exo, Sense, Rest, Close, End}
use Rattle.golog_semantics.specs.Journal.{Journal, Command, commands, entries_by, last_of, is_rest_after, is_outstanding, poster_of}
use Rattle.golog_semantics.specs.Posts.{awaited_command, awaited_by}
use Rattle.golog_journal.specs.declared.standing.Standing.{Standing}
use Rattle.golog_journal.specs.Commands.{is_resting}
use Rattle.golog_journal.specs.Tallies.{rested_after, IsTally, IsCounted, IsStep}

-- what a tally says of the last entry is what the journal says
pub resting-of : (taken : ℕ) (o : Option Entry) → option_map_or (λ n. n == taken) (rested_after o) false ≡ option_map_or (is_rest_after taken) o false
resting-of taken None = refl
resting-of taken (Some (Rest p n)) = refl
resting-of taken (Some (Do a)) = refl
resting-of taken (Some Test) = refl
resting-of taken (Some (Exo p a)) = refl
resting-of taken (Some (Sense p at f v)) = refl
resting-of taken (Some (Close p r t)) = refl
resting-of taken (Some (End a)) = refl

-- what is counted for a device
pub counted-resting : (agent : Agent) (journal : Journal) (ts : List Standing) → IsCounted agent journal ts → (d : ℕ) (standing : Standing)
    → d < length agent.devices → standing ≡ get_or ts d standing → (taken : ℕ)
    → option_map_or (λ n. n == taken) standing.rested false ≡ is_resting agent journal d taken
counted-resting agent journal ts kept d standing inside at taken =
    let one = kept.tallied.one_each in
    let is = subst (IsTally agent journal d) (sym at) (kept.tallied.each d standing (omega (arith, inside, one))) in
    ap (λ o. option_map_or (λ n. n == taken) o false) is.has_rested ∙ resting-of taken (last_of (entries_by d journal))

module _ (agent : Agent) (journal : Journal) (d taken : ℕ) where
  -- the last command taken is awaited where its result does not stand
  pub awaited-some : (c : Command) → (taken ≡ 0 → ⊥) → slice_get (commands agent d journal) (taken - 1) ≡ Some c
      → awaited_command agent journal d taken ≡ (if is_outstanding agent journal c then Some c else None)
  awaited-some c some here =
      ap (λ b. if b then None else awaited_by agent journal d taken (slice_get (commands agent d journal) (taken - 1))) (ne_eqb taken 0 some)
      ∙ ap (awaited_by agent journal d taken) here

  pub awaited-none : (taken ≡ 0 → ⊥) → slice_get (commands agent d journal) (taken - 1) ≡ None → awaited_command agent journal d taken ≡ None
  awaited-none some past =
      ap (λ b. if b then None else awaited_by agent journal d taken (slice_get (commands agent d journal) (taken - 1))) (ne_eqb taken 0 some)
      ∙ ap (awaited_by agent journal d taken) past

-- an entry of no device that is no action
pub is-step : (agent : Agent) (e : Entry) → poster_of e ≡ None → ((action : ℕ) → e ≡ Do action → ⊥) → IsStep agent e
is-step agent (Do action) own other = absurd (other action refl)
is-step agent Test own other = tt
is-step agent (End answer) own other = tt
is-step agent (Exo p a) own other = absurd (cc)
is-step agent (Sense p at f v) own other = absurd (cc)
is-step agent (Rest p t) own other = absurd (cc)
is-step agent (Close p r t) own other = absurd (cc)
