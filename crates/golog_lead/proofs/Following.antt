-- A run follows the rounds with its scripts.
use Rattle.std.proofs.Common.{◌≡◌, ℕ, suc, ◌+◌, ◌-◌, ◌≤◌, ◌<◌, ◌⊎◌, inl, inr, true, List, ◌∷◌, ◌++◌, length, map, sym, ap, ◌∙◌, subst, arith}
use Rattle.std.specs.Prelude.{IsTrue}
use Rattle.std.specs.List.{list_all}
use Rattle.std.proofs.lemmas.List.{length-map}
use Rattle.golog_tree.specs.declared.agent.Agent.{Agent}
use Rattle.golog_semantics.specs.declared.journal.Entry.TheVariants.{End}
use Rattle.golog_semantics.specs.declared.journal.Answer.{Answer}
use Rattle.golog_semantics.specs.Journal.{Journal, has_end, is_close}
use Rattle.golog_semantics.specs.Dealt.{Script}
use Rattle.golog_semantics.specs.Inline.{Stage, round_limit, rounds, turns_from}
use Rattle.golog_semantics.specs.InlineText.{new_scripted}
use Rattle.golog_lead.specs.Rounds.{Adds, FollowsRounds}
use Rattle.golog_lead.proofs.Adding.{more_rounds, rounds_keep, turns_then_add}
use Rattle.golog_lead.proofs.Over.{IsOverAll, over_rests}

module _ (agent : Agent) (made : Journal → Journal) (early : Answer → Type 0) (adds : (journal : Journal) → Adds journal (made journal))
    (stays : (journal : Journal) → has_end journal ≡ true → made journal ≡ journal) where
  -- the same as is said of a run, after so many rounds from a stage
  abbrev FollowsSo : ℕ → Stage → Journal → Type 0
  FollowsSo n begun new =
      let whole = (rounds agent made n begun).journal in
      (new ≡ whole)
      ⊎ ((before later closings : Journal) × (answer : Answer) × early answer × (whole ≡ before ++ later)
      × IsTrue (list_all is_close closings) × (new ≡ before ++ End answer ∷ closings))

  -- what is over after some rounds stays so
  rounds-rest : (k n : ℕ) (begun s : Stage) → rounds agent made k begun ≡ s → k ≤ n → IsOverAll s.journal (length begun.devices) → rounds agent made n begun ≡ s
  rounds-rest k n begun s is within over =
      ap (λ m. rounds agent made m begun) (let m : n ≡ k + (n - k) = omega (arith, within) in m)
      ∙ more_rounds agent made k (n - k) begun ∙ ap (rounds agent made (n - k)) is
      ∙ over_rests agent made stays (n - k) s (subst (IsOverAll s.journal) (sym (rounds_keep agent made k begun) ∙ ap (λ (t : Stage). length t.devices) is) over)

  whole-so : (k n : ℕ) (begun s : Stage) (new : Journal) → rounds agent made k begun ≡ s → k ≤ n → IsOverAll s.journal (length begun.devices) → new ≡ s.journal → FollowsSo n begun new
  whole-so k n begun s new is within over same = inl (same ∙ ap (λ (t : Stage). t.journal) (sym (rounds-rest k n begun s is within over)))

  turns-first : (k n : ℕ) (begun s : Stage) → rounds agent made k begun ≡ s → k < n → Adds (turns_from agent 0 s.journal s.devices).0 (rounds agent made n begun).journal
  turns-first k n begun s is within =
      let more = turns_then_add agent made adds (n - (k + 1)) s in (
        more.0,
        ap (λ (t : Stage). t.journal)
            (ap (λ m. rounds agent made m begun) (let m : n ≡ k + suc (n - (k + 1)) = omega (arith, within) in m)
            ∙ more_rounds agent made k (suc (n - (k + 1))) begun ∙ ap (rounds agent made (suc (n - (k + 1)))) is)
            ∙ more.1,
      )

  starved-so : (k n : ℕ) (begun s : Stage) (new closings : Journal) (answer : Answer) → rounds agent made k begun ≡ s → k < n → list_all is_close closings ≡ true
      → early answer → new ≡ (turns_from agent 0 s.journal s.devices).0 ++ End answer ∷ closings → FollowsSo n begun new
  starved-so k n begun s new closings answer is within closes short same =
      let more = turns-first k n begun s is within in
      inr ((turns_from agent 0 s.journal s.devices).0, more.0, closings, answer, short, more.1, closes, same)

module _ (agent : Agent) (made : Journal → Journal) (early : Answer → Type 0) (adds : (journal : Journal) → Adds journal (made journal))
    (stays : (journal : Journal) → has_end journal ≡ true → made journal ≡ journal) (scripts : List Script) (old new : Journal) where
  -- the stage at which the run begins
  abbrev pub begun : Stage
  begun = record { journal = old; devices = map new_scripted scripts }

  pub follows_whole_at : (k : ℕ) (s : Stage) → rounds agent made k begun ≡ s → k ≤ round_limit → IsOverAll s.journal (length scripts) → new ≡ s.journal → FollowsRounds made early agent scripts old new
  follows_whole_at k s is within over same =
      whole-so agent made early adds stays k round_limit begun s new is within (subst (IsOverAll s.journal) (sym (length-map scripts new_scripted)) over) same

  pub follows_starved_at : (k : ℕ) (s : Stage) → rounds agent made k begun ≡ s → k < round_limit → (closings : Journal) (answer : Answer) → list_all is_close closings ≡ true → early answer
      → new ≡ (turns_from agent 0 s.journal s.devices).0 ++ End answer ∷ closings → FollowsRounds made early agent scripts old new
  follows_starved_at k s is within closings answer closes short same = starved-so agent made early adds stays k round_limit begun s new closings answer is within closes short same
