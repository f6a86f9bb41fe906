-- When a run is over: the program has ended and each device is closed.
use Rattle.std.proofs.Common.{◌≡◌, ℕ, zero, suc, ◌+◌, ◌≤◌, ◌<◌, Bool, true, false, not, ◌⊎◌, inl, inr, if◌then◌else◌, List, [], ◌∷◌, length, refl, ap, ◌∙◌, arith, subst}
use Rattle.std.specs.List.{list_any, range_with_len}
use Rattle.std.proofs.lemmas.Bool.{and_from, and_parts, cases_lt, or_from, or_parts}
use Rattle.golog_tree.specs.declared.agent.Agent.{Agent}
use Rattle.golog_semantics.specs.Journal.{Journal, devices, has_end, is_open}
use Rattle.golog_semantics.specs.Online.{is_whole}
use Rattle.golog_semantics.specs.Inline.{Scripted, Stage, after_lead, round, rounds, turn, turns_from}

-- the program has ended, and no device of the first ones, of so many, is open
pub record IsOverAll (journal : Journal) (count : ℕ) : Type 0 where
  pub ended : has_end journal ≡ true
  pub shut : (device : ℕ) → device < count → is_open device journal ≡ false

module _ (agent : Agent) where
  -- closed devices have no turns
  turns-over : (device : ℕ) (journal : Journal) (ds : List Scripted) → ((d : ℕ) → d < device + length ds → is_open d journal ≡ false) → turns_from agent device journal ds ≡ (journal, ds)
  turns-over device journal [] shut = refl
  turns-over device journal (d ∷ ds) shut =
      ap (λ b. after (if b then turn agent journal device d else (journal, d))) (shut device (omega arith))
      ∙ ap (λ (others : Journal × List Scripted). (others.0, d ∷ others.1)) (turns-over (device + 1) journal ds (λ k l. shut k (omega (arith, l))))
    where
      after : Journal × Scripted → Journal × List Scripted
      after now = ((turns_from agent (device + 1) now.0 ds).0, now.1 ∷ (turns_from agent (device + 1) now.0 ds).1)

  -- where the program's turn adds nothing behind the end
  module _ (made : Journal → Journal) (stays : (journal : Journal) → has_end journal ≡ true → made journal ≡ journal) where
    over_stays : (s : Stage) → IsOverAll s.journal (length s.devices) → round agent made s ≡ s
    over_stays s over =
        ap (after_lead made) (turns-over 0 s.journal s.devices (λ d l. over.shut d (omega (arith, l))))
        ∙ ap (λ j. record { journal = j; devices = s.devices }) (stays s.journal over.ended)

    pub over_rests : (n : ℕ) (s : Stage) → IsOverAll s.journal (length s.devices) → rounds agent made n s ≡ s
    over_rests zero s over = refl
    over_rests (suc n) s over = ap (rounds agent made n) (over_stays s over) ∙ over_rests n s over

  none-open : (journal : Journal) (from n : ℕ) → ((d : ℕ) → d < from + n → is_open d journal ≡ false) → list_any (λ d. is_open d journal) (range_with_len from n) ≡ false
  none-open journal from zero shut = refl
  none-open journal from (suc n) shut = or_from _ _ (shut from (omega arith)) (none-open journal (from + 1) n (λ d l. shut d (omega (arith, l))))

  pub whole_is : (journal : Journal) → IsOverAll journal (length agent.devices) → is_whole agent journal ≡ true
  whole_is journal over =
      and_from (has_end journal) (not (list_any (λ d. is_open d journal) (devices agent))) over.ended
      (ap not (none-open journal 0 (length agent.devices) (λ d l. over.shut d (omega (arith, l)))))

  not-true : (b : Bool) → not b ≡ true → b ≡ false
  not-true true h = absurd (cc)
  not-true false h = refl

  shut-in : (journal : Journal) (from n : ℕ) → list_any (λ d. is_open d journal) (range_with_len from n) ≡ false → (d : ℕ) → from ≤ d → d < from + n → is_open d journal ≡ false
  shut-in journal from zero h d low high = absurd (omega (arith, low, high))
  shut-in journal from (suc n) h d low high =
      go (cases_lt from d)
      (or_parts (is_open from journal) (list_any (λ x. is_open x journal) (range_with_len (from + 1) n)) h)
      (λ later less. shut-in journal (from + 1) n later d (omega (arith, less)) (omega (arith, high)))
    where
      go : (from < d) ⊎ (d ≤ from) → (is_open from journal ≡ false) × (list_any (λ x. is_open x journal) (range_with_len (from + 1) n) ≡ false)
          → (list_any (λ x. is_open x journal) (range_with_len (from + 1) n) ≡ false → from < d → is_open d journal ≡ false) → is_open d journal ≡ false
      go (inl less) parts others = others parts.1 less
      go (inr most) parts others = subst (λ x. is_open x journal ≡ false) (let same : from ≡ d = omega (arith, low, most) in same) parts.0

  pub over_is : (journal : Journal) → is_whole agent journal ≡ true → IsOverAll journal (length agent.devices)
  over_is journal h =
      let parts = and_parts (has_end journal) (not (list_any (λ d. is_open d journal) (devices agent))) h in
      record {
        ended = parts.0;
        shut = λ d l. shut-in journal 0 (length agent.devices) (not-true _ parts.1) d (omega arith) (omega (arith, l));
      }
