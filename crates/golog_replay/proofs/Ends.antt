-- How a program may end, by what stands.
use Rattle.std.proofs.Common.{◌≡◌, ℕ, Bool, true, false, not, ◌&&◌, ◌||◌, List, [], ◌∷◌, Option, Some, None, refl, sym, ap, ◌∙◌}
use Rattle.golog_base.proofs.Bools.{and-false}
use Rattle.golog_tree.specs.declared.agent.Agent.{Agent}
use Rattle.golog_tree.specs.declared.prog.Prog.{Prog}
use Rattle.golog_semantics.specs.declared.Mode.TheVariants.{Must, May, Near}
use Rattle.golog_semantics.specs.declared.search.Move.{Move}
use Rattle.golog_semantics.specs.declared.journal.Answer.{Answer}
use Rattle.golog_semantics.specs.declared.journal.Answer.TheVariants as answer
use Rattle.golog_semantics.specs.declared.journal.Answer.TheVariants.{Done, Stuck, Unknown, Depth, Fuel, Unanswered, Full, Deep, Memory}
use Rattle.golog_semantics.specs.Ways.{is_empty}
use Rattle.golog_semantics.specs.Search.{final}
use Rattle.golog_semantics.specs.Blocks.{moves}
use Rattle.golog_semantics.specs.Heavy.{heavy}
use Rattle.golog_semantics.specs.Journal.{Journal, is_full, is_quiet, is_settled, lacks_results, may_be_answered}
use Rattle.golog_semantics.specs.Answer.{answer_at, first_that_fits, is_deep, is_unanswered}
use Rattle.golog_semantics.specs.Online.{may_end, same_answer}
use Rattle.golog_semantics.specs.Progress.{left_after, values_after}
use Rattle.golog_search.specs.declared.decision.Decision.{Decision}
use Rattle.golog_search.specs.Decided.{decision}
use Rattle.golog_search.specs.Laws.{answer_of}
use Rattle.golog_search.proofs.Answering.{decided_answered}

module _ (agent : Agent) (journal : Journal) where
  abbrev values : List ℕ
  values = values_after agent journal

  abbrev p : Prog
  p = left_after agent journal

  -- whether the program may end with an answer
  abbrev pub ends_with : Answer → Bool
  ends_with a = may_end agent journal values p a

  abbrev fuel : Bool → Bool → Bool → Bool → Bool
  fuel full unanswered settled weighs = not full && not unanswered && settled && weighs

  abbrev H : Bool
  H = heavy agent values p

  pub fuel-full : is_full journal ≡ true → ends_with answer.Fuel ≡ false
  fuel-full h = ap (λ b. fuel b (is_unanswered agent journal) (is_settled agent journal) H) h

  pub fuel-unanswered : is_unanswered agent journal ≡ true → ends_with answer.Fuel ≡ false
  fuel-unanswered h =
      ap (λ b. fuel (is_full journal) b (is_settled agent journal) H) h
      ∙ ap (λ b. b && is_settled agent journal && H) (and-false (not (is_full journal)))

  pub fuel-awaited : is_settled agent journal ≡ false → ends_with answer.Fuel ≡ false
  fuel-awaited h =
      ap (λ b. fuel (is_full journal) (is_unanswered agent journal) b H) h
      ∙ ap (λ b. b && H) (and-false (not (is_full journal) && not (is_unanswered agent journal)))

  pub fuel-heavy : is_full journal ≡ false → is_unanswered agent journal ≡ false → is_settled agent journal ≡ true → ends_with answer.Fuel ≡ H
  fuel-heavy f u s =
      ap (λ b. fuel b (is_unanswered agent journal) (is_settled agent journal) H) f
      ∙ ap (λ b. fuel false b (is_settled agent journal) H) u
      ∙ ap (λ b. fuel false false b H) s

  abbrev cases : Bool → Bool → Bool → Option Answer
  cases full unanswered settled =
      first_that_fits
      ((full, Some answer.Full)
      ∷ (unanswered, Some answer.Unanswered)
      ∷ (not settled, None)
      ∷ (final agent values Must p && may_be_answered agent journal, None)
      ∷ (final agent values Must p, Some answer.Done)
      ∷ (is_deep (moves agent values Must p), Some answer.Deep)
      ∷ (not (is_empty (moves agent values Must p)), None)
      ∷ (not (is_quiet agent journal), None)
      ∷ (lacks_results agent journal, Some answer.Unanswered)
      ∷ (not (is_empty (moves agent values Near p)) || final agent values Near p, Some answer.Unknown)
      ∷ (not (is_empty (moves agent values May p)), Some answer.Depth)
      ∷ [])
      (Some answer.Stuck)

  pub answer-full : is_full journal ≡ true → answer_at agent journal values p ≡ Some answer.Full
  answer-full h = ap (λ b. cases b (is_unanswered agent journal) (is_settled agent journal)) h

  pub answer-unanswered : is_full journal ≡ false → is_unanswered agent journal ≡ true → answer_at agent journal values p ≡ Some answer.Unanswered
  answer-unanswered f u = ap (λ b. cases b (is_unanswered agent journal) (is_settled agent journal)) f ∙ ap (λ b. cases false b (is_settled agent journal)) u

  pub answer-awaited : is_full journal ≡ false → is_unanswered agent journal ≡ false → is_settled agent journal ≡ false → answer_at agent journal values p ≡ None
  answer-awaited f u s =
      ap (λ b. cases b (is_unanswered agent journal) (is_settled agent journal)) f
      ∙ ap (λ b. cases false b (is_settled agent journal)) u ∙ ap (λ b. cases false false b) s

  -- any other answer is that of the program
  pub other-answer : (a : Answer) → (a ≡ answer.Memory → ⊥) → (a ≡ answer.Fuel → ⊥) → ends_with a ≡ same_answer (answer_at agent journal values p) a
  other-answer Memory not-memory not-fuel = absurd (not-memory refl)
  other-answer Fuel not-memory not-fuel = absurd (not-fuel refl)
  other-answer Done not-memory not-fuel = refl
  other-answer Stuck not-memory not-fuel = refl
  other-answer Unknown not-memory not-fuel = refl
  other-answer Depth not-memory not-fuel = refl
  other-answer Unanswered not-memory not-fuel = refl
  other-answer Full not-memory not-fuel = refl
  other-answer Deep not-memory not-fuel = refl

  -- in the words of what the program does next
  pub answer-decided : is_full journal ≡ false → is_unanswered agent journal ≡ false → is_settled agent journal ≡ true
      → (comes quiet lacks : Bool) (d : Decision) (found : Option Answer) → found ≡ answer_of comes quiet lacks d
      → comes ≡ may_be_answered agent journal → quiet ≡ is_quiet agent journal → lacks ≡ lacks_results agent journal → d ≡ decision agent values p
      → found ≡ answer_at agent journal values p
  answer-decided f u s comes quiet lacks d found is c q l e =
      is ∙ (λ i. answer_of (c i) (q i) (l i) (e i)) ∙ sym (decided_answered agent journal values p f u s)
