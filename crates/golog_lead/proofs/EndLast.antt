-- Behind the end only closings stand.
use Rattle.std.proofs.Common.{◌≡◌, true, not, ◌||◌, [], ◌∷◌, ◌++◌, refl, sym, ap, ◌∙◌, subst, append_assoc}
use Rattle.std.specs.List.{list_all, list_any}
use Rattle.std.proofs.lemmas.Bool.{and_parts, and_from}
use Rattle.std.proofs.lemmas.List.{append-nil}
use Rattle.std.proofs.lemmas.List.Folds.{list_any-append}
use Rattle.golog_tree.specs.declared.agent.Agent.{Agent}
use Rattle.golog_semantics.specs.Journal.{Journal, has_end, is_close, is_end}
use Rattle.golog_semantics.specs.Text.{at_each}
use Rattle.golog_journal.specs.Boards.{IsBoardList, is_lawful}
use Rattle.golog_journal.proofs.Lawful.{lawful-parts}

-- a journal that has ended has so with more entries
pub end_stands : (journal later : Journal) → has_end journal ≡ true → has_end (journal ++ later) ≡ true
end_stands journal later h = list_any-append is_end journal later ∙ ap (λ b. b || list_any is_end later) h

module _ (agent : Agent) where
  abbrev AreLawful : Journal → Journal → Type 0
  AreLawful before later = list_all (λ b. b) (at_each (is_lawful agent) before later) ≡ true

  behind-lawful : (before journal later : Journal) → AreLawful before (journal ++ later) → AreLawful (before ++ journal) later
  behind-lawful before [] later h = subst (λ b. AreLawful b later) (sym (append-nil before)) h
  behind-lawful before (e ∷ journal) later h =
      let parts = and_parts (is_lawful agent before e) (list_all (λ b. b) (at_each (is_lawful agent) (before ++ e ∷ []) (journal ++ later))) h in
      subst (λ b. AreLawful b later) (append_assoc before (e ∷ []) journal) (behind-lawful (before ++ e ∷ []) journal later parts.1)

  closes-from : (before later : Journal) → has_end before ≡ true → AreLawful before later → list_all is_close later ≡ true
  closes-from before [] ended h = refl
  closes-from before (e ∷ later) ended h =
      let parts = and_parts (is_lawful agent before e) (list_all (λ b. b) (at_each (is_lawful agent) (before ++ e ∷ []) later)) h in
      and_from (is_close e) (list_all is_close later)
      (ap (λ b. not b || is_close e) (sym ended) ∙ (lawful-parts agent before e parts.0).after)
      (closes-from (before ++ e ∷ []) later (end_stands before (e ∷ []) ended) parts.1)

  pub closes_follow : (journal later : Journal) → IsBoardList agent (journal ++ later) → has_end journal ≡ true → list_all is_close later ≡ true
  closes_follow journal later list ended = closes-from journal later ended (behind-lawful [] journal later list.lawful)
