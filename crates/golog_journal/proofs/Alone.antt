-- Calls of a board to which no one else adds entries.
use Rattle.std.proofs.Common.{◌≡◌, ◌≤◌, ◌++◌, [], length, refl, sym, ap, ◌∙◌, subst}
use Rattle.std.proofs.lemmas.List.{append-nil}
use Rattle.golog_semantics.specs.Journal.{Journal, longest}
use Rattle.golog_journal.specs.Boards.{IsBoardList}
use Rattle.golog_journal.specs.Growing.{Sight, Called}

pub called : (answers : Journal → Journal → Type 0) (old new : Sight) (added : Journal)
    → new.agent ≡ old.agent → new.alone ≡ old.alone → new.holds ≡ old.holds → new.seen ≡ old.seen ++ added
    → answers old.seen added → IsBoardList new.agent new.seen → length new.seen ≤ longest → Called answers old new
called answers old new added agent alone holds grows answered lawful short = record {
  agent = agent;
  alone = alone;
  holds = holds;
  others = [];
  are_others = record { foreign = refl; none = λ h. refl };
  added = added;
  grows = grows ∙ ap (λ seen. seen ++ added) (sym (append-nil old.seen));
  answered = subst (λ seen. answers seen added) (sym (append-nil old.seen)) answered;
  lawful = lawful;
  short = short;
}
