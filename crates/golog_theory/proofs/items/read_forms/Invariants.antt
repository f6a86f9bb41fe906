use Rattle.std.proofs.Common.{◌≡◌, drop}
use Rattle.golog_theory.specs.Draft.{IsDraft}
use Rattle.golog_theory.specs.Items.{items_read}
use Rattle.golog_theory.proofs.items.read_forms.Given as goal

abbrev pub invariant-loop-item : goal.invariant-loop-item
invariant-loop-item l = record {
  kept : IsDraft l.draft;
  read : (items_read l.draft.theory (drop l.item-index l.items)).outcome ≡ (items_read l.fn.draft.theory l.items).outcome;
}
