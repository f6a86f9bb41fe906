-- A theory as far as it is declared before a place of its file.
use Rattle.std.specs.Prelude.{ℕ, nat_lt, take_while}
use Rattle.golog_tree.specs.declared.draft.DraftTheory.{DraftTheory}
use Rattle.golog_tree.specs.declared.draft.DraftDevice.{DraftDevice}
use Rattle.golog_tree.specs.declared.draft.DraftFluent.{DraftFluent}
use Rattle.golog_tree.specs.declared.draft.DraftAction.{DraftAction}
use Rattle.golog_draft.specs.DraftPlaces.{sort_place}

-- The theory with those of its sorts, devices, fluents and actions whose items begin before the place. They come
-- in file order, so they keep their numbers.
unfoldable pub before : ℕ → DraftTheory → DraftTheory
before place theory = record theory {
  sorts = take_while (λ sort. nat_lt (sort_place sort) place) theory.sorts;
  devices = take_while (λ (device : DraftDevice). nat_lt device.at place) theory.devices;
  fluents = take_while (λ (fluent : DraftFluent). nat_lt fluent.at place) theory.fluents;
  actions = take_while (λ (action : DraftAction). nat_lt action.at place) theory.actions;
}
