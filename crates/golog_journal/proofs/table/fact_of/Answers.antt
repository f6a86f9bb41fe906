use Rattle.std.proofs.Common.{◌==◌, not, false, List, length, sym, ap, ◌∙◌, arith}
use Rattle.std.specs.Prelude.{find, slice_get}
use Rattle.std.specs.Option.{option_map_or}
use Rattle.std.proofs.lemmas.List.{length-map}
use Rattle.golog_tree.specs.declared.agent.ActionItem.{ActionItem}
use Rattle.golog_tree.specs.declared.agent.SenseItem.{SenseItem}
use Rattle.golog_journal.proofs.FactsMade.{device-small, posters-small, is-fact}
use Rattle.golog_journal.proofs.table.fact_of.Goals as goal

pub item_at-item-requires : goal.item_at-item-requires
item_at-item-requires c =
    let declared = c.action_of-ground.ensures.declared in
    let long = length-map c.args.agent.now.actions (λ (item : ActionItem). item.args) in
    let same = ap (λ l. length l) c.as_slice.ensures in
    omega (arith, declared, long, same)

pub device_in-device-requires : goal.device_in-device-requires
device_in-device-requires c =
    device-small c.args.agent.now c.requires.serves c.args.number c.action_of-ground.result c.action_of-ground.ensures c.item_at-item.result.now
    (ap (λ l. slice_get l c.action_of-ground.result.item) (sym c.as_slice.ensures) ∙ c.item_at-item.ensures)

pub posters_in-posters-requires : goal.posters_in-posters-requires
posters_in-posters-requires c =
    posters-small c.args.agent.now c.requires.serves c.args.number c.action_of-ground.result c.action_of-ground.ensures c.item_at-item.result.now
    (ap (λ l. slice_get l c.action_of-ground.result.item) (sym c.as_slice.ensures) ∙ c.item_at-item.ensures)

pub returns : goal.returns
returns c =
    is-fact c.args.agent.now c.requires.serves c.args.number c.action_of-ground.result c.action_of-ground.ensures c.item_at-item.result.now
    (ap (λ l. slice_get l c.action_of-ground.result.item) (sym c.as_slice.ensures) ∙ c.item_at-item.ensures)
    _ c.device_in-device.ensures c.posters_in-posters.ensures c.sensed_in-sensed.ensures.fluent c.values_of-values.ensures
    (c.held_in-held.ensures
    ∙ ap (λ (senses : List SenseItem). option_map_or (λ (s : SenseItem). not s.later) (find (λ s. s.action == c.action_of-ground.result.item) senses) false) c.as_slice-2.ensures)
