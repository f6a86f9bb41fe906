use Rattle.std.proofs.Common.{◌≡◌, ◌<◌, ◌==◌, Some, length, get_or, sym, ap, ◌∙◌, subst}
use Rattle.std.specs.Prelude.{find, option_map}
use Rattle.std.specs.Option.{option_copied}
use Rattle.golog_tree.specs.declared.agent.SenseItem.{SenseItem}
use Rattle.golog_tree.specs.Numbered.{args}
use Rattle.golog_semantics.specs.Values.{fluent_sort}
use Rattle.golog_semantics.specs.Journal.{fluent_sensed}
use Rattle.golog_journal.proofs.Serving.{well_formed_serves}
use Rattle.golog_device.proofs.SensedSorts.{sensed-declared, sensed-sort}
use Rattle.golog_device.proofs.turn.sort_sensed.Goals as goal

pub bounds-as_slice-sense : goal.bounds-as_slice-sense
bounds-as_slice-sense c =
    let found : find (λ (s : SenseItem). s.action == c.action_of-item.result.item) c.args.agent.now.senses ≡ Some c.in-Some.sense.now =
    subst (λ l. find (λ (s : SenseItem). s.action == c.action_of-item.result.item) l ≡ Some c.in-Some.sense.now) c.as_slice.ensures
    (sym c.sense_for.ensures ∙ ap option_copied c.in-Some.is) in
    subst (λ l. c.in-Some.sense.now.fluent < length l) (sym c.as_slice-in-Some.ensures)
    (sensed-declared c.args.agent.now (well_formed_serves c.args.agent.now c.requires.well_formed) c.args.action c.action_of-item.result.item
    (args c.action_of-item.result) c.in-Some.sense.now c.action_of-item.ensures.named found)

pub bounds-as_slice-sense-in-Some : goal.bounds-as_slice-sense-in-Some
bounds-as_slice-sense-in-Some c =
    let found : find (λ (s : SenseItem). s.action == c.action_of-item.result.item) c.args.agent.now.senses ≡ Some c.in-Some.sense.now =
    subst (λ l. find (λ (s : SenseItem). s.action == c.action_of-item.result.item) l ≡ Some c.in-Some.sense.now) c.as_slice.ensures
    (sym c.sense_for.ensures ∙ ap option_copied c.in-Some.is) in
    subst (λ l. c.in-Some.sense.now.fluent < length l) (sym c.as_slice-in-Some.ensures)
    (sensed-declared c.args.agent.now (well_formed_serves c.args.agent.now c.requires.well_formed) c.args.action c.action_of-item.result.item
    (args c.action_of-item.result) c.in-Some.sense.now c.action_of-item.ensures.named found)

pub returns-in-Some : goal.returns-in-Some
returns-in-Some c =
    let found : find (λ (s : SenseItem). s.action == c.action_of-item.result.item) c.args.agent.now.senses ≡ Some c.in-Some.sense.now =
    subst (λ l. find (λ (s : SenseItem). s.action == c.action_of-item.result.item) l ≡ Some c.in-Some.sense.now) c.as_slice.ensures
    (sym c.sense_for.ensures ∙ ap option_copied c.in-Some.is) in
    subst (λ l. Some ((get_or l c.in-Some.sense.now.fluent c.index-as_slice-sense.result).sort) ≡ option_map (fluent_sort c.args.agent.now) (fluent_sensed c.args.agent.now c.args.action))
    (sym c.as_slice-in-Some.ensures)
    (sensed-sort c.args.agent.now (well_formed_serves c.args.agent.now c.requires.well_formed) c.args.action c.action_of-item.result.item
    (args c.action_of-item.result) c.in-Some.sense.now c.action_of-item.ensures.named found c.index-as_slice-sense.result)
