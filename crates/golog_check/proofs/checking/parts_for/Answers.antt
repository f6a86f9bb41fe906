use Rattle.std.proofs.Common.{◌<◌, List, length, map, sym, ap, subst, ◌∙◌}
use Rattle.std.specs.Prelude.{All, IfOk}
use Rattle.golog_tree.specs.declared.agent.Agent.{Agent}
use Rattle.golog_tree.specs.declared.agent.SortItem.{SortItem}
use Rattle.golog_tree.specs.declared.agent.ActionItem.{ActionItem}
use Rattle.golog_tree.specs.declared.draft.DraftSense.{DraftSense}
use Rattle.golog_tree.specs.declared.draft.DraftProc.{DraftProc}
use Rattle.golog_tree.specs.declared.draft.DraftSort.{DraftSort}
use Rattle.golog_draft.specs.DraftPlaces.{sort_place}
use Rattle.golog_check.specs.DeclaredItems.{HasFewSorts, Declared, param_sorts}
use Rattle.golog_check.specs.Parts.{AreParts}
use Rattle.golog_check.specs.declared.checking.Parts.{Parts}
use Rattle.golog_check.proofs.Countable.{few-sorts, few-fluents, few-actions, sensed}
use Rattle.golog_check.proofs.PartLaws.{names-are}
use Rattle.golog_check.proofs.checking.parts_for.Goals as goal

pub new-names-requires : goal.new-names-requires
new-names-requires c =
    subst (λ (sorts : List SortItem). HasFewSorts sorts)
    (sym (c.as_slice-sorts.ensures ∙ ap (λ (a : Agent). a.sorts) c.requires.bare))
    (few-sorts c.args.theory.now c.requires.keeps)

pub parts_of-parts-requires-clause-fluents : goal.parts_of-parts-requires-clause-fluents
parts_of-parts-requires-clause-fluents c = few-fluents c.args.theory.now c.requires.keeps

pub parts_of-parts-requires-clause-actions : goal.parts_of-parts-requires-clause-actions
parts_of-parts-requires-clause-actions c = few-actions c.args.theory.now c.requires.keeps

pub parts_of-parts-requires-clause-sensed : goal.parts_of-parts-requires-clause-sensed
parts_of-parts-requires-clause-sensed c =
    subst (λ (actions : List ActionItem). All (λ (item : DraftSense). item.action < length actions) c.args.theory.now.senses)
    (sym (ap (λ (names : Declared). names.actions) c.new-names.ensures ∙ c.as_slice-5.ensures
    ∙ ap (λ (a : Agent). a.actions) c.requires.bare))
    (sensed c.args.theory.now c.requires.keeps)

pub returns : goal.returns
returns c =
    subst (λ (names : Declared). IfOk c.parts_of-parts.result (λ (parts : Parts). AreParts parts names c.args.theory.now c.args.program.now))
    (c.new-names.ensures ∙ names-are c.args.theory.now c.args.program.now c.as_slice-sorts.result.now c.as_slice-3.result.now
    c.as_slice-4.result.now c.as_slice-5.result.now c.as_slice-6.result.now
    (c.as_slice-sorts.ensures ∙ ap (λ (a : Agent). a.sorts) c.requires.bare)
    (c.as_slice-3.ensures ∙ c.in_ok-places.ensures
    ∙ ap (λ (items : List DraftSort). map sort_place items) c.as_slice.ensures)
    (c.as_slice-4.ensures ∙ ap (λ (a : Agent). a.fluents) c.requires.bare)
    (c.as_slice-5.ensures ∙ ap (λ (a : Agent). a.actions) c.requires.bare)
    (c.as_slice-6.ensures ∙ c.in_ok-params.ensures
    ∙ ap (λ (items : List DraftProc). map param_sorts items) c.as_slice-2.ensures))
    c.parts_of-parts.ensures
