use Rattle.std.proofs.Common.{refl}
use Rattle.golog_theory.proofs.Drafts.{draft_kept, sort_pushed}
use Rattle.golog_theory.proofs.draft.DraftSortEntry.add_to.Goals as goal

pub returns : goal.returns
returns c =
    let draft = c.args.draft.now in
    let added = c.in_ok-add_sort.ensures in
    let index = sort_pushed draft.index c.add_sort.new.self draft.theory c.args.self c.len-number.result c.requires.index c.len-number.ensures
    added.sorts added.constants added.devices added.fluents added.actions in
    rw c.in_ok-push.ensures.ok (draft_kept draft _ _ c.requires index refl refl)
