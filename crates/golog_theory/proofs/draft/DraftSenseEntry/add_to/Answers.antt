use Rattle.std.proofs.Common.{[], ◌∷◌, ◌++◌, refl}
use Rattle.golog_theory.proofs.Drafts.{draft_kept, index_kept}
use Rattle.golog_theory.proofs.draft.DraftSenseEntry.add_to.Goals as goal

pub returns : goal.returns
returns c =
    let draft = c.args.draft.now in
    let theory = draft.theory in
    let next = record theory { senses = theory.senses ++ c.args.self ∷ [] } in
    let index = index_kept draft.index theory next c.requires.index refl refl refl refl in
    rw c.in_ok-push.ensures.ok (draft_kept draft draft.index next c.requires index refl refl)
