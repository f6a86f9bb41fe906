use Rattle.std.proofs.Common.{refl}
use Rattle.golog_theory.proofs.Drafts.{draft_kept, fluent_pushed}
use Rattle.golog_theory.proofs.draft.DraftFluentEntry.add_to.Goals as goal

pub returns : goal.returns
returns c =
    let draft = c.args.draft.now in
    let index = fluent_pushed draft.index draft.theory c.add.new.self c.args.self c.len-number.result c.requires.index c.len-number.ensures
    (rw c.name.ensures at c.in_ok-add.ensures) in
    rw c.in_ok-push.ensures.ok (draft_kept draft _ _ c.requires index refl refl)
