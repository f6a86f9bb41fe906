use Rattle.std.proofs.Common.{refl}
use Rattle.golog_theory.proofs.Drafts.{index_kept, poss_pushed}
use Rattle.golog_theory.proofs.draft.DraftPossEntry.add_to.Goals as goal

pub returns : goal.returns
returns c =
    rw c.in_ok-push.ensures.ok (record {
      same = refl;
      kept = record {
        index = index_kept c.args.draft.now.index c.args.draft.now.theory _ c.requires.index refl refl refl refl;
        restricted = poss_pushed c.args.draft.now.restricted c.insert.new.self c.args.draft.now.theory.poss c.args.self
            c.requires.restricted c.in_ok-insert.ensures.updates;
        started = c.requires.started;
      };
    })
