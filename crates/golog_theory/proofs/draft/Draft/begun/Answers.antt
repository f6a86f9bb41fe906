use Rattle.golog_theory.proofs.Drafts.{begun}
use Rattle.golog_theory.proofs.draft.Draft.begun.Goals as goal

pub returns : goal.returns
returns c =
    begun (record {
      alloc = c.args.alloc;
      theory = c.args.theory;
      index = c.args.index;
      restricted = c.new.result;
      started = c.new-2.result;
    }) c.requires.same c.requires.index c.new.ensures.empty c.new-2.ensures.empty
