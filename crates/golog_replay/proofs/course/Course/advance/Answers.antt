use Rattle.std.proofs.Common.{sym, ap, ◌∙◌}
use Rattle.std.specs.Prelude.{unwrap_or}
use Rattle.golog_semantics.specs.Progress.{after_entry}
use Rattle.golog_semantics.proofs.Pushed.{values_after-push}
use Rattle.golog_text.proofs.Things.{named_fits}
use Rattle.golog_replay.proofs.Steps.{step-settled}
use Rattle.golog_replay.proofs.course.Course.advance.Goals as goal

pub note-requires-clause-standing : goal.note-requires-clause-standing
note-requires-clause-standing c = c.requires.follows.standing

pub note-requires-clause-settled : goal.note-requires-clause-settled
note-requires-clause-settled c = step-settled c.args.agent.now c.args.before.now c.args.entry c.requires.step

pub roll-requires-clause-agent : goal.roll-requires-clause-agent
roll-requires-clause-agent c = c.requires.follows.formed

pub roll-requires-clause-sorts : goal.roll-requires-clause-sorts
roll-requires-clause-sorts c = c.requires.follows.sorts

pub roll-requires-clause-entries : goal.roll-requires-clause-entries
roll-requires-clause-entries c = (named_fits c.args.agent.now c.args.entry c.requires.named, tt)

pub returns : goal.returns
returns c =
    let agent = c.args.agent.now in
    let before = c.args.before.now in
    record {
      formed = c.requires.follows.formed;
      standing = c.note.ensures;
      values_so =
          c.roll.ensures.values ∙ ap (λ vs. after_entry agent vs c.args.entry) c.requires.follows.values_so
          ∙ sym (values_after-push agent before c.args.entry);
      sorts = c.roll.ensures.sorts;
      left_so =
          c.replace.ensures ∙ ap (unwrap_or c.args.left) c.requires.follows.left_so ∙ sym c.requires.left;
    }
