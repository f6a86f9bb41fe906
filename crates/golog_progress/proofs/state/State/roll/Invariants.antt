use Rattle.std.proofs.Common.{◌≡◌, take}
use Rattle.std.specs.Prelude.{fold}
use Rattle.golog_semantics.specs.Progress.{after_entry}
use Rattle.golog_semantics.specs.InSorts.{AreInSorts}
use Rattle.golog_progress.proofs.state.State.roll.Given as goal

abbrev pub invariant-loop-entry : goal.invariant-loop-entry
invariant-loop-entry l = record {
  values : l.self ≡ fold (after_entry l.agent) l.fn.self (take l.entry-index l.entries);
  sorts : AreInSorts l.agent l.self;
}
