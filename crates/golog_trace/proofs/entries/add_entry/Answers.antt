use Rattle.std.proofs.Common.{sym, ap, ◌∙◌, subst}
use Rattle.golog_semantics.specs.InSorts.{AreInSorts}
use Rattle.golog_text.proofs.Things.{named_fits}
use Rattle.golog_trace.proofs.entries.add_entry.Goals as goal

pub roll-requires-clause-entries : goal.roll-requires-clause-entries
roll-requires-clause-entries c = (named_fits c.args.agent.now c.args.here.now.entry c.requires.entry, tt)
