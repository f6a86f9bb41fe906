use Rattle.std.proofs.Common.{false, sym, subst}
use Rattle.std.proofs.lemmas.List.Elements.{All-nil}
use Rattle.golog_ways.specs.Ready.{AreReady, IsReady}
use Rattle.golog_ways.proofs.ready.ready_of.Goals as goal

pub add_prog-requires-clause-closed : goal.add_prog-requires-clause-closed
add_prog-requires-clause-closed c = record { in_block = false; fits = c.requires.programs.main }

pub add_prog-requires-clause-ready : goal.add_prog-requires-clause-ready
add_prog-requires-clause-ready c = subst (AreReady c.args.agent.now) (sym c.new-ready.ensures) (All-nil (IsReady c.args.agent.now))
