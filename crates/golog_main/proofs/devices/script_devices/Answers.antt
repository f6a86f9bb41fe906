use Rattle.std.proofs.Common.{arith}
use Rattle.golog_script.specs.Meanings.{is_fresh, meaning_of}
use Rattle.golog_main.proofs.Fresh.{fresh-below}
use Rattle.golog_main.proofs.devices.script_devices.Goals as goal

pub returns-clause-fresh : goal.returns-clause-fresh
returns-clause-fresh c =
    fresh-below is_fresh meaning_of c.loop.devices.items 16 (omega (arith, c.loop.invariant.many)) c.loop.invariant.fresh
