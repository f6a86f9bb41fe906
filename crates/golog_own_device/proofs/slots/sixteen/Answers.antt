use Rattle.std.proofs.Common.{arith}
use Rattle.golog_main.proofs.Fresh.{fresh-below}
use Rattle.golog_own_device.proofs.slots.sixteen.Goals as goal

pub returns-clause-fresh : goal.returns-clause-fresh
returns-clause-fresh g c =
    fresh-below g.D.Device.fresh g.D.Device.meaning c.loop.devices.items 16
    (omega (arith, c.loop.invariant.many)) c.loop.invariant.fresh
