use Rattle.std.proofs.Common.{◌≡◌, length, ◌∙◌, arith}
use Rattle.golog_watch.specs.Watched.{most_watches}
use Rattle.golog_watch.proofs.Keeping.{room-free, room-full}
use Rattle.golog_watch.proofs.watches.Watches.make_room.Goals as goal

pub returns-then-len-eq-MOST : goal.returns-then-len-eq-MOST
returns-then-len-eq-MOST c =
    let full : length c.args.self.now.watches.items ≡ most_watches = omega (arith, c.args.self.now.watches.ok.0) in
    c.remove.ensures.items ∙ room-full c.args.self.now.watches.items full

pub returns-else-len-eq-MOST : goal.returns-else-len-eq-MOST
returns-else-len-eq-MOST c =
    room-free c.args.self.now.watches.items (λ full. c.if-len-eq-MOST.false (omega (arith, c.args.self.now.watches.ok.0)))
