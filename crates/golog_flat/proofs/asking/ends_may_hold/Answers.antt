use Rattle.std.proofs.Common.{◌-◌, ◌<◌, length, rules, arith}
use Rattle.golog_flat.proofs.Parts.{all-holds}
use Rattle.golog_flat.proofs.asking.ends_may_hold.Goals as goal

pub returns-then-may_hold : goal.returns-then-may_hold
returns-then-may_hold c = λ h.
    let parts = c.args.parts.now in
    let some : 0 < length parts = search rules in
    let inside : length parts - 1 < length parts = omega arith in
    c.may_hold-then-may_hold.ensures (all-holds c.args.agent.now c.args.values.now c.args.lenient parts (length parts - 1) c.index-parts-parts.result inside c.index-parts-parts.is h)

pub returns-else-may_hold : goal.returns-else-may_hold
returns-else-may_hold c = λ h.
    let parts = c.args.parts.now in
    let some : 0 < length parts = search rules in
    c.may_hold.ensures (all-holds c.args.agent.now c.args.values.now c.args.lenient parts 0 c.index-parts-0.result some c.index-parts-0.is h)
