use Rattle.std.proofs.Common.{◌&&◌, sym, ap, ◌∙◌}
use Rattle.std.specs.Prelude.{nat_le}
use Rattle.std.proofs.lemmas.Bool.{le-leb, lt-leb}
use Rattle.golog_replay.proofs.Tracking.{may-by}
use Rattle.golog_replay.proofs.standing.Standing.may_have_taken.Goals as goal

pub returns-then-taken-tracked : goal.returns-then-taken-tracked
returns-then-taken-tracked c =
    let t = c.tracked-tracked.result in
    ap (λ b. b && nat_le t.told c.args.taken) (sym (le-leb c.args.taken t.commands c.if-taken-tracked.true))
    ∙ sym (may-by c.args.agent.now c.args.before.now c.args.device c.args.taken t c.tracked-tracked.ensures)

pub returns-else-taken-tracked : goal.returns-else-taken-tracked
returns-else-taken-tracked c =
    let t = c.tracked-tracked.result in
    let more = lt-leb c.args.taken t.commands c.if-taken-tracked.false in
    more ∙ ap (λ b. b && nat_le t.told c.args.taken) (sym more)
    ∙ sym (may-by c.args.agent.now c.args.before.now c.args.device c.args.taken t c.tracked-tracked.ensures)
