use Rattle.std.proofs.Common.{sym, ap, ◌∙◌}
use Rattle.std.specs.List.{list_any}
use Rattle.golog_replay.specs.declared.tracked.Tracked.{Tracked}
use Rattle.golog_replay.proofs.Tracking.{not-whole, whole-by}
use Rattle.golog_replay.proofs.standing.Standing.whole.Goals as goal

pub returns-then-some_open : goal.returns-then-some_open
returns-then-some_open c =
    not-whole c.args.agent.now c.args.before.now c.args.self.now.devices.items c.requires.tracked
    (ap (list_any (λ (t : Tracked). t.is_open)) (sym c.deref.ensures.value) ∙ sym c.some_open.ensures ∙ c.if-some_open.true)

pub returns : goal.returns
returns c =
    whole-by c.args.agent.now c.args.before.now c.args.self.now.devices.items c.requires.tracked
    (ap (list_any (λ (t : Tracked). t.is_open)) (sym c.deref.ensures.value) ∙ sym c.some_open.ensures ∙ c.if-some_open.false)
    c.args.self.now.ended c.requires.ends
