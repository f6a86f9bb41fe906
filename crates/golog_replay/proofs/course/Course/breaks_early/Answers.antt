use Rattle.std.proofs.Common.{sym, ◌∙◌}
use Rattle.golog_replay.proofs.Faults.{breaks-after, breaks-place, breaks-poster, breaks-taken}
use Rattle.golog_replay.proofs.course.Course.breaks_early.Goals as goal

pub returns-then-not-keeps_after : goal.returns-then-not-keeps_after
returns-then-not-keeps_after c = breaks-after c.args.agent.now c.args.before.now c.args.entry (sym c.keeps_after.ensures ∙ c.if-not-keeps_after.true)

pub returns-then-not-keeps_poster : goal.returns-then-not-keeps_poster
returns-then-not-keeps_poster c =
    breaks-poster c.args.agent.now c.args.before.now c.args.entry (sym c.keeps_after.ensures ∙ c.if-not-keeps_after.false) (sym c.keeps_poster.ensures ∙ c.if-not-keeps_poster.true)

pub returns-then-not-keeps_place : goal.returns-then-not-keeps_place
returns-then-not-keeps_place c =
    breaks-place c.args.agent.now c.args.before.now c.args.entry (sym c.keeps_after.ensures ∙ c.if-not-keeps_after.false) (sym c.keeps_poster.ensures ∙ c.if-not-keeps_poster.false)
    (sym c.keeps_place.ensures ∙ c.if-not-keeps_place.true)

pub returns-then-not-keeps_taken : goal.returns-then-not-keeps_taken
returns-then-not-keeps_taken c =
    breaks-taken c.args.agent.now c.args.before.now c.args.entry (sym c.keeps_after.ensures ∙ c.if-not-keeps_after.false) (sym c.keeps_poster.ensures ∙ c.if-not-keeps_poster.false)
    (sym c.keeps_place.ensures ∙ c.if-not-keeps_place.false) (sym c.keeps_taken.ensures ∙ c.if-not-keeps_taken.true)

pub returns : goal.returns
returns c = record {
  after = sym c.keeps_after.ensures ∙ c.if-not-keeps_after.false;
  poster = sym c.keeps_poster.ensures ∙ c.if-not-keeps_poster.false;
  place = sym c.keeps_place.ensures ∙ c.if-not-keeps_place.false;
  taken = sym c.keeps_taken.ensures ∙ c.if-not-keeps_taken.false;
}
