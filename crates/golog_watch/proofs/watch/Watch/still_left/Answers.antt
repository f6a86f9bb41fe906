use Rattle.std.proofs.Common.{length, sym, ◌∙◌}
use Rattle.std.specs.Prelude.{slice_get}
use Rattle.golog_watch.specs.Watched.{Tells}
use Rattle.golog_watch.proofs.Telling.{at-some}
use Rattle.golog_watch.proofs.watch.Watch.still_left.Goals as goal

pub is_certain-requires-clause-closed : goal.is_certain-requires-clause-closed
is_certain-requires-clause-closed c =
    (at-some (Tells c.args.agent.now c.args.body.now c.args.rest.now) (slice_get c.args.self.now.conds (length c.args.rest.now)) c.in-Some.cond.now c.requires.tells (sym c.in-Some.ensures)).closed

pub is_certain-requires-clause-sorts : goal.is_certain-requires-clause-sorts
is_certain-requires-clause-sorts c = c.requires.searched.sorts

pub returns-in-Some-clause-still : goal.returns-in-Some-clause-still
returns-in-Some-clause-still c =
    c.is_certain.ensures
    ∙ (at-some (Tells c.args.agent.now c.args.body.now c.args.rest.now) (slice_get c.args.self.now.conds (length c.args.rest.now)) c.in-Some.cond.now c.requires.tells (sym c.in-Some.ensures)).tells
    c.args.state.now c.requires.searched.sorts
