use Rattle.std.proofs.Common.{◌≡◌, ◌-◌, Some, List, length, sym, subst}
use Rattle.std.specs.Prelude.{slice_get}
use Rattle.golog_watch.specs.declared.watch.Watch.{Watch}
use Rattle.golog_watch.specs.Watched.{IsWatch}
use Rattle.golog_watch.proofs.Keeping.{at-get, last-kept, tells-of}
use Rattle.golog_watch.proofs.watches.Watches.tell.Goals as goal

pub still_left-requires-clause-tells : goal.still_left-requires-clause-tells
still_left-requires-clause-tells c =
    let agent = c.args.agent.now in
    let ws = c.args.self.now.watches.items in
    let watch = c.in-Some.watch.now in
    let found : slice_get ws (length ws - 1) ≡ Some watch =
    subst (λ (l : List Watch). slice_get l (length l - 1) ≡ Some watch) c.deref.ensures.value (sym c.in-Some.ensures.value) in
    tells-of agent watch c.args.body.now c.args.rest.now
    (at-get (IsWatch agent) ws (length ws - 1) watch found c.requires.watches.each) (last-kept c.args.body.now c.args.rest.now ws watch c.requires.last found)
