use Rattle.std.proofs.Common.{◌+◌, List, [], ◌∷◌, ◌++◌, sym, subst, take}
use Rattle.std.proofs.lemmas.List.Elements.{All-push}
use Rattle.golog_semantics.specs.Fronts.{Guarded}
use Rattle.golog_fronts.specs.FrontLists.{guarded, guarded_of}
use Rattle.golog_flat.specs.Checks.{IsCheckOf}
use Rattle.golog_ways.specs.declared.expand.NumberedFront.{NumberedFront}
use Rattle.golog_ways.specs.Open.{AreChecked}
use Rattle.golog_find.specs.Visits.{AreFrontsOf}
use Rattle.golog_find.proofs.Numbering.{goes_on-further}
use Rattle.golog_find.proofs.Visiting.{closed-at, fronts-more, guarded-next}
use Rattle.golog_find.proofs.visits.numbered.Goals as goal

pub numbered_front-requires-clause-closed : goal.numbered_front-requires-clause-closed
numbered_front-requires-clause-closed c =
    closed-at c.args.agent.now c.args.fronts.now c.loop-front.front-index c.front-item.result c.loop-front-test.true c.front-item.is c.requires.closed

pub loop-front-preserved : goal.loop-front-preserved
loop-front-preserved c =
    let agent = c.args.agent.now in
    let fronts = c.args.fronts.now in
    let i = c.loop-front.front-index in
    let front = c.front-item.result in
    let old = c.loop-front.nodes in
    let new = c.numbered_front.new.nodes in
    let inv = c.loop-front.invariant in
    let made = c.in_ok-numbered_front.ensures in
    let one = c.in_ok-numbered_front.field-0 in
    let more = fronts-more old new made.goes_on (guarded (take i fronts)) (guarded_of front) c.loop-front.list one inv.0 made.front in (
      subst (λ (gs : List Guarded). AreFrontsOf new gs c.push.new.self) (sym (guarded-next fronts i front c.loop-front-test.true c.front-item.is))
          (subst (AreFrontsOf new (guarded (take i fronts) ++ guarded_of front ∷ [])) (sym c.in_ok-push.ensures.ok) more),
      goes_on-further c.args.nodes.now old new inv.1 made.goes_on,
      made.once,
      subst (AreChecked agent) (sym c.in_ok-push.ensures.ok) (All-push (λ (f : NumberedFront). IsCheckOf agent f.cond f.check) c.loop-front.list one inv.3 made.checked),
    )
