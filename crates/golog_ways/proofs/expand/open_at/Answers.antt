use Rattle.std.proofs.Common.{◌++◌, ◌∷◌, [], ap, sym, ◌∙◌, subst, arith}
use Rattle.std.proofs.lemmas.List.Elements.{All-get_or}
use Rattle.golog_flat.specs.Checks.{IsCheckOf}
use Rattle.golog_ways.specs.declared.expand.NumberedFront.{NumberedFront}
use Rattle.golog_ways.proofs.Opened.{open-no, open-yes}
use Rattle.golog_ways.proofs.expand.open_at.Goals as goal
use Rattle.golog_ways.proofs.expand.open_at.Goals.{then-holds_at+in_ok-push, else-holds_at}

pub holds_at-requires-clause-checked : goal.holds_at-requires-clause-checked
holds_at-requires-clause-checked c =
    let agent = c.args.agent.now in
    let fronts = c.args.asked.now.fronts.now in
    let Is = λ (f : NumberedFront). IsCheckOf agent f.cond f.check in
    subst Is (sym c.front-item.is) (All-get_or Is fronts c.loop-place.place c.front-item.result (omega arith) c.requires.checked)

pub loop-place-preserved : goal.loop-place-preserved
loop-place-preserved c =
    let agent = c.args.agent.now in
    let values = c.args.asked.now.values.now in
    let fronts = c.args.asked.now.fronts.now in
    let place = c.loop-place.place in
    let front = c.front-item.result in
    elim c.if-holds_at.branch [
      | then-holds_at+in_ok-push w ↦
          w.places-is ∙ w.in_ok-push.ensures.ok ∙ ap (λ places. places ++ place ∷ []) c.loop-place.invariant
          ∙ open-yes agent values c.args.mode (λ f. f.cond) fronts place front (omega arith) c.front-item.is
          (sym c.holds_at.ensures ∙ w.if-holds_at.true)
      | else-holds_at w ↦
          w.places-is ∙ c.loop-place.invariant
          ∙ open-no agent values c.args.mode (λ f. f.cond) fronts place front (omega arith) c.front-item.is
          (sym c.holds_at.ensures ∙ w.if-holds_at.false)
    ]
