use Rattle.std.proofs.Common.{◌≡◌, [], ◌∷◌, ◌++◌}
use Rattle.std.proofs.lemmas.Result.{on_ok_weaker}
use Rattle.golog_search.proofs.ToldRuns.{one-more}
use Rattle.golog_search.proofs.told.ask.Goals as goal

pub returns-clause-told : goal.returns-clause-told
returns-clause-told g c =
    let old = c.args.told.now in
    let one = c.in_ok-one.one in
    on_ok_weaker c.push.result
    (λ (added : c.push.new.self ≡ old ++ one ∷ []).
    one-more c.args.agent.now c.args.state.now old c.push.new.self one c.args.body.now c.args.rest.now c.in_ok-through.through c.requires.told c.in_ok-one.ensures
    c.in_ok-through.ensures.still added)
    c.push.ensures.ok
