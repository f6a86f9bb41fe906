use Rattle.std.proofs.Common.{◌≡◌, ℕ, List, IfOk, length, ap, ◌∙◌, subst}
use Rattle.golog_ways.specs.First.{first_way}
use Rattle.golog_ways.proofs.FirstsGiven.{first_left, first_of_all}
use Rattle.golog_ways.proofs.InWorlds.{first_in_worlds}
use Rattle.golog_fronts.proofs.WellFormedFits.{well_formed_fits}
use Rattle.golog_ways.proofs.programs.first.Goals as goal

pub first_without-requires-clause-fit : goal.first_without-requires-clause-fit
first_without-requires-clause-fit c = well_formed_fits c.args.agent.now c.requires.agent

pub first_without-requires-clause-whole : goal.first_without-requires-clause-whole
first_without-requires-clause-whole c = ap length c.values.ensures ∙ c.requires.sorts.whole

pub returns : goal.returns
returns c =
    let agent = c.args.agent.now in
    let p = c.args.prog.now in
    let way = subst (λ (v : List ℕ). IfOk c.first_without.result (λ w. w ≡ first_way agent v p)) c.values.ensures c.first_without.ensures in
    let fit = well_formed_fits agent c.requires.agent in
    record {
      way = way;
      all = first_of_all agent c.args.state.now p fit.guarded c.first_without.result way;
      closed = first_left agent c.args.state.now p fit.procs c.requires.program c.first_without.result way;
      worlds = λ h free.
          first_in_worlds agent c.requires.agent c.args.state.now p h c.first_without.result
          (first_of_all agent c.args.state.now p fit.guarded c.first_without.result way free);
    }
