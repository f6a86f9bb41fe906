use Rattle.std.proofs.Common.{◌≡◌, ℕ, List, IfOk, length, ap, ◌∙◌, subst}
use Rattle.golog_ways.specs.First.{has_way}
use Rattle.golog_ways.proofs.FirstsGiven.{any_of_all}
use Rattle.golog_ways.proofs.InWorlds.{steps_in_worlds}
use Rattle.golog_fronts.proofs.WellFormedFits.{well_formed_fits}
use Rattle.golog_ways.proofs.programs.any.Goals as goal

pub any_without-requires-clause-fit : goal.any_without-requires-clause-fit
any_without-requires-clause-fit c = well_formed_fits c.args.agent.now c.requires.agent

pub any_without-requires-clause-whole : goal.any_without-requires-clause-whole
any_without-requires-clause-whole c = ap length c.values.ensures ∙ c.requires.sorts.whole

pub returns : goal.returns
returns c =
    let agent = c.args.agent.now in
    let p = c.args.prog.now in
    let way = subst (λ (v : List ℕ). IfOk c.any_without.result (λ b. b ≡ has_way agent v c.args.mode p)) c.values.ensures c.any_without.ensures in
    record {
      way = way;
      all = any_of_all agent c.args.state.now p c.requires.agent.programs.guarded c.args.mode c.any_without.result way;
      worlds = λ h free.
          steps_in_worlds agent c.requires.agent c.args.state.now p h c.args.mode c.any_without.result
          (any_of_all agent c.args.state.now p c.requires.agent.programs.guarded c.args.mode c.any_without.result way free);
    }
