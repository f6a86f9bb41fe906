use Rattle.std.proofs.Common.{◌≡◌, ℕ, List, IfOk, length, ap, ◌∙◌, subst}
use Rattle.std.proofs.lemmas.List.Elements.{All-nil}
use Rattle.golog_semantics.specs.Search.{final}
use Rattle.golog_ways.specs.Ready.{IsReady}
use Rattle.golog_ways.proofs.InWorlds.{end_in_worlds}
use Rattle.golog_fronts.proofs.WellFormedFits.{well_formed_fits}
use Rattle.golog_ways.proofs.programs.is_final.Goals as goal

pub invariant_of-here-clause-fit : goal.invariant_of-here-clause-fit
invariant_of-here-clause-fit c = well_formed_fits c.args.agent.now c.requires.agent

pub invariant_of-here-clause-whole : goal.invariant_of-here-clause-whole
invariant_of-here-clause-whole c = ap length c.values.ensures ∙ c.requires.sorts.whole

pub invariant_of-here-clause-checked : goal.invariant_of-here-clause-checked
invariant_of-here-clause-checked c = All-nil (IsReady c.args.agent.now)

pub returns : goal.returns
returns c =
    let agent = c.args.agent.now in
    let p = c.args.prog.now in
    let end = subst (λ (v : List ℕ). IfOk c.can_end.result (λ b. b ≡ final agent v c.args.mode p)) c.values.ensures c.can_end.ensures in
    record {
      end = end;
      worlds = λ h. end_in_worlds agent c.requires.agent c.args.state.now p h c.args.mode c.can_end.result end;
    }
