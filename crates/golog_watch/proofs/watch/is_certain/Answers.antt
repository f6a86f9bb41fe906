use Rattle.std.proofs.Common.{ℕ, List, ap, ◌∙◌}
use Rattle.golog_semantics.specs.declared.Mode.TheVariants.{Must}
use Rattle.golog_semantics.specs.Modes.{holds}
use Rattle.golog_semantics.specs.Truth.{truth_of}
use Rattle.golog_fronts.proofs.Acting.{closed_cond}
use Rattle.golog_watch.proofs.watch.is_certain.Goals as goal

pub value-requires-clause-fits : goal.value-requires-clause-fits
value-requires-clause-fits c = closed_cond c.args.agent.now c.args.cond.now c.new.result c.requires.closed

pub returns : goal.returns
returns c =
    c.holds.ensures
    ∙ ap (holds Must)
    (c.value.ensures.truth ∙ ap (λ (v : List ℕ). truth_of c.args.agent.now v c.args.cond.now c.new.result) c.values.ensures
    ∙ ap (truth_of c.args.agent.now c.args.state.now c.args.cond.now) c.new.ensures)
