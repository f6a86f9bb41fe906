-- What the facts of an agent tell.
use Rattle.std.proofs.Common.{◌≡◌, ℕ, ◌<◌, Some, ap, sym, ◌∙◌}
use Rattle.golog_tree.specs.declared.agent.Agent.{Agent}
use Rattle.golog_tree.specs.Ground.{fluent_args, ground_count}
use Rattle.golog_semantics.specs.Journal.{Journal}
use Rattle.golog_semantics.specs.WellFormed.{WellFormed}
use Rattle.golog_journal.specs.Agents.{ServesDevices}
use Rattle.golog_journal.proofs.Serving.{well_formed_serves}
use Rattle.golog_reports.specs.Reads.{sensed_at}
use Rattle.golog_reports.proofs.Results.{sensed_below}

pub serves : (agent : Agent) → WellFormed agent → ServesDevices agent
serves agent well = well_formed_serves agent well

pub sensed_told : (agent : Agent) → WellFormed agent → (facts : Agent) → facts ≡ agent → (before : Journal) (device place fluent : ℕ)
    → Some fluent ≡ sensed_at facts before device place → fluent < ground_count agent (fluent_args agent)
sensed_told agent well facts same before device place fluent e =
    sensed_below agent well before device place fluent (sym (e ∙ ap (λ a. sensed_at a before device place) same))
