-- A runner goes to a thread where threads may share its agent: each of its parts does, one after another.
use denote.Ref.{NamedLft}
use denote.Param.Send.{IsSend, IsSync, sendable, struct_send, recorded_send}
use denote.Struct.Declared.{shape}
use Rattle.std.proofs.Crossing.{crosses}
use Rattle.golog_tree.proofs.cond.Cond.TheLaws.TheKnot as conds
use Rattle.golog_tree.proofs.prog.Prog.TheLaws.TheKnot as progs
use Rattle.golog_flat.proofs.check.Check.TheLaws.TheKnot as checks
use Rattle.golog_tree.specs.contracts.agent.Agent as agent
use Rattle.golog_tree.specs.contracts.cond.Cond as cond
use Rattle.golog_tree.specs.contracts.prog.Prog as prog
use Rattle.golog_tree.specs.contracts.prog.Way as way
use Rattle.golog_journal.specs.contracts.counts.Counts as counts
use Rattle.golog_progress.specs.contracts.state.State as state
use Rattle.golog_flat.specs.contracts.check.Check as check
use Rattle.golog_ways.specs.contracts.ready.Ready as ready
use Rattle.golog_search.specs.contracts.decision.Decision as decision
use Rattle.golog_lead.specs.contracts.kept.Kept as kept
use Rattle.golog_watch.specs.contracts.watch.Watch as watch
use Rattle.golog_agent.specs.contracts.decider.Decider as decider
use Rattle.golog_agent.specs.contracts.decider.Ahead as ahead
use Rattle.golog_agent.specs.contracts.under_way.Core as core
use Rattle.golog_agent.specs.contracts.runner.Runner as runner

counts_send : IsSend counts.the_row
counts_send = search (sendable, crosses, progs.crosses_both, conds.crosses_both) depth 40 fits 100000

way_send : IsSend way.the_row
way_send = search (sendable, crosses, progs.crosses_both, conds.crosses_both) depth 40 fits 100000

decision_send : IsSend decision.the_row
decision_send = search (sendable, crosses, progs.crosses_both, conds.crosses_both) depth 40 fits 100000

kept_send : IsSend kept.the_row
kept_send = search (sendable, crosses, progs.crosses_both, conds.crosses_both) depth 40 fits 100000

watch_send : IsSend watch.the_row
watch_send =
    recorded_send watch.the_field.row _ _ watch.the_type.to_one
    (struct_send (shape watch.the_type) (
      search (sendable, crosses, progs.crosses_both, conds.crosses_both) depth 40 fits 100000,
      (search (sendable, crosses, way_send) depth 40 fits 100000, (search (sendable, crosses, conds.crosses_both) depth 40 fits 100000, tt)),
    ))

state_field : IsSend state.the_field.row
state_field = search (sendable, crosses) depth 40 fits 100000

prog_field : IsSend prog.the_field.row
prog_field = search (sendable, crosses, progs.crosses_both, conds.crosses_both) depth 40 fits 100000

check_field : IsSend check.the_field.row
check_field = search (sendable, crosses, checks.crosses_both, conds.crosses_both) depth 40 fits 100000

cond_field : IsSend cond.the_field.row
cond_field = search (sendable, crosses, conds.crosses_both) depth 40 fits 100000

ready_send : IsSend ready.the_row
ready_send = recorded_send ready.the_field.row _ _ ready.the_type.to_one (struct_send (shape ready.the_type) (cond_field, (check_field, tt)))

ahead_field : IsSend ahead.the_field.row
ahead_field =
    struct_send (shape ahead.the_type) (
      search (sendable, crosses) depth 40 fits 100000,
      (
        search (sendable, crosses, decision_send) depth 40 fits 100000,
        (
          search (watch_send, sendable, crosses) depth 40 fits 100000,
          (search (sendable, crosses, ready_send) depth 40 fits 100000, tt),
        ),
      ),
    )

module _ (agent_sync : IsSync agent.the_row) where
  decider_send : (κ : NamedLft) → IsSend (decider.the_row κ)
  decider_send κ = search (agent_sync, state_field, prog_field, ahead_field, sendable) depth 40 fits 100000

  core_send : (κ : NamedLft) → IsSend (core.the_row κ)
  core_send κ = search (counts_send, decider_send, sendable, crosses) depth 40 fits 100000

  pub runner_send : (κ : NamedLft) → IsSend (runner.the_row κ)
  runner_send κ = search (core_send, kept_send, sendable) depth 40 fits 100000
