-- Threads may share an agent: each of its fields is one that they may share. The search for this, where the agent is
-- handed to threads, would give up at its limits.
use denote.Param.Send.{IsSync, AllSync, sendable, struct_sync, recorded_sync}
use denote.Struct.Declared.{shape}
use Rattle.std.proofs.Crossing.{crosses}
use Rattle.golog_tree.proofs.cond.Cond.TheLaws.TheKnot as conds
use Rattle.golog_tree.proofs.prog.Prog.TheLaws.TheKnot as progs
use Rattle.golog_tree.specs.contracts.agent.Agent as agent

-- each in its place
fields_sync : AllSync (shape agent.the_type).fields
fields_sync = (
  search (sendable, crosses, progs.crosses_both, conds.crosses_both) depth 40 fits 100000,
  (
    search (sendable, crosses, progs.crosses_both, conds.crosses_both) depth 40 fits 100000,
    (
      search (sendable, crosses, progs.crosses_both, conds.crosses_both) depth 40 fits 100000,
      (
        search (sendable, crosses, progs.crosses_both, conds.crosses_both) depth 40 fits 100000,
        (
          search (sendable, crosses, progs.crosses_both, conds.crosses_both) depth 40 fits 100000,
          (
            search (sendable, crosses, progs.crosses_both, conds.crosses_both) depth 40 fits 100000,
            (
              search (sendable, crosses, progs.crosses_both, conds.crosses_both) depth 40 fits 100000,
              (
                search (sendable, crosses, progs.crosses_both, conds.crosses_both) depth 40 fits 100000,
                (
                  search (sendable, crosses, progs.crosses_both, conds.crosses_both) depth 40 fits 100000,
                  (
                    search (sendable, crosses, progs.crosses_both, conds.crosses_both) depth 40 fits 100000,
                    (
                      search (sendable, crosses, progs.crosses_both, conds.crosses_both) depth 40 fits 100000,
                      tt,
                    ),
                  ),
                ),
              ),
            ),
          ),
        ),
      ),
    ),
  ),
)

pub agent_sync : IsSync agent.the_row
agent_sync = recorded_sync agent.the_field.row _ _ agent.the_type.to_one (struct_sync (shape agent.the_type) fields_sync)
