-- Threads may share an agent: each of its fields is one that they may share. The search for this, where the agent is
-- handed to threads, would give up at its limits.
use denote.Ref.{NamedLft}
use denote.RattleType.{RattleType}
use denote.Param.Send.{IsSend, IsSync, AllSend, AllSync, sendable, struct_send, struct_sync, recorded_send, recorded_sync}
use denote.Struct.Declared.{shape}
use Rattle.std.proofs.Crossing.{crosses}
use Rattle.golog_tree.proofs.cond.Cond.TheLaws.TheKnot as conds
use Rattle.golog_tree.proofs.prog.Prog.TheLaws.TheKnot as progs
use Rattle.golog_tree.specs.contracts.agent.Agent as agent
use Rattle.golog_journal.specs.contracts.facts.AgentFacts as facts
use Rattle.golog_journal.specs.contracts.journal.Journal as journal
use Rattle.golog_team.specs.contracts.side.Side as side

-- each in its place
fields_sync : AllSync (shape agent.the_type).fields
fields_sync = (
  search (sendable, crosses, progs.crosses_both, conds.crosses_both) depth 40 fits 100000,
  (
    search (sendable, crosses, progs.crosses_both, conds.crosses_both) depth 40 fits 100000,
    (
      search (sendable, crosses, progs.crosses_both, conds.crosses_both) depth 40 fits 100000,
      (
        search (sendable, crosses, progs.crosses_both, conds.crosses_both) depth 40 fits 100000,
        (
          search (sendable, crosses, progs.crosses_both, conds.crosses_both) depth 40 fits 100000,
          (
            search (sendable, crosses, progs.crosses_both, conds.crosses_both) depth 40 fits 100000,
            (
              search (sendable, crosses, progs.crosses_both, conds.crosses_both) depth 40 fits 100000,
              (
                search (sendable, crosses, progs.crosses_both, conds.crosses_both) depth 40 fits 100000,
                (
                  search (sendable, crosses, progs.crosses_both, conds.crosses_both) depth 40 fits 100000,
                  (
                    search (sendable, crosses, progs.crosses_both, conds.crosses_both) depth 40 fits 100000,
                    (
                      search (sendable, crosses, progs.crosses_both, conds.crosses_both) depth 40 fits 100000,
                      tt,
                    ),
                  ),
                ),
              ),
            ),
          ),
        ),
      ),
    ),
  ),
)

pub agent_sync : IsSync agent.the_row
agent_sync = recorded_sync agent.the_field.row _ _ agent.the_type.to_one (struct_sync (shape agent.the_type) fields_sync)

-- so they may the facts of an agent, and a journal goes to a thread
pub facts_sync : IsSync facts.the_row
facts_sync = search (sendable, crosses, agent_sync, progs.crosses_both, conds.crosses_both) depth 40 fits 100000

pub journal_send : IsSend journal.the_row
journal_send = search (sendable, crosses, agent_sync, progs.crosses_both, conds.crosses_both) depth 40 fits 100000

-- a side goes to a thread, where its lead and what it has of the link do
fields_send : (κ : NamedLft) (L W : RattleType) → IsSend L → IsSend W → AllSend (shape (side.the_type κ L W)).fields
fields_send κ L W lead wire = (
  search sendable,
  (
    search (sendable, agent_sync) depth 20 fits 100000,
    (
      search (sendable, agent_sync) depth 20 fits 100000,
      (
        search (sendable, facts_sync) depth 20 fits 100000,
        (
          search (sendable, journal_send) depth 20 fits 100000,
          (
            search (sendable, lead) depth 20 fits 100000,
            (
              search (sendable, wire) depth 20 fits 100000,
              (search sendable depth 20 fits 100000, (search sendable, (search sendable, tt))),
            ),
          ),
        ),
      ),
    ),
  ),
)

pub side_send : (κ : NamedLft) (L W : RattleType) → IsSend L → IsSend W → IsSend (side.the_row κ L W)
side_send κ L W lead wire =
    recorded_send (side.the_field κ L W).row _ _ (side.the_type κ L W).to_one (struct_send (shape (side.the_type κ L W)) (fields_send κ L W lead wire))
