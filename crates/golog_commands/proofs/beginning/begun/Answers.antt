use Rattle.std.proofs.Common.{◌≤◌, ap, refl, arith, length, ◌∙◌}
use Rattle.golog_semantics.specs.Journal.{device_limit}
use Rattle.golog_journal.specs.Boards.{AgentJournal}
use Rattle.golog_device.specs.Slots.{standings}
use Rattle.golog_commands.proofs.Begun.{begun-unserved, first-fresh, is-behind, none-served}
use Rattle.golog_commands.proofs.Reporting.{on-err}
use Rattle.golog_commands.proofs.beginning.begun.Goals as goal

pub begin_all-requires : goal.begin_all-requires
begin_all-requires g c =
    let few : length c.args.texts.now ≤ device_limit = let e = c.requires.one_each in let f = c.requires.formed.small.devices in omega (arith, e, f) in
    record {
      well_formed = c.requires.formed;
      agent = ap (λ (j : AgentJournal). j.agent) c.in_ok-journal.ensures;
      alone = refl;
      empty = ap (λ (j : AgentJournal). j.entries) c.in_ok-journal.ensures;
      one_each = c.requires.one_each;
      spelled = c.requires.spelled;
      fresh = first-fresh (length c.args.texts.now) (standings g.D.Device.fresh g.D.Device.meaning c.args.devices.now) few c.requires.fresh;
    }

pub returns-in-Ok-clause-begun : goal.returns-in-Ok-clause-begun
returns-in-Ok-clause-begun g c = record {
  same_agent = c.begin_all.ensures.board.same_agent ∙ ap (λ (j : AgentJournal). j.agent) c.in_ok-journal.ensures;
  lawful = c.begin_all.ensures.lawful;
  behind = is-behind _ _ _ _ _ _ c.in-Ok.ensures.begun;
  begun = c.in-Ok.ensures.begun;
  ready = c.in-Ok.ensures.ready;
}

pub returns-in_err-journal-clause-memory : goal.returns-in_err-journal-clause-memory
returns-in_err-journal-clause-memory g c = on-err c.from_residual.result _ (none-served (standings g.D.Device.fresh g.D.Device.meaning c.args.devices.now))

pub returns-in-Err-clause-memory : goal.returns-in-Err-clause-memory
returns-in-Err-clause-memory g c =
    let first = c.in-Err.ensures.memory in
    begun-unserved first.0 c.args.agent.now.devices c.args.texts.now _ _ _ first.2
