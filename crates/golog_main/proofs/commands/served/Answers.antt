use Rattle.std.proofs.Common.{Some, IfOk, refl}
use Rattle.golog_words.specs.Commands.{check, replay, ask, migrate}
use Rattle.golog_commands.specs.Outcome.{IsReported, outside}
use Rattle.golog_commands.proofs.Reporting.{demo-reported, on-err, outcome-nothing, plain-reported}
use Rattle.golog_main.proofs.Orders.{of-plan-rounds, of-rounds}
use Rattle.golog_main.proofs.commands.served.Goals as goal

pub returns-in-Check-clause-reported : goal.returns-in-Check-clause-reported
returns-in-Check-clause-reported g c =
    let means = outside g.F.Files.held g.F.Files.faults g.K.Sink.taken g.K.Sink.faults g.D.Device.fresh g.D.Device.meaning in
    rw c.in-Check.is
    (plain-reported (means c.args.files.now c.args.out.now c.args.devices.now)
    (means c.checked.new.files c.report_if.new.out c.args.devices.now)
    (Some (check c.in-Check.agent.now)) c.checked.result c.report_if.result refl c.checked.ensures c.report_if.ensures)

pub returns-in-Check-clause-nothing : goal.returns-in-Check-clause-nothing
returns-in-Check-clause-nothing g c = outcome-nothing c.checked.result c.report_if.result _ _ _ _ c.report_if.ensures

pub returns-in-Replay-clause-reported : goal.returns-in-Replay-clause-reported
returns-in-Replay-clause-reported g c =
    let means = outside g.F.Files.held g.F.Files.faults g.K.Sink.taken g.K.Sink.faults g.D.Device.fresh g.D.Device.meaning in
    rw c.in-Replay.is
    (plain-reported (means c.args.files.now c.args.out.now c.args.devices.now)
    (means c.replayed.new.files c.report_if-in-Replay.new.out c.args.devices.now)
    (Some (replay c.in-Replay.agent.now c.in-Replay.journal.now)) c.replayed.result c.report_if-in-Replay.result refl c.replayed.ensures c.report_if-in-Replay.ensures)

pub returns-in-Replay-clause-nothing : goal.returns-in-Replay-clause-nothing
returns-in-Replay-clause-nothing g c = outcome-nothing c.replayed.result c.report_if-in-Replay.result _ _ _ _ c.report_if-in-Replay.ensures

pub returns-in-Ask-clause-reported : goal.returns-in-Ask-clause-reported
returns-in-Ask-clause-reported g c =
    let means = outside g.F.Files.held g.F.Files.faults g.K.Sink.taken g.K.Sink.faults g.D.Device.fresh g.D.Device.meaning in
    rw c.in-Ask.is
    (plain-reported (means c.args.files.now c.args.out.now c.args.devices.now)
    (means c.asked.new.files c.report_if-in-Ask.new.out c.args.devices.now)
    (Some (ask c.in-Ask.agent.now c.in-Ask.journal.now c.in-Ask.condition.now)) c.asked.result c.report_if-in-Ask.result refl c.asked.ensures c.report_if-in-Ask.ensures)

pub returns-in-Ask-clause-nothing : goal.returns-in-Ask-clause-nothing
returns-in-Ask-clause-nothing g c = outcome-nothing c.asked.result c.report_if-in-Ask.result _ _ _ _ c.report_if-in-Ask.ensures

pub returns-in-Migrate-clause-reported : goal.returns-in-Migrate-clause-reported
returns-in-Migrate-clause-reported g c =
    let means = outside g.F.Files.held g.F.Files.faults g.K.Sink.taken g.K.Sink.faults g.D.Device.fresh g.D.Device.meaning in
    rw c.in-Migrate.is
    (plain-reported (means c.args.files.now c.args.out.now c.args.devices.now)
    (means c.migrated.new.files c.report_if-in-Migrate.new.out c.args.devices.now)
    (Some (migrate c.in-Migrate.agent.now c.in-Migrate.journal.now)) c.migrated.result c.report_if-in-Migrate.result refl c.migrated.ensures c.report_if-in-Migrate.ensures)

pub returns-in-Migrate-clause-nothing : goal.returns-in-Migrate-clause-nothing
returns-in-Migrate-clause-nothing g c = outcome-nothing c.migrated.result c.report_if-in-Migrate.result _ _ _ _ c.report_if-in-Migrate.ensures

pub returns-in-Demo-clause-reported : goal.returns-in-Demo-clause-reported
returns-in-Demo-clause-reported g c =
    let means = outside g.F.Files.held g.F.Files.faults g.K.Sink.taken g.K.Sink.faults g.D.Device.fresh g.D.Device.meaning in
    rw c.in-Demo.is
    (demo-reported (means c.args.files.now c.args.out.now c.args.devices.now)
    (means c.args.files.now c.report_if-in-Demo.new.out c.demonstrated.new.devices)
    c.in-Demo.size c.demonstrated.result c.report_if-in-Demo.result c.demonstrated.ensures c.report_if-in-Demo.ensures)

pub returns-in-Demo-clause-nothing : goal.returns-in-Demo-clause-nothing
returns-in-Demo-clause-nothing g c = outcome-nothing c.demonstrated.result c.report_if-in-Demo.result _ _ _ _ c.report_if-in-Demo.ensures

pub returns-in-Run-clause-reported : goal.returns-in-Run-clause-reported
returns-in-Run-clause-reported g c =
    let means = outside g.F.Files.held g.F.Files.faults g.K.Sink.taken g.K.Sink.faults g.D.Device.fresh g.D.Device.meaning in
    let before = means c.args.files.now c.args.out.now c.args.devices.now in
    let after = means c.over_rounds.new.files c.over_rounds.new.out c.over_rounds.new.devices in
    of-rounds (λ spelled. IfOk c.over_rounds.result (λ status. IsReported status spelled before after)) c.args.order _ _ _ _ _ c.in-Run.is c.requires.way
    c.over_rounds.ensures.reported

pub returns-in-Run-clause-left : goal.returns-in-Run-clause-left
returns-in-Run-clause-left g c = rw c.in-Run.is c.over_rounds.ensures.unserved

pub returns-in-Check-clause-left : goal.returns-in-Check-clause-left
returns-in-Check-clause-left g c = rw c.in-Check.is (on-err c.report_if.result _ refl)

pub returns-in-Replay-clause-left : goal.returns-in-Replay-clause-left
returns-in-Replay-clause-left g c = rw c.in-Replay.is (on-err c.report_if-in-Replay.result _ refl)

pub returns-in-Ask-clause-left : goal.returns-in-Ask-clause-left
returns-in-Ask-clause-left g c = rw c.in-Ask.is (on-err c.report_if-in-Ask.result _ refl)

pub returns-in-Migrate-clause-left : goal.returns-in-Migrate-clause-left
returns-in-Migrate-clause-left g c = rw c.in-Migrate.is (on-err c.report_if-in-Migrate.result _ refl)

pub returns-in-Demo-clause-left : goal.returns-in-Demo-clause-left
returns-in-Demo-clause-left g c = rw c.in-Demo.is (on-err c.report_if-in-Demo.result _ tt)

pub returns-in-Plan-clause-reported : goal.returns-in-Plan-clause-reported
returns-in-Plan-clause-reported g c =
    let means = outside g.F.Files.held g.F.Files.faults g.K.Sink.taken g.K.Sink.faults g.D.Device.fresh g.D.Device.meaning in
    let before = means c.args.files.now c.args.out.now c.args.devices.now in
    let after = means c.plan_in_rounds.new.files c.plan_in_rounds.new.out c.plan_in_rounds.new.devices in
    of-plan-rounds c.args.order _ _ _ _ _ c.in-Plan.is (λ spelled. IfOk c.plan_in_rounds.result (λ status. IsReported status spelled before after)) c.requires.way
    c.plan_in_rounds.ensures.reported

pub returns-in-Plan-clause-left : goal.returns-in-Plan-clause-left
returns-in-Plan-clause-left g c = rw c.in-Plan.is c.plan_in_rounds.ensures.unserved
