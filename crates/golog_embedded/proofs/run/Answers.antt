use Rattle.std.proofs.Common.{◌≡◌, ℕ, ◌<◌, true, [], length, refl, sym, ap, ◌∙◌, subst, arith}
use Rattle.golog_tree.specs.declared.agent.Agent.{Agent}
use Rattle.golog_semantics.specs.declared.journal.Report.{Report}
use Rattle.golog_semantics.specs.InlineText.{report_of}
use Rattle.golog_semantics.specs.Journal.{Journal, is_open}
use Rattle.golog_semantics.specs.Online.{IsOnline}
use Rattle.golog_semantics.specs.Reports.{IsReport}
use Rattle.golog_semantics.proofs.LaterRuns.{whole_is_online}
use Rattle.golog_journal.specs.Boards.{AgentJournal, IsBoardList}
use Rattle.golog_journal.specs.Leading.{IsBehind}
use Rattle.golog_journal.specs.Taken.{IsReady}
use Rattle.golog_device.proofs.Refused.{ready-first}
use Rattle.golog_lead.specs.Courses.{Course}
use Rattle.golog_lead.proofs.RunsFit.{is-report}
use Rattle.golog_embedded.proofs.run.Goals as goal

-- ---- an empty journal

no-entries : (agent : Agent) → IsBoardList agent []
no-entries agent = record { lawful = refl; room = omega arith }

none-behind : (list seen : Journal) → list ≡ [] → seen ≡ [] → IsBehind list seen
none-behind list seen none empty =
    subst (λ (j : Journal). IsBehind j seen) (sym none)
    (subst (IsBehind []) (sym empty) (record { since = []; front = refl; of_devices = refl }))

none-ready : (agent : Agent) (list : Journal) (device : ℕ) → device < length agent.devices → list ≡ [] → is_open device list ≡ true
    → IsReady agent list device 0
none-ready agent list device inside none opened =
    subst (λ (j : Journal). IsReady agent j device 0) (sym none)
    (ready-first agent device [] inside refl (ap (is_open device) (sym none) ∙ opened))

pub run_inline-requires-clause-lawful : goal.run_inline-requires-clause-lawful
run_inline-requires-clause-lawful g c =
    subst (λ (j : AgentJournal). IsBoardList c.args.agent.now j.entries) (sym c.in_ok-journal.ensures) (no-entries c.args.agent.now)

pub run_inline-requires-clause-ready : goal.run_inline-requires-clause-ready
run_inline-requires-clause-ready g c device inside opened =
    none-ready _ _ device inside (ap (λ (j : AgentJournal). j.entries) c.in_ok-journal.ensures) opened

pub run_inline-requires-clause-behind : goal.run_inline-requires-clause-behind
run_inline-requires-clause-behind g c =
    none-behind _ _ (ap (λ (r : Course). r.list) c.in_ok-runner.ensures) (ap (λ (j : AgentJournal). j.entries) c.in_ok-journal.ensures)

-- ---- the report is that of the whole journal

of-journal : (agent of_runner : Agent) (list entries : Journal) (report : Report) → report ≡ report_of of_runner list → of_runner ≡ agent → list ≡ entries
    → report ≡ report_of agent entries
of-journal agent of_runner list entries report is same whole = is ∙ ap (λ a. report_of a list) same ∙ ap (report_of agent) whole

pub returns-clause-fits : goal.returns-clause-fits
returns-clause-fits g c =
    let is = of-journal c.args.agent.now _ _ _ _ c.report.ensures.entries (c.run_inline.ensures.same.same_agent ∙ ap (λ (r : Course). r.agent) c.in_ok-runner.ensures) c.run_inline.ensures.whole in
    subst (IsReport c.args.agent.now) (sym is) (is-report c.args.agent.now _ c.requires.formed c.run_inline.ensures.lawful c.run_inline.ensures.short)

pub returns-clause-online : goal.returns-clause-online
returns-clause-online g c =
    let is = of-journal c.args.agent.now _ _ _ _ c.report.ensures.entries (c.run_inline.ensures.same.same_agent ∙ ap (λ (r : Course). r.agent) c.in_ok-runner.ensures) c.run_inline.ensures.whole in
    subst (IsOnline c.args.agent.now) (sym is)
    ((whole_is_online c.args.agent.now (report_of c.args.agent.now _)).whole c.run_inline.ensures.ran.kept c.run_inline.ensures.ran.whole)

pub returns-clause-begun : goal.returns-clause-begun
returns-clause-begun g c =
    ap (λ (r : Report). r.start)
    (of-journal c.args.agent.now _ _ _ _ c.report.ensures.entries (c.run_inline.ensures.same.same_agent ∙ ap (λ (r : Course). r.agent) c.in_ok-runner.ensures) c.run_inline.ensures.whole)
