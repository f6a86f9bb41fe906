-- From the report of a demo to what is said of it.
use Rattle.std.proofs.Common.{◌≡◌, ℕ, true, false, List, Result, Ok, Err, IfOk}
use Rattle.std.specs.Prelude.{Contains}
use Rattle.golog_tree.specs.declared.agent.Agent.{Agent}
use Rattle.golog_semantics.specs.declared.journal.Answer.{Answer}
use Rattle.golog_semantics.specs.declared.journal.Entry.TheVariants.{End}
use Rattle.golog_semantics.specs.declared.journal.Report.{Report}
use Rattle.golog_device.specs.Slots.{Standing}
use Rattle.golog_script.specs.declared.scripts.Script.{Script}
use Rattle.golog_script.specs.DevicesFile.{scripts_of}
use Rattle.golog_file.specs.Spelled.{SpellsAgent}
use Rattle.golog_demo.specs.Demo.{demo_agent, demo_devices}
use Rattle.golog_commands.specs.declared.outcome.Outcome.{Outcome}
use Rattle.golog_commands.specs.declared.outcome.Outcome.TheVariants.{Demonstrated}
use Rattle.golog_commands.specs.Demos.{Demonstrates, SaysDemo, demo_text, is_short}
use Rattle.golog_commands.specs.Inputs.{scripts_for}
use Rattle.golog_commands.specs.Runs.{IsReportOf}
use Rattle.golog_commands.proofs.Reported.{as-rounds}

-- what is said of its journal and its answer
pub says-demo : {E : Type 0} (size : ℕ) (report : Report) (answer : Answer) (r : Result Outcome E) → Contains report.entries (End answer)
    → IfOk r (λ outcome. is_short answer ≡ false) → IfOk r (λ outcome. outcome ≡ Demonstrated (demo_text size report.entries answer)) → IfOk r (SaysDemo size report)
says-demo size report answer (Ok outcome) ends whole is = record { answer = answer; ended = ends; whole = whole; is = is }
says-demo size report answer (Err e) ends whole is = whole

pub shown : {E : Type 0} (size : ℕ) (agent : Agent) (listed : List Script) (olds news : List Standing) (report : Report) (r : Result Outcome E)
    → SpellsAgent (demo_agent size) agent → (scripts_of agent.devices (demo_devices size)).outcome ≡ Ok listed
    → IsReportOf agent (scripts_for agent listed) true olds news report → IfOk r (SaysDemo size report) → IfOk r (Demonstrates size olds news)
shown size agent listed olds news report (Ok outcome) spells reads of says = record {
  agent = agent;
  spelled = spells;
  listed = listed;
  scripts = reads;
  report = report;
  run = of;
  answer = says.answer;
  ended = says.ended;
  whole = says.whole;
  rounds = as-rounds agent (scripts_for agent listed) olds news report says.answer of says.ended says.whole;
  is = says.is;
}
shown size agent listed olds news report (Err e) spells reads of says = says
