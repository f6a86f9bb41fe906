-- What comes of an agent that is planned for.
use Rattle.std.proofs.Common.{◌≡◌, ℕ, ◌≤◌, Bool, true, false, true≢false, not, List, Option, Some, None, Result, Ok, Err, IfOk, refl, sym, ap, ◌∙◌, subst}
use Rattle.std.specs.Prelude.{All, Contains, IfErr}
use Rattle.golog_base.specs.declared.mem_files.HeldFile.{HeldFile}
use Rattle.golog_tree.specs.declared.agent.Agent.{Agent}
use Rattle.golog_semantics.specs.BlockFree.{has_block}
use Rattle.golog_semantics.specs.declared.journal.Answer.{Answer}
use Rattle.golog_semantics.specs.declared.journal.Entry.TheVariants.{End}
use Rattle.golog_semantics.specs.Execution.{status_of as answer_status}
use Rattle.golog_semantics.specs.Journal.{Journal}
use Rattle.golog_semantics.specs.Restart.{started}
use Rattle.golog_semantics.specs.Text.{Text}
use Rattle.golog_semantics.specs.WellFormed.{WellFormed}
use Rattle.golog_branch.specs.PlansInWorlds.{PlanJournalsAreSo}
use Rattle.golog_plan.specs.PlanTexts.{plan_text}
use Rattle.golog_device.specs.Slots.{Standing}
use Rattle.golog_script.specs.declared.scripts.Script.{Script}
use Rattle.golog_script.specs.ScriptTexts.{HasTexts}
use Rattle.golog_file.specs.Spelled.{IsFirstRefusal}
use Rattle.golog_words.specs.Commands.{plan}
use Rattle.golog_commands.specs.declared.outcome.Input.TheVariants.{Agent as AgentFile}
use Rattle.golog_commands.specs.declared.outcome.Outcome.{Outcome}
use Rattle.golog_commands.specs.declared.outcome.Outcome.TheVariants.{Refused}
use Rattle.golog_commands.specs.declared.ready.Ready.{Ready}
use Rattle.golog_commands.specs.declared.ready.Unready.{Unready}
use Rattle.golog_commands.specs.Inputs.{Reads, ReadsAgent, ReadsScripts, Tells, IsUnread, refusal_text, scripts_for}
use Rattle.golog_commands.specs.Outcome.{holds, BeginsFrom, Comes, HoldsPlanned, IfEnded, Never, OfAgent, OfFrom, OfPlannable, OfScripts, PlannableBy, PlannedRunOf}
use Rattle.golog_commands.specs.Plans.{IsPlannedOf, IsPlannedRunOf}
use Rattle.golog_commands.proofs.OutcomeLemmas.{comes-so, ended-so, scripts-hold, scripts-since, scripts-so}

-- ---- an agent that reaches a search block, or none

-- what follows of one that reaches none
pub plannable-so : (b : Bool) (P Q : Outcome → Type 0) (outcome : Outcome) → (P outcome → Q outcome) → PlannableBy b P outcome → PlannableBy b Q outcome
plannable-so false P Q outcome so t = so t
plannable-so true P Q outcome so t = t

-- one that reaches none
pub plannable : (b : Bool) (P : Outcome → Type 0) (outcome : Outcome) → b ≡ false → P outcome → PlannableBy b P outcome
plannable false P outcome free next = next
plannable true P outcome free next = absurd (true≢false free)

-- one that does is refused
pub refused-for : (b : Bool) (P : Outcome → Type 0) (fault : Unready) → b ≡ true → IfEnded fault (λ o. o ≡ Refused AgentFile (refusal_text AgentFile 39 0))
    → IfEnded fault (PlannableBy b P)
refused-for true P fault blocked said = said
refused-for false P fault blocked said = absurd (true≢false (sym blocked))

-- ---- what is ready

-- a run that begins from no journal has the agent itself
pub same-agent : (held : Option (List HeldFile)) (own : Agent) (r : Result Ready Unready) → IfOk r (BeginsFrom held own None) → IfOk r (λ ready. ready.agent ≡ own)
same-agent held own (Ok ready) begins = begins.is ∙ ap (started own) begins.start_so
same-agent held own (Err fault) begins = tt

-- a journal of no name holds nothing amiss
pub scripts-amiss : (held : Option (List HeldFile)) (first now : ℕ) (agent : Agent) (named : Option Text) (outcome : Outcome)
    → OfScripts held first now agent named (λ l. OfFrom held first now agent None Never) outcome → OfScripts held first now agent named Never outcome
scripts-amiss held first now agent named outcome comes =
    scripts-so held first now agent named (λ l. OfFrom held first now agent None Never) Never outcome (λ listed none. absurd none) comes

pub amiss-so : (held : Option (List HeldFile)) (first now : ℕ) (agent : Agent) (named : Option Text) (r : Result Ready Unready) → has_block agent agent.main ≡ false
    → IfErr r (λ fault. IfEnded fault (OfScripts held first now agent named (λ l. OfFrom held first now agent None Never)))
    → IfErr r (λ fault. IfEnded fault (OfPlannable agent (OfScripts held first now agent named Never)))
amiss-so held first now agent named (Ok ready) free comes = tt
amiss-so held first now agent named (Err fault) free comes =
    ended-so fault (OfScripts held first now agent named (λ l. OfFrom held first now agent None Never)) (OfPlannable agent (OfScripts held first now agent named Never))
    (λ outcome here. plannable (has_block agent agent.main) (OfScripts held first now agent named Never) outcome free (scripts-amiss held first now agent named outcome here)) comes

-- what was read of the files
pub planned-held : (held : Option (List HeldFile)) (name : Text) (named : Option Text) (own : Agent) (r : Result Ready Unready) → WellFormed own → ReadsAgent held name own
    → IfOk r (λ ready. ready.agent ≡ own) → IfOk r (λ ready. has_block own own.main ≡ false) → IfOk r (λ ready. All HasTexts ready.scripts)
    → IfOk r (λ ready. ReadsScripts held own named ready.scripts) → IfOk r (HoldsPlanned held name named)
planned-held held name named own (Ok ready) formed reads same free texts scripts = record {
  formed = subst WellFormed (sym same) formed;
  agent_so = subst (ReadsAgent held name) (sym same) reads;
  plannable = subst (λ a. has_block a a.main ≡ false) (sym same) free;
  scripts_so = subst (λ a. ReadsScripts held a named ready.scripts) (sym same) scripts;
  texts = texts;
}
planned-held held name named own (Err fault) formed reads same free texts scripts = tt

module _ (held : Option (List HeldFile)) (first now : ℕ) where
  -- where the agent file spells an agent, and the agent is refused or the file behind it holds nothing
  pub behind-plannable : (later : ℕ) → first ≤ later → (name : Text) (agent : Agent) → ReadsAgent held name agent → (named : Option Text) (outcome : Outcome)
      → OfPlannable agent (OfScripts held later now agent named Never) outcome
      → OfAgent held first now name (λ a. OfPlannable a (OfScripts held first now a named Never)) outcome
  behind-plannable later grows name agent reads named outcome comes =
      holds agent reads
      (plannable-so (has_block agent agent.main) (OfScripts held later now agent named Never) (OfScripts held first now agent named Never) outcome
      (scripts-since held first now later grows agent named Never Never outcome (λ listed none. none)) comes)

  -- ---- runs that follow plans

  module _ (olds news : List Standing) (depth fuel : ℕ) (name : Text) (named : Option Text) (inline : Bool) where
    abbrev Plans : Agent → List Script → Outcome → Type 0
    Plans a listed = PlannedRunOf a depth fuel listed inline olds news

    -- what a run of what the files hold comes to
    pub plan-comes : (ready : Ready) (has : HoldsPlanned held name named ready) (outcome : Outcome) → Plans ready.agent ready.scripts outcome
        → Comes held first now olds news (Some (plan depth fuel name named inline)) outcome
    plan-comes ready has outcome ran =
        holds ready.agent has.agent_so
        (plannable (has_block ready.agent ready.agent.main) (OfScripts held first now ready.agent named (Plans ready.agent)) outcome has.plannable
        (scripts-hold held first now ready.agent named ready.scripts (Plans ready.agent) outcome has.scripts_so ran))

    -- what comes of files that hold no run
    pub no-plan-comes : (outcome : Outcome) → OfAgent held first now name (λ a. OfPlannable a (OfScripts held first now a named Never)) outcome
        → Comes held first now olds news (Some (plan depth fuel name named inline)) outcome
    no-plan-comes outcome comes =
        comes-so AgentFile (IsUnread held name first now) (λ text. Reads held name (λ bytes. Tells AgentFile (IsFirstRefusal bytes) text)) (ReadsAgent held name)
        (λ a. OfPlannable a (OfScripts held first now a named Never)) (λ a. OfPlannable a (OfScripts held first now a named (Plans a))) outcome
        (λ a. plannable-so (has_block a a.main) (OfScripts held first now a named Never) (OfScripts held first now a named (Plans a)) outcome
        (scripts-so held first now a named Never (Plans a) outcome (λ listed none. absurd none))) comes

-- what a journal comes to that is written
pub planned-run : PlanJournalsAreSo → (agent : Agent) (depth fuel : ℕ) (listed : List Script) (inline : Bool) (olds news : List Standing) (journal : Journal) (answer : Answer) → WellFormed agent
    → has_block agent agent.main ≡ false → IsPlannedOf agent depth fuel (scripts_for agent listed) inline olds news journal → Contains journal (End answer)
    → IsPlannedRunOf agent depth fuel (scripts_for agent listed) inline olds news (plan_text agent depth fuel journal) (answer_status answer)
planned-run law agent depth fuel listed inline olds news journal answer formed free run ends = record {
  journal = journal;
  is = refl;
  run = run;
  so = law agent formed (ap not free) depth fuel journal run.planned.entries;
  ended = record { answer = answer; stands = ends; shown = refl };
}
