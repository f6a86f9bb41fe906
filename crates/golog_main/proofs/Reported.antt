-- From what has been run to the report of it.
use Rattle.std.proofs.Common.{◌≡◌, Bool, List, length, sym, ◌∙◌, subst}
use Rattle.golog_tree.specs.declared.agent.Agent.{Agent}
use Rattle.golog_semantics.specs.declared.journal.Report.{Report}
use Rattle.golog_semantics.specs.Journal.{Journal}
use Rattle.golog_semantics.specs.Dealt.{Script}
use Rattle.golog_semantics.specs.Text.{Text}
use Rattle.golog_semantics.specs.WellFormed.{WellFormed}
use Rattle.golog_semantics.specs.Inline.{lead}
use Rattle.golog_lead.specs.Short.{IsShort}
use Rattle.golog_journal.specs.Boards.{AgentJournal}
use Rattle.golog_device.specs.Slots.{Standing, HaveBegun}
use Rattle.golog_lead.specs.Rounds.{FollowsRounds}
use Rattle.golog_lead.proofs.RunsFit.{is-report}
use Rattle.golog_commands.specs.Runs.{AreTextsOf, HasBegunWith, IsReportOf}
use Rattle.golog_main.specs.Runs.{RunsOn}
use Rattle.golog_commands.proofs.Begun.{as-many}
use Rattle.golog_main.proofs.Begun.{dealt-with, tell-left, none-stands}

module _ (agent : Agent) where
  -- what has been run is reported, for all scripts of which the devices have begun with texts
  reports-texts : (texts : List Text) (inline : Bool) (before : Journal) (olds mids news : List Standing) (report : Report) → WellFormed agent → length texts ≡ length agent.devices
      → HaveBegun (length texts) agent.devices texts before olds mids → RunsOn agent inline before mids news report → (scripts : List Script) → AreTextsOf texts scripts
      → IsReportOf agent scripts inline olds news report
  reports-texts texts inline before olds mids news report formed one_each begun_texts on scripts are = record {
    journal = on.journal;
    is = on.is;
    fits = is-report agent on.journal formed on.lawful on.short;
    lawful = on.lawful;
    online = on.online;
    dealt = dealt-with agent texts scripts are before olds mids begun one_each on.journal news on.run;
    scripted = λ rounds tell.
        subst (λ j. FollowsRounds (lead agent) IsShort agent scripts j on.journal) (none-stands agent texts scripts are before olds mids begun one_each tell)
        (on.scripted rounds scripts (sym (as-many texts scripts are) ∙ one_each) (tell-left agent texts scripts are before olds mids begun one_each tell));
  }
    where
      begun : HaveBegun (length agent.devices) agent.devices texts before olds mids
      begun = subst (λ n. HaveBegun n agent.devices texts before olds mids) one_each begun_texts

  -- and so for the scripts with which they have begun
  pub reports-run : (scripts : List Script) (inline : Bool) (before : AgentJournal) (olds mids news : List Standing) (report : Report) → WellFormed agent
      → length scripts ≡ length agent.devices → HasBegunWith agent scripts olds mids before → RunsOn agent inline before.entries mids news report
      → IsReportOf agent scripts inline olds news report
  reports-run scripts inline before olds mids news report formed one_each begun_with on =
      reports-texts begun_with.texts inline before.entries olds mids news report formed (as-many begun_with.texts scripts begun_with.are ∙ one_each) begun_with.begun.begun on scripts
      begun_with.are
