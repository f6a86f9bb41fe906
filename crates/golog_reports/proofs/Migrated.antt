-- A report with its start written out.
use Rattle.std.proofs.Common.{◌≡◌, Option, Some, None, refl, sym, subst}
use Rattle.std.specs.Prelude.{IfSome, unwrap_or}
use Rattle.golog_tree.specs.declared.agent.Agent.{Agent}
use Rattle.golog_semantics.specs.declared.journal.Report.{Report}
use Rattle.golog_semantics.specs.InSorts.{AreInSorts}
use Rattle.golog_semantics.specs.Online.{IsOnline}
use Rattle.golog_semantics.specs.Reports.{IsReport}
use Rattle.golog_semantics.specs.Restart.{journal_text, migrated, started}
use Rattle.golog_semantics.specs.Truth.{Values}
use Rattle.golog_semantics.specs.WellFormed.{WellFormed}
use Rattle.golog_semantics.proofs.WellNamed.{starts_in_sorts}
use Rattle.golog_reports.specs.Laws.{MigratedReadsBack}
use Rattle.golog_reports.proofs.JournalBack.{said-is-read}
use Rattle.golog_reports.proofs.WrittenSaid.{written-says}

module _ (agent : Agent) (well : WellFormed agent) where
  start-fits : (start : Option Values) → IfSome start (AreInSorts agent) → AreInSorts agent (unwrap_or start agent.starts)
  start-fits None sorts = starts_in_sorts agent well
  start-fits (Some values) sorts = sorts

  migrated-fits : (report : Report) → IsReport agent report → IsReport agent (migrated agent report)
  migrated-fits report f = record {
    entries = f.entries;
    runs = f.runs;
    in_order = f.in_order;
    in_bounds = f.in_bounds;
    start = start-fits report.start f.start;
  }

  -- the agent that starts from its own start values is the agent
  same-agent : (start : Option Values) → started agent (Some (unwrap_or start agent.starts)) ≡ started agent start
  same-agent None = refl
  same-agent (Some values) = refl

  migrated-online : (report : Report) (own : Agent) → own ≡ started agent report.start → IsOnline (started agent report.start) report → IsOnline own (migrated agent report)
  migrated-online report own same online = subst (λ a. IsOnline a (migrated agent report)) (sym same) (record { entries = online.entries; whole = online.whole })

pub migrated-reads-back : MigratedReadsBack
migrated-reads-back agent well apart report fits =
    let whole = migrated-fits agent well report fits in record {
      fits = whole;
      read = said-is-read agent well apart (migrated agent report) whole (journal_text agent (migrated agent report)) (written-says agent well (migrated agent report) whole);
      online = λ online. migrated-online agent well report (started agent (migrated agent report).start) (same-agent agent well report.start) online;
    }
