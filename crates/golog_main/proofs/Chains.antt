-- Each run of a chain replays online.
use Rattle.std.proofs.Common.{◌≡◌, Option, Some, List, [], ◌∷◌, Ok, sym, subst}
use Rattle.golog_tree.specs.declared.agent.Agent.{Agent}
use Rattle.golog_semantics.specs.Online.{IsOnline}
use Rattle.golog_semantics.specs.ReportLaws.{TellsApart}
use Rattle.golog_semantics.specs.Restart.{started, values_left}
use Rattle.golog_semantics.specs.Text.{Text}
use Rattle.golog_semantics.specs.Truth.{Values}
use Rattle.golog_semantics.specs.WellFormed.{WellFormed}
use Rattle.golog_replay.specs.Laws.{OnlineIsAnOnlineRun}
use Rattle.golog_reports.specs.Laws.{WrittenReadsBack}
use Rattle.golog_reports.specs.Reads.{journal_of}
use Rattle.golog_main.specs.Chains.{ChainsReplay, EachReplays, IsChain, IsLink, ReplaysFrom}

module _ (back : WrittenReadsBack) (law : OnlineIsAnOnlineRun) (agent : Agent) (formed : WellFormed agent) (apart : TellsApart agent) where
  replays : (start : Option Values) (text : Text) (link : IsLink agent start text) → ReplaysFrom agent start text
  replays start text link =
      let run = link.run in
      let said : (journal_of agent text).outcome ≡ Ok run.report =
      subst (λ bytes. (journal_of agent bytes).outcome ≡ Ok run.report) (sym run.spelled.text) (back agent formed apart run.report run.spelled.fits) in
      record {
        report = run.report;
        said = said;
        begun = run.begun;
        answer = run.ended.answer;
        online =
            (law agent formed text run.report said run.ended.answer).verdict run.spelled
            (subst (λ s. IsOnline (started agent s) run.report) (sym run.begun) run.online) run.ended.stands;
      }

  each : (start : Option Values) (texts : List Text) → IsChain agent start texts → EachReplays agent start texts
  unfolding replays
  each start [] chain = tt
  each start (text ∷ texts) (link, chain) =
      (replays start text link, each (Some (values_left agent link.run.report)) texts chain)

pub chains-replay : WrittenReadsBack → OnlineIsAnOnlineRun → ChainsReplay
chains-replay back law agent formed apart start texts chain = each back law agent formed apart start texts chain
