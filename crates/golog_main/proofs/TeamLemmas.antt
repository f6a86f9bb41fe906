-- From what two leads come to, to the reports of a team.
use Rattle.std.proofs.Common.{◌≡◌, ◌≤◌, Bool, true, false, not, ◌==◌, length, refl, sym, ap, ◌∙◌, subst}
use Rattle.std.specs.List.{list_any, range_with_len}
use Rattle.std.proofs.lemmas.Bool.{and_parts, and_from, or_from, eqb-true, not_from_false}
use Rattle.golog_tree.specs.declared.agent.Agent.{Agent}
use Rattle.golog_semantics.specs.declared.journal.Report.{Report}
use Rattle.golog_semantics.specs.Journal.{Journal, is_open, longest}
use Rattle.golog_semantics.specs.InlineText.{report_of}
use Rattle.golog_semantics.specs.Online.{is_whole, IsOnline, IsOnlineSoFar}
use Rattle.golog_semantics.specs.Reports.{IsReport}
use Rattle.golog_semantics.specs.WellFormed.{WellFormed}
use Rattle.golog_semantics.proofs.LaterRuns.{whole_is_online}
use Rattle.golog_journal.specs.Boards.{IsBoardList}
use Rattle.golog_journal.specs.Leading.{Mind}
use Rattle.golog_lead.proofs.RunsFit.{is-report}
use Rattle.golog_lead.specs.Waiting.{waits}
use Rattle.golog_team.specs.Linked.{IsLinked}
use Rattle.golog_team.specs.Shapes.{has_shape}
use Rattle.golog_team.specs.Played.{AreInTurn, IsFinished, HavePlayed}
use Rattle.golog_commands.specs.Teams.{AreTeamReports}
use Rattle.golog_commands.proofs.TeamLemmas.{online-so}

-- the one device is closed, and the program has ended
one-whole : (agent : Agent) (list : Journal) → has_shape agent ≡ true → IsFinished list → is_whole agent list ≡ true
one-whole agent list shape finished =
    let one = eqb-true (length agent.devices) 1 (and_parts (length agent.devices == 1) _ shape).0 in
    and_from _ _ finished.0
    (not_from_false _ (subst (λ n. list_any (λ d. is_open d list) (range_with_len 0 n) ≡ false) (sym one) (or_from (is_open 0 list) false finished.1 refl)))

-- a report of such a list
record IsItsReport (agent : Agent) (list : Journal) (report : Report) : Type 0 where
  pub is : report ≡ report_of agent list
  pub fits : IsReport agent report
  pub online : IsOnline agent report

its-report : (agent own : Agent) (list : Journal) (report : Report) → own ≡ agent → WellFormed agent → has_shape agent ≡ true → IsBoardList agent list → length list ≤ longest
    → IsFinished list → report ≡ report_of own list → IsOnlineSoFar own report → IsItsReport agent list report
its-report agent own list report same formed shape lawful short finished is so_far =
    let said : report ≡ report_of agent list = is ∙ ap (λ a. report_of a list) same in
    record {
      is = said;
      fits = subst (IsReport agent) (sym said) (is-report agent list formed lawful short);
      online = subst (IsOnline agent) (sym said)
          ((whole_is_online agent (report_of agent list)).whole (subst (IsOnlineSoFar agent) said (subst (λ a. IsOnlineSoFar a report) same so_far))
          (one-whole agent list shape finished));
    }

module _ (first second : Agent) (inline beside : Bool) (turned : inline ≡ true → beside ≡ false) (one other : Report) (old new their_old their_new : Mind) where
  pub team-reports : WellFormed first × WellFormed second → (has_shape first ≡ true) × (has_shape second ≡ true) → old.agent ≡ first → their_old.agent ≡ second
      → old.waits ≡ waits first → their_old.waits ≡ waits second → HavePlayed first second (not beside) old new their_old their_new
      → (one ≡ report_of new.agent new.list) × IsOnlineSoFar new.agent one → (other ≡ report_of their_new.agent their_new.list) × IsOnlineSoFar their_new.agent other
      → AreTeamReports first second inline one other
  team-reports formed shapes agent_is their_agent_is waits_is their_waits_is p said their_said =
      let r = its-report first new.agent new.list one (p.same.0.same_agent ∙ agent_is) formed.0 shapes.0 p.lawful.0 p.short.0 p.finished.0 said.0 said.1 in
      let s = its-report second their_new.agent their_new.list other (p.same.1.same_agent ∙ their_agent_is) formed.1 shapes.1 p.lawful.1 p.short.1 p.finished.1 their_said.0 their_said.1 in
      record {
        journal = new.list;
        their_journal = their_new.list;
        is = (r.is, s.is);
        fits = (r.fits, s.fits);
        online = (r.online, s.online);
        so = (online-so first one formed.0 r.online, online-so second other formed.1 s.online);
        notes = p.notes;
        linked = subst (λ w. IsLinked first second 0 w p.notes new.list) waits_is p.linked;
        their_linked = subst (λ w. IsLinked second first 1 w p.notes their_new.list) their_waits_is p.their_linked;
        in_turn = λ h.
            subst (λ w. AreInTurn first second w (waits second) p.notes new.list their_new.list) waits_is
            (subst (λ w. AreInTurn first second old.waits w p.notes new.list their_new.list) their_waits_is (p.turns (ap not (turned h))));
      }
