use Rattle.std.proofs.Common.{◌≡◌, [], append-nil, refl, sym, ap, ◌∙◌}
use Rattle.golog_semantics.specs.Journal.{has_end}
use Rattle.golog_journal.specs.Boards.{AgentJournal}
use Rattle.golog_team.specs.Sides.{at_read}
use Rattle.golog_team.proofs.ReadOn.{same-station}
use Rattle.golog_team.proofs.Held.{GoesFrom, side-same}
use Rattle.golog_team.proofs.side.Side.gather.Goals as goal

pub gather-requires-clause-agent : goal.gather-requires-clause-agent
gather-requires-clause-agent g c = c.requires.held.of_agent.1 ∙ sym c.requires.held.of_agent.0

pub returns-clause-side : goal.returns-clause-side
returns-clause-side g c =
    let m = g.L.Lead.mind in
    let v = g.W.Wire.view in
    let h = c.requires.held in
    let e = c.gather.ensures in
    side-same m v _ _ c.requires
    (record {
      same = record { same_side = refl; same_agent = refl; same_other = refl; same_mind = e.same };
      facts_same = refl;
      journal_agent = ap (λ (j : AgentJournal). j.agent) e.journal;
      of_side = h.of_side;
      within = h.within;
      told_is = h.told_is;
      behind = record { since = []; front = sym e.whole ∙ sym (append-nil (m c.gather.new.lead).list); of_devices = refl };
      ended_is = h.ended_is ∙ sym (ap (λ (j : AgentJournal). has_end j.entries) e.journal);
    })
    (same-station refl refl (ap (λ (j : AgentJournal). j.entries) e.journal) refl)

pub returns-clause-station : goal.returns-clause-station
returns-clause-station g c = same-station refl refl (ap (λ (j : AgentJournal). j.entries) c.gather.ensures.journal) refl
