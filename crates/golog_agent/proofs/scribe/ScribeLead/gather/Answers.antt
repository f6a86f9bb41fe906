use Rattle.std.proofs.Common.{◌≤◌, length, refl, ap, subst}
use Rattle.golog_semantics.specs.Journal.{Journal, longest}
use Rattle.golog_journal.specs.Boards.{IsBoardList}
use Rattle.golog_lead.specs.Waiting.{waits}
use Rattle.golog_lead.proofs.Turning.{watches}
use Rattle.golog_agent.proofs.scribe.ScribeLead.gather.Goals as goal

pub catch_up-requires : goal.catch_up-requires
catch_up-requires g c = record { over = record { of_agent = c.requires.agent; held = c.requires.held; behind = c.requires.behind } }

pub returns : goal.returns
returns g c =
    let t = c.catch_up.ensures in
    let u = c.keeps_rules.ensures in
    record {
      same = record { same_agent = t.same; same_bounds = refl; same_waits = ap waits t.same; same_outlet = t.recorded.same_outlet };
      stands = t.recorded.stands_still;
      whole = t.current.whole;
      watches = watches (g.B.Board.sight c.args.board.now) (g.B.Board.sight c.catch_up.new.board) t.follows;
      lawful = subst (IsBoardList c.catch_up.new.self.core.agent) t.current.whole u.under_way.lawful;
      short = subst (λ (j : Journal). length j ≤ longest) t.current.whole u.short;
    }
