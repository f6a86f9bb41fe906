use Rattle.std.proofs.Common.{◌≤◌, length, ap, subst}
use Rattle.golog_semantics.specs.Journal.{Journal, longest}
use Rattle.golog_journal.specs.Boards.{IsBoardList}
use Rattle.golog_lead.proofs.Turning.{watches}
use Rattle.golog_branch.specs.PlanJournals.{plan_waits}
use Rattle.golog_plan.specs.Keeping.{PlanCourse}
use Rattle.golog_plan.proofs.scribe.PlanScribeLead.gather.Goals as goal

pub catch_up-requires : goal.catch_up-requires
catch_up-requires g c = record { over = record { of_agent = c.requires.agent; held = c.requires.held; behind = c.requires.behind } }

pub returns : goal.returns
returns g c =
    let t = c.catch_up.ensures in
    let f = c.keeps_rules.ensures.followed in
    record {
      same = record {
        same_agent = ap (λ (v : PlanCourse). v.agent) t.same;
        same_bounds = ap (λ (v : PlanCourse). (v.depth, v.fuel)) t.same;
        same_waits = ap (λ (v : PlanCourse). plan_waits v.agent v.depth v.fuel) t.same;
        same_outlet = t.recorded.same_outlet;
      };
      stands = t.recorded.stands_still;
      whole = t.current.whole;
      watches = watches (g.B.Board.sight c.args.board.now) (g.B.Board.sight c.catch_up.new.board) t.follows;
      lawful = subst (IsBoardList c.catch_up.new.self.core.agent) t.current.whole f.lawful;
      short = subst (λ (j : Journal). length j ≤ longest) t.current.whole c.keeps_rules.ensures.short;
    }
