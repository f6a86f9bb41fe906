use Rattle.std.proofs.Common.{◌≡◌, ◌≤◌, true, length, refl, sym, ap, ◌∙◌, subst, arith}
use Rattle.golog_semantics.specs.Journal.{longest}
use Rattle.golog_semantics.specs.WellFormed.{WellFormed}
use Rattle.golog_semantics.specs.Online.{is_whole}
use Rattle.golog_journal.specs.Boards.{IsBoardList}
use Rattle.golog_journal.specs.Growing.{program}
use Rattle.golog_device.specs.Slots.{standings}
use Rattle.golog_lead.specs.Rounds.{AreReady, RunsToEnd}
use Rattle.golog_lead.specs.Moments.{moment, RoundMade}
use Rattle.golog_lead.proofs.Minds.{mind-stays, mind-still}
use Rattle.golog_lead.proofs.Ending.{zeros, on-first, rounds-none, rounds-next, progress-few, runs-to-end}
use Rattle.golog_lead.proofs.rounds.run_inline.Goals as goal

pub gather-requires : goal.gather-requires
gather-requires g c = record {
  agent = c.requires.agent ∙ sym c.requires.board;
  held = g.met.B.Board.holds_all c.args.board.now c.requires.alone program (omega arith);
  behind = c.requires.behind;
}

pub loop-taken-init : goal.loop-taken-init
loop-taken-init g c =
    let agent = c.args.agent.now in
    let new = g.B.Board.sight c.gather.new.board in
    let same : new.seen ≡ (g.B.Board.sight c.args.board.now).seen = c.gather.ensures.watches.alone_same c.requires.alone in
    record {
      same_mind = mind-stays (g.L.Lead.mind c.gather.new.self);
      stands = λ stood. stood;
      same_agent = c.gather.ensures.same.same_agent ∙ c.requires.agent;
      same = record { same_agent = refl; same_alone = refl; same_holds = refl };
      lawful = subst (IsBoardList agent) (sym same) c.requires.lawful;
      whole = c.gather.ensures.whole;
      short = subst (λ j. length j ≤ longest) c.gather.ensures.whole c.keeps_rules.ensures.short;
      made = rounds-none agent _ _ _ (on-first agent new.seen 16 (subst (AreReady agent) (sym same) c.requires.ready));
    }

pub is_over-requires : goal.is_over-requires
is_over-requires g c = record {
  well_formed = subst WellFormed (c.gather.ensures.same.same_agent ∙ c.requires.agent) c.keeps_rules.ensures.formed;
  agent = c.loop-taken.invariant.same_agent;
}

pub round-requires : goal.round-requires
round-requires g c =
    let now = c.loop-taken.invariant in
    let leads = c.gather.ensures.watches.leads in
    let boxes = c.requires.boxes in
    let kept = c.loop-taken.auto.devices in
    record {
      well_formed = subst WellFormed (c.gather.ensures.same.same_agent ∙ c.requires.agent) c.keeps_rules.ensures.formed;
      agent = now.same_agent;
      board = (now.same).same_agent ∙ leads.same_agent ∙ c.requires.board;
      alone = (now.same).same_alone ∙ leads.same_alone ∙ c.requires.alone;
      lawful = now.lawful;
      whole = now.whole;
      boxes = omega (arith, boxes, kept);
      on = now.made.on;
      over = ap (is_whole c.args.agent.now) (sym now.whole) ∙ sym c.is_over.ensures ∙ c.loop-taken-test.true;
    }

pub loop-taken-preserved : goal.loop-taken-preserved
loop-taken-preserved g c =
    let now = c.loop-taken.invariant in
    let later = c.round.ensures in
    record {
      same_mind = mind-still (g.L.Lead.mind c.gather.new.self) (g.L.Lead.mind c.loop-taken.lead) (g.L.Lead.mind c.round.new.lead) now.same_mind later.same;
      stands = λ stood. later.stands (now.stands stood);
      same_agent = later.same.same_agent ∙ now.same_agent;
      same = record {
        same_agent = (later.same_board).same_agent ∙ (now.same).same_agent;
        same_alone = (later.same_board).same_alone ∙ (now.same).same_alone;
        same_holds = (later.same_board).same_holds ∙ (now.same).same_holds;
      };
      lawful = later.lawful;
      whole = later.whole;
      short = subst (λ j. length j ≤ longest) later.whole later.short;
      made = rounds-next c.args.agent.now _ _ _ _ _ later.lawful now.made
          (subst (λ b. RoundMade c.args.agent.now (g.L.RoundLead.alone b c.args.agent.now) g.L.RoundLead.short
          (moment (g.B.Board.sight c.loop-taken.board).seen c.loop-taken.taken (standings g.D.Device.fresh g.D.Device.meaning c.loop-taken.devices))
          (moment (g.B.Board.sight c.round.new.board).seen c.round.new.taken (standings g.D.Device.fresh g.D.Device.meaning c.round.new.devices))) (now.same_mind).same_bounds later.made);
    }

pub loop-taken-smaller : goal.loop-taken-smaller
loop-taken-smaller g c =
    let now = c.loop-taken.invariant in
    let mid = moment (g.B.Board.sight c.loop-taken.board).seen c.loop-taken.taken (standings g.D.Device.fresh g.D.Device.meaning c.loop-taken.devices) in
    let few = progress-few c.args.agent.now mid now.lawful now.made.on now.short in
    let goes = c.round.ensures.made.goes in
    omega (arith, few, goes)

pub returns : goal.returns
returns g c =
    let agent = c.args.agent.now in
    let now = c.loop-taken.invariant in
    let mind = g.L.Lead.mind c.loop-taken.lead in
    let leads = c.gather.ensures.watches.leads in
    let before = g.B.Board.sight c.args.board.now in
    let first = g.B.Board.sight c.gather.new.board in
    let last = g.B.Board.sight c.loop-taken.board in
    let same : first.seen ≡ (g.B.Board.sight c.args.board.now).seen = c.gather.ensures.watches.alone_same c.requires.alone in
    let olds = standings g.D.Device.fresh g.D.Device.meaning c.args.devices.now in
    let news = standings g.D.Device.fresh g.D.Device.meaning c.loop-taken.devices in
    let bounds = (g.L.Lead.mind c.gather.new.self).bounds in
    let kept : g.L.RoundLead.keeps bounds agent last.seen =
    subst (λ b. g.L.RoundLead.keeps b agent last.seen) (now.same_mind).same_bounds
    (subst (λ a. g.L.RoundLead.keeps mind.bounds a last.seen) now.same_agent
    (subst (λ j. g.L.RoundLead.keeps mind.bounds mind.agent j) now.whole c.keeps_rules-2.ensures.keeps)) in
    let whole : is_whole agent last.seen ≡ true = ap (is_whole agent) (sym now.whole) ∙ sym c.is_over.ensures ∙ c.loop-taken-test.false in
    record {
      same = mind-still (g.L.Lead.mind c.args.lead.now) (g.L.Lead.mind c.gather.new.self) mind c.gather.ensures.same now.same_mind;
      stands = λ stood. now.stands (c.gather.ensures.stands stood);
      same_board = record {
        same_agent = (now.same).same_agent ∙ leads.same_agent;
        same_alone = (now.same).same_alone ∙ leads.same_alone;
        same_holds = (now.same).same_holds ∙ leads.same_holds;
      };
      lawful = now.lawful;
      whole = now.whole;
      short = now.short;
      ran =
          subst (λ b. RunsToEnd (g.L.RoundLead.keeps b agent) (g.L.RoundLead.alone b agent) g.L.RoundLead.short agent before.seen last.seen olds news)
          c.gather.ensures.same.same_bounds
          (subst (λ j. RunsToEnd (g.L.RoundLead.keeps bounds agent) (g.L.RoundLead.alone bounds agent) g.L.RoundLead.short agent j last.seen olds news) same
          (runs-to-end agent (g.L.RoundLead.keeps bounds agent) _ _ (moment first.seen _ olds) (moment last.seen c.loop-taken.taken news) (zeros 16) now.lawful now.short kept
          whole now.made (λ journal. g.met.L.RoundLead.adds bounds agent journal) (λ journal ended. g.met.L.RoundLead.stays bounds agent journal ended)));
    }
