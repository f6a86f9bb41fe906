use Rattle.std.proofs.Common.{◌≡◌, ◌⊎◌, ◌++◌, length, refl, sym, ap, ◌∙◌, subst, arith}
use Rattle.std.specs.Prelude.{IsTrue}
use Rattle.golog_semantics.specs.Journal.{is_quiet}
use Rattle.golog_journal.specs.Boards.{IsBoardList}
use Rattle.golog_journal.specs.Growing.{program}
use Rattle.golog_device.specs.Slots.{standings}
use Rattle.golog_lead.specs.Moments.{moment}
use Rattle.golog_lead.specs.Short.{EndsShort}
use Rattle.golog_lead.proofs.Serving.{no-program}
use Rattle.golog_lead.proofs.Rounding.{turn-board, program-made, round-made}
use Rattle.golog_lead.proofs.rounds.round.Goals as goal

pub step-requires : goal.step-requires
step-requires g c =
    let same = c.turns.ensures.same_board in
    let made = c.turns.ensures.made in
    record {
      agent = c.requires.agent ∙ sym c.requires.board ∙ sym same.same_agent;
      held = g.met.B.Board.holds_all c.turns.new.board (same.same_alone ∙ c.requires.alone) program (omega arith);
      behind = record {
        since = made.since;
        front = made.grows ∙ ap (λ j. j ++ made.since) (sym c.requires.whole);
        of_devices = no-program (length c.args.agent.now.devices) made.since made.own;
      };
    }

pub returns : goal.returns
returns g c =
    let agent = c.args.agent.now in
    let same = c.turns.ensures.same_board in
    let mid = g.B.Board.sight c.turns.new.board in
    let new = g.B.Board.sight c.step.new.board in
    let first = g.L.Lead.mind c.args.lead.now in
    let mind = g.L.Lead.mind c.step.new.self in
    let made = g.L.RoundLead.alone first.bounds agent in
    let early = g.L.RoundLead.short in
    let alone = same.same_alone ∙ c.requires.alone in
    let lead : mind.agent ≡ agent = c.step.ensures.same.same_agent ∙ c.requires.agent in
    let whole = c.step.ensures.whole in
    let after = turn-board mid new c.step.ensures.leads in
    let so : (new.seen ≡ made mid.seen) ⊎ EndsShort early mid.seen new.seen =
    subst (λ a. (new.seen ≡ g.L.RoundLead.alone first.bounds a mid.seen) ⊎ EndsShort early mid.seen new.seen) c.requires.agent (c.step.ensures.alone alone) in
    record {
      same = c.step.ensures.same;
      stands = c.step.ensures.stands;
      same_board = record {
        same_agent = after.same_agent ∙ same.same_agent;
        same_alone = after.same_alone ∙ same.same_alone;
        same_holds = after.same_holds ∙ same.same_holds;
      };
      lawful =
          subst (λ a. IsBoardList a new.seen) lead
          (subst (λ j. IsBoardList mind.agent j) whole c.keeps_rules.ensures.lawful);
      whole = whole;
      short = c.keeps_rules.ensures.short;
      made =
          round-made agent made early first.waits
          (λ journal quiet. g.met.L.Lead.goes_on c.args.lead.now journal (subst (λ a. IsTrue (is_quiet a journal)) (sym c.requires.agent) quiet))
          (moment (g.B.Board.sight c.args.board.now).seen c.args.taken.now (standings g.D.Device.fresh g.D.Device.meaning c.args.devices.now))
          (moment mid.seen c.turns.new.taken (standings g.D.Device.fresh g.D.Device.meaning c.turns.new.devices))
          (moment new.seen c.turns.new.taken (standings g.D.Device.fresh g.D.Device.meaning c.turns.new.devices))
          refl refl c.turns.ensures.lawful c.requires.over c.turns.ensures.made
          (program-made made early (λ journal ended. g.met.L.RoundLead.stays first.bounds agent journal ended) first mid new alone c.step.ensures.leads c.step.ensures.turn so) so;
    }
