use Rattle.std.proofs.Common.{◌≡◌, refl, sym, ap, ◌∙◌, subst}
use Rattle.golog_team.proofs.Pairs.{pair-across, linked-one, gone-gathered, linked-from}
use Rattle.golog_team.proofs.Turns.{rounds-to}
use Rattle.golog_team.proofs.team.run_team.Goals as goal

pub gather-requires : goal.gather-requires
gather-requires g c = c.go_both.ensures.pair.one_is

pub gather-requires-2 : goal.gather-requires-2
gather-requires-2 g c = c.go_both.ensures.pair.other_is

pub returns-clause-first : goal.returns-clause-first
returns-clause-first g c =
    let e = c.gather.ensures in
    record {
      gone = gone-gathered g.L.Lead.mind g.W.Wire.view g.L.Lead.stands c.args.first.now c.go_both.new.first c.gather.new.self c.go_both.ensures.first
          e.side e.same e.stands e.kept.0 e.kept.1;
      whole = e.whole;
      short = e.short;
    }

pub returns-clause-second : goal.returns-clause-second
returns-clause-second g c =
    let e = c.gather-2.ensures in
    record {
      gone = gone-gathered g.M.Lead.mind g.W.Wire.view g.M.Lead.stands c.args.second.now c.go_both.new.second c.gather-2.new.self c.go_both.ensures.second
          e.side e.same e.stands e.kept.0 e.kept.1;
      whole = e.whole;
      short = e.short;
    }

pub returns-clause-met : goal.returns-clause-met
returns-clause-met g c =
    let v = g.W.Wire.view in
    ap (λ w. (v w).seen) c.gather-2.ensures.kept.1 ∙ c.go_both.ensures.met ∙ sym (ap (λ w. (v w).seen) c.gather.ensures.kept.1)

pub returns-clause-linked : goal.returns-clause-linked
returns-clause-linked g c =
    let m = g.L.Lead.mind in
    let n = g.M.Lead.mind in
    let v = g.W.Wire.view in
    let b = c.go_both.ensures in
    let one = c.go_both.new.first in
    let other = c.go_both.new.second in
    let e = c.gather.ensures in
    let d = c.gather-2.ensures in (
      linked-from m v c.args.first.now one c.gather.new.self b.first.same e.kept.0 e.kept.1
          (linked-one m n v one other b.pair b.first.over b.second.over b.met),
      linked-from n v c.args.second.now other c.gather-2.new.self b.second.same d.kept.0 d.kept.1
          (linked-one n m v other one (pair-across m n v one other b.pair) b.second.over b.first.over (sym b.met)),
    )

pub returns-clause-in_turn : goal.returns-clause-in_turn
returns-clause-in_turn g c one =
    let m = g.L.Lead.mind in
    let n = g.M.Lead.mind in
    rounds-to m n g.W.Wire.view c.args.first.now c.args.second.now c.go_both.new.first c.gather.new.self c.go_both.new.second c.gather-2.new.self
    c.gather.ensures.station c.gather-2.ensures.station (c.go_both.ensures.in_turn one)
