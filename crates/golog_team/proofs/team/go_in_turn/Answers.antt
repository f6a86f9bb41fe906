use Rattle.std.proofs.Common.{◌≡◌, refl, sym, ap, ◌∙◌, subst}
use Rattle.golog_team.proofs.Pairs.{same-but, same-then}
use Rattle.golog_team.proofs.Turns.{rounds-begun, rounds-further}
use Rattle.golog_team.proofs.team.go_in_turn.Goals as goal

pub loop-init : goal.loop-init
loop-init g c =
    let m = g.L.Lead.mind in
    let n = g.M.Lead.mind in
    let v = g.W.Wire.view in
    let e = c.meet.ensures in (
      tt,
      tt,
      e.pair,
      e.same,
      same-but m v c.args.first.now c.meet.new.self e.one.0,
      same-but n v c.args.second.now c.meet.new.other e.other.0,
      (λ h. subst (λ x. g.L.Lead.stands x.lead) (sym e.one.0) h),
      (λ h. subst (λ x. g.M.Lead.stands x.lead) (sym e.other.0) h),
      rounds-begun m n v c.args.first.now c.args.second.now c.meet.new.self c.meet.new.other c.requires.one_is c.requires.other_is
          e.one.0 e.other.0 e.one.1 e.other.1 e.same e.all,
    )

pub loop-preserved : goal.loop-preserved
loop-preserved g c =
    let m = g.L.Lead.mind in
    let n = g.M.Lead.mind in
    let v = g.W.Wire.view in
    let i = c.loop.invariant in
    let e = c.round.ensures in (
      tt,
      tt,
      e.pair,
      e.met,
      same-then m v c.args.first.now c.loop.first c.round.new.one i.4 e.same.0,
      same-then n v c.args.second.now c.loop.second c.round.new.other i.5 e.same.1,
      (λ h. e.stands.0 (i.6 h)),
      (λ h. e.stands.1 (i.7 h)),
      rounds-further m n v c.args.first.now c.args.second.now c.loop.first c.round.new.one c.loop.second c.round.new.other i.4 i.5 i.8 e.round,
    )

pub returns-then-are_over-clause-first : goal.returns-then-are_over-clause-first
returns-then-are_over-clause-first g c =
    let i = c.loop.invariant in
    record { is_side = i.2.one_is; same = i.4; stood = i.6; over = (c.are_over.ensures c.if-are_over.true).0 }

pub returns-then-are_over-clause-second : goal.returns-then-are_over-clause-second
returns-then-are_over-clause-second g c =
    let i = c.loop.invariant in
    record { is_side = i.2.other_is; same = i.5; stood = i.7; over = (c.are_over.ensures c.if-are_over.true).1 }

pub returns-then-are_over-clause-rounds : goal.returns-then-are_over-clause-rounds
returns-then-are_over-clause-rounds g c = c.loop.invariant.8
