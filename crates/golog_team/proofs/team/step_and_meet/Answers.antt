use Rattle.std.proofs.Common.{◌≡◌, refl, sym, ap, ◌∙◌, subst}
use Rattle.golog_team.specs.declared.side.Side.{Side}
use Rattle.golog_team.proofs.Pairs.{same-side, same-then, same-but, pair-on}
use Rattle.golog_team.proofs.Turns.{steps-alone, has-turn, hears-all}
use Rattle.golog_team.proofs.team.step_and_meet.Goals as goal

pub meet-requires : goal.meet-requires
meet-requires g c =
    let m = g.L.Lead.mind in
    let n = g.M.Lead.mind in
    let v = g.W.Wire.view in
    pair-on m n v c.args.one.now c.args.other.now c.requires.pair c.step.new.self c.args.other.now c.step.ensures.side c.requires.pair.other_is
    c.step.ensures.same (same-side n v c.args.other.now)

pub step-requires : goal.step-requires
step-requires g c = c.requires.pair.one_is

pub returns-clause-same : goal.returns-clause-same
returns-clause-same g c =
    let m = g.L.Lead.mind in
    let n = g.M.Lead.mind in
    let v = g.W.Wire.view in (
      same-then m v c.args.one.now c.step.new.self c.meet.new.self c.step.ensures.same (same-but m v c.step.new.self c.meet.new.self c.meet.ensures.one.0),
      same-but n v c.args.other.now c.meet.new.other c.meet.ensures.other.0,
    )

pub returns-clause-stands : goal.returns-clause-stands
returns-clause-stands g c = (
  λ h. subst (λ x. g.L.Lead.stands x.lead) (sym c.meet.ensures.one.0) (c.step.ensures.stands h),
  λ h. subst (λ x. g.M.Lead.stands x.lead) (sym c.meet.ensures.other.0) h,
)

pub returns-clause-turn : goal.returns-clause-turn
returns-clause-turn g c =
    let m = g.L.Lead.mind in
    let n = g.M.Lead.mind in
    let v = g.W.Wire.view in
    let e = c.meet.ensures in
    has-turn m n v c.args.one.now c.step.new.self c.meet.new.self c.args.other.now c.meet.new.other c.requires.pair c.requires.met _ c.requires.goes_on
    (steps-alone m n v c.args.one.now c.step.new.self c.meet.new.self c.args.other.now c.meet.new.other c.requires.pair c.requires.met _ c.step.ensures.steps
    e.one.0 e.one.1 e.other.1 e.same e.all)

pub returns-clause-hears : goal.returns-clause-hears
returns-clause-hears g c =
    let e = c.meet.ensures in
    hears-all g.M.Lead.mind g.W.Wire.view c.args.other.now c.meet.new.other c.requires.pair.other_is e.other.0 e.other.1 _ e.same
