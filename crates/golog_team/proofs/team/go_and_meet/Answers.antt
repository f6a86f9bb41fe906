use denote.Exit.{no}
use mir.Syntax.{named, ty_unit}
use denote.Param.Send.{param_send, arg_send}
use Rattle.golog_team.proofs.Crossing.{side_send}
use Rattle.golog_team.proofs.Pairs.{pair-on, gone-met}
use Rattle.golog_team.proofs.team.go_and_meet.Goals as goal

pub go_beside-requires-clause-first : goal.go_beside-requires-clause-first
go_beside-requires-clause-first g c κs within = c.requires.one_is

pub go_beside-requires-clause-second : goal.go_beside-requires-clause-second
go_beside-requires-clause-second g c κs within = c.requires.other_is

pub meet-requires : goal.meet-requires
meet-requires g c =
    let e = c.go_beside.ensures in
    pair-on g.L.Lead.mind g.M.Lead.mind g.W.Wire.view c.args.first.now c.args.second.now c.requires c.go_beside.new.first c.go_beside.new.second
    e.first.is_side e.second.is_side e.first.same e.second.same

pub returns-clause-first : goal.returns-clause-first
returns-clause-first g c =
    let e = c.meet.ensures in
    gone-met g.L.Lead.mind g.W.Wire.view g.L.Lead.stands c.args.first.now c.go_beside.new.first c.meet.new.self c.go_beside.ensures.first e.one.0 e.one.1 e.pair.one_is

pub returns-clause-second : goal.returns-clause-second
returns-clause-second g c =
    let e = c.meet.ensures in
    gone-met g.M.Lead.mind g.W.Wire.view g.M.Lead.stands c.args.second.now c.go_beside.new.second c.meet.new.other c.go_beside.ensures.second e.other.0 e.other.1 e.pair.other_is

pub go_beside-requires-send-B : goal.go_beside-requires-send-B
go_beside-requires-send-B g c κs within =
    let sent = side_send (record { mir = named 7; lft = κs.1.1.1.1.1.1.1.0 }) _ _ c.type_bounds.send-M c.type_bounds.send-W in
    record {
      owned = λ d vs. sent.owned d vs;
      leaving = λ k d w. (param_send 1 _ (arg_send ty_unit no _ sent)).leaving k d w;
    }
