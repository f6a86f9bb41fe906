use Rattle.std.proofs.Common.{ℕ, List, sym, ◌∙◌, subst}
use Rattle.golog_turn.specs.Parties.{GoesOn}
use Rattle.golog_turn.specs.Acts.{Applied}
use Rattle.golog_turn.proofs.Acts.{acts_later}
use Rattle.golog_turn.proofs.lock.TurnLock.act.Goals as goal

pub returns-clause-acted : goal.returns-clause-acted
returns-clause-acted g c =
    let object = g.O.Object in
    let before = c.args.seat.now.token.me.0 in
    let middle = c.wait.new.token.me.0.seen in
    let drawn = c.draw-ticket.ensures.same in
    let same_parties = c.wait.ensures.parties ∙ drawn.3 in
    let goes = subst (λ (t : List g.row.O-Entry.Denot × List ℕ). GoesOn object.party middle t.0 t.1) (λ i. (drawn.2 i, drawn.3 i)) c.wait.ensures.goes_on in
    let applied = subst (λ (t : List ℕ × List g.row.O-Entry.Denot). Applied object.list object.party object.answers middle t.0 c.args.op c.apply-reply.result t.1) (λ i. (same_parties i, sym c.pass.ensures.same.2 i)) c.apply-reply.ensures.applied in
    (c.pass.ensures.same.3 ∙ c.apply-reply.ensures.parties ∙ same_parties, acts_later object.party object.list object.answers before.seen middle before.parties c.args.op c.apply-reply.result c.pass.new.token.me.0.seen goes applied)
