use Rattle.std.proofs.Common.{◌≡◌, true, List, ℕ, [], ◌∷◌, ◌++◌, refl, sym, ap, ◌∙◌, subst}
use Rattle.golog_turn.specs.Parties.{contains, without, KeepsLonger}
use Rattle.golog_turn.specs.Seats.{seen, parties_of}
use Rattle.golog_team.specs.Notes.{Notes, side_of}
use Rattle.golog_team.proofs.SeatsMet.{its-own, last-held, without-own, without-last, from-other, seen-all}
use Rattle.golog_team.proofs.seats.meet_seats.Goals as goal

pub split-given-requires-clause-party : goal.split-given-requires-clause-party
split-given-requires-clause-party c = subst (λ (ps : List ℕ). contains ps c.args.party ≡ true) (sym c.requires.held.0) (its-own c.args.party)

pub split-back-requires-clause-party : goal.split-back-requires-clause-party
split-back-requires-clause-party c =
    subst (λ (ps : List ℕ). contains ps c.args.party ≡ true)
    (sym (c.join.ensures.joined.0 ∙ ap (λ (ps : List ℕ). parties_of c.args.seat.now ++ ps) c.split-given.ensures.given))
    (last-held (parties_of c.args.seat.now) c.args.party)

pub returns-clause-held : goal.returns-clause-held
returns-clause-held c =
    let p = c.args.party in
    let ps = parties_of c.args.seat.now in (
      c.split-back.ensures.left
          ∙ ap (without p) (c.join.ensures.joined.0 ∙ ap (λ (qs : List ℕ). ps ++ qs) c.split-given.ensures.given)
          ∙ without-last p ps c.requires.held.1,
      c.join-2.ensures.joined.0
          ∙ ap (λ (qs : List ℕ). qs ++ parties_of c.split-back.result) (c.split-given.ensures.left ∙ ap (without p) c.requires.held.0 ∙ without-own p)
          ∙ c.split-back.ensures.given ∙ sym c.requires.held.0,
    )

pub returns-clause-kept : goal.returns-clause-kept
returns-clause-kept c =
    let seat = c.args.seat.now in
    let other = c.args.other.now in
    let all = seen c.join.new.seat in
    subst (λ (l : Notes). KeepsLonger side_of (seen seat) (parties_of seat) (seen other) (parties_of other) l) (sym c.split-back.ensures.seen.0)
    (subst (λ (qs : List ℕ). KeepsLonger side_of (seen seat) (parties_of seat) (seen other) qs all) (c.split-given.ensures.given ∙ sym c.requires.held.0)
    (subst (λ (l : Notes). KeepsLonger side_of (seen seat) (parties_of seat) l (parties_of c.split-given.result) all) c.split-given.ensures.seen.1
    c.join.ensures.joined.1))

pub returns-clause-same : goal.returns-clause-same
returns-clause-same c =
    let seat = c.args.seat.now in
    let other = c.args.other.now in
    let all = seen c.join.new.seat in
    let first : KeepsLonger side_of (seen seat) (parties_of seat) (seen other) (parties_of c.split-given.result) all =
    subst (λ (l : Notes). KeepsLonger side_of (seen seat) (parties_of seat) l (parties_of c.split-given.result) all) c.split-given.ensures.seen.1
    c.join.ensures.joined.1 in
    let more = from-other (seen seat) (seen other) all (parties_of seat) (parties_of c.split-given.result) first in
    let second : KeepsLonger side_of (seen other) (parties_of c.split-given.new.seat) all (parties_of c.split-back.result) (seen c.join-2.new.seat) =
    subst (λ (l : Notes). KeepsLonger side_of (seen other) (parties_of c.split-given.new.seat) l (parties_of c.split-back.result) (seen c.join-2.new.seat)) c.split-back.ensures.seen.1
    (subst (λ (l : Notes). KeepsLonger side_of l (parties_of c.split-given.new.seat) (seen c.split-back.result) (parties_of c.split-back.result) (seen c.join-2.new.seat)) c.split-given.ensures.seen.0
    c.join-2.ensures.joined.1) in
    seen-all (seen other) all (seen c.join-2.new.seat) (parties_of c.split-given.new.seat) (parties_of c.split-back.result) more.0 more.1 second
    ∙ sym c.split-back.ensures.seen.0
