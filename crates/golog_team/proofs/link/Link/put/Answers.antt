use Rattle.std.proofs.Common.{List, [], ◌∷◌, ◌++◌, length, length-append, ◌≤◌, ◌≡◌, sym, ap, ◌∙◌, subst, arith}
use Rattle.golog_team.specs.declared.note.SideNote.{SideNote}
use Rattle.golog_team.specs.Notes.{put_by}
use Rattle.golog_team.specs.Links.{room}
use Rattle.golog_team.proofs.Rooms.{few-notes}
use Rattle.golog_team.proofs.link.Link.put.Goals as goal

pub push_reserved-requires : goal.push_reserved-requires
push_reserved-requires c =
    let few = few-notes (c.args.self.now ++ put_by c.args.side c.args.note ∷ []) c.requires in
    let more = length-append c.args.self.now (put_by c.args.side c.args.note ∷ []) in
    let same : length c.self.inside.notes.items ≡ length c.args.self.now = ap (λ (l : List SideNote). length l) c.self.view_is in
    let wide = c.self.invariant.0 in
    omega (arith, few, more, same, wide)

pub returns-clause-most : goal.returns-clause-most
returns-clause-most c =
    subst (λ (l : List SideNote). length l ≤ room)
    (ap (λ (l : List SideNote). l ++ put_by c.args.side c.args.note ∷ []) (sym c.self.view_is) ∙ sym c.push_reserved.ensures.items)
    (few-notes (c.args.self.now ++ put_by c.args.side c.args.note ∷ []) c.requires)
