use Rattle.std.proofs.Common.{◌≡◌, ◌≤◌, ◌<◌, Bool, true, false, List, [], ◌∷◌, ◌++◌, length, length-append, take, refl, sym, ap, ◌∙◌, subst, arith}
use Rattle.std.proofs.lemmas.List.{take_all, take_at}
use Rattle.golog_team.specs.declared.note.SideNote.{SideNote}
use Rattle.golog_team.specs.Notes.{Notes, put_by}
use Rattle.golog_team.specs.Wires.{Heard, PutsAt}
use Rattle.golog_team.specs.Sides.{IsToldOf, HasSaid}
use Rattle.golog_team.proofs.ReadOn.{has-said}
use Rattle.golog_team.proofs.reading.say.Goals as goal

pub with-requires-clause-few : goal.with-requires-clause-few
with-requires-clause-few g c =
    let v = g.W.Wire.view c.args.wire.now in
    let new = g.W.Wire.view c.put_at.new.self in
    let h = c.put_at.ensures in
    let said : HasSaid v.side c.args.note v.seen new.seen true =
    has-said v new c.args.note true
    (subst (λ b. Heard (λ notes added. PutsAt v.side notes (length v.seen) c.args.note b added) v new) c.if-put_at.true
    (subst (λ n. Heard (λ notes added. PutsAt v.side notes n c.args.note c.put_at.result added) v new) c.requires.whole h)) in
    let a = ap (λ (l : Notes). length l) said in
    let b = length-append v.seen (put_by v.side c.args.note ∷ []) in
    let w = c.requires.whole in
    let s = h.short in
    omega (arith, a, b, w, s)

pub returns-then-put_at-clause-said : goal.returns-then-put_at-clause-said
returns-then-put_at-clause-said g c =
    let v = g.W.Wire.view c.args.wire.now in
    let new = g.W.Wire.view c.put_at.new.self in
    subst (λ s. HasSaid s c.args.note v.seen new.seen true) c.requires.side.1
    (has-said v new c.args.note true
    (subst (λ b. Heard (λ notes added. PutsAt v.side notes (length v.seen) c.args.note b added) v new) c.if-put_at.true
    (subst (λ n. Heard (λ notes added. PutsAt v.side notes n c.args.note c.put_at.result added) v new) c.requires.whole c.put_at.ensures)))

pub returns-then-put_at-clause-within : goal.returns-then-put_at-clause-within
returns-then-put_at-clause-within g c =
    let v = g.W.Wire.view c.args.wire.now in
    let new = g.W.Wire.view c.put_at.new.self in
    let said : HasSaid c.args.side c.args.note v.seen new.seen true =
    subst (λ s. HasSaid s c.args.note v.seen new.seen true) c.requires.side.1
    (has-said v new c.args.note true
    (subst (λ b. Heard (λ notes added. PutsAt v.side notes (length v.seen) c.args.note b added) v new) c.if-put_at.true
    (subst (λ n. Heard (λ notes added. PutsAt v.side notes n c.args.note c.put_at.result added) v new) c.requires.whole c.put_at.ensures))) in
    let t = subst (λ l. IsToldOf c.args.side l c.with.result) (sym said) (c.with.ensures v.seen c.requires.told) in
    let read = t.read in
    (omega (arith, read), c.put_at.ensures.short)

pub returns-then-put_at-clause-told : goal.returns-then-put_at-clause-told
returns-then-put_at-clause-told g c =
    let v = g.W.Wire.view c.args.wire.now in
    let new = g.W.Wire.view c.put_at.new.self in
    let said : HasSaid c.args.side c.args.note v.seen new.seen true =
    subst (λ s. HasSaid s c.args.note v.seen new.seen true) c.requires.side.1
    (has-said v new c.args.note true
    (subst (λ b. Heard (λ notes added. PutsAt v.side notes (length v.seen) c.args.note b added) v new) c.if-put_at.true
    (subst (λ n. Heard (λ notes added. PutsAt v.side notes n c.args.note c.put_at.result added) v new) c.requires.whole c.put_at.ensures))) in
    let t = subst (λ l. IsToldOf c.args.side l c.with.result) (sym said) (c.with.ensures v.seen c.requires.told) in
    let read = t.read in
    subst (λ l. IsToldOf c.args.side l c.with.result) (sym (take_all c.with.result.read new.seen (omega (arith, read)))) t

pub returns-then-put_at-clause-read : goal.returns-then-put_at-clause-read
returns-then-put_at-clause-read g c yes_it =
    let v = g.W.Wire.view c.args.wire.now in
    let new = g.W.Wire.view c.put_at.new.self in
    let said : HasSaid c.args.side c.args.note v.seen new.seen true =
    subst (λ s. HasSaid s c.args.note v.seen new.seen true) c.requires.side.1
    (has-said v new c.args.note true
    (subst (λ b. Heard (λ notes added. PutsAt v.side notes (length v.seen) c.args.note b added) v new) c.if-put_at.true
    (subst (λ n. Heard (λ notes added. PutsAt v.side notes n c.args.note c.put_at.result added) v new) c.requires.whole c.put_at.ensures))) in
    (subst (λ l. IsToldOf c.args.side l c.with.result) (sym said) (c.with.ensures v.seen c.requires.told)).read

pub returns-else-put_at-clause-said : goal.returns-else-put_at-clause-said
returns-else-put_at-clause-said g c =
    let v = g.W.Wire.view c.args.wire.now in
    let new = g.W.Wire.view c.put_at.new.self in
    subst (λ s. HasSaid s c.args.note v.seen new.seen false) c.requires.side.1
    (has-said v new c.args.note false
    (subst (λ b. Heard (λ notes added. PutsAt v.side notes (length v.seen) c.args.note b added) v new) c.if-put_at.false
    (subst (λ n. Heard (λ notes added. PutsAt v.side notes n c.args.note c.put_at.result added) v new) c.requires.whole c.put_at.ensures)))

pub returns-else-put_at-clause-within : goal.returns-else-put_at-clause-within
returns-else-put_at-clause-within g c =
    let v = g.W.Wire.view c.args.wire.now in
    let new = g.W.Wire.view c.put_at.new.self in
    let said : HasSaid v.side c.args.note v.seen new.seen false =
    has-said v new c.args.note false
    (subst (λ b. Heard (λ notes added. PutsAt v.side notes (length v.seen) c.args.note b added) v new) c.if-put_at.false
    (subst (λ n. Heard (λ notes added. PutsAt v.side notes n c.args.note c.put_at.result added) v new) c.requires.whole c.put_at.ensures)) in
    let a = ap (λ (l : Notes). length l) said.3 in
    let b = length-append v.seen said.0 in
    let w = c.requires.whole in
    (omega (arith, a, b, w), c.put_at.ensures.short)

pub returns-else-put_at-clause-told : goal.returns-else-put_at-clause-told
returns-else-put_at-clause-told g c =
    let v = g.W.Wire.view c.args.wire.now in
    let new = g.W.Wire.view c.put_at.new.self in
    let said : HasSaid v.side c.args.note v.seen new.seen false =
    has-said v new c.args.note false
    (subst (λ b. Heard (λ notes added. PutsAt v.side notes (length v.seen) c.args.note b added) v new) c.if-put_at.false
    (subst (λ n. Heard (λ notes added. PutsAt v.side notes n c.args.note c.put_at.result added) v new) c.requires.whole c.put_at.ensures)) in
    subst (λ l. IsToldOf c.args.side l c.args.told.now)
    (sym (ap (take c.args.told.now.read) said.3 ∙ take_at v.seen said.0 c.args.told.now.read (sym c.requires.whole))) c.requires.told
