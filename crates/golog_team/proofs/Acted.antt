-- What a seat at the lock of a link has seen is what one of its sides has.
use Rattle.std.proofs.Common.{◌≡◌, ℕ, ◌+◌, ◌≤◌, ◌<◌, Bool, true, false, ◌||◌, ◌==◌, if◌then◌else◌, Option, Some, None, List, [], ◌∷◌, ◌++◌, length, length-append, append-nil, refl, sym, ap, ◌∙◌, subst, arith}
use Rattle.std.specs.Prelude.{filter}
use Rattle.std.specs.List.{list_any}
use Rattle.std.proofs.lemmas.Bool.{or_from, eq-eqb, eqb-true, ne_eqb}
use Rattle.std.proofs.lemmas.Option.{slice_get_past}
use Rattle.golog_base.proofs.Bools.{or-false}
use Rattle.golog_semantics.specs.Journal.{limit}
use Rattle.golog_turn.specs.Parties.{contains, own, AreOf, GoesOn}
use Rattle.golog_turn.specs.Acts.{Applied}
use Rattle.golog_team.specs.declared.note.Note.{Note}
use Rattle.golog_team.specs.declared.note.Note.TheVariants.{Send, Waiting, Ended}
use Rattle.golog_team.specs.declared.note.SideNote.{SideNote}
use Rattle.golog_team.specs.declared.link.LinkOp.{LinkOp}
use Rattle.golog_team.specs.declared.link.LinkOp.TheVariants.{Put, PutAt, Look}
use Rattle.golog_team.specs.declared.link.LinkReply.{LinkReply}
use Rattle.golog_team.specs.declared.link.LinkReply.TheVariants.{At, Longer, Seen, Nothing}
use Rattle.golog_team.specs.Notes.{Notes, put_by, is_own, sends, ends, has_waited}
use Rattle.golog_team.specs.Links.{room, MayPut, MayPutAnywhere, Allows, Says, Answers}
use Rattle.golog_team.specs.Wires.{View, Heard, LooksAt, Puts, PutsAt}
use Rattle.golog_team.proofs.NoteLists.{sends-append, ends-append, foreign-sends, foreign-ends}

abbrev pub party : SideNote → ℕ
party n = n.side

-- what came since is not the side's
pub foreign : (side : ℕ) (since : Notes) → own party (side ∷ []) since ≡ [] → list_any (is_own side) since ≡ false
foreign side [] none = refl
foreign side (n ∷ since) none = go (n.side == side) refl (λ h. foreign side since h)
  where
    go : (b : Bool) → (n.side == side) ≡ b → (own party (side ∷ []) since ≡ [] → list_any (is_own side) since ≡ false) → list_any (is_own side) (n ∷ since) ≡ false
    go true is rest = absurd (
        let e : side ≡ n.side = sym (eqb-true n.side side is) in
        let h = sym (ap (λ b. if b || false then n ∷ own party (side ∷ []) since else own party (side ∷ []) since) (eq-eqb side n.side e)) ∙ none in cc)
    go false is rest = or_from (n.side == side) (list_any (is_own side) since) is
        (rest (sym (ap (λ b. if b || false then n ∷ own party (side ∷ []) since else own party (side ∷ []) since)
        (ne_eqb side n.side (λ e. absurd (let h = eq-eqb n.side side (sym e) in let j = sym is ∙ h in cc)))) ∙ none))

its-own : (side : ℕ) → contains (side ∷ []) side ≡ true
its-own side = ap (λ b. b || false) (eq-eqb side side refl)

module _ (side : ℕ) (small : side ≤ 1) (seen since : Notes) (none : own party (side ∷ []) since ≡ []) where
  may-still : (note : Note) → MayPutAnywhere seen side note → MayPutAnywhere (seen ++ since) side note
  may-still (Send a) may =
      let e = ap (λ (l : List ℕ). length l) (sends-append side seen since ∙ ap (λ l. sends side seen ++ l) (foreign-sends side since (foreign side since none)) ∙ append-nil (sends side seen)) in
      omega (arith, e, may)
  may-still Ended may =
      let a = ends-append side seen since in
      let b = foreign-ends side since (foreign side since none) in
      omega (arith, a, b, may)
  may-still (Waiting n) may = may

  no-more : (at : ℕ) → at ≤ length seen → length (seen ++ since) ≡ at → since ≡ []
  no-more at within here = empty since (let l = length-append seen since in omega (arith, within, here, l))
    where
      empty : (xs : Notes) → length xs ≡ 0 → xs ≡ []
      empty [] h = refl
      empty (x ∷ xs) h = absurd (omega (arith, h))

  may-there : (at : ℕ) (note : Note) → at ≤ length seen → (length seen ≡ at → MayPut seen side note) → length (seen ++ since) ≡ at → MayPut (seen ++ since) side note
  may-there at note within may here =
      let e = no-more at within here in
      let same : seen ++ since ≡ seen = ap (λ l. seen ++ l) e ∙ append-nil seen in
      subst (λ l. MayPut l side note) (sym same) (may (sym (ap (λ (l : Notes). length l) same) ∙ here))

-- ---- what may be asked

module _ (side : ℕ) (small : side ≤ 1) (seen notes : Notes) (goes : GoesOn party notes seen (side ∷ [])) where
  same : notes ≡ seen ++ goes.0
  same = goes.1

  longer : (at : ℕ) → at ≤ length seen → at ≤ length notes
  longer at within = let e = ap (λ (l : Notes). length l) same in let l = length-append seen goes.0 in omega (arith, within, e, l)

  pub may-look : (at : ℕ) → at ≤ length seen → Allows notes (Look at)
      × ((reply : LinkReply) (added : Notes) → Answers notes (Look at) reply added → AreOf party (side ∷ []) added)
  may-look at within = (longer at within, λ reply added a. by reply added a.says)
    where
      by : (reply : LinkReply) (added : Notes) → Says notes (Look at) reply added → AreOf party (side ∷ []) added
      by (Seen s note n) added says = subst (AreOf party (side ∷ [])) (sym says.2) tt
      by (Nothing n) added says = subst (AreOf party (side ∷ [])) (sym says.2) tt
      by (At n) added says = absurd says
      by (Longer n) added says = absurd says

  pub may-put : (note : Note) → MayPutAnywhere seen side note → Allows notes (Put side note)
      × ((reply : LinkReply) (added : Notes) → Answers notes (Put side note) reply added → AreOf party (side ∷ []) added)
  may-put note may = (
    (small, subst (λ l. MayPutAnywhere l side note) (sym same) (may-still side small seen goes.0 goes.2 note may)),
    λ reply added a. by reply added a.says,
  )
    where
      by : (reply : LinkReply) (added : Notes) → Says notes (Put side note) reply added → AreOf party (side ∷ []) added
      by (At n) added says = subst (AreOf party (side ∷ [])) (sym says.1) (its-own side, tt)
      by (Seen s m n) added says = absurd says
      by (Nothing n) added says = absurd says
      by (Longer n) added says = absurd says

  pub may-put-at : (at : ℕ) (note : Note) → at ≤ length seen → (length seen ≡ at → MayPut seen side note) → Allows notes (PutAt side at note)
      × ((reply : LinkReply) (added : Notes) → Answers notes (PutAt side at note) reply added → AreOf party (side ∷ []) added)
  may-put-at at note within may = (
    (
      small,
      longer at within,
      λ here.
          subst (λ l. MayPut l side note) (sym same)
          (may-there side small seen goes.0 goes.2 at note within may (sym (ap (λ (l : Notes). length l) same) ∙ here)),
    ),
    λ reply added a. by reply added a.says,
  )
    where
      by : (reply : LinkReply) (added : Notes) → Says notes (PutAt side at note) reply added → AreOf party (side ∷ []) added
      by (At n) added says = subst (AreOf party (side ∷ [])) (sym says.2) (its-own side, tt)
      by (Longer n) added says = subst (AreOf party (side ∷ [])) (sym says.2) tt
      by (Seen s m n) added says = absurd says
      by (Nothing n) added says = absurd says

-- by the parties that a seat holds
pub asked : (side : ℕ) (seen notes : Notes) (op : LinkOp) (parties : List ℕ) → parties ≡ side ∷ []
    → (GoesOn party notes seen (side ∷ []) → Allows notes op × ((reply : LinkReply) (added : Notes) → Answers notes op reply added → AreOf party (side ∷ []) added))
    → GoesOn party notes seen parties
    → Allows notes op × ((reply : LinkReply) (added : Notes) → Answers notes op reply added → AreOf party parties added)
asked side seen notes op parties held may goes =
    subst (λ ps. Allows notes op × ((reply : LinkReply) (added : Notes) → Answers notes op reply added → AreOf party ps added)) (sym held)
    (may (subst (GoesOn party notes seen) held goes))

-- ---- what was answered

module _ (side : ℕ) (before after : Notes) (op : LinkOp) (reply : LinkReply) where
  -- the call as a side sees it
  pub heard : (answers : Notes → Notes → Type 0) → ((notes added : Notes) → Says notes op reply added → answers notes added)
      → (parties : List ℕ) → parties ≡ side ∷ []
      → Applied {E = SideNote} {O = Notes} (λ o. o) party Answers before parties op reply after
      → Heard answers (record { side = side; seen = before }) (record { side = side; seen = after })
  heard answers says parties held applied =
      let a = subst (λ ps. Applied {E = SideNote} {O = Notes} (λ o. o) party Answers before ps op reply after) held applied in
      let others = a.goes_on.0 in
      let point = a.goes_on.1 in
      record {
        same_side = refl;
        others = others;
        foreign = foreign side others a.goes_on.2;
        added = a.added;
        grows = a.ends ∙ ap (λ l. l ++ a.added) point;
        answered = subst (λ l. answers l a.added) point (says a.point a.added a.answered.says);
        short = subst (λ (l : Notes). length l ≤ room) (sym a.ends) a.answered.short;
      }

pub looks : (at : ℕ) (notes added : Notes) (s : ℕ) (note : Note) (n : ℕ) → Says notes (Look at) (Seen s note n) added → LooksAt notes at (Some (put_by s note)) added
looks at notes added s note n says = record { told = sym says.0; none = says.2 }

pub looks-past : (at : ℕ) (notes added : Notes) (n : ℕ) → Says notes (Look at) (Nothing n) added → LooksAt notes at None added
looks-past at notes added n says = record { told = sym (slice_get_past notes at (let e = says.0 in omega (arith, e))); none = says.2 }

pub puts : (side : ℕ) (note : Note) (notes added : Notes) (reply : LinkReply) → Says notes (Put side note) reply added → Puts side note added
puts side note notes added (At n) says = says.1
puts side note notes added (Longer n) says = absurd says
puts side note notes added (Seen s m n) says = absurd says
puts side note notes added (Nothing n) says = absurd says
