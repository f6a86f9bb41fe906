-- One more note of a link, and how many there may be.
use Rattle.std.proofs.Common.{◌≡◌, ℕ, zero, suc, ◌+◌, ◌≤◌, ◌<◌, Bool, true, false, not, ◌&&◌, ◌==◌, if◌then◌else◌, Option, Some, None, List, [], ◌∷◌, ◌++◌, length, length-append, append_assoc, refl, sym, ap, ◌∙◌, subst, arith}
use Rattle.std.specs.Prelude.{filter_map, nat_le, is_some}
use Rattle.std.specs.List.{list_all, cons_option}
use Rattle.std.proofs.lemmas.Bool.{and_parts, and_from, leb-true, le-leb, eqb-true}
use Rattle.std.proofs.lemmas.List.{append-nil}
use Rattle.std.proofs.lemmas.List.Folds.{list_all-append}
use Rattle.std.proofs.lemmas.List.Sums.{fold-append, sum_by_push}
use Rattle.std.proofs.lemmas.List.Elements.{filter_map-append}
use Rattle.golog_semantics.specs.Journal.{limit}
use Rattle.golog_team.specs.declared.note.Note.{Note}
use Rattle.golog_team.specs.declared.note.Note.TheVariants.{Send, Waiting, Ended}
use Rattle.golog_team.specs.declared.note.SideNote.{SideNote}
use Rattle.golog_team.specs.Notes.{Notes, put_by, is_waiting, is_ended, action_sent, is_waiting_of, is_ended_of, sent_by, sends, ends, waited, waited_with, has_waited}
use Rattle.golog_team.specs.Links.{room, doings, waitings, KeepsCount, IsLinkList, MayPut}

-- a link without a note
pub no-notes : IsLinkList []
no-notes =
    let none : (side : ℕ) → KeepsCount side [] = λ side. record { few = omega arith; once = omega arith; spaced = omega arith } in
    record { sides = refl; one = none 0; other = none 1 }

-- the notes of two sides, counted together
pub record AreCounted (notes : Notes) : Type 0 where
  pub done : doings notes ≡ length (sends 0 notes) + length (sends 1 notes) + (ends 0 notes + ends 1 notes)
  pub all : length notes ≡ doings notes + (waitings 0 notes + waitings 1 notes)

module _ (notes : Notes) (x : SideNote) where
  pub doings-push : doings (notes ++ x ∷ []) ≡ doings notes + (if not (is_waiting x.note) then 1 else 0)
  doings-push = sum_by_push (λ (n : SideNote). if not (is_waiting n.note) then 1 else 0) notes x

  pub waitings-push : (side : ℕ) → waitings side (notes ++ x ∷ []) ≡ waitings side notes + (if is_waiting_of side x then 1 else 0)
  waitings-push side = sum_by_push (λ (n : SideNote). if is_waiting_of side n then 1 else 0) notes x

  pub ends-push : (side : ℕ) → ends side (notes ++ x ∷ []) ≡ ends side notes + (if is_ended_of side x then 1 else 0)
  ends-push side = sum_by_push (λ (n : SideNote). if is_ended_of side n then 1 else 0) notes x

  pub sends-push : (side : ℕ) → sends side (notes ++ x ∷ []) ≡ sends side notes ++ filter_map (sent_by side) (x ∷ [])
  sends-push side = filter_map-append (sent_by side) notes (x ∷ [])

  pub sends-count : (side : ℕ) → length (sends side (notes ++ x ∷ [])) ≡ length (sends side notes) + length (filter_map (sent_by side) (x ∷ []))
  sends-count side = ap (λ (l : List ℕ). length l) (sends-push side) ∙ length-append (sends side notes) (filter_map (sent_by side) (x ∷ []))

  pub waited-push : (side : ℕ) → waited side (notes ++ x ∷ []) ≡ waited_with (x.side == side) (waited side notes) x.note
  waited-push side = fold-append (λ (before : Option ℕ) (n : SideNote). waited_with (n.side == side) before n.note) None notes (x ∷ [])

pub nothing : (b : Bool) → (b && false) ≡ false
nothing true = refl
nothing false = refl

pub no-action : (b : Bool) → ◌≡◌ {A = Option ℕ} (if b then None else None) None
no-action true = refl
no-action false = refl

abbrev bit : Option ℕ → ℕ
bit o = if is_some o then 1 else 0

small : (o : Option ℕ) → bit o ≤ 1
small (Some n) = omega arith
small None = omega arith

-- one more keeps the count of a side, of whichever side it is
module _ (notes : Notes) (side s : ℕ) (k : KeepsCount side notes) where
  waited-as : (note : Note) (own : Bool) → (s == side) ≡ own → bit (waited side (notes ++ put_by s note ∷ [])) ≡ bit (waited_with own (waited side notes) note)
  waited-as note own is = ap bit (waited-push notes (put_by s note) side ∙ ap (λ b. waited_with b (waited side notes) note) is)

  abbrev after : Note → Notes
  after note = notes ++ put_by s note ∷ []

  no-sends : (note : Note) → action_sent note ≡ None → length (sends side (after note)) ≡ length (sends side notes) + 0
  no-sends note none =
      sends-count notes (put_by s note) side
      ∙ ap (λ o. length (sends side notes) + length (cons_option (if s == side then o else None) [])) none
      ∙ ap (λ o. length (sends side notes) + length (cons_option o [])) (no-action (s == side))

  no-ends : (note : Note) → is_ended note ≡ false → ends side (after note) ≡ ends side notes + 0
  no-ends note none =
      ends-push notes (put_by s note) side
      ∙ ap (λ b. ends side notes + (if (s == side) && b then 1 else 0)) none
      ∙ ap (λ b. ends side notes + (if b then 1 else 0)) (nothing (s == side))

  no-waitings : (note : Note) → is_waiting note ≡ false → waitings side (after note) ≡ waitings side notes + 0
  no-waitings note none =
      waitings-push notes (put_by s note) side
      ∙ ap (λ b. waitings side notes + (if (s == side) && b then 1 else 0)) none
      ∙ ap (λ b. waitings side notes + (if b then 1 else 0)) (nothing (s == side))

  -- where the note is no Waiting, there may be another
  spaced-out : (note : Note) → is_waiting note ≡ false → waitings side (after note) ≤ doings (after note) + bit (waited side (after note))
  spaced-out note none =
      let d = doings-push notes (put_by s note) ∙ ap (λ b. doings notes + (if not b then 1 else 0)) none in
      let w = no-waitings note none in
      let spaced = k.spaced in
      let most = small (waited side notes) in
      omega (arith, d, w, spaced, most)

  few-sends : (a : ℕ) (own : Bool) → (s == side) ≡ own → (own ≡ true → MayPut notes side (Send a)) → length (sends side (after (Send a))) ≤ limit
  few-sends a true is may =
      let m = may refl in
      let c = sends-count notes (put_by s (Send a)) side ∙ ap (λ b. length (sends side notes) + length (cons_option (if b then Some a else None) [])) is in
      omega (arith, m, c)
  few-sends a false is may =
      let few = k.few in
      let c = sends-count notes (put_by s (Send a)) side ∙ ap (λ b. length (sends side notes) + length (cons_option (if b then Some a else None) [])) is in
      omega (arith, few, c)

  one-end : (own : Bool) → (s == side) ≡ own → (own ≡ true → MayPut notes side Ended) → ends side (after Ended) ≤ 1
  one-end true is may =
      let m = may refl in
      let e = ends-push notes (put_by s Ended) side ∙ ap (λ b. ends side notes + (if b && true then 1 else 0)) is in
      omega (arith, m, e)
  one-end false is may =
      let once = k.once in
      let e = ends-push notes (put_by s Ended) side ∙ ap (λ b. ends side notes + (if b && true then 1 else 0)) is in
      omega (arith, once, e)

  waits-once : (n : ℕ) (own : Bool) → (s == side) ≡ own → (own ≡ true → MayPut notes side (Waiting n))
      → waitings side (after (Waiting n)) ≤ doings (after (Waiting n)) + bit (waited side (after (Waiting n)))
  waits-once n true is may =
      let d = doings-push notes (put_by s (Waiting n)) in
      let m : bit (waited side notes) ≡ 0 = ap (λ b. if b then 1 else 0) (may refl) in
      let v = waited-as (Waiting n) true is in
      let w = waitings-push notes (put_by s (Waiting n)) side ∙ ap (λ b. waitings side notes + (if b && true then 1 else 0)) is in
      let spaced = k.spaced in
      omega (arith, d, w, v, m, spaced)
  waits-once n false is may =
      let d = doings-push notes (put_by s (Waiting n)) in
      let v = waited-as (Waiting n) false is in
      let w = waitings-push notes (put_by s (Waiting n)) side ∙ ap (λ b. waitings side notes + (if b && true then 1 else 0)) is in
      let spaced = k.spaced in
      omega (arith, d, w, v, spaced)

  pub keeps-push : (note : Note) (own : Bool) → (s == side) ≡ own → (own ≡ true → MayPut notes side note) → KeepsCount side (after note)
  keeps-push (Send a) own is may = record {
    few = few-sends a own is may;
    once = let once = k.once in let e = no-ends (Send a) refl in omega (arith, e, once);
    spaced = spaced-out (Send a) refl;
  }
  keeps-push Ended own is may = record {
    few = let few = k.few in let c = no-sends Ended refl in omega (arith, few, c);
    once = one-end own is may;
    spaced = spaced-out Ended refl;
  }
  keeps-push (Waiting n) own is may = record {
    few = let few = k.few in let c = no-sends (Waiting n) refl in omega (arith, few, c);
    once = let once = k.once in let e = no-ends (Waiting n) refl in omega (arith, e, once);
    spaced = waits-once n own is may;
  }

-- the counts of a list of two sides
module _ (notes : Notes) (c : AreCounted notes) where
  counted-push : (s : ℕ) (note : Note) → s ≤ 1 → AreCounted (notes ++ put_by s note ∷ [])
  counted-push s note small = go s note small
    where
      more : (x : SideNote) (i j k l m n o : ℕ)
          → length (sends 0 (notes ++ x ∷ [])) ≡ length (sends 0 notes) + i → length (sends 1 (notes ++ x ∷ [])) ≡ length (sends 1 notes) + j
          → ends 0 (notes ++ x ∷ []) ≡ ends 0 notes + k → ends 1 (notes ++ x ∷ []) ≡ ends 1 notes + l
          → waitings 0 (notes ++ x ∷ []) ≡ waitings 0 notes + m → waitings 1 (notes ++ x ∷ []) ≡ waitings 1 notes + n
          → doings (notes ++ x ∷ []) ≡ doings notes + o → i + j + (k + l) ≡ o → o + (m + n) ≡ 1 → AreCounted (notes ++ x ∷ [])
      more x i j k l m n o a b c' d e f g h one =
          let done = c.done in
          let all = c.all in
          record { done = omega (arith, done, a, b, c', d, g, h); all = omega (arith, all, e, f, g, one, length-append notes (x ∷ [])) }

      by : (x : SideNote) (i j k l m n o : ℕ) → i + j + (k + l) ≡ o → o + (m + n) ≡ 1
          → length (filter_map (sent_by 0) (x ∷ [])) ≡ i → length (filter_map (sent_by 1) (x ∷ [])) ≡ j
          → (if is_ended_of 0 x then 1 else 0) ≡ k → (if is_ended_of 1 x then 1 else 0) ≡ l
          → (if is_waiting_of 0 x then 1 else 0) ≡ m → (if is_waiting_of 1 x then 1 else 0) ≡ n
          → (if not (is_waiting x.note) then 1 else 0) ≡ o → AreCounted (notes ++ x ∷ [])
      by x i j k l m n o h one a b c d e f g =
          more x i j k l m n o (sends-count notes x 0 ∙ ap (λ y. length (sends 0 notes) + y) a) (sends-count notes x 1 ∙ ap (λ y. length (sends 1 notes) + y) b)
          (ends-push notes x 0 ∙ ap (λ y. ends 0 notes + y) c) (ends-push notes x 1 ∙ ap (λ y. ends 1 notes + y) d)
          (waitings-push notes x 0 ∙ ap (λ y. waitings 0 notes + y) e) (waitings-push notes x 1 ∙ ap (λ y. waitings 1 notes + y) f)
          (doings-push notes x ∙ ap (λ y. doings notes + y) g) h one

      go : (s : ℕ) (note : Note) → s ≤ 1 → AreCounted (notes ++ put_by s note ∷ [])
      go zero (Send a) small = by (put_by 0 (Send a)) 1 0 0 0 0 0 1 refl refl refl refl refl refl refl refl refl
      go zero (Waiting n) small = by (put_by 0 (Waiting n)) 0 0 0 0 1 0 0 refl refl refl refl refl refl refl refl refl
      go zero Ended small = by (put_by 0 Ended) 0 0 1 0 0 0 1 refl refl refl refl refl refl refl refl refl
      go (suc zero) (Send a) small = by (put_by 1 (Send a)) 0 1 0 0 0 0 1 refl refl refl refl refl refl refl refl refl
      go (suc zero) (Waiting n) small = by (put_by 1 (Waiting n)) 0 0 0 0 0 1 0 refl refl refl refl refl refl refl refl refl
      go (suc zero) Ended small = by (put_by 1 Ended) 0 0 0 1 0 0 1 refl refl refl refl refl refl refl refl refl
      go (suc (suc s)) note small = absurd (omega arith)

-- with a note of side 0 or 1 all are
sides-push : (notes : Notes) (x : SideNote) → list_all (λ (n : SideNote). nat_le n.side 1) notes ≡ true → nat_le x.side 1 ≡ true
    → list_all (λ (n : SideNote). nat_le n.side 1) (notes ++ x ∷ []) ≡ true
sides-push notes x all small =
    list_all-append (λ (n : SideNote). nat_le n.side 1) notes (x ∷ [])
    ∙ and_from _ _ all (and_from (nat_le x.side 1) true small refl)

-- whatever may be put
pub one-more : (notes : Notes) (side : ℕ) (note : Note) → IsLinkList notes → side ≤ 1 → MayPut notes side note
    → IsLinkList (notes ++ put_by side note ∷ [])
one-more notes side note is small may = record {
  sides = sides-push notes (put_by side note) is.sides (le-leb side 1 small);
  one = keeps-push notes 0 side is.one note (side == 0) refl (λ own. subst (λ s. MayPut notes s note) (eqb-true side 0 own) may);
  other = keeps-push notes 1 side is.other note (side == 1) refl (λ own. subst (λ s. MayPut notes s note) (eqb-true side 1 own) may);
}

-- the notes of two sides are counted
counted : (before notes : Notes) → AreCounted before → list_all (λ (n : SideNote). nat_le n.side 1) notes ≡ true → AreCounted (before ++ notes)
counted before [] c all = subst AreCounted (sym (append-nil before)) c
counted before (x ∷ notes) c all =
    let parts = and_parts (nat_le x.side 1) (list_all (λ (n : SideNote). nat_le n.side 1) notes) all in
    subst AreCounted (append_assoc before (x ∷ []) notes)
    (counted (before ++ x ∷ []) notes (counted-push before c x.side x.note (leb-true x.side 1 parts.0)) parts.1)

-- no link has more notes than its room
pub few-notes : (notes : Notes) → IsLinkList notes → length notes ≤ room
few-notes notes is =
    let c = counted [] notes (record { done = refl; all = refl }) is.sides in
    let done = c.done in
    let all = c.all in
    let a = is.one.few in
    let b = is.other.few in
    let c = is.one.once in
    let d = is.other.once in
    let e = is.one.spaced in
    let f = is.other.spaced in
    let g = small (waited 0 notes) in
    let h = small (waited 1 notes) in
    omega (arith, done, all, a, b, c, d, e, f, g, h)
