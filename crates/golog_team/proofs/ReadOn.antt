-- Notes read one after another.
use Rattle.std.proofs.Common.{◌≡◌, ◌≢◌, ℕ, zero, suc, ◌+◌, ◌≤◌, ◌<◌, Bool, true, false, Option, Some, None, List, [], ◌∷◌, ◌++◌, length, length-append, take, drop, refl, sym, ap, ◌∙◌, subst, arith, append_assoc}
use Rattle.std.specs.Prelude.{slice_get}
use Rattle.std.specs.List.{list_any}
use Rattle.std.proofs.lemmas.Bool.{or_from}
use Rattle.std.proofs.lemmas.Option.{same_Some, slice_get_within}
use Rattle.std.proofs.lemmas.List.{append-nil, take-append-le, drop-append-le, drop_all, take_all}
use Rattle.golog_semantics.specs.Journal.{Journal}
use Rattle.golog_device.proofs.Taking.{take-next}
use Rattle.golog_team.specs.declared.note.Note.{Note}
use Rattle.golog_team.specs.declared.note.SideNote.{SideNote}
use Rattle.golog_team.specs.Notes.{Notes, put_by, is_own, is_news}
use Rattle.golog_team.specs.Steps.{Station, station, Reads}
use Rattle.golog_team.specs.Wires.{View, Heard, LooksAt, PutsAt}
use Rattle.golog_team.specs.Sides.{at_read, ComesTo, HasSaid}
use Rattle.golog_team.proofs.NoteLists.{none-both}

-- what is left, behind its first
pub drop-next : {A : Type 0} (xs : List A) (k : ℕ) (x : A) → slice_get xs k ≡ Some x → drop k xs ≡ x ∷ drop (k + 1) xs
drop-next [] k x h = absurd (cc)
drop-next (y ∷ ys) zero x h = ap (λ z. z ∷ ys) (same_Some y x h)
drop-next (y ∷ ys) (suc k) x h =
    let more : suc k + 1 ≡ suc (k + 1) = omega arith in
    drop-next ys k x h ∙ sym (ap (λ n. x ∷ drop n (y ∷ ys)) more)

pub none-past : {A : Type 0} (xs : List A) (k : ℕ) → slice_get xs k ≡ None → length xs ≤ k
none-past [] k h = omega arith
none-past (y ∷ ys) zero h = absurd (cc)
none-past (y ∷ ys) (suc k) h = let r = none-past ys k h in omega (arith, r)

pub same-station : {a b c d : Notes} {i j : Journal} {m n : ℕ} → a ≡ b → c ≡ d → i ≡ j → m ≡ n → station a c i m ≡ station b d j n
same-station e f g h = λ x. station (e x) (f x) (g x) (h x)

module _ (side : ℕ) (journal : Journal) (taken : ℕ) where
  abbrev pub at : View → ℕ → Station
  at v r = at_read v r journal taken

  pub reads-first : (v : View) (r : ℕ) → Reads side (at v r) (at v r)
  reads-first v r = record {
    others = [];
    foreign = refl;
    passed = [];
    rest = drop r v.seen;
    come = append-nil (drop r v.seen);
    no_news = refl;
    now = ap (λ l. station l (drop r v.seen) journal taken) (sym (append-nil (take r v.seen)));
  }

  module _ (old : Station) (v : View) (r : ℕ) (reads : Reads side old (at v r)) where
    told_is : take r v.seen ≡ old.told ++ reads.passed
    told_is = ap (λ (s : Station). s.told) reads.now

    rest_is : drop r v.seen ≡ reads.rest
    rest_is = ap (λ (s : Station). s.unread) reads.now

    journal_is : journal ≡ old.journal
    journal_is = ap (λ (s : Station). s.journal) reads.now

    taken_is : taken ≡ old.taken
    taken_is = ap (λ (s : Station). s.taken) reads.now

    -- others came
    pub reads-more : (new : View) (more : Notes) → r ≤ length v.seen → list_any (is_own side) more ≡ false → new.seen ≡ v.seen ++ more → Reads side old (at new r)
    reads-more new more within foreign is = record {
      others = reads.others ++ more;
      foreign = none-both (is_own side) reads.others more reads.foreign foreign;
      passed = reads.passed;
      rest = reads.rest ++ more;
      come = sym (append_assoc old.unread reads.others more) ∙ ap (λ l. l ++ more) reads.come ∙ append_assoc reads.passed reads.rest more;
      no_news = reads.no_news;
      now = same-station (ap (take r) is ∙ take-append-le r v.seen more within ∙ told_is) (ap (drop r) is ∙ drop-append-le r v.seen more within ∙ ap (λ l. l ++ more) rest_is) journal_is taken_is;
    }

    -- one that is no news was read
    pub reads-one : (n : SideNote) → slice_get v.seen r ≡ Some n → is_news side n ≡ false → Reads side old (at v (r + 1))
    reads-one n here plain = record {
      others = reads.others;
      foreign = reads.foreign;
      passed = reads.passed ++ n ∷ [];
      rest = drop (r + 1) v.seen;
      come = reads.come ∙ ap (λ l. reads.passed ++ l) (sym rest_is ∙ drop-next v.seen r n here) ∙ sym (append_assoc reads.passed (n ∷ []) (drop (r + 1) v.seen));
      no_news = none-both (is_news side) reads.passed (n ∷ []) reads.no_news (or_from (is_news side n) false plain refl);
      now = same-station (take-next v.seen r n here ∙ ap (λ l. l ++ n ∷ []) told_is ∙ append_assoc old.told reads.passed (n ∷ [])) refl journal_is taken_is;
    }

    -- news were
    pub comes-to : (n : SideNote) → slice_get v.seen r ≡ Some n → is_news side n ≡ true → ComesTo side old (at v (r + 1)) n.note
    comes-to n here news = record {
      mid = at v r;
      reads = reads;
      n = n;
      later = drop (r + 1) v.seen;
      next = drop-next v.seen r n here;
      news = news;
      note_is = refl;
      now = ap (λ l. station l (drop (r + 1) v.seen) journal taken) (take-next v.seen r n here);
    }

    -- there is no other
    pub reads-all : length v.seen ≤ r → Reads side old (at v r) × ((at v r).unread ≡ [])
    reads-all past = (reads, drop_all r v.seen past)

-- what was put where all was read
pub has-said : (old new : View) (note : Note) (result : Bool) → Heard (λ notes added. PutsAt old.side notes (length old.seen) note result added) old new
    → HasSaid old.side note old.seen new.seen result
has-said old new note true h = h.grows ∙ ap (λ l. l ++ h.added) at_end ∙ ap (λ l. old.seen ++ l) h.answered.1
  where
    empty : (xs : Notes) → length (old.seen ++ xs) ≡ length old.seen → xs ≡ []
    empty [] e = refl
    empty (x ∷ xs) e = absurd (let l = length-append old.seen (x ∷ xs) in omega (arith, e, l))

    at_end : old.seen ++ h.others ≡ old.seen
    at_end = ap (λ l. old.seen ++ l) (empty h.others h.answered.0) ∙ append-nil old.seen
has-said old new note false h = (
  h.others,
  (λ e. absurd (
      let a = ap (λ (l : Notes). length (old.seen ++ l)) e in
      let b = ap (λ (l : Notes). length l) (append-nil old.seen) in
      let c = h.answered.0 in
      omega (arith, a, b, c))),
  h.foreign,
  h.grows ∙ ap (λ l. (old.seen ++ h.others) ++ l) h.answered.1 ∙ append-nil (old.seen ++ h.others),
)

-- ---- one look

module _ (side : ℕ) (v new : View) (at : ℕ) (found : Option SideNote) (so : v.side ≡ side) (within : at ≤ length v.seen)
    (h : Heard (λ notes added. LooksAt notes at found added) v new) where
  pub grown : new.seen ≡ v.seen ++ h.others
  grown = h.grows ∙ ap (λ l. (v.seen ++ h.others) ++ l) h.answered.none ∙ append-nil (v.seen ++ h.others)

  pub found-is : found ≡ slice_get new.seen at
  found-is = h.answered.told ∙ ap (λ l. slice_get l at) (sym grown)

  pub still-within : at ≤ length new.seen
  still-within = let e = ap (λ (l : Notes). length l) grown in let l = length-append v.seen h.others in omega (arith, within, e, l)

  pub same-taken : take at new.seen ≡ take at v.seen
  same-taken = ap (take at) grown ∙ take-append-le at v.seen h.others within

  pub looked-on : (journal : Journal) (taken : ℕ) (old : Station) → Reads side old (at_read v at journal taken) → Reads side old (at_read new at journal taken)
  looked-on journal taken old reads =
      reads-more side journal taken old v at reads new h.others within (subst (λ s. list_any (is_own s) h.others ≡ false) so h.foreign) grown

  module _ (n : SideNote) (is : found ≡ Some n) where
    pub here : slice_get new.seen at ≡ Some n
    here = sym found-is ∙ is

    pub below : at < length new.seen
    below = slice_get_within new.seen at n here

    pub one-taken : take (at + 1) new.seen ≡ take at v.seen ++ n ∷ []
    one-taken = take-next new.seen at n here ∙ ap (λ l. l ++ n ∷ []) same-taken

  pub past : found ≡ None → length new.seen ≤ at
  past is = none-past new.seen at (sym found-is ∙ is)
