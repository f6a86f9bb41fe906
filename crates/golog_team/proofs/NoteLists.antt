-- What is so of notes behind which more stand.
use Rattle.std.proofs.Common.{◌≡◌, ℕ, zero, suc, ◌+◌, ◌-◌, Bool, true, false, not, ◌&&◌, ◌||◌, ◌==◌, if◌then◌else◌, Option, Some, None, List, [], ◌∷◌, ◌++◌, length, refl, sym, ap, ◌∙◌, arith, append_assoc, zero-add, ◌⊎◌, inl, inr}
use Rattle.std.specs.Prelude.{filter_map, fold, is_some}
use Rattle.std.specs.List.{list_any, cons_option}
use Rattle.std.proofs.lemmas.Bool.{true≢false, or_parts, or_from, or_left, or_right, and_parts, and_from, and_right, not-true, eq-eqb, eqb-true}
use Rattle.std.proofs.lemmas.List.Folds.{list_any-append}
use Rattle.std.proofs.lemmas.List.Sums.{fold-append, sum_by-append, sum_by-cons}
use Rattle.std.proofs.lemmas.List.Elements.{filter_map-append}
use Rattle.std.proofs.lemmas.Option.{same_Some}
use Rattle.golog_team.specs.declared.note.Note.{Note}
use Rattle.golog_team.specs.declared.note.Note.TheVariants.{Send, Waiting, Ended}
use Rattle.golog_team.specs.declared.note.SideNote.{SideNote}
use Rattle.golog_team.specs.Notes.{Notes, put_by, across, is_own, is_news, is_send, is_waiting, is_ended, action_sent, is_ended_of, sent_by, sends, ends, waited, waited_with, has_waited}

-- ---- any lists

-- where x stands in one list behind another
pub record StandsLeft {A : Type 0} (xs : List A) (before : List A) (x : A) : Type 0 where
  pub mid : List A
  pub is : xs ≡ before ++ x ∷ mid

pub record StandsRight {A : Type 0} (xs ys before later : List A) (x : A) : Type 0 where
  pub mid : List A
  pub is : ys ≡ mid ++ x ∷ later
  pub front : before ≡ xs ++ mid

pub where-it-stands : {A : Type 0} (xs ys before later : List A) (x : A) → xs ++ ys ≡ before ++ x ∷ later
    → StandsLeft xs before x ⊎ StandsRight xs ys before later x
where-it-stands [] ys before later x e = inr (record { mid = before; is = e; front = refl })
where-it-stands (a ∷ xs) ys [] later x e = inl (record { mid = xs; is = let h : a ≡ x = cc in ap (λ y. y ∷ xs) h })
where-it-stands (a ∷ xs) ys (b ∷ before) later x e = go (where-it-stands xs ys before later x (let t : xs ++ ys ≡ before ++ x ∷ later = cc in t))
  where
    h : a ≡ b
    h = cc

    go : StandsLeft xs before x ⊎ StandsRight xs ys before later x → StandsLeft (a ∷ xs) (b ∷ before) x ⊎ StandsRight (a ∷ xs) ys (b ∷ before) later x
    go (inl l) = inl (record { mid = l.mid; is = ap (λ y. y ∷ xs) h ∙ ap (λ l. b ∷ l) l.is })
    go (inr r) = inr (record { mid = r.mid; is = r.is; front = ap (λ y. y ∷ before) (sym h) ∙ ap (λ l. a ∷ l) r.front })

-- the last of a list stands at its end
pub at-the-end : {A : Type 0} (y x : A) (mid later : List A) → y ∷ [] ≡ mid ++ x ∷ later → (mid ≡ []) × (y ≡ x)
at-the-end y x [] later e = (refl, cc)
at-the-end y x (m ∷ []) later e = absurd (cc)
at-the-end y x (m ∷ n ∷ mid) later e = absurd (cc)

pub any-there : {A : Type 0} (p : A → Bool) (before later : List A) (x : A) → p x ≡ true → list_any p (before ++ x ∷ later) ≡ true
any-there p before later x h = list_any-append p before (x ∷ later) ∙ or_right (list_any p before) _ (or_left (p x) (list_any p later) h)

-- what none is, no part is
pub none-left : {A : Type 0} (p : A → Bool) (xs ys : List A) → list_any p (xs ++ ys) ≡ false → list_any p xs ≡ false
none-left p xs ys h = (or_parts (list_any p xs) (list_any p ys) (sym (list_any-append p xs ys) ∙ h)).0

pub none-right : {A : Type 0} (p : A → Bool) (xs ys : List A) → list_any p (xs ++ ys) ≡ false → list_any p ys ≡ false
none-right p xs ys h = (or_parts (list_any p xs) (list_any p ys) (sym (list_any-append p xs ys) ∙ h)).1

pub none-both : {A : Type 0} (p : A → Bool) (xs ys : List A) → list_any p xs ≡ false → list_any p ys ≡ false → list_any p (xs ++ ys) ≡ false
none-both p xs ys h k = list_any-append p xs ys ∙ or_from (list_any p xs) (list_any p ys) h k

pub none-of : {A : Type 0} (p q : A → Bool) → ((x : A) → p x ≡ false → q x ≡ false) → (xs : List A) → list_any p xs ≡ false → list_any q xs ≡ false
none-of p q f [] h = refl
none-of p q f (x ∷ xs) h = let parts = or_parts (p x) (list_any p xs) h in or_from (q x) (list_any q xs) (f x parts.0) (none-of p q f xs parts.1)

-- ---- notes

pub sends-append : (side : ℕ) (xs ys : Notes) → sends side (xs ++ ys) ≡ sends side xs ++ sends side ys
sends-append side xs ys = filter_map-append (sent_by side) xs ys

pub ends-append : (side : ℕ) (xs ys : Notes) → ends side (xs ++ ys) ≡ ends side xs + ends side ys
ends-append side xs ys = sum_by-append (λ (n : SideNote). if is_ended_of side n then 1 else 0) xs ys

-- none of these is the side's
pub foreign-sends : (side : ℕ) (ys : Notes) → list_any (is_own side) ys ≡ false → sends side ys ≡ []
foreign-sends side [] none = refl
foreign-sends side (y ∷ ys) none =
    let parts = or_parts (is_own side y) (list_any (is_own side) ys) none in
    ap (λ b. cons_option (if b then action_sent y.note else None) (sends side ys)) parts.0 ∙ foreign-sends side ys parts.1

pub foreign-ends : (side : ℕ) (ys : Notes) → list_any (is_own side) ys ≡ false → ends side ys ≡ 0
foreign-ends side [] none = refl
foreign-ends side (y ∷ ys) none =
    let parts = or_parts (is_own side y) (list_any (is_own side) ys) none in
    sum_by-cons (λ (n : SideNote). if is_ended_of side n then 1 else 0) y ys
    ∙ ap (λ b. (if b && is_ended y.note then 1 else 0) + ends side ys) parts.0 ∙ zero-add (ends side ys) ∙ foreign-ends side ys parts.1

-- what is no news is nothing that the other side has sent
pub no-news-sends : (side : ℕ) (ys : Notes) → list_any (is_news side) ys ≡ false → sends (across side) ys ≡ []
no-news-sends side [] none = refl
no-news-sends side (y ∷ ys) none =
    let parts = or_parts (is_news side y) (list_any (is_news side) ys) none in
    ap (λ o. cons_option o (sends (across side) ys)) (one (y.side == across side) y.note parts.0) ∙ no-news-sends side ys parts.1
  where
    one : (b : Bool) (note : Note) → (b && not (is_waiting note)) ≡ false → (if b then action_sent note else None) ≡ None
    one false note h = refl
    one true (Waiting n) h = refl
    one true Ended h = refl
    one true (Send a) h = absurd (cc)

-- its own notes among these are commands
abbrev pub SendsAlone : ℕ → Notes → Type 0
SendsAlone side notes = list_any (λ (n : SideNote). is_own side n && not (is_send n.note)) notes ≡ false

pub foreign-alone : (side : ℕ) (ys : Notes) → list_any (is_own side) ys ≡ false → SendsAlone side ys
foreign-alone side ys none = none-of (is_own side) (λ (n : SideNote). is_own side n && not (is_send n.note)) (λ n h. ap (λ b. b && not (is_send n.note)) h) ys none

itself : (side : ℕ) → (side == side) ≡ true
itself side = eq-eqb side side refl

-- no Waiting of the side is there
pub no-own-waiting : {P : Type 0} (side n : ℕ) (ys before later : Notes) → SendsAlone side ys → ys ≡ before ++ put_by side (Waiting n) ∷ later → P
no-own-waiting side n ys before later alone is =
    absurd (let k = any-there (λ (x : SideNote). is_own side x && not (is_send x.note)) before later (put_by side (Waiting n)) (and_from _ _ (itself side) refl) in
    let j = sym (ap (list_any (λ (x : SideNote). is_own side x && not (is_send x.note))) is) ∙ alone in
    let l = sym k ∙ j in cc)

-- what two notes have in common that are the same
pub same-length : (side m n : ℕ) → put_by side (Waiting m) ≡ put_by side (Waiting n) → m ≡ n
same-length side m n e = ap (λ (x : SideNote). length_of x.note) e
  where
    length_of : Note → ℕ
    length_of (Waiting k) = k
    length_of note = 0

pub ended-is-none : {P : Type 0} (side n : ℕ) → put_by side Ended ≡ put_by side (Waiting n) → P
ended-is-none side n e = absurd (true≢false (ap (λ (x : SideNote). is_ended x.note) e))

-- ---- what a side has said

abbrev pub say : ℕ → Option ℕ → SideNote → Option ℕ
say side before n = waited_with (n.side == side) before n.note

pub waited-append : (side : ℕ) (xs ys : Notes) → waited side (xs ++ ys) ≡ fold (say side) (waited side xs) ys
waited-append side xs ys = fold-append (say side) None xs ys

-- where none of these is a Waiting of its own, what it says now it has said before, and it has sent nothing since
pub still-said : (side n : ℕ) (ys : Notes) (before : Option ℕ) → SendsAlone side ys
    → fold (say side) before ys ≡ Some n → (before ≡ Some n) × (sends side ys ≡ [])
still-said side n [] before alone e = (e, refl)
still-said side n (y ∷ ys) before alone e =
    let a = or_parts (is_own side y && not (is_send y.note)) (list_any (λ (x : SideNote). is_own side x && not (is_send x.note)) ys) alone in
    let rest = still-said side n ys (say side before y) a.1 e in
    let one = by y.note (y.side == side) a.0 rest.0 in
    (one.0, ap (λ o. cons_option o (sends side ys)) one.1 ∙ rest.1)
  where
    by : (note : Note) (own : Bool) → (own && not (is_send note)) ≡ false → waited_with own before note ≡ Some n
        → (before ≡ Some n) × ((if own then action_sent note else None) ≡ None)
    by (Waiting m) true alone e = absurd (cc)
    by (Waiting m) false alone e = (e, refl)
    by (Send a) own alone e = absurd (cc)
    by Ended own alone e = absurd (cc)

-- the Waiting by which it has said so
pub record Said (side n : ℕ) (notes : Notes) : Type 0 where
  pub before : Notes
  pub later : Notes
  pub stands : notes ≡ before ++ put_by side (Waiting n) ∷ later

said-by : (side n : ℕ) (notes : Notes) (before : Option ℕ) → fold (say side) before notes ≡ Some n → (before ≡ Some n) ⊎ Said side n notes
said-by side n [] before e = inl e
said-by side n (y ∷ ys) before e = go (said-by side n ys (say side before y) e)
  where
    here : (s : ℕ) (note : Note) (own : Bool) → (s == side) ≡ own → waited_with own before note ≡ Some n → (before ≡ Some n) ⊎ Said side n (put_by s note ∷ ys)
    here s (Waiting m) true is e =
        let k : m ≡ n = same_Some m n e in
        inr (record { before = []; later = ys; stands = ap (λ x. put_by x (Waiting m) ∷ ys) (eqb-true s side is) ∙ ap (λ x. put_by side (Waiting x) ∷ ys) k })
    here s (Waiting m) false is e = inl e
    here s (Send a) own is e = absurd (cc)
    here s Ended own is e = absurd (cc)

    go : (say side before y ≡ Some n) ⊎ Said side n ys → (before ≡ Some n) ⊎ Said side n (y ∷ ys)
    go (inl e) = here y.side y.note (y.side == side) refl e
    go (inr s) = inr (record { before = y ∷ s.before; later = s.later; stands = ap (λ l. y ∷ l) s.stands })

pub said : (side n : ℕ) (notes : Notes) → waited side notes ≡ Some n → Said side n notes
said side n notes e = go (said-by side n notes None e)
  where
    go : (None ≡ Some n) ⊎ Said side n notes → Said side n notes
    go (inl e) = absurd (cc)
    go (inr s) = s

-- with which length
pub said-with : {P : Type 0} (o : Option ℕ) → is_some o ≡ true → ((n : ℕ) → o ≡ Some n → P) → P
said-with None h f = absurd (cc)
said-with (Some n) h f = f n refl

-- after news it has said nothing
pub news-said : (side : ℕ) (before : Option ℕ) (y : SideNote) → is_news side y ≡ true → say side before y ≡ None
news-said side before y h = by y.note (and_parts (y.side == across side) (not (is_waiting y.note)) h).1
  where
    by : (note : Note) → not (is_waiting note) ≡ true → waited_with (y.side == side) before note ≡ None
    by (Waiting n) h = absurd (cc)
    by (Send a) h = refl
    by Ended h = refl
