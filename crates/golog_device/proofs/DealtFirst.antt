-- A device is dealt with when it has begun, and while others add entries.
use Rattle.std.proofs.Common.{◌≡◌, ℕ, zero, suc, ◌+◌, ◌<◌, Bool, true, false, not, ◌||◌, if◌then◌else◌, Option, Some, None, List, [], ◌∷◌, ◌++◌, length, get_or, refl, sym, ap, ◌∙◌, subst, arith, append_assoc}
use Rattle.std.specs.Prelude.{IfSome, slice_get, nat_lt}
use Rattle.std.specs.List.{list_any, list_all, flat_map, enumerate_from}
use Rattle.std.proofs.lemmas.Bool.{or_right, lt-ltb, ne_eqb, eq-eqb}
use Rattle.std.proofs.lemmas.List.Elements.{filter-append}
use Rattle.std.proofs.lemmas.List.Folds.{list_any-append}
use Rattle.golog_tree.specs.declared.agent.Agent.{Agent}
use Rattle.golog_semantics.specs.declared.journal.Entry.TheVariants.{Close}
use Rattle.golog_semantics.specs.declared.journal.Reason.TheVariants.{Refused}
use Rattle.golog_semantics.specs.Journal.{Journal, is_posted_by, entries_by, is_close, is_open}
use Rattle.golog_semantics.specs.Text.{Text, at_each, device_text}
use Rattle.golog_semantics.specs.Dealt.{Meaning, Told, Script, item_of, items, GivenFits, wakes}
use Rattle.golog_journal.proofs.Staying.{open-same}
use Rattle.golog_device.specs.Devices.{emptied, renamed, HasBegun}
use Rattle.golog_device.specs.Slots.{Standing, Both, ChangesIf, BeginsUnless, name_at, refusal, refusals}
use Rattle.golog_device.specs.Dealing.{KeepsScript, DealtIf, DealtNow, HasLeft}
use Rattle.golog_device.specs.Laws.{DealtAtFirst, DealtStays}
use Rattle.golog_device.proofs.Dealing.{answered-others, so-far-answered, answered-so-far}

-- where a device's closing stands among the refusals
record Splits (device : ℕ) (journal : Journal) : Type 0 where
  pub before : Journal
  pub later : Journal
  pub is : journal ≡ before ++ Close device Refused 0 ∷ later

-- the refusals of the devices from `n` on
abbrev from : ℕ → List Bool → Journal
from n refused = flat_map refusal (enumerate_from n refused)

split-from : (n : ℕ) (refused : List Bool) (k device : ℕ) → device ≡ n + k → k < length refused → get_or refused k false ≡ true → Splits device (from n refused)
split-from n [] k device at inside is = absurd (omega (arith, inside))
split-from n (true ∷ refused) zero device at inside is =
    let same : device ≡ n = omega (arith, at) in
    record { before = []; later = from (n + 1) refused; is = ap (λ d. Close d Refused 0 ∷ from (n + 1) refused) (sym same) }
split-from n (false ∷ refused) zero device at inside is = absurd (cc)
split-from n (true ∷ refused) (suc k) device at inside is =
    let s = split-from (n + 1) refused k device (omega (arith, at)) (omega (arith, inside)) is in
    record { before = Close n Refused 0 ∷ s.before; later = s.later; is = ap (λ j. Close n Refused 0 ∷ j) s.is }
split-from n (false ∷ refused) (suc k) device at inside is =
    let s = split-from (n + 1) refused k device (omega (arith, at)) (omega (arith, inside)) is in
    record { before = s.before; later = s.later; is = s.is }

-- nothing is of a device before the first
none-before : (n : ℕ) (refused : List Bool) (device : ℕ) → device < n → entries_by device (from n refused) ≡ []
none-before n [] device low = refl
none-before n (true ∷ refused) device low =
    ap (λ b. if b then Close n Refused 0 ∷ entries_by device (from (n + 1) refused) else entries_by device (from (n + 1) refused))
    (ne_eqb n device (λ e. omega (arith, e, low)))
    ∙ none-before (n + 1) refused device (omega (arith, low))
none-before n (false ∷ refused) device low = none-before (n + 1) refused device (omega (arith, low))

-- nor of one that did not refuse
none-from : (n : ℕ) (refused : List Bool) (k device : ℕ) → device ≡ n + k → get_or refused k false ≡ false → entries_by device (from n refused) ≡ []
none-from n [] k device at is = refl
none-from n (true ∷ refused) zero device at is = absurd (cc)
none-from n (false ∷ refused) zero device at is = none-before (n + 1) refused device (omega (arith, at))
none-from n (true ∷ refused) (suc k) device at is =
    ap (λ b. if b then Close n Refused 0 ∷ entries_by device (from (n + 1) refused) else entries_by device (from (n + 1) refused))
    (ne_eqb n device (λ e. omega (arith, e, at)))
    ∙ none-from (n + 1) refused k device (omega (arith, at)) is
none-from n (false ∷ refused) (suc k) device at is = none-from (n + 1) refused k device (omega (arith, at)) is

module _ (agent : Agent) (device : ℕ) where
  -- closings ask nothing of a device
  rested-from : (before : Journal) (n : ℕ) (refused : List Bool)
      → list_all (λ b. b) (at_each (wakes agent device) before (from n refused)) ≡ true
  rested-from before n [] = refl
  rested-from before n (true ∷ refused) = rested-from (before ++ Close n Refused 0 ∷ []) (n + 1) refused
  rested-from before n (false ∷ refused) = rested-from before (n + 1) refused

  -- with entries behind its Close a device is not open
  shut-more : (before later : Journal) → is_open device (before ++ Close device Refused 0 ∷ later) ≡ false
  shut-more before later =
      ap (λ es. not (list_any is_close es)) (filter-append (is_posted_by device) before (Close device Refused 0 ∷ later))
      ∙ ap not
      (list_any-append is_close (entries_by device before) (entries_by device (Close device Refused 0 ∷ later))
      ∙ ap (λ b. list_any is_close (entries_by device before) || list_any is_close (if b then Close device Refused 0 ∷ entries_by device later else entries_by device later)) (eq-eqb device device refl)
      ∙ or_right (list_any is_close (entries_by device before)) true refl)

  dealt-refused : (refused : List Bool) (script : Script) (m : Meaning) → device < length refused → get_or refused device false ≡ true → m.left ≡ None
      → DealtNow agent device (refusals refused) 0 script m
  dealt-refused refused script m inside is untold =
      let s = split-from 0 refused device device (omega arith) inside is in
      let shut : is_open device (refusals refused) ≡ false = ap (is_open device) s.is ∙ shut-more s.before s.later in
      subst (λ b. DealtIf agent device b (refusals refused) 0 script m) (sym shut)
      (record { before = s.before; later = s.later; reason = Refused; taken = 0; closed = s.is; fits = untold })

  emptied-given : (o : Option _) → IfSome (emptied o) (λ given. GivenFits agent device false given [])
  emptied-given None = tt
  emptied-given (Some given) = refl

  emptied-told : (o : Option (List Told)) (journal : Journal) → entries_by device journal ≡ [] → IfSome (emptied o) (λ told. told ≡ items agent device journal)
  emptied-told None journal none = tt
  emptied-told (Some told) journal none = sym (ap (flat_map (item_of agent device)) none)

  keeps-first : (script : Script) (left : Option Script) (o : Option (List Told)) → IfSome left (λ l. l ≡ script)
      → IfSome left (λ l. IfSome (emptied o) (λ told. KeepsScript script l told))
  keeps-first script None o has = tt
  keeps-first script (Some l) None has = tt
  keeps-first script (Some l) (Some told) has = record { answers = ap (λ (x : Script). x.answers) has; idle = ap (λ (x : Script). x.idle) has }

  renamed-so : (o : Option Text) → IfSome (renamed o (device_text agent device)) (λ n. n ≡ device_text agent device)
  renamed-so None = tt
  renamed-so (Some name) = refl

  dealt-begun : (refused : List Bool) (script : Script) (old m : Meaning) (text : Text) → get_or refused device false ≡ false
      → HasBegun old m (device_text agent device) text → HasLeft script m → DealtNow agent device (refusals refused) 0 script m
  dealt-begun refused script old m text is begun has =
      let none : entries_by device (refusals refused) ≡ [] = none-from 0 refused device device (omega arith) is in
      let open_still : is_open device (refusals refused) ≡ true = ap (λ es. not (list_any is_close es)) none in
      subst (λ b. DealtIf agent device b (refusals refused) 0 script m) (sym open_still)
      (record {
        named = subst (λ o. IfSome o (λ n. n ≡ device_text agent device)) (sym begun.named) (renamed-so old.name);
        given =
            subst (λ c. IfSome m.given (λ given. GivenFits agent device c given [])) (sym begun.whole)
            (subst (λ o. IfSome o (λ given. GivenFits agent device false given [])) (sym begun.none_given) (emptied-given old.given));
        told = subst (λ o. IfSome o (λ told. told ≡ items agent device (refusals refused))) (sym begun.none_told) (emptied-told old.told (refusals refused) none);
        rested = rested-from [] 0 refused;
        left =
            subst (λ o. IfSome m.left (λ left. IfSome o (λ told. KeepsScript script left told))) (sym begun.none_told) (keeps-first script m.left old.told has);
      })

pub dealt_at_first : DealtAtFirst
dealt_at_first agent count texts journal olds news begun device below = go (slice_get olds device) (slice_get news device) ((begun.begun).at device)
  where
    inside : device < length begun.refused
    inside = let l = begun.one_each in omega (arith, l, below)

    by : (b : Bool) → get_or begun.refused device false ≡ b → (old new : Standing) → BeginsUnless b (name_at agent.devices device) (get_or texts device []) old new
        → (script : Script) → HasLeft script new.meaning → DealtNow agent device journal 0 script new.meaning
    by true is old new (same, untold) script has =
        subst (λ j. DealtNow agent device j 0 script new.meaning) (sym begun.closed)
        (dealt-refused agent device begun.refused script new.meaning inside is (ap (λ (s : Standing). s.meaning.left) same ∙ untold))
    by false is old new (fresh, begins) script has =
        subst (λ j. DealtNow agent device j 0 script new.meaning) (sym begun.closed)
        (dealt-begun agent device begun.refused script old.meaning new.meaning (get_or texts device []) is begins has)

    go : (x y : Option Standing)
        → Both (λ old new. ChangesIf (nat_lt device count) (BeginsUnless (get_or begun.refused device false) (name_at agent.devices device) (get_or texts device [])) old new) x y
        → IfSome y (λ s. (script : Script) → HasLeft script s.meaning → DealtNow agent device journal 0 script s.meaning)
    go None None both = tt
    go None (Some new) both = absurd both
    go (Some old) None both = tt
    go (Some old) (Some new) both =
        by (get_or begun.refused device false) refl old new
        (subst (λ b. ChangesIf b (BeginsUnless (get_or begun.refused device false) (name_at agent.devices device) (get_or texts device [])) old new) (lt-ltb device count below) both)

pub dealt_stays : DealtStays
dealt_stays agent journal others device taken script m foreign few dealt = go (is_open device journal) refl dealt
  where
    later : (b : Bool) → is_open device journal ≡ b → DealtIf agent device b (journal ++ others) taken script m → DealtNow agent device (journal ++ others) taken script m
    later b is h = subst (λ x. DealtIf agent device x (journal ++ others) taken script m) (sym (open-same agent journal others device foreign ∙ is)) h

    go : (b : Bool) → is_open device journal ≡ b → DealtIf agent device b journal taken script m → DealtNow agent device (journal ++ others) taken script m
    go true is far =
        later true is
        (answered-so-far agent device (journal ++ others) taken script m
        (answered-others agent device journal others taken m [] foreign few (so-far-answered agent device journal taken script m far)) far.left)
    go false is dealt =
        later false is (record {
          before = dealt.before;
          later = dealt.later ++ others;
          reason = dealt.reason;
          taken = dealt.taken;
          closed = ap (λ j. j ++ others) dealt.closed ∙ append_assoc dealt.before (Close device dealt.reason dealt.taken ∷ dealt.later) others;
          fits = dealt.fits;
        })
