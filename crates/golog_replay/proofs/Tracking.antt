-- What is kept of the devices with one more entry.
use Rattle.std.proofs.Common.{◌≡◌, ◌≢◌, ℕ, suc, ◌+◌, ◌≤◌, ◌<◌, Bool, true, false, not, ◌&&◌, ◌||◌, ◌==◌, if◌then◌else◌, List, [], ◌∷◌, ◌++◌, length, length-append, set, get_or, Option, Some, None, ◌⊎◌, inl, inr, refl, sym, ap, ◌∙◌, subst, arith, get_or-set_same, get_or-set_other, length-set, replicate}
use Rattle.std.specs.Prelude.{Contains, MatchOption, is_some, max, nat_le}
use Rattle.std.specs.List.{list_all, list_any, range_with_len}
use Rattle.std.specs.Option.{option_map_or, option_or, option_to_list}
use Rattle.std.proofs.lemmas.Bool.{and_from, cases_eq, eq-eqb, le-leb, leb-false, leb-true, lt-leb, ne_eqb}
use Rattle.std.proofs.lemmas.List.{append-nil, get_or-replicate, length-replicate}
use Rattle.std.proofs.lemmas.List.Folds.{list_all-append}
use Rattle.golog_base.proofs.Bools.{and-false, and-true}
use Rattle.golog_tree.specs.declared.agent.Agent.{Agent}
use Rattle.golog_semantics.specs.declared.journal.Answer.{Answer}
use Rattle.golog_semantics.specs.declared.journal.Entry.{Entry}
use Rattle.golog_semantics.specs.declared.journal.Entry.TheVariants.{Do, Test, Exo, Sense, Rest, Close, End}
use Rattle.golog_semantics.specs.Ways.{is_empty}
use Rattle.golog_semantics.specs.Journal.{Journal, Command, commands, device_of, has_end, is_at_rest, is_carried_by, is_close, is_open, is_posted_by, is_quiet, is_rest_after, is_result_of, lacks_result, lacks_results, last_of, may_be_answered, entries_by, poster_of}
use Rattle.golog_semantics.specs.Online.{is_whole, keeps_place, may_have_taken, told_taken}
use Rattle.golog_semantics.specs.OneMore.{and_then, new_command}
use Rattle.golog_semantics.proofs.Grown.{commands_grow, posts_grow, posted-push}
use Rattle.golog_semantics.proofs.Pushed.{fold-push}
use Rattle.golog_journal.specs.Tallies.{rested_after}
use Rattle.golog_journal.proofs.Staying.{told-all, told-same}
use Rattle.golog_replay.specs.declared.tracked.Awaited.{Awaited}
use Rattle.golog_replay.specs.declared.tracked.Tracked.{Tracked}
use Rattle.golog_replay.specs.Standings.{AreEarlier, AreTracked, AwaitsFrom, EndsBy, IsTracked, awaited_by, is_quiet_by, may_tell, told_by, untouched}
use Rattle.golog_replay.proofs.Awaiting.{awaits-more, awaits-same, earlier-place, its-result, lacks-by, none-any, others-untold, tells-number}

-- ---- no entry

pub start-tracked : (agent : Agent) (ts : List Tracked) → ts ≡ replicate (length agent.devices) untouched → AreTracked agent [] ts
start-tracked agent ts are =
    let long : length ts ≡ length agent.devices = ap (λ (xs : List Tracked). length xs) are ∙ length-replicate (length agent.devices) untouched in
    record {
      one_each = long;
      each = λ d x below.
          subst (IsTracked agent [] d) (sym (ap (λ (xs : List Tracked). get_or xs d x) are ∙ get_or-replicate (length agent.devices) d untouched x (omega (arith, below, long)))) start;
    }
  where
    start : {d : ℕ} → IsTracked agent [] d untouched
    start = record {
      open_so = refl;
      silent_so = refl;
      commands_so = refl;
      few = omega arith;
      told_so = λ taken. sym (le-leb 0 taken (omega arith));
      rested_so = refl;
      awaits = record { answered = []; coming = []; split = refl; come = refl; to_come = refl; first_so = refl };
    }

-- ---- what the rules ask

module _ (agent : Agent) (journal : Journal) where
  pub tracked-here : (items ts : List Tracked) → AreTracked agent journal items → ts ≡ items → (device : ℕ) → device < length agent.devices
      → (t : Tracked) → ((d : Tracked) → t ≡ get_or ts device d) → IsTracked agent journal device t
  tracked-here items ts are same device low t is =
      let one = are.one_each in
      subst (IsTracked agent journal device) (sym (is t ∙ ap (λ (xs : List Tracked). get_or xs device t) same)) (are.each device t (omega (arith, one, low)))

  pub may-by : (d taken : ℕ) (t : Tracked) → IsTracked agent journal d t → may_have_taken agent journal d taken ≡ (nat_le taken t.commands && nat_le t.told taken)
  may-by d taken t is =
      ap (λ n. nat_le taken n && list_all (λ e. nat_le (told_taken agent journal e) taken) (entries_by d journal)) (sym is.commands_so)
      ∙ ap (λ b. nat_le taken t.commands && b) (is.told_so taken)

  resting : (n : ℕ) (o : Option Entry) → option_map_or (λ rested. rested == n) (rested_after o) false ≡ option_map_or (is_rest_after n) o false
  resting n None = refl
  resting n (Some (Rest p taken)) = refl
  resting n (Some (Do action)) = refl
  resting n (Some Test) = refl
  resting n (Some (Exo p a)) = refl
  resting n (Some (Sense p at f v)) = refl
  resting n (Some (Close p r t)) = refl
  resting n (Some (End a)) = refl

  one-quiet : (d : ℕ) (t : Tracked) → IsTracked agent journal d t → is_quiet_by t ≡ (not (is_open d journal) || is_at_rest agent journal d)
  one-quiet d t is =
      ap (λ b. not b || option_map_or (λ rested. rested == t.commands) t.rested false) is.open_so
      ∙ ap (λ o. not (is_open d journal) || option_map_or (λ rested. rested == t.commands) o false) is.rested_so
      ∙ ap (λ b. not (is_open d journal) || b) (resting t.commands (last_of (entries_by d journal)))
      ∙ ap (λ n. not (is_open d journal) || option_map_or (is_rest_after n) (last_of (entries_by d journal)) false) is.commands_so

  all-of : (f : Tracked → Bool) (g : ℕ → Bool) (ts : List Tracked) (a : ℕ) → ((k : ℕ) (d : Tracked) → k < length ts → f (get_or ts k d) ≡ g (a + k))
      → list_all f ts ≡ list_all g (range_with_len a (length ts))
  all-of f g [] a h = refl
  all-of f g (t ∷ ts) a h =
      let first : f t ≡ g a = h 0 t (omega arith) ∙ ap g (omega arith) in
      let others = all-of f g ts (a + 1) (λ k d below. h (suc k) d (omega (arith, below)) ∙ ap g (omega arith)) in
      ap (λ b. b && list_all f ts) first ∙ ap (λ b. g a && b) others

  any-of : (f : Tracked → Bool) (g : ℕ → Bool) (ts : List Tracked) (a : ℕ) → ((k : ℕ) (d : Tracked) → k < length ts → f (get_or ts k d) ≡ g (a + k))
      → list_any f ts ≡ list_any g (range_with_len a (length ts))
  any-of f g [] a h = refl
  any-of f g (t ∷ ts) a h =
      let first : f t ≡ g a = h 0 t (omega arith) ∙ ap g (omega arith) in
      let others = any-of f g ts (a + 1) (λ k d below. h (suc k) d (omega (arith, below)) ∙ ap g (omega arith)) in
      ap (λ b. b || list_any f ts) first ∙ ap (λ b. g a || b) others

  pub quiet-all : (ts : List Tracked) → AreTracked agent journal ts → list_all is_quiet_by ts ≡ is_quiet agent journal
  quiet-all ts are =
      all-of is_quiet_by (λ d. not (is_open d journal) || is_at_rest agent journal d) ts 0
      (λ k d below. one-quiet k (get_or ts k d) (are.each k d below) ∙ ap (λ n. not (is_open n journal) || is_at_rest agent journal n) (omega arith))
      ∙ ap (λ n. list_all (λ d. not (is_open d journal) || is_at_rest agent journal d) (range_with_len 0 n)) are.one_each

  pub open-any : (ts : List Tracked) → AreTracked agent journal ts
      → list_any (λ (t : Tracked). t.is_open) ts ≡ list_any (λ d. is_open d journal) (range_with_len 0 (length agent.devices))
  open-any ts are =
      any-of (λ t. t.is_open) (λ d. is_open d journal) ts 0
      (λ k d below. (are.each k d below).open_so ∙ ap (λ n. is_open n journal) (omega arith))
      ∙ ap (λ n. list_any (λ d. is_open d journal) (range_with_len 0 n)) are.one_each

  pub lacks-any : (ts : List Tracked) → AreTracked agent journal ts → list_any (λ (t : Tracked). is_some t.first) ts ≡ lacks_results agent journal
  lacks-any ts are =
      any-of (λ t. is_some t.first) (lacks_result agent journal) ts 0
      (λ k d below. lacks-by agent journal k (get_or ts k d).first (are.each k d below).awaits ∙ ap (lacks_result agent journal) (omega arith))
      ∙ ap (λ n. list_any (lacks_result agent journal) (range_with_len 0 n)) are.one_each

  pub may-any : (ts : List Tracked) → AreTracked agent journal ts → list_any may_tell ts ≡ may_be_answered agent journal
  may-any ts are =
      any-of may_tell (λ d. is_open d journal && lacks_result agent journal d) ts 0
      (λ k d below.
      ap (λ b. b && is_some (get_or ts k d).first) (are.each k d below).open_so
      ∙ ap (λ b. is_open k journal && b) (lacks-by agent journal k (get_or ts k d).first (are.each k d below).awaits)
      ∙ ap (λ n. is_open n journal && lacks_result agent journal n) (omega arith))
      ∙ ap (λ n. list_any (λ d. is_open d journal && lacks_result agent journal d) (range_with_len 0 n)) are.one_each

  abbrev any-open : Bool
  any-open = list_any (λ d. is_open d journal) (range_with_len 0 (length agent.devices))

  pub not-whole : (ts : List Tracked) → AreTracked agent journal ts → list_any (λ (t : Tracked). t.is_open) ts ≡ true → is_whole agent journal ≡ false
  not-whole ts are h = ap (λ b. has_end journal && not b) (sym (open-any ts are) ∙ h) ∙ and-false (has_end journal)

  pub whole-by : (ts : List Tracked) → AreTracked agent journal ts → list_any (λ (t : Tracked). t.is_open) ts ≡ false → (ended : Option Answer) → EndsBy journal ended
      → MatchOption ended (is_whole agent journal ≡ false) (λ answer. (is_whole agent journal ≡ true) × Contains journal (End answer))
  whole-by ts are h None ends = ap (λ b. b && not any-open) ends
  whole-by ts are h (Some answer) ends = (
    ap (λ b. b && not any-open) ends.0 ∙ ap not (sym (open-any ts are) ∙ h),
    ends.1,
  )

-- ---- one more entry

max-below : (a b n : ℕ) → (nat_le a n && nat_le b n) ≡ nat_le (max a b) n
max-below a b n = go (nat_le a n) (nat_le b n) refl refl
  where
    go : (x y : Bool) → nat_le a n ≡ x → nat_le b n ≡ y → (nat_le a n && nat_le b n) ≡ nat_le (max a b) n
    go true true e k =
        let low = leb-true a n e in
        let high = leb-true b n k in
        and_from (nat_le a n) (nat_le b n) e k ∙ sym (le-leb (max a b) n (omega (arith, low, high)))
    go true false e k =
        let high = leb-false b n k in
        ap (λ x. x && nat_le b n) e ∙ k ∙ sym (lt-leb (max a b) n (omega (arith, high)))
    go false y e k =
        let high = leb-false a n e in
        ap (λ x. x && nat_le b n) e ∙ sym (lt-leb (max a b) n (omega (arith, high)))

module _ (agent : Agent) (journal : Journal) (e : Entry) (results : AreEarlier journal) where
  abbrev after : Journal
  after = and_then journal e

  longer : length after ≡ length journal + 1
  longer = length-append journal (e ∷ [])

  posted-other : (d : ℕ) → is_posted_by d e ≡ false → entries_by d after ≡ entries_by d journal
  posted-other d other = posted-push journal e d ∙ ap (λ b. entries_by d journal ++ (if b then e ∷ [] else [])) other ∙ append-nil (entries_by d journal)

  posted-own : (d : ℕ) → is_posted_by d e ≡ true → entries_by d after ≡ entries_by d journal ++ e ∷ []
  posted-own d own = posted-push journal e d ∙ ap (λ b. entries_by d journal ++ (if b then e ∷ [] else [])) own

  same-commands : (d : ℕ) → new_command agent journal e d ≡ [] → commands agent d after ≡ commands agent d journal
  same-commands d none = (commands_grow agent journal e d).all ∙ ap (λ cs. commands agent d journal ++ cs) none ∙ append-nil (commands agent d journal)

  told-still : (d taken : ℕ) → list_all (λ x. nat_le (told_taken agent after x) taken) (entries_by d journal) ≡ list_all (λ x. nat_le (told_taken agent journal x) taken) (entries_by d journal)
  told-still d taken = told-all agent journal (e ∷ []) taken (is_posted_by d) journal results

  -- the entry is not the device's, whose commands are these then
  sent-so : (d n : ℕ) (t new : Tracked) → is_posted_by d e ≡ false → length (commands agent d after) ≡ length (commands agent d journal) + n → n ≤ 1
      → new.is_open ≡ t.is_open → new.is_silent ≡ t.is_silent → new.commands ≡ t.commands + n → new.told ≡ t.told → new.rested ≡ t.rested
      → AwaitsFrom agent after d new.first → IsTracked agent journal d t → IsTracked agent after d new
  sent-so d n t new other more one opened silent commands told rested awaits is = record {
    open_so = opened ∙ is.open_so ∙ ap (λ es. not (list_any is_close es)) (sym (posted-other d other));
    silent_so = silent ∙ is.silent_so ∙ ap is_empty (sym (posted-other d other));
    commands_so = let k = is.commands_so in omega (arith, commands, more, k);
    few = let k = is.few in let l = longer in omega (arith, commands, one, k, l);
    told_so = λ taken.
        ap (list_all (λ x. nat_le (told_taken agent after x) taken)) (posted-other d other)
        ∙ told-still d taken ∙ is.told_so taken ∙ ap (λ k. nat_le k taken) (sym told);
    rested_so = rested ∙ is.rested_so ∙ ap (λ es. rested_after (last_of es)) (sym (posted-other d other));
    awaits = awaits;
  }

  -- the entry is no result of the device's commands that are to come
  abbrev LeavesOut : ℕ → Type 0
  LeavesOut d = (o : Option Awaited) → (is : AwaitsFrom agent journal d o) → list_any (λ (c : Command). is_result_of c.place e) is.coming ≡ false

  same-so : (d : ℕ) (t : Tracked) → is_posted_by d e ≡ false → new_command agent journal e d ≡ [] → LeavesOut d → IsTracked agent journal d t → IsTracked agent after d t
  same-so d t other none untold is =
      sent-so d 0 t t other
      (let k = ap (λ (cs : List Command). length cs) (same-commands d none) in omega (arith, k)) (omega arith) refl refl (omega arith) refl refl
      (awaits-same agent journal e d none t.first is.awaits (untold t.first is.awaits)) is

  pub own-so : (d : ℕ) (t new : Tracked) → is_posted_by d e ≡ true → new_command agent journal e d ≡ []
      → told_taken agent after e ≡ told_by e t.first
      → new.is_open ≡ (t.is_open && not (is_close e)) → new.is_silent ≡ false → new.commands ≡ t.commands → new.told ≡ max t.told (told_by e t.first) → new.rested ≡ rested_after (Some e)
      → AwaitsFrom agent after d new.first → IsTracked agent journal d t → IsTracked agent after d new
  own-so d t new own none tells opened silent commands told rested awaits is = record {
    open_so = opened ∙ ap (λ b. b && not (is_close e)) is.open_so ∙ ap (λ b. is_open d journal && not (b && is_close e)) (sym own) ∙ sym (posts_grow journal e d).open_still;
    silent_so = silent ∙ sym (ap is_empty (posted-own d own) ∙ some (entries_by d journal));
    commands_so = commands ∙ is.commands_so ∙ ap (λ (cs : List Command). length cs) (sym (same-commands d none));
    few = let k = is.few in let l = longer in omega (arith, commands, k, l);
    told_so = λ taken.
        ap (list_all (λ x. nat_le (told_taken agent after x) taken)) (posted-own d own)
        ∙ list_all-append (λ x. nat_le (told_taken agent after x) taken) (entries_by d journal) (e ∷ [])
        ∙ ap (λ b. b && (nat_le (told_taken agent after e) taken && true)) (told-still d taken ∙ is.told_so taken)
        ∙ ap (λ k. nat_le t.told taken && (nat_le k taken && true)) tells
        ∙ ap (λ b. nat_le t.told taken && b) (and-true (nat_le (told_by e t.first) taken))
        ∙ max-below t.told (told_by e t.first) taken ∙ ap (λ k. nat_le k taken) (sym told);
    rested_so = rested ∙ ap rested_after (sym (fold-push _ None (entries_by d journal) e)) ∙ ap (λ es. rested_after (last_of es)) (sym (posted-own d own));
    awaits = awaits;
  }
    where
      some : (es : Journal) → is_empty (es ++ e ∷ []) ≡ false
      some [] = refl
      some (x ∷ es) = refl

  -- nothing changes
  pub none-change : (ts : List Tracked) → ((d : ℕ) → is_posted_by d e ≡ false) → ((d : ℕ) → new_command agent journal e d ≡ []) → ((d : ℕ) → LeavesOut d)
      → AreTracked agent journal ts → AreTracked agent after ts
  none-change ts others none untold are = record {
    one_each = are.one_each;
    each = λ d x below. same-so d (get_or ts d x) (others d) (none d) (untold d) (are.each d x below);
  }

  -- what is kept of one device changes
  pub one-changes : (ts : List Tracked) (i : ℕ) (new : Tracked) → i < length ts
      → ((d : ℕ) → d ≢ i → (is_posted_by d e ≡ false) × (new_command agent journal e d ≡ [])) → ((d : ℕ) → d ≢ i → LeavesOut d)
      → IsTracked agent after i new → AreTracked agent journal ts → AreTracked agent after (set ts i new)
  one-changes ts i new inside others untold this are = record {
    one_each = length-set ts i new ∙ are.one_each;
    each = each;
  }
    where
      each : (d : ℕ) (x : Tracked) → d < length (set ts i new) → IsTracked agent after d (get_or (set ts i new) d x)
      each d x below = go (cases_eq d i)
        where
          within : d < length ts
          within = let l = length-set ts i new in omega (arith, l, below)

          go : (d ≡ i) ⊎ (d ≡ i → ⊥) → IsTracked agent after d (get_or (set ts i new) d x)
          go (inl same) =
              subst (λ k. IsTracked agent after k (get_or (set ts i new) k x)) (sym same)
              (subst (IsTracked agent after i) (sym (get_or-set_same ts i new x inside)) this)
          go (inr other) =
              let apart = others d other in
              subst (IsTracked agent after d) (sym (get_or-set_other ts i d new x other)) (same-so d (get_or ts d x) apart.0 apart.1 (untold d other) (are.each d x within))

-- ---- an action

module _ (agent : Agent) (journal : Journal) (action : ℕ) (results : AreEarlier journal) where
  no-command : (d : ℕ) → is_carried_by agent d action ≡ false → new_command agent journal (Do action) d ≡ []
  no-command d h = ap (λ b. option_to_list (if b then Some (record { place = length journal; action = action }) else None)) h

  no-result : (d : ℕ) → LeavesOut agent journal (Do action) results d
  no-result d o is = none-any (λ (c : Command). is_result_of c.place (Do action)) is.coming (λ c. refl)

  pub nobody-sent : device_of agent action ≡ None → (ts : List Tracked) → AreTracked agent journal ts → AreTracked agent (and_then journal (Do action)) ts
  nobody-sent none ts are =
      none-change agent journal (Do action) results ts (λ d. refl) (λ d. no-command d (ap (λ o. option_map_or (λ k. k == d) o false) none)) no-result are

  pub one-sent : (device : ℕ) → device_of agent action ≡ Some device → (ts : List Tracked) (t new : Tracked) → device < length ts → t ≡ get_or ts device new
      → new.is_open ≡ t.is_open → new.is_silent ≡ t.is_silent → new.commands ≡ t.commands + 1 → new.told ≡ t.told → new.rested ≡ t.rested
      → new.first ≡ option_or t.first (awaited_by agent (length journal) action (t.commands + 1))
      → AreTracked agent journal ts → AreTracked agent (and_then journal (Do action)) (set ts device new)
  one-sent device sent ts t new inside was opened silent sends told rested first are =
      one-changes agent journal (Do action) results ts device new inside
      (λ d other. (refl, no-command d (ap (λ o. option_map_or (λ k. k == d) o false) sent ∙ ne_eqb device d (λ same. other (sym same)))))
      (λ d other. no-result d)
      (sent-so agent journal (Do action) results device 1 t new refl more (omega arith) opened silent sends told rested
      (subst (AwaitsFrom agent (and_then journal (Do action)) device) (sym first)
      (awaits-more agent journal action results device new-one t.first here.awaits t.commands here.commands_so))
      here)
      are
    where
      here : IsTracked agent journal device t
      here = subst (IsTracked agent journal device) (sym was) (are.each device new inside)

      own : is_carried_by agent device action ≡ true
      own = ap (λ o. option_map_or (λ k. k == device) o false) sent ∙ eq-eqb device device refl

      new-one : new_command agent journal (Do action) device ≡ record { place = length journal; action = action } ∷ []
      new-one = ap (λ b. option_to_list (if b then Some (record { place = length journal; action = action }) else None)) own

      more : length (commands agent device (and_then journal (Do action))) ≡ length (commands agent device journal) + 1
      more =
          ap (λ (cs : List Command). length cs) ((commands_grow agent journal (Do action) device).all ∙ ap (λ cs. commands agent device journal ++ cs) new-one)
          ∙ length-append (commands agent device journal) (record { place = length journal; action = action } ∷ [])

-- ---- an entry of a device

module _ (agent : Agent) (journal : Journal) (results : AreEarlier journal) where
  abbrev IsPosted : Entry → ℕ → Type 0
  IsPosted e p = poster_of e ≡ Some p

  -- it is no command
  no-new : (e : Entry) (p : ℕ) → poster_of e ≡ Some p → (d : ℕ) → new_command agent journal e d ≡ []
  no-new (Do action) p h d = absurd (cc)
  no-new Test p h d = absurd (cc)
  no-new (Exo q a) p h d = refl
  no-new (Sense q at f v) p h d = refl
  no-new (Rest q t) p h d = refl
  no-new (Close q r t) p h d = refl
  no-new (End a) p h d = absurd (cc)

  -- the first of its commands whose result is to come tells how many it had taken
  tells-so : (e : Entry) (p : ℕ) → poster_of e ≡ Some p → keeps_place agent journal e ≡ true → (o : Option Awaited) → AwaitsFrom agent journal p o
      → told_taken agent (and_then journal e) e ≡ told_by e o
  tells-so (Do action) p h k o is = absurd (cc)
  tells-so Test p h k o is = absurd (cc)
  tells-so (Exo q a) p h k o is = refl
  tells-so (Sense q at f v) p h k o is =
      let same : q ≡ p = cc in
      let r = its-result agent journal q o (subst (λ d. AwaitsFrom agent journal d o) (sym same) is) at f v k in
      told-same agent journal (Sense q at f v ∷ []) (Sense q at f v)
      (λ place high. ne_eqb at place (λ e. let low = earlier-place agent journal q at o r in omega (arith, e, high, low)))
      ∙ tells-number agent journal q at f v o r
  tells-so (Rest q n) p h k o is = refl
  tells-so (Close q r n) p h k o is = refl
  tells-so (End a) p h k o is = absurd (cc)

  -- it is the result of no command of another device
  untold-so : (e : Entry) (p : ℕ) → poster_of e ≡ Some p → keeps_place agent journal e ≡ true → (o : Option Awaited) → AwaitsFrom agent journal p o
      → (d : ℕ) → d ≢ p → LeavesOut agent journal e results d
  untold-so (Do action) p h k o is d other = absurd (cc)
  untold-so Test p h k o is d other = absurd (cc)
  untold-so (Exo q a) p h k o is d other = λ first here. none-any (λ (c : Command). is_result_of c.place (Exo q a)) here.coming (λ c. refl)
  untold-so (Sense q at f v) p h k o is d other =
      let same : q ≡ p = cc in
      let r = its-result agent journal q o (subst (λ d. AwaitsFrom agent journal d o) (sym same) is) at f v k in
      others-untold agent journal q at f v d (λ e. other (sym e ∙ same)) o r
  untold-so (Rest q n) p h k o is d other = λ first here. none-any (λ (c : Command). is_result_of c.place (Rest q n)) here.coming (λ c. refl)
  untold-so (Close q r n) p h k o is d other = λ first here. none-any (λ (c : Command). is_result_of c.place (Close q r n)) here.coming (λ c. refl)
  untold-so (End a) p h k o is d other = absurd (cc)

  pub one-posts : (e : Entry) (p : ℕ) → poster_of e ≡ Some p → keeps_place agent journal e ≡ true → (ts : List Tracked) (t new : Tracked) → p < length ts → t ≡ get_or ts p new
      → new.is_open ≡ (t.is_open && not (is_close e)) → new.is_silent ≡ false → new.commands ≡ t.commands → new.told ≡ max t.told (told_by e t.first) → new.rested ≡ rested_after (Some e)
      → AwaitsFrom agent (and_then journal e) p new.first → AreTracked agent journal ts → AreTracked agent (and_then journal e) (set ts p new)
  one-posts e p own place ts t new inside was opened silent commands told rested awaits are =
      one-changes agent journal e results ts p new inside
      (λ d other. (ap (λ o. option_map_or (λ k. k == d) o false) own ∙ ne_eqb p d (λ same. other (sym same)), no-new e p own d))
      (untold-so e p own place t.first here.awaits)
      (own-so agent journal e results p t new (ap (λ o. option_map_or (λ k. k == p) o false) own ∙ eq-eqb p p refl) (no-new e p own p)
      (tells-so e p own place t.first here.awaits) opened silent commands told rested awaits here)
      are
    where
      here : IsTracked agent journal p t
      here = subst (IsTracked agent journal p) (sym was) (are.each p new inside)

  -- it is of no device, and no action
  pub nobody-so : (e : Entry) → poster_of e ≡ None → ((action : ℕ) → e ≡ Do action → ⊥) → (ts : List Tracked) → AreTracked agent journal ts → AreTracked agent (and_then journal e) ts
  nobody-so (Do action) own other ts are = absurd (other action refl)
  nobody-so Test own other ts are = none-change agent journal Test results ts (λ d. refl) (λ d. refl) (λ d o is. none-any (λ (c : Command). is_result_of c.place Test) is.coming (λ c. refl)) are
  nobody-so (End a) own other ts are = none-change agent journal (End a) results ts (λ d. refl) (λ d. refl) (λ d o is. none-any (λ (c : Command). is_result_of c.place (End a)) is.coming (λ c. refl)) are
  nobody-so (Exo q a) own other ts are = absurd (cc)
  nobody-so (Sense q at f v) own other ts are = absurd (cc)
  nobody-so (Rest q t) own other ts are = absurd (cc)
  nobody-so (Close q r t) own other ts are = absurd (cc)
