-- A round of a run without threads, and the rounds so far.
use Rattle.std.proofs.Common.{◌≡◌, ◌≢◌, ℕ, zero, suc, ◌+◌, ◌<◌, ◌≤◌, Bool, true, false, not, ◌||◌, ◌⊎◌, List, [], ◌∷◌, ◌++◌, length, length-append, drop, refl, sym, ap, ◌∙◌, subst, append_assoc, inl, inr, arith, nat_lt}
use Rattle.std.specs.Prelude.{IsTrue, slice_get, option_map, option_and_then}
use Rattle.std.specs.List.{list_all, list_any, range_with_len, sum}
use Rattle.std.proofs.lemmas.Bool.{and_from, and_left, and_parts, or_left, or_right, or_from, cases_lt, false_from_ne_true}
use Rattle.std.proofs.lemmas.List.{append-nil, take_all}
use Rattle.std.proofs.lemmas.List.Folds.{list_any-append}
use Rattle.std.proofs.Math.ListN.{drop_of_length-le}
use Rattle.golog_tree.specs.declared.agent.Agent.{Agent}
use Rattle.golog_semantics.specs.declared.journal.Entry.{Entry}
use Rattle.golog_semantics.specs.declared.journal.Entry.TheVariants.{Do, Test, Exo, Sense, Rest, Close, End}
use Rattle.golog_semantics.specs.declared.journal.Answer.{Answer}
use Rattle.golog_semantics.specs.Journal.{Journal, devices, is_posted_by, is_open, is_at_rest, is_quiet, has_end}
use Rattle.golog_semantics.specs.Inline.{Scripted, after_lead, turns_from}
use Rattle.golog_semantics.specs.Online.{is_whole}
use Rattle.golog_journal.specs.Boards.{IsBoardList}
use Rattle.golog_journal.specs.Growing.{Sight, party_of}
use Rattle.golog_journal.specs.Laws.{AreNotOf}
use Rattle.golog_journal.specs.Leading.{AddsEndAtMost, Leads, Mind, TakesTurn, is_of_program, may_come}
use Rattle.golog_journal.proofs.Staying.{ready_stays}
use Rattle.golog_device.specs.Turns.{SameBoard}
use Rattle.golog_device.specs.Dealing.{scripted, DealtNow}
use Rattle.golog_device.specs.Slots.{Standing, EachSlot, ChangesIf}
use Rattle.golog_device.proofs.DealtFirst.{dealt_stays}
use Rattle.golog_device.proofs.Standings.{EachSlot-then, EachSlot-same}
use Rattle.golog_lead.specs.Rounds.{is_refusal}
use Rattle.golog_lead.specs.Short.{EndsShort}
use Rattle.golog_lead.specs.Moments.{Moment, taken_by, progress, told_at, MayGoOn, RestsAt, StaysDealt, DealsOn, AreScripted, IsStage, turned, LeaveAll, TurnsMade, RoundIs, RoundMade}
use Rattle.golog_lead.proofs.Over.{over_is, whole_is}
use Rattle.golog_lead.proofs.OneTurn.{few-more}
use Rattle.golog_lead.proofs.Serving.{open-same}

-- a test holds of each number of a range
all-range : (p : ℕ → Bool) (from n : ℕ) → ((d : ℕ) → d < from + n → p d ≡ true) → list_all p (range_with_len from n) ≡ true
all-range p from zero holds = refl
all-range p from (suc n) holds = and_from _ _ (holds from (omega arith)) (all-range p (from + 1) n (λ d l. holds d (omega (arith, l))))

-- the board stays the same over the turn of a lead
pub turn-board : (old new : Sight) → Leads old new → SameBoard old new
turn-board old new leads = record { same_agent = leads.same_agent; same_alone = leads.same_alone; same_holds = leads.same_holds }

-- an entry of the program is no device's, and refuses no script
foreign-one : (device : ℕ) (e : Entry) → is_of_program e ≡ true → is_posted_by device e ≡ false
foreign-one device (Do action) h = refl
foreign-one device Test h = refl
foreign-one device (End answer) h = refl
foreign-one device (Exo poster action) h = absurd (cc)
foreign-one device (Sense poster place fluent value) h = absurd (cc)
foreign-one device (Rest poster taken) h = absurd (cc)
foreign-one device (Close poster reason taken) h = absurd (cc)

plain-one : (e : Entry) → is_of_program e ≡ true → is_refusal e ≡ false
plain-one (Do action) h = refl
plain-one Test h = refl
plain-one (End answer) h = refl
plain-one (Exo poster action) h = absurd (cc)
plain-one (Sense poster place fluent value) h = absurd (cc)
plain-one (Rest poster taken) h = absurd (cc)
plain-one (Close poster reason taken) h = absurd (cc)

-- where no one else adds, entries of the program alone come
own-one : (sight : Sight) (e : Entry) → sight.alone ≡ true → may_come sight e ≡ true → is_of_program e ≡ true
own-one sight e alone h = by (is_of_program e) sight.alone alone h
  where
    by : (own lone : Bool) → lone ≡ true → (own || not (lone || sight.holds (party_of e))) ≡ true → own ≡ true
    by true lone is may = refl
    by false true is may = absurd (cc)
    by false false is may = absurd (cc)

none-of : (p : Entry → Bool) (sight : Sight) → ((e : Entry) → is_of_program e ≡ true → p e ≡ false) → sight.alone ≡ true → (since : Journal)
    → list_all (may_come sight) since ≡ true → list_any p since ≡ false
none-of p sight none alone [] all = refl
none-of p sight none alone (e ∷ since) all =
    let parts = and_parts (may_come sight e) (list_all (may_come sight) since) all in
    or_from _ _ (none e (own-one sight e alone parts.0)) (none-of p sight none alone since parts.1)

-- what the program's turn made of a list to which no one else adds, by a lead that waits where `waits` says
pub record ProgramMade (waits : Journal → Bool) (old new : Journal) : Type 0 where
  pub since : Journal
  pub grows : new ≡ old ++ since
  pub foreign : (device : ℕ) → AreNotOf device since
  pub unrefused : list_any is_refusal since ≡ false
  pub goes : (length old < length new) ⊎ ((new ≡ old) × ((has_end old ≡ true) ⊎ (waits old ≡ true)))

module _ (made : Journal → Journal) (early : Answer → Type 0) (stays : (journal : Journal) → has_end journal ≡ true → made journal ≡ journal) (mind : Mind) (old new : Sight)
    (alone : old.alone ≡ true) (leads : Leads old new) (turn : TakesTurn mind old new) (so : (new.seen ≡ made old.seen) ⊎ EndsShort early old.seen new.seen) where
  abbrev Goes : Type 0
  Goes = (length old.seen < length new.seen) ⊎ ((new.seen ≡ old.seen) × ((has_end old.seen ≡ true) ⊎ (mind.waits old.seen ≡ true)))

  -- an entry more is further
  with-end : (answer : Answer) → new.seen ≡ old.seen ++ End answer ∷ [] → Goes
  with-end answer is = inl (let l = ap (λ j. length j) is ∙ length-append old.seen (End answer ∷ []) in omega (arith, l))

  ended-goes : has_end old.seen ≡ true → Goes
  ended-goes ended = by so
    where
      by : (new.seen ≡ made old.seen) ⊎ EndsShort early old.seen new.seen → Goes
      by (inl same) = inr (same ∙ stays old.seen ended, inl ended)
      by (inr ends) = with-end ends.answer ends.is

  waiting-goes : has_end old.seen ≡ false → mind.waits old.seen ≡ true → Goes
  waiting-goes goes_on waiting = by (turn.rests alone goes_on waiting)
    where
      by : AddsEndAtMost old.seen new.seen → Goes
      by (inl same) = inr (same, inr waiting)
      by (inr (answer, is)) = with-end answer is

  acting-goes : (since : Journal) → new.seen ≡ old.seen ++ since → new.seen ≢ old.seen → Goes
  acting-goes [] grows other = absurd (other (grows ∙ append-nil old.seen))
  acting-goes (e ∷ since) grows other = inl (let l = ap (λ j. length j) grows ∙ length-append old.seen (e ∷ since) in omega (arith, l))

  -- a turn of a lead to whose list no one else adds
  pub program-made : ProgramMade mind.waits old.seen new.seen
  program-made = record {
    since = leads.since;
    grows = leads.grows;
    foreign = λ device. none-of (is_posted_by device) old (foreign-one device) alone leads.since leads.may_come;
    unrefused = none-of is_refusal old plain-one alone leads.since leads.may_come;
    goes = by-end (has_end old.seen) refl;
  }
    where
      by-wait : has_end old.seen ≡ false → (b : Bool) → mind.waits old.seen ≡ b → Goes
      by-wait goes_on true waiting = waiting-goes goes_on waiting
      by-wait goes_on false acts = acting-goes leads.since leads.grows (turn.goes alone goes_on acts)

      by-end : (b : Bool) → has_end old.seen ≡ b → Goes
      by-end true ended = ended-goes ended
      by-end false goes_on = by-wait goes_on (mind.waits old.seen) refl

module _ (agent : Agent) where
  -- while a device is open a run is not over
  pub open-goes : (journal : Journal) (device : ℕ) → device < length agent.devices → is_open device journal ≡ true → is_whole agent journal ≡ false
  open-goes journal device below opened =
      false_from_ne_true (is_whole agent journal) (λ whole. let k = sym opened ∙ (over_is agent journal whole).shut device below in absurd (cc))

  -- where none is, it is over exactly where the program has ended
  pub shut-whole : (journal : Journal) → ((device : ℕ) → device < length agent.devices → is_open device journal ≡ false)
      → has_end journal ≡ is_whole agent journal
  shut-whole journal shut = by (has_end journal) refl
    where
      by : (b : Bool) → has_end journal ≡ b → has_end journal ≡ is_whole agent journal
      by true ended = ended ∙ sym (whole_is agent journal (record { ended = ended; shut = shut }))
      by false goes = goes ∙ sym (and_left (has_end journal) (not (list_any (λ d. is_open d journal) (devices agent))) goes)

  -- none of the first devices is open, and neither is the next
  pub next-shut : (journal : Journal) (k : ℕ) → ((d : ℕ) → d < k → is_open d journal ≡ false) → is_open k journal ≡ false
      → (d : ℕ) → d < k + 1 → is_open d journal ≡ false
  next-shut journal k shut here d below = by (cases_lt d k)
    where
      by : (d < k) ⊎ (k ≤ d) → is_open d journal ≡ false
      by (inl less) = shut d less
      by (inr more) = ap (λ i. is_open i journal) (let e : d ≡ k = omega (arith, more, below) in e) ∙ here

  -- all devices' turns
  turned-all : (journal : Journal) (ds : List Scripted) → length ds ≡ length agent.devices
      → turned agent (length agent.devices) journal ds
      ≡ (let made = turns_from agent 0 journal ds in record { journal = made.0; devices = made.1 })
  turned-all journal ds many =
      ap (λ l. (let made = turns_from agent 0 journal l in record { journal = made.0; devices = made.1 ++ drop (length agent.devices) ds }))
      (take_all (length agent.devices) ds (omega (arith, many)))
      ∙ ap (λ l. (let made = turns_from agent 0 journal ds in record { journal = made.0; devices = made.1 ++ l }))
      (drop_of_length-le ds (omega (arith, many)))
      ∙ ap (λ l. record { journal = (turns_from agent 0 journal ds).0; devices = l }) (append-nil (turns_from agent 0 journal ds).1)

  module _ (old mid new : Moment) (same_taken : new.taken ≡ mid.taken) (same_standings : new.standings ≡ mid.standings) where
    told-still : (j : ℕ) → told_at new j ≡ told_at mid j
    told-still j =
        ap (λ (l : List ℕ). option_and_then (λ (s : Standing). option_map (λ left. scripted left (taken_by l j)) s.meaning.left) (slice_get new.standings j)) same_taken
        ∙ ap (λ (l : List Standing). option_and_then (λ (s : Standing). option_map (λ left. scripted left (taken_by mid.taken j)) s.meaning.left) (slice_get l j)) same_standings

    scripted-still : (ds : List Scripted) → AreScripted agent mid ds → AreScripted agent new ds
    scripted-still ds are = record { one_each = are.one_each; told = λ j below. told-still j ∙ are.told j below }

    -- the program's turn leaves the devices as they are dealt with
    deals-still : (since : Journal) → new.journal ≡ mid.journal ++ since → ((device : ℕ) → AreNotOf device since) → MayGoOn agent mid.journal mid.taken
        → DealsOn agent old mid → DealsOn agent old new
    deals-still since grows foreign on deals =
        EachSlot-then _ (λ j b c. c ≡ b) _ old.standings mid.standings new.standings step deals
        (subst (EachSlot (λ j b c. c ≡ b) mid.standings) (sym same_standings) (EachSlot-same _ mid.standings (λ j s. refl)))
      where
        on-one : (j : ℕ) (a b : Standing) → StaysDealt agent old mid j a b → StaysDealt agent old new j a b
        on-one j a b before = record {
          dealt = λ script far.
              subst (λ l. DealtNow agent j new.journal (taken_by l j) script b.meaning) (sym same_taken)
              (subst (λ l. DealtNow agent j l (taken_by mid.taken j) script b.meaning) (sym grows)
              (dealt_stays agent mid.journal since j (taken_by mid.taken j) script b.meaning (foreign j) (on.few j) (before.dealt script far)));
          shut = before.shut;
        }

        by : (x : Bool) (j : ℕ) (a b : Standing) → ChangesIf x (StaysDealt agent old mid j) a b → ChangesIf x (StaysDealt agent old new j) a b
        by true j a b before = on-one j a b before
        by false j a b before = before

        step : (j : ℕ) (a b c : Standing) → ChangesIf (nat_lt j (length agent.devices)) (StaysDealt agent old mid j) a b → c ≡ b
            → ChangesIf (nat_lt j (length agent.devices)) (StaysDealt agent old new j) a c
        step j a b c before same =
            subst (ChangesIf (nat_lt j (length agent.devices)) (StaysDealt agent old new j) a) (sym same) (by (nat_lt j (length agent.devices)) j a b before)

    -- each device may go on after it
    on-still : (since : Journal) → new.journal ≡ mid.journal ++ since → ((device : ℕ) → AreNotOf device since) → IsBoardList agent mid.journal
        → MayGoOn agent mid.journal mid.taken → MayGoOn agent new.journal new.taken
    on-still since grows foreign list on = subst (λ j. MayGoOn agent j new.taken) (sym grows) (subst (MayGoOn agent (mid.journal ++ since)) (sym same_taken) (record {
      few = λ j. few-more agent j (taken_by mid.taken j) mid.journal since (on.few j);
      ready = λ j below open_still.
          ready_stays agent mid.journal since j (taken_by mid.taken j) list (foreign j)
          (on.ready j below (sym (open-same agent mid.journal since j (foreign j)) ∙ open_still));
    }))

    -- scripted devices had a round
    rounded : (made : Journal → Journal) (early : Answer → Type 0) (ds : List Scripted) → AreScripted agent old ds
        → IsStage agent mid (turned agent (length agent.devices) old.journal ds)
        → (new.journal ≡ made mid.journal) ⊎ EndsShort early mid.journal new.journal → RoundIs agent made early old.journal ds new
    rounded made early ds are stage leads =
        by (turns_from agent 0 old.journal ds) refl
        (subst (IsStage agent mid) (turned-all old.journal ds are.one_each) stage) leads
      where
        by : (all : Journal × List Scripted) → turns_from agent 0 old.journal ds ≡ all
            → IsStage agent mid (record { journal = (turns_from agent 0 old.journal ds).0; devices = (turns_from agent 0 old.journal ds).1 })
            → (new.journal ≡ made mid.journal) ⊎ EndsShort early mid.journal new.journal → RoundIs agent made early old.journal ds new
        by (j, es) is stage (inl leads) =
            let own : AreScripted agent new es = scripted-still es (subst (AreScripted agent mid) (ap (λ (m : Journal × List Scripted). m.1) is) stage.devices) in
            let here : mid.journal ≡ j = stage.entries ∙ ap (λ (m : Journal × List Scripted). m.0) is in
            inl (subst (IsStage agent new) (ap (after_lead made) (sym is)) (record { entries = leads ∙ ap made here; devices = own }))
        by (j, es) is stage (inr ends) = inr (subst (λ l. EndsShort early l new.journal) stage.entries ends)

  -- where all devices are closed or rest, and the program does nothing, the run is over
  goes-none : (waits : Journal → Bool) (goes_on : (journal : Journal) → IsTrue (is_quiet agent journal) → waits journal ≡ false) (journal : Journal)
      → ((device : ℕ) → device < length agent.devices → is_open device journal ≡ true → RestsAt agent journal device)
      → (has_end journal ≡ true) ⊎ (waits journal ≡ true) → is_whole agent journal ≡ true
  goes-none waits goes_on journal rest (inl ended) =
      whole_is agent journal (record {
        ended = ended;
        shut = λ d below. false_from_ne_true (is_open d journal) (λ opened. let k = sym ended ∙ (rest d below opened).goes_on in absurd (cc));
      })
  goes-none waits goes_on journal rest (inr waiting) =
      absurd (let k = sym waiting ∙ goes_on journal quiet in cc)
    where
      one : (d : ℕ) → d < length agent.devices → (b : Bool) → is_open d journal ≡ b → (not (is_open d journal) || is_at_rest agent journal d) ≡ true
      one d below true opened = or_right _ _ (rest d below opened).at_rest
      one d below false shut = or_left _ _ (ap not shut)

      quiet : is_quiet agent journal ≡ true
      quiet = all-range (λ d. not (is_open d journal) || is_at_rest agent journal d) 0 (length agent.devices) (λ d below. one d (omega (arith, below)) (is_open d journal) refl)

  -- a round is made of the devices' turns and the program's
  pub round-made : (made : Journal → Journal) (early : Answer → Type 0) (waits : Journal → Bool)
      → ((journal : Journal) → IsTrue (is_quiet agent journal) → waits journal ≡ false) → (old mid new : Moment) → new.taken ≡ mid.taken → new.standings ≡ mid.standings → IsBoardList agent mid.journal
      → is_whole agent old.journal ≡ false → TurnsMade agent (length agent.devices) old mid → ProgramMade waits mid.journal new.journal
      → (new.journal ≡ made mid.journal) ⊎ EndsShort early mid.journal new.journal → RoundMade agent made early old new
  round-made made early waits sleepless old mid new same_taken same_standings list goes_on all turn leads = record {
    since = all.since ++ turn.since;
    grows = turn.grows ∙ ap (λ j. j ++ turn.since) all.grows ∙ append_assoc old.journal all.since turn.since;
    unrefused = list_any-append is_refusal all.since turn.since ∙ or_from _ _ all.unrefused turn.unrefused;
    on = on-still old mid new same_taken same_standings turn.since turn.grows turn.foreign list all.on;
    deals = deals-still old mid new same_taken same_standings turn.since turn.grows turn.foreign all.on all.deals;
    scripted = λ ds are. rounded old mid new same_taken same_standings made early ds are (all.scripted ds are) leads;
    goes = goes all.goes turn.goes;
  }
    where
      counts : progress new ≡ length new.journal + sum mid.taken
      counts = ap (λ l. length new.journal + sum l) same_taken

      goes : (progress old < progress mid) ⊎ LeaveAll agent (length agent.devices) old mid
          → (length mid.journal < length new.journal) ⊎ ((new.journal ≡ mid.journal) × ((has_end mid.journal ≡ true) ⊎ (waits mid.journal ≡ true)))
          → progress old < progress new
      goes (inl more) (inl longer) = let c = counts in omega (arith, more, longer, c)
      goes (inl more) (inr (same, why)) = let c = counts in let l : length new.journal ≡ length mid.journal = ap (λ j. length j) same in omega (arith, more, c, l)
      goes (inr leave) (inl longer) =
          let c = counts in
          let l : length mid.journal ≡ length old.journal = ap (λ j. length j) leave.same in
          let s : sum mid.taken ≡ sum old.taken = ap (λ t. sum t) leave.same_taken in
          omega (arith, longer, c, l, s)
      goes (inr leave) (inr (same, why)) =
          absurd (let k = sym goes_on ∙ goes-none waits sleepless old.journal leave.rest
          (subst (λ j. (has_end j ≡ true) ⊎ (waits j ≡ true)) leave.same why) in cc)
