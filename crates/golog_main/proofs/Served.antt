-- From what a run in rounds or over threads makes of the devices, to what a report says of it.
use Rattle.std.proofs.Common.{◌≡◌, ℕ, zero, suc, ◌+◌, ◌<◌, ◌≤◌, List, [], ◌∷◌, ◌++◌, length, map, Option, Some, None, Bool, true, false, refl, sym, ap, ◌∙◌, subst, arith, inl, inr, ◌⊎◌, Result, Ok, Err}
use Rattle.std.specs.Prelude.{Contains, OnErr, slice_get, nat_lt}
use Rattle.std.specs.List.{list_any, range_with_len}
use Rattle.std.proofs.lemmas.Bool.{eq-eqb, lt-ltb, or_from, not_from_false, and_from}
use Rattle.std.proofs.lemmas.Bool.Decides.{leb_tells}
use Rattle.golog_tree.specs.declared.agent.Agent.{Agent}
use Rattle.golog_semantics.specs.declared.journal.Answer.{Answer}
use Rattle.golog_semantics.specs.declared.journal.Entry.TheVariants.{Close}
use Rattle.golog_semantics.specs.declared.journal.Reason.TheVariants.{Refused}
use Rattle.golog_semantics.specs.declared.journal.Report.{Report}
use Rattle.golog_semantics.specs.Journal.{Journal, is_open, longest}
use Rattle.golog_semantics.specs.Dealt.{Meaning}
use Rattle.golog_semantics.specs.Online.{is_whole, IsOnlineSoFar}
use Rattle.golog_semantics.specs.InlineText.{report_of}
use Rattle.golog_semantics.proofs.Among.{Among, among-contains, among-either, any-among}
use Rattle.golog_semantics.specs.Inline.{lead}
use Rattle.golog_semantics.proofs.LaterRuns.{whole_is_online}
use Rattle.golog_lead.specs.Short.{IsShort}
use Rattle.golog_journal.specs.Boards.{IsBoardList}
use Rattle.golog_device.specs.Slots.{Standing, Both, ChangesIf, standings}
use Rattle.golog_lead.specs.Rounds.{HasServed, RunsToEnd, is_refusal}
use Rattle.golog_threads.specs.Driving.{HaveServed, RunsOverThreads, has_refused, is_refusal_of, HasServed as ServedAt}
use Rattle.golog_main.specs.Runs.{HaveRun, RunsOn, ServedOn, Serves}

module _ (agent : Agent) (old new : Journal) where
  -- ---- in rounds

  module _ (since : Journal) (grows : new ≡ old ++ since) (unrefused : list_any is_refusal since ≡ false) where
    refused-before : (device : ℕ) → Contains new (Close device Refused 0) → has_refused device old ≡ true
    refused-before device c =
        by (among-either old since (Close device Refused 0) (among-contains (old ++ since) (Close device Refused 0) (subst (λ j. Contains j (Close device Refused 0)) grows c)))
      where
        by : Among old (Close device Refused 0) ⊎ Among since (Close device Refused 0) → has_refused device old ≡ true
        by (inl first) = any-among (is_refusal_of device) old (Close device Refused 0) first (eq-eqb device device refl)
        by (inr later) =
            let no : false ≡ true = sym unrefused ∙ any-among is_refusal since (Close device Refused 0) later refl in absurd (cc)

    slot-serves : (device : ℕ) (v : Bool) (x y : Option Standing) → Both (ChangesIf v (HasServed agent old new device)) x y
        → Both (ChangesIf v (Serves agent old new device)) x y
    slot-serves device v None None both = tt
    slot-serves device v None (Some b) both = both
    slot-serves device v (Some a) None both = both
    slot-serves device true (Some a) (Some b) both = record { served = both; refused = refused-before device }
    slot-serves device false (Some a) (Some b) both = both

  pub rounds-run : (keeps : Journal → Type 0) (made : Journal → Journal) (early : Answer → Type 0) (olds news : List Standing)
      → RunsToEnd keeps made early agent old new olds news → HaveRun agent old new olds news
  rounds-run keeps made early olds news ran = record {
    at = λ slot.
        slot-serves ran.since ran.grows ran.unrefused slot (nat_lt slot (length agent.devices)) (slice_get olds slot) (slice_get news slot) (ran.run.at slot);
  }

  pub of-rounds : (olds news : List Standing) (report : Report) → report ≡ report_of agent new → IsBoardList agent new → length new ≤ longest
      → RunsToEnd (λ j. IsOnlineSoFar agent (report_of agent j)) (lead agent) IsShort agent old new olds news → RunsOn agent true old olds news report
  of-rounds olds news report is lawful short ran = record {
    journal = new;
    is = is;
    lawful = lawful;
    short = short;
    online = (whole_is_online agent (report_of agent new)).whole ran.kept ran.whole;
    run = rounds-run (λ j. IsOnlineSoFar agent (report_of agent j)) (lead agent) IsShort olds news ran;
    scripted = λ rounds. ran.scripted;
  }

-- ---- over threads

module _ {D : Type 0} (agent : Agent) (fresh : D → Bool) (meaning : D → Meaning) (old new : Journal) where
  abbrev stand : D → Standing
  stand d = record { fresh = fresh d; meaning = meaning d }

  device-serves : (device : ℕ) (d e : D) → ServedAt agent meaning old new device d e → Serves agent old new device (stand d) (stand e)
  device-serves device d e h = record {
    served = record { dealt = h.dealt; shut = λ closed. ap stand (h.same closed) };
    refused = λ stands.
        h.refused
        (any-among (is_refusal_of device) new (Close device Refused 0) (among-contains new (Close device Refused 0) stands) (eq-eqb device device refl));
  }

  -- the slot of a device of the agent, or of another
  slot-in : (n slot : ℕ) (a b : Standing) → slot < n → Serves agent old new slot a b → ChangesIf (nat_lt slot n) (Serves agent old new slot) a b
  slot-in n slot a b within h = subst (λ v. ChangesIf v (Serves agent old new slot) a b) (sym (lt-ltb slot n within)) h

  past : (n slot : ℕ) → n ≤ slot → nat_lt slot n ≡ false
  past n slot beyond = by (leb_tells (suc slot) n)
    where
      by : (nat_lt slot n ≡ true) × (slot < n) ⊎ (nat_lt slot n ≡ false) × (n < suc slot) → nat_lt slot n ≡ false
      by (inl (so, lt)) = absurd (omega (arith, beyond, lt))
      by (inr (not_so, gt)) = not_so

  slot-out : (n slot : ℕ) (x : Option Standing) → n ≤ slot → Both (ChangesIf (nat_lt slot n) (Serves agent old new slot)) x x
  slot-out n slot None beyond = tt
  slot-out n slot (Some a) beyond = subst (λ v. ChangesIf v (Serves agent old new slot) a a) (sym (past n slot beyond)) refl

  each-slot : (n first : ℕ) (ds es rest : List D) → HaveServed agent meaning old new first ds es → first + length ds ≡ n → (k slot : ℕ) → slot ≡ first + k
      → Both (ChangesIf (nat_lt slot n) (Serves agent old new slot)) (slice_get (map stand (ds ++ rest)) k) (slice_get (map stand (es ++ rest)) k)
  each-slot n first [] [] rest served all k slot is = slot-out n slot (slice_get (map stand rest) k) (omega (arith, all, is))
  each-slot n first [] (e ∷ es) rest served all k slot is = absurd served
  each-slot n first (d ∷ ds) [] rest served all k slot is = absurd served
  each-slot n first (d ∷ ds) (e ∷ es) rest served all zero slot is =
      let same : first ≡ slot = omega (arith, is) in
      slot-in n slot (stand d) (stand e) (omega (arith, all, is)) (subst (λ s. Serves agent old new s (stand d) (stand e)) same (device-serves first d e served.0))
  each-slot n first (d ∷ ds) (e ∷ es) rest served all (suc k) slot is =
      each-slot n (first + 1) ds es rest served.1 (omega (arith, all)) k slot (omega (arith, is))

  pub threads-run : (ds es rest : List D) → HaveServed agent meaning old new 0 ds es → length ds ≡ length agent.devices
      → HaveRun agent old new (map stand (ds ++ rest)) (map stand (es ++ rest))
  threads-run ds es rest served all = record {
    at = λ slot. each-slot (length agent.devices) 0 ds es rest served (omega (arith, all)) slot slot (omega arith);
  }

  -- ---- the list is whole

  all-shut : (first : ℕ) (ds es : List D) → HaveServed agent meaning old new first ds es → list_any (λ d. is_open d new) (range_with_len first (length ds)) ≡ false
  all-shut first [] es served = refl
  all-shut first (d ∷ ds) [] served = absurd served
  all-shut first (d ∷ ds) (e ∷ es) served = or_from _ _ served.0.shut (all-shut (first + 1) ds es served.1)

  pub threads-whole : (ds es : List D) → length ds ≡ length agent.devices → RunsOverThreads agent meaning old new ds es → is_whole agent new ≡ true
  threads-whole ds es boxes run =
      and_from _ _ run.ended
      (not_from_false _ (subst (λ n. list_any (λ d. is_open d new) (range_with_len 0 n) ≡ false) boxes (all-shut 0 ds es run.served)))

never : {P : Type 0} → false ≡ true → P
never h = absurd (cc)

-- a report of a run over threads says so of all the devices handed in
pub of-threads : {D : Type 0} (agent : Agent) (fresh : D → Bool) (meaning : D → Meaning) (old : Journal) (ds es rest : List D) (report : Report)
    → length ds ≡ length agent.devices → ServedOn agent meaning old ds es report
    → RunsOn agent false old (standings fresh meaning (ds ++ rest)) (standings fresh meaning (es ++ rest)) report
of-threads agent fresh meaning old ds es rest report boxes on = record {
  journal = on.journal;
  is = on.is;
  lawful = on.ran.lawful;
  short = on.ran.short;
  online = on.online;
  run = threads-run agent fresh meaning old on.journal ds es rest on.ran.served boxes;
  scripted = λ h. never h;
}

-- and so for all devices, of which the others stay as they are
pub threads-among : {D : Type 0} (agent : Agent) (fresh : D → Bool) (meaning : D → Meaning) (old : Journal) (all ds es rest : List D)
    → all ≡ ds ++ rest → length ds ≡ length agent.devices → (report : Report) → ServedOn agent meaning old ds es report
    → RunsOn agent false old (standings fresh meaning all) (standings fresh meaning (es ++ rest)) report
threads-among agent fresh meaning old all ds es rest split boxes report on =
    subst (λ l. RunsOn agent false old (standings fresh meaning l) (standings fresh meaning (es ++ rest)) report) (sym split)
    (of-threads agent fresh meaning old ds es rest report boxes on)

-- where a run over threads wants memory, all devices are as they were
pub still-among : {D E : Type 0} (all ds es rest : List D) (r : Result ℕ E) → all ≡ ds ++ rest → OnErr r (es ≡ ds) → OnErr r (es ++ rest ≡ all)
still-among all ds es rest (Ok status) split same = tt
still-among all ds es rest (Err e) split same = ap (λ l. l ++ rest) same ∙ sym split
