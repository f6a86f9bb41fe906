-- A side that goes on.
use Rattle.std.proofs.Common.{◌≡◌, ◌≢◌, ℕ, zero, suc, ◌+◌, ◌≤◌, ◌<◌, ◌==◌, Bool, true, false, List, [], ◌∷◌, ◌++◌, length, length-append, take, drop, append_assoc, refl, sym, ap, ◌∙◌, subst, arith, inl, inr, if◌then◌else◌, Option, Some, None, not, ◌&&◌, ◌||◌}
use Rattle.std.specs.Prelude.{IsTrue, IsFalse, is_some, option_map}
use Rattle.std.specs.List.{list_any}
use Rattle.std.proofs.lemmas.Option.{same_Some, slice_get_within}
use Rattle.std.proofs.lemmas.Bool.{not-false, eqb-true, and_parts, and_from, and_left, and_right, or_from}
use Rattle.golog_base.proofs.Bools.{or-false}
use Rattle.std.proofs.lemmas.List.{append-nil, take_all, drop_all, take_at, drop_at, length-drop, length-map, length-take-le, take-append-drop}
use Rattle.golog_tree.specs.declared.agent.Agent.{Agent}
use Rattle.golog_semantics.specs.declared.journal.Entry.{Entry}
use Rattle.golog_semantics.specs.declared.journal.Entry.TheVariants.{Do, Test, Exo, Sense, Rest, Close, End}
use Rattle.golog_semantics.specs.declared.journal.Item.{Item}
use Rattle.golog_semantics.specs.Journal.{Journal, Command, commands, limit, has_end, is_end, is_open, poster_of}
use Rattle.golog_semantics.specs.Posts.{posted_entry}
use Rattle.golog_semantics.proofs.Grown.{entries_grow}
use Rattle.golog_semantics.specs.WellFormed.{WellFormed}
use Rattle.golog_journal.specs.Boards.{AgentJournal, journal_with}
use Rattle.golog_journal.specs.Leading.{Mind, IsBehind, SameMind, is_of_program}
use Rattle.golog_journal.specs.Taken.{IsReady}
use Rattle.golog_journal.specs.Posting.{MayPost}
use Rattle.golog_journal.proofs.Beginning.{posted-by}
use Rattle.golog_device.proofs.Commanded.{IsPlain, may-plain}
use Rattle.golog_team.specs.declared.did.Did.{Did}
use Rattle.golog_team.specs.declared.did.Did.TheVariants.{Busy, Over}
use Rattle.golog_team.specs.declared.note.Note.{Note}
use Rattle.golog_team.specs.declared.note.Note.TheVariants.{Waiting, Ended}
use Rattle.golog_team.specs.declared.note.SideNote.{SideNote}
use Rattle.golog_team.specs.declared.side.Side.{Side}
use Rattle.golog_team.specs.Notes.{Notes, put_by, across, sends, ends, has_waited, both_wait}
use Rattle.golog_team.specs.Links.{room}
use Rattle.golog_team.specs.Steps.{Station, station, posted_as, journal_after, untaken, IsClear, Waits as WaitsNow, HasDone, Acts, Reads, Steps, waited as waited_now, ended as ended_now, overtaken}
use Rattle.golog_team.specs.Keeping.{MayTeam, Keeps}
use Rattle.golog_team.specs.Shapes.{has_shape}
use Rattle.golog_team.specs.Linked.{commanded}
use Rattle.golog_team.specs.Wires.{View}
use Rattle.golog_team.specs.Sides.{at_read, IsToldOf, HasSaid, HasAdded, HasLed}
use Rattle.golog_team.specs.Standing.{station_of, IsHeld, IsSide, SameSide}
use Rattle.golog_team.proofs.NoteLists.{none-both}
use Rattle.golog_journal.proofs.Lawful.{commands-few}
use Rattle.golog_team.proofs.Acting.{next-of}
use Rattle.golog_team.proofs.Further.{reads-keep}
use Rattle.golog_team.proofs.Going.{acts-keep, steps-keep, keeps-first}
use Rattle.golog_team.proofs.ReadOn.{same-station}

module _ {L W : Type 0} (mind : L → Mind) (view : W → View) where
  -- its parts, after it has gone on
  pub record GoesFrom (old new : Side L W) : Type 0 where
    pub same : SameSide mind view old new
    pub facts_same : new.facts.now ≡ old.facts.now
    pub journal_agent : new.journal.agent ≡ old.journal.agent
    pub of_side : (view new.wire).side ≡ old.side
    pub within : (new.told.read ≤ length (view new.wire).seen) × (length (view new.wire).seen ≤ room)
    pub told_is : IsToldOf old.side (take new.told.read (view new.wire).seen) new.told
    pub behind : IsBehind (mind new.lead).list new.journal.entries
    pub ended_is : new.ended ≡ has_end new.journal.entries

  module _ (old new : Side L W) where
    along : (P : Agent → Agent → ℕ → (Journal → Bool) → Type 0) → SameSide mind view old new → P old.agent.now old.other.now old.side (mind old.lead).waits
        → P new.agent.now new.other.now new.side (mind new.lead).waits
    along P s p =
        subst (λ a. P a new.other.now new.side (mind new.lead).waits) (sym s.same_agent)
        (subst (λ o. P old.agent.now o new.side (mind new.lead).waits) (sym s.same_other)
        (subst (λ n. P old.agent.now old.other.now n (mind new.lead).waits) (sym s.same_side)
        (subst (λ w. P old.agent.now old.other.now old.side w) (sym s.same_mind.same_waits) p)))

    pub held-on : IsHeld mind view old → GoesFrom old new → IsHeld mind view new
    held-on h g = record {
      formed = (subst WellFormed (sym g.same.same_agent) h.formed.0, subst WellFormed (sym g.same.same_other) h.formed.1);
      may = along (λ a o n w. MayTeam a o n w) g.same h.may;
      facts_are = g.facts_same ∙ h.facts_are ∙ sym g.same.same_other;
      of_agent = (g.journal_agent ∙ h.of_agent.0 ∙ sym g.same.same_agent, g.same.same_mind.same_agent ∙ h.of_agent.1 ∙ sym g.same.same_agent);
      of_side = g.of_side ∙ sym g.same.same_side;
      within = g.within;
      told_is = subst (λ s. IsToldOf s (take new.told.read (view new.wire).seen) new.told) (sym g.same.same_side) g.told_is;
      behind = g.behind;
      ended_is = g.ended_is;
    }

    -- by what it has done
    pub side-on : (did : Did) → IsSide mind view old → GoesFrom old new
        → Acts old.agent.now old.other.now old.side (mind old.lead).waits (station_of mind view old) (station_of mind view new) did → IsSide mind view new
    side-on did s g acts = record {
      held = held-on s.held g;
      keeps = along (λ a o n w. Keeps a o n w (station_of mind view new)) g.same
          (acts-keep old.agent.now old.other.now old.side (mind old.lead).waits s.held.may (station_of mind view old) s.keeps (station_of mind view new) did acts);
    }

-- ---- where all was read

pub all-read : (r : ℕ) (xs : Notes) → r ≤ length xs → drop r xs ≡ [] → r ≡ length xs
all-read r xs within none = let a = ap (λ (l : Notes). length l) none in let b = length-drop r xs in omega (arith, a, b, within)

module _ (v new : View) (r : ℕ) (journal : Journal) (taken : ℕ) (whole : r ≡ length v.seen) where
  whole-told : take r v.seen ≡ v.seen
  whole-told = take_all r v.seen (omega (arith, whole))

  pub put-station : (x : SideNote) (n : ℕ) → new.seen ≡ v.seen ++ x ∷ [] → n ≡ length new.seen
      → at_read new n journal taken ≡ station ((at_read v r journal taken).told ++ x ∷ []) [] journal taken
  put-station x n is read =
      ap (λ l. station l (drop n new.seen) journal taken) (take_all n new.seen (omega (arith, read)) ∙ is ∙ ap (λ l. l ++ x ∷ []) (sym whole-told))
      ∙ ap (λ l. station ((at_read v r journal taken).told ++ x ∷ []) l journal taken) (drop_all n new.seen (omega (arith, read)))

  pub more-station : (more : Notes) → new.seen ≡ v.seen ++ more → at_read new r journal taken ≡ station (at_read v r journal taken).told more journal taken
  more-station more is =
      ap (λ l. station l (drop r new.seen) journal taken) (ap (take r) is ∙ take_at v.seen more r (sym whole) ∙ sym whole-told)
      ∙ ap (λ l. station (at_read v r journal taken).told l journal taken) (ap (drop r) is ∙ drop_at v.seen more r (sym whole))

  module _ (agent other : Agent) (side : ℕ) (waits : Journal → Bool) where
    abbrev Does : ℕ → Did → Type 0
    Does n did = Acts agent other side waits (at_read v r journal taken) (at_read new n journal taken) did

    pub says-waiting : (n : ℕ) → WaitsNow agent other side waits (at_read v r journal taken) → has_waited side (take r v.seen) ≡ false
        → (b : Bool) → HasSaid side (Waiting (length journal)) v.seen new.seen b → (IsTrue b → n ≡ length new.seen) → (IsFalse b → n ≡ r) → Does n Busy
    says-waiting n w unsaid true said all none = waited_now w unsaid (put-station (put_by side (Waiting (length journal))) n said (all refl))
    says-waiting n w unsaid false said all none =
        overtaken said.0 said.1 said.2 (inl (w, unsaid)) (ap (λ k. at_read new k journal taken) (none refl) ∙ more-station said.0 said.3)

    pub says-ended : (n : ℕ) → HasDone agent other side waits (at_read v r journal taken) → ends side (take r v.seen) ≡ 0
        → HasSaid side Ended v.seen new.seen true → n ≡ length new.seen → Does n Over
    says-ended n d none said all = ended_now d none (put-station (put_by side Ended) n said all)

    pub ends-later : (n : ℕ) → HasDone agent other side waits (at_read v r journal taken) → ends side (take r v.seen) ≡ 0
        → HasSaid side Ended v.seen new.seen false → n ≡ r → Does n Busy
    ends-later n d none said same =
        overtaken said.0 said.1 said.2 (inr (d, none)) (ap (λ k. at_read new k journal taken) same ∙ more-station said.0 said.3)

-- ---- waiting

pub both-from : (side : ℕ) (notes : Notes) → side ≤ 1 → has_waited side notes ≡ true → has_waited (across side) notes ≡ true → both_wait notes ≡ true
both-from zero notes small one other = and_from (has_waited 0 notes) (has_waited 1 notes) one other
both-from (suc zero) notes small one other = and_from (has_waited 0 notes) (has_waited 1 notes) other one
both-from (suc (suc side)) notes small one other = absurd (omega arith)

pub not-both-from : (side : ℕ) (notes : Notes) → side ≤ 1 → has_waited (across side) notes ≡ false → both_wait notes ≡ false
not-both-from zero notes small other = and_right (has_waited 0 notes) (has_waited 1 notes) other
not-both-from (suc zero) notes small other = and_left (has_waited 0 notes) (has_waited 1 notes) other
not-both-from (suc (suc side)) notes small other = absurd (omega arith)

-- ---- posting

pub mind-same : (mind : Mind) → SameMind mind mind
mind-same mind = record { same_agent = refl; same_bounds = refl; same_waits = refl; same_outlet = refl }

pub mind-then : (first now later : Mind) → SameMind first now → SameMind now later → SameMind first later
mind-then first now later same more = record {
  same_agent = more.same_agent ∙ same.same_agent;
  same_bounds = more.same_bounds ∙ same.same_bounds;
  same_waits = more.same_waits ∙ same.same_waits;
  same_outlet = more.same_outlet ∙ same.same_outlet;
}

pub record IsPosted (old new : AgentJournal) (agent : Agent) (taken : ℕ) (i : Item) (list : Journal) (ended : Bool) : Type 0 where
  pub entries_are : new.entries ≡ old.entries ++ posted_entry agent old.entries 0 taken i ∷ []
  pub agent_is : new.agent ≡ old.agent
  pub behind : IsBehind list new.entries
  pub ended_is : ended ≡ has_end new.entries

no-program : (e : Entry) → poster_of e ≡ Some 0 → is_of_program e ≡ false
no-program e h = ap (λ o. not (is_some o)) h

no-end : (e : Entry) → poster_of e ≡ Some 0 → is_end e ≡ false
no-end (Do a) h = refl
no-end Test h = refl
no-end (Exo p a) h = refl
no-end (Sense p at f v) h = refl
no-end (Rest p t) h = refl
no-end (Close p r t) h = refl
no-end (End a) h = absurd (cc)

pub posts-on : (old new : AgentJournal) (agent : Agent) (taken : ℕ) (i : Item) (list : Journal) (ended : Bool) → old.agent ≡ agent
    → new ≡ journal_with old (posted_entry old.agent old.entries 0 taken i) → IsBehind list old.entries → ended ≡ has_end old.entries
    → IsPosted old new agent taken i list ended
posts-on old new agent taken i list ended same is behind end_is = go (posted_entry agent old.entries 0 taken i) refl (posted-by agent old.entries 0 taken i)
  where
    entries : new.entries ≡ old.entries ++ posted_entry agent old.entries 0 taken i ∷ []
    entries = ap (λ (j : AgentJournal). j.entries) is ∙ ap (λ a. old.entries ++ posted_entry a old.entries 0 taken i ∷ []) same

    go : (e : Entry) → posted_entry agent old.entries 0 taken i ≡ e → poster_of (posted_entry agent old.entries 0 taken i) ≡ Some 0 → IsPosted old new agent taken i list ended
    go e e_is posted =
        let own : poster_of e ≡ Some 0 = ap poster_of (sym e_is) ∙ posted in
        let all : new.entries ≡ old.entries ++ e ∷ [] = entries ∙ ap (λ x. old.entries ++ x ∷ []) e_is in
        record {
          entries_are = entries;
          agent_is = ap (λ (j : AgentJournal). j.agent) is;
          behind = subst (IsBehind list) (sym all) (record {
            since = behind.since ++ e ∷ [];
            front = ap (λ l. l ++ e ∷ []) behind.front ∙ append_assoc list behind.since (e ∷ []);
            of_devices = none-both is_of_program behind.since (e ∷ []) behind.of_devices (or_from (is_of_program e) false (no-program e own) refl);
          });
          ended_is = end_is ∙ sym (ap has_end all ∙ (entries_grow old.entries e).end ∙ ap (λ b. has_end old.entries || b) (no-end e own) ∙ or-false (has_end old.entries));
        }

-- whether a side has ended, by what is kept
pub no-ends : (n : ℕ) → not (n == 0) ≡ false → n ≡ 0
no-ends n h = eqb-true n 0 (not-false (n == 0) h)

pub some-ends : (n : ℕ) → not (n == 0) ≡ true → n ≢ 0
some-ends zero h e = absurd (cc)
some-ends (suc n) h e = absurd (omega (arith, e))

-- ---- the same station, or one that was read

module _ {L W : Type 0} (mind : L → Mind) (view : W → View) (old new : Side L W) where
  abbrev waits_of : Side L W → Journal → Bool
  waits_of s = (mind s.lead).waits

  keeps-on : GoesFrom mind view old new → Keeps old.agent.now old.other.now old.side (waits_of old) (station_of mind view new)
      → Keeps new.agent.now new.other.now new.side (waits_of new) (station_of mind view new)
  keeps-on g k = along mind view old new (λ a o n w. Keeps a o n w (station_of mind view new)) g.same k

  pub side-same : IsSide mind view old → GoesFrom mind view old new → station_of mind view new ≡ station_of mind view old → IsSide mind view new
  side-same s g same = record {
    held = held-on mind view old new s.held g;
    keeps = keeps-on g (subst (Keeps old.agent.now old.other.now old.side (waits_of old)) (sym same) s.keeps);
  }

  pub side-reads : IsSide mind view old → GoesFrom mind view old new → Reads old.side (station_of mind view old) (station_of mind view new) → IsSide mind view new
  side-reads s g reads = record {
    held = held-on mind view old new s.held g;
    keeps = keeps-on g (reads-keep old.agent.now old.other.now old.side (waits_of old) (station_of mind view old) (station_of mind view new) s.keeps reads);
  }

  pub side-steps : (did : Did) → IsSide mind view old → GoesFrom mind view old new
      → Steps old.agent.now old.other.now old.side (waits_of old) (station_of mind view old) (station_of mind view new) did → IsSide mind view new
  side-steps did s g steps = record {
    held = held-on mind view old new s.held g;
    keeps = keeps-on g (steps-keep old.agent.now old.other.now old.side (waits_of old) s.held.may (station_of mind view old) (station_of mind view new) did s.keeps steps);
  }

-- ---- a turn of the program

module _ (agent : Agent) (waits : Journal → Bool) (old new : Journal) where
  pub led-same : HasLed agent waits old new → length new ≡ length old → (new ≡ old) × (waits old ≡ true)
  led-same (inl a) same = absurd (
      let e = ap (λ (l : Journal). length l) a.is in
      let l = length-append old (a.e ∷ []) in
      omega (arith, e, l, same))
  led-same (inr s) same = s

  pub led-more : HasLed agent waits old new → length new ≢ length old → HasAdded agent waits old new
  led-more (inl a) other = a
  led-more (inr s) other = absurd (other (ap (λ (l : Journal). length l) s.0))

-- ---- commands

pub one-device : (agent : Agent) → has_shape agent ≡ true → 0 < length agent.devices
one-device agent shape = let e = eqb-true (length agent.devices) 1 (and_parts (length agent.devices == 1) _ shape).0 in omega (arith, e)

pub record IsNext (o : Option Command) (action : ℕ) : Type 0 where
  pub command : Command
  pub is : o ≡ Some command
  pub action_is : command.action ≡ action

pub next-is : (o : Option Command) (action : ℕ) → Some action ≡ option_map (λ (c : Command). c.action) o → IsNext o action
next-is (Some c) action h = record { command = c; is = refl; action_is = sym (same_Some action c.action h) }
next-is None action h = absurd (cc)

pub next-none : (o : Option Command) → None ≡ option_map (λ (c : Command). c.action) o → o ≡ None
next-none (Some c) h = absurd (cc)
next-none None h = refl

-- there is room for what it sends
pub send-room : (agent other : Agent) (side : ℕ) (waits : Journal → Bool) (v : View) (r : ℕ) (journal : Journal) (taken : ℕ) (may : MayTeam agent other side waits) (c : Command)
    → Keeps agent other side waits (at_read v r journal taken) → untaken agent other side waits (at_read v r journal taken) ≡ Some c
    → (length (sends side v.seen) < limit) × (taken < limit)
send-room agent other side waits v r journal taken may c k next =
    let at = next-of agent other side waits may (at_read v r journal taken) c next in
    let less = slice_get_within (commands agent 0 journal) taken c at.1 in
    let map_is = length-map (commands agent 0 journal) (λ (x : Command). x.action) in
    let few = commands-few agent 0 journal in
    let room = k.lawful.room in
    let sent = ap (λ (l : List ℕ). length l) (ap (sends side) (sym (take-append-drop r v.seen)) ∙ k.sent) in
    let many = length-take-le taken (commanded agent journal) k.few in
    (omega (arith, less, map_is, few, room, sent, many), omega (arith, less, few, room))

-- ---- taking up

module _ (agent other : Agent) (side : ℕ) (waits : Journal → Bool) (old new : AgentJournal) (taken : ℕ) (note : Note)
    (is : new ≡ (if is_open 0 old.entries then journal_with old (posted_entry agent old.entries 0 taken (posted_as agent other note)) else old)) where
  abbrev Made : Journal → ℕ → Note → Journal
  Made j t m = if is_open 0 j then j ++ posted_entry agent j 0 t (posted_as agent other m) ∷ [] else j

  made : new.entries ≡ Made old.entries taken note
  made = ap (λ (j : AgentJournal). j.entries) is ∙ by (is_open 0 old.entries)
    where
      by : (b : Bool) → (if b then journal_with old (posted_entry agent old.entries 0 taken (posted_as agent other note)) else old).entries
          ≡ (if b then old.entries ++ posted_entry agent old.entries 0 taken (posted_as agent other note) ∷ [] else old.entries)
      by true = refl
      by false = refl

  pub takes-up : (mid : Station) (n : SideNote) → mid.journal ≡ old.entries → mid.taken ≡ taken → n.note ≡ note
      → new.entries ≡ journal_after agent other side waits mid n.note
  takes-up mid n j t m =
      made ∙ sym (ap (λ x. Made x mid.taken n.note) j ∙ ap (λ x. Made old.entries x n.note) t ∙ ap (Made old.entries taken) m)

  pub record IsTakenUp (list : Journal) (ended : Bool) : Type 0 where
    pub agent_is : new.agent ≡ old.agent
    pub behind : IsBehind list new.entries
    pub ended_is : ended ≡ has_end new.entries

  pub taken-up : (list : Journal) (ended : Bool) → old.agent ≡ agent → IsBehind list old.entries → ended ≡ has_end old.entries → IsTakenUp list ended
  taken-up list ended same behind ends_is = go (is_open 0 old.entries) is
    where
      go : (b : Bool) → new ≡ (if b then journal_with old (posted_entry agent old.entries 0 taken (posted_as agent other note)) else old) → IsTakenUp list ended
      go true e =
          let p = posts-on old new agent taken (posted_as agent other note) list ended same
          (subst (λ a. new ≡ journal_with old (posted_entry a old.entries 0 taken (posted_as agent other note))) (sym same) e) behind ends_is in
          record { agent_is = p.agent_is; behind = p.behind; ended_is = p.ended_is }
      go false e = record {
        agent_is = ap (λ (j : AgentJournal). j.agent) e;
        behind = subst (λ (j : AgentJournal). IsBehind list j.entries) (sym e) behind;
        ended_is = ends_is ∙ sym (ap (λ (j : AgentJournal). has_end j.entries) e);
      }

-- ---- a side that has done nothing yet

pub first-station : {L W : Type 0} (mind : L → Mind) (view : W → View) (s : Side L W) → s.journal ≡ record { agent = s.agent.now; entries = [] }
    → (view s.wire).seen ≡ [] → s.taken ≡ 0 → station_of mind view s ≡ station [] [] [] 0
first-station mind view s journal none taken =
    same-station (ap (take s.told.read) none ∙ take_all s.told.read [] (omega arith)) (ap (drop s.told.read) none ∙ drop_all s.told.read [] (omega arith))
    (ap (λ (j : AgentJournal). j.entries) journal) taken

pub first-side : {L W : Type 0} (mind : L → Mind) (view : W → View) (s : Side L W) → WellFormed s.agent.now × WellFormed s.other.now
    → MayTeam s.agent.now s.other.now s.side (mind s.lead).waits → s.facts.now ≡ s.other.now → s.journal ≡ record { agent = s.agent.now; entries = [] }
    → ((mind s.lead).agent ≡ s.agent.now) × ((mind s.lead).list ≡ []) → ((view s.wire).side ≡ s.side) × ((view s.wire).seen ≡ [])
    → IsToldOf s.side [] s.told → s.taken ≡ 0 → s.ended ≡ false → IsSide mind view s
first-side mind view s formed may facts journal lead wire told taken ended = record {
  held = record {
    formed = formed;
    may = may;
    facts_are = facts;
    of_agent = (ap (λ (j : AgentJournal). j.agent) journal, lead.0);
    of_side = wire.0;
    within = (let a = told.read in omega (arith, a), let e = ap (λ (l : Notes). length l) wire.1 in omega (arith, e));
    told_is = subst (λ l. IsToldOf s.side l s.told) (sym none-told) told;
    behind = record { since = []; front = entries ∙ sym (append-nil (mind s.lead).list ∙ lead.1); of_devices = refl };
    ended_is = ended ∙ sym (ap has_end entries);
  };
  keeps = subst (Keeps s.agent.now s.other.now s.side (mind s.lead).waits) (sym first)
      (keeps-first s.agent.now s.other.now s.side (mind s.lead).waits (record { lawful = refl; room = omega arith })
      (record { driven = record { is_device = one-device s.agent.now may.matched.shape; still_open = refl; fitting = refl }; answered = refl }));
}
  where
    entries : s.journal.entries ≡ []
    entries = ap (λ (j : AgentJournal). j.entries) journal

    none-told : take s.told.read (view s.wire).seen ≡ []
    none-told = ap (take s.told.read) wire.1 ∙ take_all s.told.read [] (omega arith)

    first : station_of mind view s ≡ station [] [] [] 0
    first = first-station mind view s journal wire.1 taken
