-- A seat's view of a shared journal is a board's.
use Rattle.std.proofs.Common.{◌≡◌, ◌≢◌, ℕ, ◌≤◌, ◌<◌, true, false, Option, Some, None, List, [], ◌∷◌, ◌++◌, length, length-append, append-nil, refl, sym, ap, ◌∙◌, subst, arith}
use Rattle.std.specs.List.{list_any}
use Rattle.std.specs.Option.{option_map_or}
use Rattle.golog_tree.specs.declared.agent.Agent.{Agent}
use Rattle.golog_semantics.specs.declared.journal.Entry.{Entry}
use Rattle.golog_semantics.specs.declared.journal.Entry.TheVariants.{Do, Test, Exo, Sense, Rest, Close, End}
use Rattle.golog_semantics.specs.declared.journal.Item.{Item}
use Rattle.golog_semantics.specs.declared.journal.Item.TheVariants as item
use Rattle.golog_semantics.specs.declared.journal.Reason.{Reason}
use Rattle.golog_semantics.specs.Journal.{Journal, Command, count, limit, longest}
use Rattle.golog_semantics.specs.Posts.{awaited_command, closing, result_of, entry_of, posted_entry}
use Rattle.golog_journal.specs.declared.board.Commit.{Commit as Committed}
use Rattle.golog_journal.specs.declared.board.Commit.TheVariants.{Taken, Moved}
use Rattle.golog_journal.specs.Boards.{IsBoardList}
use Rattle.golog_journal.specs.Taken.{IsReady}
use Rattle.golog_journal.specs.Posting.{IsItsTime, MayPost}
use Rattle.golog_journal.specs.Commits.{IsOfProgram, MayCommit, CommitIs}
use Rattle.golog_journal.specs.Growing.{Called, Sight, party_of, program}
use Rattle.golog_journal.specs.Laws.{AreNotOf}
use Rattle.golog_journal.specs.Leading.{is_of_program}
use Rattle.golog_journal.proofs.Staying.{driven_stays, ready_stays}
use Rattle.golog_turn.specs.Parties.{contains, AreOf, GoesOn}
use Rattle.golog_turn.specs.Acts.{Applied}
use Rattle.golog_threads.specs.declared.ops.Op.{Op}
use Rattle.golog_threads.specs.declared.ops.Op.TheVariants.{Post, NextCommand, HasMore, CopySince, Commit}
use Rattle.golog_threads.specs.declared.ops.Reply.{Reply}
use Rattle.golog_threads.specs.declared.ops.Reply.TheVariants.{OfPost, OfNext, OfMore, OfCopy, OfCommit}
use Rattle.golog_threads.specs.Sharing.{Allows, Says, Answers}
use Rattle.golog_device.proofs.Asked.{lawful-prefix}
use Rattle.golog_threads.proofs.Lists.{foreign, not-device, not-program, no-end-more, end-stands, commands-stay}

-- ---- what may be asked stays so while others add entries

module _ (agent : Agent) (journal others : Journal) (list : IsBoardList agent (journal ++ others)) where
  front : IsBoardList agent journal
  front = lawful-prefix agent journal others list

  time-stays : (device taken : ℕ) (i : Item) → i ≢ item.Refused → IsItsTime agent journal device taken i → IsItsTime agent (journal ++ others) device taken i
  time-stays device taken item.Stop plain h = (end-stands journal others h.0, h.1 ∙ sym (ap (λ cs. length cs) (commands-stay agent device journal others list h.0)))
  time-stays device taken item.Refused plain h = absurd (plain refl)
  time-stays device taken (item.Exo a) plain h = tt
  time-stays device taken (item.Value v) plain h = tt
  time-stays device taken item.Rest plain h = tt
  time-stays device taken item.Close plain h = tt
  time-stays device taken item.Unreadable plain h = tt
  time-stays device taken item.Silent plain h = tt

  pub post-stays : (device taken : ℕ) (i : Item) → AreNotOf device others → i ≢ item.Refused → MayPost agent journal device taken i → MayPost agent (journal ++ others) device taken i
  post-stays device taken i none plain may = record {
    driven = driven_stays agent journal others device taken front none may.driven;
    in_time = time-stays device taken i plain may.in_time;
  }

  next-stays : (device taken : ℕ) → AreNotOf device others → IsReady agent journal device taken → IsReady agent (journal ++ others) device taken
  next-stays device taken none ready = ready_stays agent journal others device taken front none ready

-- no entries of others, where the list is no longer
none-more : (journal others : Journal) (place : ℕ) → place ≤ length journal → place ≡ length (journal ++ others) → others ≡ []
none-more journal [] place low at = refl
none-more journal (e ∷ others) place low at = absurd (let l = length-append journal (e ∷ others) in omega (arith, low, at, l))

program-same : (agent : Agent) (one other : Journal) (at at' : ℕ) (x e : Entry) → IsOfProgram agent one at x e → IsOfProgram agent other at' x e
program-same agent one other at at' x (Do a) h = h
program-same agent one other at at' x Test h = h
program-same agent one other at at' x (End a) h = h
program-same agent one other at at' x (Exo p a) h = absurd h
program-same agent one other at at' x (Sense p pl f v) h = absurd h
program-same agent one other at at' x (Rest p t) h = absurd h
program-same agent one other at at' x (Close p r t) h = absurd h

pub commit-stays : (agent : Agent) (journal others : Journal) (at : ℕ) (e : Entry) → list_any is_of_program others ≡ false → MayCommit agent journal at e → MayCommit agent (journal ++ others) at e
commit-stays agent journal others at e none may = record {
  seen = let l = length-append journal others in let s = may.seen in omega (arith, l, s);
  goes_on = no-end-more journal others may.goes_on none;
  of_program = program-same agent journal (journal ++ others) at at e e may.of_program;
  room = λ counted last.
      let empty = none-more journal others at may.seen last in
      subst (λ l. count l < limit) (sym (ap (λ o. journal ++ o) empty ∙ append-nil journal))
      (may.room counted (last ∙ ap (λ o. length (journal ++ o)) empty ∙ ap (λ l. length l) (append-nil journal)));
}

-- ---- whose the added entries are

party-of-posted : (agent : Agent) (journal : Journal) (device taken : ℕ) (i : Item) → party_of (posted_entry agent journal device taken i) ≡ device
party-of-posted agent journal device taken i = by (closing agent journal device taken i)
  where
    result : (value : ℕ) (o : Option Command) → party_of (option_map_or (result_of agent journal device taken value) o (Rest device taken)) ≡ device
    result value None = refl
    result value (Some c) = refl

    entry : (x : Item) → party_of (entry_of agent journal device taken x) ≡ device
    entry (item.Exo action) = refl
    entry (item.Value value) = result value (awaited_command agent journal device taken)
    entry item.Rest = refl
    entry item.Close = refl
    entry item.Unreadable = refl
    entry item.Silent = refl
    entry item.Stop = refl
    entry item.Refused = refl

    by : (o : Option Reason) → party_of (option_map_or (λ r. Close device r taken) o (entry_of agent journal device taken i)) ≡ device
    by None = entry i
    by (Some r) = refl

party-of-program : (agent : Agent) (journal : Journal) (at : ℕ) (x e : Entry) → IsOfProgram agent journal at x e → party_of e ≡ program
party-of-program agent journal at x (Do a) h = refl
party-of-program agent journal at x Test h = refl
party-of-program agent journal at x (End a) h = refl
party-of-program agent journal at x (Exo p a) h = absurd h
party-of-program agent journal at x (Sense p pl f v) h = absurd h
party-of-program agent journal at x (Rest p t) h = absurd h
party-of-program agent journal at x (Close p r t) h = absurd h

module _ (parties : List ℕ) where
  of-none : (added : Journal) → added ≡ [] → AreOf party_of parties added
  of-none added none = subst (λ l. AreOf party_of parties l) (sym none) tt

  of-one : (e : Entry) (added : Journal) (p : ℕ) → party_of e ≡ p → contains parties p ≡ true → added ≡ e ∷ [] → AreOf party_of parties added
  of-one e added p whose held one = subst (λ l. AreOf party_of parties l) (sym one) (ap (contains parties) whose ∙ held, tt)

-- ---- what a seat may ask

module _ (agent : Agent) (seen : Journal) (parties : List ℕ) (list : Journal) (lawful : IsBoardList agent list) (goes : GoesOn party_of list seen parties) where
  abbrev others : Journal
  others = goes.0

  lawful-more : IsBoardList agent (seen ++ others)
  lawful-more = subst (IsBoardList agent) goes.1 lawful

  not-held : list_any (λ e. contains parties (party_of e)) others ≡ false
  not-held = foreign parties others goes.2

  back : (P : Journal → Type 0) → P (seen ++ others) → P list
  back P h = subst P (sym goes.1) h

  abbrev MayAsk : Op → Type 0
  MayAsk op = Allows agent list op × ((reply : Reply) (added : Journal) → Answers agent list op reply added → AreOf party_of parties added)

  pub may-post : (device taken : ℕ) (i : Item) → contains parties device ≡ true → i ≢ item.Refused → MayPost agent seen device taken i → MayAsk (Post device i taken)
  may-post device taken i held plain may = (
    back (λ l. MayPost agent l device taken i) (post-stays agent seen others lawful-more device taken i (not-device (contains parties) device held others not-held) plain may),
    λ reply added a. whose reply added a.says,
  )
    where
      whose : (reply : Reply) (added : Journal) → Says agent list (Post device i taken) reply added → AreOf party_of parties added
      whose (OfPost p) added says = of-one parties (posted_entry agent list device taken i) added device (party-of-posted agent list device taken i) held says.one
      whose (OfNext n) added says = absurd says
      whose (OfMore m) added says = absurd says
      whose (OfCopy b) added says = absurd says
      whose (OfCommit c) added says = absurd says

  pub may-ask-next : (device taken : ℕ) → contains parties device ≡ true → IsReady agent seen device taken → MayAsk (NextCommand device taken)
  may-ask-next device taken held ready = (
    back (λ l. IsReady agent l device taken) (next-stays agent seen others lawful-more device taken (not-device (contains parties) device held others not-held) ready),
    λ reply added a. whose reply added a.says,
  )
    where
      whose : (reply : Reply) (added : Journal) → Says agent list (NextCommand device taken) reply added → AreOf party_of parties added
      whose (OfPost p) added says = absurd says
      whose (OfNext n) added says = of-none parties added says.none
      whose (OfMore m) added says = absurd says
      whose (OfCopy b) added says = absurd says
      whose (OfCommit c) added says = absurd says

  pub may-ask-more : (since : ℕ) → MayAsk (HasMore since)
  may-ask-more since = (tt, λ reply added a. whose reply added a.says)
    where
      whose : (reply : Reply) (added : Journal) → Says agent list (HasMore since) reply added → AreOf party_of parties added
      whose (OfPost p) added says = absurd says
      whose (OfNext n) added says = absurd says
      whose (OfMore m) added says = of-none parties added says.none
      whose (OfCopy b) added says = absurd says
      whose (OfCommit c) added says = absurd says

  pub may-copy : (since : ℕ) → since ≤ length seen → MayAsk (CopySince since)
  may-copy since low = (
    back (λ l. since ≤ length l) (let l = length-append seen others in omega (arith, l, low)),
    λ reply added a. whose reply added a.says,
  )
    where
      whose : (reply : Reply) (added : Journal) → Says agent list (CopySince since) reply added → AreOf party_of parties added
      whose (OfPost p) added says = absurd says
      whose (OfNext n) added says = absurd says
      whose (OfMore m) added says = absurd says
      whose (OfCopy b) added says = of-none parties added says.none
      whose (OfCommit c) added says = absurd says

  pub may-commit : (at : ℕ) (e : Entry) → contains parties program ≡ true → MayCommit agent seen at e → MayAsk (Commit at e)
  may-commit at e held may = (
    back (λ l. MayCommit agent l at e) (commit-stays agent seen others at e (not-program (contains parties) held others not-held) may),
    λ reply added a. whose reply added a.says,
  )
    where
      mine : (c : Committed) (added : Journal) → CommitIs agent list at e c added → AreOf party_of parties added
      mine Taken added is = of-one parties e added program (party-of-program agent seen at e e may.of_program) held is.one
      mine (Moved longer) added is = of-none parties added is.none

      whose : (reply : Reply) (added : Journal) → Says agent list (Commit at e) reply added → AreOf party_of parties added
      whose (OfPost p) added says = absurd says
      whose (OfNext n) added says = absurd says
      whose (OfMore m) added says = absurd says
      whose (OfCopy b) added says = absurd says
      whose (OfCommit c) added says = mine c added says

-- ---- what it has then seen

-- a seat's view, as a board's
abbrev pub sight_of : Agent → Journal → List ℕ → Sight
sight_of agent seen parties = record { agent = agent; seen = seen; alone = false; holds = contains parties }

module _ {O : Type 0} (list : O → Journal) (agent : Agent) where
  pub called : (answers : Journal → Journal → Type 0) (op : Op) (reply : Reply) (before after : Journal) (parties parties' : List ℕ)
      → parties' ≡ parties
      → ((point added : Journal) → Says agent point op reply added → answers point added)
      → Applied list party_of (Answers agent) before parties op reply after
      → Called answers (sight_of agent before parties) (sight_of agent after parties')
  called answers op reply before after parties parties' same tell applied = record {
    agent = refl;
    alone = refl;
    holds = ap contains same;
    others = applied.goes_on.0;
    are_others = record {
      foreign = foreign parties applied.goes_on.0 applied.goes_on.2;
      none = λ alone. absurd (cc);
    };
    added = applied.added;
    grows = applied.ends ∙ ap (λ p. p ++ applied.added) applied.goes_on.1;
    answered = subst (λ p. answers p applied.added) applied.goes_on.1 (tell applied.point applied.added applied.answered.says);
    lawful = subst (IsBoardList agent) (sym applied.ends) applied.answered.lawful;
    short = subst (λ l. length l ≤ longest) (sym applied.ends) applied.answered.short;
  }
