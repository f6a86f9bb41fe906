-- A device's turns, one after the other, over a board that others add to.
use Rattle.std.proofs.Common.{◌≡◌, ◌≢◌, ℕ, ◌+◌, true, false, Option, Some, None, [], ◌++◌, append-nil, append_assoc, refl, sym, ap, ◌∙◌, subst}
use Rattle.std.proofs.lemmas.Bool.{or_from}
use Rattle.golog_tree.specs.declared.agent.Agent.{Agent}
use Rattle.golog_semantics.specs.declared.journal.Item.{Item}
use Rattle.golog_semantics.specs.declared.journal.Item.TheVariants as item
use Rattle.golog_semantics.specs.Journal.{Journal, is_open}
use Rattle.golog_semantics.specs.Dealt.{Meaning, Script, WasDealtWith}
use Rattle.golog_journal.specs.declared.board.Next.{Next}
use Rattle.golog_journal.specs.declared.board.Next.TheVariants.{Command as Commanded, Nothing as NoCommand, Ended}
use Rattle.golog_journal.specs.Boards.{IsBoardList}
use Rattle.golog_journal.specs.Taken.{IsReady}
use Rattle.golog_journal.specs.Commands.{NextIs}
use Rattle.golog_journal.specs.Posting.{PostIs}
use Rattle.golog_journal.specs.Growing.{Called, Sight}
use Rattle.golog_device.specs.declared.turn.Turned.{Turned}
use Rattle.golog_device.specs.declared.turn.Turned.TheVariants as turned
use Rattle.golog_device.specs.Turns.{SameBoard, PostsItem, answer_item, idle_item, idle_turn, TurnsBy, Turns}
use Rattle.golog_device.specs.Dealing.{DealtSoFar, DealtAfter, DealtIf, DealtNow}
use Rattle.golog_device.proofs.Commanded.{answer-plain, idle-plain, not-refused}
use Rattle.golog_threads.specs.Driving.{GoesFrom, has_refused, HasServed}
use Rattle.golog_threads.proofs.Lists.{not-device}
use Rattle.golog_threads.proofs.Refusals.{refused-more, refused-later, open-unrefused, entry-unrefused}

-- ---- lists that go on

pub goes-nowhere : (journal : Journal) → GoesFrom journal journal
goes-nowhere journal = record { since = []; is = sym (append-nil journal) }

pub goes-then : (a b c : Journal) → GoesFrom a b → GoesFrom b c → GoesFrom a c
goes-then a b c one two = record {
  since = one.since ++ two.since;
  is = two.is ∙ ap (λ j. j ++ two.since) one.is ∙ append_assoc a one.since two.since;
}

-- ---- calls and turns

module _ (agent : Agent) (device : ℕ) where
  -- the board stays the same, and its list grows and keeps the rules, with no refusal of the device
  pub record Keeps (old new : Sight) : Type 0 where
    pub same : SameBoard old new
    pub lawful : IsBoardList new.agent new.seen
    pub goes : GoesFrom old.seen new.seen
    pub unrefused : has_refused device new.seen ≡ has_refused device old.seen

  called-keeps : (answers : Journal → Journal → Type 0) (old new : Sight) → old.holds device ≡ true → (call : Called answers old new)
      → has_refused device call.added ≡ false → Keeps old new
  called-keeps answers old new held call none = record {
    same = record { same_agent = call.agent; same_alone = call.alone; same_holds = call.holds };
    lawful = call.lawful;
    goes = record { since = call.others ++ call.added; is = call.grows ∙ append_assoc old.seen call.others call.added };
    unrefused =
        ap (has_refused device) call.grows
        ∙ (refused-more device (old.seen ++ call.others) call.added none
        ∙ refused-later device old.seen call.others (not-device old.holds device held call.others call.are_others.foreign));
  }

  keeps-self : (sight : Sight) → IsBoardList sight.agent sight.seen → Keeps sight sight
  keeps-self sight list = record {
    same = record { same_agent = refl; same_alone = refl; same_holds = refl };
    lawful = list;
    goes = goes-nowhere sight.seen;
    unrefused = refl;
  }

  keeps-then : (a b c : Sight) → Keeps a b → Keeps b c → Keeps a c
  keeps-then a b c one two = record {
    same = record {
      same_agent = two.same.same_agent ∙ one.same.same_agent;
      same_alone = two.same.same_alone ∙ one.same.same_alone;
      same_holds = two.same.same_holds ∙ one.same.same_holds;
    };
    lawful = two.lawful;
    goes = goes-then a.seen b.seen c.seen one.goes two.goes;
    unrefused = two.unrefused ∙ one.unrefused;
  }

  posts-keeps : (n : ℕ) (o : Option Item) (done result : Turned) (point new : Sight) → point.holds device ≡ true → IsBoardList point.agent point.seen
      → ((i : Item) → o ≡ Some i → i ≢ item.Refused) → PostsItem device n o done result point new → Keeps point new
  posts-keeps n None done result point new held list plain (is_done, stays) = subst (Keeps point) (sym stays) (keeps-self point list)
  posts-keeps n (Some i) done result point new held list plain (reply, came, call) =
      called-keeps (λ at. PostIs point.agent at device n i reply) point new held call
      (ap (has_refused device) call.answered.one ∙ or_from _ _ (entry-unrefused device point.agent (point.seen ++ call.others) n i (plain i refl)) refl)

  same-item : (i j : Item) → Some i ≡ Some j → i ≢ item.Refused → j ≢ item.Refused
  same-item i j e plain = subst (λ x. x ≢ item.Refused) (cc) plain

  does-keeps : (taken count : ℕ) (told : Next) (result : Turned) (point new : Sight) (was is : Meaning) → point.holds device ≡ true → IsBoardList point.agent point.seen
      → TurnsBy agent device taken told result count point new was is → Keeps point new
  does-keeps taken count (Commanded place action asked) result point new was is held list (more, (answer, serves, posts)) =
      posts-keeps (taken + 1) (answer_item agent device action asked answer) turned.Served result point new held list
      (λ i e. not-refused i (answer-plain agent device action asked answer i e)) posts
  does-keeps taken count Ended result point new was is held list (as_many, stays, posts) =
      posts-keeps taken (Some item.Stop) turned.Posted result point new held list (λ i e. same-item item.Stop i e (λ no. absurd (cc))) posts
  does-keeps taken count (NoCommand true) result point new was is held list (as_many, stays, posts) =
      posts-keeps taken None turned.Nothing result point new held list (λ i e. absurd (cc)) posts
  does-keeps taken count (NoCommand false) result point new was is held list (as_many, (answer, idles, posts)) =
      posts-keeps taken (Some (idle_item agent answer)) (idle_turn answer) result point new held list
      (λ i e. same-item (idle_item agent answer) i e (not-refused (idle_item agent answer) (idle-plain agent answer))) posts

  turn-keeps : (taken count : ℕ) (result : Turned) (old new : Sight) (was is : Meaning) → old.holds device ≡ true
      → Turns agent device taken result count old new was is → Keeps old new
  turn-keeps taken count result old new was is held turns =
      keeps-then old turns.asked new
      (called-keeps (λ at. NextIs agent at device taken turns.told) old turns.asked held turns.asks (ap (has_refused device) turns.asks.answered.none))
      (does-keeps taken count turns.told result turns.asked new was is (ap (λ h. h device) turns.asks.holds ∙ held) turns.asks.lawful turns.does)

  -- ---- the turns so far

  -- since these entries the device has had turns, and was not closed
  pub record Going (start now : Sight) (taken : ℕ) (was m : Meaning) : Type 0 where
    pub of_agent : now.agent ≡ agent
    pub held : now.holds device ≡ true
    pub keeps : Keeps start now
    pub ready : IsReady agent now.seen device taken
    pub dealt : (script : Script) → DealtNow agent device start.seen 0 script was → DealtSoFar agent device now.seen taken script m

  pub begins : (start : Sight) (m : Meaning) → start.agent ≡ agent → start.holds device ≡ true → IsBoardList agent start.seen
      → IsReady agent start.seen device 0 → Going start start 0 m m
  begins start m own held list ready = record {
    of_agent = own;
    held = held;
    keeps = keeps-self start (subst (λ a. IsBoardList a start.seen) (sym own) list);
    ready = ready;
    dealt = λ script far. subst (λ b. DealtIf agent device b start.seen 0 script m) ready.driven.still_open far;
  }

  still-dealt : (result : Turned) (journal : Journal) (n : ℕ) (script : Script) (m : Meaning) → result ≢ turned.Closed → DealtAfter agent device result journal n script m
      → DealtSoFar agent device journal n script m
  still-dealt turned.Served journal n script m other h = h
  still-dealt turned.Posted journal n script m other h = h
  still-dealt turned.Rested journal n script m other h = h
  still-dealt turned.Nothing journal n script m other h = h
  still-dealt turned.Closed journal n script m other h = absurd (other refl)

  module _ (start now next : Sight) (taken count : ℕ) (was m m' : Meaning) (result : Turned)
      (going : Going start now taken was m) (turns : Turns agent device taken result count now next m m')
      (after : (script : Script) → DealtSoFar agent device now.seen taken script m → DealtAfter agent device result next.seen count script m') where
    step : Keeps now next
    step = turn-keeps taken count result now next m m' going.held turns

    pub held-after : next.holds device ≡ true
    held-after = ap (λ h. h device) step.same.same_holds ∙ going.held

    pub goes-on : result ≢ turned.Closed → IsReady agent next.seen device count → Going start next count was m'
    goes-on other ready = record {
      of_agent = step.same.same_agent ∙ going.of_agent;
      held = held-after;
      keeps = keeps-then start now next going.keeps step;
      ready = ready;
      dealt = λ script far. still-dealt result next.seen count script m' other (after script (going.dealt script far));
    }

    pub whole : Keeps start next
    whole = keeps-then start now next going.keeps step

    pub closes : result ≡ turned.Closed → (script : Script) → DealtNow agent device start.seen 0 script was → WasDealtWith agent device next.seen script m'
    closes is script far = subst (λ r. DealtAfter agent device r next.seen count script m') is (after script (going.dealt script far))

  -- a device that is closed by this turn has served
  pub served : {D : Type 0} (meaning : D → Meaning) (start now next : Sight) (taken count : ℕ) (d e : D) (m : Meaning) (result : Turned)
      → Going start now taken (meaning d) m → Turns agent device taken result count now next m (meaning e)
      → ((script : Script) → DealtSoFar agent device now.seen taken script m → DealtAfter agent device result next.seen count script (meaning e))
      → result ≡ turned.Closed → is_open device next.seen ≡ false → is_open device start.seen ≡ true
      → HasServed agent meaning start.seen next.seen device d e
  served meaning start now next taken count d e m result going turns after is shut opened =
      let w = whole start now next taken count (meaning d) m (meaning e) result going turns after in
      record {
        shut = shut;
        dealt = closes start now next taken count (meaning d) m (meaning e) result going turns after is;
        same = λ closed. absurd (let k = sym opened ∙ closed in cc);
        refused = λ yes. absurd (let k = sym yes ∙ (w.unrefused ∙ open-unrefused device start.seen opened) in cc);
      }
