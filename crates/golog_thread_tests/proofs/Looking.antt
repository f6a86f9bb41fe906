-- What a lead that looked at a board does in the same turn.
use Rattle.std.proofs.Common.{◌≡◌, ◌≢◌, ◌+◌, ◌≤◌, ◌<◌, Bool, true, false, not, ◌||◌, [], ◌∷◌, ◌++◌, length, length-append, append_assoc, append-nil, refl, sym, ap, ◌∙◌, subst, arith}
use Rattle.std.specs.List.{list_any, list_all}
use Rattle.std.proofs.lemmas.Bool.{and_from, or_from, or_parts}
use Rattle.std.proofs.lemmas.List.Folds.{list_any-append, list_all-append}
use Rattle.golog_tree.specs.declared.agent.Agent.{Agent}
use Rattle.golog_semantics.specs.declared.journal.Entry.TheVariants.{Test}
use Rattle.golog_semantics.specs.Journal.{Journal, has_end}
use Rattle.golog_journal.specs.declared.board.Batch.{Batch}
use Rattle.golog_journal.specs.declared.board.Commit.{Commit}
use Rattle.golog_journal.specs.declared.board.Commit.TheVariants.{Taken, Moved}
use Rattle.golog_journal.specs.Commits.{CommitIs, MayCommit}
use Rattle.golog_journal.specs.Copies.{CopyIs}
use Rattle.golog_journal.specs.Growing.{AreOthers, Called, Sight, party_of, program}
use Rattle.golog_journal.specs.Leading.{AddsEndAtMost, IsBehind, Leads, Mind, TakesTurn, is_of_program, may_come}
use Rattle.golog_threads.proofs.Lists.{no-end-more, not-program}
use Rattle.golog_thread_tests.specs.Looking.{Looks}

-- ---- what others add may come

last-true : (b : Bool) → {c : Bool} → c ≡ true → (b || c) ≡ true
last-true true h = refl
last-true false h = h

come-all : (sight : Sight) (others : Journal) → sight.alone ≡ false → list_any (λ e. sight.holds (party_of e)) others ≡ false → list_all (may_come sight) others ≡ true
come-all sight [] alone h = refl
come-all sight (e ∷ others) alone h =
    let parts = or_parts (sight.holds (party_of e)) (list_any (λ x. sight.holds (party_of x)) others) h in
    and_from _ _
    (last-true (is_of_program e) (ap (λ b. not (b || sight.holds (party_of e))) alone ∙ ap not parts.0))
    (come-all sight others alone parts.1)

others-come : (sight : Sight) (others : Journal) → AreOthers sight others → list_all (may_come sight) others ≡ true
others-come sight others are = go sight.alone refl
  where
    go : (b : Bool) → sight.alone ≡ b → list_all (may_come sight) others ≡ true
    go true alone = ap (list_all (may_come sight)) (are.none alone)
    go false alone = come-all sight others alone are.foreign

-- ---- a call that adds nothing

module _ (answers : Journal → Journal → Type 0) (old new : Sight) (call : Called answers old new) (held : old.holds program ≡ true) (none : call.added ≡ []) where
  pub seen-then : new.seen ≡ old.seen ++ call.others
  seen-then = call.grows ∙ ap (λ added. (old.seen ++ call.others) ++ added) none ∙ append-nil (old.seen ++ call.others)

  of-devices : list_any is_of_program call.others ≡ false
  of-devices = not-program old.holds held call.others call.are_others.foreign

  pub looks : Looks old new
  looks = record {
    watches = record {
      leads = record {
        same_agent = call.agent;
        same_alone = call.alone;
        same_holds = call.holds;
        since = call.others;
        grows = seen-then;
        may_come = others-come old call.others call.are_others;
      };
      alone_same = λ alone. seen-then ∙ ap (λ others. old.seen ++ others) (call.are_others.none alone) ∙ append-nil old.seen;
    };
    behind = λ list behind. record {
      since = behind.since ++ call.others;
      front = seen-then ∙ ap (λ seen. seen ++ call.others) behind.front ∙ append_assoc list behind.since call.others;
      of_devices = list_any-append is_of_program behind.since call.others ∙ or_from _ _ behind.of_devices of-devices;
    };
    goes_on = λ goes. ap has_end seen-then ∙ no-end-more old.seen call.others goes of-devices;
  }

-- where a copy from the first entry on has some, some stand
pub some-copied : (batch : Batch) (old new : Sight) (call : Called (λ point added. CopyIs point 0 batch added) old new) (held : old.holds program ≡ true)
    → 0 < batch.count → 0 < length new.seen
some-copied batch old new call held some =
    let copy = call.answered in
    let long = ap (λ (j : Journal). length j) (seen-then _ old new call held copy.none) in
    let count = copy.count in
    omega (arith, some, long, count)

-- a test may be committed that was decided for no entry, where there are some
pub may-test : (agent : Agent) (seen : Journal) → 0 < length seen → has_end seen ≡ false → MayCommit agent seen 0 Test
may-test agent seen some goes = record {
  seen = omega arith;
  goes_on = goes;
  of_program = tt;
  room = λ counts here. absurd (omega (arith, some, here));
}

-- it is then moved, and adds nothing
pub moved-none : (agent : Agent) (old new : Sight) (reply : Commit) (call : Called (λ point added. CommitIs agent point 0 Test reply added) old new)
    → 0 < length old.seen → call.added ≡ []
moved-none agent old new reply call some = go reply call.answered
  where
    go : (r : Commit) → CommitIs agent (old.seen ++ call.others) 0 Test r call.added → call.added ≡ []
    go Taken is =
        let long = length-append old.seen call.others in
        let end = is.at_end in
        absurd (omega (arith, some, long, end))
    go (Moved longer) is = is.none

-- ---- what comes behind it

module _ (a b c : Sight) (looked : Looks a b) where
  f : Leads a b
  f = looked.watches.leads

  -- a turn behind it, as one with it
  pub leads-then : Leads b c → Leads a c
  leads-then g = record {
    same_agent = g.same_agent ∙ f.same_agent;
    same_alone = g.same_alone ∙ f.same_alone;
    same_holds = g.same_holds ∙ f.same_holds;
    since = f.since ++ g.since;
    grows = g.grows ∙ ap (λ seen. seen ++ g.since) f.grows ∙ append_assoc a.seen f.since g.since;
    may_come =
        list_all-append (may_come a) f.since g.since
        ∙ and_from _ _ f.may_come
        (subst (λ holds. list_all (λ e. is_of_program e || not (a.alone || holds (party_of e))) g.since ≡ true) f.same_holds
        (subst (λ alone. list_all (λ e. is_of_program e || not (alone || b.holds (party_of e))) g.since ≡ true) f.same_alone g.may_come));
  }

  pub turn-then : (mind : Mind) → TakesTurn mind b c → TakesTurn mind a c
  turn-then mind turn = record {
    goes = λ alone goes acts.
        subst (λ seen. c.seen ≢ seen) (looked.watches.alone_same alone)
        (turn.goes (f.same_alone ∙ alone) (looked.goes_on goes) (ap mind.waits (looked.watches.alone_same alone) ∙ acts));
    rests = λ alone goes waits.
        subst (λ seen. AddsEndAtMost seen c.seen) (looked.watches.alone_same alone)
        (turn.rests (f.same_alone ∙ alone) (looked.goes_on goes) (ap mind.waits (looked.watches.alone_same alone) ∙ waits));
    one = λ alone.
        subst (λ seen. length c.seen ≤ length seen + 1) (looked.watches.alone_same alone) (turn.one (f.same_alone ∙ alone));
  }

  -- another look
  pub looks-then : Looks b c → Looks a c
  looks-then later = record {
    watches = record {
      leads = leads-then later.watches.leads;
      alone_same = λ alone. later.watches.alone_same (f.same_alone ∙ alone) ∙ looked.watches.alone_same alone;
    };
    behind = λ list behind. later.behind list (looked.behind list behind);
    goes_on = λ goes. later.goes_on (looked.goes_on goes);
  }

-- nothing was looked at
pub no-look : (sight : Sight) → Looks sight sight
no-look sight = record {
  watches = record {
    leads = record {
      same_agent = refl;
      same_alone = refl;
      same_holds = refl;
      since = [];
      grows = sym (append-nil sight.seen);
      may_come = refl;
    };
    alone_same = λ alone. refl;
  };
  behind = λ list behind. behind;
  goes_on = λ goes. goes;
}

-- a program that has not ended in what was copied has not ended
pub still-goes : (list seen : Journal) → IsBehind list seen → has_end list ≡ false → has_end seen ≡ false
still-goes list seen behind goes = ap has_end behind.front ∙ no-end-more list behind.since goes behind.of_devices
