-- What came of a turn, from what came of its parts, whatever the program waits for and ends with.
use Rattle.std.proofs.Common.{◌≡◌, ◌≢◌, ◌↔◌, ◌+◌, ◌-◌, ◌≤◌, ◌<◌, Bool, true, false, ◌||◌, ◌⊎◌, inl, inr, [], ◌∷◌, ◌++◌, length, length-append, Option, Some, None, refl, sym, ap, ◌∙◌, subst, arith, append_assoc}
use Rattle.std.specs.Prelude.{IsTrue, IfSome, Contains}
use Rattle.std.specs.List.{list_all}
use Rattle.std.proofs.lemmas.Bool.{and_from}
use Rattle.std.proofs.lemmas.List.{append-nil}
use Rattle.std.proofs.lemmas.List.Elements.{Contains-push}
use Rattle.std.proofs.lemmas.List.Folds.{list_any-append, list_all-append}
use Rattle.golog_base.proofs.Bools.{or-true}
use Rattle.golog_tree.specs.declared.agent.Agent.{Agent}
use Rattle.golog_tree.specs.declared.prog.Label.{Label}
use Rattle.golog_tree.specs.declared.prog.Label.TheVariants.{Quiet, Do as Doing}
use Rattle.golog_semantics.specs.declared.journal.Entry.{Entry}
use Rattle.golog_semantics.specs.declared.journal.Entry.TheVariants.{End}
use Rattle.golog_semantics.specs.declared.journal.Answer.{Answer}
use Rattle.golog_semantics.specs.Inline.{entry_for}
use Rattle.golog_semantics.specs.Journal.{Journal, has_end, is_end, longest}
use Rattle.golog_journal.specs.declared.lead.Led.TheVariants as led
use Rattle.golog_journal.specs.Growing.{Sight, program}
use Rattle.golog_journal.specs.Leading.{AddsEndAtMost, IsBehind, Leads, Mind, TakesTurn, Watches, may_come}
use Rattle.golog_lead.specs.declared.stepped.Stepped.{Stepped}
use Rattle.golog_lead.specs.declared.stepped.Stepped.TheVariants.{Step, Waiting, Ended}
use Rattle.golog_lead.specs.Courses.{Course}
use Rattle.golog_lead.specs.Keeping.{EndsBy}
use Rattle.golog_lead.specs.Run.{is_step_entry}
use Rattle.golog_lead.specs.Seeing.{AttemptIs, CommitGives, CommitsEnd, EndStood, Follows, HasEnded, IsCommitted, IsCurrent, IsOver, IsOvertaken, StillWaits, TurnIs, led_for}
use Rattle.golog_semantics.proofs.Among.{among-contains, any-among}
use Rattle.golog_lead.proofs.Boarding.{compose, end-as-before, no-change, others-come, over-whole, seen-so}
use Rattle.golog_lead.proofs.StepEntries.{each-step}

-- ---- entries of steps

pub label-steps : (l : Label) → is_step_entry (entry_for l) ≡ true
label-steps (Doing a) = refl
label-steps Quiet = refl

step-comes : (sight : Sight) (e : Entry) → is_step_entry e ≡ true → may_come sight e ≡ true
step-comes sight = each-step (λ e. may_come sight e ≡ true) (λ action. refl) refl

step-goes-on : (e : Entry) → is_step_entry e ≡ true → is_end e ≡ false
step-goes-on = each-step (λ e. is_end e ≡ false) (λ action. refl) refl

-- ---- the end

pub contains-end : (journal : Journal) (answer : Answer) → Contains journal (End answer) → has_end journal ≡ true
contains-end journal answer h = any-among is_end journal (End answer) (among-contains journal (End answer) h) refl

none-long : (xs : Journal) → length xs ≤ 0 → xs ≡ []
none-long [] h = refl
none-long (x ∷ xs) h = absurd (omega (arith, h))

pub current-over : (course : Course) (sight : Sight) → IsCurrent course sight → IsOver course sight
current-over course sight current = over-whole course sight current.of_agent current.held current.whole

pub whole-behind : (list seen : Journal) → list ≡ seen → IsBehind list seen
whole-behind list seen whole = record { since = []; front = sym whole ∙ sym (append-nil list); of_devices = refl }

pub attempt-unended : (list : Journal) (o : Option Answer) → o ≡ None → EndsBy list o → has_end list ≡ false
attempt-unended list o is ends = subst (EndsBy list) is ends

-- ---- what a lead does

module _ (old new : Sight) where
  leads-by : (committed : Journal) → list_all (may_come old) committed ≡ true → Follows old new committed → Leads old new
  leads-by committed come f = record {
    same_agent = f.same_agent;
    same_alone = f.same_alone;
    same_holds = f.same_holds;
    since = f.others ++ committed;
    grows = f.grows ∙ append_assoc old.seen f.others committed;
    may_come = list_all-append (may_come old) f.others committed ∙ and_from _ _ (others-come old f.others f.are_others) come;
  }

  pub watches : Follows old new [] → Watches old new
  watches f = record {
    leads = leads-by [] refl f;
    alone_same = λ h. seen-so old new f ∙ ap (λ others. old.seen ++ others) (f.are_others.none h) ∙ append-nil old.seen;
  }

  pub alone-grows : (committed : Journal) (f : Follows old new committed) → old.alone ≡ true → new.seen ≡ old.seen ++ committed
  alone-grows committed f h = f.grows ∙ ap (λ others. (old.seen ++ others) ++ committed) (f.are_others.none h) ∙ ap (λ seen. seen ++ committed) (append-nil old.seen)

  pub alone-stays : Follows old new [] → old.alone ≡ true → new.seen ≡ old.seen
  alone-stays f h = alone-grows [] f h ∙ append-nil old.seen

  -- where no one else adds entries, it adds one
  longer : old.alone ≡ true → (e : Entry) → Follows old new (e ∷ []) → new.seen ≢ old.seen
  longer alone e f same =
      let more = ap (λ seen. length seen) (sym same ∙ alone-grows (e ∷ []) f alone) ∙ length-append old.seen (e ∷ []) in
      absurd (omega (arith, more))

  one-more : (e : Entry) → Follows old new (e ∷ []) → old.alone ≡ true → length new.seen ≤ length old.seen + 1
  one-more e f alone =
      let more = ap (λ seen. length seen) (alone-grows (e ∷ []) f alone) ∙ length-append old.seen (e ∷ []) in
      omega (arith, more)

  none-more : Follows old new [] → old.alone ≡ true → length new.seen ≤ length old.seen + 1
  none-more f alone = let same = ap (λ seen. length seen) (alone-stays f alone) in omega (arith, same)

contrary : (b : Bool) → b ≡ true → b ≡ false → ⊥
contrary b h k = absurd (let j = sym h ∙ k in cc)

-- the program has ended, by what a turn told
ended-tells : (seen : Journal) → has_end seen ≡ true → (led.Ended ≡ led.Ended) ↔ IsTrue (has_end seen)
ended-tells seen h = (λ e. h, λ k. refl)

more-tells : (seen : Journal) → has_end seen ≡ false → (led.More ≡ led.Ended) ↔ IsTrue (has_end seen)
more-tells seen h = (λ e. absurd (cc), λ k. absurd (let j = sym k ∙ h in cc))

module _ (waiting : Agent → Journal → Bool) (may : Agent → Journal → Answer → Type 0) where
  -- ---- after others have added entries

  module _ (a b c : Sight) (held : a.holds program ≡ true) (f : Follows a b []) where
    grown : length a.seen ≤ length b.seen
    grown =
        let more = ap (λ seen. length seen) (seen-so a b f) ∙ length-append a.seen f.others in
        omega (arith, more)

    later-answer : (answer : Answer) (others : Journal) → may b.agent (b.seen ++ others) answer → may a.agent (a.seen ++ (f.others ++ others)) answer
    later-answer answer others h =
        subst (λ g. may g (a.seen ++ (f.others ++ others)) answer) f.same_agent
        (subst (λ seen. may b.agent seen answer) (ap (λ seen. seen ++ others) (seen-so a b f) ∙ append_assoc a.seen f.others others) h)

    pub later-turn : (s : Stepped) → TurnIs waiting may b c s → TurnIs waiting may a c s
    unfolding compose
    later-turn Step t = record { entry = t.entry; is_step = t.is_step; follows = compose a b c f (t.entry ∷ []) t.follows }
    later-turn Waiting t = record { goes_on = t.goes_on; is_waiting = t.is_waiting; follows = compose a b c f [] t.follows }
    later-turn (Ended answer) t = record { stands = t.stands; how = go t.how }
      where
        go : EndStood b c ⊎ CommitsEnd may answer b c → EndStood a c ⊎ CommitsEnd may answer a c
        go (inl e) = inl (record { ended = sym (end-as-before a b f held) ∙ e.ended; follows = compose a b c f [] e.follows })
        go (inr e) = inr (record {
          goes_on = sym (end-as-before a b f held) ∙ e.goes_on;
          follows = compose a b c f (End answer ∷ []) e.follows;
          answered = later-answer answer e.follows.others e.answered;
        })

    pub later-attempt : (o : Option Stepped) → AttemptIs waiting may b c o → AttemptIs waiting may a c o
    later-attempt None t = record { follows = compose a b c f [] t.follows; longer = (let l = t.longer in let g = grown in omega (arith, l, g)); short = t.short }
    later-attempt (Some s) t = later-turn s t

  -- ---- an attempt

  -- the program had ended
  pub attempt-stands : (first course : Course) (a b : Sight) → IsOver first a → IsCurrent course b → Follows a b [] → (o : Option Answer) (answer : Answer) → o ≡ Some answer
      → EndsBy course.list o → AttemptIs waiting may a b (Some (Ended answer))
  attempt-stands first course a b over current f o answer is ends =
      let stands : Contains b.seen (End answer) = subst (λ seen. Contains seen (End answer)) current.whole (subst (EndsBy course.list) is ends) in
      record {
        stands = stands;
        how = inl (record { ended = sym (end-as-before a b f over.held) ∙ contains-end b.seen answer stands; follows = f });
      }

  module _ (course : Course) (old new : Sight) (current : IsCurrent course old) where
    -- it waits
    pub attempt-waits : has_end course.list ≡ false → waiting course.agent course.list ≡ true → AttemptIs waiting may old old (Some Waiting)
    attempt-waits goes w = record {
      goes_on = ap has_end (sym current.whole) ∙ goes;
      is_waiting = ap (λ g. waiting g old.seen) (sym current.of_agent) ∙ ap (waiting course.agent) (sym current.whole) ∙ w;
      follows = no-change old;
    }

    none-between : (e : Entry) (t : IsCommitted e old new) → t.follows.others ≡ []
    none-between e t =
        let whole = ap (λ xs. length xs) (sym t.follows.grows ∙ t.next) in
        let one = length-append (old.seen ++ t.follows.others) (e ∷ []) in
        let two = length-append old.seen t.follows.others in
        let three = length-append old.seen (e ∷ []) in
        none-long t.follows.others (omega (arith, whole, one, two, three))

    answered-at : (answer : Answer) (others : Journal) → others ≡ [] → may course.agent course.list answer → may old.agent (old.seen ++ others) answer
    answered-at answer others none h =
        subst (λ seen. may old.agent seen answer) (sym (ap (λ xs. old.seen ++ xs) none ∙ append-nil old.seen))
        (subst (λ seen. may old.agent seen answer) current.whole (subst (λ g. may g course.list answer) current.of_agent h))

    -- it ended
    pub end-commits : (answer : Answer) (r : Bool) → r ≡ true → has_end course.list ≡ false → may course.agent course.list answer → CommitGives (End answer) old new r
        → AttemptIs waiting may old new (Some (Ended answer))
    end-commits answer r true-so goes h gives =
        let t : IsCommitted (End answer) old new = subst (CommitGives (End answer) old new) true-so gives in
        record {
          stands = subst (λ seen. Contains seen (End answer)) (sym t.next) (Contains-push old.seen (End answer));
          how = inr (record {
            goes_on = ap has_end (sym current.whole) ∙ goes;
            follows = t.follows;
            answered = answered-at answer t.follows.others (none-between (End answer) t) h;
          });
        }

  -- it took a step
  pub entry-commits : (l : Label) (e : Entry) → e ≡ entry_for l → (old new : Sight) (r : Bool) → r ≡ true → CommitGives e old new r → AttemptIs waiting may old new (Some Step)
  entry-commits l e is old new r true-so gives =
      let t : IsCommitted e old new = subst (CommitGives e old new) true-so gives in
      record { entry = e; is_step = ap is_step_entry is ∙ label-steps l; follows = t.follows }

  -- ---- the attempts of a turn

  module _ (before old new : Sight) where
    pub attempts-shorter : (o : Option Stepped) → o ≡ None → AttemptIs waiting may old new o → longest - length new.seen < longest - length old.seen
    attempts-shorter o none t =
        let overtaken : IsOvertaken old new = subst (AttemptIs waiting may old new) none t in
        let longer = overtaken.longer in
        let short = overtaken.short in
        omega (arith, longer, short)

    pub attempts-turn : before.holds program ≡ true → Follows before old [] → (o : Option Stepped) (s : Stepped) → o ≡ Some s → AttemptIs waiting may old new o
        → TurnIs waiting may before new s
    attempts-turn held follows o s some t = later-turn before old new held follows s (subst (AttemptIs waiting may old new) some t)

  -- ---- what a lead does

  module _ (old new : Sight) where
    pub turn-leads : (s : Stepped) → TurnIs waiting may old new s → Leads old new
    turn-leads Step t = leads-by old new (t.entry ∷ []) (and_from _ _ (step-comes old t.entry t.is_step) refl) t.follows
    turn-leads Waiting t = leads-by old new [] refl t.follows
    turn-leads (Ended answer) t = go t.how
      where
        go : EndStood old new ⊎ CommitsEnd may answer old new → Leads old new
        go (inl e) = leads-by old new [] refl e.follows
        go (inr e) = leads-by old new (End answer ∷ []) refl e.follows

    pub ended-so : old.holds program ≡ true → (answer : Answer) → HasEnded may answer old new → has_end new.seen ≡ true
    ended-so held answer t = go t.how
      where
        go : EndStood old new ⊎ CommitsEnd may answer old new → has_end new.seen ≡ true
        go (inl e) = end-as-before old new e.follows held ∙ e.ended
        go (inr e) = ap has_end e.follows.grows ∙ list_any-append is_end (old.seen ++ e.follows.others) (End answer ∷ []) ∙ or-true (has_end (old.seen ++ e.follows.others))

    -- what keeps the rules: a step stands behind no end, and where the program doesn't wait
    module _ (keeps : Agent → Journal → Type 0)
        (unended : (agent : Agent) (journal : Journal) (e : Entry) → is_step_entry e ≡ true → keeps agent (journal ++ e ∷ []) → has_end journal ≡ false)
        (awake : (agent : Agent) (journal : Journal) (e : Entry) → is_step_entry e ≡ true → keeps agent (journal ++ e ∷ []) → waiting agent journal ≡ true → ⊥) where
      module _ (whole : has_end old.seen ≡ false) (alone : old.alone ≡ true) (agent : Agent) (same : agent ≡ old.agent) where
        waits-as : (t : StillWaits waiting old new) → waiting agent old.seen ≡ true
        waits-as t =
            ap (λ g. waiting g old.seen) (same ∙ sym t.follows.same_agent) ∙ ap (waiting new.agent) (sym (alone-stays old new t.follows alone)) ∙ t.is_waiting

        goes-on : (s : Stepped) → TurnIs waiting may old new s → waiting agent old.seen ≡ false → new.seen ≢ old.seen
        goes-on Step t w = longer old new alone t.entry t.follows
        goes-on Waiting t w = absurd (contrary (waiting agent old.seen) (waits-as t) w)
        goes-on (Ended answer) t w = go t.how
          where
            go : EndStood old new ⊎ CommitsEnd may answer old new → new.seen ≢ old.seen
            go (inl e) = absurd (contrary (has_end old.seen) e.ended whole)
            go (inr e) = longer old new alone (End answer) e.follows

        rests-so : (s : Stepped) → TurnIs waiting may old new s → keeps agent new.seen → waiting agent old.seen ≡ true → AddsEndAtMost old.seen new.seen
        rests-so Step t kept w = absurd (awake agent old.seen t.entry t.is_step (subst (keeps agent) (alone-grows old new (t.entry ∷ []) t.follows alone) kept) w)
        rests-so Waiting t kept w = inl (alone-stays old new t.follows alone)
        rests-so (Ended answer) t kept w = go t.how
          where
            go : EndStood old new ⊎ CommitsEnd may answer old new → AddsEndAtMost old.seen new.seen
            go (inl e) = inl (alone-stays old new e.follows alone)
            go (inr e) = inr (answer, alone-grows old new (End answer ∷ []) e.follows alone)

      one-at-most : (s : Stepped) → TurnIs waiting may old new s → old.alone ≡ true → length new.seen ≤ length old.seen + 1
      one-at-most Step t alone = one-more old new t.entry t.follows alone
      one-at-most Waiting t alone = none-more old new t.follows alone
      one-at-most (Ended answer) t alone = go t.how
        where
          go : EndStood old new ⊎ CommitsEnd may answer old new → length new.seen ≤ length old.seen + 1
          go (inl e) = none-more old new e.follows alone
          go (inr e) = one-more old new (End answer) e.follows alone

      -- where no one else adds entries, it adds one unless the program waits, and then none but the end
      pub takes-turn : (mind : Mind) (s : Stepped) → mind.agent ≡ old.agent → mind.waits ≡ waiting mind.agent → TurnIs waiting may old new s → keeps mind.agent new.seen → TakesTurn mind old new
      takes-turn mind s same is t kept = record {
        goes = λ alone whole w. goes-on whole alone mind.agent same s t (ap (λ f. f old.seen) (sym is) ∙ w);
        rests = λ alone whole w. rests-so whole alone mind.agent same s t kept (ap (λ f. f old.seen) (sym is) ∙ w);
        one = λ alone. one-at-most s t alone;
      }

      step-unends : (t : TurnIs waiting may old new Step) → keeps new.agent new.seen → has_end new.seen ≡ false
      step-unends t kept =
          let before = old.seen ++ t.follows.others in
          ap has_end t.follows.grows ∙ list_any-append is_end before (t.entry ∷ [])
          ∙ none-ended (has_end before) (is_end t.entry) (unended new.agent before t.entry t.is_step (subst (keeps new.agent) t.follows.grows kept)) (step-goes-on t.entry t.is_step)
        where
          none-ended : (x y : Bool) → x ≡ false → y ≡ false → (x || (y || false)) ≡ false
          none-ended x y h k = ap (λ b. b || (y || false)) h ∙ ap (λ b. b || false) k

      -- it tells that the program has ended exactly where the end stands
      pub led-so : (s : Stepped) → old.holds program ≡ true → TurnIs waiting may old new s → keeps new.agent new.seen → (led_for s ≡ led.Ended) ↔ IsTrue (has_end new.seen)
      led-so Step held t kept = more-tells new.seen (step-unends t kept)
      led-so Waiting held t kept = more-tells new.seen t.goes_on
      led-so (Ended answer) held t kept = ended-tells new.seen (ended-so held answer t)

-- ---- the attempts of a turn

-- what the attempts so far keep: the first course and sight, and those now
pub record Attempts (first : Course) (before : Sight) (course : Course) (sight : Sight) : Type 0 where
  pub over : IsOver course sight
  pub same : course.agent ≡ first.agent
  pub held : before.holds program ≡ true
  pub follows : Follows before sight []

pub attempts-first : (course : Course) (sight : Sight) → course.agent ≡ sight.agent → sight.holds program ≡ true → IsBehind course.list sight.seen
    → Attempts course sight course sight
attempts-first course sight agent held behind = record {
  over = record { of_agent = agent; held = held; behind = behind };
  same = refl;
  held = held;
  follows = no-change sight;
}

module _ (waiting : Agent → Journal → Bool) (may : Agent → Journal → Answer → Type 0) where
  pub attempts-next : (first : Course) (before : Sight) (course later : Course) (old new : Sight) → Attempts first before course old → later.agent ≡ course.agent
      → (o : Option Stepped) → o ≡ None → AttemptIs waiting may old new o → IsOver later new → Attempts first before later new
  attempts-next first before course later old new c same o none t over =
      let overtaken : IsOvertaken old new = subst (AttemptIs waiting may old new) none t in
      record {
        over = over;
        same = same ∙ c.same;
        held = c.held;
        follows = compose before old new c.follows [] overtaken.follows;
      }

pub attempts-whole : (later : Course) (new : Sight) (o : Option Stepped) (s : Stepped) → o ≡ Some s → IfSome o (λ _. later.list ≡ new.seen) → later.list ≡ new.seen
attempts-whole later new o s some t = subst (λ x. IfSome x (λ _. later.list ≡ new.seen)) some t
