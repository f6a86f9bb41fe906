-- Copying what a board has added.
use Rattle.std.proofs.Common.{◌≡◌, ℕ, zero, suc, ◌+◌, ◌-◌, ◌≤◌, ◌<◌, Bool, true, false, List, [], ◌∷◌, ◌++◌, length, length-append, take, drop, refl, sym, ap, ◌∙◌, subst, arith, append_assoc}
use Rattle.std.specs.Prelude.{nat_lt}
use Rattle.std.specs.List.{list_any}
use Rattle.std.proofs.lemmas.Bool.{or_parts, or_from, ltb-true, ltb-false}
use Rattle.std.proofs.lemmas.List.{append-nil, take-append-drop, length-take-le}
use Rattle.golog_semantics.specs.declared.journal.Entry.{Entry}
use Rattle.golog_semantics.specs.Journal.{Journal, longest}
use Rattle.golog_journal.specs.declared.board.Batch.{Batch}
use Rattle.golog_journal.specs.Boards.{IsBoardList}
use Rattle.golog_journal.specs.Copies.{CopyIs, MoreIs}
use Rattle.golog_journal.specs.Growing.{Called, Sight}
use Rattle.golog_journal.specs.Leading.{is_of_program}
use Rattle.golog_device.proofs.Asked.{lawful-prefix}
use Rattle.golog_lead.specs.Courses.{Course}
use Rattle.golog_lead.specs.Seeing.{Follows, IsCurrent, IsOver}
use Rattle.golog_lead.proofs.Boarding.{called-follows, called-seen, compose, no-change, still-over}

drop-front : {A : Type 0} (front rest : List A) → drop (length front) (front ++ rest) ≡ rest
drop-front [] rest = refl
drop-front (x ∷ front) rest = drop-front front rest

none-long : {A : Type 0} (xs : List A) → length xs ≤ 0 → xs ≡ []
none-long [] h = refl
none-long (x ∷ xs) h = absurd (omega (arith, h))

any-take : (p : Entry → Bool) (n : ℕ) (xs : Journal) → list_any p xs ≡ false → list_any p (take n xs) ≡ false
any-take p zero xs h = refl
any-take p (suc n) [] h = refl
any-take p (suc n) (x ∷ xs) h =
    let parts = or_parts (p x) (list_any p xs) h in
    or_from _ _ parts.0 (any-take p n xs parts.1)

any-drop : (p : Entry → Bool) (n : ℕ) (xs : Journal) → list_any p xs ≡ false → list_any p (drop n xs) ≡ false
any-drop p zero xs h = h
any-drop p (suc n) [] h = refl
any-drop p (suc n) (x ∷ xs) h = any-drop p n xs (or_parts (p x) (list_any p xs) h).1

-- a batch of what the runner lacks of the board's list
pub record Copying (course : Course) (sight : Sight) (batch : Batch) : Type 0 where
  pub over : IsOver course sight
  pub copy : CopyIs sight.seen (length course.list) batch []
  pub lawful : IsBoardList sight.agent sight.seen
  pub short : length sight.seen ≤ longest

module _ (course : Course) (old new : Sight) (since : ℕ) (batch : Batch) (over : IsOver course old) (at : since ≡ length course.list)
    (call : Called (λ point. CopyIs point since batch) old new) where
  pub copy-follows : Follows old new []
  copy-follows = called-follows (λ point. CopyIs point since batch) old new call [] call.answered.none

  pub copy-begins : Copying course new batch
  copy-begins =
      let whole = called-seen (λ point. CopyIs point since batch) old new call call.answered.none in
      record {
        over = still-over old new copy-follows course over;
        copy =
            subst (λ n. CopyIs new.seen n batch []) at
            (subst (λ seen. CopyIs seen since batch []) (sym whole) (subst (CopyIs (old.seen ++ call.others) since batch) call.answered.none call.answered));
        lawful = call.lawful;
        short = call.short;
      }

module _ (course : Course) (sight : Sight) (batch : Batch) (c : Copying course sight batch) where
  abbrev since : Journal
  since = c.over.behind.since

  abbrev new : Journal
  new = take batch.count batch.entries

  lacks : drop (length course.list) sight.seen ≡ since
  lacks = ap (drop (length course.list)) c.over.behind.front ∙ drop-front course.list since

  pub new-so : new ≡ take batch.count since
  new-so = c.copy.entries ∙ ap (take batch.count) lacks

  long : length sight.seen ≡ length course.list + length since
  long = ap (λ seen. length seen) c.over.behind.front ∙ length-append course.list since

  few : batch.count ≤ length since
  few =
      let count = c.copy.count in
      let more = long in
      omega (arith, count, more)

  pub new-of-devices : list_any is_of_program new ≡ false
  new-of-devices = ap (list_any is_of_program) new-so ∙ any-take is_of_program batch.count since c.over.behind.of_devices

  split : course.list ++ since ≡ (course.list ++ new) ++ drop batch.count since
  split =
      ap (λ rest. course.list ++ rest) (sym (take-append-drop batch.count since))
      ∙ sym (append_assoc course.list (take batch.count since) (drop batch.count since))
      ∙ ap (λ xs. (course.list ++ xs) ++ drop batch.count since) (sym new-so)

  pub new-lawful : IsBoardList course.agent (course.list ++ new)
  new-lawful =
      lawful-prefix course.agent (course.list ++ new) (drop batch.count since)
      (subst (IsBoardList course.agent) (c.over.behind.front ∙ split) (subst (λ agent. IsBoardList agent sight.seen) (sym c.over.of_agent) c.lawful))

  pub over-then : (later : Course) → later.agent ≡ course.agent → later.list ≡ course.list ++ new → IsOver later sight
  over-then later agent list = record {
    of_agent = agent ∙ c.over.of_agent;
    held = c.over.held;
    behind = record {
      since = drop batch.count since;
      front = c.over.behind.front ∙ split ∙ ap (λ xs. xs ++ drop batch.count since) (sym list);
      of_devices = any-drop is_of_program batch.count since c.over.behind.of_devices;
    };
  }

  pub longer-then : (later : Course) → later.list ≡ course.list ++ new → 0 < batch.count → longest - length later.list < longest - length course.list
  longer-then later list some =
      let more = ap (λ xs. length xs) list ∙ length-append course.list new in
      let count = ap (λ xs. length xs) new-so ∙ length-take-le batch.count since few in
      let low = few in
      let all = long in
      let short = c.short in
      omega (arith, more, count, low, all, short, some)

-- ---- the loop

-- what a loop that copies keeps: the first course and sight, those now, and whether the course lacks entries
pub record Copies (first : Course) (before : Sight) (course : Course) (sight : Sight) (more : Bool) : Type 0 where
  pub over : IsOver course sight
  pub lacking : more ≡ nat_lt (length course.list) (length sight.seen)
  pub same : course.agent ≡ first.agent
  pub follows : Follows before sight []

-- the course that takes a batch
abbrev pub taking : Course → Batch → Course
taking course batch = record { agent = course.agent; list = course.list ++ take batch.count batch.entries }

-- asked once more, whether it lacks entries
asks : (first : Course) (before : Sight) (course : Course) (old new : Sight) (since : ℕ) (more : Bool) → IsOver course old → course.agent ≡ first.agent
    → Follows before old [] → since ≡ length course.list → Called (λ point. MoreIs point since more) old new → Copies first before course new more
asks first before course old new since more over same follows at call =
    let none = call.answered.none in
    let whole = called-seen (λ point. MoreIs point since more) old new call none in
    let goes = called-follows (λ point. MoreIs point since more) old new call [] none in
    record {
      over = still-over old new goes course over;
      lacking = call.answered.answer ∙ ap (λ n. nat_lt n (length (old.seen ++ call.others))) at ∙ ap (λ seen. nat_lt (length course.list) (length seen)) (sym whole);
      same = same;
      follows = compose before old new follows [] goes;
    }

pub copies-first : (course : Course) (old new : Sight) (since : ℕ) (more : Bool) → IsOver course old → since ≡ length course.list
    → Called (λ point. MoreIs point since more) old new → Copies course old course new more
copies-first course old new since more over at call = asks course old course old new since more over refl (no-change old) at call

module _ (first : Course) (before : Sight) (course : Course) (old : Sight) (more : Bool) (c : Copies first before course old more) where
  pub copies-done : more ≡ false → IsCurrent course old
  copies-done none-lacks = record {
    of_agent = c.over.of_agent;
    held = c.over.held;
    whole =
        sym (c.over.behind.front
        ∙ ap (λ xs. course.list ++ xs)
        (none-long c.over.behind.since
        (let all = ap (λ seen. length seen) c.over.behind.front ∙ length-append course.list c.over.behind.since in
        let not-less = ltb-false _ _ (sym c.lacking ∙ none-lacks) in
        omega (arith, all, not-less)))
        ∙ append-nil course.list);
  }

  -- what a copy has that is made while the course lacks entries
  module _ (mid : Sight) (from : ℕ) (batch : Batch) (from-so : from ≡ length course.list) (copy : Called (λ point. CopyIs point from batch) old mid) where
    copying : Copying course mid batch
    copying = copy-begins course old mid from batch c.over from-so copy

    pub batch-lawful : IsBoardList course.agent (course.list ++ take batch.count batch.entries)
    batch-lawful = new-lawful course mid batch copying

    pub batch-of-devices : list_any is_of_program (take batch.count batch.entries) ≡ false
    batch-of-devices = new-of-devices course mid batch copying

    batch-some : more ≡ true → 0 < batch.count
    batch-some lacks-some =
        let less = ltb-true _ _ (sym c.lacking ∙ lacks-some) in
        let longer = ap (λ seen. length seen) (called-seen (λ point. CopyIs point from batch) old mid copy copy.answered.none) ∙ length-append old.seen copy.others in
        let count = copying.copy.count in
        omega (arith, less, longer, count)

    module _ (later : Course) (is : later ≡ taking course batch) where
      pub copies-shorter : more ≡ true → longest - length later.list < longest - length course.list
      copies-shorter lacks-some = longer-then course mid batch copying later (ap (λ (x : Course). x.list) is) (batch-some lacks-some)

      pub copies-next : (new : Sight) (since : ℕ) (next : Bool) → since ≡ length later.list → Called (λ point. MoreIs point since next) mid new
          → Copies first before later new next
      copies-next new since next at call =
          asks first before later mid new since next
          (over-then course mid batch copying later (ap (λ (x : Course). x.agent) is) (ap (λ (x : Course). x.list) is))
          (ap (λ (x : Course). x.agent) is ∙ c.same)
          (compose before old mid c.follows [] (copy-follows course old mid from batch c.over from-so copy))
          at call
