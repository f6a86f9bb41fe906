-- What came of committing an entry at all that was seen.
use Rattle.std.proofs.Common.{◌≡◌, ℕ, ◌≤◌, ◌<◌, false, [], ◌∷◌, ◌++◌, length, length-append, refl, sym, ap, ◌∙◌, subst, arith}
use Rattle.std.specs.Prelude.{IsTrue}
use Rattle.std.proofs.lemmas.List.{append-nil}
use Rattle.golog_semantics.specs.declared.journal.Entry.{Entry}
use Rattle.golog_semantics.specs.Journal.{Journal, count, has_end, is_counted, limit}
use Rattle.golog_journal.specs.declared.board.Commit.{Commit}
use Rattle.golog_journal.specs.declared.board.Commit.TheVariants.{Taken, Moved}
use Rattle.golog_journal.specs.Boards.{IsBoardList}
use Rattle.golog_journal.specs.Commits.{CommitIs, IsOfProgram, MayCommit}
use Rattle.golog_journal.specs.Growing.{Called, Sight, program}
use Rattle.golog_lead.specs.Courses.{Course}
use Rattle.golog_lead.specs.Seeing.{Follows, IsCommitted, IsCurrent, IsOver, IsOvertaken}
use Rattle.golog_lead.proofs.Boarding.{called-follows, called-seen, over-whole, still-over}

none-left : (xs : Journal) → length xs ≤ 0 → xs ≡ []
none-left [] h = refl
none-left (x ∷ xs) h = absurd (omega (arith, h))

module _ (course : Course) (old : Sight) (at : ℕ) (e : Entry) (current : IsCurrent course old) (all : at ≡ length course.list) where
  pub may-commit : has_end course.list ≡ false → IsOfProgram course.agent course.list 0 e e → (IsTrue (is_counted e) → count course.list < limit) → MayCommit old.agent old.seen at e
  may-commit goes_on own room =
      let length_so : length course.list ≡ length old.seen = ap (λ seen. length seen) current.whole in
      record {
        seen = omega (arith, all, length_so);
        goes_on = ap has_end (sym current.whole) ∙ goes_on;
        of_program = subst (λ agent. IsOfProgram agent course.list 0 e e) current.of_agent own;
        room = λ counted here. subst (λ seen. count seen < limit) current.whole (room counted);
      }

  pub is-over : IsOver course old
  is-over = over-whole course old current.of_agent current.held current.whole

  module _ (new : Sight) (call : Called (λ point. CommitIs old.agent point at e Taken) old new) where
    no-others : call.others ≡ []
    no-others =
        let here = call.answered.at_end in
        let long = length-append old.seen call.others in
        let same : length course.list ≡ length old.seen = ap (λ seen. length seen) current.whole in
        none-left call.others (omega (arith, here, long, same, all))

    next-so : new.seen ≡ old.seen ++ e ∷ []
    next-so =
        call.grows ∙ ap (λ added. (old.seen ++ call.others) ++ added) call.answered.one
        ∙ ap (λ others. (old.seen ++ others) ++ e ∷ []) no-others ∙ ap (λ seen. seen ++ e ∷ []) (append-nil old.seen)

    pub committed : IsCommitted e old new
    committed = record {
      follows = called-follows (λ point. CommitIs old.agent point at e Taken) old new call (e ∷ []) call.answered.one;
      next = next-so;
    }

    pub committed-whole : course.list ++ e ∷ [] ≡ new.seen
    committed-whole = ap (λ seen. seen ++ e ∷ []) current.whole ∙ sym next-so

    pub committed-lawful : IsBoardList course.agent (course.list ++ e ∷ [])
    committed-lawful =
        subst (IsBoardList course.agent) (sym committed-whole) (subst (λ agent. IsBoardList agent new.seen) (call.agent ∙ sym current.of_agent) call.lawful)

    pub committed-over : (later : Course) → later ≡ record { agent = course.agent; list = course.list ++ e ∷ [] } → IsOver later new
    committed-over later is =
        over-whole later new (ap (λ (c : Course). c.agent) is ∙ current.of_agent ∙ sym call.agent)
        (ap (λ holds. holds program) call.holds ∙ current.held) (ap (λ (c : Course). c.list) is ∙ committed-whole)

  module _ (new : Sight) (longer : ℕ) (call : Called (λ point. CommitIs old.agent point at e (Moved longer)) old new) where
    follows : Follows old new []
    follows = called-follows (λ point. CommitIs old.agent point at e (Moved longer)) old new call [] call.answered.none

    pub overtaken : IsOvertaken old new
    overtaken = record {
      follows = follows;
      longer =
          let seen = ap (λ xs. length xs) (called-seen (λ point. CommitIs old.agent point at e (Moved longer)) old new call call.answered.none) in
          let above = call.answered.above in
          let same : length course.list ≡ length old.seen = ap (λ xs. length xs) current.whole in
          omega (arith, seen, above, same, all);
      short = call.short;
    }

    pub overtaken-over : IsOver course new
    overtaken-over = still-over old new follows course is-over

  -- ---- the same, by what the board told

  module _ (new : Sight) (r : Commit) (call : Called (λ point. CommitIs old.agent point at e r) old new) where
    told : (k : Commit) → r ≡ k → Called (λ point. CommitIs old.agent point at e k) old new
    told k is = subst (λ x. Called (λ point. CommitIs old.agent point at e x) old new) is call

    pub taken-lawful : r ≡ Taken → IsBoardList course.agent (course.list ++ e ∷ [])
    taken-lawful is = committed-lawful new (told Taken is)

    pub taken-commits : r ≡ Taken → IsCommitted e old new
    taken-commits is = committed new (told Taken is)

    pub taken-whole : r ≡ Taken → (later : Course) → later ≡ record { agent = course.agent; list = course.list ++ e ∷ [] } → later.list ≡ new.seen
    taken-whole is later same = ap (λ (c : Course). c.list) same ∙ committed-whole new (told Taken is)

    pub taken-over : r ≡ Taken → (later : Course) → later ≡ record { agent = course.agent; list = course.list ++ e ∷ [] } → IsOver later new
    taken-over is later same = committed-over new (told Taken is) later same

    pub moved-overtaken : (longer : ℕ) → r ≡ Moved longer → IsOvertaken old new
    moved-overtaken longer is = overtaken new longer (told (Moved longer) is)

    pub moved-over : (longer : ℕ) → r ≡ Moved longer → IsOver course new
    moved-over longer is = overtaken-over new longer (told (Moved longer) is)
