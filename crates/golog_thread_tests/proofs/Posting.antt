-- What may be posted and committed to a journal to which no one else adds.
use Rattle.std.proofs.Common.{◌≡◌, ℕ, ◌+◌, ◌≤◌, ◌<◌, Bool, true, false, ◌||◌, Option, Some, None, List, [], ◌∷◌, ◌++◌, length, length-append, refl, sym, ap, ◌∙◌, subst, arith}
use Rattle.std.proofs.lemmas.List.{append-nil}
use Rattle.std.proofs.lemmas.List.Sums.{count_by-le-length}
use Rattle.golog_tree.specs.declared.agent.Agent.{Agent}
use Rattle.golog_semantics.specs.declared.journal.Entry.{Entry}
use Rattle.golog_semantics.specs.declared.journal.Entry.TheVariants.{Do, Test, Exo, Sense, Rest, Close, End}
use Rattle.golog_semantics.specs.declared.journal.Answer.TheVariants.{Done}
use Rattle.golog_semantics.specs.declared.journal.Item.{Item}
use Rattle.golog_semantics.specs.declared.journal.Item.TheVariants as item
use Rattle.golog_semantics.specs.Journal.{Journal, poster_of, has_end, is_counted}
use Rattle.golog_semantics.specs.Posts.{posted_entry}
use Rattle.golog_semantics.proofs.Grown.{entries_grow}
use Rattle.golog_journal.specs.declared.board.Posted.{Posted}
use Rattle.golog_journal.specs.declared.board.Commit.{Commit}
use Rattle.golog_journal.specs.declared.board.Commit.TheVariants.{Taken, Moved}
use Rattle.golog_journal.specs.Posting.{IsItsTime, MayPost, PostIs}
use Rattle.golog_journal.specs.Commits.{MayCommit, CommitIs}
use Rattle.golog_journal.specs.Growing.{Sight, Called}
use Rattle.golog_journal.proofs.Beginning.{posted-by}

-- what may be posted first, and after the end
pub may-first : (agent : Agent) (d : ℕ) (i : Item) (journal : Journal) → journal ≡ [] → d < length agent.devices → (i ≡ item.Stop → ⊥)
    → MayPost agent journal d 0 i
may-first agent d i journal empty inside other =
    subst (λ j. MayPost agent j d 0 i) (sym empty)
    (record { driven = record { is_device = inside; still_open = refl; fitting = refl }; in_time = go i other })
  where
    go : (x : Item) → (x ≡ item.Stop → ⊥) → IsItsTime agent [] d 0 x
    go item.Stop not_stop = absurd (not_stop refl)
    go item.Refused not_stop = (refl, refl, refl)
    go (item.Exo action) not_stop = tt
    go (item.Value value) not_stop = tt
    go item.Rest not_stop = tt
    go item.Close not_stop = tt
    go item.Unreadable not_stop = tt
    go item.Silent not_stop = tt

pub may-late : (agent : Agent) (d : ℕ) (i : Item) (journal : Journal) → journal ≡ End Done ∷ [] → d < length agent.devices → (i ≡ item.Refused → ⊥)
    → MayPost agent journal d 0 i
may-late agent d i journal ended inside other =
    subst (λ j. MayPost agent j d 0 i) (sym ended)
    (record { driven = record { is_device = inside; still_open = refl; fitting = refl }; in_time = go i other })
  where
    go : (x : Item) → (x ≡ item.Refused → ⊥) → IsItsTime agent (End Done ∷ []) d 0 x
    go item.Stop not_refused = (refl, refl)
    go item.Refused not_refused = absurd (not_refused refl)
    go (item.Exo action) not_refused = tt
    go (item.Value value) not_refused = tt
    go item.Rest not_refused = tt
    go item.Close not_refused = tt
    go item.Unreadable not_refused = tt
    go item.Silent not_refused = tt

-- a list to which no one else adds
grown-alone : (answers : Journal → Journal → Type 0) (old new : Sight) (called : Called answers old new) → old.alone ≡ true
    → (new.seen ≡ old.seen ++ called.added) × answers old.seen called.added
grown-alone answers old new called alone =
    let none = called.are_others.none alone in
    let same : old.seen ++ called.others ≡ old.seen = ap (λ o. old.seen ++ o) none ∙ append-nil old.seen in
    (called.grows ∙ ap (λ s. s ++ called.added) same, subst (λ s. answers s called.added) same called.answered)

no-end : (e : Entry) (d : ℕ) → poster_of e ≡ Some d → has_end (e ∷ []) ≡ false
no-end (Do a) d own = refl
no-end Test d own = refl
no-end (Exo p a) d own = refl
no-end (Sense p at f v) d own = refl
no-end (Rest p t) d own = refl
no-end (Close p r t) d own = refl
no-end (End a) d own = absurd (cc)

-- the first item
pub first-posted : (agent : Agent) (d : ℕ) (i : Item) (reply : Posted) (old new : Sight) → Called (λ point. PostIs agent point d 0 i reply) old new
    → old.alone ≡ true → old.seen ≡ [] → (length new.seen ≡ 1) × (has_end new.seen ≡ false)
first-posted agent d i reply old new called alone empty =
    let grown = grown-alone (λ point. PostIs agent point d 0 i reply) old new called alone in
    let e = posted_entry agent old.seen d 0 i in
    let is : new.seen ≡ e ∷ [] = grown.0 ∙ ap (λ s. s ++ called.added) empty ∙ grown.1.one in
    (ap (λ l. length l) is, ap has_end is ∙ no-end e d (posted-by agent old.seen d 0 i))

-- a test that was committed, or moved
pub test-committed : (agent : Agent) (at : ℕ) (reply : Commit) (old new : Sight) → Called (λ point. CommitIs agent point at Test reply) old new
    → old.alone ≡ true → has_end old.seen ≡ false
    → (has_end new.seen ≡ false) × (length new.seen ≤ length old.seen + 1) × (length old.seen ≤ length new.seen)
test-committed agent at Taken old new called alone goes_on =
    let grown = grown-alone (λ point. CommitIs agent point at Test Taken) old new called alone in
    let is : new.seen ≡ old.seen ++ Test ∷ [] = grown.0 ∙ ap (λ s. old.seen ++ s) grown.1.one in
    let long = ap (λ l. length l) is in
    let one = length-append old.seen (Test ∷ []) in
    (ap has_end is ∙ (entries_grow old.seen Test).end ∙ ap (λ b. b || false) goes_on, omega (arith, long, one), omega (arith, long, one))
test-committed agent at (Moved longer) old new called alone goes_on =
    let grown = grown-alone (λ point. CommitIs agent point at Test (Moved longer)) old new called alone in
    let is : new.seen ≡ old.seen = grown.0 ∙ ap (λ s. old.seen ++ s) grown.1.none ∙ append-nil old.seen in
    let long = ap (λ l. length l) is in
    (ap has_end is ∙ goes_on, omega (arith, long), omega (arith, long))

-- the end of an empty list
pub end-committed : (agent : Agent) (reply : Commit) (old new : Sight) → Called (λ point. CommitIs agent point 0 (End Done) reply) old new
    → old.alone ≡ true → old.seen ≡ [] → new.seen ≡ End Done ∷ []
end-committed agent Taken old new called alone empty =
    let grown = grown-alone (λ point. CommitIs agent point 0 (End Done) Taken) old new called alone in
    grown.0 ∙ ap (λ s. s ++ called.added) empty ∙ grown.1.one
end-committed agent (Moved longer) old new called alone empty =
    let grown = grown-alone (λ point. CommitIs agent point 0 (End Done) (Moved longer)) old new called alone in
    let above = grown.1.above in
    let none = ap (λ (l : Journal). length l) empty in
    absurd (omega (arith, above, none))

-- few entries are few that are counted
pub test-may : (agent : Agent) (at : ℕ) (journal : Journal) → at ≤ length journal → has_end journal ≡ false → length journal < 100
    → MayCommit agent journal at Test
test-may agent at journal seen goes_on few = record {
  seen = seen;
  goes_on = goes_on;
  of_program = tt;
  room = λ counts here. let most = count_by-le-length is_counted journal in omega (arith, most, few);
}

pub end-may : (agent : Agent) (journal : Journal) → journal ≡ [] → MayCommit agent journal 0 (End Done)
end-may agent journal empty =
    subst (λ j. MayCommit agent j 0 (End Done)) (sym empty)
    (record { seen = omega arith; goes_on = refl; of_program = tt; room = λ counts here. omega arith })
