-- What the lead of a program does with a board. (This project's own.)
use Rattle.std.specs.Prelude.{◌≡◌, ◌≢◌, ◌⊎◌, ℕ, ◌+◌, ◌≤◌, Bool, true, false, not, ◌||◌, Option, is_some, List, [], ◌∷◌, ◌++◌, length}
use Rattle.std.specs.Borrow.{GName}
use Rattle.std.specs.List.{list_any, list_all}
use Rattle.golog_tree.specs.declared.agent.Agent.{Agent}
use Rattle.golog_semantics.specs.declared.journal.Entry.{Entry}
use Rattle.golog_semantics.specs.declared.journal.Entry.TheVariants.{End}
use Rattle.golog_semantics.specs.declared.journal.Answer.{Answer}
use Rattle.golog_semantics.specs.Journal.{Journal, poster_of, has_end}
use Rattle.golog_journal.specs.Growing.{Sight, party_of}

-- what a lead writes to: the reference that it was given, the bytes that stood there then, where they are told, and
-- how often the outside had failed
pub record Outlet : Type 0 where
  pub name : GName
  pub base : Option (List ℕ)
  pub faults : ℕ

-- two numbers that bound what a lead looks for, as how many steps ahead and how much work
abbrev pub Bounds : Type 0
Bounds = ℕ × ℕ

-- what a lead means: the agent that it was made with, the bounds of what it looks for, the entries that it has copied,
-- whether it waits for a device where these are all the entries, and what it writes to, if anything
pub record Mind : Type 0 where
  pub agent : Agent
  pub bounds : Bounds
  pub list : Journal
  pub waits : Journal → Bool
  pub outlet : Option Outlet

-- an entry of no device: an action, a test or the end
abbrev pub is_of_program : Entry → Bool
is_of_program e = not (is_some (poster_of e))

-- the list is a prefix of what was seen, and behind it stand only entries of devices
pub record IsBehind (list seen : Journal) : Type 0 where
  pub since : Journal
  pub front : seen ≡ list ++ since
  pub of_devices : list_any is_of_program since ≡ false

-- the agent, the bounds, the lists at which it waits and what it writes to stay
pub record SameMind (old new : Mind) : Type 0 where
  pub same_agent : new.agent ≡ old.agent
  pub same_bounds : new.bounds ≡ old.bounds
  pub same_waits : new.waits ≡ old.waits
  pub same_outlet : new.outlet ≡ old.outlet

-- an entry of the program, or one that someone else may have added
abbrev pub may_come : Sight → Entry → Bool
may_come sight e = is_of_program e || not (sight.alone || sight.holds (party_of e))

-- the lead added entries of the program alone
pub record Leads (old new : Sight) : Type 0 where
  pub same_agent : new.agent ≡ old.agent
  pub same_alone : new.alone ≡ old.alone
  pub same_holds : new.holds ≡ old.holds
  pub since : Journal
  pub grows : new.seen ≡ old.seen ++ since
  pub may_come : list_all (may_come old) since ≡ true

-- it added none
pub record Watches (old new : Sight) : Type 0 where
  pub leads : Leads old new
  pub alone_same : old.alone ≡ true → new.seen ≡ old.seen

-- nothing was added, or the end alone
abbrev pub AddsEndAtMost : Journal → Journal → Type 0
AddsEndAtMost old new = (new ≡ old) ⊎ ((answer : Answer) × (new ≡ old ++ End answer ∷ []))

-- Where no one else adds entries, a turn adds one at most. Where the program has not ended either, it adds one unless
-- the lead waits, and then none but the end.
pub record TakesTurn (mind : Mind) (old new : Sight) : Type 0 where
  pub goes : old.alone ≡ true → has_end old.seen ≡ false → mind.waits old.seen ≡ false → new.seen ≢ old.seen
  pub rests : old.alone ≡ true → has_end old.seen ≡ false → mind.waits old.seen ≡ true → AddsEndAtMost old.seen new.seen
  pub one : old.alone ≡ true → length new.seen ≤ length old.seen + 1
