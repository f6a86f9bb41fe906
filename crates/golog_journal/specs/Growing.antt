-- A board's list, as a caller sees it who shares it with others.
use Rattle.std.specs.Prelude.{◌≡◌, ℕ, ◌≤◌, Bool, true, false, [], ◌++◌, length}
use Rattle.std.specs.List.{list_any}
use Rattle.std.specs.Option.{option_map_or}
use Rattle.golog_tree.specs.declared.agent.Agent.{Agent}
use Rattle.golog_semantics.specs.declared.journal.Entry.{Entry}
use Rattle.golog_semantics.specs.Journal.{Journal, poster_of, device_limit, longest}
use Rattle.golog_journal.specs.Boards.{IsBoardList}

-- the party of the program, after those of the devices
abbrev pub program : ℕ
program = device_limit

-- whose an entry is: its device's, or else the program's
abbrev pub party_of : Entry → ℕ
party_of e = option_map_or (λ device. device) (poster_of e) program

-- what a board means: its agent, the entries that were seen, whether no one else adds to them, and the parties whose
-- entries it alone adds
pub record Sight : Type 0 where
  pub agent : Agent
  pub seen : Journal
  pub alone : Bool
  pub holds : ℕ → Bool

-- what others added: no entry of a party that is held, and none where no one else adds
pub record AreOthers (sight : Sight) (others : Journal) : Type 0 where
  pub foreign : list_any (λ e. sight.holds (party_of e)) others ≡ false
  pub none : sight.alone ≡ true → others ≡ []

-- A call of a board. Others may have added entries before it; at the list then there it is answered, and
-- what it adds stands at the end. The list then keeps the rules, and is no longer than a journal may be.
pub record Called (answers : Journal → Journal → Type 0) (old new : Sight) : Type 0 where
  pub agent : new.agent ≡ old.agent
  pub alone : new.alone ≡ old.alone
  pub holds : new.holds ≡ old.holds
  pub others : Journal
  pub are_others : AreOthers old others
  pub added : Journal
  pub grows : new.seen ≡ (old.seen ++ others) ++ added
  pub answered : answers (old.seen ++ others) added
  pub lawful : IsBoardList new.agent new.seen
  pub short : length new.seen ≤ longest
