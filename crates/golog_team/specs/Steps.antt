-- One step of a side. (This project's own.)
use Rattle.std.specs.Prelude.{◌≡◌, ◌≢◌, ◌⊎◌, ℕ, ◌+◌, Bool, true, false, if◌then◌else◌, Option, None, Some, List, [], ◌∷◌, ◌++◌, length, slice_get}
use Rattle.std.specs.List.{list_any}
use Rattle.golog_tree.specs.declared.agent.Agent.{Agent}
use Rattle.golog_semantics.specs.declared.journal.Entry.{Entry}
use Rattle.golog_semantics.specs.declared.journal.Item.{Item}
use Rattle.golog_semantics.specs.declared.journal.Item.TheVariants as item
use Rattle.golog_semantics.specs.Inline.{posted_action}
use Rattle.golog_semantics.specs.Journal.{Journal, Command, commands, is_carried_by, is_open, has_end, is_end}
use Rattle.golog_semantics.specs.Posts.{posted_entry}
use Rattle.golog_semantics.specs.Text.{action_text}
use Rattle.golog_journal.specs.Boards.{IsBoardList}
use Rattle.golog_journal.specs.Leading.{is_of_program}
use Rattle.golog_team.specs.declared.note.Note.{Note}
use Rattle.golog_team.specs.declared.note.Note.TheVariants.{Send, Waiting, Ended}
use Rattle.golog_team.specs.declared.note.SideNote.{SideNote}
use Rattle.golog_team.specs.declared.did.Did.{Did}
use Rattle.golog_team.specs.declared.did.Did.TheVariants.{Busy, Idle, Over}
use Rattle.golog_team.specs.Notes.{Notes, put_by, is_own, is_news, ends, has_waited, both_wait}

-- what a side has: the notes that it has read, those that it has seen behind them, its journal, and how many commands
-- it has taken
pub record Station : Type 0 where
  pub told : Notes
  pub unread : Notes
  pub journal : Journal
  pub taken : ℕ

abbrev pub station : Notes → Notes → Journal → ℕ → Station
station told unread journal taken = record { told = told; unread = unread; journal = journal; taken = taken }

-- all notes that it has seen
abbrev pub seen_at : Station → Notes
seen_at s = s.told ++ s.unread

-- what a note is posted as: an action of the other agent's device by its text
abbrev pub posted_as : Agent → Agent → Note → Item
posted_as agent other (Send action) =
    if is_carried_by other 0 action then posted_action agent (action_text other action) else item.Unreadable
posted_as agent other note = item.Close

-- A side reads: notes of the other side have come since, and it passes over those that are no news.
pub record Reads (side : ℕ) (old new : Station) : Type 0 where
  pub others : Notes
  pub foreign : list_any (is_own side) others ≡ false
  pub passed : Notes
  pub rest : Notes
  pub come : old.unread ++ others ≡ passed ++ rest
  pub no_news : list_any (is_news side) passed ≡ false
  pub now : new ≡ station (old.told ++ passed) rest old.journal old.taken

module _ (agent other : Agent) (side : ℕ) (waits : Journal → Bool) where
  -- what a note is posted as
  abbrev pub item_of : Note → Item
  item_of note = posted_as agent other note

  -- the journal with what is put in for an item of the one device
  abbrev pub journal_with : Station → Item → Journal
  journal_with s i = s.journal ++ posted_entry agent s.journal 0 s.taken i ∷ []

  -- where the device is open
  abbrev pub journal_after : Station → Note → Journal
  journal_after s note = if is_open 0 s.journal then journal_with s (item_of note) else s.journal

  -- the next command of the device, while that is open
  abbrev pub untaken : Station → Option Command
  untaken s = if is_open 0 s.journal then slice_get (commands agent 0 s.journal) s.taken else None

  -- no news, and no command
  pub record IsClear (s : Station) : Type 0 where
    pub all_read : s.unread ≡ []
    pub no_command : untaken s ≡ None

  -- and the program, which has had its turn, waits
  pub record Waits (s : Station) : Type 0 where
    pub clear : IsClear s
    pub goes_on : has_end s.journal ≡ false
    pub waiting : waits s.journal ≡ true

  -- and the program has ended, and the device is closed
  pub record HasDone (s : Station) : Type 0 where
    pub clear : IsClear s
    pub finished : has_end s.journal ≡ true
    pub shut : is_open 0 s.journal ≡ false

  -- it is to say that it waits, or that it has ended
  abbrev pub IsToSay : Station → Type 0
  IsToSay s = (Waits s × (has_waited side s.told ≡ false)) ⊎ (HasDone s × (ends side s.told ≡ 0))

  -- What a side that has read does: the first of these that it can. It takes the next news up, sends its next
  -- command, gives the program its turn, rests where both wait, says that it waits, stops the device, says that it
  -- has ended. What it says of itself stands only where no other note has come, `more`, since it has read.
  pub data Acts (old new : Station) : Did → Type 0 where
    took : (n : SideNote) (later : Notes) → old.unread ≡ n ∷ later → is_news side n ≡ true
        → new ≡ station (old.told ++ n ∷ []) later (journal_after old n.note) old.taken
        → Acts old new Busy
    sent : (c : Command) (more : Notes) → old.unread ≡ [] → untaken old ≡ Some c → list_any (is_own side) more ≡ false
        → new ≡ station old.told (more ++ put_by side (Send c.action) ∷ []) old.journal (old.taken + 1)
        → Acts old new Busy
    led : (e : Entry) → IsClear old → has_end old.journal ≡ false → is_of_program e ≡ true
        → IsBoardList agent (old.journal ++ e ∷ []) → (waits old.journal ≡ true → is_end e ≡ true)
        → new ≡ station old.told [] (old.journal ++ e ∷ []) old.taken
        → Acts old new Busy
    rested : Waits old → both_wait old.told ≡ true
        → new ≡ station old.told [] (journal_with old item.Rest) old.taken
        → Acts old new Busy
    idled : Waits old → both_wait old.told ≡ false → has_waited side old.told ≡ true → new ≡ old → Acts old new Idle
    waited : Waits old → has_waited side old.told ≡ false
        → new ≡ station (old.told ++ put_by side (Waiting (length old.journal)) ∷ []) [] old.journal old.taken
        → Acts old new Busy
    stopped : IsClear old → has_end old.journal ≡ true → is_open 0 old.journal ≡ true
        → new ≡ station old.told [] (journal_with old item.Stop) old.taken
        → Acts old new Busy
    ended : HasDone old → ends side old.told ≡ 0
        → new ≡ station (old.told ++ put_by side Ended ∷ []) [] old.journal old.taken
        → Acts old new Over
    over : HasDone old → ends side old.told ≢ 0 → new ≡ old → Acts old new Over
    overtaken : (more : Notes) → more ≢ [] → list_any (is_own side) more ≡ false → IsToSay old
        → new ≡ station old.told more old.journal old.taken
        → Acts old new Busy

  -- A step: it reads, and then acts.
  pub record Steps (old new : Station) (did : Did) : Type 0 where
    pub read : Station
    pub reads : Reads side old read
    pub acts : Acts read new did
