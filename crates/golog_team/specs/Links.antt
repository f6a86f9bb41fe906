-- What may be asked of a link, and what it answers. (This project's own.)
use Rattle.std.specs.Prelude.{◌≡◌, ℕ, ◌+◌, ◌*◌, ◌<◌, ◌≤◌, nat_le, Bool, false, not, if◌then◌else◌, IsTrue, Some, [], ◌∷◌, ◌++◌, length, count_by, slice_get}
use Rattle.std.specs.List.{list_all}
use Rattle.golog_semantics.specs.Journal.{limit}
use Rattle.golog_team.specs.declared.note.Note.{Note}
use Rattle.golog_team.specs.declared.note.Note.TheVariants.{Send, Waiting, Ended}
use Rattle.golog_team.specs.declared.link.LinkOp.{LinkOp}
use Rattle.golog_team.specs.declared.link.LinkOp.TheVariants.{Put, PutAt, Look}
use Rattle.golog_team.specs.declared.link.LinkReply.{LinkReply}
use Rattle.golog_team.specs.declared.link.LinkReply.TheVariants.{At, Longer, Seen, Nothing}
use Rattle.golog_team.specs.Notes.{Notes, put_by, is_waiting, is_waiting_of, sends, ends, has_waited}

-- how many notes a link takes
abbrev pub room : ℕ
room = 2 * (3 * limit + 4)

-- how many notes are no Waiting, and how many are a Waiting of the side
abbrev pub doings : Notes → ℕ
doings notes = count_by (λ n. not (is_waiting n.note)) notes

abbrev pub waitings : ℕ → Notes → ℕ
waitings side notes = count_by (is_waiting_of side) notes

-- A side has sent no more than a journal counts and has ended once at most. Between two Waiting notes of it stands a
-- note that is none.
pub record KeepsCount (side : ℕ) (notes : Notes) : Type 0 where
  pub few : length (sends side notes) ≤ limit
  pub once : ends side notes ≤ 1
  pub spaced : waitings side notes ≤ doings notes + (if has_waited side notes then 1 else 0)

-- The notes are of the two sides, and each keeps count.
pub record IsLinkList (notes : Notes) : Type 0 where
  pub sides : IsTrue (list_all (λ n. nat_le n.side 1) notes)
  pub one : KeepsCount 0 notes
  pub other : KeepsCount 1 notes

module _ (notes : Notes) where
  -- a side sends no more than a journal counts, ends once, and says that it waits where it has not said so
  abbrev pub MayPut : ℕ → Note → Type 0
  MayPut side (Send action) = length (sends side notes) < limit
  MayPut side Ended = ends side notes ≡ 0
  MayPut side (Waiting n) = has_waited side notes ≡ false

  -- what is put wherever it comes to stand: a Waiting is none of it
  abbrev pub MayPutAnywhere : ℕ → Note → Type 0
  MayPutAnywhere side (Waiting n) = ⊥
  MayPutAnywhere side note = MayPut side note

  abbrev pub Allows : LinkOp → Type 0
  Allows (Put side note) = (side ≤ 1) × MayPutAnywhere side note
  Allows (PutAt side at note) = (side ≤ 1) × (at ≤ length notes) × (length notes ≡ at → MayPut side note)
  Allows (Look at) = at ≤ length notes

  abbrev pub Says : LinkOp → LinkReply → Notes → Type 0
  Says (Put side note) (At place) added = (place ≡ length notes) × (added ≡ put_by side note ∷ [])
  Says (PutAt side at note) (At place) added = (length notes ≡ at) × (place ≡ at) × (added ≡ put_by side note ∷ [])
  Says (PutAt side at note) (Longer n) added = (at < length notes) × (n ≡ length notes) × (added ≡ [])
  Says (Look at) (Seen side note n) added =
      (slice_get notes at ≡ Some (put_by side note)) × (n ≡ length notes) × (added ≡ [])
  Says (Look at) (Nothing n) added = (at ≡ length notes) × (n ≡ at) × (added ≡ [])
  Says op reply added = ⊥

  -- the answer, and what is so of the notes then
  pub record Answers (op : LinkOp) (reply : LinkReply) (added : Notes) : Type 0 where
    pub says : Says op reply added
    pub lawful : IsLinkList (notes ++ added)
    pub short : length (notes ++ added) ≤ room
