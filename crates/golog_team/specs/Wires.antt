-- A link, as one of its sides sees it. (This project's own.)
use Rattle.std.specs.Prelude.{◌≡◌, ℕ, ◌<◌, ◌≤◌, Bool, true, false, Option, [], ◌∷◌, ◌++◌, length, slice_get}
use Rattle.std.specs.List.{list_any}
use Rattle.golog_team.specs.declared.note.Note.{Note}
use Rattle.golog_team.specs.declared.note.SideNote.{SideNote}
use Rattle.golog_team.specs.Notes.{Notes, put_by, is_own}
use Rattle.golog_team.specs.Links.{room}

-- which side it is, and the notes that it has seen
pub record View : Type 0 where
  pub side : ℕ
  pub seen : Notes

-- A call of a side. Before it the other side may have put notes; at the notes then there it is answered, and what it adds
-- stands at the end. There are no more than a link takes.
pub record Heard (answers : Notes → Notes → Type 0) (old new : View) : Type 0 where
  pub same_side : new.side ≡ old.side
  pub others : Notes
  pub foreign : list_any (is_own old.side) others ≡ false
  pub added : Notes
  pub grows : new.seen ≡ (old.seen ++ others) ++ added
  pub answered : answers (old.seen ++ others) added
  pub short : length new.seen ≤ room

-- the note at the place is told, if there is one
pub record LooksAt (notes : Notes) (at : ℕ) (found : Option SideNote) (added : Notes) : Type 0 where
  pub told : found ≡ slice_get notes at
  pub none : added ≡ []

-- the note is put at the end
abbrev pub Puts : ℕ → Note → Notes → Type 0
Puts side note added = added ≡ put_by side note ∷ []

-- it is put where there are exactly so many, and else nothing is
abbrev pub PutsAt : ℕ → Notes → ℕ → Note → Bool → Notes → Type 0
PutsAt side notes at note true added = (length notes ≡ at) × (added ≡ put_by side note ∷ [])
PutsAt side notes at note false added = (at < length notes) × (added ≡ [])

-- The other side has put notes.
pub record HasMet (old new : View) : Type 0 where
  pub same_side : new.side ≡ old.side
  pub others : Notes
  pub foreign : list_any (is_own old.side) others ≡ false
  pub grows : new.seen ≡ old.seen ++ others
