-- A list that only clauses see.
use Rattle.std.specs.Prelude.{[], ◌∷◌, ◌++◌}
use Rattle.golog_semantics.specs.Journal.{Journal}
use Rattle.golog_journal.specs.declared.trail.Links.{Links, Empty, After'}

-- the entries that are linked, the last of them last
abbrev pub entries_of : Links → Journal
entries_of Empty = []
entries_of (After' place before e) = entries_of before ++ e ∷ []
