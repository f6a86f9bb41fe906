use Rattle.std.proofs.Common.{◌≡◌, ℕ, ◌<◌, ◌==◌, false, length, take, get_or}
use Rattle.std.specs.List.{list_any}
use Rattle.golog_journal.proofs.table.posters_in.Given as goal

abbrev pub invariant-loop-poster : goal.invariant-loop-poster
invariant-loop-poster l =
    ((device : ℕ) → device < 16 → get_or l.posters device false ≡ list_any (λ poster. poster == device) (take l.poster-index l.item.posters))
    × (length l.posters ≡ 16)
