-- Places by the hashes of what stands there.
use Rattle.std.specs.Prelude.{ℕ, Bool, ◌==◌, ◌&&◌, ◌||◌, false, List}
use Rattle.std.specs.HashMap.{get_by}
use Rattle.std.specs.List.{list_any}
use Rattle.std.specs.Option.{option_map_or}
use Rattle.golog_memo.specs.declared.places.Other.{Other}
use Rattle.golog_memo.specs.declared.places.Places.{Places}

-- the place is one of these, with the hash
abbrev pub is_among : List Other → ℕ → ℕ → Bool
is_among others hash place = list_any (λ (o : Other). hash == o.hash && place == o.place) others

-- the place was added with the hash
abbrev pub is_placed : Places → ℕ → ℕ → Bool
is_placed places hash place =
    option_map_or (λ first. place == first) (get_by (λ k. hash == k) places.firsts) false || is_among places.others hash place
