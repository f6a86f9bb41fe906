-- What a device tells by what it keeps, and how much it keeps.
use Rattle.std.specs.Prelude.{◌≡◌, ◌||◌, nat_lt, ℕ, Bool, IfSome, List, [], ◌∷◌, ◌++◌, vec_len, vec_capacity}
use Rattle.golog_semantics.specs.Dealt.{Service, Meaning, Told as ToldItem}
use Rattle.golog_device.specs.declared.told.ToldItems.{ToldItems}
use Rattle.golog_device.specs.declared.served.ServedTexts.{ServedTexts}
use Rattle.golog_device.specs.Kept.{items_of, bytes_of, services_of}

-- the most bytes of the served texts that a device keeps, one more for each text
abbrev pub SERVED_ROOM : ℕ
SERVED_ROOM = 1048576

-- what was told
abbrev pub told_by : ToldItems → List ToldItem
told_by log = items_of log.told.items

-- whether a Close was told
abbrev pub is_over : ToldItems → Bool
is_over log = log.closed

-- how many items are kept
abbrev pub kept_by : ToldItems → ℕ
kept_by log = vec_len log.told

-- for how many items there is room
abbrev pub room_of : ToldItems → ℕ
room_of log = vec_capacity log.told

-- what was served
abbrev pub given_by : ServedTexts → List Service
given_by log = services_of log.marks.items log.bytes.items

-- whether texts were left out
abbrev pub is_cut : ServedTexts → Bool
is_cut log = log.cut

-- for how many bytes there is room
abbrev pub bytes_room : ServedTexts → ℕ
bytes_room log = log.room

-- It is cut from where the texts served since it began, with one byte more for each, have no room together.
abbrev pub IsCutAtRoom : Meaning → Meaning → Service → Type 0
IsCutAtRoom old new service =
    IfSome old.given (λ given. new.cut ≡ (old.cut || nat_lt SERVED_ROOM (bytes_of (given ++ service ∷ []))))
