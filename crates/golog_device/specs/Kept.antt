-- What a device keeps of what it told, and of the texts that it served.
use Rattle.std.specs.Prelude.{ℕ, ◌+◌, Bool, List, [], ◌∷◌, length, map, take, drop, sum_by}
use Rattle.std.specs.List.{list_any}
use Rattle.golog_semantics.specs.Dealt.{Service, Told as ToldItem, TellsPost, TellsValue, TellsRest, TellsClose}
use Rattle.golog_device.specs.Devices.{is_told_close}
use Rattle.golog_device.specs.declared.served.Mark.{Mark}
use Rattle.golog_device.specs.declared.told.Told.{Told}
use Rattle.golog_device.specs.declared.told.Told.TheVariants.{Post, Value, Rest, Close}

-- what was told
abbrev pub item_of : Told → ToldItem
item_of (Post text) = TellsPost text
item_of (Value text) = TellsValue text
item_of Rest = TellsRest
item_of Close = TellsClose

abbrev pub items_of : List Told → List ToldItem
items_of = map item_of

-- whether a Close was told
abbrev pub is_closed : List Told → Bool
is_closed told = list_any is_told_close (items_of told)

-- the bytes of served texts, one more for each
abbrev pub bytes_of : List Service → ℕ
bytes_of services = sum_by (λ (s : Service). length s.text + 1) services

-- the texts one behind another, apart again by their lengths
abbrev pub services_of : List Mark → List ℕ → List Service
services_of [] bytes = []
services_of (mark ∷ marks) bytes =
    record { text = take mark.len bytes; asked = mark.asked } ∷ services_of marks (drop mark.len bytes)

-- the bytes of all texts
abbrev pub marked : List Mark → ℕ
marked marks = sum_by (λ (m : Mark). m.len) marks
