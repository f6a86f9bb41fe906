-- What a device keeps of what it served and told, one more at a time.
use Rattle.std.proofs.Common.{◌≡◌, ◌≤◌, ◌+◌, ℕ, Bool, true, false, ◌||◌, Some, List, [], ◌∷◌, ◌++◌, length, take, drop, refl, ap, ◌∙◌, arith}
use Rattle.std.proofs.lemmas.List.{take-append-le, drop-append-le, length-take-le, length-drop, map_push, take_all}
use Rattle.std.proofs.lemmas.List.Sums.{sum_by-cons, sum_by_push}
use Rattle.std.proofs.lemmas.List.Folds.{list_any-append}
use Rattle.golog_base.proofs.Bools.{or-false}
use Rattle.golog_semantics.specs.Dealt.{Service}
use Rattle.golog_device.specs.Devices.{is_told_close, told_then}
use Rattle.golog_device.specs.declared.served.Mark.{Mark}
use Rattle.golog_device.specs.declared.told.Told.{Told}
use Rattle.golog_device.specs.Kept.{item_of, items_of, is_closed, bytes_of, services_of, marked}

-- ---- texts

pub marked-cons : (m : Mark) (ms : List Mark) → marked (m ∷ ms) ≡ m.len + marked ms
marked-cons m ms = sum_by-cons (λ (m : Mark). m.len) m ms

pub marked-push : (ms : List Mark) (m : Mark) → marked (ms ++ m ∷ []) ≡ marked ms + m.len
marked-push ms m = sum_by_push (λ (m : Mark). m.len) ms m

pub bytes-cons : (s : Service) (services : List Service) → bytes_of (s ∷ services) ≡ length s.text + 1 + bytes_of services
bytes-cons s services = sum_by-cons (λ (s : Service). length s.text + 1) s services

pub bytes-push : (services : List Service) (s : Service) → bytes_of (services ++ s ∷ []) ≡ bytes_of services + (length s.text + 1)
bytes-push services s = sum_by_push (λ (s : Service). length s.text + 1) services s

none_left : (bytes : List ℕ) → 0 ≡ length bytes → bytes ≡ []
none_left [] h = refl
none_left (b ∷ bytes) h = absurd (omega (arith, h))

rest_marked : (m : Mark) (ms : List Mark) (bytes : List ℕ) → marked (m ∷ ms) ≡ length bytes → marked ms ≡ length (drop m.len bytes)
rest_marked m ms bytes h = omega (arith, h, marked-cons m ms, length-drop m.len bytes)

first_within : (m : Mark) (ms : List Mark) (bytes : List ℕ) → marked (m ∷ ms) ≡ length bytes → m.len ≤ length bytes
first_within m ms bytes h = omega (arith, h, marked-cons m ms)

-- one text more
pub services-push : (ms : List Mark) (bytes text : List ℕ) (asked : Bool) → marked ms ≡ length bytes
    → services_of (ms ++ record { len = length text; asked = asked } ∷ []) (bytes ++ text)
    ≡ services_of ms bytes ++ record { text = text; asked = asked } ∷ []
services-push [] bytes text asked h =
    rw (none_left bytes h) (ap (λ t. record { text = t; asked = asked } ∷ []) (take_all (length text) text (omega arith)))
services-push (m ∷ ms) bytes text asked h =
    let within = first_within m ms bytes h in
    rw (take-append-le m.len bytes text within, drop-append-le m.len bytes text within)
    (ap (λ more. record { text = take m.len bytes; asked = m.asked } ∷ more) (services-push ms (drop m.len bytes) text asked (rest_marked m ms bytes h)))

-- their bytes, with one more for each
pub bytes-services : (ms : List Mark) (bytes : List ℕ) → marked ms ≡ length bytes → bytes_of (services_of ms bytes) ≡ length bytes + length ms
bytes-services [] bytes h = h ∙ omega arith
bytes-services (m ∷ ms) bytes h =
    let first : Service = record { text = take m.len bytes; asked = m.asked } in
    let others = services_of ms (drop m.len bytes) in
    let more = bytes-services ms (drop m.len bytes) (rest_marked m ms bytes h) in
    let within = first_within m ms bytes h in
    omega (arith, more, within, bytes-cons first others, length-take-le m.len bytes within, length-drop m.len bytes)

-- ---- items

-- one item more, where none was a Close
pub items-push : (told : List Told) (item : Told) → is_closed told ≡ false
    → Some (items_of (told ++ item ∷ [])) ≡ told_then (Some (items_of told)) (item_of item)
items-push told item still = rw (map_push item_of told item, still) refl

pub closed-push : (told : List Told) (item : Told) → is_closed told ≡ false → is_closed (told ++ item ∷ []) ≡ is_told_close (item_of item)
closed-push told item still = rw (map_push item_of told item, list_any-append is_told_close (items_of told) (item_of item ∷ []), still) (or-false _)

-- none more behind a Close
pub items-closed : (told : List Told) (item : Told) → is_closed told ≡ true → Some (items_of told) ≡ told_then (Some (items_of told)) (item_of item)
items-closed told item closed = rw closed refl

pub ruleset text_laws = (services-push, bytes-services, marked-push, bytes-push)

pub ruleset item_laws = (items-push, closed-push, items-closed)
