-- Devices that are all fresh, and the script that is found among others.
use Rattle.std.proofs.Common.{◌≡◌, ℕ, ◌<◌, ◌≤◌, List, Bool, true, length, get_or, Some, ap, ◌∙◌, sym, arith, All, inl, inr, ◌⊎◌}
use Rattle.std.specs.Prelude.{slice_get, IsSomeAnd, None}
use Rattle.std.proofs.lemmas.Option.{slice_get_cases, slice_get-map}
use Rattle.golog_semantics.specs.Dealt.{Meaning}
use Rattle.golog_device.specs.Slots.{Standing, FreshBelow, standings}
use Rattle.golog_script.specs.declared.device.ScriptDevice.{ScriptDevice}
use Rattle.golog_script.specs.Meanings.{is_fresh}

abbrev pub AreFresh : List ScriptDevice → Type 0
AreFresh devices = All (λ device. is_fresh device ≡ true) devices

-- so many devices are fresh, where all are
pub fresh-below : {A : Type 0} (fresh : A → Bool) (meaning : A → Meaning) (devices : List A) (count : ℕ) → count ≤ length devices
    → All (λ d. fresh d ≡ true) devices → FreshBelow count (standings fresh meaning devices)
fresh-below {A} fresh meaning devices count long all slot within = by (slice_get_cases devices slot).1
  where
    by : ((x : A) × (slot < length devices) × (slice_get devices slot ≡ Some x) × (get_or devices slot x ≡ x)) ⊎ ((length devices ≤ slot) × (slice_get devices slot ≡ None))
        → IsSomeAnd (slice_get (standings fresh meaning devices) slot) (λ (s : Standing). s.fresh ≡ true)
    by (inl (x, inside, is, at)) =
        let so : fresh x ≡ true = ap fresh (sym at) ∙ all slot x inside in
        rw (slice_get-map {B = Standing} (λ (d : A). record { fresh = fresh d; meaning = meaning d }) devices slot, is) so
    by (inr (past, is)) = absurd (omega (arith, long, within, past))
