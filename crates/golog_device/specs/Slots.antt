-- What happens to the devices of each slot.
use Rattle.std.specs.Prelude.{◌≡◌, ℕ, ◌<◌, Bool, true, false, ◌==◌, nat_lt, if◌then◌else◌, Option, None, Some, IsSomeAnd, ⊤, List, [], ◌∷◌, ◌++◌, length, map, slice_get, slice_index_or, unwrap_or}
use Rattle.std.specs.List.{flat_map, enumerate_from}
use Rattle.golog_semantics.specs.declared.journal.Entry.TheVariants.{Close}
use Rattle.golog_semantics.specs.declared.journal.Reason.TheVariants.{Refused}
use Rattle.golog_semantics.specs.Text.{Text}
use Rattle.golog_semantics.specs.Journal.{Journal}
use Rattle.golog_semantics.specs.Dealt.{Meaning}
use Rattle.golog_device.specs.Devices.{HasBegun}

-- a device: whether it is fresh, and what it means
pub record Standing : Type 0 where
  pub fresh : Bool
  pub meaning : Meaning

-- how devices stand
abbrev pub standings : {A : Type 0} → (A → Bool) → (A → Meaning) → List A → List Standing
standings fresh meaning devices = map (λ d. record { fresh = fresh d; meaning = meaning d }) devices

-- both are there and related, or neither is there
abbrev pub Both : (Standing → Standing → Type 0) → Option Standing → Option Standing → Type 0
Both P None None = ⊤
Both P None (Some new) = ⊥
Both P (Some old) None = ⊥
Both P (Some old) (Some new) = P old new

-- each slot's device goes from its old standing to its new one by this relation
pub record EachSlot (P : ℕ → Standing → Standing → Type 0) (olds news : List Standing) : Type 0 where
  pub at : (slot : ℕ) → Both (P slot) (slice_get olds slot) (slice_get news slot)

-- where a test holds the standing changes by this relation, and else it stays
abbrev pub ChangesIf : Bool → (Standing → Standing → Type 0) → Standing → Standing → Type 0
ChangesIf true P old new = P old new
ChangesIf false P old new = new ≡ old

-- the device refused its script and is as it was, or it has begun with it under its name
abbrev pub BeginsUnless : Bool → Text → Text → Standing → Standing → Type 0
BeginsUnless true name text old new = (new ≡ old) × (old.meaning.left ≡ None)
BeginsUnless false name text old new = (new.fresh ≡ false) × HasBegun old.meaning new.meaning name text

-- the name of a slot's device
abbrev pub name_at : List Text → ℕ → Text
name_at names slot = unwrap_or (slice_get names slot) []

-- the closing of a device that refused its script
abbrev pub refusal : ℕ × Bool → Journal
refusal (device, refused) = if refused then Close device Refused 0 ∷ [] else []

-- the closings of the devices that refused their scripts, in order
abbrev pub refusals : List Bool → Journal
refusals refused = flat_map refusal (enumerate_from 0 refused)

-- a device of the first slots has begun under its name with its script, or refused it; another is as it was
abbrev pub BeginsBelow : ℕ → List Text → List Text → List Bool → ℕ → Standing → Standing → Type 0
BeginsBelow count names texts refused slot old new =
    ChangesIf (nat_lt slot count)
    (BeginsUnless (slice_index_or refused slot false) (name_at names slot) (slice_index_or texts slot [])) old new

-- The first devices, of so many, have begun, each under its name with its script, or refused it and are closed.
-- The others are as they were.
pub record HaveBegun (count : ℕ) (names texts : List Text) (journal : Journal) (olds news : List Standing)
    : Type 0 where
  pub refused : List Bool
  pub one_each : length refused ≡ count
  pub closed : journal ≡ refusals refused
  pub begun : EachSlot (BeginsBelow count names texts refused) olds news

-- the device of this slot is there and has this property
abbrev pub HasAt : List Standing → ℕ → (Standing → Type 0) → Type 0
HasAt standings slot P = IsSomeAnd (slice_get standings slot) P

-- the devices of the first slots, of so many, are fresh
abbrev pub FreshBelow : ℕ → List Standing → Type 0
FreshBelow count standings = (slot : ℕ) → slot < count → HasAt standings slot (λ s. s.fresh ≡ true)

-- one slot's device changes by this relation, and each other's stays
abbrev pub OnlySlot : ℕ → (Standing → Standing → Type 0) → List Standing → List Standing → Type 0
OnlySlot slot P olds news = EachSlot (λ k old new. ChangesIf (k == slot) P old new) olds news

-- the device of a slot has begun under this name with its script, or refused it and was closed
pub record BeginsAt (slot : ℕ) (name text : Text) (before after : Journal) (olds news : List Standing)
    : Type 0 where
  pub refused : Bool
  pub closed : after ≡ before ++ refusal (slot, refused)
  pub begun : OnlySlot slot (BeginsUnless refused name text) olds news
