-- Different constants, devices and actions have different texts, whatever follows.
use Rattle.std.proofs.Common.{◌≡◌, ℕ, zero, suc, ◌<◌, ◌^◌, true, List, [], ◌∷◌, ◌++◌, length, refl, sym, ap, ◌∙◌, subst, Some, None, Option, arith, ℤ, pos, negsuc}
use Rattle.std.specs.Option.{option_map_or}
use Rattle.std.specs.Prelude.{codes, slice_get, unwrap_or, ◌+ℤ◌, ◌-ℤ◌, ◌<ℤ◌, ◌≤ℤ◌}
use Rattle.std.specs.Int.Signed.{mag}
use Rattle.std.proofs.lemmas.Int.{ints}
use Rattle.std.proofs.lemmas.Fmt.{signed_decimal_injective}
use Rattle.golog_tree.specs.declared.agent.Agent.{Agent}
use Rattle.golog_tree.specs.declared.agent.SortItem.{SortItem}
use Rattle.golog_tree.specs.declared.agent.SortItem.TheVariants.{Range, Listed}
use Rattle.golog_tree.specs.Ground.{item_size, to_count, sort_size, size_at}
use Rattle.golog_semantics.specs.Text.{Text, constant_in, constant_text, device_text}
use Rattle.golog_semantics.specs.ReportLaws.{AreDistinctNames, HasConstants, TellsApart}
use Rattle.golog_semantics.specs.Truth.{is_known}
use Rattle.golog_semantics.proofs.Words.{IsWord, Stops, word_split, name-word, signed-word}

-- two values whose texts come before what follows are the same, and so is what follows
abbrev pub Tells : {A : Type 0} → (A → Text) → (A → Type 0) → (Text → Type 0) → Type 0
Tells {A} say Fits Follows = (a b : A) (s t : Text) → Fits a → Fits b → Follows s → Follows t → say a ++ s ≡ say b ++ t → (a ≡ b) × (s ≡ t)

-- those whose texts are different words
pub words_tell : {A : Type 0} (say : A → Text) (Fits : A → Type 0) → ((a : A) → Fits a → IsWord (say a)) → ((a b : A) → Fits a → Fits b → say a ≡ say b → a ≡ b) → Tells say Fits Stops
words_tell say Fits word same a b s t f g h k e =
    let both = word_split (say a) (say b) s t (word a f) (word b g) h k e in
    (same a b f g both.0, both.1)

below_count : (z : ℤ) (v : ℕ) → v < to_count z → pos v <ℤ z
below_count (pos n) v h = omega (arith, ints)
below_count (negsuc n) v h = absurd (omega arith)

small_between : (z : ℤ) → negsuc (2 ^ 32) ≤ℤ z → z ≤ℤ pos (2 ^ 32) → mag z < 2 ^ 63
small_between (pos n) h k = omega (arith, ints)
small_between (negsuc n) h k = omega (arith, ints)

mag_between : (z : ℤ) → mag z < 2 ^ 31 → (negsuc (2 ^ 31) ≤ℤ z) × (z ≤ℤ pos (2 ^ 31))
mag_between (pos n) h = (omega (arith, ints), omega (arith, ints))
mag_between (negsuc n) h = (omega (arith, ints), omega (arith, ints))

-- the number within the sort
pub moved_small : (low high : ℤ) (value : ℕ) → mag low < 2 ^ 31 → mag high < 2 ^ 31 → value < to_count (high -ℤ low +ℤ pos 1) → mag (low +ℤ pos value) < 2 ^ 63
moved_small low high v h k l =
    let one = mag_between low h in
    let other = mag_between high k in
    let b : pos v <ℤ (high -ℤ low +ℤ pos 1) = below_count (high -ℤ low +ℤ pos 1) v l in
    small_between (low +ℤ pos v) (omega (arith, ints)) (omega (arith, ints))

moved_same : (low : ℤ) (a b : ℕ) → low +ℤ pos a ≡ low +ℤ pos b → a ≡ b
moved_same low a b e = omega (arith, ints)

range_same : (low : ℤ) (name : Text) (high : ℤ) (a b : ℕ) → mag low < 2 ^ 31 → mag high < 2 ^ 31 → a < item_size (Range name low high) → b < item_size (Range name low high)
    → constant_in (Range name low high) a ≡ constant_in (Range name low high) b → a ≡ b
range_same low name high a b h k f g e =
    moved_same low a b (signed_decimal_injective (low +ℤ pos a) (low +ℤ pos b) (moved_small low high a h k f) (moved_small low high b h k g) e)

-- a name stands where the list has one
pub record NameAt (names : List Text) (i : ℕ) : Type 0 where
  pub name : Text
  pub is : slice_get names i ≡ Some name

pub name_at : (names : List Text) (i : ℕ) → i < length names → NameAt names i
name_at [] i h = absurd (omega arith)
name_at (name ∷ names) zero h = record { name = name; is = refl }
name_at (name ∷ names) (suc i) h = let r = name_at names i (omega arith) in record { name = r.name; is = r.is }

module _ (names : List Text) (distinct : AreDistinctNames names) where
  pub named_word : (i : ℕ) → i < length names → IsWord (unwrap_or (slice_get names i) [])
  named_word i h = let r = name_at names i h in
      subst (λ o. IsWord (unwrap_or o [])) (sym r.is) (name-word r.name (distinct.named i r.name r.is))

  pub named_same : (i j : ℕ) → i < length names → j < length names → unwrap_or (slice_get names i) [] ≡ unwrap_or (slice_get names j) [] → i ≡ j
  named_same i j h k e = let r = name_at names i h in let q = name_at names j k in
      let same : r.name ≡ q.name = ap (λ o. unwrap_or o []) (sym r.is) ∙ e ∙ ap (λ o. unwrap_or o []) q.is in
      distinct.distinct i j r.name r.is (q.is ∙ ap Some (sym same))

  pub named_tells : Tells (λ i. unwrap_or (slice_get names i) []) (λ i. i < length names) Stops
  named_tells = words_tell (λ i. unwrap_or (slice_get names i) []) (λ i. i < length names) named_word named_same

constant_word : (item : SortItem) → HasConstants item → (a : ℕ) → a < item_size item → IsWord (constant_in item a)
constant_word (Range name low high) (h, k) a f = signed-word (low +ℤ pos a) (moved_small low high a h.sfits k.sfits f)
constant_word (Listed name constants) h a f = named_word constants h a f

constant_same : (item : SortItem) → HasConstants item → (a b : ℕ) → a < item_size item → b < item_size item → constant_in item a ≡ constant_in item b → a ≡ b
constant_same (Range name low high) (h, k) a b f g e = range_same low name high a b h.sfits k.sfits f g e
constant_same (Listed name constants) h a b f g e = named_same constants h a b f g e

module _ (agent : Agent) (apart : TellsApart agent) where
  pub device_tells : Tells (device_text agent) (λ d. d < length agent.devices) Stops
  device_tells = named_tells agent.devices apart.devices

  constant_tells_at : (sort : ℕ) (o : Option SortItem) → slice_get agent.sorts sort ≡ o → Tells (λ a. option_map_or (λ item. constant_in item a) o []) (λ a. a < size_at o) Stops
  constant_tells_at sort None e = λ a b s t f g h k same. absurd (omega arith)
  constant_tells_at sort (Some item) e =
      let has = apart.constants sort item e in
      words_tell (constant_in item) (λ a. a < item_size item) (constant_word item has) (constant_same item has)

  pub constant_tells : (sort : ℕ) → Tells (constant_text agent sort) (λ a. a < sort_size agent sort) Stops
  constant_tells sort = constant_tells_at sort (slice_get agent.sorts sort) refl

  -- the text of a constant is a word, and neither it nor its position is that of an unknown value
  word_at : (sort v : ℕ) (o : Option SortItem) → slice_get agent.sorts sort ≡ o → v < size_at o → IsWord (option_map_or (λ item. constant_in item v) o [])
  word_at sort v None e h = absurd (omega arith)
  word_at sort v (Some item) e h = constant_word item (apart.constants sort item e) v h

  pub constant_is_word : (sort v : ℕ) → v < sort_size agent sort → IsWord (constant_text agent sort v)
  constant_is_word sort v h = word_at sort v (slice_get agent.sorts sort) refl h

  known_at : (sort v : ℕ) (o : Option SortItem) → slice_get agent.sorts sort ≡ o → v < size_at o
      → (is_known v ≡ true) × (option_map_or (λ item. constant_in item v) o [] ≡ codes "unknown" → ⊥)
  known_at sort v None e h = absurd (omega arith)
  known_at sort v (Some item) e h = apart.known sort item e v h

  pub constant_known : (sort v : ℕ) → v < sort_size agent sort → (is_known v ≡ true) × (constant_text agent sort v ≡ codes "unknown" → ⊥)
  constant_known sort v h = known_at sort v (slice_get agent.sorts sort) refl h
