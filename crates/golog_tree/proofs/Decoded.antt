-- What the code of ground numbers rests on: counts are small, and arguments are found one after another.
use Rattle.std.proofs.Common.{◌≡◌, ℕ, zero, suc, ◌+◌, ◌-◌, ◌*◌, add-mul, mul_assoc, le-mul_of_pos_right, ◌/◌, ◌%◌, ◌<◌, ◌≤◌, List, [], ◌∷◌, ◌++◌, length, map, take, drop, get_or, Some, refl, sym, ap, ◌∙◌, subst, arith}
use Rattle.std.specs.Prelude.{All, slice_get, slice_set, sum_by, replicate, unwrap_or}
use Rattle.std.proofs.Math.Nat.{mul-zero, zero-mul}
use Rattle.std.proofs.lemmas.Nat.{mul-le}
use Rattle.std.proofs.lemmas.List.{take_all, length-drop, length-map}
use Rattle.std.proofs.lemmas.List.Elements.{All-get_or}
use Rattle.golog_tree.specs.declared.agent.Agent.{Agent}
use Rattle.golog_tree.specs.declared.agent.SortItem.{SortItem}
use Rattle.golog_tree.specs.declared.ground.Ground.{Ground}
use Rattle.golog_tree.specs.Ground.{product, sizes, place_of, args_of, args_at, all_from, item_size, size_at, sort_size, AreWithin, IsCountable}
use Rattle.golog_tree.specs.Numbered.{IsGround}
use Rattle.golog_tree.proofs.Places.{place-below, args_of-within, place_of-args_of, length-args_of}
use Rattle.golog_tree.proofs.Numbers.{get-at-place}

size_at-small : (items : List SortItem) (n : ℕ) → All (λ item. item_size item ≤ 255) items → size_at (slice_get items n) ≤ 255
size_at-small [] n h = omega arith
size_at-small (item ∷ items) zero h = All-get_or (λ item. item_size item ≤ 255) (item ∷ items) 0 item (omega arith) h
size_at-small (item ∷ items) (suc n) h = size_at-small items n (λ k d l. h (suc k) d (omega (arith, l)))

-- a sort has at most 255 constants
pub sort_size-small : (agent : Agent) (sort : ℕ) → IsCountable agent → sort_size agent sort ≤ 255
sort_size-small agent sort h = size_at-small agent.sorts sort h.sorts

size_at-counted : (items : List SortItem) (n : ℕ) → size_at (slice_get items n) ≡ unwrap_or (slice_get (map item_size items) n) 0
size_at-counted [] n = refl
size_at-counted (item ∷ items) zero = refl
size_at-counted (item ∷ items) (suc n) = size_at-counted items n

-- the size of a sort is the one that was counted
pub size-counted : (agent : Agent) (sort : ℕ) → IsCountable agent → sort_size agent sort ≡ unwrap_or (slice_get agent.firsts.sizes sort) 0
size-counted agent sort h =
    size_at-counted agent.sorts sort ∙ ap (λ counted. unwrap_or (slice_get counted sort) 0) (sym h.sizes)

-- three sorts have few lists of arguments
pub product-small : (agent : Agent) (sorts : List ℕ) → IsCountable agent → length sorts ≤ 3 → product (sizes agent sorts) ≤ 16581375
product-small agent [] h l = omega arith
product-small agent (a ∷ []) h l = let i = sort_size-small agent a h in omega (arith, i)
product-small agent (a ∷ b ∷ []) h l =
    let j = sort_size-small agent b h in
    let m = mul-le (sort_size agent a) (sort_size agent b * 1) 255 255 (sort_size-small agent a h) (omega (arith, j)) in omega (arith, m)
product-small agent (a ∷ b ∷ c ∷ []) h l =
    let k = sort_size-small agent c h in
    let n = mul-le (sort_size agent b) (sort_size agent c * 1) 255 255 (sort_size-small agent b h) (omega (arith, k)) in
    let m = mul-le (sort_size agent a) (sort_size agent b * (sort_size agent c * 1)) 255 65025 (sort_size-small agent a h) n in omega (arith, m)
product-small agent (a ∷ b ∷ c ∷ d ∷ sorts) h l = absurd (omega (arith, l))

-- the place of arguments is small too
pub place-small : (agent : Agent) (sorts args : List ℕ) → IsCountable agent → length sorts ≤ 3 → AreWithin (sizes agent sorts) args
    → place_of (sizes agent sorts) args < 16581375
place-small agent sorts args h l fits =
    let b = place-below (sizes agent sorts) args fits in let s = product-small agent sorts h l in omega (arith, b, s)

first-pos : (a b : ℕ) → 0 < a * b → 0 < a
first-pos zero b h = let e = zero-mul b in omega (arith, e, h)
first-pos (suc a) b h = omega arith

second-pos : (a b : ℕ) → 0 < a * b → 0 < b
second-pos a zero h = let e = mul-zero a in omega (arith, e, h)
second-pos a (suc b) h = omega arith

-- where there are arguments, each of their sorts has a constant
later-pos : (agent : Agent) (sorts : List ℕ) (i : ℕ) → 0 < product (sizes agent sorts) → 0 < product (sizes agent (drop i sorts))
later-pos agent sorts zero h = h
later-pos agent [] (suc i) h = h
later-pos agent (sort ∷ sorts) (suc i) h = later-pos agent sorts i (second-pos (sort_size agent sort) _ h)

pub size-pos : (agent : Agent) (sorts : List ℕ) (i : ℕ) → i < length sorts → 0 < product (sizes agent sorts) → 0 < sort_size agent (get_or sorts i 0)
size-pos agent [] i l h = absurd (omega (arith, l))
size-pos agent (sort ∷ sorts) zero l h = first-pos (sort_size agent sort) _ h
size-pos agent (sort ∷ sorts) (suc i) l h = size-pos agent sorts i (omega (arith, l)) (second-pos (sort_size agent sort) _ h)

-- an argument at a place, by the sizes of the sorts after it
pub get_or-args_of : (agent : Agent) (sorts : List ℕ) (i place : ℕ) → i < length sorts
    → get_or (args_of (sizes agent sorts) place) i 0 ≡ (place / product (sizes agent (drop (suc i) sorts))) % sort_size agent (get_or sorts i 0)
get_or-args_of agent [] i place l = absurd (omega (arith, l))
get_or-args_of agent (sort ∷ sorts) zero place l = refl
get_or-args_of agent (sort ∷ sorts) (suc i) place l = get_or-args_of agent sorts i place (omega (arith, l))

-- one more of these values, before zeros
pub set-padded : (xs : List ℕ) (i j : ℕ) → i < length xs
    → slice_set (take i xs ++ replicate (suc j) 0) i (get_or xs i 0) ≡ take (suc i) xs ++ replicate j 0
set-padded [] i j l = absurd (omega (arith, l))
set-padded (x ∷ xs) zero j l = refl
set-padded (x ∷ xs) (suc i) j l = ap (λ ys. x ∷ ys) (set-padded xs i j (omega (arith, l)))

pub args_at-get_or : (items : List (List ℕ)) (i : ℕ) → args_at items i ≡ get_or items i []
args_at-get_or [] i = refl
args_at-get_or (args ∷ items) zero = refl
args_at-get_or (args ∷ items) (suc i) = args_at-get_or items i

take_front : (xs ys : List ℕ) (n : ℕ) → n ≡ length xs → take n (xs ++ ys) ≡ xs
take_front [] ys zero e = refl
take_front [] ys (suc n) e = absurd (omega (arith, e))
take_front (x ∷ xs) ys zero e = absurd (omega (arith, e))
take_front (x ∷ xs) ys (suc n) e = ap (λ zs. x ∷ zs) (take_front xs ys n (omega (arith, e)))

drop_front : (xs ys : List ℕ) (n : ℕ) → n ≡ length xs → drop n (xs ++ ys) ≡ ys
drop_front [] ys zero e = refl
drop_front [] ys (suc n) e = absurd (omega (arith, e))
drop_front (x ∷ xs) ys zero e = absurd (omega (arith, e))
drop_front (x ∷ xs) ys (suc n) e = drop_front xs ys n (omega (arith, e))

pub length-found : (agent : Agent) (sorts : List ℕ) (place : ℕ) → length (args_of (sizes agent sorts) place) ≡ length sorts
length-found agent sorts place = length-args_of (sizes agent sorts) place ∙ length-map sorts (sort_size agent)

rest_is : (xs : List ℕ) (k : ℕ) → take (length xs - k) (drop k xs) ≡ drop k xs
rest_is xs k = take_all (length xs - k) (drop k xs) (omega (arith, length-drop k xs))

pub rest-pos : (agent : Agent) (sorts : List ℕ) (k : ℕ) → 0 < product (sizes agent sorts)
    → 0 < product (sizes agent (take (length sorts - k) (drop k sorts)))
rest-pos agent sorts k h =
    subst (λ xs. 0 < product (sizes agent xs)) (sym (rest_is sorts k)) (later-pos agent sorts k h)

-- one more argument is found
pub set-arg : (agent : Agent) (sorts args : List ℕ) (i place later size : ℕ) → i < length sorts → length sorts ≤ 3
    → args ≡ take i (args_of (sizes agent sorts) place) ++ replicate (3 - i) 0
    → later ≡ product (sizes agent (take (length sorts - (i + 1)) (drop (i + 1) sorts))) → size ≡ sort_size agent (get_or sorts i 0)
    → slice_set args i ((place / later) % size) ≡ take (i + 1) (args_of (sizes agent sorts) place) ++ replicate (3 - (i + 1)) 0
set-arg agent sorts args i place later size l few e el es =
    let xs = args_of (sizes agent sorts) place in
    let n : 3 - i ≡ suc (3 - (i + 1)) = omega (arith, l, few) in
    let m : i + 1 ≡ suc i = omega arith in
    let k : i < length xs = omega (arith, l, length-found agent sorts place) in
    let a : args ≡ take i xs ++ replicate (suc (3 - (i + 1))) 0 = e ∙ ap (λ j. take i xs ++ replicate j 0) n in
    let d : later ≡ product (sizes agent (drop (suc i) sorts)) =
    el ∙ ap (λ xs. product (sizes agent xs)) (rest_is sorts (i + 1)) ∙ ap (λ j. product (sizes agent (drop j sorts))) m in
    let v : (place / later) % size ≡ get_or xs i 0 =
    ap (λ w. (place / w) % size) d ∙ ap (λ w. (place / product (sizes agent (drop (suc i) sorts))) % w) es
    ∙ sym (get_or-args_of agent sorts i place l) in
    ap (λ given. slice_set given i ((place / later) % size)) a
    ∙ ap (λ w. slice_set (take i xs ++ replicate (suc (3 - (i + 1))) 0) i w) v
    ∙ set-padded xs i (3 - (i + 1)) k
    ∙ ap (λ j. take j xs ++ replicate (3 - (i + 1)) 0) (sym m)

-- all arguments are found
pub found-all : (agent : Agent) (sorts args : List ℕ) (i place : ℕ) → i ≡ length sorts
    → args ≡ take i (args_of (sizes agent sorts) place) ++ replicate (3 - i) 0
    → args ≡ args_of (sizes agent sorts) place ++ replicate (3 - length sorts) 0
found-all agent sorts args i place l e =
    let xs = args_of (sizes agent sorts) place in
    let t : take i xs ≡ xs = take_all i xs (omega (arith, l, length-found agent sorts place)) in
    e ∙ ap (λ ys. ys ++ replicate (3 - i) 0) t ∙ ap (λ j. xs ++ replicate (3 - j) 0) l

module _ (agent : Agent) where
  -- A pass over arguments has come to a place among those of the first of them, where it holds this of the whole
  -- place.
  abbrev pub IsPassed : List ℕ → List ℕ → ℕ → ℕ → ℕ → Type 0
  IsPassed sorts args i place whole =
      place * product (sizes agent (drop i sorts)) + place_of (sizes agent (drop i sorts)) (drop i args) ≡ whole

  -- one argument more
  pub passed-more : (sorts args : List ℕ) (i place whole : ℕ) → i < length sorts → AreWithin (sizes agent sorts) args
      → IsPassed sorts args i place whole
      → IsPassed sorts args (suc i) (place * sort_size agent (get_or sorts i 0) + get_or args i 0) whole
  passed-more [] args i place whole l fits h = absurd (omega (arith, l))
  passed-more (sort ∷ sorts) [] i place whole l fits h = absurd fits
  passed-more (sort ∷ sorts) (arg ∷ args) zero place whole l fits h =
      let n = sort_size agent sort in
      let w = product (sizes agent sorts) in
      let e : (place * n + arg) * w ≡ place * (n * w) + arg * w =
      add-mul (place * n) arg w ∙ ap (λ x. x + arg * w) (mul_assoc place n w) in
      omega (arith, e, h)
  passed-more (sort ∷ sorts) (arg ∷ args) (suc i) place whole l fits h =
      passed-more sorts args i place whole (omega (arith, l)) fits.1 h

  -- what is behind the first of these arguments is within its sorts
  within-behind : (sorts args : List ℕ) (i : ℕ) → AreWithin (sizes agent sorts) args → AreWithin (sizes agent (drop i sorts)) (drop i args)
  within-behind sorts args zero fits = fits
  within-behind [] [] (suc i) fits = tt
  within-behind [] (arg ∷ args) (suc i) fits = absurd fits
  within-behind (sort ∷ sorts) [] (suc i) fits = absurd fits
  within-behind (sort ∷ sorts) (arg ∷ args) (suc i) fits = within-behind sorts args i fits.1

  -- a place so far is at most the whole place
  pub passed-small : (sorts args : List ℕ) (i place whole : ℕ) → AreWithin (sizes agent sorts) args
      → IsPassed sorts args i place whole → place ≤ whole
  passed-small sorts args i place whole fits h =
      let below = place-below (sizes agent (drop i sorts)) (drop i args) (within-behind sorts args i fits) in
      let m : place ≤ place * product (sizes agent (drop i sorts)) = le-mul_of_pos_right place (omega (arith, below)) in
      omega (arith, h, m)

  -- all arguments are passed
  pub passed-all : (sorts args : List ℕ) (place whole : ℕ) → AreWithin (sizes agent sorts) args
      → IsPassed sorts args (length sorts) place whole → place ≡ whole
  passed-all [] args place whole fits h = omega (arith, h)
  passed-all (sort ∷ sorts) [] place whole fits h = absurd fits
  passed-all (sort ∷ sorts) (arg ∷ args) place whole fits h = passed-all sorts args place whole fits.1 h

module _ (agent : Agent) (items : List (List ℕ)) (number item place : ℕ) (ground : Ground) where
  -- the ground thing that is made of an item and a place among its arguments
  pub record IsMade : Type 0 where
    pub declared : item < length items
    pub within : place < product (sizes agent (args_at items item))
    pub number_is : number ≡ sum_by (λ sorts. product (sizes agent sorts)) (take item items) + place
    pub item_is : ground.item ≡ item
    pub count_is : ground.count ≡ length (args_at items item)
    pub args_are : ground.args ≡ args_of (sizes agent (args_at items item)) place ++ replicate (3 - length (args_at items item)) 0

  pub is-ground : IsMade → IsGround agent items number ground
  is-ground m =
      let sorts = args_at items item in
      let ns = sizes agent sorts in
      let l : length sorts ≡ length (args_of ns place) = sym (length-found agent sorts place) in
      let a : take ground.count ground.args ≡ args_of ns place =
      ap (take ground.count) m.args_are ∙ take_front (args_of ns place) _ ground.count (m.count_is ∙ l) in
      record {
        named = ap (slice_get (all_from agent 0 items)) m.number_is
            ∙ get-at-place agent items 0 item place m.declared m.within
            ∙ ap (λ xs. Some (0 + item, xs)) (sym a)
            ∙ ap (λ i. Some (i, take ground.count ground.args)) (omega (arith, m.item_is));
        declared = omega (arith, m.item_is, m.declared);
        count = m.count_is ∙ ap (λ i. length (args_at items i)) (sym m.item_is);
        fits = rw (m.item_is, a) (args_of-within ns place (omega (arith, m.within)));
        numbered = rw (m.item_is, a)
            (ap (λ p. sum_by (λ sorts. product (sizes agent sorts)) (take item items) + p) (place_of-args_of ns place m.within)
            ∙ sym m.number_is);
        padded = ap (drop ground.count) m.args_are ∙ drop_front (args_of ns place) _ ground.count (m.count_is ∙ l)
            ∙ ap (λ k. replicate (3 - k) 0) (sym m.count_is);
      }
