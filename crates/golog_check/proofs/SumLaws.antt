-- Counts of ground things are small.
use Rattle.std.proofs.Common.{◌≡◌, ℕ, zero, suc, ◌*◌, ◌<◌, ◌≤◌, List, [], ◌∷◌, length, map, get_or, sym, ap, ◌∙◌, subst, arith}
use Rattle.std.proofs.lemmas.Nat.{mul-le}
use Rattle.std.proofs.lemmas.List.{get_or-map, length-map}
use Rattle.std.proofs.lemmas.List.Elements.{All-get_or}
use Rattle.golog_tree.specs.declared.agent.SortItem.{SortItem}
use Rattle.golog_tree.specs.Ground.{item_size}
use Rattle.golog_check.specs.Sums.{Counted, HaveFewArgs, size_in, count_in, AreSmall}

pub size-small : (sorts : List SortItem) (n : ℕ) → AreSmall sorts → size_in sorts n ≤ 255
size-small [] n h = omega arith
size-small (item ∷ items) zero h = All-get_or (λ item. item_size item ≤ 255) (item ∷ items) 0 item (omega arith) h
size-small (item ∷ items) (suc n) h = size-small items n (λ k d l. h (suc k) d (omega (arith, l)))

-- three sorts have few lists of arguments
pub count-small : (sorts : List SortItem) (args : List ℕ) → AreSmall sorts → length args ≤ 3 → count_in sorts args ≤ 16581375
count-small sorts [] h l = omega arith
count-small sorts (a ∷ []) h l = let i = size-small sorts a h in omega (arith, i)
count-small sorts (a ∷ b ∷ []) h l =
    let j = size-small sorts b h in
    let m = mul-le (size_in sorts a) (size_in sorts b * 1) 255 255 (size-small sorts a h) (omega (arith, j)) in
    omega (arith, m)
count-small sorts (a ∷ b ∷ c ∷ []) h l =
    let k = size-small sorts c h in
    let n = mul-le (size_in sorts b) (size_in sorts c * 1) 255 255 (size-small sorts b h) (omega (arith, k)) in
    let m = mul-le (size_in sorts a) (size_in sorts b * (size_in sorts c * 1)) 255 65025 (size-small sorts a h) n in
    omega (arith, m)
count-small sorts (a ∷ b ∷ c ∷ d ∷ args) h l = absurd (omega (arith, l))

-- the item at a place has at most three arguments
pub few-at : {T : Type 0} (f : T → Counted) (items : List T) (i : ℕ) (item : T) (args : List ℕ) → i < length items
    → item ≡ get_or items i item → args ≡ (f item).0 → HaveFewArgs (map f items) → length args ≤ 3
few-at f items i item args l is e few =
    let at : get_or (map f items) i (f item) ≡ f item = get_or-map f items i item (f item) l ∙ ap f (sym is) in
    let small : length (get_or (map f items) i (f item)).0 ≤ 3 =
    few i (f item) (omega (arith, l, length-map items f)) in
    let P : Counted → Type 0 = λ counted. length counted.0 ≤ 3 in
    let less : length (f item).0 ≤ 3 = subst P at small in
    omega (arith, less, ap length e)
