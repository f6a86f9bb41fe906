-- What is told of the procedures of a draft is what is said of their shapes.
use Rattle.std.proofs.Common.{◌≡◌, ℕ, zero, suc, ◌+◌, ◌<◌, Bool, false, not, ◌&&◌, ◌||◌, List, [], ◌∷◌, ◌++◌, length, get_or, map, take, drop, Option, Some, refl, sym, ap, subst, ◌∙◌, arith, replicate}
use Rattle.std.specs.Prelude.{min, max, nat_lt, slice_get, slice_index}
use Rattle.std.specs.List.{list_any, flat_map, enumerate_from}
use Rattle.std.specs.Option.{option_map_or}
use Rattle.std.proofs.lemmas.Bool.Decides.{nat_tests}
use Rattle.std.proofs.lemmas.Grind.{flat_map-append}
use Rattle.std.proofs.lemmas.List.{append-nil, at_drop_more, length-map}
use Rattle.golog_tree.specs.declared.agent.ProcItem.{ProcItem}
use Rattle.golog_tree.specs.declared.draft.DraftProc.{DraftProc}
use Rattle.golog_tree.specs.Nest.{nest}
use Rattle.golog_semantics.specs.FrontCalls.{front_calls, greatest, nests_to, front_nests}
use Rattle.golog_rows.specs.declared.least.Refusal.{Refusal}
use Rattle.golog_shapes.specs.declared.fronts.Nesting.{Nesting}
use Rattle.golog_shapes.specs.DraftNest.{draft_nest}
use Rattle.golog_rows.specs.Least.{CodeAt, IsLeastOf}
use Rattle.golog_shapes.specs.Settled.{rounds_of}
use Rattle.golog_shapes.specs.Shapes.{shape, shape_of, shapes}
use Rattle.golog_shapes.specs.Unguarded.{said, reaching, is_unguarded, has_no_nest, is_deep, refused_where, front_refusals}
use Rattle.golog_shapes.specs.Fronts.{reach_round, nest_of_calls, nest_round}
use Rattle.golog_shapes.specs.Told.{nesting, calls_told, nesting_in, nestings_in, reached_by, reached_each, reaches_itself, is_endless}
use Rattle.golog_shapes.proofs.Fores.{nest-same}
use Rattle.golog_shapes.proofs.RoundLaws.{calls_in, map-alike, map-same, map-two, reaching-rounds}

-- one more that is numbered
pub enumerate-more : {A : Type 0} (n : ℕ) (xs : List A) (i : ℕ) (x : A) → i < length xs → x ≡ get_or xs i x
    → enumerate_from n (take (i + 1) xs) ≡ enumerate_from n (take i xs) ++ (n + i, x) ∷ []
enumerate-more {A = A} n [] i x lt is = absurd (omega (arith, lt))
enumerate-more {A = A} n (y ∷ xs) zero x lt is =
    ap (λ (z : A). (n, z) ∷ []) (sym is) ∙ ap (λ k. (k, x) ∷ []) (let e : n ≡ n + 0 = omega arith in e)
enumerate-more {A = A} n (y ∷ xs) (suc i) x lt is =
    ap (λ k. enumerate_from n (take k (y ∷ xs))) (let e : suc i + 1 ≡ suc (i + 1) = omega arith in e)
    ∙ ap (λ rest. (n, y) ∷ rest) (enumerate-more (n + 1) xs i x (omega (arith, lt)) is)
    ∙ ap (λ k. (n, y) ∷ (enumerate_from (n + 1) (take i xs) ++ (k, x) ∷ [])) (let e : n + 1 + i ≡ n + suc i = omega arith in e)

module _ {A B C : Type 0} (f g : ℕ → C) (alike : (n : ℕ) → f n ≡ g n) where
  -- what is told by the number alone
  numbered : (n : ℕ) (xs : List A) (ys : List B) → length xs ≡ length ys
      → map (λ (at : ℕ × A). f at.0) (enumerate_from n xs) ≡ map (λ (at : ℕ × B). g at.0) (enumerate_from n ys)
  numbered n [] [] e = refl
  numbered n [] (y ∷ ys) e = absurd (omega (arith, e))
  numbered n (x ∷ xs) [] e = absurd (omega (arith, e))
  numbered n (x ∷ xs) (y ∷ ys) e =
      ap (λ c. c ∷ map (λ (at : ℕ × A). f at.0) (enumerate_from (n + 1) xs)) (alike n)
      ∙ ap (λ cs. g n ∷ cs) (numbered (n + 1) xs ys (omega (arith, e)))

numbered-from : {A C : Type 0} (f : ℕ → C) (n : ℕ) (xs : List A) (i : ℕ) → i < length xs
    → map (λ (at : ℕ × A). f at.0) (enumerate_from n (take (i + 1) xs)) ≡ map (λ (at : ℕ × A). f at.0) (enumerate_from n (take i xs)) ++ f (n + i) ∷ []
numbered-from f n [] i lt = absurd (omega (arith, lt))
numbered-from f n (x ∷ xs) zero lt = ap (λ k. f k ∷ []) (let e : n ≡ n + 0 = omega arith in e)
numbered-from {A = A} f n (x ∷ xs) (suc i) lt =
    ap (λ k. map (λ (at : ℕ × A). f at.0) (enumerate_from n (take k (x ∷ xs)))) (let e : suc i + 1 ≡ suc (i + 1) = omega arith in e)
    ∙ ap (λ rest. f n ∷ rest) (numbered-from f (n + 1) xs i (omega (arith, lt)))
    ∙ ap (λ k. f n ∷ (map (λ (at : ℕ × A). f at.0) (enumerate_from (n + 1) (take i xs)) ++ f k ∷ [])) (let e : n + 1 + i ≡ n + suc i = omega arith in e)

-- one more that is told by its number
pub numbered-more : {A C : Type 0} (f : ℕ → C) (xs : List A) (i : ℕ) → i < length xs
    → map (λ (at : ℕ × A). f at.0) (enumerate_from 0 (take (i + 1) xs)) ≡ map (λ (at : ℕ × A). f at.0) (enumerate_from 0 (take i xs)) ++ f i ∷ []
numbered-more {A = A} f xs i lt =
    numbered-from f 0 xs i lt
    ∙ ap (λ k. map (λ (at : ℕ × A). f at.0) (enumerate_from 0 (take i xs)) ++ f k ∷ []) (let e : 0 + i ≡ i = omega arith in e)

get-numbered : {A C : Type 0} (f : ℕ → C) (n : ℕ) (xs : List A) (i : ℕ) → i < length xs
    → slice_get (map (λ (at : ℕ × A). f at.0) (enumerate_from n xs)) i ≡ Some (f (n + i))
get-numbered f n [] i lt = absurd (omega (arith, lt))
get-numbered f n (x ∷ xs) zero lt = ap (λ k. Some (f k)) (let e : n ≡ n + 0 = omega arith in e)
get-numbered f n (x ∷ xs) (suc i) lt =
    get-numbered f (n + 1) xs i (omega (arith, lt)) ∙ ap (λ k. Some (f k)) (let e : n + 1 + i ≡ n + suc i = omega arith in e)

endless-numbered : (reach : ℕ → List Bool) (item n : ℕ) (procs : List DraftProc)
    → list_any (λ (at : ℕ × List Bool). said at.1 at.0 && said at.1 item) (enumerate_from n (map (λ (at : ℕ × DraftProc). reach at.0) (enumerate_from n procs)))
    ≡ list_any (λ (other : ℕ × ProcItem). said (reach other.0) other.0 && said (reach other.0) item) (enumerate_from n (map shape_of procs))
endless-numbered reach item n [] = refl
endless-numbered reach item n (p ∷ procs) =
    ap (λ b. (said (reach n) n && said (reach n) item) || b) (endless-numbered reach item (n + 1) procs)

-- nests up to the one that is too deep
abbrev cap : ℕ → ℕ
cap n = min n 1025

at-cap : (ns : List ℕ) (i : ℕ) → slice_index (map cap ns) i ≡ cap (slice_index ns i)
at-cap [] i = refl
at-cap (n ∷ ns) zero = refl
at-cap (n ∷ ns) (suc i) = at-cap ns i

greatest-cap-step : (n m g h : ℕ) → n ≡ min m 1025 → min g 1025 ≡ min h 1025 → min (max n g) 1025 ≡ min (max m h) 1025
greatest-cap-step n m g h e k = omega arith

greatest-cap : (ns : List ℕ) (calls : List ℕ)
    → cap (greatest (map (slice_index (map cap ns)) calls)) ≡ cap (greatest (map (slice_index ns) calls))
greatest-cap ns [] = refl
greatest-cap ns (call ∷ calls) =
    greatest-cap-step (slice_index (map cap ns) call) (slice_index ns call) (greatest (map (slice_index (map cap ns)) calls)) (greatest (map (slice_index ns) calls))
    (at-cap ns call) (greatest-cap ns calls)

sum-cap : (own o g h : ℕ) → o ≡ min own 1025 → min g 1025 ≡ min h 1025 → min (o + g) 1025 ≡ min (own + h) 1025
sum-cap own o g h e k = omega arith

deep-cap : (n : ℕ) → nat_lt 1024 (min n 1025) ≡ nat_lt 1024 n
deep-cap n = grind (arith, nat_tests)

module _ (procs : List DraftProc) where
  nests-to : (k : ℕ) → rounds_of (nest_round 1025 (nestings_in procs)) k (replicate (length procs) 0) ≡ map cap (nests_to k (shapes procs))
  nests-to zero =
      sym (map-two cap (λ (item : ProcItem). 0) (map shape_of procs) ∙ map-same 0 (map shape_of procs) ∙ ap (λ n. replicate n 0) (length-map procs shape_of))
  nests-to (suc k) =
      let ns = nests_to k (shapes procs) in
      let nest_in : ProcItem → ℕ = λ item. nest item.body + greatest (map (slice_index ns) (front_calls (shapes procs) item.body)) in
      ap (nest_round 1025 (nestings_in procs)) (nests-to k)
      ∙ map-two (nest_of_calls 1025 (map cap ns)) (nesting_in procs) procs
      ∙ map-alike (λ (item : DraftProc). nest_of_calls 1025 (map cap ns) (nesting_in procs item)) (λ (item : DraftProc). cap (nest_in (shape_of item)))
      (λ item.
      let calls = front_calls (shapes procs) (shape item.body) in
      sum-cap (nest (shape item.body)) (min (draft_nest item.body) 1025) (greatest (map (slice_index (map cap ns)) calls)) (greatest (map (slice_index ns) calls))
      (ap cap (sym (nest-same item.body))) (greatest-cap ns calls)) procs
      ∙ sym (map-two cap nest_in (map shape_of procs) ∙ map-two (λ (item : ProcItem). cap (nest_in item)) shape_of procs)

  module _ (items : List Nesting) (told : map nesting items ≡ nestings_in procs) where
    calls-are : calls_told items ≡ calls_in procs
    calls-are =
        sym (map-two (λ (p : ℕ × List ℕ). p.1) nesting items) ∙ ap (map (λ (p : ℕ × List ℕ). p.1)) told
        ∙ map-two (λ (p : ℕ × List ℕ). p.1) (nesting_in procs) procs

    as-many : length items ≡ length procs
    as-many =
        sym (length-map items nesting) ∙ ap length told
        ∙ length-map procs (nesting_in procs)

    reached-is : (goal : ℕ) → reached_by items goal ≡ reaching (shapes procs) goal
    reached-is goal =
        ap (λ n. rounds_of (reach_round (calls_told items) goal) n (replicate n false)) (sym (length-map items (λ (item : Nesting). item.calls)))
        ∙ ap (λ calls. rounds_of (reach_round calls goal) (length calls) (replicate (length calls) false)) calls-are
        ∙ sym (reaching-rounds procs goal)

    each-reached : reached_each items ≡ map (λ (at : ℕ × DraftProc). reaching (shapes procs) at.0) (enumerate_from 0 procs)
    each-reached = numbered (reached_by items) (reaching (shapes procs)) reached-is 0 items procs as-many

    itself-told : (i : ℕ) → i < length procs → reaches_itself (reached_each items) i ≡ is_unguarded (shapes procs) i
    itself-told i lt =
        ap (λ rs. reaches_itself rs i) each-reached
        ∙ ap (λ o. option_map_or (λ (marks : List Bool). said marks i) o false) (get-numbered (reaching (shapes procs)) 0 procs i lt)
        ∙ ap (λ k. said (reaching (shapes procs) k) i) (let e : 0 + i ≡ i = omega arith in e)

    endless-told : (i : ℕ) → is_endless (reached_each items) i ≡ has_no_nest (shapes procs) i
    endless-told i = ap (λ rs. is_endless rs i) each-reached ∙ endless-numbered (reaching (shapes procs)) i 0 procs

    abbrev nests_told : List ℕ
    nests_told = rounds_of (nest_round 1025 (map nesting items)) (length items) (replicate (length items) 0)

    nests-told : nests_told ≡ map cap (front_nests (shapes procs))
    unfolding front_nests
    nests-told =
        ap (λ own. rounds_of (nest_round 1025 own) (length items) (replicate (length items) 0)) told
        ∙ ap (λ n. rounds_of (nest_round 1025 (nestings_in procs)) n (replicate n 0)) as-many
        ∙ nests-to (length procs) ∙ ap (λ n. map cap (nests_to n (shapes procs))) (sym (length-map procs shape_of))

    deep-told : (i : ℕ) → (not (is_endless (reached_each items) i) && nat_lt 1024 (slice_index nests_told i)) ≡ is_deep (shapes procs) i
    deep-told i =
        ap (λ b. not b && nat_lt 1024 (slice_index nests_told i)) (endless-told i)
        ∙ ap (λ ns. not (has_no_nest (shapes procs) i) && nat_lt 1024 (slice_index ns i)) nests-told
        ∙ ap (λ n. not (has_no_nest (shapes procs) i) && nat_lt 1024 n) (at-cap (front_nests (shapes procs)) i)
        ∙ ap (λ b. not (has_no_nest (shapes procs) i) && b) (deep-cap (slice_index (front_nests (shapes procs)) i))

    -- one more procedure, whose refusals are added
    pub front-added : (reached : List (List Bool)) (nests : List ℕ) → reached ≡ reached_each items → nests ≡ nests_told
        → (i : ℕ) (item : DraftProc) → i < length procs → item ≡ get_or procs i item → (least : Option Refusal)
        → IsLeastOf least (flat_map (front_refusals (shapes procs)) (enumerate_from 0 (take i procs))
        ++ (refused_where (reaches_itself reached i) (32, item.at) ++ refused_where (not (is_endless reached i) && nat_lt 1024 (slice_index nests i)) (38, item.at)))
        → IsLeastOf least (flat_map (front_refusals (shapes procs)) (enumerate_from 0 (take (i + 1) procs)))
    front-added reached nests re ne i item lt is least h =
        let rows = front_refusals (shapes procs) in
        let before = enumerate_from 0 (take i procs) in
        let one : (refused_where (reaches_itself reached i) (32, item.at) ++ refused_where (not (is_endless reached i) && nat_lt 1024 (slice_index nests i)) (38, item.at)) ≡ rows (i, item) =
        ap (λ rs. refused_where (reaches_itself rs i) (32, item.at) ++ refused_where (not (is_endless rs i) && nat_lt 1024 (slice_index nests i)) (38, item.at)) re
        ∙ ap (λ ns. refused_where (reaches_itself (reached_each items) i) (32, item.at) ++ refused_where (not (is_endless (reached_each items) i) && nat_lt 1024 (slice_index ns i)) (38, item.at)) ne
        ∙ ap (λ b. refused_where b (32, item.at) ++ refused_where (not (is_endless (reached_each items) i) && nat_lt 1024 (slice_index nests_told i)) (38, item.at)) (itself-told i lt)
        ∙ ap (λ b. refused_where (is_unguarded (shapes procs) i) (32, item.at) ++ refused_where b (38, item.at)) (deep-told i) in
        let more : flat_map rows (enumerate_from 0 (take (i + 1) procs)) ≡ flat_map rows before ++ rows (i, item) =
        ap (flat_map rows) (enumerate-more 0 procs i item lt is ∙ ap (λ k. before ++ (k, item) ∷ []) (let e : 0 + i ≡ i = omega arith in e))
        ∙ flat_map-append rows before ((i, item) ∷ []) ∙ ap (λ rs. flat_map rows before ++ rs) (append-nil (rows (i, item))) in
        subst (λ (rs : List CodeAt). IsLeastOf least rs) (ap (λ rs. flat_map rows before ++ rs) one ∙ sym more) h

greater : (m g old n new : ℕ) → n ≡ m → new ≡ max n old → max (max m g) old ≡ max g new
greater m g old n new e k = omega arith

-- the greatest of those that are left and of those before
pub greatest-goes : (nests calls : List ℕ) (i old n new : ℕ) → i < length calls → n ≡ slice_index nests (get_or calls i 0) → new ≡ max n old
    → max (greatest (map (slice_index nests) (drop i calls))) old ≡ max (greatest (map (slice_index nests) (drop (i + 1) calls))) new
greatest-goes nests calls i old n new lt ne e =
    at_drop_more (λ (cs : List ℕ). max (greatest (map (slice_index nests) cs)) old) calls i 0 lt
    ∙ greater (slice_index nests (get_or calls i 0)) (greatest (map (slice_index nests) (drop (i + 1) calls))) old n new ne e
