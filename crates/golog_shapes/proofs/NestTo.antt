-- The nest of parts up to a limit, one part further.
use Rattle.std.proofs.Common.{◌≡◌, ℕ, ◌+◌, ◌<◌, ◌≤◌, List, [], ◌∷◌, length, get_or, map, drop, refl, ap, ◌∙◌, arith, length-drop}
use Rattle.std.specs.Prelude.{min, max}
use Rattle.golog_tree.specs.declared.draft_prog.DraftProg.{DraftProg}
use Rattle.golog_shapes.specs.DraftNest.{parts_nest, draft_nest}
use Rattle.golog_rows.proofs.Each.{drop-item}

-- the nest of parts that stand so deep, up to the limit, or 0 where there are none
abbrev pub below : ℕ → ℕ → List ℕ → ℕ
below limit above [] = 0
below limit above (n ∷ ns) = min (above + parts_nest (n ∷ ns)) limit

next-below : (limit above deepest n k a d : ℕ) → a ≡ min limit (above + 1) → d ≡ max (min limit (a + min n limit)) deepest
    → max deepest (min (above + (1 + max n k)) limit) ≡ max d (min (a + k) limit)
next-below limit above deepest n k a d ha hd = omega arith

last-below : (limit above deepest n d : ℕ) → d ≡ max (min limit (above + min n limit)) deepest
    → max deepest (min (above + n) limit) ≡ max d 0
last-below limit above deepest n d hd = omega arith

next-list : (limit above deepest n a d : ℕ) (rest : List ℕ) → 0 < length rest → a ≡ min limit (above + 1)
    → d ≡ max (min limit (a + min n limit)) deepest → max deepest (below limit above (n ∷ rest)) ≡ max d (below limit a rest)
next-list limit above deepest n a d [] lt ha hd = absurd (omega arith)
next-list limit above deepest n a d (m ∷ rest) lt ha hd = next-below limit above deepest n (parts_nest (m ∷ rest)) a d ha hd

last-list : (limit above deepest n d : ℕ) (rest : List ℕ) → length rest ≤ 0
    → d ≡ max (min limit (above + min n limit)) deepest → max deepest (below limit above (n ∷ rest)) ≡ max d (below limit above rest)
last-list limit above deepest n d [] le hd = last-below limit above deepest n d hd
last-list limit above deepest n d (m ∷ rest) le hd = absurd (omega (arith, le))

nests-long : (ds : List DraftProg) → length (map draft_nest ds) ≡ length ds
nests-long [] = refl
nests-long (d ∷ ds) = omega (arith, nests-long ds)

first-number : (n limit : ℕ) → min n limit ≡ max 0 (min (0 + n) limit)
first-number n limit = omega arith

first-in : (ns : List DraftProg) (limit : ℕ) → 0 < length ns → min (parts_nest (map draft_nest ns)) limit ≡ max 0 (below limit 0 (map draft_nest ns))
first-in [] limit lt = absurd (omega (arith, lt))
first-in (n ∷ ns) limit lt = first-number (parts_nest (draft_nest n ∷ map draft_nest ns)) limit

module _ (parts : List DraftProg) (limit : ℕ) where
  abbrev pub nests_from : ℕ → List ℕ
  nests_from i = map draft_nest (drop i parts)

  pub first-below : 0 < length parts → min (parts_nest (map draft_nest parts)) limit ≡ max 0 (below limit 0 (map draft_nest parts))
  first-below = first-in parts limit

  module _ (i : ℕ) (part : DraftProg) (lt : i < length parts) (is : part ≡ get_or parts i part) where
    shown : nests_from i ≡ draft_nest part ∷ nests_from (i + 1)
    shown = ap (map draft_nest) (drop-item parts i part lt is)

    left : length (nests_from (i + 1)) ≡ length (drop (i + 1) parts)
    left = nests-long (drop (i + 1) parts)

    pub goes-deeper : i + 1 < length parts → (above deepest a d : ℕ) → a ≡ min limit (above + 1) → d ≡ max (min limit (a + min (draft_nest part) limit)) deepest
        → max deepest (below limit above (nests_from i)) ≡ max d (below limit a (nests_from (i + 1)))
    goes-deeper more above deepest a d ha hd =
        ap (λ ns. max deepest (below limit above ns)) shown
        ∙ next-list limit above deepest (draft_nest part) a d (nests_from (i + 1)) (omega (arith, left, length-drop (i + 1) parts)) ha hd

    pub goes-last : length parts ≤ i + 1 → (above deepest d : ℕ) → d ≡ max (min limit (above + min (draft_nest part) limit)) deepest
        → max deepest (below limit above (nests_from i)) ≡ max d (below limit above (nests_from (i + 1)))
    goes-last last above deepest d hd =
        ap (λ ns. max deepest (below limit above ns)) shown
        ∙ last-list limit above deepest (draft_nest part) d (nests_from (i + 1)) (omega (arith, left, length-drop (i + 1) parts)) hd
