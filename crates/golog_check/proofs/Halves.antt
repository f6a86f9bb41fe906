-- Places that ascend, in two parts, and the rows of parts whose places ascend.
use Rattle.std.proofs.Common.{ℕ, ◌+◌, ◌≤◌, List, [], ◌∷◌, ◌++◌, map, arith}
use Rattle.golog_draft.specs.DraftOrder.{Ascend}
use Rattle.golog_draft.specs.DraftPlaces.{joined}
use Rattle.golog_rows.specs.Reading.{Reading, each}
use Rattle.golog_rows.proofs.Chain.{Spans, then-spans}
use Rattle.golog_check.specs.Scope.{Scope}

-- places that ascend, in two parts
pub record Halves (from : ℕ) (before after : List ℕ) (to : ℕ) : Type 0 where
  pub mid : ℕ
  pub one : Ascend from before mid
  pub other : Ascend mid after to

pub halves : (from : ℕ) (before after : List ℕ) (to : ℕ) → Ascend from (before ++ after) to → Halves from before after to
halves from [] after to c = record { mid = from; one = omega arith; other = c }
halves from (at ∷ before) after to c =
    let h = halves (at + 1) before after to c.1 in
    record { mid = h.mid; one = (c.0, h.one); other = h.other }

pub ascend-le : (from : ℕ) (places : List ℕ) (to : ℕ) → Ascend from places to → from ≤ to
ascend-le from [] to c = c
ascend-le from (at ∷ places) to c = omega (arith, c.0, ascend-le (at + 1) places to c.1)

-- parts that stand in order, each of which stands wherever its places do
module _ {D A : Type 0} (places : D → List ℕ) (read : D → Scope → Reading A) where
  abbrev pub StandsBy : D → Type 0
  StandsBy d = (scope : Scope) (from to : ℕ) → Ascend from (places d) to → Spans from to (read d scope)

  abbrev parts : List ((d : D) × StandsBy d) → List D
  parts ds = map (λ d. d.0) ds

  pub each-spans : (scope : Scope) (before : List A) (from : ℕ) (ds : List ((d : D) × StandsBy d)) (to : ℕ) → Ascend from (joined (map places (parts ds))) to
      → Spans from to (each (λ (_ : List A) (part : Scope → Reading A). part scope) before (map read (parts ds)))
  each-spans scope before from [] to c = omega (arith, c)
  each-spans scope before from (d ∷ ds) to c =
      let h = halves from (places d.0) (joined (map places (parts ds))) to c in
      then-spans from h.mid to (read d.0 scope) (λ x. each (λ (_ : List A) (part : Scope → Reading A). part scope) (before ++ x ∷ []) (map read (parts ds)))
      (ascend-le h.mid (joined (map places (parts ds))) to h.other) (d.1 scope from h.mid h.one)
      (λ x. each-spans scope (before ++ x ∷ []) h.mid ds to h.other)
