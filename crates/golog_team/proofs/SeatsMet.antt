-- What two seats at the lock of a link have, where one has taken the other's party in and given it back.
use Rattle.std.proofs.Common.{◌≡◌, ◌≢◌, ℕ, zero, suc, ◌+◌, ◌≤◌, ◌==◌, Bool, true, false, not, ◌||◌, if◌then◌else◌, List, [], ◌∷◌, ◌++◌, length, length-append, append-nil, refl, sym, ap, ◌∙◌, subst, arith, ◌⊎◌, inl, inr}
use Rattle.std.proofs.lemmas.Bool.{eq-eqb, ne_eqb, or_parts, or_from, or_right}
use Rattle.golog_turn.specs.Parties.{contains, without, own, GoesOn, KeepsLonger}
use Rattle.golog_turn.proofs.Parties.{contains-append}
use Rattle.golog_team.specs.Notes.{Notes, side_of}
use Rattle.golog_team.specs.Wires.{View, HasMet}
use Rattle.golog_team.proofs.Acted.{foreign}

-- ---- parties

pub its-own : (p : ℕ) → contains (p ∷ []) p ≡ true
its-own p = ap (λ b. b || false) (eq-eqb p p refl)

pub last-held : (ps : List ℕ) (p : ℕ) → contains (ps ++ p ∷ []) p ≡ true
last-held ps p = contains-append ps (p ∷ []) p ∙ or_right (contains ps p) (contains (p ∷ []) p) (its-own p)

pub without-own : (p : ℕ) → without p (p ∷ []) ≡ []
without-own p = ap (λ b. if not b then p ∷ [] else []) (eq-eqb p p refl)

pub without-last : (p : ℕ) (ps : List ℕ) → contains ps p ≡ false → without p (ps ++ p ∷ []) ≡ ps
without-last p [] none = without-own p
without-last p (x ∷ ps) none =
    let parts = or_parts (x == p) (contains ps p) none in
    ap (λ b. if not b then x ∷ without p (ps ++ p ∷ []) else without p (ps ++ p ∷ [])) parts.0
    ∙ ap (λ l. x ∷ l) (without-last p ps parts.1)

pub not-held : (p q : ℕ) → p ≢ q → contains (p ∷ []) q ≡ false
not-held p q other = or_from (p == q) false (ne_eqb p q other) refl

-- ---- what was seen

module _ (one other all : Notes) (ps qs : List ℕ) where
  -- the one that is kept goes on from the other
  pub from-other : KeepsLonger side_of one ps other qs all → (since : Notes) × (all ≡ other ++ since)
  from-other (inl k) = ([], k.0 ∙ sym (append-nil other))
  from-other (inr k) = (k.1.0, k.0 ∙ k.1.1)

  pub which : KeepsLonger side_of one ps other qs all → (all ≡ one) ⊎ (all ≡ other)
  which (inl k) = inr k.0
  which (inr k) = inl k.0

nothing-more : (since : Notes) → length since ≡ 0 → since ≡ []
nothing-more [] none = refl
nothing-more (n ∷ since) none = absurd (omega (arith, none))

-- the seat that gets its party back has then seen all
pub seen-all : (other all last : Notes) (ps qs : List ℕ) (since : Notes) → all ≡ other ++ since → KeepsLonger side_of other ps all qs last → last ≡ all
seen-all other all last ps qs since grows (inl k) = k.0
seen-all other all last ps qs since grows (inr k) =
    let a = ap (λ (l : Notes). length l) k.1.1 in
    let b = length-append all k.1.0 in
    let c = ap (λ (l : Notes). length l) grows in
    let d = length-append other since in
    k.0 ∙ sym (grows ∙ ap (λ l. other ++ l) (nothing-more since (omega (arith, a, b, c, d))) ∙ append-nil other)

-- ---- by its sides

module _ (side : ℕ) (one other all : Notes) (ps : List ℕ) where
  abbrev seen_by : Notes → View
  seen_by notes = record { side = side; seen = notes }

  pub one-met : KeepsLonger side_of one (side ∷ []) other ps all → HasMet (seen_by one) (seen_by all)
  one-met (inl k) = record { same_side = refl; others = k.1.0; foreign = foreign side k.1.0 k.1.2; grows = k.0 ∙ k.1.1 }
  one-met (inr k) = record { same_side = refl; others = []; foreign = refl; grows = k.0 ∙ sym (append-nil one) }

  pub other-met : KeepsLonger side_of one ps other (side ∷ []) all → HasMet (seen_by other) (seen_by all)
  other-met (inl k) = record { same_side = refl; others = []; foreign = refl; grows = k.0 ∙ sym (append-nil other) }
  other-met (inr k) = record { same_side = refl; others = k.1.0; foreign = foreign side k.1.0 k.1.2; grows = k.0 ∙ k.1.1 }
