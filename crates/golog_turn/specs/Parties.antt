-- Histories and parties. A history is a list of entries, and each entry is of one party, which is a number.
use Rattle.std.specs.Prelude.{◌≡◌, ℕ, zero, suc, ◌==◌, ◌||◌, ◌⊎◌, Bool, true, false, not, List, [], ◌∷◌, ◌++◌, filter}

-- whether the party is one of these
abbrev pub contains : List ℕ → ℕ → Bool
contains [] p = false
contains (q ∷ qs) p = (q == p) || contains qs p

-- the parties from 0 up to and without n, the greatest first
abbrev pub parties_below : ℕ → List ℕ
parties_below zero = []
parties_below (suc n) = n ∷ parties_below n

-- these parties without that one
abbrev pub without : ℕ → List ℕ → List ℕ
without p parties = filter (λ q. not (q == p)) parties

-- the entries that are of these parties, in their order
abbrev pub own : {E : Type 0} → (E → ℕ) → List ℕ → List E → List E
own party parties entries = filter (λ e. contains parties (party e)) entries

-- each of the entries is of one of these parties
abbrev pub AreOf : {E : Type 0} → (E → ℕ) → List ℕ → List E → Type 0
AreOf party parties [] = Unit {0}
AreOf party parties (e ∷ es) = (contains parties (party e) ≡ true) × AreOf party parties es

-- what was seen is a prefix of the history, and no entry after it is of these parties
abbrev pub GoesOn : {E : Type 0} → (E → ℕ) → List E → List E → List ℕ → Type 0
GoesOn {E} party history seen parties =
    (since : List E) × (history ≡ seen ++ since) × (own party parties since ≡ [])

-- Of two histories that were seen, each by a seat with these parties, the longer is kept: the shorter is a
-- prefix of it, and no entry after that prefix is of the parties of the seat that saw the shorter.
abbrev pub KeepsLonger : {E : Type 0} → (E → ℕ) → List E → List ℕ → List E → List ℕ → List E → Type 0
KeepsLonger party one one_parties other other_parties kept =
    ((kept ≡ other) × GoesOn party other one one_parties)
    ⊎ ((kept ≡ one) × GoesOn party one other other_parties)
