-- Bytes that are cut at a mark: the part in front, and the parts behind it.
use Rattle.std.proofs.Common.{◌≡◌, ℕ, ◌+◌, ◌<◌, ◌≤◌, Bool, cond, ltb, ◌==◌, Some, None, List, [], ◌∷◌, length, take, drop, inl, inr, sym, ap, ◌∙◌, arith}
use Rattle.std.specs.Prelude.{position}
use Rattle.std.specs.List.{position_or_len}
use Rattle.std.proofs.lemmas.Bool.{cases_lt, lt-ltb, le-ltb}
use Rattle.std.proofs.lemmas.List.Sums.{fails_before_first}
use Rattle.std.proofs.lemmas.List.Splits.{slice_split_first, slice_split_none}
use Rattle.golog_semantics.specs.Text.{Text}
use Rattle.golog_reports.specs.Forms.{parts}

found : (n l place : ℕ) → Some place ≡ cond (ltb n l) (Some n) None → (place ≡ n) × (n < l)
found n l place e = elim (cases_lt n l) [
  | inl less ↦ let k : Some place ≡ Some n = rw (lt-ltb n l less) at e in let same : place ≡ n = cc in (same, less)
  | inr most ↦ let k : Some place ≡ None = rw (le-ltb n l most) at e in absurd (cc)
]

missing : (n l : ℕ) → None ≡ cond (ltb n l) (Some n) None → l ≤ n
missing n l e = elim (cases_lt n l) [
  | inl less ↦ let k : None ≡ Some n = rw (lt-ltb n l less) at e in absurd (cc)
  | inr most ↦ most
]

module _ (mark : ℕ) (bytes : Text) where
  abbrev is_mark : ℕ → Bool
  is_mark byte = byte == mark

  pub within : (place : ℕ) → Some place ≡ position is_mark bytes → place < length bytes
  within place e = let r = found (position_or_len is_mark bytes) (length bytes) place e in omega (arith, r.0, r.1)

  pub parts-some : (place : ℕ) → Some place ≡ position is_mark bytes → parts mark bytes ≡ take place bytes ∷ parts mark (drop (place + 1) bytes)
  parts-some place e =
      let r = found (position_or_len is_mark bytes) (length bytes) place e in
      slice_split_first is_mark bytes 0 r.1 ∙ ap (λ n. take n bytes ∷ parts mark (drop (n + 1) bytes)) (sym r.0)

  pub parts-none : None ≡ position is_mark bytes → parts mark bytes ≡ bytes ∷ []
  parts-none e =
      let most = missing (position_or_len is_mark bytes) (length bytes) e in
      slice_split_none is_mark bytes (λ i d less. fails_before_first is_mark bytes i d (omega (arith, most, less)))

-- the place of the first that passes is within
pub position-within : {A : Type 0} (test : A → Bool) (xs : List A) (place : ℕ) → Some place ≡ position test xs → place < length xs
position-within test xs place e = let r = found (position_or_len test xs) (length xs) place e in omega (arith, r.0, r.1)
