-- The least of refusals.
use Rattle.std.proofs.Common.{◌≡◌, ℕ, ⊎_elim, inr, List, [], ◌∷◌, ◌++◌, refl, subst, arith, zero, suc}
use Rattle.std.proofs.lemmas.List.Elements.{Contains-append_left, Contains-append_right, Contains-append_cases, Contains-get_or}
use Rattle.golog_rows.specs.Order.{IsNoLater, IsLeast}
use Rattle.golog_rows.specs.Least.{CodeAt, IsAmong}

pub no-later-same : (code at : ℕ) → IsNoLater code at code at
no-later-same code at = inr (refl, omega arith)

pub no-later-on : (c a d b e f : ℕ) → IsNoLater c a d b → IsNoLater d b e f → IsNoLater c a e f
no-later-on c a d b e f h k = grind arith

pub alone-is : (c a d b : ℕ) → IsAmong ((d, b) ∷ []) c a → ◌≡◌ {A = CodeAt} (d, b) (c, a)
alone-is c a d b (zero, lt, is) = is
alone-is c a d b (suc k, lt, is) = absurd (omega (arith, lt))

pub alone : (c a : ℕ) → IsLeast (IsAmong ((c, a) ∷ [])) c a
alone c a = record {
  fits = Contains-get_or ((c, a) ∷ []) 0 (c, a) (omega arith);
  least = λ d b h. subst (λ (r : CodeAt). IsNoLater c a r.0 r.1) (alone-is d b c a h) (no-later-same c a);
}

-- the least of two lists
module _ (c a d b : ℕ) (before after : List CodeAt) where
  pub first-stays : IsLeast (IsAmong before) c a → IsLeast (IsAmong after) d b → IsNoLater c a d b → IsLeast (IsAmong (before ++ after)) c a
  first-stays l k h = record {
    fits = Contains-append_left before after (c, a) l.fits;
    least = λ e f m. ⊎_elim (λ n. l.least e f n) (λ n. no-later-on c a d b e f h (k.least e f n)) (Contains-append_cases before after (e, f) m);
  }

  pub second-comes : IsLeast (IsAmong before) c a → IsLeast (IsAmong after) d b → IsNoLater d b c a → IsLeast (IsAmong (before ++ after)) d b
  second-comes l k h = record {
    fits = Contains-append_right before after (d, b) k.fits;
    least = λ e f m. ⊎_elim (λ n. no-later-on d b c a e f h (l.least e f n)) (λ n. k.least e f n) (Contains-append_cases before after (e, f) m);
  }
