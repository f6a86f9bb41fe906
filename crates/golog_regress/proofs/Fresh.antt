-- Numbers of variables that no image is.
use Rattle.std.proofs.Common.{◌≡◌, ℕ, zero, suc, ◌+◌, ◌-◌, ◌<◌, ◌≤◌, ◌⊎◌, inl, inr, Bool, true, false, ◌||◌, if◌then◌else◌, [], ◌∷◌, length, refl, sym, ap, ◌∙◌, subst, arith}
use Rattle.std.specs.List.{list_any, range_with_len}
use Rattle.std.proofs.lemmas.Bool.{cases_lt, eqb-true}
use Rattle.golog_tree.specs.declared.cond.Arg.{Arg}
use Rattle.golog_tree.specs.declared.cond.Arg.TheVariants.{Const, Var}
use Rattle.golog_regress.specs.Images.{Images, first_free, fresh, is_var}

pub fresh-is : (images : Images) → fresh images ≡ first_free images (range_with_len 0 32)
unfolding fresh
fresh-is images = refl

-- one number less to look at
next-number : (images : Images) (n : ℕ) → n < 32 → first_free images (range_with_len n (32 - n)) ≡ (if list_any (is_var n) images then first_free images (range_with_len (n + 1) (32 - (n + 1))) else n)
next-number images n h = let e : 32 - n ≡ suc (32 - (n + 1)) = omega arith in ap (λ k. first_free images (range_with_len n k)) e

pub used-number : (images : Images) (n : ℕ) → n < 32 → list_any (is_var n) images ≡ true → first_free images (range_with_len n (32 - n)) ≡ first_free images (range_with_len (n + 1) (32 - (n + 1)))
used-number images n h e = next-number images n h ∙ ap (λ b. if b then first_free images (range_with_len (n + 1) (32 - (n + 1))) else n) e

pub unused-number : (images : Images) (n : ℕ) → n < 32 → list_any (is_var n) images ≡ false → first_free images (range_with_len n (32 - n)) ≡ n
unused-number images n h e = next-number images n h ∙ ap (λ b. if b then first_free images (range_with_len (n + 1) (32 - (n + 1))) else n) e

pub all-used : (images : Images) (n : ℕ) → 32 ≤ n → first_free images (range_with_len n (32 - n)) ≡ 32
all-used images n h = let e : 32 - n ≡ 0 = omega arith in ap (λ k. first_free images (range_with_len n k)) e

-- the images that are not the variable
abbrev without : ℕ → Images → Images
without n [] = []
without n (arg ∷ args) = if is_var n arg then without n args else arg ∷ without n args

without-le : (n : ℕ) (args : Images) → length (without n args) ≤ length args
without-le n [] = omega arith
without-le n (arg ∷ args) = go (is_var n arg) (without-le n args)
  where
    go : (b : Bool) → length (without n args) ≤ length args → length (if b then without n args else arg ∷ without n args) ≤ suc (length args)
    go true h = omega arith
    go false h = omega arith

without-less : (n : ℕ) (args : Images) → list_any (is_var n) args ≡ true → length (without n args) < length args
without-less n [] e = absurd (cc)
without-less n (arg ∷ args) e = go (is_var n arg) e (without-le n args) (without-less n args)
  where
    go : (b : Bool) → (b || list_any (is_var n) args) ≡ true → length (without n args) ≤ length args → (list_any (is_var n) args ≡ true → length (without n args) < length args)
        → length (if b then without n args else arg ∷ without n args) < suc (length args)
    go true k h less = omega arith
    go false k h less = let l = less k in omega arith

apart : (n y : ℕ) (arg : Arg) → y < n → is_var n arg ≡ true → is_var y arg ≡ true → ⊥
apart n y (Const c) l f g = cc
apart n y (Var x) l f g = let p : x ≡ n = eqb-true x n f in let q : x ≡ y = eqb-true x y g in omega arith

without-keeps : (n y : ℕ) → y < n → (args : Images) → list_any (is_var y) args ≡ true → list_any (is_var y) (without n args) ≡ true
without-keeps n y l [] e = e
without-keeps n y l (arg ∷ args) e = go (is_var n arg) refl (is_var y arg) refl (without-keeps n y l args)
  where
    go : (b : Bool) → is_var n arg ≡ b → (d : Bool) → is_var y arg ≡ d → (list_any (is_var y) args ≡ true → list_any (is_var y) (without n args) ≡ true) → list_any (is_var y) (if b then without n args else arg ∷ without n args) ≡ true
    go true f true g k = absurd (apart n y arg l f g)
    go true f false g k = k (sym (ap (λ d. d || list_any (is_var y) args) g) ∙ e)
    go false f true g k = ap (λ d. d || list_any (is_var y) (without n args)) g
    go false f false g k = ap (λ d. d || list_any (is_var y) (without n args)) g ∙ k (sym (ap (λ d. d || list_any (is_var y) args) g) ∙ e)

-- as many numbers want as many images
as-many : (n : ℕ) (args : Images) → ((y : ℕ) → y < n → list_any (is_var y) args ≡ true) → n ≤ length args
as-many zero args h = omega arith
as-many (suc n) args h =
    let rest : n ≤ length (without n args) = as-many n (without n args) (λ y l. without-keeps n y l args (h y (omega arith))) in
    let less : length (without n args) < length args = without-less n args (h n (omega arith)) in
    omega arith

-- the number is below 32, and no image is the variable of it
pub record IsFresh (images : Images) (y : ℕ) : Type 0 where
  pub below : y < 32
  pub free : list_any (is_var y) images ≡ false

free-or-used : (images : Images) (k n : ℕ) → n + k ≡ 32 → ((y : ℕ) → y < n → list_any (is_var y) images ≡ true)
    → IsFresh images (first_free images (range_with_len n k)) ⊎ ((y : ℕ) → y < 32 → list_any (is_var y) images ≡ true)
free-or-used images zero n e h = inr (λ y l. h y (omega arith))
free-or-used images (suc k) n e h = go (list_any (is_var n) images) refl (free-or-used images k (n + 1) (omega arith))
  where
    go : (b : Bool) → list_any (is_var n) images ≡ b
        → (((y : ℕ) → y < n + 1 → list_any (is_var y) images ≡ true) → IsFresh images (first_free images (range_with_len (n + 1) k)) ⊎ ((y : ℕ) → y < 32 → list_any (is_var y) images ≡ true))
        → IsFresh images (if b then first_free images (range_with_len (n + 1) k) else n) ⊎ ((y : ℕ) → y < 32 → list_any (is_var y) images ≡ true)
    go false f rest = inl (record { below = omega arith; free = f })
    go true f rest = rest (λ y l. elim (cases_lt y n) [ inl less ↦ h y less | inr more ↦ (let same : n ≡ y = omega arith in subst (λ z. list_any (is_var z) images ≡ true) same f) ])

pub fresh-free : (images : Images) → length images < 32 → IsFresh images (fresh images)
fresh-free images few = elim (free-or-used images 32 0 refl (λ y l. absurd (omega arith))) [
  | inl f ↦ subst (IsFresh images) (sym (fresh-is images)) f
  | inr used ↦ absurd (let many : 32 ≤ length images = as-many 32 images used in omega arith)
]
