-- The place of arguments among all of their sizes, and the arguments at a place, give each other back.
use Rattle.std.proofs.Common.{◌≡◌, ℕ, zero, suc, ◌+◌, ◌*◌, ◌/◌, ◌%◌, ◌<◌, ◌≤◌, List, [], ◌∷◌, length, refl, sym, ap, ◌∙◌, subst, arith}
use Rattle.std.proofs.Math.Nat.{mul-add-div_right, mul-add-mod_self_right, mod-lt, mod-eq_of_lt, mul_assoc, mul_comm, mul-zero, zero-mul, div-lt_iff_lt-mul}
use Rattle.std.proofs.lemmas.Nat.{div-mul-add, div-add-mod', mul-add-lt}
use Rattle.golog_tree.specs.Ground.{product, place_of, args_of, AreWithin}

pos_first : (a b : ℕ) → 0 < a * b → 0 < a
pos_first zero b h = let e = zero-mul b in omega (arith, e, h)
pos_first (suc a) b h = omega arith

pos_second : (a b : ℕ) → 0 < a * b → 0 < b
pos_second a zero h = let e = mul-zero a in omega (arith, e, h)
pos_second a (suc b) h = omega arith

-- the place of arguments is one of the places
pub place-below : (ns args : List ℕ) → AreWithin ns args → place_of ns args < product ns
place-below [] [] h = omega arith
place-below [] (a ∷ args) h = absurd h
place-below (n ∷ ns) [] h = absurd h
place-below (n ∷ ns) (a ∷ args) h =
    let w = product ns in
    let P : ℕ → Type 0 = λ top. a * w + place_of ns args < top in
    subst P (mul_comm w n) (mul-add-lt a w (place_of ns args) n h.0 (place-below ns args h.1))

-- going round all places changes no arguments
periodic : (ns : List ℕ) (q p : ℕ) → 0 < product ns → args_of ns (q * product ns + p) ≡ args_of ns p
periodic [] q p h = refl
periodic (n ∷ ns) q p h =
    let w = product ns in
    let k : 0 < w = pos_second n w h in
    let e : q * (n * w) + p ≡ (q * n) * w + p = ap (λ x. x + p) (sym (mul_assoc q n w)) in
    let d : ((q * n) * w + p) / w ≡ q * n + p / w = mul-add-div_right k (q * n) p in
    let m : (q * n + p / w) % n ≡ (p / w) % n = mul-add-mod_self_right q n (p / w) in
    let t : args_of ns ((q * n) * w + p) ≡ args_of ns p = periodic ns (q * n) p k in
    rw (e, d, m, t) refl

-- the arguments at the place of arguments are these
pub args_of-place_of : (ns args : List ℕ) → AreWithin ns args → args_of ns (place_of ns args) ≡ args
args_of-place_of [] [] h = refl
args_of-place_of [] (a ∷ args) h = absurd h
args_of-place_of (n ∷ ns) [] h = absurd h
args_of-place_of (n ∷ ns) (a ∷ args) h =
    let w = product ns in
    let p = place_of ns args in
    let k : p < w = place-below ns args h.1 in
    let d : (a * w + p) / w ≡ a = div-mul-add a w p k in
    let m : a % n ≡ a = mod-eq_of_lt h.0 in
    let t : args_of ns (a * w + p) ≡ args_of ns p = periodic ns a p (omega arith) in
    rw (d, m, t, args_of-place_of ns args h.1) refl

-- the arguments at a place are within their sizes
pub args_of-within : (ns : List ℕ) (place : ℕ) → 0 < product ns → AreWithin ns (args_of ns place)
args_of-within [] place h = tt
args_of-within (n ∷ ns) place h =
    (mod-lt (place / product ns) (pos_first n (product ns) h), args_of-within ns place (pos_second n (product ns) h))

-- the place of the arguments at a place is this
pub place_of-args_of : (ns : List ℕ) (place : ℕ) → place < product ns → place_of ns (args_of ns place) ≡ place
place_of-args_of [] place h = omega arith
place_of-args_of (n ∷ ns) place h =
    let w = product ns in
    let k : 0 < w = pos_second n w (omega arith) in
    let e : place / w * w + place % w ≡ place = div-add-mod' place w in
    let l : place % w < w = mod-lt place k in
    let t : args_of ns place ≡ args_of ns (place % w) =
    ap (args_of ns) (sym e) ∙ periodic ns (place / w) (place % w) k in
    let b : place_of ns (args_of ns place) ≡ place % w = ap (place_of ns) t ∙ place_of-args_of ns (place % w) l in
    let m : (place / w) % n ≡ place / w = mod-eq_of_lt ((div-lt_iff_lt-mul {x = place} {y = n} k).1 h) in
    rw (m, b) e

pub length-args_of : (ns : List ℕ) (place : ℕ) → length (args_of ns place) ≡ length ns
length-args_of [] place = refl
length-args_of (n ∷ ns) place = ap (λ k. suc k) (length-args_of ns place)
