-- Rounds that change nothing more.
use Rattle.std.proofs.Common.{◌≡◌, ℕ, zero, suc, ◌+◌, ◌-◌, ◌≤◌, Bool, true, List, sym, ap, ◌∙◌, arith, add-one}
use Rattle.std.specs.Prelude.{nat_eq}
use Rattle.std.specs.Cmp.{booleans_Decides}
use Rattle.std.proofs.Math.Bool.{beq}
use Rattle.std.specs.Cmp.Lexicographic.{pointwise}
use Rattle.std.proofs.lemmas.Bool.Decides.{Decides-eqb}
use Rattle.std.proofs.lemmas.Slice.Eq.{slice_eq-Decides}
use Rattle.golog_shapes.specs.Settled.{rounds_of}

stays-more : {A : Type 0} (round : A → A) (k more : ℕ) (first : A) → round (rounds_of round k first) ≡ rounds_of round k first
    → rounds_of round (more + k) first ≡ rounds_of round k first
stays-more round k zero first e = ap (λ n. rounds_of round n first) (let z : 0 + k ≡ k = omega arith in z)
stays-more round k (suc more) first e =
    let z : suc more + k ≡ suc (more + k) = omega arith in
    ap (λ n. rounds_of round n first) z ∙ ap round (stays-more round k more first e) ∙ e

-- a round that changes nothing is the last
pub stays : {A : Type 0} (round : A → A) (k n : ℕ) (first said next : A) → k ≤ n → said ≡ rounds_of round k first → next ≡ round said → next ≡ said
    → said ≡ rounds_of round n first
stays round k n first said next le is goes same =
    let still : round (rounds_of round k first) ≡ rounds_of round k first = sym (ap round is) ∙ sym goes ∙ same ∙ is in
    is ∙ sym (stays-more round k (n - k) first still) ∙ ap (λ m. rounds_of round m first) (let e : n - k + k ≡ n = omega arith in e)

-- and one round more
pub goes-on : {A : Type 0} (round : A → A) (k : ℕ) (first said next : A) → said ≡ rounds_of round k first → next ≡ round said → next ≡ rounds_of round (k + 1) first
goes-on round k first said next is goes = goes ∙ ap round is ∙ ap (λ m. rounds_of round m first) (sym (add-one k))

-- two lists that compare as the same
pub same-bools : (xs ys : List Bool) (r : Bool) → r ≡ pointwise beq xs ys → r ≡ true → xs ≡ ys
same-bools xs ys r e h = (slice_eq-Decides booleans_Decides xs ys r e).0 h

pub same-numbers : (xs ys : List ℕ) (r : Bool) → r ≡ pointwise nat_eq xs ys → r ≡ true → xs ≡ ys
same-numbers xs ys r e h = (slice_eq-Decides Decides-eqb xs ys r e).0 h
