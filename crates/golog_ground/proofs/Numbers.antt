-- Numbers that are read are those whose texts the bytes are.
use Rattle.std.proofs.Common.{◌≡◌, ℕ, ◌<◌, ◌^◌, Some, None, Result, Ok, Err, refl, sym, ap, ◌∙◌, subst, arith, ℤ, to_z, of_z, to_z-of_z}
use Rattle.std.specs.Prelude.{FitsSigned}
use Rattle.std.specs.Int.{w32}
use Rattle.std.specs.Int.Signed.{mag}
use Rattle.std.specs.Str.{IsUtf8}
use Rattle.std.specs.Str.Parse.{ParsesSigned}
use Rattle.std.specs.Fmt.{signed_decimal}
use Rattle.std.proofs.lemmas.Fmt.{IsAscii-signed, signed_decimal_injective, parse-signed_decimal}
use Rattle.std.proofs.lemmas.Str.{IsUtf8-from_ascii}
use Rattle.golog_semantics.specs.Text.{Text}
use Rattle.golog_ground.specs.Texts.{IsTheOne, WritesNumber}
use Rattle.golog_ground.proofs.Answers.{none-fits, only-fits}

ok-same : (x z : ℤ) (one other : Result ℤ ℕ) → one ≡ Ok x → other ≡ Ok z → one ≡ other → x ≡ z
ok-same x z one other h k e = cc

pub small : (z : ℤ) → FitsSigned w32 z → mag z < 2 ^ 63
small z h = omega (arith, h.sfits)

pub not-text : (bytes : Text) → (IsUtf8 bytes → ⊥) → IsTheOne None (WritesNumber bytes)
not-text bytes h = none-fits (WritesNumber bytes) (λ z w.
    h (subst IsUtf8 w.1 (IsUtf8-from_ascii (signed_decimal z) (IsAscii-signed z (small z w.0)))))

-- the number that the bytes write is the one that is parsed
parsed : (bytes : Text) (r : Result ℤ ℕ) → ParsesSigned w32 10 bytes r → (z : ℤ) → WritesNumber bytes z → r ≡ Ok z
parsed bytes r h z w = parse-signed_decimal w32 z bytes r w.0 (small z w.0) (sym w.1) h

pub not-parsed : (bytes : Text) → ParsesSigned {E = ℕ} w32 10 bytes (Err 0) → IsTheOne None (WritesNumber bytes)
not-parsed bytes h = none-fits (WritesNumber bytes) (λ z w. let k : Err 0 ≡ Ok z = parsed bytes (Err 0) h z w in absurd (cc))

module _ (text bytes : Text) (x : ℤ) (same : text ≡ bytes) (read : ParsesSigned {E = ℕ} w32 10 text (Ok x)) where
  abbrev y : ℤ
  y = to_z w32 (of_z w32 x)

  fits : FitsSigned w32 x
  fits = subst (FitsSigned w32) (sym read.1) read.0.1

  is : y ≡ x
  is = to_z-of_z fits

  pub read-back : signed_decimal y ≡ bytes → IsTheOne (Some y) (WritesNumber bytes)
  read-back k =
      let here : FitsSigned w32 y = subst (FitsSigned w32) (sym is) fits in
      only-fits (WritesNumber bytes) y (here, k) (λ z w.
      signed_decimal_injective y z (small y here) (small z w.0) (k ∙ sym w.1))

  pub not-read-back : (signed_decimal y ≡ bytes → ⊥) → IsTheOne None (WritesNumber bytes)
  not-read-back k = none-fits (WritesNumber bytes) (λ z w.
      let p : Ok x ≡ Ok z = parsed bytes (Ok x) (subst (λ t. ParsesSigned {E = ℕ} w32 10 t (Ok x)) same read) z w in
      let q : x ≡ z = ok-same x z (Ok x) (Ok z) refl refl p in
      k (ap signed_decimal (is ∙ q) ∙ w.1))

pub fits-read : (bytes : Text) (z : ℤ) → IsTheOne (Some z) (WritesNumber bytes) → FitsSigned w32 z
fits-read bytes z h = let w : WritesNumber bytes z = (h z).0 refl in w.0
