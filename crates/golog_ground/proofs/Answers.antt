-- Answers that are the one that fits.
use Rattle.std.proofs.Common.{◌≡◌, Some, None, ap, subst}
use Rattle.golog_ground.specs.Texts.{IsTheOne}

pub none-fits : {A : Type 0} (Fits : A → Type 0) → ((one : A) → Fits one → ⊥) → IsTheOne None Fits
none-fits Fits h one = (λ e. absurd (cc), λ fits. absurd (h one fits))

pub only-fits : {A : Type 0} (Fits : A → Type 0) (x : A) → Fits x → ((one : A) → Fits one → x ≡ one) → IsTheOne (Some x) Fits
only-fits Fits x h same one = (λ e. let k : x ≡ one = cc in subst Fits k h, λ fits. ap Some (same one fits))

pub some-same : {A : Type 0} (x y : A) → Some x ≡ Some y → x ≡ y
some-same x y e = cc
