-- What is said of a text that was handed on, or of the answer of a call.
use Rattle.std.proofs.Common.{subst}
use Rattle.std.specs.Prelude.{◌≡◌, IfOk, Result, Ok, Err}

-- what was handed on is what there was
pub handed : {A E D : Type 0} (was : Result A E) (now : Result A D) (P : A → Type 0) → IfOk now (λ a. was ≡ Ok a) → IfOk was P → IfOk now P
handed was (Ok a) P e h = subst (λ r. IfOk r P) e h
handed was (Err d) P e h = tt

pub if-ok-more : {A E : Type 0} (P Q : A → Type 0) (r : Result A E) → ((a : A) → P a → Q a) → IfOk r P → IfOk r Q
if-ok-more P Q (Ok a) k h = k a h
if-ok-more P Q (Err e) k h = tt
