-- Told bytes that grow at their end, and told bytes that are taken from their front.
use Rattle.std.proofs.Common.{◌≡◌, ◌⊎◌, inl, inr, Err, IsErrOf, ℕ, ◌+◌, ◌-◌, ◌≤◌, length, arith, sym, ◌∙◌, List, ◌++◌, Option, None, Some, take, drop, refl, ap, append_assoc}
use Rattle.std.proofs.Math.Seq.{take-add}
use Rattle.std.proofs.lemmas.List.{length-append}
use Rattle.golog_base.specs.declared.files.ReadFault.{ReadFault}
use Rattle.golog_base.specs.declared.files.ReadFault.TheVariants.{Failed, TooLong, Memory}
use Rattle.golog_base.specs.Known.{and_then_bytes, bytes_and_then, TakesAtMost}

pub and_then-append : (told : Option (List ℕ)) (xs ys : List ℕ)
    → and_then_bytes (and_then_bytes told xs) ys ≡ and_then_bytes told (xs ++ ys)
and_then-append None xs ys = refl
and_then-append (Some told) xs ys = ap Some (append_assoc told xs ys)

-- what was written so far, and then a piece of what is left
pub and_then-next : (old now new : Option (List ℕ)) (n m : ℕ) (bytes : List ℕ)
    → now ≡ and_then_bytes old (take n bytes)
    → new ≡ and_then_bytes now (take m (drop n bytes))
    → new ≡ and_then_bytes old (take (n + m) bytes)
and_then-next old now new n m bytes written piece =
    rw (piece, written, and_then-append old (take n bytes) (take m (drop n bytes)), take-add n m bytes) refl

and_then-front : (xs ys : List ℕ) (told : Option (List ℕ)) → bytes_and_then xs (bytes_and_then ys told) ≡ bytes_and_then (xs ++ ys) told
and_then-front xs ys None = refl
and_then-front xs ys (Some told) = ap Some (sym (append_assoc xs ys told))

-- what was taken so far, and then some more
pub takes-more : (most : ℕ) (bytes : List ℕ) (old now new : Option (List ℕ)) → bytes_and_then bytes now ≡ old → length bytes ≤ most
    → TakesAtMost (most - length bytes) now new → TakesAtMost most old new
takes-more most bytes old now new so_far fits more = (
  bytes ++ more.0,
  omega (arith, length-append bytes more.0, more.1),
  sym so_far ∙ ap (bytes_and_then bytes) more.2 ∙ and_then-front bytes more.0 new,
)

-- a fault that is not of the length
pub by-fault : {T U : Type 0} (fault : ReadFault) (P : Type 0) → (IsErrOf {T = T} (Err fault) TooLong → ⊥) → (IsErrOf {T = T} (Err fault) Memory → P)
    → IsErrOf {T = U} (Err fault) Failed ⊎ P
by-fault Failed P not_long on_memory = inl refl
by-fault TooLong P not_long on_memory = absurd (not_long refl)
by-fault Memory P not_long on_memory = inr (on_memory refl)
