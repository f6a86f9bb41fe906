-- A fluent that stands in one of some conditions.
use Rattle.std.proofs.Common.{◌≡◌, ℕ, zero, suc, ◌<◌, true, List, [], ◌∷◌, map, get_or, length, arith}
use Rattle.std.specs.List.{list_any}
use Rattle.golog_tree.specs.declared.cond.Cond.{Cond}
use Rattle.golog_semantics.proofs.Tests.{or_first, or_second}
use Rattle.golog_regress.specs.Touched.{reads}

pub one-reads : (f : ℕ) (cs : List Cond) (i : ℕ) (d : Cond) → i < length cs → reads f (get_or cs i d) ≡ true → list_any (λ b. b) (map (reads f) cs) ≡ true
one-reads f [] i d h e = absurd (omega arith)
one-reads f (c ∷ cs) zero d h e = or_first (reads f c) (list_any (λ b. b) (map (reads f) cs)) e
one-reads f (c ∷ cs) (suc i) d h e = or_second (reads f c) (list_any (λ b. b) (map (reads f) cs)) (one-reads f cs i d (omega arith) e)
