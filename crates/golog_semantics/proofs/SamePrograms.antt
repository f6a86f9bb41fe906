-- A test that holds exactly of equal programs is the test by codes, and so for ways and for runs.
use Rattle.std.proofs.Common.{◌≡◌, Bool, true, List, subst}
use Rattle.std.specs.Prelude.{◌↔◌, IsTrue}
use Rattle.std.specs.Bool.{Decides}
use Rattle.std.specs.Cmp.Lexicographic.{pointwise, pointwise_decides}
use Rattle.std.proofs.lemmas.Bool.Decides.{same_from_decides}
use Rattle.golog_tree.specs.declared.prog.Prog.{Prog}
use Rattle.golog_tree.specs.declared.prog.Way.{Way}
use Rattle.golog_semantics.specs.Same.{same_prog, same_way}
use Rattle.golog_semantics.proofs.SameLaws.{same_prog-eq, same_prog-same}
use Rattle.golog_semantics.proofs.BestRuns.{same_way-eq, same_way-same}

by_codes : (p q : Prog) → Decides (same_prog p q) (p ≡ q)
by_codes p q = (same_prog-eq p q, λ e. subst (λ (r : Prog). same_prog p r ≡ true) e (same_prog-same p))

by_parts : (w v : Way) → Decides (same_way w v) (w ≡ v)
by_parts w v = (same_way-eq w v, λ e. subst (λ (u : Way). same_way w u ≡ true) e (same_way-same w))

pub same-by : (b : Bool) (p q : Prog) → IsTrue b ↔ (p ≡ q) → b ≡ same_prog p q
same-by b p q h = same_from_decides b (same_prog p q) h (by_codes p q)

pub same_way-by : (b : Bool) (w v : Way) → IsTrue b ↔ (w ≡ v) → b ≡ same_way w v
same_way-by b w v h = same_from_decides b (same_way w v) h (by_parts w v)

same_runs : (run other : List Way) → Decides (pointwise same_way run other) (run ≡ other)
same_runs = pointwise_decides by_parts

pub same_run-by : (b : Bool) (run other : List Way) → IsTrue b ↔ (run ≡ other) → b ≡ pointwise same_way run other
same_run-by b run other h = same_from_decides b (pointwise same_way run other) h (same_runs run other)

pub same_run-eq : (run other : List Way) → pointwise same_way run other ≡ true → run ≡ other
same_run-eq run other = (same_runs run other).0
