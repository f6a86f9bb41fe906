-- Equality as a test, for any type with a code.
use Rattle.std.specs.Prelude.{ℕ, Bool, true, false, ◌==◌, ◌&&◌, nat_eq, Option, Some, None, List}
use Rattle.std.specs.Cmp.Lexicographic.{pointwise}
use base.Stored.{Gv, gnil, gnum, gcons}
use Rattle.golog_tree.specs.declared.prog.Label.{Label}
use Rattle.golog_tree.specs.declared.prog.Label.TheVariants.{Quiet, Do}
use Rattle.golog_tree.specs.declared.prog.Prog.{Prog}
use Rattle.golog_tree.specs.declared.prog.Way.{Way}
use Rattle.golog_tree.specs.contracts.prog.Prog as prog

-- the same code
abbrev pub same_code : Gv → Gv → Bool
same_code gnil gnil = true
same_code (gnum n) (gnum k) = n == k
same_code (gcons a b) (gcons c d) = same_code a c && same_code b d
same_code _ _ = false

-- the same program, by the codes of its type
unfoldable pub same_prog : Prog → Prog → Bool
same_prog p q = same_code (prog.the_row.coded.code p) (prog.the_row.coded.code q)

-- the same values
abbrev pub same_values : List ℕ → List ℕ → Bool
same_values = pointwise nat_eq

-- the same label
abbrev pub same_label : Label → Label → Bool
same_label Quiet Quiet = true
same_label (Do a) (Do b) = a == b
same_label _ _ = false

-- the runs of two steps, or no run at both
abbrev pub same_run : Option (List Label) → Option (List Label) → Bool
same_run None None = true
same_run (Some ls) (Some ks) = pointwise same_label ls ks
same_run _ _ = false

-- the same label and the same left
abbrev pub same_way : Way → Way → Bool
same_way w v = same_label w.label v.label && same_prog w.left v.left
