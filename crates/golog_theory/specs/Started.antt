-- Ground fluents that have a start value of their own, by their constants as these are written.
use Rattle.std.specs.Prelude.{◌≡◌, ◌&&◌, ℕ, nat_eq, Bool, false, List, [], ◌∷◌}
use Rattle.std.specs.Cmp.Lexicographic.{pointwise}
use Rattle.std.specs.Ordering.{int_eq}
use Rattle.std.specs.declared.cmp.Ordering.{Ordering}
use Rattle.golog_tree.specs.declared.draft.DraftStart.{DraftStart}
use Rattle.golog_tree.specs.declared.draft.DraftStart.TheVariants.{Each, One}
use Rattle.golog_tree.specs.declared.draft_cond.DraftArg.{DraftArg}
use Rattle.golog_tree.specs.declared.draft_cond.DraftArg.TheVariants as arg
use Rattle.golog_theory.specs.declared.started.Constant.{Constant}
use Rattle.golog_theory.specs.declared.started.Constant.TheVariants.{Name, Number}
use Rattle.golog_theory.specs.declared.started.Ground.{Ground}
use Rattle.golog_theory.specs.contracts.started.GroundOrd.TheImpl as ground_ord
use Rattle.golog_theory.specs.Names.{same}

-- the order of ground fluents
abbrev pub ground_cmp : Ground → Ground → Ordering
ground_cmp = (ground_ord.ghosts).cmp

-- the constant is the word or the number of an argument
abbrev pub IsWritten : Constant → DraftArg → Type 0
IsWritten (Name name) (arg.Word word at) = name.items ≡ word
IsWritten (Number one) (arg.Number other at) = one ≡ other
IsWritten (Name name) (arg.Number other at) = ⊥
IsWritten (Number one) (arg.Word word at) = ⊥

abbrev pub AreWritten : List Constant → List DraftArg → Type 0
AreWritten [] [] = Unit {0}
AreWritten (one ∷ ones) (other ∷ others) = IsWritten one other × AreWritten ones others
AreWritten [] (other ∷ others) = ⊥
AreWritten (one ∷ ones) [] = ⊥

-- the ground fluent is that of the fluent at these arguments
pub record IsGroundOf (cell : Ground) (fluent : ℕ) (args : List DraftArg) : Type 0 where
  pub fluent_is : cell.fluent ≡ fluent
  pub args_are : AreWritten cell.args.items args

-- an argument is the same word or number as a constant
abbrev pub is_constant_arg : DraftArg → Constant → Bool
is_constant_arg (arg.Word word at) (Name name) = same word name.items
is_constant_arg (arg.Number one at) (Number other) = int_eq one other
is_constant_arg (arg.Word word at) (Number other) = false
is_constant_arg (arg.Number one at) (Name name) = false

abbrev pub are_constant_args : List DraftArg → List Constant → Bool
are_constant_args = pointwise is_constant_arg

-- the start value is that of the ground fluent
abbrev pub starts_at : Ground → DraftStart → Bool
starts_at cell (Each own value at) = false
starts_at cell (One own constants value at) =
    nat_eq own cell.fluent && are_constant_args constants cell.args.items
