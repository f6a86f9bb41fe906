-- The variables among arguments, one argument further.
use Rattle.std.proofs.Common.{◌≡◌, ℕ, ◌+◌, ◌<◌, List, length, get_or, drop, ap}
use Rattle.golog_tree.specs.declared.draft.DraftTheory.{DraftTheory}
use Rattle.golog_tree.specs.declared.draft_cond.DraftArg.{DraftArg}
use Rattle.golog_theory.specs.Effects.{variable_after, variables_after}
use Rattle.golog_rows.proofs.Each.{drop-item}

pub variables_after-drop : (theory : DraftTheory) (vars : List (List ℕ)) (args : List DraftArg) (i : ℕ) (arg : DraftArg) → i < length args → arg ≡ get_or args i arg
    → variables_after theory vars (drop i args) ≡ variables_after theory (variable_after theory vars arg) (drop (i + 1) args)
variables_after-drop theory vars args i arg lt is = ap (variables_after theory vars) (drop-item args i arg lt is)

pub ruleset laws = (variables_after-drop)
