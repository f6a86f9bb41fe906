-- Heads of items: the variables that they bind, and their arguments.
use Rattle.std.specs.Prelude.{ℕ, is_none, Bool, false, if◌then◌else◌, List, [], ◌∷◌, ◌++◌}
use Rattle.golog_tree.specs.declared.cond.Arg.TheVariants.{Var}
use Rattle.golog_tree.specs.declared.draft_cond.DraftArg.{DraftArg}
use Rattle.golog_tree.specs.declared.draft_cond.DraftArg.TheVariants.{Word, Number}
use Rattle.golog_rows.specs.Reading.{Reading, gives, ◌>>=◌}
use Rattle.golog_check.specs.declared.heads.Head.{Head}
use Rattle.golog_check.specs.DeclaredItems.{Declared}
use Rattle.golog_check.specs.Scope.{Scope, variable_no, within, meaning}
use Rattle.golog_check.specs.Terms.{arg_in}

-- one more variable, of the sort of the place
abbrev pub binding : Head → ℕ → DraftArg → Head
binding head sort (Word word at) = record {
  args = head.args ++ Var (variable_no head.scope) ∷ [];
  scope = within word sort head.scope;
}
binding head sort (Number number at) = head

module _ (names : Declared) where
  -- The argument binds a variable: it is a word that means nothing there.
  abbrev pub binds : Scope → DraftArg → Bool
  binds scope (Word word at) = is_none (meaning names scope word at)
  binds scope (Number number at) = false

  -- one more argument, in a place of the sort
  unfoldable pub head_after : Head → ℕ → DraftArg → Reading Head
  head_after head sort arg =
      if binds head.scope arg then gives (binding head sort arg)
      else arg_in names head.scope sort arg >>= λ arg. gives (record head { args = head.args ++ arg ∷ [] })

  -- The arguments of an effect's action and then of its fluent, in places of these sorts. A word that is no
  -- constant is a variable, which has the sort of the place where it first stands.
  abbrev pub head_from : Head → List ℕ → List DraftArg → Reading Head
  head_from head sorts [] = gives head
  head_from head [] (arg ∷ args) = gives head
  head_from head (sort ∷ sorts) (arg ∷ args) = head_after head sort arg >>= λ head. head_from head sorts args
