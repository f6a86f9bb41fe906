-- What is not refused fits the agent that has these declarations, and could stand in its file.
use Rattle.std.specs.Prelude.{◌≡◌, ℕ, ◌≤◌, ⊤, IsTrue, Ok, Some, List, [], ◌∷◌, length, map}
use Rattle.std.specs.List.{list_all}
use Rattle.golog_tree.specs.declared.agent.Agent.{Agent}
use Rattle.golog_tree.specs.declared.agent.FluentItem.{FluentItem}
use Rattle.golog_tree.specs.declared.cond.Term.{Term}
use Rattle.golog_tree.specs.declared.cond.Cond.{Cond}
use Rattle.golog_tree.specs.declared.cond.Arg.{Arg}
use Rattle.golog_tree.specs.declared.draft_cond.DraftArg.{DraftArg}
use Rattle.golog_tree.specs.declared.draft_cond.DraftTerm.{DraftTerm}
use Rattle.golog_tree.specs.declared.draft_cond.DraftCond.{DraftCond}
use Rattle.golog_semantics.specs.Fits as fits
use Rattle.golog_semantics.specs.Fits.{is_sort, args_fit, term_fits, cond_fits}
use Rattle.golog_semantics.specs.Written.{is_written_term, is_written_cond}
use Rattle.golog_draft.specs.Drafts.{Signature, term_keeps, cond_keeps}
use Rattle.golog_check.specs.DeclaredItems.{Declared}
use Rattle.golog_check.specs.Scope.{Scope}
use Rattle.golog_check.specs.Terms.{args_in, term_in}
use Rattle.golog_check.specs.Conditions.{cond_in}

-- The agent has what is declared, and each fluent is into one of its sorts.
pub record HasItems (agent : Agent) (names : Declared) : Type 0 where
  pub sorts : agent.sorts ≡ names.sorts
  pub fluents : agent.fluents ≡ names.fluents
  pub sorted : IsTrue (list_all (λ (item : FluentItem). is_sort agent item.sort) agent.fluents)

-- each variable in scope is bound to its sort, by its number
abbrev pub Binds : Agent → fits.Scope → Scope → Type 0
Binds agent bound [] = ⊤
Binds agent bound (variable ∷ outer) =
    ((bound (length outer) ≡ Some variable.sort) × IsTrue (is_sort agent variable.sort))
    × Binds agent bound outer

-- how many sorts there are, and how many arguments each fluent has
abbrev pub signature_of : Declared → Signature
signature_of names = record {
  sorts = length names.sorts;
  arities = map (λ (item : FluentItem). length item.args) names.fluents;
}

-- a term of the sort, which a file can say
pub record IsTermOf (agent : Agent) (bound : fits.Scope) (sort : ℕ) (term : Term) : Type 0 where
  pub fits : IsTrue (term_fits agent term bound sort)
  pub written : IsTrue (is_written_term agent term)

-- a condition that a file can say within so many variables
pub record IsCondOf (agent : Agent) (bound : fits.Scope) (variables : ℕ) (cond : Cond) : Type 0 where
  pub fits : IsTrue (cond_fits agent cond bound)
  pub written : IsTrue (is_written_cond agent cond variables)

-- arguments, as many as there are sorts
abbrev pub ArgsFit : Type 0
ArgsFit =
    (agent : Agent) (names : Declared) → HasItems agent names → (bound : fits.Scope) (scope : Scope)
    → Binds agent bound scope → length scope ≤ 32 → (sorts : List ℕ) (drafts : List DraftArg)
    → length drafts ≡ length sorts → (args : List Arg) → (args_in names scope sorts drafts).outcome ≡ Ok args
    → IsTrue (args_fit agent bound sorts args)

abbrev pub TermsFit : Type 0
TermsFit =
    (agent : Agent) (names : Declared) → HasItems agent names → (bound : fits.Scope) (scope : Scope)
    → Binds agent bound scope → length scope ≤ 32 → (draft : DraftTerm)
    → IsTrue (term_keeps (signature_of names) draft) → (sort : ℕ) (term : Term)
    → (term_in names scope sort draft).outcome ≡ Ok term → IsTermOf agent bound sort term

abbrev pub CondsFit : Type 0
CondsFit =
    (agent : Agent) (names : Declared) → HasItems agent names → (draft : DraftCond)
    (bound : fits.Scope) (scope : Scope) → Binds agent bound scope → length scope ≤ 32
    → IsTrue (cond_keeps (signature_of names) draft (length scope)) → (cond : Cond)
    → (cond_in names draft scope).outcome ≡ Ok cond → IsCondOf agent bound (length scope) cond
