-- What a procedure of a draft is.
use Rattle.golog_tree.specs.declared.agent.ProcItem.{ProcItem}
use Rattle.golog_tree.specs.declared.draft.DraftProc.{DraftProc}
use Rattle.golog_draft.specs.Drafts.{param_words}
use Rattle.golog_rows.specs.Reading.{Reading, gives, ◌>>=◌}
use Rattle.golog_check.specs.DeclaredItems.{Declared, param_sorts}
use Rattle.golog_check.specs.Scope.{Scope, scope_of_vars}
use Rattle.golog_check.specs.Programs.{prog_in}

-- its parameters in scope, each of its sort
abbrev pub params_of : DraftProc → Scope
params_of item = scope_of_vars (param_words item) (param_sorts item)

-- A procedure, whose parameters are the variables of its body.
unfoldable pub proc_in : Declared → DraftProc → Reading ProcItem
proc_in names item =
    prog_in names item.body (params_of item) >>= λ body.
    gives (record { name = item.name; params = param_sorts item; body = body })
