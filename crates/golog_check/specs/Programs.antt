-- What a program of a draft is.
pub use Rattle.golog_shapes.specs.Nested.{joined, nested}
use Rattle.std.specs.Prelude.{List, []}
use Rattle.golog_tree.specs.declared.cond.Cond.{Cond}
use Rattle.golog_tree.specs.declared.prog.Prog.{Prog}
use Rattle.golog_tree.specs.declared.prog.Prog.TheVariants as prog
use Rattle.golog_tree.specs.declared.draft_prog.DraftProg.{DraftProg}
use Rattle.golog_tree.specs.declared.draft_prog.DraftProg.TheOpen.{DraftProg-F, Nil, Act, Test, Seq, Choice, Pick, Star, If, While, Conc, Prio, Cstar, Call, Search}
use Rattle.golog_tree.specs.declared.draft_prog.DraftProg.TheFolds.{fold-DraftProg}
use Rattle.golog_tree.specs.Ground.{to_count}
use Rattle.golog_rows.specs.Reading.{Reading, gives, ◌>>=◌, each}
use Rattle.golog_tree.specs.declared.join.Join.{Join}
use Rattle.golog_tree.specs.declared.join.Join.TheVariants.{Seq as InSeq, Choice as InChoice, Conc as InConc, Prio as InPrio}
use Rattle.golog_check.specs.DeclaredItems.{Declared}
use Rattle.golog_check.specs.Sorts.{action_sorts, param_sorts}
use Rattle.golog_check.specs.Scope.{Scope, variable_no, within}
use Rattle.golog_check.specs.Terms.{args_in}
use Rattle.golog_check.specs.Conditions.{cond_in}

-- what a program is, in any scope
abbrev pub InScope : Type 0
InScope = Scope → Reading Prog

-- programs, one after another, behind those before them
abbrev pub progs_after : List Prog → Scope → List InScope → Reading (List Prog)
progs_after before scope parts = each (λ _ (part : InScope). part scope) before parts

abbrev pub progs_in : Scope → List InScope → Reading (List Prog)
progs_in scope parts = progs_after [] scope parts

abbrev pub parts_in : Join → Scope → List InScope → Reading Prog
parts_in join scope parts = progs_in scope parts >>= λ parts. gives (nested join parts)

-- an `if` by its second program, a `while` by its body
abbrev pub with_no : Cond → Prog → Reading Prog → Reading Prog
with_no cond first second = second >>= λ second. gives (prog.If cond first second)

abbrev pub with_body : Cond → Reading Prog → Reading Prog
with_body cond body = body >>= λ body. gives (prog.While cond body)

module _ (names : Declared) where
  -- a program in a scope, given its parts
  abbrev pub prog_step : DraftProg-F InScope → InScope
  prog_step (Nil at) scope = gives prog.Nil
  prog_step (Act action args at) scope =
      args_in names scope (action_sorts names action) args >>= λ args. gives (prog.Act action args)
  prog_step (Test c at) scope = cond_in names c scope >>= λ c. gives (prog.Test c)
  prog_step (Seq parts at) scope = parts_in InSeq scope parts
  prog_step (Choice parts at) scope = parts_in InChoice scope parts
  prog_step (Pick var sort p at) scope =
      p (within var sort scope) >>= λ p. gives (prog.Pick (variable_no scope) sort p)
  prog_step (Star p at) scope = p scope >>= λ p. gives (prog.Star p)
  prog_step (If c p q at) scope =
      cond_in names c scope >>= λ c.
      p scope >>= λ p.
      with_no c p (q scope)
  prog_step (While c p at) scope = cond_in names c scope >>= λ c. with_body c (p scope)
  prog_step (Conc parts at) scope = parts_in InConc scope parts
  prog_step (Prio parts at) scope = parts_in InPrio scope parts
  prog_step (Cstar p at) scope = p scope >>= λ p. gives (prog.Cstar p)
  prog_step (Call item args at) scope =
      args_in names scope (param_sorts names item) args >>= λ args. gives (prog.Call item args)
  prog_step (Search depth fuel p at) scope =
      p scope >>= λ p. gives (prog.Search (to_count depth) (to_count fuel) p)

  -- what a program is
  abbrev pub prog_in : DraftProg → InScope
  prog_in = fold-DraftProg InScope prog_step
