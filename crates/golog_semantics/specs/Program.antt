-- Constants put into programs, and the bodies of procedures.
use Rattle.std.specs.Prelude.{ℕ, ◌+◌, Option, Some, None, List, [], ◌∷◌, slice_get}
use Rattle.golog_tree.specs.declared.agent.Agent.{Agent}
use Rattle.golog_tree.specs.declared.agent.ProcItem.{ProcItem}
use Rattle.golog_tree.specs.declared.cond.Arg.{Arg}
use Rattle.golog_tree.specs.declared.cond.Arg.TheVariants.{Const, Var}
use Rattle.golog_tree.specs.declared.prog.Prog.{Prog}
use Rattle.golog_tree.specs.declared.prog.Prog.TheVariants as prog
use Rattle.golog_tree.specs.Substitute.{prog_put}

-- the program with a constant put in for a variable
abbrev pub put_arg : Prog → ℕ → ℕ → Prog
put_arg p var value = prog_put p (Some (var, value))

-- the program with an argument put in for a variable; a call that is reached has constants alone
abbrev pub put_one : Prog → ℕ → Arg → Prog
put_one p var (Const value) = put_arg p var value
put_one p var (Var x) = p

-- the program with constants put in for the variables from this one on
abbrev pub put_args : Prog → ℕ → List Arg → Prog
put_args p var [] = p
put_args p var (arg ∷ args) = put_args (put_one p var arg) (var + 1) args

-- the body of this procedure, arguments put in; of none, the empty program
abbrev pub body_with : Option ProcItem → List Arg → Prog
body_with None args = prog.Nil
body_with (Some item) args = put_args item.body 0 args

-- the body of a procedure, arguments put in
abbrev pub body_of : Agent → ℕ → List Arg → Prog
body_of agent item args = body_with (slice_get agent.procs item) args
