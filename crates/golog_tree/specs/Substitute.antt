-- A constant put in for a variable.
use Rattle.std.specs.Prelude.{ℕ, ◌==◌, if◌then◌else◌, Option, Some, None, List, map}
use Rattle.golog_tree.specs.declared.cond.Arg.{Arg}
use Rattle.golog_tree.specs.declared.cond.Arg.TheVariants.{Const, Var}
use Rattle.golog_tree.specs.declared.cond.Term.{Term}
use Rattle.golog_tree.specs.declared.cond.Cond.TheOpen.{Term-F, Arg as ArgTerm, Fluent, Shift, Ite}
use Rattle.golog_tree.specs.declared.cond.Term.TheVariants as term
use Rattle.golog_tree.specs.declared.cond.Cond.TheFolds.{fold-Term}
use Rattle.golog_tree.specs.declared.cond.Cond.{Cond}
use Rattle.golog_tree.specs.declared.cond.Cond.TheOpen.{Cond-F, Truth, Is, Equal, Less, AtMost, Not, And, Or, ForSome, ForAll}
use Rattle.golog_tree.specs.declared.cond.Cond.TheVariants as cond
use Rattle.golog_tree.specs.declared.cond.Cond.TheFolds.{fold-Cond}
use Rattle.golog_tree.specs.declared.prog.Prog.{Prog}
use Rattle.golog_tree.specs.declared.prog.Prog.TheOpen.{Prog-F, Nil, Act, Test, Seq, Choice, Pick, Star, If, While, Conc, Prio, Cstar, Call, Search, Follow}
use Rattle.golog_tree.specs.declared.prog.Prog.TheVariants as prog
use Rattle.golog_tree.specs.declared.prog.Prog.TheFolds.{fold-Prog, fold-Way}
use Rattle.golog_tree.specs.declared.prog.Way.{Way}
use Rattle.golog_tree.specs.declared.prog.Prog.TheOpen.{Way-F}

-- a variable and the constant put in for it, or nothing
abbrev pub Put : Type 0
Put = Option (ℕ × ℕ)

-- an argument with a constant put in
abbrev pub arg_put : Put → Arg → Arg
arg_put None arg = arg
arg_put (Some (var, value)) (Const c) = Const c
arg_put (Some (var, value)) (Var x) = if x == var then Const value else Var x

-- what is put in within a binder of x
abbrev pub within : ℕ → Put → Put
within x None = None
within x (Some (var, value)) = if x == var then None else Some (var, value)

-- a term with a constant put in, given its parts so
abbrev pub term_step : Term-F (Put → Cond) (Put → Term) → Put → Term
term_step (ArgTerm arg) put = term.Arg (arg_put put arg)
term_step (Fluent fluent args) put = term.Fluent fluent (map (arg_put put) args)
term_step (Shift sort one by) put = term.Shift sort (one put) by
term_step (Ite test one other) put = term.Ite (test put) (one put) (other put)

-- a condition with a constant put in, given its parts so; a binder of the variable keeps its own
abbrev pub cond_step : Cond-F (Put → Cond) (Put → Term) → Put → Cond
cond_step (Truth b) put = cond.Truth b
cond_step (Is fluent args) put = cond.Is fluent (map (arg_put put) args)
cond_step (Equal sort one other) put = cond.Equal sort (one put) (other put)
cond_step (Less sort one other) put = cond.Less sort (one put) (other put)
cond_step (AtMost sort one other) put = cond.AtMost sort (one put) (other put)
cond_step (Not c) put = cond.Not (c put)
cond_step (And cs) put = cond.And (map (λ c. c put) cs)
cond_step (Or cs) put = cond.Or (map (λ c. c put) cs)
cond_step (ForSome var sort c) put = cond.ForSome var sort (c (within var put))
cond_step (ForAll var sort c) put = cond.ForAll var sort (c (within var put))

-- the term with the constant put in
abbrev pub term_put : Term → Put → Term
term_put = fold-Term (Put → Cond) (Put → Term) cond_step term_step

-- the condition with the constant put in
abbrev pub cond_put : Cond → Put → Cond
cond_put = fold-Cond (Put → Cond) (Put → Term) cond_step term_step

-- a program with a constant put in, given its parts so; a `pick` of the variable keeps its own
abbrev pub prog_step : Prog-F (Put → Prog) (Put → Way) → Put → Prog
prog_step Nil put = prog.Nil
prog_step (Act action args) put = prog.Act action (map (arg_put put) args)
prog_step (Test c) put = prog.Test (cond_put c put)
prog_step (Seq p q) put = prog.Seq (p put) (q put)
prog_step (Choice p q) put = prog.Choice (p put) (q put)
prog_step (Pick var sort p) put = prog.Pick var sort (p (within var put))
prog_step (Star p) put = prog.Star (p put)
prog_step (If c p q) put = prog.If (cond_put c put) (p put) (q put)
prog_step (While c p) put = prog.While (cond_put c put) (p put)
prog_step (Conc p q) put = prog.Conc (p put) (q put)
prog_step (Prio p q) put = prog.Prio (p put) (q put)
prog_step (Cstar p) put = prog.Cstar (p put)
prog_step (Call item args) put = prog.Call item (map (arg_put put) args)
prog_step (Search depth fuel p) put = prog.Search depth fuel (p put)
prog_step (Follow depth fuel p rest) put = prog.Follow depth fuel (p put) (map (λ w. w put) rest)

-- a way with a constant put into its left
abbrev pub way_step : Way-F (Put → Prog) (Put → Way) → Put → Way
way_step way put = record { label = way.label; left = way.left put }

-- the program with the constant put in
abbrev pub prog_put : Prog → Put → Prog
prog_put = fold-Prog (Put → Prog) (Put → Way) prog_step way_step

-- the way with the constant put in
abbrev pub way_put : Way → Put → Way
way_put = fold-Way (Put → Prog) (Put → Way) prog_step way_step
