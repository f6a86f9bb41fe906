-- The codes of programs, by which a map looks for them.
use Rattle.std.specs.Prelude.{ℕ, ◌+◌, ◌*◌, ◌/◌, ◌%◌, ◌^◌, List, fold, map, bit_xor}
use Rattle.golog_tree.specs.declared.cond.Arg.{Arg}
use Rattle.golog_tree.specs.declared.cond.Arg.TheVariants.{Const, Var}
use Rattle.golog_tree.specs.declared.cond.Term.{Term}
use Rattle.golog_tree.specs.declared.cond.Cond.{Cond}
use Rattle.golog_tree.specs.declared.cond.Cond.TheOpen.{Term-F, Arg as ArgTerm, Fluent, Shift, Ite}
use Rattle.golog_tree.specs.declared.cond.Cond.TheOpen.{Cond-F, Truth, Is, Equal, Less, AtMost, Not, And, Or, ForSome, ForAll}
use Rattle.golog_tree.specs.declared.cond.Cond.TheFolds.{fold-Cond, fold-Term}
use Rattle.golog_tree.specs.declared.prog.Prog.{Prog}
use Rattle.golog_tree.specs.declared.prog.Prog.TheOpen.{Prog-F, Nil, Act, Test, Seq, Choice, Pick, Star, If, While, Conc, Prio, Cstar, Call, Search, Follow}
use Rattle.golog_tree.specs.declared.prog.Prog.TheFolds.{fold-Prog}

-- two numbers made one, which depends on their order
unfoldable pub mixed : ℕ → ℕ → ℕ
mixed code number =
    let sum = ((code * 0x9e37_79b9_7f4a_7c15) % 2 ^ 64 + number) % 2 ^ 64 in
    (bit_xor sum (sum / 0x1_0000_0000) * 0x9e37_79b9_7f4a_7c15) % 2 ^ 64

-- the code of a construct of two parts
abbrev pub pair_code : ℕ → ℕ → ℕ → ℕ
pair_code construct one other = mixed (mixed construct one) other

abbrev pub arg_code : Arg → ℕ
arg_code (Const value) = 2 * value
arg_code (Var var) = 2 * var + 1

-- the code with those of arguments
abbrev pub args_code : ℕ → List Arg → ℕ
args_code code args = fold (λ before arg. mixed before (arg_code arg)) code args

-- the code of a term, given those of its parts
abbrev pub term_step : Term-F ℕ ℕ → ℕ
term_step (ArgTerm arg) = arg_code arg
term_step (Fluent fluent args) = args_code (mixed 1 fluent) args
term_step (Shift sort term by) = mixed 2 term
term_step (Ite c one other) = 3

-- the code of a condition, given those of its parts
abbrev pub cond_step : Cond-F ℕ ℕ → ℕ
cond_step (Truth b) = 1
cond_step (Is fluent args) = args_code (mixed 2 fluent) args
cond_step (Equal sort one other) = pair_code 3 one other
cond_step (Less sort one other) = pair_code 4 one other
cond_step (AtMost sort one other) = pair_code 5 one other
cond_step (Not c) = mixed 6 c
cond_step (And cs) = fold mixed 7 cs
cond_step (Or cs) = fold mixed 8 cs
cond_step (ForSome var sort c) = mixed 9 c
cond_step (ForAll var sort c) = mixed 10 c

abbrev pub term_code : Term → ℕ
term_code = fold-Term ℕ ℕ cond_step term_step

abbrev pub cond_code : Cond → ℕ
cond_code = fold-Cond ℕ ℕ cond_step term_step

-- the code with those of conditions
abbrev pub conds_code : ℕ → List Cond → ℕ
conds_code code conds = fold mixed code (map cond_code conds)

-- the code of a program, given those of the programs in it
abbrev pub prog_step : Prog-F ℕ ℕ → ℕ
prog_step Nil = 1
prog_step (Act action args) = args_code (mixed 2 action) args
prog_step (Test c) = mixed 3 (cond_code c)
prog_step (Seq p q) = pair_code 4 p q
prog_step (Choice p q) = pair_code 5 p q
prog_step (Pick var sort p) = mixed 6 p
prog_step (Star p) = mixed 7 p
prog_step (If c p q) = mixed (pair_code 8 p q) (cond_code c)
prog_step (While c p) = pair_code 9 (cond_code c) p
prog_step (Conc p q) = pair_code 10 p q
prog_step (Prio p q) = pair_code 11 p q
prog_step (Cstar p) = mixed 12 p
prog_step (Call item args) = args_code (mixed 13 item) args
prog_step (Search depth fuel p) = mixed 14 p
prog_step (Follow depth fuel p rest) = mixed 15 p

-- the code of a program; the rest of a run is left out
abbrev pub prog_code : Prog → ℕ
prog_code = fold-Prog ℕ ℕ prog_step (λ _. 0)
