-- What an agent file can say: conditions and programs that neither regression nor a search has made.
use Rattle.std.specs.Prelude.{ℕ, suc, ℤ, pos, negsuc, ◌+◌, Bool, true, false, not, ◌==◌, nat_lt, ◌&&◌, ◌||◌}
use Rattle.std.specs.List.{list_all}
use Rattle.golog_tree.specs.declared.agent.Agent.{Agent}
use Rattle.golog_tree.specs.declared.cond.Arg.{Arg}
use Rattle.golog_tree.specs.declared.cond.Arg.TheVariants.{Const, Var}
use Rattle.golog_tree.specs.declared.cond.Term.{Term}
use Rattle.golog_tree.specs.declared.cond.Cond.{Cond}
use Rattle.golog_tree.specs.declared.cond.Cond.TheOpen.{Term-F, Arg as ArgTerm, Fluent, Shift, Ite}
use Rattle.golog_tree.specs.declared.cond.Cond.TheOpen.{Cond-F, Truth, Is, Equal, Less, AtMost, Not, And, Or, ForSome, ForAll}
use Rattle.golog_tree.specs.declared.cond.Cond.TheFolds.{fold-Cond, fold-Term}
use Rattle.golog_tree.specs.declared.prog.Prog.{Prog}
use Rattle.golog_tree.specs.declared.prog.Prog.TheOpen.{Prog-F, Nil, Act, Test, Seq, Choice, Pick, Star, If, While, Conc, Prio, Cstar, Call, Search, Follow}
use Rattle.golog_tree.specs.declared.prog.Prog.TheFolds.{fold-Prog}
use Rattle.golog_semantics.specs.Fits.{is_range}

-- whether a term can be written, and whether it shows of which sort it is, as a fluent and a variable do
pub record Wording : Type 0 where
  pub written : Bool
  pub shows_sort : Bool

-- a number that a file adds or takes away: it is below 2 ^ 31, with either sign
abbrev pub is_amount : ℤ → Bool
is_amount (pos n) = nat_lt n 2147483648
is_amount (negsuc n) = nat_lt (suc n) 2147483648

abbrev pub written_arg : Arg → Wording
written_arg (Const c) = record { written = true; shows_sort = false }
written_arg (Var x) = record { written = true; shows_sort = true }

module _ (agent : Agent) where
  -- a term, given its parts
  abbrev pub written_term_step : Term-F (ℕ → Bool) Wording → Wording
  written_term_step (ArgTerm arg) = written_arg arg
  written_term_step (Fluent fluent args) = record { written = true; shows_sort = true }
  written_term_step (Shift sort term by) = record term { written = term.written && is_amount by }
  written_term_step (Ite cond one other) = record { written = false; shows_sort = false }

  -- two terms to be compared, of which one shows the sort, or a constant of a listed sort does
  abbrev pub written_sides : ℕ → Wording → Wording → Bool
  written_sides sort one other =
      one.written && other.written && (one.shows_sort || other.shows_sort || not (is_range agent sort))

  -- a condition within so many variables, given its parts; the number of a variable is how many are in
  -- scope there
  abbrev pub written_cond_step : Cond-F (ℕ → Bool) Wording → ℕ → Bool
  written_cond_step (Truth b) n = true
  written_cond_step (Is fluent args) n = true
  written_cond_step (Equal sort one other) n = written_sides sort one other
  written_cond_step (Less sort one other) n = written_sides sort one other
  written_cond_step (AtMost sort one other) n = written_sides sort one other
  written_cond_step (Not c) n = c n
  written_cond_step (And cs) n = list_all (λ c. c n) cs
  written_cond_step (Or cs) n = list_all (λ c. c n) cs
  written_cond_step (ForSome var sort c) n = var == n && c (n + 1)
  written_cond_step (ForAll var sort c) n = var == n && c (n + 1)

  -- a file can say the term
  abbrev pub is_written_term : Term → Bool
  is_written_term term = (fold-Term (ℕ → Bool) Wording written_cond_step written_term_step term).written

  -- a file can say the condition where so many variables are in scope
  abbrev pub is_written_cond : Cond → ℕ → Bool
  is_written_cond = fold-Cond (ℕ → Bool) Wording written_cond_step written_term_step

  -- a program within so many variables, given its parts
  abbrev pub written_prog_step : Prog-F (ℕ → Bool) Bool → ℕ → Bool
  written_prog_step Nil n = true
  written_prog_step (Act action args) n = true
  written_prog_step (Test c) n = is_written_cond c n
  written_prog_step (Seq p q) n = p n && q n
  written_prog_step (Choice p q) n = p n && q n
  written_prog_step (Pick var sort p) n = var == n && p (n + 1)
  written_prog_step (Star p) n = p n
  written_prog_step (If c p q) n = is_written_cond c n && p n && q n
  written_prog_step (While c p) n = is_written_cond c n && p n
  written_prog_step (Conc p q) n = p n && q n
  written_prog_step (Prio p q) n = p n && q n
  written_prog_step (Cstar p) n = p n
  written_prog_step (Call item args) n = true
  written_prog_step (Search depth fuel p) n = p n
  written_prog_step (Follow depth fuel p rest) n = false

  -- a file can say the program where so many variables are in scope
  abbrev pub is_written_prog : Prog → ℕ → Bool
  is_written_prog = fold-Prog (ℕ → Bool) Bool written_prog_step (λ w. false)
