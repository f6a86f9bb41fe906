-- The truth of a condition, by the strong Kleene tables, and the value of a term.
--
-- A situation is known as far as the value of each ground fluent is; a condition is evaluated in it (Reiter
-- 2001, for the fluents; Kleene 1952, for the tables). That one value or none is known of each fluent is this
-- project's own.
use Rattle.std.specs.Prelude.{ℕ, suc, ℤ, pos, negsuc, ◌+◌, ◌-◌, min, Bool, true, false, ◌==◌, nat_lt, nat_le, if◌then◌else◌, ◌&&◌, List, [], ◌∷◌, ◌++◌, length, replicate, map, slice_index, slice_set}
use Rattle.std.specs.List.{range_with_len}
use Rattle.golog_tree.specs.declared.agent.Agent.{Agent}
use Rattle.golog_tree.specs.declared.cond.Truth.{Truth}
use Rattle.golog_tree.specs.declared.cond.Truth.TheVariants.{Yes, No, Unknown}
use Rattle.golog_tree.specs.declared.cond.Arg.{Arg}
use Rattle.golog_tree.specs.declared.cond.Arg.TheVariants.{Const, Var}
use Rattle.golog_tree.specs.declared.cond.Term.{Term}
use Rattle.golog_tree.specs.declared.cond.Cond.{Cond}
use Rattle.golog_tree.specs.declared.cond.Cond.TheOpen.{Term-F, Arg as ArgTerm, Fluent, Shift, Ite}
use Rattle.golog_tree.specs.declared.cond.Cond.TheOpen.{Cond-F, Truth as Plain, Is, Equal, Less, AtMost, Not, And, Or, ForSome, ForAll}
use Rattle.golog_tree.specs.declared.cond.Cond.TheFolds.{fold-Cond, fold-Term}
use Rattle.golog_tree.specs.Ground.{sort_size, fluent_no}

-- a value is a constant's place in its sort, or this
abbrev pub unknown : ℕ
unknown = 255

-- the values of the 32 variables, by their numbers
abbrev pub Env : Type 0
Env = List ℕ

-- the environment in which the first variables have these values
unfoldable pub env_of : List ℕ → Env
env_of vs = vs ++ replicate (32 - length vs) 0

-- the values of the ground fluents, by their numbers
abbrev pub Values : Type 0
Values = List ℕ

-- a constant, and not unknown
abbrev pub is_known : ℕ → Bool
is_known v = nat_lt v unknown

-- what is plainly true or false
abbrev pub truth : Bool → Truth
truth true = Yes
truth false = No

-- true of what is false, false of what is true, and else unknown
abbrev pub not_of : Truth → Truth
not_of Yes = No
not_of No = Yes
not_of Unknown = Unknown

-- false where a part is, true where both are
abbrev pub both : Truth → Truth → Truth
both Yes b = b
both No b = No
both Unknown No = No
both Unknown Yes = Unknown
both Unknown Unknown = Unknown

-- true where a part is, false where both are
abbrev pub either : Truth → Truth → Truth
either a b = not_of (both (not_of a) (not_of b))

-- false where a part is, true where all are
abbrev pub and_of : List Truth → Truth
and_of [] = Yes
and_of (t ∷ ts) = both t (and_of ts)

-- true where a part is, false where all are
abbrev pub or_of : List Truth → Truth
or_of [] = No
or_of (t ∷ ts) = either t (or_of ts)

-- a comparison, which is unknown where a side is
abbrev pub comparison_of : (ℕ → ℕ → Bool) → ℕ → ℕ → Truth
comparison_of test one other = if is_known one && is_known other then truth (test one other) else Unknown

-- a value moved within its sort, stopping at its ends
abbrev pub value_moved : ℕ → ℕ → ℤ → ℕ
value_moved size v (pos n) = min (v + n) (size - 1)
value_moved size v (negsuc n) = v - suc n

-- a value that is known, moved; else unknown
abbrev pub value_shifted : ℕ → ℕ → ℤ → ℕ
value_shifted size v by = if is_known v then value_moved size v by else unknown

-- one value or the other by a truth; where it is unknown, the constant that both are
abbrev pub chosen : Truth → ℕ → ℕ → ℕ
chosen Yes one other = one
chosen No one other = other
chosen Unknown one other = if one == other then one else unknown

-- a constant, or the value of a variable
abbrev pub arg_value : Env → Arg → ℕ
arg_value env (Const c) = c
arg_value env (Var x) = slice_index env x

-- the value of a fluent at these arguments
abbrev pub fluent_value : Agent → Values → ℕ → List ℕ → ℕ
fluent_value agent values fluent args = slice_index values (fluent_no agent fluent args)

-- the constants of a sort
abbrev pub constants : Agent → ℕ → List ℕ
constants agent sort = range_with_len 0 (sort_size agent sort)

-- the truths with each constant of the sort for a variable
abbrev pub for_each : Agent → (Env → Truth) → Env → ℕ → ℕ → List Truth
for_each agent body env var sort = map (λ c. body (slice_set env var c)) (constants agent sort)

-- the value of a term, given that of its parts
abbrev pub term_step : Agent → Values → Term-F (Env → Truth) (Env → ℕ) → Env → ℕ
term_step agent values (ArgTerm arg) env = arg_value env arg
term_step agent values (Fluent fluent args) env = fluent_value agent values fluent (map (arg_value env) args)
term_step agent values (Shift sort term by) env = value_shifted (sort_size agent sort) (term env) by
term_step agent values (Ite cond one other) env = chosen (cond env) (one env) (other env)

-- the truth of a condition, given that of its parts; `some` and `all` are `or` and `and` over the sort's
-- constants
abbrev pub cond_step : Agent → Values → Cond-F (Env → Truth) (Env → ℕ) → Env → Truth
cond_step agent values (Plain b) env = truth b
cond_step agent values (Is fluent args) env =
    comparison_of nat_lt 0 (fluent_value agent values fluent (map (arg_value env) args))
cond_step agent values (Equal sort one other) env = comparison_of (λ a b. a == b) (one env) (other env)
cond_step agent values (Less sort one other) env = comparison_of nat_lt (one env) (other env)
cond_step agent values (AtMost sort one other) env = comparison_of nat_le (one env) (other env)
cond_step agent values (Not cond) env = not_of (cond env)
cond_step agent values (And conds) env = and_of (map (λ c. c env) conds)
cond_step agent values (Or conds) env = or_of (map (λ c. c env) conds)
cond_step agent values (ForSome var sort body) env = or_of (for_each agent body env var sort)
cond_step agent values (ForAll var sort body) env = and_of (for_each agent body env var sort)

-- the truth of a condition, given the values of its variables
abbrev pub truth_of : Agent → Values → Cond → Env → Truth
truth_of agent values = fold-Cond (Env → Truth) (Env → ℕ) (cond_step agent values) (term_step agent values)

-- the value of a term
abbrev pub value_of : Agent → Values → Term → Env → ℕ
value_of agent values = fold-Term (Env → Truth) (Env → ℕ) (cond_step agent values) (term_step agent values)
