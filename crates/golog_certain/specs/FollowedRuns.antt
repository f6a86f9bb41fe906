-- Runs under way that a search within their depth may find.
use Rattle.std.specs.Prelude.{ℕ, Bool, true, nat_le, ◌&&◌, List, length}
use Rattle.std.specs.List.{list_all}
use Rattle.golog_tree.specs.declared.prog.Prog.{Prog}
use Rattle.golog_tree.specs.declared.prog.Prog.TheOpen.{Prog-F, Nil, Act, Test, Seq, Choice, Pick, Star, If, While, Conc, Prio, Cstar, Call, Search, Follow}
use Rattle.golog_tree.specs.declared.prog.Prog.TheFolds.{fold-Prog, map-Prog}
use Rattle.golog_tree.specs.Nest.{nest_step}
use Rattle.golog_semantics.specs.Search.{nest_limit}

-- how deep a program nests, and whether each run under way in it may be found
pub record Ran : Type 0 where
  pub nest : ℕ
  pub found : Bool

-- a run is no longer than the depth of its block, and each of its lefts may be followed
abbrev pub run_within : ℕ → List Ran → Bool
run_within depth rest = nat_le (length rest) depth && list_all (λ r. nat_le r.nest nest_limit && r.found) rest

abbrev pub found_step : Prog-F Ran Ran → Bool
found_step Nil = true
found_step (Act action args) = true
found_step (Test c) = true
found_step (Seq p q) = p.found && q.found
found_step (Choice p q) = p.found && q.found
found_step (Pick x sort p) = p.found
found_step (Star p) = p.found
found_step (If c p q) = p.found && q.found
found_step (While c p) = p.found
found_step (Conc p q) = p.found && q.found
found_step (Prio p q) = p.found && q.found
found_step (Cstar p) = p.found
found_step (Call item args) = true
found_step (Search depth fuel p) = p.found
found_step (Follow depth fuel p rest) = p.found && run_within depth rest

abbrev pub ran_step : Prog-F Ran Ran → Ran
ran_step l = record {
  nest = nest_step (map-Prog Ran Ran ℕ ℕ (λ r. r.nest) (λ r. r.nest) l);
  found = found_step l;
}

abbrev pub ran : Prog → Ran
ran = fold-Prog Ran Ran ran_step (λ w. w.left)

-- each run under way in the program may be found by a search within its depth; so it is of a program as read,
-- which has none, and of each program left after a step of it
abbrev pub runs_within : Prog → Bool
runs_within p = (ran p).found
