-- Programs of which each step leaves one that nests no deeper.
use Rattle.std.specs.Prelude.{ℕ, Bool, true, false, ◌&&◌, ◌||◌, Option, Some, None}
use Rattle.golog_tree.specs.declared.prog.Prog.{Prog}
use Rattle.golog_tree.specs.declared.prog.Prog.TheOpen.{Prog-F, Nil, Act, Test, Seq, Choice, Pick, Star, If, While, Conc, Prio, Cstar, Call, Search, Follow}
use Rattle.golog_tree.specs.declared.prog.Prog.TheFolds.{fold-Prog}

-- what is so of a program, and where it may end of the next one
abbrev pub before : Option Bool → Option Bool → Option Bool
before None later = None
before (Some false) later = Some false
before (Some true) later = later

-- both are steady, and whether they may end is joined so
abbrev pub beside : (Bool → Bool → Bool) → Option Bool → Option Bool → Option Bool
beside join None other = None
beside join (Some one) None = None
beside join (Some one) (Some other) = Some (join one other)

-- whether a steady program may end, given that of those in it
abbrev pub steady_step : Prog-F (Option Bool) ℕ → Option Bool
steady_step Nil = Some true
steady_step (Act action args) = Some false
steady_step (Test cond) = Some false
steady_step (Seq p q) = before p q
steady_step (Choice p q) = beside (λ a b. a || b) p q
steady_step (Pick var sort p) = None
steady_step (Star p) = None
steady_step (If cond p q) = beside (λ a b. a || b) p q
steady_step (While cond p) = None
steady_step (Conc p q) = beside (λ a b. a && b) p q
steady_step (Prio p q) = beside (λ a b. a && b) p q
steady_step (Cstar p) = None
steady_step (Call item args) = None
steady_step (Search depth fuel p) = None
steady_step (Follow depth fuel p rest) = None

-- Whether a program may end at once, where it is steady: no loop, call, `pick` or block stands where a step
-- may begin. None where one does.
abbrev pub steady : Prog → Option Bool
steady = fold-Prog (Option Bool) ℕ steady_step (λ _. 0)
