-- Programs put together without an empty part.
use Rattle.golog_tree.specs.declared.prog.Prog.{Prog}
use Rattle.golog_tree.specs.declared.prog.Way.{Way}
use Rattle.golog_tree.specs.declared.prog.Prog.TheOpen.{Prog-F, Nil, Act, Test, Seq, Choice, Pick, Star, If, While, Conc, Prio, Cstar, Call, Search, Follow}
use Rattle.golog_tree.specs.declared.prog.Prog.TheVariants as prog
use Rattle.golog_tree.specs.declared.prog.Prog.TheViews.{out-Prog}

-- one level of a program
abbrev pub Layer : Type 0
Layer = Prog-F Prog Way

-- two programs joined, or the second alone where the first is empty
abbrev pub tidy_left : (Prog → Prog → Prog) → Layer → Prog → Prog → Prog
tidy_left join Nil p q = q
tidy_left join _ p q = join p q

-- two programs joined, or the first alone where the second is empty
abbrev pub tidy_right : (Prog → Prog → Prog) → Layer → Prog → Prog → Prog
tidy_right join Nil p q = p
tidy_right join _ p q = join p q

-- a sequence, without an empty first part
abbrev pub tidy_seq : Prog → Prog → Prog
tidy_seq p q = tidy_left prog.Seq (out-Prog p) p q

-- a pair of programs, without an empty part
abbrev pub tidy_pair : (Prog → Prog → Prog) → Prog → Prog → Prog
tidy_pair join p q = tidy_left (tidy_right join (out-Prog q)) (out-Prog p) p q

-- two programs beside each other, without an empty part
abbrev pub tidy_conc : Prog → Prog → Prog
tidy_conc = tidy_pair prog.Conc

-- one program over another, without an empty part
abbrev pub tidy_prio : Prog → Prog → Prog
tidy_prio = tidy_pair prog.Prio
