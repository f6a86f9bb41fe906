-- Two parts of a program, joined.
use Rattle.std.specs.Prelude.{◌≡◌, Result, Ok}
use Rattle.golog_tree.specs.declared.join.Join.{Join}
use Rattle.golog_tree.specs.declared.join.Join.TheVariants.{Seq as InSeq, Choice as InChoice, Conc as InConc, Prio as InPrio}
use Rattle.golog_tree.specs.declared.prog.Prog.{Prog}
use Rattle.golog_tree.specs.declared.prog.Prog.TheVariants.{Seq, Choice, Conc, Prio}

-- one construct of two parts
abbrev pub joined : Join → Prog → Prog → Prog
joined InSeq first second = Seq first second
joined InChoice first second = Choice first second
joined InConc first second = Conc first second
joined InPrio first second = Prio first second

-- the program joins both parts, which there are
abbrev pub IsJoined : {E : Type 0} → Join → Result Prog E → Result Prog E → Prog → Type 0
IsJoined join first second prog = (p : Prog) × (q : Prog) × (first ≡ Ok p) × (second ≡ Ok q) × (prog ≡ joined join p q)
