-- A program beside another one.
use Rattle.golog_tree.specs.declared.prog.Prog.{Prog}
use Rattle.golog_tree.specs.Tidy.{tidy_seq, tidy_conc, tidy_prio}
use Rattle.golog_fronts.specs.declared.context.Place.{Place}
use Rattle.golog_fronts.specs.declared.context.Place.TheVariants.{Before, FirstBeside, SecondBeside, Over, Under}

-- the program at its place beside the other one, without an empty part
abbrev pub placed : Place → Prog → Prog → Prog
placed Before p other = tidy_seq p other
placed FirstBeside p other = tidy_conc p other
placed SecondBeside p other = tidy_conc other p
placed Over p other = tidy_prio p other
placed Under p other = tidy_prio other p
