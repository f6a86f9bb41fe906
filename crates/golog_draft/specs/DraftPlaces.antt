-- The places of a draft at which an item, or a part of it, may be refused, in the order in which it is read.
use Rattle.std.specs.Prelude.{ℕ, List, [], ◌∷◌, ◌++◌, map, Option, Some, None}
use Rattle.golog_tree.specs.declared.draft.DraftSort.{DraftSort}
use Rattle.golog_tree.specs.declared.draft.DraftSort.TheVariants.{Range, Listed}
use Rattle.golog_tree.specs.declared.draft.DraftMain.{DraftMain}
use Rattle.golog_tree.specs.declared.draft.DraftPoss.{DraftPoss}
use Rattle.golog_tree.specs.declared.draft.DraftCause.{DraftCause}
use Rattle.golog_tree.specs.declared.draft.DraftSense.{DraftSense}
use Rattle.golog_tree.specs.declared.draft.DraftStart.{DraftStart}
use Rattle.golog_tree.specs.declared.draft.DraftStart.TheVariants.{Each, One}
use Rattle.golog_tree.specs.declared.draft_cond.DraftArg.{DraftArg}
use Rattle.golog_tree.specs.declared.draft_cond.DraftTerm.{DraftTerm}
use Rattle.golog_tree.specs.declared.draft_cond.DraftTerm.TheOpen as term
use Rattle.golog_tree.specs.declared.draft_cond.DraftTerm.TheOpen.{DraftTerm-F}
use Rattle.golog_tree.specs.declared.draft_cond.DraftTerm.TheFolds.{fold-DraftTerm}
use Rattle.golog_tree.specs.declared.draft_cond.DraftCond.{DraftCond}
use Rattle.golog_tree.specs.declared.draft_cond.DraftCond.TheOpen as cond
use Rattle.golog_tree.specs.declared.draft_cond.DraftCond.TheOpen.{DraftCond-F}
use Rattle.golog_tree.specs.declared.draft_cond.DraftCond.TheFolds.{fold-DraftCond}
use Rattle.golog_tree.specs.declared.draft_prog.DraftProg.{DraftProg}
use Rattle.golog_tree.specs.declared.draft_prog.DraftProg.TheOpen.{DraftProg-F, Nil, Act, Test, Seq, Choice, Pick, Star, If, While, Conc, Prio, Cstar, Call, Search}
use Rattle.golog_tree.specs.declared.draft_prog.DraftProg.TheFolds.{fold-DraftProg}
use Rattle.golog_tree.specs.declared.draft_cond.DraftArg.TheVariants.{Word, Number}
use Rattle.golog_tree.specs.declared.draft.DraftProc.{DraftProc}

-- the place where the item of a sort begins
abbrev pub sort_place : DraftSort → ℕ
sort_place (Range name low high at) = at
sort_place (Listed name constants at) = at

abbrev pub arg_place : DraftArg → ℕ
arg_place (Word word at) = at
arg_place (Number number at) = at

abbrev pub arg_places : List DraftArg → List ℕ
arg_places args = map arg_place args

-- the places of parts, one after another
abbrev pub joined : List (List ℕ) → List ℕ
joined [] = []
joined (places ∷ parts) = places ++ joined parts

abbrev pub term_places_step : DraftTerm-F (List ℕ) → List ℕ
term_places_step (term.Arg arg) = arg_place arg ∷ []
term_places_step (term.Fluent fluent args at) = at ∷ arg_places args
term_places_step (term.Shift places by at) = at ∷ places

abbrev pub term_places : DraftTerm → List ℕ
term_places = fold-DraftTerm (List ℕ) term_places_step

abbrev pub cond_places_step : DraftCond-F (List ℕ) → List ℕ
cond_places_step (cond.Truth truth at) = []
cond_places_step (cond.Is fluent args at) = at ∷ arg_places args
cond_places_step (cond.Equal one other at) = term_places one ++ term_places other
cond_places_step (cond.Less one other at) = term_places one ++ term_places other
cond_places_step (cond.AtMost one other at) = term_places one ++ term_places other
cond_places_step (cond.Not places at) = places
cond_places_step (cond.And parts at) = joined parts
cond_places_step (cond.Or parts at) = joined parts
cond_places_step (cond.ForSome var sort places at) = places
cond_places_step (cond.ForAll var sort places at) = places

abbrev pub cond_places : DraftCond → List ℕ
cond_places = fold-DraftCond (List ℕ) cond_places_step

abbrev pub prog_places_step : DraftProg-F (List ℕ) → List ℕ
prog_places_step (Nil at) = []
prog_places_step (Act action args at) = arg_places args
prog_places_step (Test c at) = cond_places c
prog_places_step (Seq parts at) = joined parts
prog_places_step (Choice parts at) = joined parts
prog_places_step (Pick var sort places at) = places
prog_places_step (Star places at) = places
prog_places_step (If c first second at) = cond_places c ++ (first ++ second)
prog_places_step (While c places at) = cond_places c ++ places
prog_places_step (Conc parts at) = joined parts
prog_places_step (Prio parts at) = joined parts
prog_places_step (Cstar places at) = places
prog_places_step (Call item args at) = arg_places args
prog_places_step (Search depth fuel places at) = places

abbrev pub prog_places : DraftProg → List ℕ
prog_places = fold-DraftProg (List ℕ) prog_places_step

abbrev pub value_places : Option DraftArg → List ℕ
value_places None = []
value_places (Some arg) = arg_place arg ∷ []

abbrev pub start_places : DraftStart → List ℕ
start_places (Each fluent value at) = value_places value
start_places (One fluent args value at) = arg_places args ++ value_places value

abbrev pub poss_places : DraftPoss → List ℕ
poss_places item = cond_places item.cond

abbrev pub cause_places : DraftCause → List ℕ
cause_places item =
    arg_places item.action_args ++ (arg_places item.fluent_args ++ (term_places item.term ++ cond_places item.cond))

abbrev pub sense_places : DraftSense → List ℕ
sense_places item = item.at ∷ arg_places item.args

abbrev pub main_places : DraftMain → List ℕ
main_places main = main.at ∷ prog_places main.body

abbrev pub proc_places : DraftProc → List ℕ
proc_places item = item.at ∷ prog_places item.body
