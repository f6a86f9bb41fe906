-- Programs of a draft without their conditions and arguments. What a program may call without a step, how deep
-- it nests and where its search blocks stand is told by these alone, also where a term in it is refused.
use Rattle.std.specs.Prelude.{ℕ, true, List, [], map}
use Rattle.golog_tree.specs.declared.agent.Agent.{Agent}
use Rattle.golog_tree.specs.declared.agent.ProcItem.{ProcItem}
use Rattle.golog_tree.specs.declared.cond.Cond.{Cond}
use Rattle.golog_tree.specs.declared.cond.Cond.TheVariants.{Truth}
use Rattle.golog_tree.specs.declared.draft.DraftParam.{DraftParam}
use Rattle.golog_tree.specs.declared.draft.DraftProc.{DraftProc}
use Rattle.golog_tree.specs.declared.draft_prog.DraftProg.{DraftProg}
use Rattle.golog_tree.specs.declared.draft_prog.DraftProg.TheOpen.{DraftProg-F, Nil, Act, Test, Seq, Choice, Pick, Star, If, While, Conc, Prio, Cstar, Call, Search}
use Rattle.golog_tree.specs.declared.draft_prog.DraftProg.TheFolds.{fold-DraftProg}
use Rattle.golog_tree.specs.declared.prog.Prog.{Prog}
use Rattle.golog_tree.specs.declared.prog.Prog.TheVariants as prog
use Rattle.golog_tree.specs.Ground.{to_count}
use Rattle.golog_semantics.specs.NoAgent.{no_agent}
use Rattle.golog_tree.specs.declared.join.Join.TheVariants.{Seq as InSeq, Choice as InChoice, Conc as InConc, Prio as InPrio}
use Rattle.golog_shapes.specs.Nested.{nested}

abbrev pub no_cond : Cond
no_cond = Truth true

-- the program, given those of its parts
abbrev pub shape_step : DraftProg-F Prog → Prog
shape_step (Nil at) = prog.Nil
shape_step (Act action args at) = prog.Act action []
shape_step (Test c at) = prog.Test no_cond
shape_step (Seq parts at) = nested InSeq parts
shape_step (Choice parts at) = nested InChoice parts
shape_step (Pick var sort p at) = prog.Pick 0 sort p
shape_step (Star p at) = prog.Star p
shape_step (If c p q at) = prog.If no_cond p q
shape_step (While c p at) = prog.While no_cond p
shape_step (Conc parts at) = nested InConc parts
shape_step (Prio parts at) = nested InPrio parts
shape_step (Cstar p at) = prog.Cstar p
shape_step (Call item args at) = prog.Call item []
shape_step (Search depth fuel p at) = prog.Search (to_count depth) (to_count fuel) p

abbrev pub shape : DraftProg → Prog
shape = fold-DraftProg Prog shape_step

abbrev pub param_sorts : DraftProc → List ℕ
param_sorts proc = map (λ (param : DraftParam). param.sort) proc.params

abbrev pub shape_of : DraftProc → ProcItem
shape_of item = record { name = item.name; params = param_sorts item; body = shape item.body }

-- an agent of these procedures and of nothing else
abbrev pub with_procs : List ProcItem → Agent
with_procs procs = record no_agent { procs = procs }

abbrev pub shapes : List DraftProc → Agent
shapes procs = with_procs (map shape_of procs)
