-- What is said of a program that is left: how it reads, when it may end, and its steps; or what its search blocks want.
use Rattle.std.specs.Prelude.{◌≡◌, Bool, true, false, List, [], ◌∷◌, ◌++◌, codes}
use Rattle.std.specs.List.{flat_map}
use Rattle.golog_tree.specs.declared.agent.Agent.{Agent}
use Rattle.golog_tree.specs.declared.cond.Cond.{Cond}
use Rattle.golog_tree.specs.declared.prog.Prog.{Prog}
use Rattle.golog_semantics.specs.Fronts.{IsEnd}
use Rattle.golog_semantics.specs.Text.{Text, label_text}
use Rattle.golog_semantics.specs.Truth.{Values}
use Rattle.golog_fronts.specs.declared.front_lists.Front.{Front}
use Rattle.golog_fronts.specs.FrontBlock.{has_front_block}
use Rattle.golog_fronts.specs.FrontLists.{AreAllFronts, guarded}
use Rattle.golog_print.specs.Printing.{text_of_prog}
use Rattle.golog_trace.specs.Judged.{judged_text}
use Rattle.golog_trace.specs.Wanted.{blocks_text}

module _ (agent : Agent) (values : Values) where
  -- a step and its condition
  abbrev pub way_text : Front → Text
  way_text front = codes "way " ++ label_text agent front.label ++ codes " if " ++ judged_text agent front.cond values

  -- the condition under which the program may end, and then all its steps in order, each with its condition
  pub record TellsWays (p : Prog) (text : Text) : Type 0 where
    pub end : Cond
    pub is_end : IsEnd agent p end
    pub fronts : List Front
    pub are_fronts : AreAllFronts agent p (guarded fronts)
    pub text_is : text ≡ (codes "end if " ++ judged_text agent end values) ++ flat_map way_text fronts

  -- Where a search block stands at the front, what the blocks there want; else the end and the steps.
  abbrev pub TellsNext : Prog → Bool → Text → Type 0
  TellsNext p true text = text ≡ blocks_text agent values false p
  TellsNext p false text = TellsWays p text

  -- the program, and these
  pub record TellsLeft (p : Prog) (text : Text) : Type 0 where
    pub next : Text
    pub is_next : TellsNext p (has_front_block agent p) next
    pub text_is : text ≡ (codes "left " ++ text_of_prog agent p ++ 10 ∷ []) ++ next
