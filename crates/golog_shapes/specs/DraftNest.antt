-- How deep the programs of a draft nest, where parts nest to the right.
use Rattle.std.specs.Prelude.{ℕ, ◌+◌, max, List, [], ◌∷◌}
use Rattle.golog_tree.specs.declared.draft_prog.DraftProg.{DraftProg}
use Rattle.golog_tree.specs.declared.draft_prog.DraftProg.TheOpen.{DraftProg-F, Nil, Act, Test, Seq, Choice, Pick, Star, If, While, Conc, Prio, Cstar, Call, Search}
use Rattle.golog_tree.specs.declared.draft_prog.DraftProg.TheFolds.{fold-DraftProg}

-- the nest of parts that nest to the right, by those of the parts
abbrev pub parts_nest : List ℕ → ℕ
parts_nest [] = 1
parts_nest (part ∷ []) = part
parts_nest (part ∷ next ∷ parts) = 1 + max part (parts_nest (next ∷ parts))

-- the nest, given those of the programs in it
abbrev pub draft_nest_step : DraftProg-F ℕ → ℕ
draft_nest_step (Nil at) = 1
draft_nest_step (Act action args at) = 1
draft_nest_step (Test c at) = 1
draft_nest_step (Seq parts at) = parts_nest parts
draft_nest_step (Choice parts at) = parts_nest parts
draft_nest_step (Pick var sort p at) = 1 + p
draft_nest_step (Star p at) = 1 + p
draft_nest_step (If c p q at) = 1 + max p q
draft_nest_step (While c p at) = 1 + p
draft_nest_step (Conc parts at) = parts_nest parts
draft_nest_step (Prio parts at) = parts_nest parts
draft_nest_step (Cstar p at) = 1 + p
draft_nest_step (Call item args at) = 1
draft_nest_step (Search depth fuel p at) = 1 + p

-- the nest of the program that the draft is
abbrev pub draft_nest : DraftProg → ℕ
draft_nest = fold-DraftProg ℕ draft_nest_step
