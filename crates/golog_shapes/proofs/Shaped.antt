-- What looks at no condition and at no argument, of parts that nest.
use Rattle.std.proofs.Common.{◌≡◌, ℕ, List, [], ◌∷◌, map, refl, sym, ap, ◌∙◌}
use Rattle.golog_tree.specs.declared.cond.Arg.{Arg}
use Rattle.golog_tree.specs.declared.cond.Cond.{Cond}
use Rattle.golog_tree.specs.declared.prog.Prog.{Prog}
use Rattle.golog_tree.specs.declared.prog.Way.{Way}
use Rattle.golog_tree.specs.declared.prog.Prog.TheVariants as prog
use Rattle.golog_tree.specs.declared.prog.Prog.TheOpen.{Prog-F, Way-F, Nil, Act, Test, Seq, Choice, Pick, If, While, Conc, Prio, Call}
use Rattle.golog_tree.specs.declared.prog.Prog.TheViews.{roll-Prog}
use Rattle.golog_tree.specs.declared.prog.Prog.TheFolds.{fold-Prog, fold-Way, fold-roll-Prog, map-Prog}
use Rattle.golog_tree.specs.declared.join.Join.{Join}
use Rattle.golog_tree.specs.declared.join.Join.TheVariants.{Seq as InSeq, Choice as InChoice, Conc as InConc, Prio as InPrio}
use Rattle.golog_shapes.specs.Nested.{joined, nested}
use Rattle.golog_shapes.specs.Shapes.{no_cond}

module _ (A : Type 0) (step : Prog-F A A → A) (way : Way-F A A → A) where
  -- it looks at no condition, no argument and no variable's number
  pub record IsBlind : Type 0 where
    pub act : (action : ℕ) (args : List Arg) → step (Act action args) ≡ step (Act action [])
    pub test : (c : Cond) → step (Test c) ≡ step (Test no_cond)
    pub pick : (x sort : ℕ) (p : A) → step (Pick x sort p) ≡ step (Pick 0 sort p)
    pub if_of : (c : Cond) (p q : A) → step (If c p q) ≡ step (If no_cond p q)
    pub while_of : (c : Cond) (p : A) → step (While c p) ≡ step (While no_cond p)
    pub call : (item : ℕ) (args : List Arg) → step (Call item args) ≡ step (Call item [])

  abbrev pub F : Prog → A
  F = fold-Prog A A step way

  roll : (l : Prog-F Prog Way) → F (roll-Prog l) ≡ step (map-Prog Prog Way A A F (fold-Way A A step way) l)
  roll l = fold-roll-Prog A A step way l

  pub by-layer : (l : Prog-F Prog Way) (p : Prog) → roll-Prog l ≡ p → F p ≡ step (map-Prog Prog Way A A F (fold-Way A A step way) l)
  by-layer l p e = ap F (sym e) ∙ roll l

  abbrev pub join_step : Join → A → A → A
  join_step InSeq p q = step (Seq p q)
  join_step InChoice p q = step (Choice p q)
  join_step InConc p q = step (Conc p q)
  join_step InPrio p q = step (Prio p q)

  abbrev pub nest_by : Join → List A → A
  nest_by join [] = step Nil
  nest_by join (p ∷ []) = p
  nest_by join (p ∷ q ∷ ps) = join_step join p (nest_by join (q ∷ ps))

  joined-by : (join : Join) (p q : Prog) → F (joined join p q) ≡ join_step join (F p) (F q)
  joined-by InSeq p q = by-layer (Seq p q) (prog.Seq p q) (prog.rolls-Seq p q)
  joined-by InChoice p q = by-layer (Choice p q) (prog.Choice p q) (prog.rolls-Choice p q)
  joined-by InConc p q = by-layer (Conc p q) (prog.Conc p q) (prog.rolls-Conc p q)
  joined-by InPrio p q = by-layer (Prio p q) (prog.Prio p q) (prog.rolls-Prio p q)

  pub nested-by : (join : Join) (ps : List Prog) → F (nested join ps) ≡ nest_by join (map F ps)
  nested-by join [] = by-layer Nil prog.Nil prog.rolls-Nil
  nested-by join (p ∷ []) = refl
  nested-by join (p ∷ q ∷ ps) =
      joined-by join p (nested join (q ∷ ps)) ∙ ap (λ r. join_step join (F p) r) (nested-by join (q ∷ ps))
