-- Folds over programs, and induction, construct by construct.
use Rattle.std.proofs.Common.{◌≡◌, ℕ, List, [], ◌∷◌, map, sym, ap, ◌∙◌, subst}
use Rattle.std.specs.Prelude.{⊤}
use Rattle.golog_tree.specs.declared.cond.Arg.{Arg}
use Rattle.golog_tree.specs.declared.cond.Cond.{Cond}
use Rattle.golog_tree.specs.declared.prog.Label.{Label}
use Rattle.golog_tree.specs.declared.prog.Prog.{Prog}
use Rattle.golog_tree.specs.declared.prog.Way.{Way, rolls-Way'}
use Rattle.golog_tree.specs.declared.prog.Prog.TheOpen.{Prog-F, Way-F, Nil, Act, Test, Seq, Choice, Pick, Star, If, While, Conc, Prio, Cstar, Call, Search, Follow}
use Rattle.golog_tree.specs.declared.prog.Prog.TheVariants as prog
use Rattle.golog_tree.specs.declared.prog.Prog.TheViews.{roll-Prog, roll-Way}
use Rattle.golog_tree.specs.declared.prog.Prog.TheFolds.{fold-Prog, fold-Way, fold-roll-Prog, fold-roll-Way, ind-Prog, map-Prog, map-Way}

module _ (A B : Type 0) (step : Prog-F A B → A) (way_step : Way-F A B → B) where
  abbrev of : Prog → A
  of = fold-Prog A B step way_step

  abbrev of_way : Way → B
  of_way = fold-Way A B step way_step

  pub fold-nil : of prog.Nil ≡ step Nil
  fold-nil = ap of (sym prog.rolls-Nil) ∙ fold-roll-Prog A B step way_step Nil

  pub fold-act : (action : ℕ) (args : List Arg) → of (prog.Act action args) ≡ step (Act action args)
  fold-act action args = ap of (sym (prog.rolls-Act action args)) ∙ fold-roll-Prog A B step way_step (Act action args)

  pub fold-test : (c : Cond) → of (prog.Test c) ≡ step (Test c)
  fold-test c = ap of (sym (prog.rolls-Test c)) ∙ fold-roll-Prog A B step way_step (Test c)

  pub fold-seq : (p : Prog) (q : Prog) → of (prog.Seq p q) ≡ step (Seq (of p) (of q))
  fold-seq p q = ap of (sym (prog.rolls-Seq p q)) ∙ fold-roll-Prog A B step way_step (Seq p q)

  pub fold-choice : (p : Prog) (q : Prog) → of (prog.Choice p q) ≡ step (Choice (of p) (of q))
  fold-choice p q = ap of (sym (prog.rolls-Choice p q)) ∙ fold-roll-Prog A B step way_step (Choice p q)

  pub fold-pick : (x : ℕ) (sort : ℕ) (p : Prog) → of (prog.Pick x sort p) ≡ step (Pick x sort (of p))
  fold-pick x sort p = ap of (sym (prog.rolls-Pick x sort p)) ∙ fold-roll-Prog A B step way_step (Pick x sort p)

  pub fold-star : (p : Prog) → of (prog.Star p) ≡ step (Star (of p))
  fold-star p = ap of (sym (prog.rolls-Star p)) ∙ fold-roll-Prog A B step way_step (Star p)

  pub fold-if : (c : Cond) (p : Prog) (q : Prog) → of (prog.If c p q) ≡ step (If c (of p) (of q))
  fold-if c p q = ap of (sym (prog.rolls-If c p q)) ∙ fold-roll-Prog A B step way_step (If c p q)

  pub fold-while : (c : Cond) (p : Prog) → of (prog.While c p) ≡ step (While c (of p))
  fold-while c p = ap of (sym (prog.rolls-While c p)) ∙ fold-roll-Prog A B step way_step (While c p)

  pub fold-conc : (p : Prog) (q : Prog) → of (prog.Conc p q) ≡ step (Conc (of p) (of q))
  fold-conc p q = ap of (sym (prog.rolls-Conc p q)) ∙ fold-roll-Prog A B step way_step (Conc p q)

  pub fold-prio : (p : Prog) (q : Prog) → of (prog.Prio p q) ≡ step (Prio (of p) (of q))
  fold-prio p q = ap of (sym (prog.rolls-Prio p q)) ∙ fold-roll-Prog A B step way_step (Prio p q)

  pub fold-cstar : (p : Prog) → of (prog.Cstar p) ≡ step (Cstar (of p))
  fold-cstar p = ap of (sym (prog.rolls-Cstar p)) ∙ fold-roll-Prog A B step way_step (Cstar p)

  pub fold-call : (item : ℕ) (args : List Arg) → of (prog.Call item args) ≡ step (Call item args)
  fold-call item args = ap of (sym (prog.rolls-Call item args)) ∙ fold-roll-Prog A B step way_step (Call item args)

  pub fold-search : (depth : ℕ) (fuel : ℕ) (p : Prog) → of (prog.Search depth fuel p) ≡ step (Search depth fuel (of p))
  fold-search depth fuel p = ap of (sym (prog.rolls-Search depth fuel p)) ∙ fold-roll-Prog A B step way_step (Search depth fuel p)

  pub fold-follow : (depth : ℕ) (fuel : ℕ) (p : Prog) (rest : List Way) → of (prog.Follow depth fuel p rest) ≡ step (Follow depth fuel (of p) (map of_way rest))
  fold-follow depth fuel p rest = ap of (sym (prog.rolls-Follow depth fuel p rest)) ∙ fold-roll-Prog A B step way_step (Follow depth fuel p rest)

  pub fold-way : (label : Label) (left : Prog) → of_way (record { label = label; left = left }) ≡ way_step (record { label = label; left = of left })
  fold-way label left =
      ap of_way (sym (rolls-Way' (record { label = label; left = left }))) ∙ fold-roll-Way A B step way_step (record { label = label; left = left })

-- it holds of each of these
abbrev pub OfEach : {A : Type 0} → (A → Type 0) → List A → Type 0
OfEach P [] = ⊤
OfEach P (x ∷ xs) = P x × OfEach P xs

-- the cases of an induction over programs
pub record Cases (P : Prog → Type 0) (W : Way → Type 0) : Type 0 where
  pub nil_case : P prog.Nil
  pub act_case : (action : ℕ) (args : List Arg) → P (prog.Act action args)
  pub test_case : (c : Cond) → P (prog.Test c)
  pub seq_case : (p : Prog) (q : Prog) → P p → P q → P (prog.Seq p q)
  pub choice_case : (p : Prog) (q : Prog) → P p → P q → P (prog.Choice p q)
  pub pick_case : (x : ℕ) (sort : ℕ) (p : Prog) → P p → P (prog.Pick x sort p)
  pub star_case : (p : Prog) → P p → P (prog.Star p)
  pub if_case : (c : Cond) (p : Prog) (q : Prog) → P p → P q → P (prog.If c p q)
  pub while_case : (c : Cond) (p : Prog) → P p → P (prog.While c p)
  pub conc_case : (p : Prog) (q : Prog) → P p → P q → P (prog.Conc p q)
  pub prio_case : (p : Prog) (q : Prog) → P p → P q → P (prog.Prio p q)
  pub cstar_case : (p : Prog) → P p → P (prog.Cstar p)
  pub call_case : (item : ℕ) (args : List Arg) → P (prog.Call item args)
  pub search_case : (depth : ℕ) (fuel : ℕ) (p : Prog) → P p → P (prog.Search depth fuel p)
  pub follow_case : (depth : ℕ) (fuel : ℕ) (p : Prog) (rest : List Way) → P p → OfEach W rest → P (prog.Follow depth fuel p rest)
  pub way_case : (label : Label) (left : Prog) → P left → W (record { label = label; left = left })

module _ (P : Prog → Type 0) (W : Way → Type 0) (cases : Cases P W) where
  abbrev AP : Type 0
  AP = (p : Prog) × P p

  abbrev AW : Type 0
  AW = (w : Way) × W w

  abbrev prog_of : Prog-F AP AW → Prog-F Prog Way
  prog_of y = map-Prog AP AW Prog Way (λ e. e.0) (λ e. e.0) y

  each : (ws : List AW) → OfEach W (map (λ e. e.0) ws)
  each [] = tt
  each (w ∷ ws) = (w.1, each ws)

  layer : (y : Prog-F AP AW) → P (roll-Prog (prog_of y))
  layer Nil = subst P (sym prog.rolls-Nil) cases.nil_case
  layer (Act action args) = subst P (sym (prog.rolls-Act action args)) (cases.act_case action args)
  layer (Test c) = subst P (sym (prog.rolls-Test c)) (cases.test_case c)
  layer (Seq p q) = subst P (sym (prog.rolls-Seq p.0 q.0)) (cases.seq_case p.0 q.0 p.1 q.1)
  layer (Choice p q) = subst P (sym (prog.rolls-Choice p.0 q.0)) (cases.choice_case p.0 q.0 p.1 q.1)
  layer (Pick x sort p) = subst P (sym (prog.rolls-Pick x sort p.0)) (cases.pick_case x sort p.0 p.1)
  layer (Star p) = subst P (sym (prog.rolls-Star p.0)) (cases.star_case p.0 p.1)
  layer (If c p q) = subst P (sym (prog.rolls-If c p.0 q.0)) (cases.if_case c p.0 q.0 p.1 q.1)
  layer (While c p) = subst P (sym (prog.rolls-While c p.0)) (cases.while_case c p.0 p.1)
  layer (Conc p q) = subst P (sym (prog.rolls-Conc p.0 q.0)) (cases.conc_case p.0 q.0 p.1 q.1)
  layer (Prio p q) = subst P (sym (prog.rolls-Prio p.0 q.0)) (cases.prio_case p.0 q.0 p.1 q.1)
  layer (Cstar p) = subst P (sym (prog.rolls-Cstar p.0)) (cases.cstar_case p.0 p.1)
  layer (Call item args) = subst P (sym (prog.rolls-Call item args)) (cases.call_case item args)
  layer (Search depth fuel p) = subst P (sym (prog.rolls-Search depth fuel p.0)) (cases.search_case depth fuel p.0 p.1)
  layer (Follow depth fuel p rest) = subst P (sym (prog.rolls-Follow depth fuel p.0 (map (λ e. e.0) rest))) (cases.follow_case depth fuel p.0 (map (λ e. e.0) rest) p.1 (each rest))

  way_layer : (y : Way-F AP AW) → W (roll-Way (map-Way AP AW Prog Way (λ e. e.0) (λ e. e.0) y))
  way_layer y = subst W (sym (rolls-Way' (map-Way AP AW Prog Way (λ e. e.0) (λ e. e.0) y))) (cases.way_case y.label y.left.0 y.left.1)

  pub by_parts : (p : Prog) → P p
  by_parts = ind-Prog P W (λ x y is. subst (λ z. P (roll-Prog z)) is (layer y)) (λ x y is. subst (λ z. W (roll-Way z)) is (way_layer y))
