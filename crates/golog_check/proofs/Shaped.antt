-- What looks at no condition and at no argument says the same of a program and of its shape.
use Rattle.std.proofs.Common.{◌≡◌, List, [], ◌∷◌, ◌++◌, map, Ok, sym, ap, subst, ◌∙◌, append_assoc}
use Rattle.std.proofs.lemmas.List.{append-nil, map-append}
use Rattle.golog_tree.specs.declared.cond.Arg.{Arg}
use Rattle.golog_tree.specs.declared.cond.Cond.{Cond}
use Rattle.golog_tree.specs.declared.draft_prog.DraftProg.{DraftProg}
use Rattle.golog_tree.specs.declared.draft_prog.DraftProg.TheOpen as draft
use Rattle.golog_tree.specs.declared.draft_prog.DraftProg.TheOpen.{DraftProg-F}
use Rattle.golog_tree.specs.declared.draft_prog.DraftProg.TheViews.{roll-DraftProg}
use Rattle.golog_tree.specs.declared.draft_prog.DraftProg.TheFolds.{fold-roll-DraftProg, ind-DraftProg, map-DraftProg}
use Rattle.golog_tree.specs.declared.prog.Prog.{Prog}
use Rattle.golog_tree.specs.declared.prog.Way.{Way}
use Rattle.golog_tree.specs.declared.prog.Prog.TheVariants as prog
use Rattle.golog_tree.specs.declared.prog.Prog.TheOpen.{Prog-F, Way-F, Nil, Act, Test, Seq, Choice, Pick, Star, If, While, Conc, Prio, Cstar, Call, Search}
use Rattle.golog_tree.specs.declared.prog.Prog.TheViews.{roll-Prog}
use Rattle.golog_tree.specs.declared.prog.Prog.TheFolds.{fold-Prog, fold-Way, fold-roll-Prog, map-Prog}
use Rattle.golog_tree.specs.Ground.{to_count}
use Rattle.golog_rows.specs.Reading.{Reading, gives, ◌>>=◌, each}
use Rattle.golog_tree.specs.declared.join.Join.{Join}
use Rattle.golog_tree.specs.declared.join.Join.TheVariants.{Seq as InSeq, Choice as InChoice, Conc as InConc, Prio as InPrio}
use Rattle.golog_check.specs.DeclaredItems.{Declared}
use Rattle.golog_check.specs.Sorts.{action_sorts, param_sorts}
use Rattle.golog_check.specs.Scope.{Scope, variable_no, within}
use Rattle.golog_check.specs.Terms.{args_in}
use Rattle.golog_check.specs.Conditions.{cond_in}
use Rattle.golog_check.specs.Programs.{InScope, nested, progs_in, parts_in, prog_step, prog_in}
use Rattle.golog_shapes.specs.Shapes.{no_cond, shape, shape_step}
use Rattle.golog_shapes.proofs.Shaped.{IsBlind, by-layer, nest_by, nested-by}
use Rattle.golog_check.proofs.Readings.{both, ok-same}

module _ (A : Type 0) (step : Prog-F A A → A) (way : Way-F A A → A) (blind : IsBlind A step way) (names : Declared) where
  abbrev F : Prog → A
  F = fold-Prog A A step way

  abbrev Same : DraftProg → Type 0
  Same d = (scope : Scope) (p : Prog) → (prog_in names d scope).outcome ≡ Ok p → F p ≡ F (shape d)

  abbrev One : Type 0
  One = (d : DraftProg) × Same d

  abbrev drafts_of : DraftProg-F One → DraftProg-F DraftProg
  drafts_of y = map-DraftProg One DraftProg (λ d. d.0) y

  abbrev all_of : List One → List DraftProg
  all_of ds = map (λ d. d.0) ds

  abbrev one_in : Scope → List Prog → InScope → Reading Prog
  one_in scope before f = f scope

  each-same : (scope : Scope) (ds : List One) (done result : List Prog)
      → (each (one_in scope) done (map (prog_in names) (all_of ds))).outcome ≡ Ok result
      → map F result ≡ map F done ++ map F (map shape (all_of ds))
  each-same scope [] done result h = ap (map F) (sym (ok-same done result h)) ∙ sym (append-nil (map F done))
  each-same scope (d ∷ ds) done result h =
      let b = both (prog_in names d.0 scope) (λ x. each (one_in scope) (done ++ x ∷ []) (map (prog_in names) (all_of ds))) result h in
      let rest = map F (map shape (all_of ds)) in
      each-same scope ds (done ++ b.value ∷ []) result b.other
      ∙ ap (λ ns. ns ++ rest) (map-append F done (b.value ∷ []))
      ∙ append_assoc (map F done) (F b.value ∷ []) rest
      ∙ ap (λ n. map F done ++ n ∷ rest) (d.1 scope b.value b.one)

  parts-same : (join : Join) (scope : Scope) (ds : List One) (p : Prog)
      → (parts_in join scope (map (prog_in names) (all_of ds))).outcome ≡ Ok p
      → F p ≡ F (nested join (map shape (all_of ds)))
  parts-same join scope ds p h =
      let b = both (progs_in scope (map (prog_in names) (all_of ds))) (λ parts. gives (nested join parts)) p h in
      ap F (sym (ok-same (nested join b.value) p b.other)) ∙ nested-by A step way join b.value
      ∙ ap (nest_by A step way join) (each-same scope ds [] b.value b.one) ∙ sym (nested-by A step way join (map shape (all_of ds)))

  -- a program that is read, and its shape, of which the steps are the same
  as-shape : (l m : Prog-F Prog Way) (made p like : Prog) → roll-Prog l ≡ made → roll-Prog m ≡ like
      → step (map-Prog Prog Way A A F (fold-Way A A step way) l) ≡ step (map-Prog Prog Way A A F (fold-Way A A step way) m)
      → (gives made).outcome ≡ Ok p → F p ≡ F like
  as-shape l m made p like own its e h = ap F (sym (ok-same made p h)) ∙ by-layer A step way l made own ∙ e ∙ sym (by-layer A step way m like its)

  layer : (scope : Scope) (y : DraftProg-F One) (p : Prog)
      → (prog_step names (map-DraftProg DraftProg InScope (prog_in names) (drafts_of y)) scope).outcome ≡ Ok p
      → F p ≡ F (shape_step (map-DraftProg DraftProg Prog shape (drafts_of y)))
  layer scope (draft.Nil at) p h = ap F (sym (ok-same prog.Nil p h))
  layer scope (draft.Act action args at) p h =
      let b = both (args_in names scope (action_sorts names action) args) (λ args. gives (prog.Act action args)) p h in
      as-shape (Act action b.value) (Act action []) (prog.Act action b.value) p (prog.Act action []) (prog.rolls-Act action b.value) (prog.rolls-Act action [])
      (blind.act action b.value) b.other
  layer scope (draft.Test c at) p h =
      let b = both (cond_in names c scope) (λ c. gives (prog.Test c)) p h in
      as-shape (Test b.value) (Test no_cond) (prog.Test b.value) p (prog.Test no_cond) (prog.rolls-Test b.value) (prog.rolls-Test no_cond) (blind.test b.value) b.other
  layer scope (draft.Seq ds at) p h = parts-same InSeq scope ds p h
  layer scope (draft.Choice ds at) p h = parts-same InChoice scope ds p h
  layer scope (draft.Pick word sort d at) p h =
      let x = variable_no scope in
      let b = both (prog_in names d.0 (within word sort scope)) (λ p. gives (prog.Pick x sort p)) p h in
      as-shape (Pick x sort b.value) (Pick 0 sort (shape d.0)) (prog.Pick x sort b.value) p (prog.Pick 0 sort (shape d.0))
      (prog.rolls-Pick x sort b.value) (prog.rolls-Pick 0 sort (shape d.0))
      (blind.pick x sort (F b.value) ∙ ap (λ q. step (Pick 0 sort q)) (d.1 (within word sort scope) b.value b.one)) b.other
  layer scope (draft.Star d at) p h =
      let b = both (prog_in names d.0 scope) (λ p. gives (prog.Star p)) p h in
      as-shape (Star b.value) (Star (shape d.0)) (prog.Star b.value) p (prog.Star (shape d.0)) (prog.rolls-Star b.value) (prog.rolls-Star (shape d.0))
      (ap (λ q. step (Star q)) (d.1 scope b.value b.one)) b.other
  layer scope (draft.If t d e at) p h =
      let a = both (cond_in names t scope) (λ c. prog_in names d.0 scope >>= λ p. prog_in names e.0 scope >>= λ q. gives (prog.If c p q)) p h in
      let f = both (prog_in names d.0 scope) (λ p. prog_in names e.0 scope >>= λ q. gives (prog.If a.value p q)) p a.other in
      let g = both (prog_in names e.0 scope) (λ q. gives (prog.If a.value f.value q)) p f.other in
      as-shape (If a.value f.value g.value) (If no_cond (shape d.0) (shape e.0)) (prog.If a.value f.value g.value) p (prog.If no_cond (shape d.0) (shape e.0))
      (prog.rolls-If a.value f.value g.value) (prog.rolls-If no_cond (shape d.0) (shape e.0))
      (blind.if_of a.value (F f.value) (F g.value)
      ∙ ap (λ q. step (If no_cond q (F g.value))) (d.1 scope f.value f.one)
      ∙ ap (λ q. step (If no_cond (F (shape d.0)) q)) (e.1 scope g.value g.one)) g.other
  layer scope (draft.While t d at) p h =
      let a = both (cond_in names t scope) (λ c. prog_in names d.0 scope >>= λ p. gives (prog.While c p)) p h in
      let b = both (prog_in names d.0 scope) (λ p. gives (prog.While a.value p)) p a.other in
      as-shape (While a.value b.value) (While no_cond (shape d.0)) (prog.While a.value b.value) p (prog.While no_cond (shape d.0))
      (prog.rolls-While a.value b.value) (prog.rolls-While no_cond (shape d.0))
      (blind.while_of a.value (F b.value) ∙ ap (λ q. step (While no_cond q)) (d.1 scope b.value b.one)) b.other
  layer scope (draft.Conc ds at) p h = parts-same InConc scope ds p h
  layer scope (draft.Prio ds at) p h = parts-same InPrio scope ds p h
  layer scope (draft.Cstar d at) p h =
      let b = both (prog_in names d.0 scope) (λ p. gives (prog.Cstar p)) p h in
      as-shape (Cstar b.value) (Cstar (shape d.0)) (prog.Cstar b.value) p (prog.Cstar (shape d.0)) (prog.rolls-Cstar b.value) (prog.rolls-Cstar (shape d.0))
      (ap (λ q. step (Cstar q)) (d.1 scope b.value b.one)) b.other
  layer scope (draft.Call item args at) p h =
      let b = both (args_in names scope (param_sorts names item) args) (λ args. gives (prog.Call item args)) p h in
      as-shape (Call item b.value) (Call item []) (prog.Call item b.value) p (prog.Call item []) (prog.rolls-Call item b.value) (prog.rolls-Call item [])
      (blind.call item b.value) b.other
  layer scope (draft.Search depth fuel d at) p h =
      let k = to_count depth in
      let n = to_count fuel in
      let b = both (prog_in names d.0 scope) (λ p. gives (prog.Search k n p)) p h in
      as-shape (Search k n b.value) (Search k n (shape d.0)) (prog.Search k n b.value) p (prog.Search k n (shape d.0))
      (prog.rolls-Search k n b.value) (prog.rolls-Search k n (shape d.0)) (ap (λ q. step (Search k n q)) (d.1 scope b.value b.one)) b.other

  same-layer : (y : DraftProg-F One) → Same (roll-DraftProg (drafts_of y))
  same-layer y scope p h =
      layer scope y p (ap (λ (f : InScope). (f scope).outcome) (sym (fold-roll-DraftProg InScope (prog_step names) (drafts_of y))) ∙ h)
      ∙ ap F (sym (fold-roll-DraftProg Prog shape_step (drafts_of y)))

  -- the same of a program that is read and of its shape
  pub shaped : (d : DraftProg) (scope : Scope) (p : Prog) → (prog_in names d scope).outcome ≡ Ok p → F p ≡ F (shape d)
  shaped = ind-DraftProg Same (λ x y is. subst (λ l. Same (roll-DraftProg l)) is (same-layer y))
