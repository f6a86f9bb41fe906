-- The rows of conditions stand in order, where their places ascend.
use Rattle.std.proofs.Common.{◌≡◌, ℕ, ◌+◌, ◌*◌, List, [], ◌∷◌, ◌++◌, map, sym, subst, arith}
use Rattle.std.specs.Prelude.{Bool, true, false}
use Rattle.golog_tree.specs.declared.cond.Cond.{Cond}
use Rattle.golog_tree.specs.declared.cond.Cond.TheVariants as cond
use Rattle.golog_tree.specs.declared.draft_cond.DraftArg.{DraftArg}
use Rattle.golog_tree.specs.declared.draft_cond.DraftTerm.{DraftTerm}
use Rattle.golog_tree.specs.declared.draft_cond.DraftCond.{DraftCond}
use Rattle.golog_tree.specs.declared.draft_cond.DraftCond.TheOpen as draft
use Rattle.golog_tree.specs.declared.draft_cond.DraftCond.TheOpen.{DraftCond-F}
use Rattle.golog_tree.specs.declared.draft_cond.DraftCond.TheViews.{roll-DraftCond}
use Rattle.golog_tree.specs.declared.draft_cond.DraftCond.TheFolds.{fold-roll-DraftCond, ind-DraftCond, map-DraftCond}
use Rattle.golog_rows.specs.Reading.{gives, ◌>>=◌, each}
use Rattle.golog_check.specs.declared.terms.Sides.{Sides}
use Rattle.golog_check.specs.DeclaredItems.{Declared}
use Rattle.golog_check.specs.Sorts.{fluent_sorts}
use Rattle.golog_check.specs.Scope.{Scope, variable_no, within}
use Rattle.golog_check.specs.Terms.{args_in, sides_in}
use Rattle.golog_check.specs.Conditions.{InScope, conds_in, is_in, cond_step, cond_in}
use Rattle.golog_draft.specs.DraftPlaces.{arg_places, term_places, joined, cond_places_step, cond_places}
use Rattle.golog_draft.specs.DraftOrder.{Ascend}
use Rattle.golog_rows.proofs.Chain.{key, chain-low, Spans, gives-spans}
use Rattle.golog_check.proofs.Halves.{each-spans}
use Rattle.golog_check.proofs.TermOrder.{args-spans, sides-spans}
use Rattle.golog_check.proofs.Layers.{in-cond}

module _ (names : Declared) where
  abbrev pub Stands : DraftCond → Type 0
  Stands d = (scope : Scope) (from to : ℕ) → Ascend from (cond_places d) to → Spans from to (cond_in names d scope)

  abbrev Standing : Type 0
  Standing = (d : DraftCond) × Stands d

  abbrev drafts_of : DraftCond-F Standing → DraftCond-F DraftCond
  drafts_of y = map-DraftCond Standing DraftCond (λ d. d.0) y

  places-roll : (l : DraftCond-F DraftCond) → cond_places (roll-DraftCond l) ≡ cond_places_step (map-DraftCond DraftCond (List ℕ) cond_places l)
  places-roll l = fold-roll-DraftCond (List ℕ) cond_places_step l

  module _ (scope : Scope) where
    is-spans : (fluent at from : ℕ) (args : List DraftArg) (to : ℕ) → Ascend from (at ∷ arg_places args) to → Spans from to (is_in names scope fluent args at)
    unfolding is_in
    is-spans fluent at from args to c = (
      omega (arith, c.0),
      omega arith,
      omega arith,
      chain-low (key at 30) (64 * (at + 1)) (64 * to) (args_in names scope (fluent_sorts names fluent) args).rows (omega arith)
          (args-spans names scope (fluent_sorts names fluent) (at + 1) args to c.1),
    )

    compared : (is_order : Bool) (make : Sides → Cond) (from : ℕ) (one other : DraftTerm) (to : ℕ) → Ascend from (term_places one ++ term_places other) to
        → Spans from to (sides_in names scope is_order one other >>= λ (sides : Sides). gives (make sides))
    compared is_order make from one other to c =
        gives-spans from to (sides_in names scope is_order one other) make (sides-spans names scope is_order from one other to c)

    all : (make : List Cond → Cond) (from : ℕ) (ds : List Standing) (to : ℕ) → Ascend from (joined (map cond_places (map (λ d. d.0) ds))) to
        → Spans from to (conds_in scope (map (cond_in names) (map (λ d. d.0) ds)) >>= λ cs. gives (make cs))
    all make from ds to c = gives-spans from to (conds_in scope (map (cond_in names) (map (λ d. d.0) ds))) make (each-spans cond_places (cond_in names) scope [] from ds to c)

    layer : (y : DraftCond-F Standing) (from to : ℕ) → Ascend from (cond_places_step (map-DraftCond DraftCond (List ℕ) cond_places (drafts_of y))) to
        → Spans from to (cond_step names (map-DraftCond DraftCond InScope (cond_in names) (drafts_of y)) scope)
    layer (draft.Truth truth at) from to c = omega (arith, c)
    layer (draft.Is fluent args at) from to c = gives-spans from to (is_in names scope fluent args at) (λ args. cond.Is fluent args) (is-spans fluent at from args to c)
    layer (draft.Equal one other at) from to c = compared false (λ (sides : Sides). cond.Equal sides.sort sides.one sides.other) from one other to c
    layer (draft.Less one other at) from to c = compared true (λ (sides : Sides). cond.Less sides.sort sides.one sides.other) from one other to c
    layer (draft.AtMost one other at) from to c = compared true (λ (sides : Sides). cond.AtMost sides.sort sides.one sides.other) from one other to c
    layer (draft.Not d at) from to c = gives-spans from to (cond_in names d.0 scope) (λ c. cond.Not c) (d.1 scope from to c)
    layer (draft.And ds at) from to c = all (λ cs. cond.And cs) from ds to c
    layer (draft.Or ds at) from to c = all (λ cs. cond.Or cs) from ds to c
    layer (draft.ForSome var sort d at) from to c =
        gives-spans from to (cond_in names d.0 (within var sort scope)) (λ c. cond.ForSome (variable_no scope) sort c) (d.1 (within var sort scope) from to c)
    layer (draft.ForAll var sort d at) from to c =
        gives-spans from to (cond_in names d.0 (within var sort scope)) (λ c. cond.ForAll (variable_no scope) sort c) (d.1 (within var sort scope) from to c)

  stands-layer : (y : DraftCond-F Standing) → Stands (roll-DraftCond (drafts_of y))
  stands-layer y scope from to c =
      let l = drafts_of y in
      subst (λ (f : InScope). Spans from to (f scope)) (sym (in-cond names l)) (layer scope y from to (subst (λ places. Ascend from places to) (places-roll l) c))

  pub cond-spans : (d : DraftCond) → Stands d
  cond-spans = ind-DraftCond Stands (λ x y is. subst (λ l. Stands (roll-DraftCond l)) is (stands-layer y))
