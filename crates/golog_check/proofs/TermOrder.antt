-- The rows of arguments and terms stand in order, where their places ascend.
use Rattle.std.proofs.Common.{◌≡◌, ℕ, ◌+◌, ◌*◌, ◌≤◌, List, [], ◌∷◌, ◌++◌, length, sym, subst, arith}
use Rattle.std.specs.Prelude.{not, Bool, ◌&&◌, slice_get, option_map}
use Rattle.golog_tree.specs.declared.cond.Arg.{Arg}
use Rattle.golog_tree.specs.declared.cond.Arg.TheVariants.{Const}
use Rattle.golog_tree.specs.declared.cond.Term.{Term}
use Rattle.golog_tree.specs.declared.cond.Term.TheVariants as term
use Rattle.golog_tree.specs.declared.draft_cond.DraftArg.{DraftArg}
use Rattle.golog_tree.specs.declared.draft_cond.DraftArg.TheVariants.{Word, Number}
use Rattle.golog_tree.specs.declared.draft_cond.DraftTerm.{DraftTerm}
use Rattle.golog_tree.specs.declared.draft_cond.DraftTerm.TheOpen.{DraftTerm-F, Arg as ArgTerm, Fluent, Shift}
use Rattle.golog_tree.specs.declared.draft_cond.DraftTerm.TheViews.{roll-DraftTerm}
use Rattle.golog_tree.specs.declared.draft_cond.DraftTerm.TheFolds.{fold-roll-DraftTerm, ind-DraftTerm, map-DraftTerm}
use Rattle.golog_rows.specs.Reading.{Reading, gives, row, ◌>>=◌, found, each}
use Rattle.golog_check.specs.declared.scope.Meant.{Meant}
use Rattle.golog_check.specs.Codes.{SORT_CLASH, UNBOUND}
use Rattle.golog_check.specs.DeclaredItems.{Declared}
use Rattle.golog_check.specs.Sorts.{number_in, is_range, fluent_sorts}
use Rattle.golog_check.specs.Scope.{Scope, meaning}
use Rattle.golog_check.specs.Terms.{place_step, term_place, common, arg_as, arg_in, next_arg, args_in, term_sort, as_step, term_as, term_in, sides_in}
use Rattle.golog_draft.specs.DraftPlaces.{arg_place, arg_places, term_places_step, term_places}
use Rattle.golog_draft.specs.DraftOrder.{Ascend}
use Rattle.golog_rows.proofs.Chain.{key, Chain, chain-low, chain-high, chain-le, then-chain, gives-chain, found-chain, Spans, then-spans, wider}
use Rattle.golog_check.proofs.Halves.{halves, ascend-le}
use Rattle.golog_check.proofs.Layers.{as-term}

module _ (names : Declared) (scope : Scope) where
  arg_as-chain : (sort : ℕ) (arg : DraftArg) → Chain (key (arg_place arg) 30) (64 * (arg_place arg + 1)) (arg_as names scope sort arg).rows
  arg_as-chain sort (Word word at) =
      found-chain (key at 30) (64 * (at + 1)) UNBOUND at (option_map (λ (meant : Meant). meant.arg) (meaning names scope word at)) (omega arith) (omega arith) (omega arith) (omega arith)
  arg_as-chain sort (Number number at) =
      found-chain (key at 30) (64 * (at + 1)) SORT_CLASH at (option_map Const (number_in names sort number)) (omega arith) (omega arith) (omega arith) (omega arith)

  arg_in-chain : (sort : ℕ) (arg : DraftArg) → Chain (key (arg_place arg) 30) (64 * (arg_place arg + 1)) (arg_in names scope sort arg).rows
  unfolding arg_in
  arg_in-chain sort arg = (omega arith, omega arith, omega arith, arg_as-chain sort arg)

  pub arg_in-spans : (sort : ℕ) (arg : DraftArg) → Spans (arg_place arg) (arg_place arg + 1) (arg_in names scope sort arg)
  arg_in-spans sort arg =
      chain-low (64 * arg_place arg) (key (arg_place arg) 30) (64 * (arg_place arg + 1)) (arg_in names scope sort arg).rows (omega arith) (arg_in-chain sort arg)

  next_arg-spans : (sorts : List ℕ) (before : List Arg) (arg : DraftArg) → Spans (arg_place arg) (arg_place arg + 1) (next_arg names scope sorts before arg)
  unfolding next_arg
  next_arg-spans sorts before arg =
      then-chain (64 * arg_place arg) (key (arg_place arg) 30) (64 * (arg_place arg + 1)) (found SORT_CLASH (arg_place arg) (slice_get sorts (length before))) (λ sort. arg_in names scope sort arg) (omega arith)
      (found-chain (64 * arg_place arg) (key (arg_place arg) 30) SORT_CLASH (arg_place arg) (slice_get sorts (length before)) (omega arith) (omega arith) (omega arith) (omega arith))
      (λ sort. arg_in-chain sort arg)

  args-from : (sorts : List ℕ) (before : List Arg) (from : ℕ) (args : List DraftArg) (to : ℕ) → Ascend from (arg_places args) to → Spans from to (each (next_arg names scope sorts) before args)
  args-from sorts before from [] to c = omega (arith, c)
  args-from sorts before from (arg ∷ args) to c =
      then-spans from (arg_place arg + 1) to (next_arg names scope sorts before arg) (λ x. each (next_arg names scope sorts) (before ++ x ∷ []) args) (ascend-le (arg_place arg + 1) (arg_places args) to c.1)
      (wider from (arg_place arg) (arg_place arg + 1) (arg_place arg + 1) (next_arg names scope sorts before arg) c.0 (omega arith) (next_arg-spans sorts before arg))
      (λ x. args-from sorts (before ++ x ∷ []) (arg_place arg + 1) args to c.1)

  pub args-spans : (sorts : List ℕ) (from : ℕ) (args : List DraftArg) (to : ℕ) → Ascend from (arg_places args) to → Spans from to (args_in names scope sorts args)
  args-spans sorts from args to c = args-from sorts [] from args to c

  -- The rows of a term stand behind a clash of sorts at its place.
  record Stands (d : DraftTerm) (from to : ℕ) : Type 0 where
    behind : from ≤ term_place d
    rows : (sort : ℕ) → Chain (key (term_place d) 30) (64 * to) (term_as names scope d sort).rows

  abbrev AlwaysStands : DraftTerm → Type 0
  AlwaysStands d = (from to : ℕ) → Ascend from (term_places d) to → Stands d from to

  abbrev Standing : Type 0
  Standing = (d : DraftTerm) × AlwaysStands d

  abbrev drafts_of : DraftTerm-F Standing → DraftTerm-F DraftTerm
  drafts_of y = map-DraftTerm Standing DraftTerm (λ d. d.0) y

  place-roll : (l : DraftTerm-F DraftTerm) → term_place (roll-DraftTerm l) ≡ place_step (map-DraftTerm DraftTerm ℕ term_place l)
  place-roll l = fold-roll-DraftTerm ℕ place_step l

  places-roll : (l : DraftTerm-F DraftTerm) → term_places (roll-DraftTerm l) ≡ term_places_step (map-DraftTerm DraftTerm (List ℕ) term_places l)
  places-roll l = fold-roll-DraftTerm (List ℕ) term_places_step l

  -- a layer of a term
  record Layer (y : DraftTerm-F Standing) (from to : ℕ) : Type 0 where
    behind : from ≤ place_step (map-DraftTerm DraftTerm ℕ term_place (drafts_of y))
    rows : (sort : ℕ) → Chain (key (place_step (map-DraftTerm DraftTerm ℕ term_place (drafts_of y))) 30) (64 * to)
        (as_step names scope (map-DraftTerm DraftTerm (ℕ → Reading Term) (term_as names scope) (drafts_of y)) sort).rows

  layer : (y : DraftTerm-F Standing) (from to : ℕ) → Ascend from (term_places_step (map-DraftTerm DraftTerm (List ℕ) term_places (drafts_of y))) to → Layer y from to
  layer (ArgTerm arg) from to c = record {
    behind = c.0;
    rows = λ sort. chain-high (key (arg_place arg) 30) (64 * (arg_place arg + 1)) (64 * to) _ (omega (arith, c.1))
        (gives-chain (key (arg_place arg) 30) (64 * (arg_place arg + 1)) (arg_as names scope sort arg) (λ arg. term.Arg arg) (arg_as-chain sort arg));
  }
  layer (Fluent fluent args at) from to c = record {
    behind = c.0;
    rows = λ sort. gives-chain (key at 30) (64 * to) (args_in names scope (fluent_sorts names fluent) args) (λ args. term.Fluent fluent args)
        (chain-low (key at 30) (64 * (at + 1)) (64 * to) (args_in names scope (fluent_sorts names fluent) args).rows (omega arith) (args-spans (fluent_sorts names fluent) (at + 1) args to c.1));
  }
  layer (Shift d by at) from to c =
      let inner = d.1 (at + 1) to c.1 in
      record {
        behind = c.0;
        rows = λ sort. (
          omega arith,
          omega arith,
          omega arith,
          gives-chain (key at 30) (64 * to) (term_as names scope d.0 sort) (λ t. term.Shift sort t by)
              (chain-low (key at 30) (key (term_place d.0) 30) (64 * to) (term_as names scope d.0 sort).rows (omega (arith, inner.behind)) (inner.rows sort)),
        );
      }

  stands-layer : (y : DraftTerm-F Standing) → AlwaysStands (roll-DraftTerm (drafts_of y))
  stands-layer y from to c =
      let l = drafts_of y in
      let b = layer y from to (subst (λ places. Ascend from places to) (places-roll l) c) in
      record {
        behind = subst (λ at. from ≤ at) (sym (place-roll l)) b.behind;
        rows = λ sort. subst (λ at. Chain (key at 30) (64 * to) (term_as names scope (roll-DraftTerm l) sort).rows) (sym (place-roll l))
            (subst (λ (f : ℕ → Reading Term). Chain (key (place_step (map-DraftTerm DraftTerm ℕ term_place l)) 30) (64 * to) (f sort).rows) (sym (as-term names scope l)) (b.rows sort));
      }

  stands : (d : DraftTerm) → AlwaysStands d
  stands = ind-DraftTerm AlwaysStands (λ x y is. subst (λ l. AlwaysStands (roll-DraftTerm l)) is (stands-layer y))

  pub term-spans : (sort from : ℕ) (d : DraftTerm) (to : ℕ) → Ascend from (term_places d) to → Spans from to (term_in names scope sort d)
  unfolding term_in
  term-spans sort from d to c =
      let s = stands d from to c in
      (omega (arith, s.behind), omega arith, omega arith, s.rows sort)

  pub sides-spans : (is_order : Bool) (from : ℕ) (one other : DraftTerm) (to : ℕ) → Ascend from (term_places one ++ term_places other) to → Spans from to (sides_in names scope is_order one other)
  unfolding sides_in
  sides-spans is_order from one other to c =
      let h = halves from (term_places one) (term_places other) to c in
      let s = stands one from h.mid h.one in
      let t = stands other h.mid to h.other in
      let low = key (term_place one) 30 in
      let le = ascend-le h.mid (term_places other) to h.other in
      then-chain (64 * from) low (64 * to) (found SORT_CLASH (term_place one) (common (term_sort names scope one) (term_sort names scope other)))
      (λ sort. row (is_order && not (is_range names sort)) SORT_CLASH (term_place one)
      (term_as names scope one sort >>= λ a. term_as names scope other sort >>= λ b. gives (record { sort = sort; one = a; other = b })))
      (omega (arith, le, chain-le low (64 * h.mid) (term_as names scope one 0).rows (s.rows (0))))
      (found-chain (64 * from) low SORT_CLASH (term_place one) (common (term_sort names scope one) (term_sort names scope other)) (omega (arith, s.behind)) (omega arith) (omega arith) (omega arith))
      (λ sort. (
        omega arith,
        omega arith,
        omega arith,
        then-chain low (64 * h.mid) (64 * to) (term_as names scope one sort) (λ a. term_as names scope other sort >>= λ b. gives (record { sort = sort; one = a; other = b })) (omega (arith, le)) (s.rows sort)
            (λ a. gives-chain (64 * h.mid) (64 * to) (term_as names scope other sort) (λ b. record { sort = sort; one = a; other = b })
            (chain-low (64 * h.mid) (key (term_place other) 30) (64 * to) (term_as names scope other sort).rows (omega (arith, t.behind)) (t.rows sort))),
      ))
