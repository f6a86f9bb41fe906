-- The places of the condition that a form spells ascend.
use Rattle.std.proofs.Common.{◌≡◌, ℕ, ◌+◌, ◌<◌, ◌≤◌, Bool, true, false, not, List, [], ◌∷◌, ◌++◌, Option, Some, None, map, sym, ap, subst, ◌∙◌, arith}
use Rattle.std.specs.Prelude.{if◌then◌else◌, codes, nat_le}
use Rattle.golog_form.specs.declared.form.Form.{Form}
use Rattle.golog_form.specs.Shape.{place_of}
use Rattle.golog_form.specs.Places.{IsInOrder}
use Rattle.golog_tree.specs.declared.draft.DraftTheory.{DraftTheory}
use Rattle.golog_tree.specs.declared.draft_cond.DraftArg.{DraftArg}
use Rattle.golog_tree.specs.declared.draft_cond.DraftTerm.{DraftTerm}
use Rattle.golog_tree.specs.declared.draft_cond.DraftCond.{DraftCond}
use Rattle.golog_tree.specs.declared.draft_cond.DraftCond.TheVariants as cond
use Rattle.golog_tree.specs.declared.draft_cond.DraftCond.TheOpen.{Truth, Is, Equal, Less, AtMost, Not, And, Or, ForSome, ForAll}
use Rattle.golog_tree.specs.declared.draft_cond.DraftCond.TheFolds.{fold-roll-DraftCond}
use Rattle.golog_draft.specs.DraftPlaces.{arg_places, joined, term_places, cond_places_step, cond_places}
use Rattle.golog_draft.specs.DraftOrder.{Ascend}
use Rattle.golog_theory.specs.declared.conditions.Sides.{Sides}
use Rattle.golog_theory.specs.declared.conditions.Bound.{Bound}
use Rattle.golog_theory.specs.Reading.{Reading, gives, refused, each}
use Rattle.golog_theory.specs.Names.{same}
use Rattle.golog_theory.specs.Parts.{word, parts}
use Rattle.golog_theory.specs.Heads.{fluent_called}
use Rattle.golog_theory.specs.Recursion.{Part}
use Rattle.golog_theory.specs.Terms.{term_of}
use Rattle.golog_theory.specs.Keywords.{cond_keyword}
use Rattle.golog_theory.specs.declared.keyword.CondKeyword.{CondKeyword}
use Rattle.golog_theory.specs.declared.keyword.CondKeyword.TheVariants as keyword
use Rattle.golog_theory.specs.Conditions.{InScope, truth_of, fluent_cond, sides_of, equal_of, less_of, at_most_of, not_of, conds_of, and_of, or_of, binder_of, bound_of, some_of, all_of, keyword_cond, cond_list, cond_by, cond_of, cond_part}
use Rattle.golog_theory.proofs.Inside.{Each, by_parts, end_of, Between, stands, between-from}
use Rattle.golog_theory.proofs.Conds.{cond_of-parts}
use Rattle.golog_theory.proofs.Yields.{Yields, gives-yields, refused-yields, row-yields, if-yields, then-yields}
use Rattle.golog_theory.proofs.Ascend.{ascend-low, ascend-high, ascend-append, Ascends}
use Rattle.golog_theory.proofs.PlacesOfTerms.{fluent_called-ascend, term_of-ascend}

-- the places of conditions, one after another
abbrev all_places : List DraftCond → List ℕ
all_places cs = joined (map cond_places cs)

-- the places of a condition, by its form
pub places-Truth : (b : Bool) (at : ℕ) → cond_places (cond.Truth b at) ≡ []
places-Truth b at = ap cond_places (sym (cond.rolls-Truth b at)) ∙ fold-roll-DraftCond (List ℕ) cond_places_step (Truth b at)

places-Is : (item : ℕ) (args : List DraftArg) (at : ℕ) → cond_places (cond.Is item args at) ≡ at ∷ arg_places args
places-Is item args at = ap cond_places (sym (cond.rolls-Is item args at)) ∙ fold-roll-DraftCond (List ℕ) cond_places_step (Is item args at)

places-Equal : (one other : DraftTerm) (at : ℕ) → cond_places (cond.Equal one other at) ≡ term_places one ++ term_places other
places-Equal one other at = ap cond_places (sym (cond.rolls-Equal one other at)) ∙ fold-roll-DraftCond (List ℕ) cond_places_step (Equal one other at)

places-Less : (one other : DraftTerm) (at : ℕ) → cond_places (cond.Less one other at) ≡ term_places one ++ term_places other
places-Less one other at = ap cond_places (sym (cond.rolls-Less one other at)) ∙ fold-roll-DraftCond (List ℕ) cond_places_step (Less one other at)

places-AtMost : (one other : DraftTerm) (at : ℕ) → cond_places (cond.AtMost one other at) ≡ term_places one ++ term_places other
places-AtMost one other at = ap cond_places (sym (cond.rolls-AtMost one other at)) ∙ fold-roll-DraftCond (List ℕ) cond_places_step (AtMost one other at)

places-Not : (c : DraftCond) (at : ℕ) → cond_places (cond.Not c at) ≡ cond_places c
places-Not c at = ap cond_places (sym (cond.rolls-Not c at)) ∙ fold-roll-DraftCond (List ℕ) cond_places_step (Not c at)

places-And : (cs : List DraftCond) (at : ℕ) → cond_places (cond.And cs at) ≡ all_places cs
places-And cs at = ap cond_places (sym (cond.rolls-And cs at)) ∙ fold-roll-DraftCond (List ℕ) cond_places_step (And cs at)

places-Or : (cs : List DraftCond) (at : ℕ) → cond_places (cond.Or cs at) ≡ all_places cs
places-Or cs at = ap cond_places (sym (cond.rolls-Or cs at)) ∙ fold-roll-DraftCond (List ℕ) cond_places_step (Or cs at)

places-ForSome : (var : List ℕ) (sort : ℕ) (c : DraftCond) (at : ℕ) → cond_places (cond.ForSome var sort c at) ≡ cond_places c
places-ForSome var sort c at = ap cond_places (sym (cond.rolls-ForSome var sort c at)) ∙ fold-roll-DraftCond (List ℕ) cond_places_step (ForSome var sort c at)

places-ForAll : (var : List ℕ) (sort : ℕ) (c : DraftCond) (at : ℕ) → cond_places (cond.ForAll var sort c at) ≡ cond_places c
places-ForAll var sort c at = ap cond_places (sym (cond.rolls-ForAll var sort c at)) ∙ fold-roll-DraftCond (List ℕ) cond_places_step (ForAll var sort c at)

abbrev Within : ℕ → ℕ → DraftCond → Type 0
Within from to c = Ascend from (cond_places c) to

abbrev AllWithin : ℕ → ℕ → List DraftCond → Type 0
AllWithin from to cs = Ascend from (all_places cs) to

-- a condition of these places
made : (from to : ℕ) (c : DraftCond) (places : List ℕ) → cond_places c ≡ places → Ascend from places to → Within from to c
made from to c places is a = subst (λ others. Ascend from others to) (sym is) a

all_push : (from between to : ℕ) (cs : List DraftCond) (c : DraftCond) → AllWithin from between cs → Within between to c → AllWithin from to (cs ++ c ∷ [])
all_push from between to [] c a is =
    ascend-append from to to (cond_places c) [] (ascend-low from between to (cond_places c) a is) (omega arith)
all_push from between to (one ∷ cs) c a is =
    append-on (cond_places one) (all_places cs) (all_places (cs ++ c ∷ [])) from a (λ low a'. all_push low between to cs c a' is)
  where
    append-on : (ones others more : List ℕ) (low : ℕ) → Ascend low (ones ++ others) between → ((low' : ℕ) → Ascend low' others between → Ascend low' more to)
        → Ascend low (ones ++ more) to
    append-on [] others more low a h = h low a
    append-on (at ∷ ones) others more low a h = (a.0, append-on ones others more (at + 1) a.1 h)

module _ (theory : DraftTheory) where
  abbrev CondAscends : Form → Type 0
  CondAscends f = IsInOrder f → (scope : ℕ) → Ascends cond_places f (cond_of theory f scope)

  abbrev as_parts : List Form → List (Part InScope)
  as_parts fs = map (cond_part theory) fs

  truth_of-ascend : (f : Form) → IsInOrder f → Ascends cond_places f (truth_of f)
  unfolding truth_of
  truth_of-ascend f order =
      let Fits = Within (place_of f) (end_of f) in
      let le : place_of f ≤ end_of f = omega (arith, (stands f order).size) in
      let yes : Fits (cond.Truth true (place_of f)) = made (place_of f) (end_of f) (cond.Truth true (place_of f)) [] (places-Truth true (place_of f)) le in
      let no : Fits (cond.Truth false (place_of f)) = made (place_of f) (end_of f) (cond.Truth false (place_of f)) [] (places-Truth false (place_of f)) le in
      if-yields Fits (same (word f) (codes "true")) (gives (cond.Truth true (place_of f)))
      (if same (word f) (codes "false") then gives (cond.Truth false (place_of f)) else refused 20 (place_of f))
      (λ _. gives-yields Fits (cond.Truth true (place_of f)) yes)
      (λ _. if-yields Fits (same (word f) (codes "false")) (gives (cond.Truth false (place_of f))) (refused 20 (place_of f))
      (λ _. gives-yields Fits (cond.Truth false (place_of f)) no) (λ _. refused-yields Fits 20 (place_of f)))

  fluent_cond-ascend : (f : Form) → IsInOrder f → Ascends cond_places f (fluent_cond theory f)
  unfolding fluent_cond
  fluent_cond-ascend f order =
      then-yields _ _ (fluent_called theory f).outcome _ (fluent_called-ascend theory f order) (λ c is.
      gives-yields (Within (place_of f) (end_of f)) (cond.Is c.item c.args (place_of f))
      (made (place_of f) (end_of f) (cond.Is c.item c.args (place_of f)) (place_of f ∷ arg_places c.args) (places-Is c.item c.args (place_of f)) (omega arith, is)))

  abbrev SidesWithin : ℕ → ℕ → Sides → Type 0
  SidesWithin from to sides = Ascend from (term_places sides.one ++ term_places sides.other) to

  sides_of-ascend : (at : ℕ) (fs : List Form) (from to : ℕ) → at < from → Between from fs to → Yields (SidesWithin at to) (sides_of theory at (as_parts fs))
  unfolding sides_of
  sides_of-ascend at [] from to lt b = refused-yields (SidesWithin at to) 20 at
  sides_of-ascend at (one ∷ []) from to lt b = refused-yields (SidesWithin at to) 20 at
  sides_of-ascend at (one ∷ other ∷ []) from to lt b =
      then-yields _ _ (term_of theory one).outcome _ (term_of-ascend theory one b.1) (λ t is.
      then-yields _ _ (term_of theory other).outcome _ (term_of-ascend theory other b.2.1) (λ u is'.
      gives-yields (SidesWithin at to) (record { one = t; other = u })
      (ascend-append at (place_of other) to (term_places t) (term_places u)
      (ascend-low at (place_of one) (place_of other) (term_places t) (omega (arith, b.0)) (ascend-high (place_of one) (end_of one) (place_of other) (term_places t) b.2.0 is))
      (ascend-high (place_of other) (end_of other) to (term_places u) b.2.2 is'))))
  sides_of-ascend at (one ∷ other ∷ more ∷ fs) from to lt b = refused-yields (SidesWithin at to) 20 at

  conds_of-ascend : (scope low from : ℕ) (fs : List Form) (to : ℕ) → Between from fs to → Each CondAscends fs → (before : List DraftCond) → AllWithin low from before
      → Yields (AllWithin low to) (each (λ (_ : List DraftCond) (part : Part InScope). part.spelled scope) before (as_parts fs))
  conds_of-ascend scope low from [] to b e before held = gives-yields (AllWithin low to) before (ascend-high low from to (all_places before) b held)
  conds_of-ascend scope low from (f ∷ fs) to b e before held =
      then-yields _ _ (cond_of theory f scope).outcome _ (e.0 b.1 scope) (λ c is.
      conds_of-ascend scope low (end_of f) fs to b.2 e.1 (before ++ c ∷ [])
      (all_push low (place_of f) (end_of f) before c (ascend-high low from (place_of f) (all_places before) b.0 held) is))

  -- a condition among others, from before it on
  inner : (at from to : ℕ) (f : Form) (c : DraftCond) → at ≤ from → from ≤ place_of f → end_of f ≤ to → Within (place_of f) (end_of f) c → Within at to c
  inner at from to f c le lo hi is =
      ascend-low at (place_of f) to (cond_places c) (omega (arith, le, lo)) (ascend-high (place_of f) (end_of f) to (cond_places c) hi is)

  not_of-ascend : (scope at : ℕ) (fs : List Form) (from to : ℕ) → at < from → Between from fs to → Each CondAscends fs
      → Yields (Within at to) (not_of scope at (as_parts fs))
  unfolding not_of
  not_of-ascend scope at [] from to lt b e = refused-yields (Within at to) 20 at
  not_of-ascend scope at (f ∷ []) from to lt b e =
      then-yields _ _ (cond_of theory f scope).outcome _ (e.0 b.1 scope) (λ c is.
      gives-yields (Within at to) (cond.Not c at)
      (made at to (cond.Not c at) (cond_places c) (places-Not c at) (inner at from to f c (omega arith) b.0 b.2 is)))
  not_of-ascend scope at (f ∷ other ∷ fs) from to lt b e = refused-yields (Within at to) 20 at

  abbrev BoundWithin : ℕ → ℕ → Bound → Type 0
  BoundWithin from to bound = Within from to bound.body

  bound_of-ascend : (scope at : ℕ) (fs : List Form) (from to : ℕ) → at < from → Between from fs to → Each CondAscends fs
      → Yields (BoundWithin at to) (bound_of theory scope at (as_parts fs))
  unfolding bound_of
  bound_of-ascend scope at [] from to lt b e = refused-yields (BoundWithin at to) 20 at
  bound_of-ascend scope at (binder ∷ []) from to lt b e = refused-yields (BoundWithin at to) 20 at
  bound_of-ascend scope at (binder ∷ body ∷ []) from to lt b e =
      row-yields _ (nat_le 32 scope) (25, at) _ (λ few.
      then-yields (λ _. Unit {0}) _ (binder_of theory binder).outcome _ (λ x e. tt) (λ head _.
      then-yields _ _ (cond_of theory body (scope + 1)).outcome _ (e.1.0 b.2.1 (scope + 1)) (λ c is.
      gives-yields (BoundWithin at to) (record { binder = head; body = c })
      (inner at (end_of binder) to body c (omega (arith, lt, b.0, (stands binder b.1).size)) b.2.0 b.2.2 is))))
  bound_of-ascend scope at (binder ∷ body ∷ other ∷ fs) from to lt b e = refused-yields (BoundWithin at to) 20 at

  keyword_cond-ascend : (at scope : ℕ) (keyword : CondKeyword) (fs : List Form) (from to : ℕ) → at < from → Between from fs to → Each CondAscends fs
      → Yields (Within at to) (keyword_cond theory at scope keyword (as_parts fs))
  unfolding keyword_cond equal_of less_of at_most_of and_of or_of some_of all_of conds_of
  keyword_cond-ascend at scope keyword.Equal fs from to lt b e =
      then-yields _ _ (sides_of theory at (as_parts fs)).outcome _ (sides_of-ascend at fs from to lt b)
      (λ s is. gives-yields (Within at to) (cond.Equal s.one s.other at) (made at to (cond.Equal s.one s.other at) (term_places s.one ++ term_places s.other) (places-Equal s.one s.other at) is))
  keyword_cond-ascend at scope keyword.Less fs from to lt b e =
      then-yields _ _ (sides_of theory at (as_parts fs)).outcome _ (sides_of-ascend at fs from to lt b)
      (λ s is. gives-yields (Within at to) (cond.Less s.one s.other at) (made at to (cond.Less s.one s.other at) (term_places s.one ++ term_places s.other) (places-Less s.one s.other at) is))
  keyword_cond-ascend at scope keyword.AtMost fs from to lt b e =
      then-yields _ _ (sides_of theory at (as_parts fs)).outcome _ (sides_of-ascend at fs from to lt b)
      (λ s is. gives-yields (Within at to) (cond.AtMost s.one s.other at) (made at to (cond.AtMost s.one s.other at) (term_places s.one ++ term_places s.other) (places-AtMost s.one s.other at) is))
  keyword_cond-ascend at scope keyword.Not fs from to lt b e = not_of-ascend scope at fs from to lt b e
  keyword_cond-ascend at scope keyword.And fs from to lt b e =
      then-yields _ _ (conds_of scope (as_parts fs)).outcome _ (conds_of-ascend scope at at fs to (between-from at from fs to (omega arith) b) e [] (omega arith))
      (λ cs is. gives-yields (Within at to) (cond.And cs at) (made at to (cond.And cs at) (all_places cs) (places-And cs at) is))
  keyword_cond-ascend at scope keyword.Or fs from to lt b e =
      then-yields _ _ (conds_of scope (as_parts fs)).outcome _ (conds_of-ascend scope at at fs to (between-from at from fs to (omega arith) b) e [] (omega arith))
      (λ cs is. gives-yields (Within at to) (cond.Or cs at) (made at to (cond.Or cs at) (all_places cs) (places-Or cs at) is))
  keyword_cond-ascend at scope keyword.ForSome fs from to lt b e =
      then-yields _ _ (bound_of theory scope at (as_parts fs)).outcome _ (bound_of-ascend scope at fs from to lt b e)
      (λ b' is. gives-yields (Within at to) (cond.ForSome b'.binder.var b'.binder.sort b'.body at)
      (made at to (cond.ForSome b'.binder.var b'.binder.sort b'.body at) (cond_places b'.body) (places-ForSome b'.binder.var b'.binder.sort b'.body at) is))
  keyword_cond-ascend at scope keyword.ForAll fs from to lt b e =
      then-yields _ _ (bound_of theory scope at (as_parts fs)).outcome _ (bound_of-ascend scope at fs from to lt b e)
      (λ b' is. gives-yields (Within at to) (cond.ForAll b'.binder.var b'.binder.sort b'.body at)
      (made at to (cond.ForAll b'.binder.var b'.binder.sort b'.body at) (cond_places b'.body) (places-ForAll b'.binder.var b'.binder.sort b'.body at) is))

  cond_list-ascend : (f : Form) (scope : ℕ) (keyword : Option CondKeyword) (fs : List Form) (from : ℕ) → IsInOrder f → place_of f < from → Between from fs (end_of f) → Each CondAscends fs
      → Ascends cond_places f (cond_list theory f scope keyword (as_parts fs))
  cond_list-ascend f scope None fs from order lt b e = fluent_cond-ascend f order
  cond_list-ascend f scope (Some keyword) fs from order lt b e = keyword_cond-ascend (place_of f) scope keyword fs from (end_of f) lt b e

  cond_by-ascend : (f : Form) (fs : List Form) (scope : ℕ) → IsInOrder f → Between (place_of f + 1) fs (end_of f) → Each CondAscends fs
      → Ascends cond_places f (cond_by theory f (as_parts fs) scope)
  cond_by-ascend f [] scope order b e = truth_of-ascend f order
  cond_by-ascend f (head ∷ fs) scope order b e =
      cond_list-ascend f scope (cond_keyword (word head)) fs (end_of head) order (omega (arith, b.0, (stands head b.1).size)) b.2 e.1

  pub cond_of-ascend : (f : Form) → IsInOrder f → (scope : ℕ) → Ascends cond_places f (cond_of theory f scope)
  cond_of-ascend = by_parts CondAscends (λ f e order scope.
      subst (λ (reading : Reading DraftCond). Ascends cond_places f reading) (sym (cond_of-parts theory f scope)) (cond_by-ascend f (parts f) scope order (stands f order).inner e))

pub ruleset laws = (cond_of-ascend)
