-- The condition under which a way is a certain step, by the fronts of the program.
use Rattle.std.proofs.Common.{◌≡◌, zero, suc, Bool, true, false, ◌&&◌, ◌||◌, if◌then◌else◌, Option, Some, None, List, [], ◌∷◌, map, filter, refl, sym, ap, ◌∙◌, subst, arith}
use Rattle.std.specs.Prelude.{◌↔◌, IfSome, IsTrue, not}
use Rattle.std.specs.List.{All, list_all, list_any}
use Rattle.golog_tree.specs.declared.agent.Agent.{Agent}
use Rattle.golog_tree.specs.declared.cond.Cond.{Cond}
use Rattle.golog_tree.specs.declared.cond.Cond.TheVariants as cond
use Rattle.golog_tree.specs.declared.prog.Prog.{Prog}
use Rattle.golog_tree.specs.declared.prog.Way.{Way}
use Rattle.golog_semantics.specs.declared.Mode.TheVariants.{Must}
use Rattle.golog_semantics.specs.BlockFree.{has_block}
use Rattle.golog_semantics.specs.Fits.{nothing_bound}
use Rattle.golog_semantics.specs.Fronts.{AreFronts, Guarded, open_ways}
use Rattle.golog_semantics.specs.ProgFits.{fits}
use Rattle.golog_semantics.specs.Same.{same_way}
use Rattle.golog_semantics.specs.Truth.{Values}
use Rattle.golog_semantics.specs.Ways.{is_empty, is_so}
use Rattle.golog_semantics.specs.WellFormed.{WellFormed}
use Rattle.golog_semantics.proofs.BestRuns.{same_way-eq}
use Rattle.golog_semantics.proofs.NoBlocks.{not_so}
use Rattle.golog_semantics.proofs.Tests.{and_both, and_cases}
use Rattle.golog_semantics.proofs.WellNamed.{starts_in_sorts}
use Rattle.golog_fronts.specs.declared.front_lists.Front.{Front}
use Rattle.golog_fronts.specs.FrontBlock.{has_front_block}
use Rattle.golog_fronts.specs.FrontLists.{are_closed, guarded, guarded_of}
use Rattle.golog_fronts.specs.Lefts.{LeavesClosed}
use Rattle.golog_fronts.proofs.ClosedConds.{fits as cond_closed, fits-or}
use Rattle.golog_fronts.proofs.Ends.{so-or}
use Rattle.golog_ways.proofs.SearchedWays.{free-of}
use Rattle.golog_ways.proofs.Within.{into, within}
use Rattle.golog_watch.specs.Watched.{Opens, conds_for}

and_swap : (a b : Bool) → (a && b) ≡ (b && a)
and_swap true true = refl
and_swap true false = refl
and_swap false true = refl
and_swap false false = refl

pub empty-by : (b : Bool) (conds : List Cond) → IsTrue b ↔ (conds ≡ []) → b ≡ is_empty conds
empty-by true conds h = sym (ap is_empty (h.0 refl))
empty-by false [] h = h.1 refl
empty-by false (c ∷ conds) h = refl

-- no block stands at the front of a program without blocks
pub front-free : (agent : Agent) → WellFormed agent → (p : Prog) → fits agent p ≡ true → not (has_block agent p) ≡ true → has_front_block agent p ≡ false
front-free agent formed p program free = free-of agent p agent.starts (record { program = program; blockless = free; sorts = starts_in_sorts agent formed })

pub by-bool : {C : Type 0} (b : Bool) → (b ≡ true → C) → (b ≡ false → C) → C
by-bool true f g = f refl
by-bool false f g = g refl

module _ (agent : Agent) (w : Way) where
  abbrev is_it : Front → Bool
  is_it f = same_way w (guarded_of f).way

  module _ (values : Values) where
    abbrev so : Cond → Bool
    so = is_so agent values Must

    by-cond : (b : Bool) (f : Front) (fs : List Front) → list_any so (map (λ (g : Front). g.cond) (if b then f ∷ fs else fs)) ≡ ((b && so f.cond) || list_any so (map (λ (g : Front). g.cond) fs))
    by-cond true f fs = refl
    by-cond false f fs = refl

    by-way : (b : Bool) (g : Guarded) (gs : List Guarded) → list_any (same_way w) (map (λ (h : Guarded). h.way) (if b then g ∷ gs else gs)) ≡ ((b && same_way w g.way) || list_any (same_way w) (map (λ (h : Guarded). h.way) gs))
    by-way true g gs = refl
    by-way false g gs = refl

    -- one of the conditions holds where the way is open
    conds-so : (fs : List Front) → list_any so (conds_for w fs) ≡ list_any (same_way w) (open_ways agent values Must (guarded fs))
    conds-so [] = refl
    conds-so (f ∷ fs) =
        by-cond (is_it f) f (filter is_it fs)
        ∙ ap (λ b. (is_it f && so f.cond) || b) (conds-so fs)
        ∙ ap (λ b. b || list_any (same_way w) (open_ways agent values Must (guarded fs))) (and_swap (is_it f) (so f.cond))
        ∙ sym (by-way (so f.cond) (guarded_of f) (filter (λ (g : Guarded). so g.cond) (guarded fs)))

  closed-if : (b : Bool) (f : Front) (fs : List Front) → cond_closed agent f.cond ≡ true → list_all (cond_closed agent) (map (λ (g : Front). g.cond) fs) ≡ true
      → list_all (cond_closed agent) (map (λ (g : Front). g.cond) (if b then f ∷ fs else fs)) ≡ true
  closed-if true f fs h k = and_both (cond_closed agent f.cond) (list_all (cond_closed agent) (map (λ (g : Front). g.cond) fs)) h k
  closed-if false f fs h k = k

  conds-closed : (fs : List Front) → are_closed agent fs ≡ true → list_all (cond_closed agent) (conds_for w fs) ≡ true
  conds-closed [] h = refl
  conds-closed (f ∷ fs) h =
      let k = and_cases (cond_closed agent f.cond) (are_closed agent fs) h in
      closed-if (is_it f) f (filter is_it fs) k.0 (conds-closed fs k.1)

  -- a way that is among the fronts is as they are
  some-front : (P : Way → Type 0) (fs : List Front) → is_empty (conds_for w fs) ≡ false → All (λ (g : Guarded). P g.way) (guarded fs) → P w
  some-front P [] e h = absurd (cc)
  some-front P (f ∷ fs) e h =
      by-bool (is_it f) (λ t. subst P (sym (same_way-eq w (guarded_of f).way t)) (h zero (guarded_of f) (omega arith)))
      (λ t. some-front P fs (sym (ap (λ b. is_empty (map (λ (g : Front). g.cond) (if b then f ∷ filter is_it fs else filter is_it fs))) t) ∙ e)
      (λ k d l. h (suc k) d (omega arith)))

  module _ (p : Prog) (program : fits agent p ≡ true) (free : not (has_block agent p) ≡ true) where
    -- what a front leaves stays without search blocks
    left-free : LeavesClosed agent p w → (fits agent w.left ≡ true) × (not (has_block agent w.left) ≡ true)
    left-free h =
        let inner = within agent w.left nothing_bound (h.fits true (into agent p nothing_bound program (not_so (has_block agent p) free))) in
        (inner.outside, ap not inner.blockless)

    opens-where : (fs : List Front) → AreFronts agent p (guarded fs) → are_closed agent fs ≡ true → All (λ (g : Guarded). LeavesClosed agent p g.way) (guarded fs)
        → is_empty (conds_for w fs) ≡ false → Opens agent p w (cond.Or (conds_for w fs))
    opens-where fs are closed lefts e =
        let leaves = some-front (LeavesClosed agent p) fs e lefts in
        let left = left-free leaves in
        record {
          closed = fits-or agent (conds_for w fs) (conds-closed fs closed);
          tells = λ values. so-or agent values Must (conds_for w fs) ∙ conds-so values fs ∙ ap (list_any (same_way w)) (are.ways Must values);
          label = leaves.label;
          left = left.0;
          blockless = left.1;
        }

    pub opens-found : (fs : List Front) → AreFronts agent p (guarded fs) → are_closed agent fs ≡ true → All (λ (g : Guarded). LeavesClosed agent p g.way) (guarded fs)
        → (found : Option Cond) → found ≡ (if is_empty (conds_for w fs) then None else Some (cond.Or (conds_for w fs))) → IfSome found (Opens agent p w)
    opens-found fs are closed lefts found is = subst (λ (o : Option Cond). IfSome o (Opens agent p w)) (sym is) (go (is_empty (conds_for w fs)) refl)
      where
        go : (b : Bool) → is_empty (conds_for w fs) ≡ b → IfSome (if b then None else Some (cond.Or (conds_for w fs))) (Opens agent p w)
        go true e = tt
        go false e = opens-where fs are closed lefts e
