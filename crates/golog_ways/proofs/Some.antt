-- A program for some constant of a sort, the constants being tried one by one.
use Rattle.std.proofs.Common.{◌≡◌, ℕ, suc, ◌+◌, ◌-◌, ◌<◌, ◌≤◌, Bool, true, false, ◌||◌, refl, sym, ap, ◌∙◌, subst, arith}
use Rattle.std.specs.List.{list_any, range_with_len}
use Rattle.golog_tree.specs.declared.agent.Agent.{Agent}
use Rattle.golog_tree.specs.declared.cond.Truth.{Truth}
use Rattle.golog_tree.specs.declared.cond.Truth.TheVariants.{Yes, No, Unknown}
use Rattle.golog_tree.specs.declared.prog.Prog.{Prog}
use Rattle.golog_tree.specs.declared.prog.Prog.TheOpen.{Pick}
use Rattle.golog_tree.specs.declared.prog.Prog.TheVariants as prog
use Rattle.golog_tree.specs.Ground.{sort_size}
use Rattle.golog_semantics.specs.declared.Mode.{Mode}
use Rattle.golog_semantics.specs.declared.Mode.TheVariants.{Must}
use Rattle.golog_semantics.specs.Modes.{holds}
use Rattle.golog_semantics.specs.Truth.{Values, either}
use Rattle.golog_semantics.specs.Program.{put_arg}
use Rattle.golog_semantics.specs.Search.{final}
use Rattle.golog_semantics.specs.Guarded.{IsGuarded}
use Rattle.golog_fronts.specs.Ends.{EndsAs}
use Rattle.golog_fronts.proofs.Steps.{final-by}
use Rattle.golog_semantics.proofs.FrontLaws.{holds-either, holds-no, holds-yes}

-- one of the constants from this one on
abbrev pub from : (ℕ → Bool) → ℕ → ℕ → Bool
from f i n = list_any f (range_with_len i (n - i))

pub from-next : (f : ℕ → Bool) (i n : ℕ) → i < n → from f i n ≡ (f i || from f (i + 1) n)
from-next f i n h =
    let e : n - i ≡ suc (n - (i + 1)) = omega arith in
    rw e refl

from-end : (f : ℕ → Bool) (i n : ℕ) → n ≤ i → from f i n ≡ false
from-end f i n h =
    let e : n - i ≡ 0 = omega arith in
    rw e refl

pub or_assoc : (a b c : Bool) → (a || (b || c)) ≡ ((a || b) || c)
or_assoc true b c = refl
or_assoc false b c = refl

or_none : (a b : Bool) → b ≡ false → (a || b) ≡ a
or_none true b e = refl
or_none false b e = e

-- what is found so far or still to be tried decides
abbrev pub SoFar : (ℕ → Bool) → ℕ → ℕ → Bool → Type 0
SoFar f i n found = list_any f (range_with_len 0 n) ≡ (found || from f i n)

none-yet : (f : ℕ → Bool) (n : ℕ) (m : Mode) → SoFar f 0 n (holds m No)
none-yet f n m = let e : n - 0 ≡ n = omega arith in rw (holds-no m, e) refl

one-more : (f : ℕ → Bool) (i n : ℕ) (m : Mode) (a b : Truth) → i < n → holds m b ≡ f i → SoFar f i n (holds m a) → SoFar f (i + 1) n (holds m (either a b))
one-more f i n m a b l e h =
    h ∙ ap (λ z. holds m a || z) (from-next f i n l) ∙ or_assoc (holds m a) (f i) (from f (i + 1) n)
    ∙ ap (λ z. z || from f (i + 1) n) (ap (λ z. holds m a || z) (sym e) ∙ sym (holds-either m a b))

pub at-end : (f : ℕ → Bool) (i n : ℕ) (found : Bool) → n ≤ i → SoFar f i n found → found ≡ list_any f (range_with_len 0 n)
at-end f i n found l h = sym (h ∙ or_none found (from f i n) (from-end f i n l))

-- what is found already is found whatever is still to be tried
pub at-found : (f : ℕ → Bool) (i n : ℕ) (found : Bool) → found ≡ true → SoFar f i n found → found ≡ list_any f (range_with_len 0 n)
at-found f i n found e h = e ∙ sym (h ∙ ap (λ z. z || from f i n) e)

certain : (m : Mode) (t : Truth) → holds Must t ≡ true → holds m t ≡ true
certain m Yes e = holds-yes m
certain m No e = absurd (cc)
certain m Unknown e = absurd (cc)

module _ (agent : Agent) (values : Values) (x sort : ℕ) (p : Prog) where
  abbrev may_end : Mode → ℕ → Bool
  may_end m c = final agent values m (put_arg p x c)

  -- how sure an end is for the constants before this one
  pub record EndsSoFar (i : ℕ) (t : Truth) : Type 0 where
    pub ends : (m : Mode) → SoFar (may_end m) i (sort_size agent sort) (holds m t)

module _ {agent : Agent} {values : Values} {x sort : ℕ} {p : Prog} where
  pub none_ends : EndsSoFar agent values x sort p 0 No
  none_ends = record { ends = λ m. none-yet (may_end agent values x sort p m) (sort_size agent sort) m }

  pub more_ends : {i : ℕ} {t u r : Truth} {put : Prog} → i < sort_size agent sort → r ≡ either t u → put ≡ put_arg p x i → EndsAs agent values put u → EndsSoFar agent values x sort p i t
      → EndsSoFar agent values x sort p (i + 1) r
  more_ends {i} {t} {u} {r} {put} l is e h s =
      subst (λ (z : Truth). EndsSoFar agent values x sort p (i + 1) z) (sym is)
      (record { ends = λ m. one-more (may_end agent values x sort p m) i (sort_size agent sort) m t u l (h.ends m ∙ ap (final agent values m) e) (s.ends m) })

  pub pick_ends : {i : ℕ} {t : Truth} → IsGuarded agent → sort_size agent sort ≤ i → EndsSoFar agent values x sort p i t → EndsAs agent values (prog.Pick x sort p) t
  pick_ends {i} {t} g l s = record {
    ends = λ m.
        at-end (may_end agent values x sort p m) i (sort_size agent sort) (holds m t) l (s.ends m)
        ∙ sym (final-by agent values g m (prog.Pick x sort p) (Pick x sort p) (prog.outs-Pick x sort p));
  }

  pub pick_settled : {i : ℕ} {t : Truth} → IsGuarded agent → holds Must t ≡ true → EndsSoFar agent values x sort p i t → EndsAs agent values (prog.Pick x sort p) t
  pick_settled {i} {t} g e s = record {
    ends = λ m.
        at-found (may_end agent values x sort p m) i (sort_size agent sort) (holds m t) (certain m t e) (s.ends m)
        ∙ sym (final-by agent values g m (prog.Pick x sort p) (Pick x sort p) (prog.outs-Pick x sort p));
  }
