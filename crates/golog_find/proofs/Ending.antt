-- The first state of a level in which the program may end, and the first run of that length.
use Rattle.std.proofs.Common.{◌≡◌, ℕ, suc, ◌+◌, Bool, true, false, if◌then◌else◌, List, [], ◌∷◌, ◌++◌, Option, Some, None, refl, sym, ap, ◌∙◌, arith}
use Rattle.std.specs.Prelude.{slice_get}
use Rattle.std.specs.List.{position_from}
use Rattle.std.specs.Option.{option_map, option_or}
use Rattle.std.proofs.lemmas.Option.{same_Some}
use Rattle.golog_tree.specs.declared.agent.Agent.{Agent}
use Rattle.golog_tree.specs.declared.prog.Prog.{Prog}
use Rattle.golog_semantics.specs.declared.Mode.{Mode}
use Rattle.golog_semantics.specs.Truth.{Values}
use Rattle.golog_semantics.specs.Search.{Run, best_from, first_of, runs}
use Rattle.golog_ways.specs.First.{head_of}
use Rattle.golog_find.specs.Levels.{Reached, ends_at, state_of}
use Rattle.golog_find.proofs.Seen.{level_at}
use Rattle.golog_find.proofs.FirstRuns.{first_in, first_run, first-through, led_to, levels-led, run_through, to_place}

append-none : (run : Run) → run ++ [] ≡ run
append-none [] = refl
append-none (w ∷ run) = ap (λ r. w ∷ r) (append-none run)

module _ (agent : Agent) (m : Mode) where
  -- the run of no way
  at_end : (r : Reached) → (b : Bool) → ends_at agent m r ≡ b → first_run agent m 0 (state_of r) ≡ (if b then Some [] else None)
  unfolding runs
  at_end r true e = ap (λ (b : Bool). head_of (if b then [] ∷ [] else [])) e
  at_end r false e = ap (λ (b : Bool). head_of (if b then [] ∷ [] else [])) e

  through-end : (led : Reached → Run) (r : Reached) → (b : Bool) → ends_at agent m r ≡ b → run_through agent m led 0 r ≡ (if b then Some (led r) else None)
  through-end led r true e = ap (option_map (λ run. led r ++ run)) (at_end r true e) ∙ ap Some (append-none (led r))
  through-end led r false e = ap (option_map (λ run. led r ++ run)) (at_end r false e)

  -- the state at this place is the first of these in which the program may end
  pub record IsEnd (led : Reached → Run) (from : ℕ) (states : List Reached) (place : ℕ) : Type 0 where
    pub index : ℕ
    pub state : Reached
    pub placed : from + index ≡ place
    pub stands : slice_get states index ≡ Some state
    pub first : first_in (run_through agent m led 0) states ≡ Some (led state)

  end-here : (led : Reached → Run) (from place : ℕ) (r : Reached) (states : List Reached) → ends_at agent m r ≡ true → Some from ≡ Some place → IsEnd led from (r ∷ states) place
  end-here led from place r states e h = record {
    index = 0;
    state = r;
    placed = let same : from ≡ place = same_Some from place h in omega arith;
    stands = refl;
    first = ap (λ o. option_or o (first_in (run_through agent m led 0) states)) (through-end led r true e);
  }

  end-later : (led : Reached → Run) (from place : ℕ) (r : Reached) (states : List Reached) → ends_at agent m r ≡ false → IsEnd led (from + 1) states place → IsEnd led from (r ∷ states) place
  end-later led from place r states e h = record {
    index = suc h.index;
    state = h.state;
    placed = let k : from + 1 + h.index ≡ place = h.placed in omega arith;
    stands = h.stands;
    first = ap (λ o. option_or o (first_in (run_through agent m led 0) states)) (through-end led r false e) ∙ h.first;
  }

  pub end-found : (led : Reached → Run) (states : List Reached) (from place : ℕ) → position_from (ends_at agent m) from states ≡ Some place → IsEnd led from states place
  end-found led [] from place h = absurd (cc)
  end-found led (r ∷ states) from place h =
      go (ends_at agent m r) refl h (λ k. end-found led states (from + 1) place k)
    where
      go : (b : Bool) → ends_at agent m r ≡ b → (if b then Some from else position_from (ends_at agent m) (from + 1) states) ≡ Some place
          → (position_from (ends_at agent m) (from + 1) states ≡ Some place → IsEnd led (from + 1) states place) → IsEnd led from (r ∷ states) place
      go true e h later = end-here led from place r states e h
      go false e h later = end-later led from place r states e (later h)

  pub end-absent : (led : Reached → Run) (states : List Reached) (from : ℕ) → position_from (ends_at agent m) from states ≡ None → first_in (run_through agent m led 0) states ≡ None
  end-absent led [] from h = refl
  end-absent led (r ∷ states) from h = go (ends_at agent m r) refl h (λ k. end-absent led states (from + 1) k)
    where
      go : (b : Bool) → ends_at agent m r ≡ b → (if b then Some from else position_from (ends_at agent m) (from + 1) states) ≡ None
          → (position_from (ends_at agent m) (from + 1) states ≡ None → first_in (run_through agent m led 0) states ≡ None)
          → first_in (run_through agent m led 0) (r ∷ states) ≡ None
      go true e h later = absurd (cc)
      go false e h later = ap (λ o. option_or o (first_in (run_through agent m led 0) states)) (through-end led r false e) ∙ later h

  module _ (p : Prog) (values : Values) where
    same-length : (n : ℕ) → n + 0 ≡ n
    same-length n = omega arith

    -- where a state of a level is the first in which the program may end, the run to it is the first of its length
    pub run-found : (n place : ℕ) → position_from (ends_at agent m) 0 (level_at agent m p values n) ≡ Some place
        → first_run agent m n (p, values) ≡ Some (to_place agent m p values n place)
    run-found n place h =
        let end : IsEnd (led_to agent m p values n) 0 (level_at agent m p values n) place = end-found (led_to agent m p values n) (level_at agent m p values n) 0 place h in
        ap (λ k. first_run agent m k (p, values)) (sym (same-length n)) ∙ sym (first-through agent m p values n 0) ∙ end.first
        ∙ ap Some (sym (levels-led agent m p values n end.index end.state end.stands) ∙ ap (to_place agent m p values n) end.placed)

    -- where there is none, no run is so long
    pub run-absent : (n : ℕ) → position_from (ends_at agent m) 0 (level_at agent m p values n) ≡ None → first_run agent m n (p, values) ≡ None
    run-absent n h =
        ap (λ k. first_run agent m k (p, values)) (sym (same-length n)) ∙ sym (first-through agent m p values n 0)
        ∙ end-absent (led_to agent m p values n) (level_at agent m p values n) 0 h

    of-none : (rs : List Run) (later : Option Run) → head_of rs ≡ None → first_of rs later ≡ later
    of-none [] later h = refl
    of-none (r ∷ rs) later h = absurd (cc)

    of-some : (rs : List Run) (later : Option Run) (run : Run) → head_of rs ≡ Some run → first_of rs later ≡ Some run
    of-some [] later run h = absurd (cc)
    of-some (r ∷ rs) later run h = h

    pub best-later : (n more : ℕ) → first_run agent m n (p, values) ≡ None → best_from agent m n (suc more) p values ≡ best_from agent m (n + 1) more p values
    best-later n more h = of-none (runs agent m n p values) (best_from agent m (n + 1) more p values) h

    pub best-here : (n more : ℕ) (run : Run) → first_run agent m n (p, values) ≡ Some run → best_from agent m n (suc more) p values ≡ Some run
    best-here n more run h = of-some (runs agent m n p values) (best_from agent m (n + 1) more p values) run h
