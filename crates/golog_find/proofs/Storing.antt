-- What is stored of a level: its first states, and its first end.
use Rattle.std.proofs.Common.{◌≡◌, ℕ, zero, suc, ◌+◌, ◌≤◌, ◌<◌, Bool, true, false, if◌then◌else◌, List, [], ◌∷◌, ◌++◌, length, take, Option, Some, None, refl, sym, ap, ◌∙◌, subst, arith, length-take-le}
use Rattle.std.specs.Prelude.{not, ◌&&◌, ◌||◌, fold, nat_lt, slice_get, MatchOption}
use Rattle.std.specs.List.{position_from}
use Rattle.std.specs.Option.{option_map_or, option_or}
use Rattle.std.proofs.lemmas.Bool.{ltb-false, ltb-true}
use Rattle.std.proofs.lemmas.List.{length_push}
use Rattle.golog_base.proofs.Bools.{or-true}
use Rattle.golog_tree.specs.declared.agent.Agent.{Agent}
use Rattle.golog_tree.specs.declared.prog.Way.{Way}
use Rattle.golog_semantics.specs.declared.Mode.{Mode}
use Rattle.golog_semantics.specs.Truth.{Values}
use Rattle.golog_semantics.specs.Values.{after}
use Rattle.golog_semantics.specs.Ways.{is_empty}
use Rattle.golog_semantics.specs.Search.{final, is_followed, plain_ways}
use Rattle.golog_semantics.specs.Blocks.{State, same_state}
use Rattle.golog_find.specs.Levels.{AreStored, IsStoredOf, Level, Reached, end_of, ends_at, first_end, is_stored, is_there, next_level, nothing_reached, reached_by, run_to, state_of, stored_level, stored_steps, with_state, with_steps, with_stored, with_way}
use Rattle.golog_find.proofs.FirstRuns.{same_state-eq}
use Rattle.golog_find.proofs.RunsTo.{with_step}

-- the first so many of a list
take-more : (k : ℕ) (xs ys : List Reached) → k ≤ length xs → take k (xs ++ ys) ≡ take k xs
take-more zero xs ys l = refl
take-more (suc k) [] ys l = absurd (omega arith)
take-more (suc k) (x ∷ xs) ys l = ap (λ zs. x ∷ zs) (take-more k xs ys (omega arith))

take-whole : (k : ℕ) (xs : List Reached) → length xs ≤ k → take k xs ≡ xs
take-whole zero [] l = refl
take-whole (suc k) [] l = refl
take-whole zero (x ∷ xs) l = absurd (omega arith)
take-whole (suc k) (x ∷ xs) l = ap (λ zs. x ∷ zs) (take-whole k xs (omega arith))

take-few : (k : ℕ) (xs : List Reached) → length (take k xs) < k → take k xs ≡ xs
take-few zero xs l = absurd (omega arith)
take-few (suc k) [] l = refl
take-few (suc k) (x ∷ xs) l = ap (λ zs. x ∷ zs) (take-few k xs (omega arith))

take-shorter : (k : ℕ) (xs : List Reached) → length (take k xs) ≤ length xs
take-shorter zero xs = omega arith
take-shorter (suc k) [] = omega arith
take-shorter (suc k) (x ∷ xs) = let l = take-shorter k xs in omega arith

-- one more state, where it is not there yet
with_state-take : (k : ℕ) (l : Level) (r : Reached) → k ≤ length l.states → take k (with_state l r).states ≡ take k l.states
with_state-take k l r h = go (is_there l.states (state_of r))
  where
    go : (b : Bool) → take k (if b then l else record { states = l.states ++ r ∷ []; cut = l.cut }).states ≡ take k l.states
    go true = refl
    go false = take-more k l.states (r ∷ []) h

with_state-length : (l : Level) (r : Reached) → length (with_state l r).states ≤ length l.states + 1
with_state-length l r = go (is_there l.states (state_of r))
  where
    go : (b : Bool) → length (if b then l else record { states = l.states ++ r ∷ []; cut = l.cut }).states ≤ length l.states + 1
    go true = omega arith
    go false = let count = length_push l.states r in omega arith

with_state-cut : (l : Level) (r : Reached) → (with_state l r).cut ≡ l.cut
with_state-cut l r = go (is_there l.states (state_of r))
  where
    go : (b : Bool) → (if b then l else record { states = l.states ++ r ∷ []; cut = l.cut }).cut ≡ l.cut
    go true = refl
    go false = refl

or-none : (o : Option Reached) → option_or o None ≡ o
or-none None = refl
or-none (Some r) = refl

or-further : (a b c : Option Reached) → option_or (option_or a b) c ≡ option_or a (option_or b c)
or-further None b c = refl
or-further (Some r) b c = refl

or-some : (o : Option Reached) (r : Reached) → option_or o (Some r) ≡ None → ⊥
or-some None r e = cc e
or-some (Some x) r e = cc e

module _ (agent : Agent) (m : Mode) where
  -- the first end of two lists
  end-append : (xs ys : List Reached) → first_end agent m (xs ++ ys) ≡ option_or (first_end agent m xs) (first_end agent m ys)
  end-append [] ys = refl
  end-append (x ∷ xs) ys = ap (option_or (end_of agent m x)) (end-append xs ys) ∙ sym (or-further (end_of agent m x) (first_end agent m xs) (first_end agent m ys))

  end-is : (r : Reached) (b : Bool) → ends_at agent m r ≡ b → end_of agent m r ≡ (if b then Some r else None)
  end-is r b e = ap (λ (c : Bool). if c then Some r else None) e

  same-end : (r x : Reached) → state_of r ≡ state_of x → ends_at agent m r ≡ ends_at agent m x
  same-end r x e = ap (λ (s : State). final agent s.1 m s.0) e

  -- a state that is there among states none of which ends does not end
  endless : (xs : List Reached) (r : Reached) → first_end agent m xs ≡ None → is_there xs (state_of r) ≡ true → end_of agent m r ≡ None
  endless [] r e there = absurd (cc)
  endless (x ∷ xs) r e there = go (endless xs r) (ends_at agent m x) refl (same_state (state_of r) (state_of x)) refl
    where
      go : (first_end agent m xs ≡ None → is_there xs (state_of r) ≡ true → end_of agent m r ≡ None)
          → (b : Bool) → ends_at agent m x ≡ b → (c : Bool) → same_state (state_of r) (state_of x) ≡ c → end_of agent m r ≡ None
      go later true eb c ec = let k : Some x ≡ None = sym (ap (λ (o : Option Reached). option_or o (first_end agent m xs)) (end-is x true eb)) ∙ e in absurd (cc)
      go later false eb true ec = end-is r false (same-end r x (same_state-eq (state_of r) (state_of x) ec) ∙ eb)
      go later false eb false ec =
          later (sym (ap (λ (o : Option Reached). option_or o (first_end agent m xs)) (end-is x false eb)) ∙ e)
          (sym (ap (λ (b : Bool). b || is_there xs (state_of r)) ec) ∙ there)

  -- the first end with one more state is the one before, or else that state
  end-with : (l : Level) (r : Reached) → first_end agent m (with_state l r).states ≡ option_or (first_end agent m l.states) (end_of agent m r)
  end-with l r = go (is_there l.states (state_of r)) refl (first_end agent m l.states) refl
    where
      go : (b : Bool) → is_there l.states (state_of r) ≡ b → (o : Option Reached) → first_end agent m l.states ≡ o
          → first_end agent m (if b then l else record { states = l.states ++ r ∷ []; cut = l.cut }).states ≡ option_or (first_end agent m l.states) (end_of agent m r)
      go false eb o e = end-append l.states (r ∷ []) ∙ ap (option_or (first_end agent m l.states)) (or-none (end_of agent m r))
      go true eb None e = e ∙ sym (ap (λ (o : Option Reached). option_or o (end_of agent m r)) e ∙ endless l.states r e eb)
      go true eb (Some x) e = e ∙ sym (ap (λ (o : Option Reached). option_or o (end_of agent m r)) e)

  module _ (room : ℕ) where
    -- what is stored of a level, and whether a step of it is cut off
    abbrev Of : Level → Level → Type 0
    Of whole kept = IsStoredOf agent m room whole.states kept.states × (kept.cut ≡ whole.cut)

    same-level : (l : Level) → length l.states ≤ room + 1 → Of l l
    same-level l h = (record { first = refl; few = omega arith; end = refl; endless = λ e. h }, refl)

    -- while there is room it is all of the level
    all-stored : (whole kept : List Reached) → IsStoredOf agent m room whole kept → length kept ≤ room → kept ≡ whole
    all-stored whole kept h l =
        let mine : take (suc room) kept ≡ kept = take-whole (suc room) kept (omega arith) in
        let count : length (take (suc room) whole) ≡ length kept = ap length (sym h.first ∙ mine) in
        sym mine ∙ h.first ∙ take-few (suc room) whole (omega arith)

    -- where there is no room left, the level has as many
    as-many : (whole kept : List Reached) → IsStoredOf agent m room whole kept → room < length kept → suc room ≤ length whole
    as-many whole kept h l =
        let mine : length (take (suc room) kept) ≡ suc room = length-take-le (suc room) kept (omega arith) in
        let count : length (take (suc room) kept) ≡ length (take (suc room) whole) = ap length h.first in
        let short = take-shorter (suc room) whole in
        omega arith

    module _ (from : ℕ) (values : Values) (w : Way) where
      abbrev led : Reached
      led = reached_by agent from values w

      module _ (whole kept : Level) (h : Of whole kept) where
        -- it ends behind those stored, or an end was found before
        more-stays : room < length kept.states → first_end agent m kept.states ≡ first_end agent m (with_state whole led).states → Of (with_state whole led) kept
        more-stays l e = (
          record {
            first = h.0.first ∙ sym (with_state-take (suc room) whole led (as-many whole.states kept.states h.0 l));
            few = h.0.few;
            end = e;
            endless = h.0.endless;
          },
          h.1 ∙ sym (with_state-cut whole led),
        )

        ended-stays : (o : Option Reached) → first_end agent m kept.states ≡ o → suc room < length kept.states → Of (with_state whole led) kept
        ended-stays None e l = let few = h.0.endless e in absurd (omega arith)
        ended-stays (Some x) e l =
            more-stays (omega arith) (e ∙ sym (end-with whole led ∙ ap (λ (o : Option Reached). option_or o (end_of agent m led)) (sym h.0.end ∙ e)))

        end-stored : room < length kept.states → length kept.states ≤ suc room → ends_at agent m led ≡ true → Of (with_state whole led) (with_state kept led)
        end-stored l few e =
            let count = with_state-length kept led in
            let is : end_of agent m led ≡ Some led = end-is led true e in (
              record {
                first = with_state-take (suc room) kept led (omega arith) ∙ h.0.first ∙ sym (with_state-take (suc room) whole led (as-many whole.states kept.states h.0 l));
                few = omega arith;
                end = end-with kept led ∙ ap (λ (o : Option Reached). option_or o (end_of agent m led)) h.0.end ∙ sym (end-with whole led);
                endless = λ none. absurd (or-some (first_end agent m kept.states) led (sym (end-with kept led ∙ ap (option_or (first_end agent m kept.states)) is) ∙ none));
              },
              with_state-cut kept led ∙ h.1 ∙ sym (with_state-cut whole led),
            )

        room-left : length kept.states ≤ room → Of (with_state whole led) (with_state kept led)
        room-left l =
            let states = all-stored whole.states kept.states h.0 l in
            let same : kept ≡ whole = (λ i. record { states = states i; cut = h.1 i }) in
            let count = with_state-length kept led in
            subst (λ (l : Level). Of l (with_state kept led)) (ap (λ (l : Level). with_state l led) same) (same-level (with_state kept led) (omega arith))

        followed : (a : Bool) → nat_lt room (length kept.states) ≡ a → (b : Bool) → nat_lt (suc room) (length kept.states) ≡ b → (c : Bool) → ends_at agent m led ≡ c
            → Of (with_state whole led) (if not a || (not b && c) then with_state kept led else kept)
        followed false ea b eb c ec = room-left (ltb-false room (length kept.states) ea)
        followed true ea true eb c ec = ended-stays (first_end agent m kept.states) refl (ltb-true (suc room) (length kept.states) eb)
        followed true ea false eb true ec = end-stored (ltb-true room (length kept.states) ea) (ltb-false (suc room) (length kept.states) eb) ec
        followed true ea false eb false ec =
            more-stays (ltb-true room (length kept.states) ea)
            (h.0.end ∙ sym (end-with whole led ∙ ap (option_or (first_end agent m whole.states)) (end-is led false ec) ∙ or-none (first_end agent m whole.states)))

        stored-step : Of (with_way agent from values whole w) (with_stored agent m (Some room) from values kept w)
        stored-step = go (is_followed w)
          where
            go : (f : Bool) → Of (if f then with_state whole led else record { states = whole.states; cut = true })
                (if not f || is_stored (Some room) (length kept.states) (ends_at agent m led) then (if f then with_state kept led else record { states = kept.states; cut = true }) else kept)
            go false = (h.0, refl)
            go true = followed (nat_lt room (length kept.states)) refl (nat_lt (suc room) (length kept.states)) refl (ends_at agent m led) refl

    stored-ways : (from : ℕ) (values : Values) (ws : List Way) (whole kept : Level) → Of whole kept
        → Of (fold (with_way agent from values) whole ws) (fold (with_stored agent m (Some room) from values) kept ws)
    stored-ways from values [] whole kept h = h
    stored-ways from values (w ∷ ws) whole kept h =
        stored-ways from values ws (with_way agent from values whole w) (with_stored agent m (Some room) from values kept w) (stored-step from values w whole kept h)

    steps-stored : (states : List Reached) (from : ℕ) (whole kept : Level) → Of whole kept → Of (with_steps agent m from whole states) (stored_steps agent m (Some room) from kept states)
    steps-stored [] from whole kept h = h
    steps-stored (r ∷ states) from whole kept h =
        let ways = plain_ways agent r.state m r.way.left in
        steps-stored states (suc from) (fold (with_way agent from r.state) whole ways) (fold (with_stored agent m (Some room) from r.state) kept ways)
        (stored-ways from r.state ways whole kept h)

  -- with room for any number, all is stored
  all-ways : (from : ℕ) (values : Values) (ws : List Way) (l : Level) → fold (with_stored agent m None from values) l ws ≡ fold (with_way agent from values) l ws
  all-ways from values [] l = refl
  all-ways from values (w ∷ ws) l =
      all-ways from values ws (with_stored agent m None from values l w)
      ∙ ap (λ (k : Level). fold (with_way agent from values) k ws) (ap (λ (b : Bool). if b then with_way agent from values l w else l) (or-true (not (is_followed w))))

  all-steps : (states : List Reached) (from : ℕ) (l : Level) → stored_steps agent m None from l states ≡ with_steps agent m from l states
  all-steps [] from l = refl
  all-steps (r ∷ states) from l =
      let ways = plain_ways agent r.state m r.way.left in
      all-steps states (suc from) (fold (with_stored agent m None from r.state) l ways)
      ∙ ap (λ (k : Level). with_steps agent m (suc from) k states) (all-ways from r.state ways l)

  -- what is stored of a level
  pub level-stored : (room : Option ℕ) (states : List Reached)
      → AreStored agent m room (next_level agent m states).states (stored_level agent m room states).states × ((stored_level agent m room states).cut ≡ (next_level agent m states).cut)
  level-stored None states = let same = all-steps states 0 nothing_reached in (ap (λ (l : Level). l.states) same, ap (λ (l : Level). l.cut) same)
  level-stored (Some room) states = steps-stored room states 0 nothing_reached nothing_reached (same-level room nothing_reached (omega arith))

  -- the step of one state, as it is stored
  module _ (room : Option ℕ) (from : ℕ) (values : Values) (l : Level) (w : Way) where
    abbrev wanted : Bool
    wanted = is_stored room (length l.states) (final agent (after agent values w.label) m w.left)

    stored-by : (b : Bool) → (not (is_followed w) || wanted) ≡ b → with_stored agent m room from values l w ≡ (if b then with_way agent from values l w else l)
    stored-by b e = ap (λ (c : Bool). if c then with_way agent from values l w else l) e

    pub stored-cut : is_followed w ≡ false → with_way agent from values l w ≡ with_stored agent m room from values l w
    stored-cut e = sym (stored-by true (ap (λ (b : Bool). not b || wanted) e))

    pub stored-more : wanted ≡ true → with_way agent from values l w ≡ with_stored agent m room from values l w
    stored-more e = sym (stored-by true (ap (λ (b : Bool). not (is_followed w) || b) e ∙ or-true (not (is_followed w))))

    pub stored-less : is_followed w ≡ true → wanted ≡ false → l ≡ with_stored agent m room from values l w
    stored-less e k = sym (stored-by false (ap (λ (b : Bool). not b || wanted) e ∙ k))

  -- the first end stands at this place
  pub record IsPlaced (from : ℕ) (states : List Reached) (place : ℕ) : Type 0 where
    pub index : ℕ
    pub state : Reached
    pub placed : from + index ≡ place
    pub stands : slice_get states index ≡ Some state
    pub first : first_end agent m states ≡ Some state

  abbrev pub Placed : ℕ → List Reached → Option ℕ → Type 0
  Placed from states o = MatchOption o (first_end agent m states ≡ None) (IsPlaced from states)

  later-placed : (from : ℕ) (r : Reached) (states : List Reached) (o : Option ℕ) → end_of agent m r ≡ None → Placed (from + 1) states o → Placed from (r ∷ states) o
  later-placed from r states None e h = ap (λ (x : Option Reached). option_or x (first_end agent m states)) e ∙ h
  later-placed from r states (Some place) e h =
      let placed : from + 1 + h.index ≡ place = h.placed in
      record {
        index = suc h.index;
        state = h.state;
        placed = omega arith;
        stands = h.stands;
        first = ap (λ (x : Option Reached). option_or x (first_end agent m states)) e ∙ h.first;
      }

  pub end-placed : (states : List Reached) (from : ℕ) → Placed from states (position_from (ends_at agent m) from states)
  end-placed [] from = refl
  end-placed (r ∷ states) from = go (ends_at agent m r) refl (end-placed states (from + 1))
    where
      go : (b : Bool) → ends_at agent m r ≡ b → Placed (from + 1) states (position_from (ends_at agent m) (from + 1) states)
          → Placed from (r ∷ states) (if b then Some from else position_from (ends_at agent m) (from + 1) states)
      go true e later = record {
        index = 0;
        state = r;
        placed = omega arith;
        stands = refl;
        first = ap (λ (x : Option Reached). option_or x (first_end agent m states)) (end-is r true e);
      }
      go false e later = later-placed from r states (position_from (ends_at agent m) (from + 1) states) (end-is r false e) later

  pub stored-end : (room : Option ℕ) (whole kept : List Reached) → AreStored agent m room whole kept → first_end agent m kept ≡ first_end agent m whole
  stored-end None whole kept h = ap (first_end agent m) h
  stored-end (Some room) whole kept h = h.end

-- the states of a level that are stored where none of them ends
abbrev pub within : Option ℕ → List Reached → List Reached
within None states = states
within (Some room) states = take (suc room) states

pub within-shorter : (room : Option ℕ) (states : List Reached) → length (within room states) ≤ length states
within-shorter None states = omega arith
within-shorter (Some room) states = take-shorter (suc room) states

pub within-all : (room : ℕ) (states : List Reached) → length (take (suc room) states) ≤ room → take (suc room) states ≡ states
within-all room states l = take-few (suc room) states (omega arith)

pub within-empty : (room : Option ℕ) (states : List Reached) → is_empty (within room states) ≡ is_empty states
within-empty None states = refl
within-empty (Some room) [] = refl
within-empty (Some room) (r ∷ states) = refl

pub within-one : (room : Option ℕ) (r : Reached) → r ∷ [] ≡ within room (r ∷ [])
within-one None r = refl
within-one (Some room) r = sym (take-whole (suc room) (r ∷ []) (omega arith))

pub stored-within : (agent : Agent) (m : Mode) (room : Option ℕ) (whole kept : List Reached) → AreStored agent m room whole kept → first_end agent m kept ≡ None → kept ≡ within room whole
stored-within agent m None whole kept h e = h
stored-within agent m (Some room) whole kept h e =
    let few = h.endless e in
    sym (take-whole (suc room) kept (omega arith)) ∙ h.first

-- the run to a place goes by the state that stands there
pub run_to-same : (before : List (List Reached)) (xs ys : List Reached) (p q : ℕ) → slice_get xs p ≡ slice_get ys q → run_to before xs p ≡ run_to before ys q
run_to-same [] xs ys p q e = refl
run_to-same (nearer ∷ earlier) xs ys p q e = ap (λ (o : Option Reached). option_map_or (with_step earlier nearer) o []) e
