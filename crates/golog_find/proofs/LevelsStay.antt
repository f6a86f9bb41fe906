-- What a search reaches stays inside the agent, and has no block.
use Rattle.std.proofs.Common.{ℕ, suc, Bool, true, false, if◌then◌else◌, List, [], ◌∷◌, ◌++◌, length, Option}
use Rattle.std.specs.Prelude.{All, ◌||◌, fold, not}
use Rattle.std.proofs.lemmas.List.Elements.{All-nil, All-head, All-tail, All-push}
use Rattle.golog_tree.specs.declared.agent.Agent.{Agent}
use Rattle.golog_tree.specs.declared.prog.Way.{Way}
use Rattle.golog_semantics.specs.declared.Mode.{Mode}
use Rattle.golog_semantics.specs.Truth.{Values}
use Rattle.golog_semantics.specs.Values.{after}
use Rattle.golog_semantics.specs.Search.{final, is_followed, plain_ways}
use Rattle.golog_semantics.specs.InSorts.{AreInSorts}
use Rattle.golog_semantics.specs.WellFormed.{WellFormed}
use Rattle.golog_semantics.proofs.ByParts.{OfEach}
use Rattle.golog_semantics.proofs.CausesKeep.{steps_stay_in_sorts}
use Rattle.golog_ways.specs.Searched.{IsSearched}
use Rattle.golog_find.specs.Levels.{AreSearched, Level, Reached, is_stored, is_there, next_level, nothing_reached, reached_by, state_of, stored_level, stored_steps, with_state, with_steps, with_stored, with_way}
use Rattle.golog_ways.proofs.SearchedWays.{WayStays, ways_stay}

module _ (agent : Agent) (formed : WellFormed agent) where
  abbrev Stays : Reached → Type 0
  Stays r = IsSearched agent r.way.left r.state

  led-stays : (from : ℕ) (values : Values) → AreInSorts agent values → (w : Way) → WayStays agent w → Stays (reached_by agent from values w)
  led-stays from values s w h = record {
    program = h.left_fits;
    blockless = h.left_free;
    sorts = steps_stay_in_sorts agent formed values w.label s;
  }

  with_state-stays : (l : Level) (r : Reached) → All Stays l.states → Stays r → All Stays (with_state l r).states
  with_state-stays l r h k = go (is_there l.states (state_of r))
    where
      go : (b : Bool) → All Stays (if b then l else record { states = l.states ++ r ∷ []; cut = l.cut }).states
      go true = h
      go false = All-push Stays l.states r h k

  with_way-stays : (from : ℕ) (values : Values) (l : Level) (w : Way) → AreInSorts agent values → WayStays agent w → All Stays l.states
      → All Stays (with_way agent from values l w).states
  with_way-stays from values l w s k h = go (is_followed w)
    where
      go : (b : Bool) → All Stays (if b then with_state l (reached_by agent from values w) else record { states = l.states; cut = true }).states
      go true = with_state-stays l (reached_by agent from values w) h (led-stays from values s w k)
      go false = h

  with_ways-stay : (from : ℕ) (values : Values) (ws : List Way) (l : Level) → AreInSorts agent values → OfEach (WayStays agent) ws → All Stays l.states
      → All Stays (fold (with_way agent from values) l ws).states
  with_ways-stay from values [] l s k h = h
  with_ways-stay from values (w ∷ ws) l s k h =
      with_ways-stay from values ws (with_way agent from values l w) s k.1 (with_way-stays from values l w s k.0 h)

  with_steps-stay : (m : Mode) (states : List Reached) (from : ℕ) (l : Level) → AreSearched agent states → All Stays l.states → All Stays (with_steps agent m from l states).states
  with_steps-stay m [] from l k h = h
  with_steps-stay m (r ∷ states) from l k h =
      let here : IsSearched agent r.way.left r.state = All-head Stays r states k in
      with_steps-stay m states (suc from) (fold (with_way agent from r.state) l (plain_ways agent r.state m r.way.left)) (All-tail Stays r states k)
      (with_ways-stay from r.state (plain_ways agent r.state m r.way.left) l here.sorts (ways_stay agent formed r.way.left r.state here m) h)

  pub next_level-stays : (m : Mode) (states : List Reached) → AreSearched agent states → AreSearched agent (next_level agent m states).states
  next_level-stays m states k = with_steps-stay m states 0 nothing_reached k (All-nil Stays)

  -- so it is of what is stored
  with_stored-stays : (m : Mode) (room : Option ℕ) (from : ℕ) (values : Values) (l : Level) (w : Way) → AreInSorts agent values → WayStays agent w → All Stays l.states
      → All Stays (with_stored agent m room from values l w).states
  with_stored-stays m room from values l w s k h = go (not (is_followed w) || is_stored room (length l.states) (final agent (after agent values w.label) m w.left))
    where
      go : (b : Bool) → All Stays (if b then with_way agent from values l w else l).states
      go true = with_way-stays from values l w s k h
      go false = h

  stored_ways-stay : (m : Mode) (room : Option ℕ) (from : ℕ) (values : Values) (ws : List Way) (l : Level) → AreInSorts agent values → OfEach (WayStays agent) ws → All Stays l.states
      → All Stays (fold (with_stored agent m room from values) l ws).states
  stored_ways-stay m room from values [] l s k h = h
  stored_ways-stay m room from values (w ∷ ws) l s k h =
      stored_ways-stay m room from values ws (with_stored agent m room from values l w) s k.1 (with_stored-stays m room from values l w s k.0 h)

  stored_steps-stay : (m : Mode) (room : Option ℕ) (states : List Reached) (from : ℕ) (l : Level) → AreSearched agent states → All Stays l.states
      → All Stays (stored_steps agent m room from l states).states
  stored_steps-stay m room [] from l k h = h
  stored_steps-stay m room (r ∷ states) from l k h =
      let here : IsSearched agent r.way.left r.state = All-head Stays r states k in
      stored_steps-stay m room states (suc from) (fold (with_stored agent m room from r.state) l (plain_ways agent r.state m r.way.left)) (All-tail Stays r states k)
      (stored_ways-stay m room from r.state (plain_ways agent r.state m r.way.left) l here.sorts (ways_stay agent formed r.way.left r.state here m) h)

  pub stored_level-stays : (m : Mode) (room : Option ℕ) (states : List Reached) → AreSearched agent states → AreSearched agent (stored_level agent m room states).states
  stored_level-stays m room states k = stored_steps-stay m room states 0 nothing_reached k (All-nil Stays)
