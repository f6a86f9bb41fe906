-- What a search has found out that stores its last level as far as there is room.
use Rattle.std.proofs.Common.{◌≡◌, ℕ, ◌+◌, ◌≤◌, ◌<◌, Bool, true, false, List, [], ◌∷◌, ◌++◌, length, Option, Some, None, refl, sym, ap, ◌∙◌, subst, arith}
use Rattle.std.specs.Prelude.{not, ◌||◌, reverse, slice_get}
use Rattle.std.specs.List.{position_from}
use Rattle.golog_tree.specs.declared.agent.Agent.{Agent}
use Rattle.golog_semantics.specs.declared.Mode.{Mode}
use Rattle.golog_semantics.specs.declared.search.Block.{Block}
use Rattle.golog_semantics.specs.Truth.{Values}
use Rattle.golog_semantics.specs.Ways.{is_empty}
use Rattle.golog_ways.specs.Searched.{IsSearched}
use Rattle.golog_find.specs.declared.found.Found.TheVariants.{Absent, Fuel, Run as Runs}
use Rattle.golog_find.specs.Finding.{found_by}
use Rattle.golog_find.specs.Levels.{AreSearched, AreStored, Looked, Reached, ends_at, first_end, next_level, room_for, run_to, start_of}
use Rattle.golog_find.proofs.Searching.{IsSearching, begins, finds, finds-none, goes-further, lacks-fuel, seen-further}
use Rattle.golog_find.proofs.Seen.{HasSeen, level_at}
use Rattle.golog_find.proofs.Storing.{IsPlaced, Placed, end-placed, run_to-same, stored-end, stored-within, within, within-all, within-empty, within-one, within-shorter}

module _ (bounded : Bool) (agent : Agent) (m : Mode) (block : Block) (values : Values) where
  -- the search with these states in its last level
  abbrev with_last : Looked → List Reached → Looked
  with_last search last = record { before = search.before; last = last; cut = search.cut }

  abbrev level : ℕ → List Reached
  level = level_at agent m block.body values

  -- such a search is one that has its last level whole, but for the states of it for which there is no room
  pub record IsLookingOn (n fuel : ℕ) (search : Looked) : Type 0 where
    pub whole : IsSearching bounded agent m block values n fuel (with_last search (level n))
    pub stored : search.last ≡ within (room_for bounded fuel) (level n)

  pub looks-on : (search : Looked) → IsSearched agent block.body values → search ≡ record { before = []; last = start_of block.body values ∷ []; cut = false } → IsLookingOn 0 block.fuel search
  looks-on search h e =
      let last : search.last ≡ level 0 = ap (λ (s : Looked). s.last) e in
      record {
        whole = subst (λ (l : List Reached). IsSearching bounded agent m block values 0 block.fuel (with_last search l)) last (begins bounded agent m block values search h e);
        stored = last ∙ within-one (room_for bounded block.fuel) (start_of block.body values);
      }

  -- where it has no more states than fuel is left, they are all of the level
  all-there : (n fuel : ℕ) (last : List Reached) → (b : Bool) → bounded ≡ b → last ≡ within (room_for b fuel) (level n) → (bounded ≡ true → length last ≤ fuel) → last ≡ level n
  all-there n fuel last false eb e few = e
  all-there n fuel last true eb e few =
      let some = few eb in
      let count : length last ≡ length (within (room_for true fuel) (level n)) = ap length e in
      e ∙ within-all fuel (level n) (omega arith)

  pub is-searching : (n fuel : ℕ) (search : Looked) → IsLookingOn n fuel search → (bounded ≡ true → length search.last ≤ fuel) → IsSearching bounded agent m block values n fuel search
  is-searching n fuel search h few =
      subst (λ (l : List Reached). IsSearching bounded agent m block values n fuel (with_last search l)) (sym (all-there n fuel search.last bounded refl h.stored few)) h.whole

  -- where it has more, the search wants more than its fuel
  pub lacks : (n fuel : ℕ) (search : Looked) → IsLookingOn n fuel search → n < block.depth → bounded ≡ true → fuel < length search.last → Fuel ≡ found_by bounded agent values m block
  lacks n fuel search h less b more =
      let count : length search.last ≡ length (within (room_for bounded fuel) (level n)) = ap length h.stored in
      let short = within-shorter (room_for bounded fuel) (level n) in
      lacks-fuel bounded agent m block values n fuel (with_last search (level n)) h.whole less b (omega arith)

  pub looks-no-further : (n fuel : ℕ) (search : Looked) → IsLookingOn n fuel search → n ≡ block.depth → Absent (not (is_empty search.last) || search.cut) ≡ found_by bounded agent values m block
  looks-no-further n fuel search h end =
      ap (λ (b : Bool). Absent (not b || search.cut)) (ap is_empty h.stored ∙ within-empty (room_for bounded fuel) (level n))
      ∙ finds-none bounded agent m block values n fuel (with_last search (level n)) h.whole end

  -- one step further
  module _ (n fuel rest : ℕ) (old new : Looked) (h : IsSearching bounded agent m block values n fuel old) (spent : bounded ≡ true → rest + length old.last ≡ fuel)
      (before : new.before ≡ old.before ++ old.last ∷ []) (stored : AreStored agent m (room_for bounded rest) (next_level agent m old.last).states new.last)
      (cut : new.cut ≡ (old.cut || (next_level agent m old.last).cut)) where
    abbrev next : List Reached
    next = (next_level agent m old.last).states

    seen-next : HasSeen agent m block.body values (n + 1) (with_last new next)
    seen-next = seen-further bounded agent m block values n old (with_last new next) h.seen before refl cut

    same-first : first_end agent m new.last ≡ first_end agent m next
    same-first = stored-end agent m (room_for bounded rest) next new.last stored

    -- the run to the first end among the states stored
    pub finds-stored : (place : ℕ) → n < block.depth → position_from (ends_at agent m) 0 new.last ≡ Some place
        → Runs (run_to (reverse new.before) new.last place) ≡ found_by bounded agent values m block
    finds-stored place less e = go (position_from (ends_at agent m) 0 next) refl (end-placed agent m next 0)
      where
        here : IsPlaced agent m 0 new.last place
        here = subst (Placed agent m 0 new.last) e (end-placed agent m new.last 0)

        go : (o : Option ℕ) → position_from (ends_at agent m) 0 next ≡ o → Placed agent m 0 next o → Runs (run_to (reverse new.before) new.last place) ≡ found_by bounded agent values m block
        go None en there = let k : Some here.state ≡ None = sym here.first ∙ same-first ∙ there in absurd (cc)
        go (Some other) en there =
            let mine : here.index ≡ place = let p : 0 + here.index ≡ place = here.placed in omega arith in
            let its : there.index ≡ other = let p : 0 + there.index ≡ other = there.placed in omega arith in
            ap Runs (run_to-same (reverse new.before) new.last next place other
            (ap (slice_get new.last) (sym mine) ∙ here.stands ∙ sym here.first ∙ same-first ∙ there.first ∙ sym there.stands ∙ ap (slice_get next) its))
            ∙ finds bounded agent m block values n fuel rest other old (with_last new next) h less spent seen-next en

    -- where none of the states stored is an end, none of the level is
    pub looks-further : AreSearched agent next → position_from (ends_at agent m) 0 new.last ≡ None → IsLookingOn (n + 1) rest new
    looks-further searched e =
        let same : next ≡ level (n + 1) = seen-next.last in
        let none : first_end agent m new.last ≡ None = subst (Placed agent m 0 new.last) e (end-placed agent m new.last 0) in
        record {
          whole = subst (λ (l : List Reached). IsSearching bounded agent m block values (n + 1) rest (with_last new l)) same
              (goes-further bounded agent m block values n fuel rest old (with_last new next) h spent seen-next searched (none-next (sym same-first ∙ none)));
          stored = stored-within agent m (room_for bounded rest) next new.last stored none ∙ ap (within (room_for bounded rest)) same;
        }
      where
        none-next : first_end agent m next ≡ None → position_from (ends_at agent m) 0 next ≡ None
        none-next none = go (position_from (ends_at agent m) 0 next) (end-placed agent m next 0)
          where
            go : (o : Option ℕ) → Placed agent m 0 next o → o ≡ None
            go None there = refl
            go (Some other) there = let k : Some there.state ≡ None = sym there.first ∙ none in absurd (cc)
