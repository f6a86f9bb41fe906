-- What a search has found out that looked as far as so many steps.
use Rattle.std.proofs.Common.{◌≡◌, ℕ, suc, ◌+◌, ◌-◌, ◌≤◌, ◌<◌, Bool, true, false, ◌&&◌, if◌then◌else◌, List, [], ◌∷◌, ◌++◌, length, Option, Some, None, refl, sym, ap, ◌∙◌, subst, arith, inl, inr}
use Rattle.std.specs.Prelude.{not, ◌||◌, nat_lt, reverse, unwrap_or, MatchOption}
use Rattle.std.specs.List.{position_from}
use Rattle.std.proofs.lemmas.Bool.{cases_lt, lt-ltb, le-ltb}
use Rattle.std.proofs.lemmas.List.{reverse-append}
use Rattle.std.proofs.lemmas.Option.{same_Some}
use Rattle.std.proofs.lemmas.List.Elements.{All-nil, All-cons}
use Rattle.golog_tree.specs.declared.agent.Agent.{Agent}
use Rattle.golog_semantics.specs.declared.Mode.{Mode}
use Rattle.golog_semantics.specs.declared.search.Block.{Block}
use Rattle.golog_semantics.specs.Truth.{Values}
use Rattle.golog_semantics.specs.Ways.{is_empty}
use Rattle.golog_semantics.specs.Search.{Run, best, runs}
use Rattle.golog_semantics.specs.Blocks.{is_cut, option_length, work}
use Rattle.golog_semantics.specs.RunLaws.{IsLeast, NoneUpTo}
use Rattle.golog_semantics.proofs.BestRuns.{best_is_least}
use Rattle.golog_ways.specs.First.{head_of}
use Rattle.golog_find.specs.declared.found.Found.{Found}
use Rattle.golog_find.specs.declared.found.Found.TheVariants.{Absent, Fuel, Run as Runs}
use Rattle.golog_find.specs.Finding.{found_by, run_or}
use Rattle.golog_ways.specs.Searched.{IsSearched}
use Rattle.golog_find.specs.Levels.{AreSearched, Looked, Reached, ends_at, next_level, run_to, start_of}
use Rattle.golog_find.proofs.Seen.{HasSeen, count_before, cut_before, level_at, levels_before}
use Rattle.golog_find.proofs.Counting.{count-grows, cut-is, worked}
use Rattle.golog_find.proofs.Ending.{run-absent, run-found}
use Rattle.golog_find.proofs.FirstRuns.{first_run, to_place}

reverse-more : (before : List (List Reached)) (last : List Reached) → reverse (before ++ last ∷ []) ≡ last ∷ reverse before
reverse-more before last = reverse-append before (last ∷ [])

module _ (bounded : Bool) (agent : Agent) (m : Mode) (block : Block) (values : Values) where
  -- Such a search has seen these levels, found no run that is so short, and where it is bounded has this fuel
  -- left.
  pub record IsSearching (n fuel : ℕ) (search : Looked) : Type 0 where
    pub seen : HasSeen agent m block.body values n search
    pub searched : AreSearched agent search.last
    pub absent : (k : ℕ) → 1 ≤ k → k ≤ n → first_run agent m k (block.body, values) ≡ None
    pub fuel_left : bounded ≡ true → fuel + count_before agent m block.body values n ≡ block.fuel

  pub begins : (search : Looked) → IsSearched agent block.body values → search ≡ record { before = []; last = start_of block.body values ∷ []; cut = false }
      → IsSearching 0 block.fuel search
  begins search h e = record {
    seen = record {
      before = ap (λ (s : Looked). reverse s.before) e;
      last = ap (λ (s : Looked). s.last) e;
      cut = ap (λ (s : Looked). s.cut) e;
    };
    searched = subst (λ (s : Looked). AreSearched agent s.last) (sym e)
        (All-cons (λ (r : Reached). IsSearched agent r.way.left r.state) (start_of block.body values) [] h (All-nil (λ (r : Reached). IsSearched agent r.way.left r.state)));
    absent = λ k low high. absurd (omega arith);
    fuel_left = λ b. omega arith;
  }

  pub seen-further : (n : ℕ) (old new : Looked) → HasSeen agent m block.body values n old → new.before ≡ old.before ++ old.last ∷ []
      → new.last ≡ (next_level agent m old.last).states → new.cut ≡ (old.cut || (next_level agent m old.last).cut) → HasSeen agent m block.body values (n + 1) new
  seen-further n old new h before last cut =
      let same : suc n ≡ n + 1 = omega arith in
      subst (λ k. HasSeen agent m block.body values k new) same (record {
        before = ap reverse before ∙ reverse-more old.before old.last ∙ ap (λ l. l ∷ reverse old.before) h.last ∙ ap (λ ls. level_at agent m block.body values n ∷ ls) h.before;
        last = last ∙ ap (λ l. (next_level agent m l).states) h.last;
        cut = cut ∙ ap (λ b. b || (next_level agent m old.last).cut) h.cut ∙ ap (λ l. cut_before agent m block.body values n || (next_level agent m l).cut) h.last;
      })

  pub goes-further : (n fuel rest : ℕ) (old new : Looked) → IsSearching n fuel old → (bounded ≡ true → rest + length old.last ≡ fuel) → HasSeen agent m block.body values (n + 1) new → AreSearched agent new.last
      → position_from (ends_at agent m) 0 new.last ≡ None → IsSearching (n + 1) rest new
  goes-further n fuel rest old new h spent seen searched none = record {
    seen = seen;
    searched = searched;
    absent = λ k low high. elim (cases_lt n k) [
      | inl less ↦ (let same : n + 1 ≡ k = omega arith in
          ap (λ j. first_run agent m j (block.body, values)) (sym same)
          ∙ run-absent agent m block.body values (n + 1) (ap (position_from (ends_at agent m) 0) (sym seen.last) ∙ none))
      | inr not_less ↦ h.absent k low (omega arith)
    ];
    fuel_left = λ b. spent-fuel n fuel rest old h b (spent b);
  }
    where
      spent-fuel : (n fuel rest : ℕ) (old : Looked) → IsSearching n fuel old → bounded ≡ true → rest + length old.last ≡ fuel
          → rest + count_before agent m block.body values (n + 1) ≡ block.fuel
      spent-fuel n fuel rest old h b spent =
          let same : n + 1 ≡ suc n = omega arith in
          let count : length old.last ≡ length (level_at agent m block.body values n) = ap length h.seen.last in
          let left : fuel + count_before agent m block.body values n ≡ block.fuel = h.fuel_left b in
          ap (λ k. rest + count_before agent m block.body values k) same ∙ omega arith

  no-head : (rs later : List Run) (run : Run) → rs ≡ run ∷ later → head_of rs ≡ None → ⊥
  no-head rs later run e h = let k : Some run ≡ None = sym (ap head_of e) ∙ h in cc k

  -- the best run is longer than each length of which there is none
  longer : (n : ℕ) → ((k : ℕ) → 1 ≤ k → k ≤ n → first_run agent m k (block.body, values) ≡ None) → (run : Run) → IsLeast agent m block.body values block.depth run → n < length run
  longer n absent run least = elim (cases_lt n (length run)) [
    | inl less ↦ less
    | inr not_less ↦ absurd (no-head (runs agent m (length run) block.body values) least.later run least.first (absent (length run) least.some (omega arith)))
  ]

  count-up : (a b : ℕ) → a ≤ b → count_before agent m block.body values a ≤ count_before agent m block.body values b
  count-up a b l =
      let same : a + (b - a) ≡ b = omega arith in
      subst (λ k. count_before agent m block.body values a ≤ count_before agent m block.body values k) same (count-grows agent m block.body values a (b - a))

  -- a search that is to go on looks at the last level too
  works-more : (n : ℕ) → n < block.depth → ((k : ℕ) → 1 ≤ k → k ≤ n → first_run agent m k (block.body, values) ≡ None)
      → (o : Option Run) → best agent m block.depth block.body values ≡ o → MatchOption o (NoneUpTo agent m block.body values block.depth) (IsLeast agent m block.body values block.depth)
      → count_before agent m block.body values (suc n) ≤ work agent m block.depth block.body values
  works-more n less absent None e h =
      subst (λ k. count_before agent m block.body values (suc n) ≤ k) (sym (worked agent m block.body values block.depth None e)) (count-up (suc n) block.depth (omega arith))
  works-more n less absent (Some run) e h =
      let long : n < length run = longer n absent run h in
      subst (λ k. count_before agent m block.body values (suc n) ≤ k) (sym (worked agent m block.body values block.depth (Some run) e)) (count-up (suc n) (length run) (omega arith))

  is-least : (o : Option Run) → best agent m block.depth block.body values ≡ o → MatchOption o (NoneUpTo agent m block.body values block.depth) (IsLeast agent m block.body values block.depth)
  is-least o e =
      subst (λ b. MatchOption b (NoneUpTo agent m block.body values block.depth) (IsLeast agent m block.body values block.depth)) e
      (best_is_least agent m block.depth block.body values)

  -- what a search comes to that does not want more than its fuel
  abbrev searched_out : Found
  searched_out = run_or (is_cut agent m block.depth block.body values) (best agent m block.depth block.body values)

  -- where the last level has more states than fuel is left, the search wants more than its fuel
  pub lacks-fuel : (n fuel : ℕ) (search : Looked) → IsSearching n fuel search → n < block.depth → bounded ≡ true → fuel < length search.last → Fuel ≡ found_by bounded agent values m block
  unfolding found_by
  lacks-fuel n fuel search h less b more =
      let count : length search.last ≡ length (level_at agent m block.body values n) = ap length h.seen.last in
      let left : fuel + count_before agent m block.body values n ≡ block.fuel = h.fuel_left b in
      let works = works-more n less h.absent (best agent m block.depth block.body values) refl (is-least (best agent m block.depth block.body values) refl) in
      let above : block.fuel < work agent m block.depth block.body values = omega arith in
      sym (ap (λ d. if d && nat_lt block.fuel (work agent m block.depth block.body values) then Fuel else searched_out) b
      ∙ ap (λ d. if d then Fuel else searched_out) (lt-ltb block.fuel (work agent m block.depth block.body values) above))

  -- such a search tells what it has found
  found-within : (o : Option Run) → best agent m block.depth block.body values ≡ o → (bounded ≡ true → work agent m block.depth block.body values ≤ block.fuel)
      → run_or (is_cut agent m block.depth block.body values) o ≡ found_by bounded agent values m block
  unfolding found_by
  found-within o e l =
      sym (ap (λ d. if d then Fuel else searched_out) (within bounded refl) ∙ ap (run_or (is_cut agent m block.depth block.body values)) e)
    where
      within : (b : Bool) → bounded ≡ b → (b && nat_lt block.fuel (work agent m block.depth block.body values)) ≡ false
      within true k = le-ltb block.fuel (work agent m block.depth block.body values) (l k)
      within false k = refl

  head-some : (rs : List Run) (run : Run) → head_of rs ≡ Some run → rs ≡ [] → ⊥
  head-some rs run e h = let k : Some run ≡ None = sym e ∙ ap head_of h in cc k

  same-head : (rs later : List Run) (run other : Run) → rs ≡ other ∷ later → head_of rs ≡ Some run → other ≡ run
  same-head rs later run other e h = same_Some other run (sym (ap head_of e) ∙ h)

  -- the first run of a length, where there is none that is shorter
  least-is : (n : ℕ) → n < block.depth → ((k : ℕ) → 1 ≤ k → k ≤ n → first_run agent m k (block.body, values) ≡ None)
      → (run : Run) → first_run agent m (suc n) (block.body, values) ≡ Some run
      → (o : Option Run) → best agent m block.depth block.body values ≡ o → MatchOption o (NoneUpTo agent m block.body values block.depth) (IsLeast agent m block.body values block.depth)
      → (o ≡ Some run) × (unwrap_or (option_length o) block.depth ≡ suc n)
  least-is n less absent run e None b h = absurd (head-some (runs agent m (suc n) block.body values) run e (h (suc n) (omega arith) (omega arith)))
  least-is n less absent run e (Some other) b h =
      let long : n < length other = longer n absent other h in
      let count : length other ≡ suc n = elim (cases_lt (suc n) (length other)) [
        | inl shorter ↦ absurd (head-some (runs agent m (suc n) block.body values) run e (h.least (suc n) (omega arith) shorter))
        | inr not_shorter ↦ (omega arith)
      ] in
      (ap Some (same-head (runs agent m (length other) block.body values) h.later run other h.first (ap (λ k. first_run agent m k (block.body, values)) count ∙ e)), count)

  -- the run to the first state of a new level in which the program may end
  pub finds : (n fuel rest place : ℕ) (old new : Looked) → IsSearching n fuel old → n < block.depth → (bounded ≡ true → rest + length old.last ≡ fuel) → HasSeen agent m block.body values (n + 1) new
      → position_from (ends_at agent m) 0 new.last ≡ Some place
      → Runs (run_to (reverse new.before) new.last place) ≡ found_by bounded agent values m block
  finds n fuel rest place old new h less spent seen ended =
      let run = to_place agent m block.body values (suc n) place in
      let same : n + 1 ≡ suc n = omega arith in
      let here : HasSeen agent m block.body values (suc n) new = subst (λ k. HasSeen agent m block.body values k new) same seen in
      let first : first_run agent m (suc n) (block.body, values) ≡ Some run = run-found agent m block.body values (suc n) place (ap (position_from (ends_at agent m) 0) (sym here.last) ∙ ended) in
      let best_of = best agent m block.depth block.body values in
      let least = least-is n less h.absent run first best_of refl (is-least best_of refl) in
      let works : work agent m block.depth block.body values ≡ count_before agent m block.body values (suc n) =
      worked agent m block.body values block.depth best_of refl ∙ ap (count_before agent m block.body values) least.1 in
      ap Runs (ap (λ b. run_to b new.last place) here.before ∙ ap (λ l. run_to (levels_before agent m block.body values (suc n)) l place) here.last)
      ∙ found-within (Some run) least.0
      (λ b. let count : length old.last ≡ length (level_at agent m block.body values n) = ap length h.seen.last in
      let left : fuel + count_before agent m block.body values n ≡ block.fuel = h.fuel_left b in
      let paid : rest + length old.last ≡ fuel = spent b in
      omega arith)

  none-least : (n : ℕ) → ((k : ℕ) → 1 ≤ k → k ≤ n → first_run agent m k (block.body, values) ≡ None) → block.depth ≤ n
      → (o : Option Run) → MatchOption o (NoneUpTo agent m block.body values block.depth) (IsLeast agent m block.body values block.depth) → o ≡ None
  none-least n absent all None h = refl
  none-least n absent all (Some run) h = let long : n < length run = longer n absent run h in let within : length run ≤ block.depth = h.within in absurd (omega arith)

  -- a search that has looked as far as the depth
  pub finds-none : (n fuel : ℕ) (search : Looked) → IsSearching n fuel search → n ≡ block.depth → Absent (not (is_empty search.last) || search.cut) ≡ found_by bounded agent values m block
  finds-none n fuel search h end =
      let best_of = best agent m block.depth block.body values in
      let none : best_of ≡ None = none-least n h.absent (omega arith) best_of (is-least best_of refl) in
      let works : work agent m block.depth block.body values ≡ count_before agent m block.body values block.depth = worked agent m block.body values block.depth None none in
      let left : bounded ≡ true → fuel + count_before agent m block.body values n ≡ block.fuel = h.fuel_left in
      let counts : count_before agent m block.body values n ≡ count_before agent m block.body values block.depth = ap (count_before agent m block.body values) end in
      ap Absent (ap (λ l. not (is_empty l) || search.cut) h.seen.last ∙ ap (λ b. not (is_empty (level_at agent m block.body values n)) || b) h.seen.cut
      ∙ cut-is agent m block.body values n ∙ ap (λ k. is_cut agent m k block.body values) end)
      ∙ found-within None none (λ b. let l = left b in omega arith)
