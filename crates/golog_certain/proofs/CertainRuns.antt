-- A block that has a certain step has a near one.
use Rattle.std.proofs.Common.{◌≡◌, inl, ℕ, zero, suc, ◌+◌, ◌≤◌, ◌<◌, Bool, true, false, if◌then◌else◌, List, [], ◌∷◌, length, map, Some, refl, sym, ap, subst, arith}
use Rattle.std.specs.Prelude.{not, filter}
use Rattle.std.specs.List.{list_any, range_with_len}
use Rattle.golog_tree.specs.declared.agent.Agent.{Agent}
use Rattle.golog_tree.specs.declared.prog.Prog.{Prog}
use Rattle.golog_tree.specs.declared.prog.Way.{Way}
use Rattle.golog_semantics.specs.declared.Mode.{Mode}
use Rattle.golog_semantics.specs.declared.Mode.TheVariants.{Must, Near}
use Rattle.golog_semantics.specs.Truth.{Values}
use Rattle.golog_semantics.specs.Values.{after}
use Rattle.golog_semantics.specs.Ways.{is_empty, way_of}
use Rattle.golog_semantics.specs.Search.{Run, best_from, final, first_of, is_followed, moves_with, no_blocks, plain_ways, runs}
use Rattle.golog_semantics.specs.Blocks.{begins_run, goes_through}
use Rattle.golog_semantics.specs.Same.{same_way}
use Rattle.golog_semantics.specs.Guarded.{front}
use Rattle.golog_semantics.proofs.BestRuns.{longer, same_way-eq}
use Rattle.golog_semantics.proofs.ByParts.{OfEach}
use Rattle.golog_certain.proofs.Members.{among-range, among-sublist, not_empty}
use Rattle.golog_semantics.proofs.Among.{Among, among-any, any-among, filter-among, flat-among, map-among}
use Rattle.golog_semantics.proofs.ModesOrdered.{final-more, must_near}
use Rattle.golog_semantics.proofs.StepsInModes.{plain-must_near}
use Rattle.golog_semantics.proofs.Sublists.{sublist-map}
use Rattle.golog_semantics.proofs.Tests.{and_both, and_cases}

module _ (agent : Agent) where
  pub ways-must_near : (values : Values) (p : Prog) (w : Way) → Among (plain_ways agent values Must p) w → Among (plain_ways agent values Near p) w
  unfolding plain_ways
  ways-must_near values p w h =
      among-sublist (map way_of (moves_with agent no_blocks values Must p)) (map way_of (moves_with agent no_blocks values Near p)) w
      (sublist-map way_of (moves_with agent no_blocks values Must p) (moves_with agent no_blocks values Near p) (plain-must_near agent values (front agent p).height p)) h

  -- a run of one more way
  pub more_runs : (m : Mode) (n : ℕ) (p : Prog) (values : Values) (w : Way) (run : Run) → Among (plain_ways agent values m p) w → is_followed w ≡ true
      → Among (runs agent m n w.left (after agent values w.label)) run → Among (runs agent m (suc n) p values) (w ∷ run)
  unfolding runs
  more_runs m n p values w run h e k =
      flat-among (λ (v : Way). map (λ r. v ∷ r) (runs agent m n v.left (after agent values v.label))) (filter is_followed (plain_ways agent values m p)) w (w ∷ run)
      (filter-among is_followed (plain_ways agent values m p) w h e) (map-among (λ r. w ∷ r) (runs agent m n w.left (after agent values w.label)) run k)

  if_some : (b c : Bool) (run : Run) → (b ≡ true → c ≡ true) → Among (if b then [] ∷ [] else []) run → Among (if c then [] ∷ [] else []) run
  if_some true c run h k = subst (λ d. Among (if d then [] ∷ [] else []) run) (sym (h refl)) k
  if_some false c run h k = absurd k

  no_more : (values : Values) (p : Prog) (run : Run) → Among (runs agent Must zero p values) run → Among (runs agent Near zero p values) run
  unfolding runs
  no_more values p run h = if_some (final agent values Must p) (final agent values Near p) run (final-more agent values Must Near must_near p) h

  -- the certain runs are near ones
  pub runs-must_near : (n : ℕ) (p : Prog) (values : Values) (run : Run) → Among (runs agent Must n p values) run → Among (runs agent Near n p values) run
  runs-must_near zero p values run h = no_more values p run h
  runs-must_near (suc n) p values run h =
      let b = longer agent Must n p values run h in
      subst (Among (runs agent Near (suc n) p values)) b.is
      (more_runs Near n p values b.way b.rest (ways-must_near values p b.way b.step) b.followed (runs-must_near n b.way.left (after agent values b.way.label) b.rest b.later))

  if_final : (b : Bool) → b ≡ true → Among {A = Run} (if b then [] ∷ [] else []) []
  if_final true e = inl refl
  if_final false e = absurd (cc)

  ended : (values : Values) (p : Prog) → final agent values Must p ≡ true → Among (runs agent Must zero p values) []
  unfolding runs
  ended values p h = if_final (final agent values Must p) h

  -- a run that goes through, and whose lefts may be followed, is a certain run
  pub goes-runs : (run : Run) (p : Prog) (values : Values) → goes_through agent p run values ≡ true → OfEach (λ w. is_followed w ≡ true) run → Among (runs agent Must (length run) p values) run
  goes-runs [] p values h k = ended values p h
  goes-runs (w ∷ run) p values h k =
      let a = and_cases (list_any (same_way w) (plain_ways agent values Must p)) (goes_through agent w.left run (after agent values w.label)) h in
      let b = among-any (same_way w) (plain_ways agent values Must p) a.0 in
      let e = same_way-eq w b.0 b.1.1 in
      more_runs Must (length run) p values w run (subst (Among (plain_ways agent values Must p)) (sym e) b.1.0) k.0 (goes-runs run w.left (after agent values w.label) a.1 k.1)

  -- the first way of a certain run within the depth begins a near one
  pub begins : (values : Values) (depth n : ℕ) (p : Prog) (w : Way) (run : Run) → n < depth → is_followed w ≡ true → Among (runs agent Must n w.left (after agent values w.label)) run → begins_run agent values depth w ≡ true
  begins values depth n p w run l e h =
      and_both (is_followed w) (list_any (λ k. not (is_empty (runs agent Near k w.left (after agent values w.label)))) (range_with_len 0 depth)) e
      (any-among (λ k. not (is_empty (runs agent Near k w.left (after agent values w.label)))) (range_with_len 0 depth) n (among-range 0 depth n (omega arith) (omega arith))
      (ap not (not_empty (runs agent Near n w.left (after agent values w.label)) run (runs-must_near n w.left (after agent values w.label) run h))))

  -- what a search finds is a run of a length in its bounds
  pub record Found (m : Mode) (n more : ℕ) (p : Prog) (values : Values) (run : Run) : Type 0 where
    pub size : ℕ
    pub low : n ≤ size
    pub high : size < n + more
    pub among : Among (runs agent m size p values) run

  pub found : (m : Mode) (n more : ℕ) (p : Prog) (values : Values) (run : Run) → best_from agent m n more p values ≡ Some run → Found m n more p values run
  found m n zero p values run e = absurd (cc)
  found m n (suc more) p values run e = go (runs agent m n p values) refl e (found m (n + 1) more p values run)
    where
      go : (rs : List Run) → runs agent m n p values ≡ rs → first_of rs (best_from agent m (n + 1) more p values) ≡ Some run
          → (best_from agent m (n + 1) more p values ≡ Some run → Found m (n + 1) more p values run) → Found m n (suc more) p values run
      go [] is h later = let f = later h in record { size = f.size; low = (let a = f.low in omega arith); high = (let a = f.high in omega arith); among = f.among }
      go (r ∷ rs) is h later = record { size = n; low = omega arith; high = omega arith; among = subst (λ xs. Among xs run) (sym is) (inl (let k : r ≡ run = cc in k)) }
