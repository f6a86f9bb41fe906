-- Runs go through, and the best run is the first of the least length.
use Rattle.std.proofs.Common.{◌≡◌, ℕ, zero, suc, ◌+◌, ◌<◌, ◌≤◌, Bool, true, false, ◌&&◌, if◌then◌else◌, List, [], ◌∷◌, length, map, filter, refl, sym, ap, ◌∙◌, subst, arith, inl, inr, Some, None, Option}
use Rattle.std.specs.Prelude.{MatchOption}
use Rattle.std.specs.List.{list_any, list_all}
use Rattle.std.proofs.lemmas.Bool.{eq-eqb, eqb-true, cases_lt}
use Rattle.golog_tree.specs.declared.agent.Agent.{Agent}
use Rattle.golog_tree.specs.declared.prog.Prog.{Prog}
use Rattle.golog_tree.specs.declared.prog.Way.{Way}
use Rattle.golog_tree.specs.declared.prog.Label.{Label}
use Rattle.golog_tree.specs.declared.prog.Label.TheVariants.{Quiet, Do}
use Rattle.golog_semantics.specs.declared.Mode.{Mode}
use Rattle.golog_semantics.specs.declared.Mode.TheVariants.{Must}
use Rattle.golog_semantics.specs.Truth.{Values}
use Rattle.golog_semantics.specs.Values.{after}
use Rattle.golog_semantics.specs.Same.{same_label, same_prog, same_way}
use Rattle.golog_semantics.specs.Search.{Run, final, is_followed, plain_ways, runs, first_of, best_from, best}
use Rattle.golog_semantics.specs.Blocks.{goes_through}
use Rattle.golog_semantics.specs.RunLaws.{NoneUpTo, IsLeast, BestIsLeast, RunsAreSound}
use Rattle.golog_semantics.proofs.SameLaws.{same_prog-same, same_prog-eq}
use Rattle.golog_semantics.proofs.Words.{and-left, and-right}
use Rattle.golog_semantics.proofs.Among.{Among, among-contains, contains-among, among-filter, filter-among, any-among, among-any, among-map, map-among, among-flat, flat-among}

same_label-same : (l : Label) → same_label l l ≡ true
same_label-same Quiet = refl
same_label-same (Do a) = eq-eqb a a refl

pub same_way-same : (w : Way) → same_way w w ≡ true
same_way-same w = ap (λ b. b && same_prog w.left w.left) (same_label-same w.label) ∙ same_prog-same w.left

same_label-eq : (l k : Label) → same_label l k ≡ true → l ≡ k
same_label-eq Quiet Quiet e = refl
same_label-eq Quiet (Do b) e = absurd (cc)
same_label-eq (Do a) Quiet e = absurd (cc)
same_label-eq (Do a) (Do b) e = ap Do (eqb-true a b e)

pub same_way-eq : (w v : Way) → same_way w v ≡ true → w ≡ v
same_way-eq w v e =
    let label = same_label-eq w.label v.label (and-left (same_label w.label v.label) (same_prog w.left v.left) e) in
    let left = same_prog-eq w.left v.left (and-right (same_label w.label v.label) (same_prog w.left v.left) e) in
    (λ i. record { label = label i; left = left i })

module _ (agent : Agent) where
  -- a run of one more way: the first of them, and the run after it
  pub record Longer (m : Mode) (n : ℕ) (p : Prog) (values : Values) (run : Run) : Type 0 where
    pub way : Way
    pub rest : Run
    pub step : Among (plain_ways agent values m p) way
    pub followed : is_followed way ≡ true
    pub later : Among (runs agent m n way.left (after agent values way.label)) rest
    pub is : way ∷ rest ≡ run

  pub longer : (m : Mode) (n : ℕ) (p : Prog) (values : Values) (run : Run) → Among (runs agent m (suc n) p values) run → Longer m n p values run
  unfolding runs
  longer m n p values run h =
      let a = among-flat (λ w. map (λ r. w ∷ r) (runs agent m n w.left (after agent values w.label))) (filter is_followed (plain_ways agent values m p)) run h in
      let w = a.0 in
      let b = among-filter is_followed (plain_ways agent values m p) w a.1.0 in
      let c = among-map (λ r. w ∷ r) (runs agent m n w.left (after agent values w.label)) run a.1.1 in
      record { way = w; rest = c.0; step = b.0; followed = b.1; later = c.1.0; is = c.1.1 }

  ended : (b : Bool) (run : Run) → Among (if b then [] ∷ [] else []) run → (b ≡ true) × ([] ≡ run)
  ended true run (inl e) = (refl, e)
  ended true run (inr h) = absurd h
  ended false run h = absurd h

  pub no_longer : (m : Mode) (p : Prog) (values : Values) (run : Run) → Among (runs agent m 0 p values) run → (final agent values m p ≡ true) × ([] ≡ run)
  unfolding runs
  no_longer m p values run h = ended (final agent values m p) run h

  pub long : (m : Mode) (n : ℕ) (p : Prog) (values : Values) (run : Run) → Among (runs agent m n p values) run → length run ≡ n
  long m zero p values run h = ap length (sym (no_longer m p values run h).1)
  long m (suc n) p values run h =
      let l = longer m n p values run h in
      ap length (sym l.is) ∙ ap suc (long m n l.way.left (after agent values l.way.label) l.rest l.later)

  pub through : (n : ℕ) (p : Prog) (values : Values) (run : Run) → Among (runs agent Must n p values) run → goes_through agent p run values ≡ true
  through zero p values run h =
      let e = no_longer Must p values run h in subst (λ r. goes_through agent p r values ≡ true) e.1 e.0
  through (suc n) p values run h =
      let l = longer Must n p values run h in
      subst (λ r. goes_through agent p r values ≡ true) l.is
      (ap (λ b. b && goes_through agent l.way.left l.rest (after agent values l.way.label)) (any-among (same_way l.way) (plain_ways agent values Must p) l.way l.step (same_way-same l.way))
      ∙ through n l.way.left (after agent values l.way.label) l.rest l.later)

  pub all_runs : (run : Run) (p : Prog) (values : Values) → list_all is_followed run ≡ true → goes_through agent p run values ≡ true
      → Among (runs agent Must (length run) p values) run
  unfolding runs
  all_runs [] p values f h = rw h (inl refl)
  all_runs (w ∷ run) p values f h =
      let a = among-any (same_way w) (plain_ways agent values Must p) (and-left (list_any (same_way w) (plain_ways agent values Must p)) (goes_through agent w.left run (after agent values w.label)) h) in
      let same : w ≡ a.0 = same_way-eq w a.0 a.1.1 in
      let ours : Among (plain_ways agent values Must p) w = subst (Among (plain_ways agent values Must p)) (sym same) a.1.0 in
      let rest = all_runs run w.left (after agent values w.label) (and-right (is_followed w) (list_all is_followed run) f)
      (and-right (list_any (same_way w) (plain_ways agent values Must p)) (goes_through agent w.left run (after agent values w.label)) h) in
      flat-among (λ v. map (λ r. v ∷ r) (runs agent Must (length run) v.left (after agent values v.label))) (filter is_followed (plain_ways agent values Must p)) w (w ∷ run)
      (filter-among is_followed (plain_ways agent values Must p) w ours (and-left (is_followed w) (list_all is_followed run) f))
      (map-among (λ r. w ∷ r) (runs agent Must (length run) w.left (after agent values w.label)) run rest)

  module _ (m : Mode) (p : Prog) (values : Values) where
    -- the first of the least length from this one on
    record LeastFrom (n more : ℕ) (run : Run) : Type 0 where
      low : n ≤ length run
      within : length run < n + more
      later : List Run
      first : runs agent m (length run) p values ≡ run ∷ later
      least : (k : ℕ) → n ≤ k → k < length run → runs agent m k p values ≡ []

    abbrev NoneFrom : ℕ → ℕ → Type 0
    NoneFrom n more = (k : ℕ) → n ≤ k → k < n + more → runs agent m k p values ≡ []

    none-at : (n k : ℕ) → n ≤ k → runs agent m n p values ≡ [] → (n + 1 ≤ k → runs agent m k p values ≡ []) → runs agent m k p values ≡ []
    none-at n k h e later = elim (cases_lt n k) [ inl less ↦ later (omega arith) | inr not_less ↦ (let same : k ≡ n = omega arith in ap (λ x. runs agent m x p values) same ∙ e) ]

    first-is : (n more : ℕ) (rs : List Run) (o : Option Run) → runs agent m n p values ≡ rs → MatchOption o (NoneFrom (n + 1) more) (LeastFrom (n + 1) more)
        → MatchOption (first_of rs o) (NoneFrom n (suc more)) (LeastFrom n (suc more))
    first-is n more (r ∷ rs) o e h =
        let count : length r ≡ n = long m n p values r (subst (λ x. Among x r) (sym e) (inl refl)) in
        record {
          low = omega arith;
          within = omega arith;
          later = rs;
          first = ap (λ x. runs agent m x p values) count ∙ e;
          least = λ k low less. absurd (omega arith);
        }
    first-is n more [] None e h = λ k low less. none-at n k low e (λ past. h k past (omega arith))
    first-is n more [] (Some run) e h = record {
      low = let k : n + 1 ≤ length run = h.low in omega arith;
      within = let k : length run < n + 1 + more = h.within in omega arith;
      later = h.later;
      first = h.first;
      least = λ k low less. none-at n k low e (λ past. h.least k past less);
    }

    best_from-is : (n more : ℕ) → MatchOption (best_from agent m n more p values) (NoneFrom n more) (LeastFrom n more)
    best_from-is n zero = λ k low less. absurd (omega arith)
    best_from-is n (suc more) = first-is n more (runs agent m n p values) (best_from agent m (n + 1) more p values) refl (best_from-is (n + 1) more)

    best-is : (depth : ℕ) (o : Option Run) → MatchOption o (NoneFrom 1 depth) (LeastFrom 1 depth) → MatchOption o (NoneUpTo agent m p values depth) (IsLeast agent m p values depth)
    best-is depth None h = λ n low less. h n low (omega arith)
    best-is depth (Some run) h = record {
      some = h.low;
      within = let k : length run < 1 + depth = h.within in omega arith;
      later = h.later;
      first = h.first;
      least = h.least;
    }

pub best_is_least : BestIsLeast
unfolding best
best_is_least agent m depth p values = best-is agent m p values depth (best_from agent m 1 depth p values) (best_from-is agent m p values 1 depth)

pub runs_are_sound : RunsAreSound
runs_are_sound agent p values = record {
  long = λ m n run h. long agent m n p values run (among-contains (runs agent m n p values) run h);
  through = λ n run h. through agent n p values run (among-contains (runs agent Must n p values) run h);
  all = λ run f h. contains-among (runs agent Must (length run) p values) run (all_runs agent run p values f h);
  best_through = λ depth run e.
      let least : IsLeast agent Must p values depth run = subst (λ o. MatchOption o (NoneUpTo agent Must p values depth) (IsLeast agent Must p values depth)) e (best_is_least agent Must depth p values) in
      through agent (length run) p values run (subst (λ x. Among x run) (sym least.first) (inl refl));
}
