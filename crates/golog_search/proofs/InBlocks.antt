-- The bodies of search blocks can be searched.
use Rattle.std.proofs.Common.{◌≡◌, ℕ, ◌≤◌, Bool, true, ◌&&◌, List, refl, sym, ap, ◌∙◌, subst}
use Rattle.std.specs.Prelude.{not, nat_le}
use Rattle.std.proofs.lemmas.Bool.{leb-true}
use Rattle.golog_tree.specs.declared.agent.Agent.{Agent}
use Rattle.golog_tree.specs.declared.prog.Prog.{Prog}
use Rattle.golog_tree.specs.declared.prog.Way.{Way}
use Rattle.golog_tree.specs.declared.prog.Prog.TheVariants as prog
use Rattle.golog_semantics.specs.Fits.{nothing_bound}
use Rattle.golog_semantics.specs.ProgFits.{Position, block_fits, depth_limit, fuel_limit, is_between, prog_fits, prog_step, way_step}
use Rattle.golog_semantics.proofs.ByParts as parts
use Rattle.golog_semantics.proofs.ProgPut.{at_scope}
use Rattle.golog_semantics.proofs.Tests.{and_cases}
use Rattle.golog_semantics.specs.InSorts.{AreInSorts}
use Rattle.golog_semantics.specs.Truth.{Values}
use Rattle.golog_fronts.specs.Closed.{IsClosed}
use Rattle.golog_search.specs.BlockSteps.{IsSearchedIn}
use Rattle.golog_ways.specs.Searched.{IsSearched}
use Rattle.golog_ways.proofs.Within.{body_searched}

module _ (agent : Agent) where
  abbrev A : Type 0
  A = Position → Bool

  pub search_body : (values : Values) → AreInSorts agent values → (r p : Prog) (depth fuel : ℕ) → IsClosed agent r → r ≡ prog.Search depth fuel p → IsSearched agent p values
  search_body values s r p depth fuel c e =
      let here = at_scope nothing_bound c.in_block in
      let h = sym (ap (λ (f : A). f here) (ap (prog_fits agent) e ∙ parts.fold-search A A (prog_step agent) (way_step agent) depth fuel p)) ∙ c.fits in
      body_searched agent values s p (and_cases (block_fits here depth fuel) (prog_fits agent p (at_scope nothing_bound true)) h).1

  pub follow_body : (values : Values) → AreInSorts agent values → (r p : Prog) (depth fuel : ℕ) (rest : List Way) → IsClosed agent r → r ≡ prog.Follow depth fuel p rest → IsSearched agent p values
  follow_body values s r p depth fuel rest c e =
      let here = at_scope nothing_bound c.in_block in
      let h = sym (ap (λ (f : A). f here) (ap (prog_fits agent) e ∙ parts.fold-follow A A (prog_step agent) (way_step agent) depth fuel p rest)) ∙ c.fits in
      let k = and_cases (block_fits here depth fuel && prog_fits agent p (at_scope nothing_bound true)) _ h in
      body_searched agent values s p (and_cases (block_fits here depth fuel) (prog_fits agent p (at_scope nothing_bound true)) k.0).1

  -- a block has a depth of at least one
  pub follow_depth : (p : Prog) (depth fuel : ℕ) (rest : List Way) → IsClosed agent (prog.Follow depth fuel p rest) → 1 ≤ depth
  follow_depth p depth fuel rest c =
      let here = at_scope nothing_bound c.in_block in
      let h = sym (ap (λ (f : A). f here) (parts.fold-follow A A (prog_step agent) (way_step agent) depth fuel p rest)) ∙ c.fits in
      let k = and_cases (block_fits here depth fuel && prog_fits agent p (at_scope nothing_bound true)) _ h in
      let fitting = (and_cases (block_fits here depth fuel) (prog_fits agent p (at_scope nothing_bound true)) k.0).0 in
      let bounds = and_cases (not c.in_block && is_between 1 depth_limit depth) (is_between 1 fuel_limit fuel) fitting in
      let deep = (and_cases (not c.in_block) (is_between 1 depth_limit depth) bounds.0).1 in
      leb-true 1 depth (and_cases (nat_le 1 depth) (nat_le depth depth_limit) deep).0

  -- what a block that follows a run is searched for: its body, at these values
  pub follow_searched : (values given : Values) → IsSearchedIn agent values given → (p body : Prog) → body ≡ p → (depth fuel : ℕ) (rest : List Way) → IsClosed agent (prog.Follow depth fuel p rest)
      → IsSearched agent body given
  follow_searched values given h p body e depth fuel rest c =
      let s : IsSearched agent p values = follow_body values h.sorts (prog.Follow depth fuel p rest) p depth fuel rest c refl in
      subst (λ (v : Values). IsSearched agent body v) h.same (subst (λ (q : Prog). IsSearched agent q values) (sym e) s)
