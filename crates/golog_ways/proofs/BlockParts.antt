-- A search block that has not begun is closed as one under way that has nothing left of its run.
use Rattle.std.proofs.Common.{◌≡◌, ℕ, Bool, true, false, ◌&&◌, List, [], refl, sym, ap, ◌∙◌, subst}
use Rattle.golog_base.proofs.Bools.{and-true}
use Rattle.golog_tree.specs.declared.agent.Agent.{Agent}
use Rattle.golog_tree.specs.declared.prog.Prog.{Prog}
use Rattle.golog_tree.specs.declared.prog.Way.{Way}
use Rattle.golog_tree.specs.declared.prog.Prog.TheOpen.{Search, Follow}
use Rattle.golog_tree.specs.declared.prog.Prog.TheVariants as prog
use Rattle.golog_tree.specs.declared.prog.Prog.TheViews.{out-Prog}
use Rattle.golog_tree.specs.declared.prog.Prog.TheFolds.{fold_out-Prog, map-Prog}
use Rattle.golog_tree.specs.Tidy.{Layer}
use Rattle.golog_semantics.specs.Fits.{nothing_bound}
use Rattle.golog_semantics.specs.ProgFits.{Position, prog_fits, prog_step, way_step}
use Rattle.golog_semantics.proofs.ProgPut.{at_scope, way_fits}
use Rattle.golog_fronts.specs.Closed.{IsClosed}

module _ (agent : Agent) where
  abbrev A : Type 0
  A = Position → Bool

  -- whether a program fits, by one level of it
  fits-by : (at : Position) (p : Prog) (l : Layer) → out-Prog p ≡ l → prog_fits agent p at ≡ prog_step agent (map-Prog Prog Way A A (prog_fits agent) (way_fits agent) l) at
  fits-by at p l e =
      ap (λ (f : A). f at) (fold_out-Prog A A (prog_step agent) (way_step agent) p)
      ∙ ap (λ (k : Layer). prog_step agent (map-Prog Prog Way A A (prog_fits agent) (way_fits agent) k) at) e

  pub search_begins : (r p : Prog) (depth fuel : ℕ) (rest : List Way) → rest ≡ [] → IsClosed agent r → r ≡ prog.Search depth fuel p → IsClosed agent (prog.Follow depth fuel p rest)
  search_begins r p depth fuel rest none c e =
      let at = at_scope nothing_bound c.in_block in
      let here = fits-by at (prog.Follow depth fuel p []) (Follow depth fuel p []) (prog.outs-Follow depth fuel p []) in
      let there = fits-by at r (Search depth fuel p) (ap out-Prog e ∙ prog.outs-Search depth fuel p) in
      subst (λ (ws : List Way). IsClosed agent (prog.Follow depth fuel p ws)) (sym none) (record { in_block = c.in_block; fits = here ∙ and-true _ ∙ sym there ∙ c.fits })
