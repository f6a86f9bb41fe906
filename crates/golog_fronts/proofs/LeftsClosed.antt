-- What each step of a closed program leaves is closed, and its action is the agent's.
use Rattle.std.proofs.Common.{◌≡◌, Bool, true, List, [], ◌∷◌}
use Rattle.golog_tree.specs.declared.agent.Agent.{Agent}
use Rattle.golog_tree.specs.declared.prog.Prog.{Prog}
use Rattle.golog_tree.specs.declared.prog.Way.{Way}
use Rattle.golog_semantics.specs.declared.Mode.{Mode}
use Rattle.golog_semantics.specs.FitLaws.{ProcsFit}
use Rattle.golog_semantics.specs.Guarded.{front}
use Rattle.golog_semantics.specs.Reports.{fits_label}
use Rattle.golog_semantics.specs.Search.{moves_with, no_blocks, plain_ways}
use Rattle.golog_semantics.specs.Truth.{Values}
use Rattle.golog_semantics.specs.Ways.{way_of}
use Rattle.golog_semantics.proofs.BlocksFit.{each-map}
use Rattle.golog_semantics.proofs.ByParts.{OfEach}
use Rattle.golog_semantics.proofs.StepsFit.{StepFits, moves_to-fit}
use Rattle.golog_fronts.specs.Closed.{IsClosed}
use Rattle.golog_fronts.specs.Lefts.{LeavesClosed, fits_in}

each-given : {A D : Type 0} (G : D → Type 0) (P : D → A → Type 0) (xs : List A) → ((d : D) → G d → OfEach (P d) xs) → OfEach (λ x. (d : D) → G d → P d x) xs
each-given G P [] h = tt
each-given G P (x ∷ xs) h = (λ d g. (h d g).0, each-given G P xs (λ d g. (h d g).1))

each-more : {A : Type 0} (P Q : A → Type 0) → ((x : A) → P x → Q x) → (xs : List A) → OfEach P xs → OfEach Q xs
each-more P Q h [] k = tt
each-more P Q h (x ∷ xs) k = (h x k.0, each-more P Q h xs k.1)

module _ (agent : Agent) where
  -- the program fits, within a search block or outside
  abbrev pub Fits : Prog → Bool → Type 0
  Fits p b = fits_in agent b p ≡ true

  -- the step's action is the agent's, and what it leaves fits there
  pub record WayFits (b : Bool) (w : Way) : Type 0 where
    pub label_fits : fits_label agent w.label ≡ true
    pub left_fits : Fits w.left b

  -- where a closed program stands, its step's left is closed
  pub leaves : (p : Prog) → IsClosed agent p → (w : Way) → ((b : Bool) → Fits p b → WayFits b w) → LeavesClosed agent p w
  leaves p c w h = record {
    label = (h c.in_block c.fits).label_fits;
    left = record { in_block = c.in_block; fits = (h c.in_block c.fits).left_fits };
    fits = λ b k. (h b k).left_fits;
  }

  module _ (procs : ProcsFit agent) (values : Values) (m : Mode) (p : Prog) where
    ways-fit : (b : Bool) → Fits p b → OfEach (WayFits b) (plain_ways agent values m p)
    unfolding plain_ways
    ways-fit b h =
        each-map (StepFits agent b) (WayFits b) way_of (λ step k. record { label_fits = k.label_fits; left_fits = k.left_fits }) (moves_with agent no_blocks values m p)
        (moves_to-fit agent b procs values no_blocks (λ k depth fuel body rest e f r. tt) (front agent p).height m p h)

    pub ways-closed : IsClosed agent p → OfEach (LeavesClosed agent p) (plain_ways agent values m p)
    ways-closed c =
        each-more (λ w. (b : Bool) → Fits p b → WayFits b w) (LeavesClosed agent p) (leaves p c) (plain_ways agent values m p)
        (each-given (Fits p) WayFits (plain_ways agent values m p) ways-fit)
