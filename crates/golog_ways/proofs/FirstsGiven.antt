-- The first certain step and whether there is a step, where a call tells them.
use Rattle.std.proofs.Common.{◌≡◌, Bool, false, List, [], ◌∷◌, Option, sym, ap, ◌∙◌, subst}
use Rattle.std.specs.Prelude.{Result, Ok, Err, IfOk, IfSome, not}
use Rattle.golog_tree.specs.declared.agent.Agent.{Agent}
use Rattle.golog_tree.specs.declared.prog.Prog.{Prog}
use Rattle.golog_tree.specs.declared.prog.Way.{Way}
use Rattle.golog_semantics.specs.declared.Mode.{Mode}
use Rattle.golog_semantics.specs.declared.Mode.TheVariants.{Must}
use Rattle.golog_semantics.specs.Search.{plain_ways}
use Rattle.golog_semantics.specs.Truth.{Values}
use Rattle.golog_semantics.specs.Ways.{is_empty}
use Rattle.golog_semantics.specs.Blocks.{ways}
use Rattle.golog_semantics.specs.Guarded.{IsGuarded}
use Rattle.golog_semantics.specs.FitLaws.{ProcsFit}
use Rattle.golog_semantics.proofs.ByParts.{OfEach}
use Rattle.golog_fronts.specs.Closed.{IsClosed}
use Rattle.golog_ways.specs.First.{first_way, has_way, head_of}
use Rattle.golog_fronts.specs.FrontBlock.{has_front_block}
use Rattle.golog_fronts.specs.Lefts.{LeavesClosed}
use Rattle.golog_fronts.proofs.AllFronts.{plain-all}
use Rattle.golog_fronts.proofs.LeftsClosed.{ways-closed}

each-head : {A : Type 0} (P : A → Type 0) (xs : List A) → OfEach P xs → IfSome (head_of xs) P
each-head P [] h = tt
each-head P (x ∷ xs) h = h.0

first-closed : (agent : Agent) → ProcsFit agent → (values : Values) (p : Prog) → IsClosed agent p → IfSome (first_way agent values p) (LeavesClosed agent p)
unfolding first_way
first-closed agent procs values p c = each-head (LeavesClosed agent p) (plain_ways agent values Must p) (ways-closed agent procs values Must p c)

module _ (agent : Agent) (g : IsGuarded agent) (p : Prog) (free : has_front_block agent p ≡ false) where
  first-all : (v : Values) → first_way agent v p ≡ head_of (ways agent v Must p)
  unfolding first_way
  first-all v = ap (λ (ws : List Way). head_of ws) (plain-all agent g p free Must v)

  any-all : (m : Mode) (v : Values) → has_way agent v m p ≡ not (is_empty (ways agent v m p))
  unfolding has_way
  any-all m v = ap (λ (ws : List Way). not (is_empty ws)) (plain-all agent g p free m v)

module _ {E : Type 0} (agent : Agent) (v : Values) (p : Prog) where
  pub first_of_all : IsGuarded agent → (result : Result (Option Way) E) → IfOk result (λ w. w ≡ first_way agent v p) → has_front_block agent p ≡ false
      → IfOk result (λ w. w ≡ head_of (ways agent v Must p))
  first_of_all g (Ok w) h free = h ∙ first-all agent g p free v
  first_of_all g (Err e) h free = h

  pub first_left : ProcsFit agent → IsClosed agent p → (result : Result (Option Way) E) → IfOk result (λ w. w ≡ first_way agent v p) → IfOk result (λ w. IfSome w (LeavesClosed agent p))
  first_left procs c (Ok w) h = subst (λ (o : Option Way). IfSome o (LeavesClosed agent p)) (sym h) (first-closed agent procs v p c)
  first_left procs c (Err e) h = h

  pub any_of_all : IsGuarded agent → (m : Mode) (result : Result Bool E) → IfOk result (λ b. b ≡ has_way agent v m p) → has_front_block agent p ≡ false
      → IfOk result (λ b. b ≡ not (is_empty (ways agent v m p)))
  any_of_all g m (Ok b) h free = h ∙ any-all agent g p free m v
  any_of_all g m (Err e) h free = h
