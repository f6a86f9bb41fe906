-- A program that fits goes on to parts, bodies and blocks that fit.
use Rattle.std.proofs.Common.{◌≡◌, ℕ, ◌≤◌, Bool, true, false, ◌&&◌, map, sym, ap, ◌∙◌, arith}
use Rattle.std.specs.Prelude.{nat_le}
use Rattle.std.specs.List.{list_all}
use Rattle.golog_tree.specs.declared.agent.Agent.{Agent}
use Rattle.golog_tree.specs.declared.prog.Prog.TheOpen.{Nil, Act, Test, Seq, Choice, Pick, Star, If, While, Conc, Prio, Cstar, Call, Search, Follow}
use Rattle.golog_tree.specs.declared.prog.Prog.{Prog}
use Rattle.golog_tree.specs.declared.prog.Prog.TheViews.{out-Prog}
use Rattle.golog_tree.specs.declared.prog.Prog.TheFolds.{fold_out-Prog, map-Prog}
use Rattle.golog_tree.specs.declared.prog.Way.{Way}
use Rattle.golog_tree.specs.Tidy.{Layer}
use Rattle.golog_semantics.specs.Fits.{binder_fits, bound, cond_fits, nothing_bound}
use Rattle.golog_semantics.specs.ProgFits.{Position, block_fits, depth_limit, fuel_limit, is_between, prog_fits, prog_step, way_step}
use Rattle.golog_semantics.specs.FitLaws.{ProcsFit}
use Rattle.golog_semantics.proofs.ClosedFits.{Closed, body_closed, put_closed}
use Rattle.golog_semantics.proofs.FrontParts.{AtFront, Claim, GoesOn}
use Rattle.golog_semantics.proofs.ProgPut.{at_scope, inside, outside, way_fits}
use Rattle.golog_semantics.proofs.Tests.{and_cases}

-- programs that fit, and blocks whose depth and body do
abbrev pub fitting : Agent → Claim
fitting agent = record { of_prog = λ p. Closed agent false p; of_block = λ depth fuel p rest. (1 ≤ depth) × Closed agent true p }

module _ (agent : Agent) (f : ProcsFit agent) where
  abbrev A : Type 0
  A = Position → Bool

  depth_low : (depth fuel : ℕ) → block_fits outside depth fuel ≡ true → 1 ≤ depth
  depth_low depth fuel h =
      let k = and_cases (is_between 1 depth_limit depth) (is_between 1 fuel_limit fuel) h in
      let l = (and_cases (nat_le 1 depth) (nat_le depth depth_limit) k.0).0 in
      grind arith

  front_fits : (l : Layer) → prog_step agent (map-Prog Prog Way A A (prog_fits agent) (way_fits agent) l) outside ≡ true → AtFront agent (fitting agent) l
  front_fits Nil h = tt
  front_fits (Act action args) h = tt
  front_fits (Test c) h = tt
  front_fits (Seq p q) h = and_cases (prog_fits agent p outside) (prog_fits agent q outside) h
  front_fits (Choice p q) h = and_cases (prog_fits agent p outside) (prog_fits agent q outside) h
  front_fits (Pick x sort p) h =
      let k = and_cases (binder_fits agent x sort) (prog_fits agent p (at_scope (bound nothing_bound x sort) false)) h in
      λ c l. put_closed agent false p x sort c k.1 l
  front_fits (Star p) h = h
  front_fits (If c p q) h =
      let k = and_cases (cond_fits agent c nothing_bound && prog_fits agent p outside) (prog_fits agent q outside) h in
      ((and_cases (cond_fits agent c nothing_bound) (prog_fits agent p outside) k.0).1, k.1)
  front_fits (While c p) h = (and_cases (cond_fits agent c nothing_bound) (prog_fits agent p outside) h).1
  front_fits (Conc p q) h = and_cases (prog_fits agent p outside) (prog_fits agent q outside) h
  front_fits (Prio p q) h = and_cases (prog_fits agent p outside) (prog_fits agent q outside) h
  front_fits (Cstar p) h = h
  front_fits (Call item args) h = body_closed agent f false item args h
  front_fits (Search depth fuel p) h =
      let k = and_cases (block_fits outside depth fuel) (prog_fits agent p inside) h in
      (depth_low depth fuel k.0, k.1)
  front_fits (Follow depth fuel p rest) h =
      let k = and_cases (block_fits outside depth fuel && prog_fits agent p inside) (list_all (λ (w : A). w inside) (map (way_fits agent) rest)) h in
      let j = and_cases (block_fits outside depth fuel) (prog_fits agent p inside) k.0 in
      (depth_low depth fuel j.0, j.1)

  pub fitting_goes : GoesOn agent (fitting agent)
  fitting_goes = record { parts = λ p h. front_fits (out-Prog p) (sym (ap (λ (s : A). s outside) (fold_out-Prog A A (prog_step agent) (way_step agent) p)) ∙ h) }
