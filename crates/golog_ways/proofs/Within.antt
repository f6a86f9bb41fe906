-- A program that fits within a search block has no block, and fits outside; and one that fits outside and has no
-- block fits within one.
use Rattle.std.proofs.Common.{◌≡◌, Bool, true, false, ◌&&◌, ◌||◌, refl, ap, ◌∙◌}
use Rattle.std.specs.Prelude.{not}
use Rattle.golog_tree.specs.declared.agent.Agent.{Agent}
use Rattle.golog_tree.specs.declared.prog.Prog.{Prog}
use Rattle.golog_tree.specs.declared.prog.Prog.TheOpen.{Prog-F, Nil, Act, Test, Seq, Choice, Pick, Star, If, While, Conc, Prio, Cstar, Call, Search, Follow}
use Rattle.golog_semantics.specs.BlockFree.{block_at, has_block, has_block_step, proc_blocks}
use Rattle.golog_semantics.specs.Fits.{Scope, bound, nothing_bound}
use Rattle.golog_semantics.specs.ProgFits.{Position, prog_fits, prog_step, way_step}
use Rattle.golog_semantics.proofs.FoldsRelated.{Leaf, free, Answers, WayAnswers, folds_related, ones, twos}
use Rattle.golog_semantics.proofs.ProgPut.{at_scope}
use Rattle.golog_semantics.proofs.Tests.{and_both, and_cases, neither_first, neither_second}
use Rattle.golog_semantics.specs.InSorts.{AreInSorts}
use Rattle.golog_semantics.specs.Truth.{Values}
use Rattle.golog_ways.specs.Searched.{IsSearched}

-- the program fits outside of blocks, and has none
pub record Without (fitting : Position → Bool) (block : Bool) (scope : Scope) : Type 0 where
  pub outside : fitting (at_scope scope false) ≡ true
  pub blockless : block ≡ false

neither : (a b : Bool) → a ≡ false → b ≡ false → (a || b) ≡ false
neither a b e h = ap (λ c. c || b) e ∙ h

not_true : (b : Bool) → not b ≡ true → b ≡ false
not_true false e = refl
not_true true e = absurd (cc)

module _ (agent : Agent) where
  abbrev A : Type 0
  A = Position → Bool

  abbrev Within : A → Bool → Leaf → Type 0
  Within p b r = (scope : Scope) → p (at_scope scope true) ≡ true → Without p b scope

  abbrev Y : Type 0
  Y = Prog-F (Answers A Bool Leaf A Bool Leaf Within free) (WayAnswers A Bool Leaf A Bool Leaf Within free)

  -- both parts fit within a block
  both : (p q : A) (b d : Bool) → Within p b tt → Within q d tt → Within (λ at. p at && q at) (b || d) tt
  both p q b d h k scope e =
      let c = and_cases (p (at_scope scope true)) (q (at_scope scope true)) e in
      let i = h scope c.0 in
      let j = k scope c.1 in
      record { outside = and_both (p (at_scope scope false)) (q (at_scope scope false)) i.outside j.outside; blockless = neither b d i.blockless j.blockless }

  within_step : (y : Y) → Within (prog_step agent (ones A Bool Leaf A Bool Leaf Within free y)) (has_block_step (proc_blocks agent) (twos A Bool Leaf A Bool Leaf Within free y)) tt
  within_step Nil scope h = record { outside = refl; blockless = refl }
  within_step (Act action args) scope h = record { outside = h; blockless = refl }
  within_step (Test c) scope h = record { outside = h; blockless = refl }
  within_step (Seq p q) scope h = let k = both p.one q.one p.two q.two p.related q.related scope h in record { outside = k.outside; blockless = k.blockless }
  within_step (Choice p q) scope h = let k = both p.one q.one p.two q.two p.related q.related scope h in record { outside = k.outside; blockless = k.blockless }
  within_step (Pick x sort p) scope h =
      let k = and_cases _ (p.one (at_scope (bound scope x sort) true)) h in
      let i = p.related (bound scope x sort) k.1 in
      record { outside = and_both _ (p.one (at_scope (bound scope x sort) false)) k.0 i.outside; blockless = i.blockless }
  within_step (Star p) scope h = let i = p.related scope h in record { outside = i.outside; blockless = i.blockless }
  within_step (If c p q) scope h =
      let k = and_cases _ (q.one (at_scope scope true)) h in
      let j = and_cases _ (p.one (at_scope scope true)) k.0 in
      let i = p.related scope j.1 in
      let d = q.related scope k.1 in
      record {
        outside = and_both _ (q.one (at_scope scope false)) (and_both _ (p.one (at_scope scope false)) j.0 i.outside) d.outside;
        blockless = neither p.two q.two i.blockless d.blockless;
      }
  within_step (While c p) scope h =
      let k = and_cases _ (p.one (at_scope scope true)) h in
      let i = p.related scope k.1 in
      record { outside = and_both _ (p.one (at_scope scope false)) k.0 i.outside; blockless = i.blockless }
  within_step (Conc p q) scope h = let k = both p.one q.one p.two q.two p.related q.related scope h in record { outside = k.outside; blockless = k.blockless }
  within_step (Prio p q) scope h = let k = both p.one q.one p.two q.two p.related q.related scope h in record { outside = k.outside; blockless = k.blockless }
  within_step (Cstar p) scope h = let i = p.related scope h in record { outside = i.outside; blockless = i.blockless }
  within_step (Call item args) scope h =
      let k = and_cases _ (not (block_at (proc_blocks agent) item)) h in
      record { outside = and_both _ true k.0 refl; blockless = not_true (block_at (proc_blocks agent) item) k.1 }
  within_step (Search depth fuel p) scope h = absurd (cc)
  within_step (Follow depth fuel p rest) scope h = absurd (cc)

  pub within : (p : Prog) (scope : Scope) → prog_fits agent p (at_scope scope true) ≡ true → Without (prog_fits agent p) (has_block agent p) scope
  within =
      folds_related A Bool Leaf A Bool Leaf Within free (prog_step agent) (way_step agent) (has_block_step (proc_blocks agent)) (λ w. false) (λ y. tt) (λ w. tt)
      (record { of_layer = within_step; of_way = λ a b c label h. tt })

  -- the body of a block can be searched
  pub body_searched : (values : Values) → AreInSorts agent values → (p : Prog) → prog_fits agent p (at_scope nothing_bound true) ≡ true → IsSearched agent p values
  body_searched values s p h = let k = within p nothing_bound h in record { program = k.outside; blockless = ap not k.blockless; sorts = s }

  abbrev Into : A → Bool → Leaf → Type 0
  Into p b r = (scope : Scope) → p (at_scope scope false) ≡ true → b ≡ false → p (at_scope scope true) ≡ true

  abbrev Z : Type 0
  Z = Prog-F (Answers A Bool Leaf A Bool Leaf Into free) (WayAnswers A Bool Leaf A Bool Leaf Into free)

  -- both parts fit within a block too
  two_into : (p q : A) (b d : Bool) → Into p b tt → Into q d tt → Into (λ at. p at && q at) (b || d) tt
  two_into p q b d h k scope e n =
      let c = and_cases (p (at_scope scope false)) (q (at_scope scope false)) e in
      and_both (p (at_scope scope true)) (q (at_scope scope true)) (h scope c.0 (neither_first b d n)) (k scope c.1 (neither_second b d n))

  into_step : (z : Z) → Into (prog_step agent (ones A Bool Leaf A Bool Leaf Into free z)) (has_block_step (proc_blocks agent) (twos A Bool Leaf A Bool Leaf Into free z)) tt
  into_step Nil scope h n = refl
  into_step (Act action args) scope h n = h
  into_step (Test c) scope h n = h
  into_step (Seq p q) scope h n = two_into p.one q.one p.two q.two p.related q.related scope h n
  into_step (Choice p q) scope h n = two_into p.one q.one p.two q.two p.related q.related scope h n
  into_step (Pick x sort p) scope h n =
      let k = and_cases _ (p.one (at_scope (bound scope x sort) false)) h in
      and_both _ (p.one (at_scope (bound scope x sort) true)) k.0 (p.related (bound scope x sort) k.1 n)
  into_step (Star p) scope h n = p.related scope h n
  into_step (If c p q) scope h n =
      let k = and_cases _ (q.one (at_scope scope false)) h in
      let j = and_cases _ (p.one (at_scope scope false)) k.0 in
      and_both _ (q.one (at_scope scope true)) (and_both _ (p.one (at_scope scope true)) j.0 (p.related scope j.1 (neither_first p.two q.two n))) (q.related scope k.1 (neither_second p.two q.two n))
  into_step (While c p) scope h n =
      let k = and_cases _ (p.one (at_scope scope false)) h in
      and_both _ (p.one (at_scope scope true)) k.0 (p.related scope k.1 n)
  into_step (Conc p q) scope h n = two_into p.one q.one p.two q.two p.related q.related scope h n
  into_step (Prio p q) scope h n = two_into p.one q.one p.two q.two p.related q.related scope h n
  into_step (Cstar p) scope h n = p.related scope h n
  into_step (Call item args) scope h n =
      let k = and_cases _ true h in
      and_both _ (not (block_at (proc_blocks agent) item)) k.0 (ap not n)
  into_step (Search depth fuel p) scope h n = absurd (cc)
  into_step (Follow depth fuel p rest) scope h n = absurd (cc)

  pub into : (p : Prog) (scope : Scope) → prog_fits agent p (at_scope scope false) ≡ true → has_block agent p ≡ false → prog_fits agent p (at_scope scope true) ≡ true
  into =
      folds_related A Bool Leaf A Bool Leaf Into free (prog_step agent) (way_step agent) (has_block_step (proc_blocks agent)) (λ w. false) (λ y. tt) (λ w. tt)
      (record { of_layer = into_step; of_way = λ a b c label h. tt })
