-- A block that has a certain run within its depth has a near one too.
use Rattle.std.proofs.Common.{◌≡◌, ℕ, ◌+◌, ◌≤◌, ◌<◌, true, false, [], ◌∷◌, length, drop, get_or, Option, Some, None, refl, sym, ap, ◌∙◌, subst, arith, inl}
use Rattle.std.specs.Prelude.{◌&&◌, ◌^◌, ◌-◌, min, nat_le, MatchOption}
use Rattle.std.proofs.lemmas.Bool.{le-leb, lt-leb}
use Rattle.std.specs.List.{list_all}
use Rattle.std.proofs.lemmas.List.{at_drop_more}
use Rattle.std.specs.Option.{is_some}
use Rattle.golog_tree.specs.declared.agent.Agent.{Agent}
use Rattle.golog_tree.specs.declared.prog.Prog.{Prog}
use Rattle.golog_tree.specs.declared.prog.Way.{Way}
use Rattle.golog_tree.specs.Nest.{nest}
use Rattle.golog_semantics.specs.declared.Mode.TheVariants.{Must, Near}
use Rattle.golog_semantics.specs.Truth.{Values}
use Rattle.golog_semantics.specs.Search.{Run, best, is_followed, runs}
use Rattle.golog_semantics.specs.Blocks.{goes_through, is_kept}
use Rattle.golog_semantics.specs.RunLaws.{IsLeast, NoneUpTo}
use Rattle.golog_certain.proofs.CertainRuns.{runs-must_near}
use Rattle.golog_semantics.proofs.Among.{Among}
use Rattle.golog_semantics.proofs.BestRuns.{all_runs, best_is_least}
use Rattle.golog_semantics.proofs.Tests.{and_cases}

module _ (agent : Agent) (values : Values) (body : Prog) (depth : ℕ) where
  -- a certain run within the depth
  run-near : (n : ℕ) (run : Run) → 1 ≤ n → n ≤ depth → Among (runs agent Must n body values) run → is_some (best agent Near depth body values) ≡ true
  run-near n run low high h = go (best agent Near depth body values) (best_is_least agent Near depth body values)
    where
      go : (o : Option Run) → MatchOption o (NoneUpTo agent Near body values depth) (IsLeast agent Near body values depth) → is_some o ≡ true
      go (Some r) k = refl
      go None k = absurd (subst (λ rs. Among rs run) (k n low high) (runs-must_near agent n body values run h))

  -- so is the best certain run
  pub best-near : (run : Run) → best agent Must depth body values ≡ Some run → is_some (best agent Near depth body values) ≡ true
  best-near run e =
      let least : IsLeast agent Must body values depth run =
      subst (λ o. MatchOption o (NoneUpTo agent Must body values depth) (IsLeast agent Must body values depth)) e (best_is_least agent Must depth body values) in
      run-near (length run) run least.some least.within (subst (λ rs. Among rs run) (sym least.first) (inl refl))

  -- and so is one that goes through and may be found
  pub kept-near : (rest : Run) → is_kept agent values body rest ≡ true → length rest ≤ depth → list_all is_followed rest ≡ true
      → is_some (best agent Near depth body values) ≡ true
  kept-near [] h l f = absurd (cc)
  kept-near (w ∷ rest) h l f =
      let k = and_cases true (goes_through agent body (w ∷ rest) values) h in
      run-near (length (w ∷ rest)) (w ∷ rest) (omega arith) l (all_runs agent (w ∷ rest) body values f k.1)

-- what a search tells of a run that is tried way by way
module _ (depth : ℕ) (run : Run) where
  pub too-long : depth < length run → false ≡ (nat_le (length run) depth && list_all is_followed run)
  too-long l = sym (ap (λ b. b && list_all is_followed run) (lt-leb (length run) depth l))

  pub short-enough : length run ≤ depth → list_all is_followed run ≡ (nat_le (length run) depth && list_all is_followed run)
  short-enough l = sym (ap (λ b. b && list_all is_followed run) (le-leb (length run) depth l))

module _ (run : Run) (i : ℕ) (w : Way) (nested : ℕ) (is : nested ≡ min (nest w.left) (2 ^ 32 - 1)) where
  all-next : i < length run → w ≡ get_or run i w → list_all is_followed (drop i run) ≡ (is_followed w && list_all is_followed (drop (i + 1) run))
  all-next less e =
      at_drop_more (list_all is_followed) run i w less ∙ ap (λ (v : Way). list_all is_followed (v ∷ drop (i + 1) run)) (sym e)

  pub not-followed : i < length run → w ≡ get_or run i w → 2048 < nested → list_all is_followed (drop i run) ≡ false
  not-followed less e deep =
      all-next less e
      ∙ ap (λ b. b && list_all is_followed (drop (i + 1) run)) (lt-leb (nest w.left) 2048 (omega (arith, is, deep)))

  pub followed-on : i < length run → w ≡ get_or run i w → nested ≤ 2048 → list_all is_followed (drop i run) ≡ list_all is_followed (drop (i + 1) run)
  followed-on less e flat =
      all-next less e
      ∙ ap (λ b. b && list_all is_followed (drop (i + 1) run)) (le-leb (nest w.left) 2048 (omega (arith, is, flat)))
