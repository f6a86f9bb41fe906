-- A run goes through way by way, each a certain one of the program left.
use Rattle.std.proofs.Common.{◌≡◌, ℕ, ◌+◌, ◌<◌, true, false, List, [], ◌∷◌, length, drop, get_or, sym, ap, ◌∙◌, subst, inl, inr}
use Rattle.std.specs.Prelude.{◌&&◌, ◌||◌}
use Rattle.std.specs.List.{list_any}
use Rattle.std.proofs.lemmas.List.{at_drop_more}
use Rattle.golog_tree.specs.declared.agent.Agent.{Agent}
use Rattle.golog_tree.specs.declared.prog.Prog.{Prog}
use Rattle.golog_tree.specs.declared.prog.Way.{Way}
use Rattle.golog_semantics.specs.declared.Mode.{Mode}
use Rattle.golog_semantics.specs.declared.Mode.TheVariants.{Must}
use Rattle.golog_semantics.specs.Truth.{Values}
use Rattle.golog_semantics.specs.Values.{after}
use Rattle.golog_semantics.specs.Same.{same_way}
use Rattle.golog_semantics.specs.Search.{Run, plain_ways}
use Rattle.golog_semantics.specs.Blocks.{goes_through}
use Rattle.golog_semantics.specs.WellFormed.{WellFormed}
use Rattle.golog_semantics.proofs.Among.{Among, among-any}
use Rattle.golog_semantics.proofs.BestRuns.{same_way-eq}
use Rattle.golog_semantics.proofs.ByParts.{OfEach}
use Rattle.golog_semantics.proofs.CausesKeep.{steps_stay_in_sorts}
use Rattle.golog_ways.specs.Searched.{IsSearched}
use Rattle.golog_ways.proofs.SearchedWays.{WayStays, ways_stay}

of-among : {A : Type 0} (P : A → Type 0) (xs : List A) (x : A) → OfEach P xs → Among xs x → P x
of-among P [] x h k = absurd k
of-among P (y ∷ xs) x h (inl e) = subst P e h.0
of-among P (y ∷ xs) x h (inr k) = of-among P xs x h.1 k

module _ (agent : Agent) (formed : WellFormed agent) (m : Mode) (p : Prog) (values : Values) (searched : IsSearched agent p values) (w : Way) where
  -- the way is among the ways of the program
  abbrev pub IsStep : Type 0
  IsStep = list_any (same_way w) (plain_ways agent values m p) ≡ true

  pub way-stays : IsStep → WayStays agent w
  way-stays h =
      let a = among-any (same_way w) (plain_ways agent values m p) h in
      subst (WayStays agent) (sym (same_way-eq w a.0 a.1.1))
      (of-among (WayStays agent) (plain_ways agent values m p) a.0 (ways_stay agent formed p values searched m) a.1.0)

  pub led-searched : IsStep → IsSearched agent w.left (after agent values w.label)
  led-searched h =
      let stays = way-stays h in
      record { program = stays.left_fits; blockless = stays.left_free; sorts = steps_stay_in_sorts agent formed values w.label searched.sorts }

module _ (agent : Agent) (p : Prog) (values : Values) (run : Run) (i : ℕ) (w : Way) where
  -- the next way decides, and then what is left of the run
  pub goes-next : i < length run → w ≡ get_or run i w → goes_through agent p (drop i run) values
      ≡ (list_any (same_way w) (plain_ways agent values Must p) && goes_through agent w.left (drop (i + 1) run) (after agent values w.label))
  goes-next less e =
      at_drop_more (λ (r : Run). goes_through agent p r values) run i w less
      ∙ ap (λ (v : Way). goes_through agent p (v ∷ drop (i + 1) run) values) (sym e)

  pub goes-on : i < length run → w ≡ get_or run i w → list_any (same_way w) (plain_ways agent values Must p) ≡ true
      → goes_through agent p (drop i run) values ≡ goes_through agent w.left (drop (i + 1) run) (after agent values w.label)
  goes-on less e h = goes-next less e ∙ ap (λ b. b && goes_through agent w.left (drop (i + 1) run) (after agent values w.label)) h

module _ (w : Way) (ways : List Way) (i : ℕ) (v : Way) where
  any-next : i < length ways → v ≡ get_or ways i v → list_any (same_way w) (drop i ways) ≡ list_any (same_way w) (v ∷ drop (i + 1) ways)
  any-next less e =
      at_drop_more (list_any (same_way w)) ways i v less ∙ ap (λ (u : Way). list_any (same_way w) (u ∷ drop (i + 1) ways)) (sym e)

  pub any-here : i < length ways → v ≡ get_or ways i v → same_way w v ≡ true → list_any (same_way w) (drop i ways) ≡ true
  any-here less e h = any-next less e ∙ ap (λ b. b || list_any (same_way w) (drop (i + 1) ways)) h

  pub any-later : i < length ways → v ≡ get_or ways i v → same_way w v ≡ false → list_any (same_way w) (drop i ways) ≡ list_any (same_way w) (drop (i + 1) ways)
  any-later less e h = any-next less e ∙ ap (λ b. b || list_any (same_way w) (drop (i + 1) ways)) h
