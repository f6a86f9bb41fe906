-- The kept steps at the open places are the steps of the program.
use Rattle.std.proofs.Common.{◌≡◌, ℕ, ◌+◌, ◌<◌, Bool, true, false, if◌then◌else◌, List, [], ◌∷◌, length, drop, map, refl, sym, ap, ◌∙◌, get_or}
use Rattle.std.specs.Prelude.{Some, filter, slice_get, slice_index}
use Rattle.std.proofs.lemmas.List.{drop_more}
use Rattle.std.proofs.lemmas.Option.{get_or_from_slice_get}
use Rattle.golog_tree.specs.declared.agent.Agent.{Agent}
use Rattle.golog_tree.specs.declared.cond.Cond.TheVariants as cond
use Rattle.golog_tree.specs.declared.prog.Label.TheVariants.{Quiet}
use Rattle.golog_tree.specs.declared.prog.Prog.{Prog}
use Rattle.golog_tree.specs.declared.prog.Way.{Way}
use Rattle.golog_semantics.specs.declared.Mode.{Mode}
use Rattle.golog_semantics.specs.Fronts.{Guarded, open_ways}
use Rattle.golog_semantics.specs.Truth.{Values}
use Rattle.golog_semantics.specs.Ways.{is_so}
use Rattle.golog_known.proofs.Folds.{map-map}
use Rattle.golog_flat.specs.declared.check.Check.TheVariants as check
use Rattle.golog_ways.specs.declared.expand.NumberedFront.{NumberedFront}
use Rattle.golog_ways.specs.Open.{open_places}
use Rattle.golog_ways.proofs.OpenSteps.{open-steps}
use Rattle.golog_find.specs.Visits.{meant_front, meant_fronts}

-- what a place stands for at which no step stands
abbrev pub no_front : NumberedFront
no_front = record { cond = cond.Truth true; check = check.Known true; label = Quiet; left = 0; followed = false }

-- the step at a place
abbrev pub way_at : List Prog → List NumberedFront → ℕ → Way
way_at progs fs n = (meant_front progs (get_or fs n no_front)).way

module _ (progs : List Prog) where
  filter-meant : (p : Guarded → Bool) (fs : List NumberedFront) → filter p (meant_fronts progs fs) ≡ meant_fronts progs (filter (λ (f : NumberedFront). p (meant_front progs f)) fs)
  filter-meant p [] = refl
  filter-meant p (f ∷ fs) = go (p (meant_front progs f)) (filter-meant p fs)
    where
      go : (b : Bool) → filter p (meant_fronts progs fs) ≡ meant_fronts progs (filter (λ (g : NumberedFront). p (meant_front progs g)) fs)
          → (if b then meant_front progs f ∷ filter p (meant_fronts progs fs) else filter p (meant_fronts progs fs))
          ≡ meant_fronts progs (if b then f ∷ filter (λ (g : NumberedFront). p (meant_front progs g)) fs else filter (λ (g : NumberedFront). p (meant_front progs g)) fs)
      go true e = ap (λ (gs : List Guarded). meant_front progs f ∷ gs) e
      go false e = e

  module _ (fs : List NumberedFront) (places : List ℕ) where
    -- those at the open places are the open ones
    pub opened-ways : (agent : Agent) (values : Values) (m : Mode) → places ≡ open_places agent values m (map (λ (f : NumberedFront). f.cond) fs) → map (way_at progs fs) places ≡ open_ways agent values m (meant_fronts progs fs)
    opened-ways agent values m e =
        let at = λ (n : ℕ). get_or fs n no_front in
        let way = λ (f : NumberedFront). (meant_front progs f).way in
        let so = λ (f : NumberedFront). is_so agent values m f.cond in
        sym (map-map at way places)
        ∙ ap (map way) (ap (map at) e ∙ open-steps agent values m (λ (f : NumberedFront). f.cond) fs no_front)
        ∙ sym (map-map (meant_front progs) (λ (g : Guarded). g.way) (filter so fs))
        ∙ ap (map (λ (g : Guarded). g.way)) (sym (filter-meant (λ (g : Guarded). is_so agent values m g.cond) fs))

    -- the first of them
    pub first-way : (at : ℕ) (f : NumberedFront) → at < length places → slice_get fs (slice_index places at) ≡ Some f → map (way_at progs fs) (drop at places) ≡ (meant_front progs f).way ∷ map (way_at progs fs) (drop (at + 1) places)
    first-way at f l e =
        ap (map (way_at progs fs)) (drop_more places at 0 l)
        ∙ ap (λ (g : NumberedFront). (meant_front progs g).way ∷ map (way_at progs fs) (drop (at + 1) places)) (get_or_from_slice_get fs (slice_index places at) f no_front e)
