-- What a search keeps of the programs that it visits again: their steps with the conditions under which they may
-- be taken, the check of the condition under which they may end, and what their steps write. All of it is this
-- project's own.
use Rattle.std.specs.Prelude.{◌≡◌, ◌≢◌, ℕ, ◌<◌, ◌≤◌, ◌-◌, ◌^◌, ◌==◌, ◌||◌, Bool, true, IsTrue, List, Option, Some, All, length, map, slice_get, unwrap_or}
use Rattle.std.specs.HashMap.{get_by}
use Rattle.std.specs.List.{list_any, sum_by}
use Rattle.std.specs.Option.{is_some, option_map}
use Rattle.golog_tree.specs.declared.agent.Agent.{Agent}
use Rattle.golog_tree.specs.declared.prog.Prog.{Prog}
use Rattle.golog_tree.specs.declared.prog.Prog.TheVariants.{Nil}
use Rattle.golog_semantics.specs.Fits.{cond_fits, nothing_bound}
use Rattle.golog_tree.specs.declared.prog.Label.TheVariants.{Do}
use Rattle.golog_semantics.specs.declared.Mode.{Mode}
use Rattle.golog_semantics.specs.Fronts.{AreFronts, Guarded}
use Rattle.golog_semantics.specs.Modes.{holds}
use Rattle.golog_semantics.specs.Reports.{fits_label}
use Rattle.golog_semantics.specs.Search.{final, is_followed}
use Rattle.golog_semantics.specs.Truth.{Values}
use Rattle.golog_flat.specs.declared.check.Check.{Check}
use Rattle.golog_flat.specs.declared.effect.Effect.{Effect}
use Rattle.golog_flat.specs.Checks.{check_fits, check_truth}
use Rattle.golog_flat.specs.Effects.{IsEffectOf}
use Rattle.golog_ways.specs.declared.expand.NumberedFront.{NumberedFront}
use Rattle.golog_ways.specs.Open.{AreChecked}
use Rattle.golog_find.specs.declared.effects.Effects.{Effects}
use Rattle.golog_find.specs.declared.visits.Opened.{Opened}
use Rattle.golog_find.specs.declared.visits.Visits.{Visits}

-- the program of a number
abbrev pub prog_at : List Prog → ℕ → Prog
prog_at progs number = unwrap_or (slice_get progs number) Nil

-- the front that stands for one with a number
abbrev pub meant_front : List Prog → NumberedFront → Guarded
meant_front progs f = record { cond = f.cond; way = record { label = f.label; left = prog_at progs f.left } }

abbrev pub meant_fronts : List Prog → List NumberedFront → List Guarded
meant_fronts progs fs = map (meant_front progs) fs

-- what it leaves has the number, and whether it is followed is kept
pub record IsNumberedFront (progs : List Prog) (f : NumberedFront) : Type 0 where
  pub number : f.left < length progs
  pub followed : f.followed ≡ is_followed (meant_front progs f).way

-- such a front that stands for this one
pub record IsFrontOf (progs : List Prog) (g : Guarded) (f : NumberedFront) : Type 0 where
  pub numbered : IsNumberedFront progs f
  pub same : meant_front progs f ≡ g

-- such fronts that stand for these
pub record AreFrontsOf (progs : List Prog) (gs : List Guarded) (fs : List NumberedFront) : Type 0 where
  pub numbered : All (IsNumberedFront progs) fs
  pub same : meant_fronts progs fs ≡ gs

-- the condition has no free variable and is of the agent's numbers and sorts, and the action is the agent's
pub record IsOfAgent (agent : Agent) (g : Guarded) : Type 0 where
  pub closed : IsTrue (cond_fits agent g.cond nothing_bound)
  pub label : IsTrue (fits_label agent g.way.label)

-- the fronts of a program, each with the check of its condition
pub record AreOpenedFronts (agent : Agent) (progs : List Prog) (p : Prog) (fs : List NumberedFront) : Type 0 where
  pub numbered : All (IsNumberedFront progs) fs
  pub agents : All (IsOfAgent agent) (meant_fronts progs fs)
  pub fronts : AreFronts agent p (meant_fronts progs fs)
  pub checked : AreChecked agent fs

-- in every mode and at all values, the program is final where the check holds
pub record IsEndCheck (agent : Agent) (p : Prog) (check : Check) : Type 0 where
  pub fits : IsTrue (check_fits agent check)
  pub ends : (m : Mode) (values : Values) → holds m (check_truth agent values check) ≡ final agent values m p

-- the fronts and the end of the program whose number stands there
pub record IsOpened (agent : Agent) (progs : List Prog) (o : Opened) : Type 0 where
  pub inside : o.prog < length progs
  pub fronts : AreOpenedFronts agent progs (prog_at progs o.prog) o.fronts
  pub end : IsEndCheck agent (prog_at progs o.prog) o.end

-- those of the program of this number
pub record IsKeptOf (agent : Agent) (progs : List Prog) (number : ℕ) (o : Opened) : Type 0 where
  pub opened : IsOpened agent progs o
  pub same : o.prog ≡ number

-- where a program stands of which nothing is kept
abbrev pub nothing : ℕ
nothing = 2 ^ 64 - 1

-- as soon as so many fronts are kept, those of no further program are
abbrev pub most_kept : ℕ
most_kept = 65536

-- where what is kept of the program of a number stands, if its steps were asked for
abbrev pub place_in : Visits → ℕ → Option ℕ
place_in visits number = get_by (λ k. number == k) visits.places

-- the steps of the program of the number were asked for
abbrev pub was_asked : Visits → ℕ → Bool
was_asked visits number = is_some (place_in visits number)

-- the steps of the program of the number are kept
abbrev pub keeps : Visits → ℕ → Bool
keeps visits number = list_any (λ o. number == o.prog) visits.opened

-- how many fronts are kept
abbrev pub fronts_kept : Visits → ℕ
fronts_kept visits = sum_by (λ o. length o.fronts) visits.opened

-- What is kept stands where its number tells, and nothing else is told of a number than where that stands. The
-- fronts are not counted too high.
pub record ArePlaced (visits : Visits) : Type 0 where
  pub place : (i : ℕ) (o : Opened) → slice_get visits.opened i ≡ Some o → place_in visits o.prog ≡ Some i
  pub there : (number i : ℕ) → place_in visits number ≡ Some i → i ≢ nothing
      → option_map (λ o. o.prog) (slice_get visits.opened i) ≡ Some number
  pub counted : visits.count ≤ fronts_kept visits

-- what is kept of an action is what its steps write
abbrev pub AreEffects : Agent → Effects → Type 0
AreEffects agent effects =
    (action : ℕ) (effect : Effect) → get_by (λ k. action == k) effects.kept ≡ Some effect
    → IsEffectOf agent (Do action) effect

-- all that is kept is of the programs whose numbers stand there, and is found by them, and what is kept of actions is
-- what their steps write
pub record AreKept (agent : Agent) (progs : List Prog) (visits : Visits) : Type 0 where
  pub opened : All (IsOpened agent progs) visits.opened
  pub placed : ArePlaced visits
  pub effects : AreEffects agent visits.effects

-- the program of the number was visited: its steps were asked for, and those that are asked for again are kept where
-- there is room; what was kept stays
pub record IsVisited (number : ℕ) (old new : Visits) : Type 0 where
  pub asked : (n : ℕ) → was_asked new n ≡ (number == n || was_asked old n)
  pub stays : (n : ℕ) → keeps old n ≡ true → keeps new n ≡ true
  pub again : was_asked old number ≡ true → fronts_kept old < most_kept → keeps new number ≡ true
