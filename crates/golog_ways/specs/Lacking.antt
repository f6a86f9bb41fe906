-- Programs with a search block at their front that wants more than its fuel.
use Rattle.std.specs.Prelude.{◌≡◌, ℕ, zero, suc, Bool, true, false, ◌&&◌, ◌||◌, List, [], ◌⊎◌}
use Rattle.std.specs.List.{list_any}
use Rattle.golog_tree.specs.declared.agent.Agent.{Agent}
use Rattle.golog_tree.specs.declared.prog.Prog.{Prog}
use Rattle.golog_tree.specs.declared.prog.Way.{Way}
use Rattle.golog_tree.specs.declared.prog.Prog.TheOpen.{Nil, Act, Test, Seq, Choice, Pick, Star, If, While, Conc, Prio, Cstar, Call, Search, Follow}
use Rattle.golog_tree.specs.declared.prog.Prog.TheViews.{out-Prog}
use Rattle.golog_tree.specs.Tidy.{Layer}
use Rattle.golog_semantics.specs.declared.Mode.{Mode}
use Rattle.golog_semantics.specs.declared.Mode.TheVariants.{Must, Near}
use Rattle.golog_semantics.specs.Guarded.{front}
use Rattle.golog_semantics.specs.Truth.{constants}
use Rattle.golog_semantics.specs.Program.{put_arg, body_of}
use Rattle.golog_ways.specs.declared.answering.Stop.{Stop}
use Rattle.golog_ways.specs.declared.answering.Stop.TheVariants.{Fuel}

-- which blocks want more than their fuel, by their depth, fuel, body and the rest of the run that they follow
abbrev pub Wants : Type 0
Wants = ℕ → ℕ → Prog → List Way → Bool

-- A block that wants more in Must, or in Near where it stands in the higher part of a `prio`, which is asked for
-- a step in either mode.
abbrev pub wants_at : (Mode → Wants) → Bool → Wants
wants_at wants higher depth fuel body rest = wants Must depth fuel body rest || (higher && wants Near depth fuel body rest)

module _ (agent : Agent) (wants : Mode → Wants) where
  -- some block at the front of a program that stands there wants more, given this of smaller programs
  abbrev pub lacks_step : (Bool → Prog → Bool) → Bool → Layer → Bool
  lacks_step lacks higher Nil = false
  lacks_step lacks higher (Act action args) = false
  lacks_step lacks higher (Test c) = false
  lacks_step lacks higher (Seq p q) = lacks higher p || ((front agent p).skip && lacks higher q)
  lacks_step lacks higher (Choice p q) = lacks higher p || lacks higher q
  lacks_step lacks higher (Pick x sort p) = list_any (λ c. lacks higher (put_arg p x c)) (constants agent sort)
  lacks_step lacks higher (Star p) = lacks higher p
  lacks_step lacks higher (If c p q) = lacks higher p || lacks higher q
  lacks_step lacks higher (While c p) = lacks higher p
  lacks_step lacks higher (Conc p q) = lacks higher p || lacks higher q
  lacks_step lacks higher (Prio p q) = lacks true p || lacks higher q
  lacks_step lacks higher (Cstar p) = lacks higher p
  lacks_step lacks higher (Call item args) = lacks higher (body_of agent item args)
  lacks_step lacks higher (Search depth fuel p) = wants_at wants higher depth fuel p []
  lacks_step lacks higher (Follow depth fuel p rest) = wants_at wants higher depth fuel p rest

  -- the same, looking at most so deep into parts and calls
  abbrev pub lacks_to : ℕ → Bool → Prog → Bool
  lacks_to zero higher p = false
  lacks_to (suc n) higher p = lacks_step (lacks_to n) higher (out-Prog p)

  -- Some block at the front wants more than its fuel: in Must, or in Near where it or the whole program stands in
  -- the higher part of a `prio`.
  pub record Lacks (higher : Bool) (p : Prog) : Type 0 where
    pub deep : ℕ
    pub lacks : lacks_to deep higher p ≡ true

  -- an answer that stopped for want of fuel tells that some block lacks it
  pub record StopsAt (higher : Bool) (p : Prog) (stop : Stop) : Type 0 where
    pub why : stop ≡ Fuel → Lacks higher p

  -- the same of one of two programs
  pub record StopsAtEither (higher : Bool) (p q : Prog) (stop : Stop) : Type 0 where
    pub why : stop ≡ Fuel → Lacks higher p ⊎ Lacks higher q
