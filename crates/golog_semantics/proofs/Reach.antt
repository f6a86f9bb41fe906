-- Which procedures a program may call without a step, as a test, and paths of such calls.
use Rattle.std.specs.Prelude.{ℕ, zero, suc, Bool, true, false, ◌==◌, ◌&&◌, ◌||◌, IsTrue, Option, Some, None, List, [], ◌∷◌, length, map, slice_get}
use Rattle.std.specs.Option.{option_map_or}
use Rattle.golog_tree.specs.declared.agent.Agent.{Agent}
use Rattle.golog_tree.specs.declared.agent.ProcItem.{ProcItem}
use Rattle.golog_tree.specs.declared.prog.Prog.{Prog}
use Rattle.golog_tree.specs.declared.prog.Prog.TheOpen.{Prog-F, Nil, Act, Test, Seq, Choice, Pick, Star, If, While, Conc, Prio, Cstar, Call, Search, Follow}
use Rattle.golog_tree.specs.declared.prog.Prog.TheFolds.{fold-Prog}

-- whether a program may be final without a step, and whether it may call a procedure without one
pub record Fore : Type 0 where
  pub skip : Bool
  pub calls : ℕ → Bool

abbrev pub no_call : Bool → Fore
no_call skip = record { skip = skip; calls = λ item. false }

abbrev pub either_calls : Bool → Fore → Fore → Fore
either_calls skip p q = record { skip = skip; calls = λ item. p.calls item || q.calls item }

-- whether a procedure may be final without a step; one that there is not has nothing to do
abbrev pub is_skipped : List Bool → ℕ → Bool
is_skipped bs item = option_map_or (λ skip. skip) (slice_get bs item) true

abbrev pub fore_step : List Bool → Prog-F Fore Fore → Fore
fore_step skips Nil = no_call true
fore_step skips (Act action args) = no_call false
fore_step skips (Test c) = no_call false
fore_step skips (Seq p q) =
    record { skip = p.skip && q.skip; calls = λ item. p.calls item || (p.skip && q.calls item) }
fore_step skips (Choice p q) = either_calls (p.skip || q.skip) p q
fore_step skips (Pick x sort p) = p
fore_step skips (Star p) = record { skip = true; calls = p.calls }
fore_step skips (If c p q) = either_calls (p.skip || q.skip) p q
fore_step skips (While c p) = record { skip = true; calls = p.calls }
fore_step skips (Conc p q) = either_calls (p.skip && q.skip) p q
fore_step skips (Prio p q) = either_calls (p.skip && q.skip) p q
fore_step skips (Cstar p) = record { skip = true; calls = p.calls }
fore_step skips (Call item args) = record { skip = is_skipped skips item; calls = λ other. other == item }
fore_step skips (Search depth fuel p) = p
fore_step skips (Follow depth fuel p rest) = p

abbrev pub fore_by : List Bool → Prog → Fore
fore_by skips = fold-Prog Fore Fore (fore_step skips) (λ w. no_call false)

-- which procedures may be final without a step, looking through so many calls
abbrev pub skips_to : ℕ → Agent → List Bool
skips_to zero agent = map (λ item. false) agent.procs
skips_to (suc k) agent = map (λ item. (fore_by (skips_to k agent) item.body).skip) agent.procs

-- as many calls as there are procedures are enough
unfoldable pub proc_skips : Agent → List Bool
proc_skips agent = skips_to (length agent.procs) agent

abbrev pub fore : Agent → Prog → Fore
fore agent = fore_by (proc_skips agent)

abbrev pub calls_from : Agent → Option ProcItem → ℕ → Bool
calls_from agent None to = false
calls_from agent (Some item) to = (fore agent item.body).calls to

-- the body of the first procedure may call the second one without a step
abbrev pub calls_first : Agent → ℕ → ℕ → Bool
calls_first agent item to = calls_from agent (slice_get agent.procs item) to

-- each procedure on the way may call the next one without a step
abbrev pub IsPath : Agent → ℕ → List ℕ → ℕ → Type 0
IsPath agent item [] to = IsTrue (calls_first agent item to)
IsPath agent item (via ∷ path) to = IsTrue (calls_first agent item via) × IsPath agent via path to

-- the first procedure may come to call the second one without a step
abbrev pub PathTo : Agent → ℕ → ℕ → Type 0
PathTo agent item to = (path : List ℕ) × IsPath agent item path to

abbrev pub NoPathToItself : Agent → Type 0
NoPathToItself agent = (item : ℕ) → ¬ PathTo agent item item
