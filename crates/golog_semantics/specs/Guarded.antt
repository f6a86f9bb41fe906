-- Guarded agents: which programs may be final without a step, and how deep they lead without one. (This
-- project's own; it makes Final and Trans well defined by recursion.)
use Rattle.std.specs.Prelude.{◌≡◌, ℕ, zero, suc, ◌+◌, ◌*◌, max, Bool, true, false, ◌&&◌, ◌||◌, if◌then◌else◌, List, [], ◌∷◌, length, map}
use Rattle.golog_tree.specs.declared.agent.Agent.{Agent}
use Rattle.golog_tree.specs.declared.prog.Prog.{Prog}
use Rattle.golog_tree.specs.declared.prog.Prog.TheOpen.{Prog-F, Nil, Act, Test, Seq, Choice, Pick, Star, If, While, Conc, Prio, Cstar, Call, Search, Follow}
use Rattle.golog_tree.specs.declared.prog.Prog.TheFolds.{fold-Prog}

-- whether a program may be final without a step, and how deep its parts and calls lead without one
pub record Front : Type 0 where
  pub skip : Bool
  pub height : ℕ

-- where nothing is looked at yet
abbrev pub no_front : Front
no_front = record { skip = false; height = 0 }

-- a program without parts
abbrev pub leaf : Bool → Front
leaf skip = record { skip = skip; height = 1 }

-- a program with parts of this height
abbrev pub above : Bool → ℕ → Front
above skip height = record { skip = skip; height = 1 + height }

-- the front of a procedure; a call of none stands for the empty program
abbrev pub front_at : List Front → ℕ → Front
front_at [] item = leaf true
front_at (f ∷ fs) zero = f
front_at (f ∷ fs) (suc item) = front_at fs item

-- The front of a program, given those of its parts. A second part counts for the height only where the first
-- may be skipped, and a call counts as the body.
abbrev pub front_step : List Front → Prog-F Front Front → Front
front_step procs Nil = leaf true
front_step procs (Act action args) = leaf false
front_step procs (Test c) = leaf false
front_step procs (Seq p q) = above (p.skip && q.skip) (max p.height (if p.skip then q.height else 0))
front_step procs (Choice p q) = above (p.skip || q.skip) (max p.height q.height)
front_step procs (Pick x sort p) = above p.skip p.height
front_step procs (Star p) = above true p.height
front_step procs (If c p q) = above (p.skip || q.skip) (max p.height q.height)
front_step procs (While c p) = above true p.height
front_step procs (Conc p q) = above (p.skip && q.skip) (max p.height q.height)
front_step procs (Prio p q) = above (p.skip && q.skip) (max p.height q.height)
front_step procs (Cstar p) = above true p.height
front_step procs (Call item args) = above (front_at procs item).skip (front_at procs item).height
front_step procs (Search depth fuel p) = above p.skip p.height
front_step procs (Follow depth fuel p rest) = above p.skip p.height

-- the front of a program, by those of the procedures
abbrev pub front_by : List Front → Prog → Front
front_by procs = fold-Prog Front Front (front_step procs) (λ w. no_front)

-- the fronts of the procedures, looking through so many calls
abbrev pub fronts_to : ℕ → Agent → List Front
fronts_to zero agent = map (λ item. no_front) agent.procs
fronts_to (suc k) agent = map (λ item. front_by (fronts_to k agent) item.body) agent.procs

-- twice as many calls as there are procedures: skipping settles first, and then heights
unfoldable pub proc_fronts : Agent → List Front
proc_fronts agent = fronts_to (2 * length agent.procs) agent

-- the front of a program: whether it may be final without a step, and how deep it leads
abbrev pub front : Agent → Prog → Front
front agent = front_by (proc_fronts agent)

-- no procedure reaches itself without a step: looking through one more call changes nothing
pub record IsGuarded (agent : Agent) : Type 0 where
  pub settled : map (λ item. front agent item.body) agent.procs ≡ proc_fronts agent
