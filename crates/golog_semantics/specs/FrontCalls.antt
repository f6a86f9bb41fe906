-- The procedures that a program may call without a step, which reach which in that way, and how deep they
-- nest. (This project's own: "ConGolog" gives procedures a second-order meaning instead.)
use Rattle.std.specs.Prelude.{ℕ, zero, suc, ◌+◌, max, if◌then◌else◌, Option, Some, None, List, [], ◌∷◌, ◌++◌, length, map, Contains, slice_get, slice_index}
use Rattle.golog_tree.specs.declared.agent.Agent.{Agent}
use Rattle.golog_tree.specs.declared.agent.ProcItem.{ProcItem}
use Rattle.golog_tree.specs.declared.prog.Prog.{Prog}
use Rattle.golog_tree.specs.declared.prog.Prog.TheOpen.{Prog-F, Nil, Act, Test, Seq, Choice, Pick, Star, If, While, Conc, Prio, Cstar, Call, Search, Follow}
use Rattle.golog_tree.specs.declared.prog.Prog.TheFolds.{fold-Prog, map-Prog}
use Rattle.golog_tree.specs.Nest.{nest}
use Rattle.golog_semantics.specs.Guarded.{Front, no_front, front_step, proc_fronts}

-- the front of a program, with the procedures that it may call without a step
pub record Calling : Type 0 where
  pub front : Front
  pub calls : List ℕ

-- the calls of a program, given those of its parts: a second part counts only where the first may be skipped
abbrev pub calls_among : Prog-F Calling Calling → List ℕ
calls_among Nil = []
calls_among (Act action args) = []
calls_among (Test c) = []
calls_among (Seq p q) = p.calls ++ (if p.front.skip then q.calls else [])
calls_among (Choice p q) = p.calls ++ q.calls
calls_among (Pick x sort p) = p.calls
calls_among (Star p) = p.calls
calls_among (If c p q) = p.calls ++ q.calls
calls_among (While c p) = p.calls
calls_among (Conc p q) = p.calls ++ q.calls
calls_among (Prio p q) = p.calls ++ q.calls
calls_among (Cstar p) = p.calls
calls_among (Call item args) = item ∷ []
calls_among (Search depth fuel p) = p.calls
calls_among (Follow depth fuel p rest) = p.calls

-- the front and the calls of a program, given those of its parts
abbrev pub calling_step : List Front → Prog-F Calling Calling → Calling
calling_step procs l = record {
  front = front_step procs (map-Prog Calling Calling Front Front (λ c. c.front) (λ c. c.front) l);
  calls = calls_among l;
}

-- the front and the calls of a program
abbrev pub calling : List Front → Prog → Calling
calling procs = fold-Prog Calling Calling (calling_step procs) (λ w. record { front = no_front; calls = [] })

-- the procedures that a program may call without a step
abbrev pub front_calls : Agent → Prog → List ℕ
front_calls agent p = (calling (proc_fronts agent) p).calls

-- the calls of a body
abbrev pub body_calls : Agent → Option ProcItem → List ℕ
body_calls agent None = []
body_calls agent (Some item) = front_calls agent item.body

-- the procedures that a procedure may call without a step
abbrev pub proc_calls : Agent → ℕ → List ℕ
proc_calls agent p = body_calls agent (slice_get agent.procs p)

-- a procedure may come to a call of another without a step, directly or through others
pub data Reaches (agent : Agent) (q : ℕ) : ℕ → Type 0 where
  directly : (p : ℕ) → Contains (proc_calls agent p) q → Reaches agent q p
  through : (p r : ℕ) → Contains (proc_calls agent p) r → Reaches agent q r → Reaches agent q p

-- no procedure may come to a call of itself without a step
abbrev pub NoneReachesItself : Agent → Type 0
NoneReachesItself agent = (p : ℕ) → ¬ Reaches agent p p

-- the greatest of these numbers, or 0
abbrev pub greatest : List ℕ → ℕ
greatest [] = 0
greatest (n ∷ ns) = max n (greatest ns)

-- how deep the procedures nest with what they call without a step, looking through so many calls
abbrev pub nests_to : ℕ → Agent → List ℕ
nests_to zero agent = map (λ item. 0) agent.procs
nests_to (suc k) agent =
    let called = λ (item : ProcItem). map (slice_index (nests_to k agent)) (front_calls agent item.body) in
    map (λ item. nest item.body + greatest (called item)) agent.procs

-- the front nest of each procedure of a guarded agent: the nest of its body, and the greatest front nest of
-- the procedures that it may call without a step
unfoldable pub front_nests : Agent → List ℕ
front_nests agent = nests_to (length agent.procs) agent
