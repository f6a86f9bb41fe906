-- Programs that hold a search block, or reach one through calls.
use Rattle.std.specs.Prelude.{ℕ, zero, suc, Bool, true, false, ◌||◌, List, length, map, slice_get}
use Rattle.std.specs.Option.{option_map_or}
use Rattle.golog_tree.specs.declared.agent.Agent.{Agent}
use Rattle.golog_tree.specs.declared.prog.Prog.{Prog}
use Rattle.golog_tree.specs.declared.prog.Prog.TheOpen.{Prog-F, Nil, Act, Test, Seq, Choice, Pick, Star, If, While, Conc, Prio, Cstar, Call, Search, Follow}
use Rattle.golog_tree.specs.declared.prog.Prog.TheFolds.{fold-Prog}

-- whether this procedure has a block, by what is said of each
abbrev pub block_at : List Bool → ℕ → Bool
block_at procs item = option_map_or (λ has. has) (slice_get procs item) false

-- whether a block stands in a program, given this of its parts and of the procedures
abbrev pub has_block_step : List Bool → Prog-F Bool Bool → Bool
has_block_step procs Nil = false
has_block_step procs (Act action args) = false
has_block_step procs (Test c) = false
has_block_step procs (Seq p q) = p || q
has_block_step procs (Choice p q) = p || q
has_block_step procs (Pick x sort p) = p
has_block_step procs (Star p) = p
has_block_step procs (If c p q) = p || q
has_block_step procs (While c p) = p
has_block_step procs (Conc p q) = p || q
has_block_step procs (Prio p q) = p || q
has_block_step procs (Cstar p) = p
has_block_step procs (Call item args) = block_at procs item
has_block_step procs (Search depth fuel p) = true
has_block_step procs (Follow depth fuel p rest) = true

-- the same of a whole program
abbrev pub has_block_by : List Bool → Prog → Bool
has_block_by procs = fold-Prog Bool Bool (has_block_step procs) (λ w. false)

-- whether each procedure has a block, looking through so many calls
abbrev pub proc_blocks_to : ℕ → Agent → List Bool
proc_blocks_to zero agent = map (λ item. false) agent.procs
proc_blocks_to (suc k) agent = map (λ item. has_block_by (proc_blocks_to k agent) item.body) agent.procs

-- which procedures have a block, or call one that has one, in any number of calls
unfoldable pub proc_blocks : Agent → List Bool
proc_blocks agent = proc_blocks_to (length agent.procs) agent

-- the program holds a search block, or calls, in any number of calls, a procedure that holds one
abbrev pub has_block : Agent → Prog → Bool
has_block agent = has_block_by (proc_blocks agent)
