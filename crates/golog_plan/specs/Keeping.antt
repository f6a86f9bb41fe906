-- What is kept of a program that follows plans, after the entries so far.
use Rattle.std.specs.Prelude.{◌≡◌, ℕ, ◌≤◌, ◌<◌, not, IsTrue, IfSome, Option, Some, None, [], ◌∷◌, ◌++◌, length, option_map}
use Rattle.golog_tree.specs.declared.agent.Agent.{Agent}
use Rattle.golog_semantics.specs.declared.journal.Answer.{Answer}
use Rattle.golog_semantics.specs.declared.journal.Entry.{Entry}
use Rattle.golog_semantics.specs.declared.journal.Entry.TheVariants.{Sense}
use Rattle.golog_semantics.specs.BlockFree.{has_block}
use Rattle.golog_semantics.specs.Journal.{Journal, lacks_result}
use Rattle.golog_semantics.specs.Online.{label_of}
use Rattle.golog_semantics.specs.Progress.{values_after}
use Rattle.golog_semantics.specs.Truth.{Values}
use Rattle.golog_semantics.specs.WellFormed.{WellFormed}
use Rattle.golog_journal.specs.Boards.{IsBoardList}
use Rattle.golog_lead.specs.Courses.{Course}
use Rattle.golog_lead.specs.Keeping.{EndsBy}
use Rattle.golog_branch.specs.declared.following.Kept.{Kept}
use Rattle.golog_branch.specs.Following.{after_result, kept_after}
use Rattle.golog_branch.specs.PlanJournals.{IsPlannedSoFar}

-- a program that follows plans, under way: its agent, how far its plans go, how much a search for one may look at, and
-- the entries so far
pub record PlanCourse : Type 0 where
  pub agent : Agent
  pub depth : ℕ
  pub fuel : ℕ
  pub list : Journal

abbrev pub course_of : PlanCourse → Course
course_of c = record { agent = c.agent; list = c.list }

-- after these entries
abbrev pub planned_to : Agent → ℕ → ℕ → Journal → PlanCourse
planned_to agent depth fuel list = record { agent = agent; depth = depth; fuel = fuel; list = list }

-- the same program after these entries
abbrev pub with_list : PlanCourse → Journal → PlanCourse
with_list c list = planned_to c.agent c.depth c.fuel list

-- a well-formed agent whose program reaches no search block, and entries that keep the rules so far
pub record IsFollowed (c : PlanCourse) : Type 0 where
  pub formed : WellFormed c.agent
  pub blockless : IsTrue (not (has_block c.agent c.agent.main))
  pub deep : 1 ≤ c.depth
  pub fueled : 1 ≤ c.fuel
  pub lawful : IsBoardList c.agent c.list
  pub planned : IsPlannedSoFar c.agent c.depth c.fuel c.list

-- of the agent's devices one at most lacks a result
abbrev pub LacksOne : Agent → Journal → Type 0
LacksOne agent journal =
    (d e : ℕ) → d < length agent.devices → e < length agent.devices → IsTrue (lacks_result agent journal d)
    → IsTrue (lacks_result agent journal e) → d ≡ e

-- What is known, what is kept and the answer are those of the entries. What is kept may have been lost for want of
-- memory.
pub record KeepsPlan (c : PlanCourse) (own : Agent) (state : Values) (kept : Option Kept) (ended : Option Answer)
    : Type 0 where
  pub followed : IsFollowed c
  pub own_so : own ≡ c.agent
  pub state_so : state ≡ values_after c.agent c.list
  pub kept_so : IfSome kept (λ (k : Kept). k ≡ kept_after c.agent c.depth c.fuel c.list)
  pub ends : EndsBy c.list ended
  pub lacks_one : LacksOne c.agent c.list

-- what was kept, with the branch of a result
abbrev pub kept_on : Entry → Kept → Kept
kept_on (Sense poster place fluent value) k = after_result k value
kept_on _ k = k

-- what is kept after an entry: what is given for a step, and else what was kept before
abbrev pub kept_by : Option Kept → Option Kept → Entry → Option Kept
kept_by was (Some given) e = Some given
kept_by was None e = option_map (kept_on e) was

-- what is given is what is kept after the entry, and something is given for each step
abbrev pub KeptFor : PlanCourse → Entry → Option Kept → Type 0
KeptFor c e (Some given) = given ≡ kept_after c.agent c.depth c.fuel (c.list ++ e ∷ [])
KeptFor c e None = label_of e ≡ None
