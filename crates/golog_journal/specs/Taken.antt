-- How many of its commands a device may be said to have taken.
use Rattle.std.specs.Prelude.{◌≡◌, ℕ, ◌-◌, ◌<◌, Bool, not, IsTrue, ◌&&◌, None, length, take}
use Rattle.std.specs.List.{list_any}
use Rattle.golog_tree.specs.declared.agent.Agent.{Agent}
use Rattle.golog_semantics.specs.Journal.{Journal, commands, is_outstanding, is_open}
use Rattle.golog_semantics.specs.Online.{may_have_taken}
use Rattle.golog_semantics.specs.Posts.{awaited_command}

module _ (agent : Agent) (journal : Journal) (device taken : ℕ) where
  -- the device has so many commands, no entry of it tells of more, and only the last of so many may still
  -- await its result
  abbrev pub fits : Bool
  fits =
      may_have_taken agent journal device taken
      && not (list_any (is_outstanding agent journal) (take (taken - 1) (commands agent device journal)))

  -- an open device of the agent, which may have taken so many commands
  pub record IsDriven : Type 0 where
    pub is_device : device < length agent.devices
    pub still_open : IsTrue (is_open device journal)
    pub fitting : IsTrue fits

  -- and the result of the last of them is not awaited
  pub record IsReady : Type 0 where
    pub driven : IsDriven
    pub answered : awaited_command agent journal device taken ≡ None
