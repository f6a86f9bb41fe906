-- Laws of how devices are dealt with over a run.
use Rattle.std.specs.Prelude.{ℕ, ◌≤◌, ◌<◌, IfSome, List, ◌++◌, length, slice_get}
use Rattle.golog_tree.specs.declared.agent.Agent.{Agent}
use Rattle.golog_semantics.specs.Text.{Text}
use Rattle.golog_semantics.specs.Journal.{Journal, commands}
use Rattle.golog_semantics.specs.Dealt.{Meaning, Script}
use Rattle.golog_journal.specs.Laws.{AreNotOf}
use Rattle.golog_device.specs.Slots.{Standing, HaveBegun}
use Rattle.golog_device.specs.Dealing.{DealtNow, HasLeft}

-- a device that has just begun, or refused its script, is dealt with
abbrev pub DealtAtFirst : Type 0
DealtAtFirst =
    (agent : Agent) (count : ℕ) (texts : List Text) (journal : Journal) (olds news : List Standing)
    → HaveBegun count agent.devices texts journal olds news
    → (device : ℕ) → device < count
    → IfSome (slice_get news device) (λ s. (script : Script) → HasLeft script s.meaning
    → DealtNow agent device journal 0 script s.meaning)

-- and is so while others add entries
abbrev pub DealtStays : Type 0
DealtStays =
    (agent : Agent) (journal others : Journal) (device taken : ℕ) (script : Script) (m : Meaning)
    → AreNotOf device others → taken ≤ length (commands agent device journal)
    → DealtNow agent device journal taken script m → DealtNow agent device (journal ++ others) taken script m
