-- What a run over an empty journal begins with.
use Rattle.std.proofs.Common.{◌≡◌, ℕ, ◌<◌, true, [], length, refl, sym, ap, ◌∙◌, subst, arith}
use Rattle.golog_tree.specs.declared.agent.Agent.{Agent}
use Rattle.golog_semantics.specs.Journal.{Journal, is_open}
use Rattle.golog_journal.specs.Boards.{IsBoardList}
use Rattle.golog_journal.specs.Leading.{IsBehind}
use Rattle.golog_journal.specs.Taken.{IsReady}
use Rattle.golog_device.proofs.Refused.{ready-first}

pub no-entries : (agent : Agent) → IsBoardList agent []
no-entries agent = record { lawful = refl; room = omega arith }

pub none-behind : (list seen : Journal) → list ≡ [] → seen ≡ [] → IsBehind list seen
none-behind list seen none empty =
    subst (λ (j : Journal). IsBehind j seen) (sym none)
    (subst (IsBehind []) (sym empty) (record { since = []; front = refl; of_devices = refl }))

pub none-ready : (agent : Agent) (list : Journal) (device : ℕ) → device < length agent.devices → list ≡ [] → is_open device list ≡ true
    → IsReady agent list device 0
none-ready agent list device inside none opened =
    subst (λ (j : Journal). IsReady agent j device 0) (sym none)
    (ready-first agent device [] inside refl (ap (is_open device) (sym none) ∙ opened))
