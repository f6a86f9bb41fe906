-- What a device has before it that answers by a table, and what it means.
use Rattle.std.specs.Prelude.{Bool, false, Some, None, List, [], ◌∷◌, reverse}
use Rattle.golog_semantics.specs.Dealt.{Meaning}
use Rattle.golog_device.specs.declared.device.Begun.{Begun}
use Rattle.golog_device.specs.declared.device.Served.{Served}
use Rattle.golog_device.specs.declared.device.Served.TheVariants.{Nothing}
use Rattle.golog_device.specs.declared.device.Idle.{Idle}
use Rattle.golog_device.specs.declared.device.Idle.TheVariants.{Close}
use Rattle.golog_device.specs.declared.table.TableDevice.{TableDevice}
use Rattle.golog_device.specs.Logs.{told_by, given_by, is_cut}

-- how it begins, and the answers still to come
pub record Table : Type 0 where
  pub begun : Begun
  pub serves : List Served
  pub idles : List Idle

abbrev pub table_of : TableDevice → Table
table_of device = record {
  begun = device.begun;
  serves = reverse device.serves.items;
  idles = reverse device.idles.items;
}

-- it has not begun
abbrev pub is_fresh : TableDevice → Bool
is_fresh device = device.fresh

abbrev pub meaning_of : TableDevice → Meaning
meaning_of device = record {
  name = None;
  cut = is_cut device.served;
  given = Some (given_by device.served);
  told = Some (told_by device.told);
  left = None;
}

-- a device that was given and told nothing, and tells neither its name nor what is left of a script
abbrev pub unused : Meaning
unused = record { name = None; cut = false; given = Some []; told = Some []; left = None }

-- the next answer to an action: with none left it answers nothing
abbrev pub next_served : List Served → Served
next_served [] = Nothing
next_served (served ∷ others) = served

-- what it does next without a command: with none left it closes
abbrev pub next_idle : List Idle → Idle
next_idle [] = Close
next_idle (idle ∷ others) = idle
