-- The items that declare devices and actions.
use Rattle.std.specs.Prelude.{ℕ, nat_le, not, List, [], ◌∷◌, length, Some, None}
use Rattle.golog_base.specs.Names.{is_name}
use Rattle.golog_form.specs.declared.form.Form.{Form}
use Rattle.golog_form.specs.Shape.{place_of}
use Rattle.golog_tree.specs.declared.draft.DraftTheory.{DraftTheory}
use Rattle.golog_tree.specs.declared.draft.DraftDevice.{DraftDevice}
use Rattle.golog_tree.specs.declared.draft.DraftAction.{DraftAction}
use Rattle.golog_theory.specs.Codes.{UNKNOWN_FORM, UNKNOWN_NAME, COUNT}
use Rattle.golog_theory.specs.Limits.{DEVICES}
use Rattle.golog_theory.specs.Reading.{Reading, gives, refused, row, ◌>>=◌, found, each}
use Rattle.golog_theory.specs.Names.{device_no}
use Rattle.golog_theory.specs.Parts.{word, new_name}
use Rattle.golog_theory.specs.Fluents.{sorts_of}

-- `(device NAME)`
unfoldable pub device_item : DraftTheory → ℕ → List Form → Reading DraftDevice
device_item theory at (name ∷ []) =
    row (nat_le DEVICES (length theory.devices)) COUNT at
    (new_name theory name >>= λ name. gives (record { name = name; at = at }))
device_item theory at _ = refused UNKNOWN_FORM at

-- the number of a device
unfoldable pub device_of : DraftTheory → Form → Reading ℕ
device_of theory form =
    row (not (is_name (word form))) UNKNOWN_FORM (place_of form)
    (found UNKNOWN_NAME (place_of form) (device_no theory (word form)))

-- an action's name and the sorts of its arguments
unfoldable pub action_of : DraftTheory → ℕ → Form → Form → Reading DraftAction
action_of theory at name sorts =
    new_name theory name >>= λ name.
    sorts_of theory sorts >>= λ args.
    gives (record { name = name; args = args; device = None; posters = []; at = at })

-- `(action NAME (SORTS))`, or with a DEVICE last
unfoldable pub action_item : DraftTheory → ℕ → List Form → Reading DraftAction
action_item theory at (name ∷ sorts ∷ []) = action_of theory at name sorts
action_item theory at (name ∷ sorts ∷ device ∷ []) =
    action_of theory at name sorts >>= λ action.
    device_of theory device >>= λ device.
    gives (record action { device = Some device })
action_item theory at _ = refused UNKNOWN_FORM at

-- `(exo NAME (SORTS) DEVICE)`, one or more devices
unfoldable pub exo_item : DraftTheory → ℕ → List Form → Reading DraftAction
exo_item theory at (name ∷ sorts ∷ device ∷ devices) =
    action_of theory at name sorts >>= λ action.
    each (λ _. device_of theory) [] (device ∷ devices) >>= λ posters.
    gives (record action { posters = posters })
exo_item theory at _ = refused UNKNOWN_FORM at
