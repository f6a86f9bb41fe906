-- What the calls of a device do to what it means.
use Rattle.std.specs.Prelude.{◌≡◌, Bool, true, false, if◌then◌else◌, Option, None, Some, IsSome, List, [], ◌∷◌, ◌++◌, codes}
use Rattle.std.specs.List.{list_any}
use Rattle.golog_semantics.specs.Text.{Text}
use Rattle.golog_semantics.specs.Same.{same_values}
use Rattle.golog_semantics.specs.Dealt.{Meaning, Service, Script, Told, TellsPost, TellsValue, TellsRest, TellsClose}
use Rattle.golog_device.specs.declared.device.Begun.{Begun}
use Rattle.golog_device.specs.declared.device.Begun.TheVariants.{Ready, Refused, Memory}
use Rattle.golog_device.specs.declared.device.Served.{Served}
use Rattle.golog_device.specs.declared.device.Served.TheVariants.{Nothing, Value}
use Rattle.golog_device.specs.declared.device.Idle.{Idle}
use Rattle.golog_device.specs.declared.device.Idle.TheVariants.{Post, Rest, Close}
use Rattle.golog_device.specs.Scripts.{script_spelled}

-- the told list with one more item; untold where it is untold
abbrev pub and_then_item : {A : Type 0} → Option (List A) → A → Option (List A)
and_then_item None item = None
and_then_item (Some items) item = Some (items ++ item ∷ [])

-- this where one is told
abbrev pub renamed : {A : Type 0} → Option A → A → Option A
renamed None name = None
renamed (Some old) name = Some name

-- the empty list where a list is told
abbrev pub emptied : {A : Type 0} → Option (List A) → Option (List A)
emptied None = None
emptied (Some items) = Some []

-- where a device tells what is left, it is now what this text spells
abbrev pub Restarts : Option Script → Option Script → Text → Type 0
Restarts None new text = new ≡ None
Restarts (Some left) new text = IsSome new × (new ≡ script_spelled text)

-- the device has begun under this name with the script that this text spells: it was given and told nothing yet
pub record HasBegun (old new : Meaning) (name text : Text) : Type 0 where
  pub named : new.name ≡ renamed old.name name
  pub whole : new.cut ≡ false
  pub none_given : new.given ≡ emptied old.given
  pub none_told : new.told ≡ emptied old.told
  pub script_left : Restarts old.left new.left text

-- A device that is ready has begun under its name; else it means what it meant. One that tells what is left
-- refuses no script.
abbrev pub Begins : Begun → Meaning → Meaning → Text → Text → Type 0
Begins Ready old new name text = HasBegun old new name text
Begins Refused old new name text = (new ≡ old) × (IsSome (script_spelled text) → old.left ≡ None)
Begins Memory old new name text = new ≡ old

-- it is fresh until it is ready
abbrev pub still_fresh : Begun → Bool
still_fresh Ready = false
still_fresh Refused = true
still_fresh Memory = true

-- a device that is not cut adds to what it was given, or is cut and keeps it
abbrev pub Gives : Bool → Bool → Option (List Service) → Option (List Service) → Service → Type 0
Gives true new_cut old new service = (new_cut ≡ true) × (new ≡ old)
Gives false true old new service = new ≡ old
Gives false false old new service = new ≡ and_then_item old service

abbrev pub is_told_close : Told → Bool
is_told_close TellsClose = true
is_told_close item = false

-- what was told, up to and with the first Close
abbrev pub told_then : Option (List Told) → Told → Option (List Told)
told_then None item = None
told_then (Some told) item = Some (if list_any is_told_close told then told else told ++ item ∷ [])

-- what was told, and the value that was answered
abbrev pub told_after : Option (List Told) → Served → Option (List Told)
told_after told Nothing = told
told_after told (Value bytes) = told_then told (TellsValue bytes)

-- what an idle device told
abbrev pub tells : Idle → Told
tells (Post bytes) = TellsPost bytes
tells Rest = TellsRest
tells Close = TellsClose

-- how a script answers a sensing command, and what is left of its answers
abbrev pub next_answer : List Text → Served
next_answer [] = Nothing
next_answer (text ∷ texts) = Value text

abbrev pub rest_of : {A : Type 0} → List A → List A
rest_of [] = []
rest_of (item ∷ items) = items

-- how a script fills idle time: with none left it closes
abbrev pub idle_of : Text → Idle
idle_of text =
    if same_values text (codes "rest") then Rest
    else (if same_values text (codes "close") then Close else Post text)

abbrev pub next_idle : List Text → Idle
next_idle [] = Close
next_idle (text ∷ texts) = idle_of text

-- a device that tells what is left of its script answers by it
abbrev pub ServesBy : Option Script → Bool → Served → Option Script → Type 0
ServesBy None asked answer new = new ≡ None
ServesBy (Some left) false answer new = (answer ≡ Nothing) × (new ≡ Some left)
ServesBy (Some left) true answer new =
    (answer ≡ next_answer left.answers) × (new ≡ Some (record left { answers = rest_of left.answers }))

abbrev pub IdlesBy : Option Script → Idle → Option Script → Type 0
IdlesBy None answer new = new ≡ None
IdlesBy (Some left) answer new =
    (answer ≡ next_idle left.idle) × (new ≡ Some (record left { idle = rest_of left.idle }))

-- what serving an action does
pub record Serves (answer : Served) (old new : Meaning) (service : Service) : Type 0 where
  pub name_same : new.name ≡ old.name
  pub gives : Gives old.cut new.cut old.given new.given service
  pub tells_value : new.told ≡ told_after old.told answer
  pub by_script : ServesBy old.left service.asked answer new.left

-- what idling does
pub record Idles (answer : Idle) (old new : Meaning) : Type 0 where
  pub name_same : new.name ≡ old.name
  pub cut_same : new.cut ≡ old.cut
  pub given_same : new.given ≡ old.given
  pub tells_item : new.told ≡ told_then old.told (tells answer)
  pub by_script : IdlesBy old.left answer new.left
