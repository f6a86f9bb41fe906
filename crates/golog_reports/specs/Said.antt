-- What a line of a journal says, with names and numbers left open.
use Rattle.std.specs.Prelude.{◌&&◌, if◌then◌else◌, Bool, true, List, [], ◌∷◌, ◌++◌, Option, None, Some, length, take, drop, codes, bytes_eq, find, option_map, option_and_then}
use Rattle.std.specs.Option.{option_map_or}
use Rattle.golog_base.specs.Names.{is_name}
use Rattle.golog_semantics.specs.declared.journal.Reason.{Reason}
use Rattle.golog_semantics.specs.declared.journal.Reason.TheVariants.{Ended, Bad, Full, Late, Stopped, Refused}
use Rattle.golog_semantics.specs.declared.journal.Answer.{Answer}
use Rattle.golog_semantics.specs.declared.journal.Answer.TheVariants.{Done, Stuck, Unknown, Depth, Fuel, Unanswered, Full as AnswerFull, Deep, Memory}
use Rattle.golog_semantics.specs.Text.{Text, reason_text, answer_text}
use Rattle.golog_reports.specs.Forms.{cut, is_natural, is_constant, is_action, is_run}

-- what stands behind a line's number; a run is the text behind the word `run`
pub data Body : Type 0 where
  SaysDo : (action : Text) (device run : Option Text) → Body
  SaysTest : (run : Option Text) → Body
  SaysExo : (device action : Text) → Body
  SaysSense : (device place value : Text) (old : Option Text) → Body
  SaysRest : (device taken : Text) → Body
  SaysClose : (device : Text) (reason : Reason) (taken : Text) → Body
  SaysEnd : (answer : Answer) → Body

pub record Said : Type 0 where
  pub number : Text
  pub body : Body

-- ---- its text

-- a text behind a prefix, where there is one
abbrev pub with_prefix : Text → Option Text → Text
with_prefix prefix text = option_map_or (λ t. prefix ++ t) text []

abbrev pub body_said : Body → Text
body_said (SaysDo action device run) =
    codes "do " ++ action ++ with_prefix (codes " @") device ++ with_prefix (codes " run") run
body_said (SaysTest run) = codes "test" ++ with_prefix (codes " run") run
body_said (SaysExo device action) = codes "exo " ++ device ++ codes " " ++ action
body_said (SaysSense device place value old) =
    codes "sense " ++ device ++ codes " " ++ place ++ codes " " ++ value ++ with_prefix (codes " against ") old
body_said (SaysRest device taken) = codes "rest " ++ device ++ codes " " ++ taken
body_said (SaysClose device reason taken) =
    codes "close " ++ device ++ codes " " ++ reason_text reason ++ codes " " ++ taken
body_said (SaysEnd answer) = codes "end " ++ answer_text answer

abbrev pub said_text : Said → Text
said_text said = said.number ++ codes " " ++ body_said said.body

-- the words have their forms
abbrev pub is_body : Body → Bool
is_body (SaysDo action device run) =
    is_action action && option_map_or is_name device true && option_map_or is_run run true
is_body (SaysTest run) = option_map_or is_run run true
is_body (SaysExo device action) = is_name device && is_action action
is_body (SaysSense device place value old) =
    is_name device && is_natural place && is_constant value && option_map_or is_constant old true
is_body (SaysRest device taken) = is_name device && is_natural taken
is_body (SaysClose device reason taken) = is_name device && is_natural taken
is_body (SaysEnd answer) = true

abbrev pub is_said : Said → Bool
is_said said = is_natural said.number && is_body said.body

-- ---- what a line says: that of which it is the text, with words of these forms

-- where a test holds
abbrev pub if_so : {A : Type 0} → Bool → Option A → Option A
if_so holds answer = if holds then answer else None

-- what stands behind a prefix, where it stands in front
unfoldable pub behind : Text → Text → Option Text
behind prefix text = if_so (bytes_eq (take (length prefix) text) prefix) (Some (drop (length prefix) text))

-- the run behind a step, if there is one
unfoldable pub run_in : Option Text → Option (Option Text)
run_in None = Some None
run_in (Some text) = option_and_then (λ run. if_so (is_run run) (Some (Some run))) (behind (codes "run") text)

-- the device that a command is sent to, if there is one, and what stands behind it
unfoldable pub device_in : Option Text → Option Text × Option Text
device_in None = (None, None)
device_in (Some text) =
    option_map_or (λ word. (Some (cut 32 word).0, (cut 32 word).1)) (behind (codes "@") text) (None, Some text)

unfoldable pub do_in : Text → Option Body
do_in text =
    let action = (cut 32 text).0 in
    let device = device_in (cut 32 text).1 in
    if_so (is_action action && option_map_or is_name device.0 true)
    (option_map (SaysDo action device.0) (run_in device.1))

unfoldable pub exo_in : Text → Option Body
exo_in text =
    let device = (cut 32 text).0 in
    option_and_then (λ action. if_so (is_name device && is_action action) (Some (SaysExo device action)))
    (cut 32 text).1

-- the value known before, if there is one
unfoldable pub old_in : Option Text → Option (Option Text)
old_in None = Some None
old_in (Some text) =
    option_and_then (λ old. if_so (is_constant old) (Some (Some old))) (behind (codes "against ") text)

unfoldable pub value_in : Text → Text → Text → Option Body
value_in device place text =
    let value = (cut 32 text).0 in
    if_so (is_constant value) (option_map (SaysSense device place value) (old_in (cut 32 text).1))

unfoldable pub place_in : Text → Text → Option Body
place_in device text =
    let place = (cut 32 text).0 in if_so (is_natural place) (option_and_then (value_in device place) (cut 32 text).1)

unfoldable pub sense_in : Text → Option Body
sense_in text =
    let device = (cut 32 text).0 in if_so (is_name device) (option_and_then (place_in device) (cut 32 text).1)

unfoldable pub rest_in : Text → Option Body
rest_in text =
    let device = (cut 32 text).0 in
    option_and_then (λ taken. if_so (is_name device && is_natural taken) (Some (SaysRest device taken)))
    (cut 32 text).1

abbrev pub reasons : List Reason
reasons = Ended ∷ Bad ∷ Full ∷ Late ∷ Stopped ∷ Refused ∷ []

abbrev pub reason_in : Text → Option Reason
reason_in word = find (λ reason. bytes_eq (reason_text reason) word) reasons

abbrev pub answers : List Answer
answers = Done ∷ Stuck ∷ Unknown ∷ Depth ∷ Fuel ∷ Unanswered ∷ AnswerFull ∷ Deep ∷ Memory ∷ []

abbrev pub answer_in : Text → Option Answer
answer_in word = find (λ answer. bytes_eq (answer_text answer) word) answers

unfoldable pub reason_and_taken : Text → Text → Option Body
reason_and_taken device text =
    option_and_then
    (λ reason. option_and_then (λ taken. if_so (is_natural taken) (Some (SaysClose device reason taken))) (cut 32 text).1)
    (reason_in (cut 32 text).0)

unfoldable pub close_in : Text → Option Body
close_in text =
    let device = (cut 32 text).0 in
    if_so (is_name device) (option_and_then (reason_and_taken device) (cut 32 text).1)

unfoldable pub end_in : Text → Option Body
end_in text = option_map SaysEnd (answer_in text)

unfoldable pub test_in : Option Text → Option Body
test_in text = option_map SaysTest (run_in text)

-- the body of this first word, with what stands behind it
unfoldable pub with_word : Text → Text → Option Body
with_word word rest =
    if bytes_eq word (codes "do") then do_in rest
    else if bytes_eq word (codes "exo") then exo_in rest
    else if bytes_eq word (codes "sense") then sense_in rest
    else if bytes_eq word (codes "rest") then rest_in rest
    else if bytes_eq word (codes "close") then close_in rest
    else if bytes_eq word (codes "end") then end_in rest
    else None

-- the body that a text is, by its first word
unfoldable pub body_in : Text → Option Body
body_in text =
    let word = (cut 32 text).0 in
    let rest = (cut 32 text).1 in
    if bytes_eq word (codes "test") then test_in rest else option_and_then (with_word word) rest

unfoldable pub said_in : Text → Option Said
said_in line =
    let number = (cut 32 line).0 in
    if_so (is_natural number)
    (option_map (λ body. record { number = number; body = body }) (option_and_then body_in (cut 32 line).1))
