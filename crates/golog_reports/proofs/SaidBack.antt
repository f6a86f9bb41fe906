-- A line that is the text of what a line may say says it.
use Rattle.std.proofs.Common.{◌≡◌, Bool, true, ◌&&◌, Option, Some, None, ◌∷◌, ◌++◌, refl, ap, ◌∙◌}
use Rattle.std.specs.Prelude.{codes, bytes_eq, if◌then◌else◌, option_map, option_and_then}
use Rattle.std.specs.Option.{option_map_or}
use Rattle.std.proofs.lemmas.List.{append_assoc}
use Rattle.golog_base.specs.Names.{is_name}
use Rattle.golog_semantics.specs.declared.journal.Reason.{Reason}
use Rattle.golog_semantics.specs.declared.journal.Reason.TheVariants.{Ended}
use Rattle.golog_semantics.specs.declared.journal.Answer.{Answer}
use Rattle.golog_semantics.specs.declared.journal.Answer.TheVariants.{Done}
use Rattle.golog_semantics.specs.Text.{Text, reason_text, answer_text}
use Rattle.golog_semantics.proofs.Words.{and-both, and-left, and-right}
use Rattle.golog_reports.specs.Forms.{cut, is_natural, is_constant, is_action, is_run}
use Rattle.golog_reports.specs.Said.{Said, Body, SaysDo, SaysTest, SaysExo, SaysSense, SaysRest, SaysClose, SaysEnd, with_prefix, body_said, said_text, is_body, is_said, if_so, behind, run_in, device_in, do_in, exo_in, old_in, value_in, place_in, sense_in, rest_in, reason_in, reason_and_taken, close_in, end_in, test_in, with_word, body_in, said_in}
use Rattle.golog_reports.proofs.Marks.{marked, cut-marked}
use Rattle.golog_reports.proofs.WordBytes.{reason-lacks, name-lacks, natural-lacks, constant-lacks, action-lacks}

-- a word and what stands behind the space after it
pub two : (word rest : Text) → (word ++ codes " ") ++ rest ≡ word ++ 32 ∷ rest
two word rest = append_assoc word (codes " ") rest

pub three : (one other rest : Text) → ((((one ++ codes " ") ++ other) ++ codes " ") ++ rest) ≡ one ++ 32 ∷ (other ++ 32 ∷ rest)
three one other rest = two ((one ++ codes " ") ++ other) rest ∙ append_assoc (one ++ codes " ") other (32 ∷ rest) ∙ two one (other ++ 32 ∷ rest)

-- what stands behind the space before a run, before `against`, and before a device
abbrev pub run_behind : Option Text → Option Text
run_behind run = option_map (λ r. codes "run" ++ r) run

abbrev pub old_behind : Option Text → Option Text
old_behind old = option_map (λ o. codes "against " ++ o) old

abbrev pub device_behind : Option Text → Option Text → Option Text
device_behind None run = run_behind run
device_behind (Some device) run = Some (64 ∷ (device ++ marked 32 (run_behind run)))

pub run-marked : (run : Option Text) → with_prefix (codes " run") run ≡ marked 32 (run_behind run)
run-marked None = refl
run-marked (Some r) = refl

pub old-marked : (old : Option Text) → with_prefix (codes " against ") old ≡ marked 32 (old_behind old)
old-marked None = refl
old-marked (Some o) = refl

pub device-marked : (device run : Option Text) → with_prefix (codes " @") device ++ with_prefix (codes " run") run ≡ marked 32 (device_behind device run)
device-marked None run = run-marked run
device-marked (Some device) run = ap (λ t. 32 ∷ 64 ∷ (device ++ t)) (run-marked run)

-- a test that holds lets the answer pass
pub passed : {A : Type 0} (b : Bool) (answer : Option A) → b ≡ true → if_so b answer ≡ answer
passed b answer h = ap (λ c. if_so c answer) h

run-back : (run : Option Text) → option_map_or is_run run true ≡ true → run_in (run_behind run) ≡ Some run
unfolding run_in behind
run-back None h = refl
run-back (Some r) h = passed (is_run r) (Some (Some r)) h

old-back : (old : Option Text) → option_map_or is_constant old true ≡ true → old_in (old_behind old) ≡ Some old
unfolding old_in behind
old-back None h = refl
old-back (Some o) h = passed (is_constant o) (Some (Some o)) h

device-back : (device run : Option Text) → option_map_or is_name device true ≡ true → device_in (device_behind device run) ≡ (device, run_behind run)
unfolding device_in behind
device-back None None h = refl
device-back None (Some r) h = refl
device-back (Some device) run h = ap (λ (c : Text × Option Text). (Some c.0, c.1)) (cut-marked 32 device (run_behind run) (name-lacks 32 refl device h))

abbrev do_at : Text × Option Text → Option Body
do_at (action, rest) =
    if_so (is_action action && option_map_or is_name (device_in rest).0 true)
    (option_map (SaysDo action (device_in rest).0) (run_in (device_in rest).1))

do-back : (action : Text) (device run : Option Text) → is_action action ≡ true → option_map_or is_name device true ≡ true → option_map_or is_run run true ≡ true
    → do_in ((action ++ with_prefix (codes " @") device) ++ with_prefix (codes " run") run) ≡ Some (SaysDo action device run)
unfolding do_in
do-back action device run h k r =
    ap do_in (append_assoc action (with_prefix (codes " @") device) (with_prefix (codes " run") run) ∙ ap (λ t. action ++ t) (device-marked device run))
    ∙ ap do_at (cut-marked 32 action (device_behind device run) (action-lacks 32 refl action h))
    ∙ ap (λ (d : Option Text × Option Text). if_so (is_action action && option_map_or is_name d.0 true) (option_map (SaysDo action d.0) (run_in d.1))) (device-back device run k)
    ∙ passed (is_action action && option_map_or is_name device true) (option_map (SaysDo action device) (run_in (run_behind run))) (and-both (is_action action) (option_map_or is_name device true) h k)
    ∙ ap (option_map (SaysDo action device)) (run-back run r)

-- a device, and a word of a form behind it
abbrev pair_at : (Text → Text → Body) → (Text → Bool) → Text × Option Text → Option Body
pair_at says form (device, rest) = option_and_then (λ word. if_so (is_name device && form word) (Some (says device word))) rest

pair-back : (says : Text → Text → Body) (form : Text → Bool) (device word : Text) → is_name device ≡ true → form word ≡ true
    → pair_at says form (cut 32 ((device ++ codes " ") ++ word)) ≡ Some (says device word)
pair-back says form device word h k =
    ap (λ t. pair_at says form (cut 32 t)) (two device word)
    ∙ ap (pair_at says form) (cut-marked 32 device (Some word) (name-lacks 32 refl device h))
    ∙ passed (is_name device && form word) (Some (says device word)) (and-both (is_name device) (form word) h k)

exo-back : (device action : Text) → is_name device ≡ true → is_action action ≡ true → exo_in ((device ++ codes " ") ++ action) ≡ Some (SaysExo device action)
unfolding exo_in
exo-back device action h k = pair-back SaysExo is_action device action h k

abbrev value_at : Text → Text → Text × Option Text → Option Body
value_at device place (value, rest) = if_so (is_constant value) (option_map (SaysSense device place value) (old_in rest))

value-back : (device place value : Text) (old : Option Text) → is_constant value ≡ true → option_map_or is_constant old true ≡ true
    → value_in device place (value ++ marked 32 (old_behind old)) ≡ Some (SaysSense device place value old)
unfolding value_in
value-back device place value old h k =
    ap (value_at device place) (cut-marked 32 value (old_behind old) (constant-lacks 32 refl value h))
    ∙ passed (is_constant value) (option_map (SaysSense device place value) (old_in (old_behind old))) h
    ∙ ap (option_map (SaysSense device place value)) (old-back old k)

abbrev place_at : Text → Text × Option Text → Option Body
place_at device (place, rest) = if_so (is_natural place) (option_and_then (value_in device place) rest)

abbrev sense_at : Text × Option Text → Option Body
sense_at (device, rest) = if_so (is_name device) (option_and_then (place_in device) rest)

sense-back : (device place value : Text) (old : Option Text) → is_name device ≡ true → is_natural place ≡ true → is_constant value ≡ true → option_map_or is_constant old true ≡ true
    → sense_in (((((device ++ codes " ") ++ place) ++ codes " ") ++ value) ++ with_prefix (codes " against ") old) ≡ Some (SaysSense device place value old)
unfolding sense_in place_in
sense-back device place value old h k m n =
    let rest = value ++ marked 32 (old_behind old) in
    ap sense_in (append_assoc (((device ++ codes " ") ++ place) ++ codes " ") value (with_prefix (codes " against ") old)
    ∙ ap (λ t. (((device ++ codes " ") ++ place) ++ codes " ") ++ (value ++ t)) (old-marked old) ∙ three device place rest)
    ∙ ap sense_at (cut-marked 32 device (Some (place ++ 32 ∷ rest)) (name-lacks 32 refl device h))
    ∙ passed (is_name device) (place_in device (place ++ 32 ∷ rest)) h
    ∙ ap (place_at device) (cut-marked 32 place (Some rest) (natural-lacks 32 refl place k))
    ∙ passed (is_natural place) (value_in device place rest) k
    ∙ value-back device place value old m n

rest-back : (device taken : Text) → is_name device ≡ true → is_natural taken ≡ true → rest_in ((device ++ codes " ") ++ taken) ≡ Some (SaysRest device taken)
unfolding rest_in
rest-back device taken h k = pair-back SaysRest is_natural device taken h k

abbrev reason_at : Text → Text × Option Text → Option Body
reason_at device (word, rest) = option_and_then (λ reason. option_and_then (λ taken. if_so (is_natural taken) (Some (SaysClose device reason taken))) rest) (reason_in word)

abbrev close_at : Text × Option Text → Option Body
close_at (device, rest) = if_so (is_name device) (option_and_then (reason_and_taken device) rest)

reason-back : (reason : Reason) → reason_in (reason_text reason) ≡ Some reason
reason-back Ended = refl
reason-back _ = refl

close-back : (device : Text) (reason : Reason) (taken : Text) → is_name device ≡ true → is_natural taken ≡ true
    → close_in ((((device ++ codes " ") ++ reason_text reason) ++ codes " ") ++ taken) ≡ Some (SaysClose device reason taken)
unfolding close_in reason_and_taken
close-back device reason taken h k =
    let rest = reason_text reason ++ 32 ∷ taken in
    ap close_in (three device (reason_text reason) taken)
    ∙ ap close_at (cut-marked 32 device (Some rest) (name-lacks 32 refl device h))
    ∙ passed (is_name device) (reason_and_taken device rest) h
    ∙ ap (reason_at device) (cut-marked 32 (reason_text reason) (Some taken) (reason-lacks reason).1)
    ∙ ap (option_and_then (λ r. if_so (is_natural taken) (Some (SaysClose device r taken)))) (reason-back reason)
    ∙ passed (is_natural taken) (Some (SaysClose device reason taken)) k

answer-back : (answer : Answer) → end_in (answer_text answer) ≡ Some (SaysEnd answer)
unfolding end_in
answer-back Done = refl
answer-back _ = refl

abbrev body_at : Text × Option Text → Option Body
body_at (word, rest) = if bytes_eq word (codes "test") then test_in rest else option_and_then (with_word word) rest

pub body-back : (body : Body) → is_body body ≡ true → body_in (body_said body) ≡ Some body
unfolding body_in with_word test_in
body-back (SaysDo action device run) h =
    let both = and-left (is_action action && option_map_or is_name device true) (option_map_or is_run run true) h in
    ap body_at (cut-marked 32 (codes "do") (Some ((action ++ with_prefix (codes " @") device) ++ with_prefix (codes " run") run)) refl)
    ∙ do-back action device run (and-left (is_action action) (option_map_or is_name device true) both) (and-right (is_action action) (option_map_or is_name device true) both)
    (and-right (is_action action && option_map_or is_name device true) (option_map_or is_run run true) h)
body-back (SaysTest run) h =
    ap (λ t. body_in (codes "test" ++ t)) (run-marked run)
    ∙ ap body_at (cut-marked 32 (codes "test") (run_behind run) refl)
    ∙ ap (option_map SaysTest) (run-back run h)
body-back (SaysExo device action) h =
    ap body_at (cut-marked 32 (codes "exo") (Some ((device ++ codes " ") ++ action)) refl)
    ∙ exo-back device action (and-left (is_name device) (is_action action) h) (and-right (is_name device) (is_action action) h)
body-back (SaysSense device place value old) h =
    let three = and-left (is_name device && is_natural place && is_constant value) (option_map_or is_constant old true) h in
    let both = and-left (is_name device && is_natural place) (is_constant value) three in
    ap body_at (cut-marked 32 (codes "sense") (Some (((((device ++ codes " ") ++ place) ++ codes " ") ++ value) ++ with_prefix (codes " against ") old)) refl)
    ∙ sense-back device place value old (and-left (is_name device) (is_natural place) both) (and-right (is_name device) (is_natural place) both)
    (and-right (is_name device && is_natural place) (is_constant value) three) (and-right (is_name device && is_natural place && is_constant value) (option_map_or is_constant old true) h)
body-back (SaysRest device taken) h =
    ap body_at (cut-marked 32 (codes "rest") (Some ((device ++ codes " ") ++ taken)) refl)
    ∙ rest-back device taken (and-left (is_name device) (is_natural taken) h) (and-right (is_name device) (is_natural taken) h)
body-back (SaysClose device reason taken) h =
    ap body_at (cut-marked 32 (codes "close") (Some ((((device ++ codes " ") ++ reason_text reason) ++ codes " ") ++ taken)) refl)
    ∙ close-back device reason taken (and-left (is_name device) (is_natural taken) h) (and-right (is_name device) (is_natural taken) h)
body-back (SaysEnd answer) h = ap body_at (cut-marked 32 (codes "end") (Some (answer_text answer)) refl) ∙ answer-back answer

abbrev line_at : Text × Option Text → Option Said
line_at (number, rest) =
    if_so (is_natural number) (option_map (λ body. record { number = number; body = body }) (option_and_then body_in rest))

pub said-back : (said : Said) → is_said said ≡ true → said_in (said_text said) ≡ Some said
unfolding said_in
said-back said h =
    let natural = and-left (is_natural said.number) (is_body said.body) h in
    ap said_in (two said.number (body_said said.body))
    ∙ ap line_at (cut-marked 32 said.number (Some (body_said said.body)) (natural-lacks 32 refl said.number natural))
    ∙ passed (is_natural said.number) (option_map (λ body. record { number = said.number; body = body }) (body_in (body_said said.body))) natural
    ∙ ap (option_map (λ body. record { number = said.number; body = body })) (body-back said.body (and-right (is_natural said.number) (is_body said.body) h))
