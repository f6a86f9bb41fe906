-- What a line says has no line feed in its text.
use Rattle.std.proofs.Common.{◌≡◌, Bool, true, ◌&&◌, Option, Some, None, ◌++◌, refl}
use Rattle.std.specs.Prelude.{codes}
use Rattle.std.specs.Option.{option_map_or}
use Rattle.golog_base.specs.Names.{is_name}
use Rattle.golog_semantics.specs.declared.journal.Reason.{Reason}
use Rattle.golog_semantics.specs.declared.journal.Answer.{Answer}
use Rattle.golog_semantics.specs.declared.journal.Answer.TheVariants.{Done, Stuck, Unknown, Depth, Fuel, Unanswered, Full as AnswerFull, Deep, Memory}
use Rattle.golog_semantics.specs.Text.{Text, reason_text, answer_text}
use Rattle.golog_semantics.proofs.Words.{and-left, and-right}
use Rattle.golog_reports.specs.Forms.{is_natural, is_constant, is_action, is_run}
use Rattle.golog_reports.specs.Said.{Said, Body, SaysDo, SaysTest, SaysExo, SaysSense, SaysRest, SaysClose, SaysEnd, with_prefix, body_said, said_text, is_body, is_said}
use Rattle.golog_reports.proofs.Marks.{Lacks, lacks-both}
use Rattle.golog_reports.proofs.WordBytes.{name-lacks, natural-lacks, constant-lacks, action-lacks, run-lacks, reason-lacks}

prefix-lacks : (form : Text → Bool) → ((text : Text) → form text ≡ true → Lacks 10 text) → (prefix : Text) → Lacks 10 prefix → (o : Option Text) → option_map_or form o true ≡ true → Lacks 10 (with_prefix prefix o)
prefix-lacks form each prefix h None k = refl
prefix-lacks form each prefix h (Some text) k = lacks-both 10 prefix text h (each text k)

-- a text, a space and another text
spaced : (text other : Text) → Lacks 10 text → Lacks 10 other → Lacks 10 ((text ++ codes " ") ++ other)
spaced text other h k = lacks-both 10 (text ++ codes " ") other (lacks-both 10 text (codes " ") h refl) k

answer-lacks : (answer : Answer) → Lacks 10 (codes "end " ++ answer_text answer)
answer-lacks Done = refl
answer-lacks _ = refl

body-lacks : (body : Body) → is_body body ≡ true → Lacks 10 (body_said body)
body-lacks (SaysDo action device run) h =
    let both = and-left (is_action action && option_map_or is_name device true) (option_map_or is_run run true) h in
    lacks-both 10 (codes "do " ++ action ++ with_prefix (codes " @") device) (with_prefix (codes " run") run)
    (lacks-both 10 (codes "do " ++ action) (with_prefix (codes " @") device)
    (lacks-both 10 (codes "do ") action refl (action-lacks 10 refl action (and-left (is_action action) (option_map_or is_name device true) both)))
    (prefix-lacks is_name (name-lacks 10 refl) (codes " @") refl device (and-right (is_action action) (option_map_or is_name device true) both)))
    (prefix-lacks is_run (run-lacks 10 refl) (codes " run") refl run (and-right (is_action action && option_map_or is_name device true) (option_map_or is_run run true) h))
body-lacks (SaysTest run) h = lacks-both 10 (codes "test") (with_prefix (codes " run") run) refl (prefix-lacks is_run (run-lacks 10 refl) (codes " run") refl run h)
body-lacks (SaysExo device action) h =
    spaced (codes "exo " ++ device) action (lacks-both 10 (codes "exo ") device refl (name-lacks 10 refl device (and-left (is_name device) (is_action action) h)))
    (action-lacks 10 refl action (and-right (is_name device) (is_action action) h))
body-lacks (SaysSense device place value old) h =
    let all = and-left (is_name device && is_natural place && is_constant value) (option_map_or is_constant old true) h in
    let both = and-left (is_name device && is_natural place) (is_constant value) all in
    lacks-both 10 (codes "sense " ++ device ++ codes " " ++ place ++ codes " " ++ value) (with_prefix (codes " against ") old)
    (spaced (codes "sense " ++ device ++ codes " " ++ place) value
    (spaced (codes "sense " ++ device) place (lacks-both 10 (codes "sense ") device refl (name-lacks 10 refl device (and-left (is_name device) (is_natural place) both))) (natural-lacks 10 refl place (and-right (is_name device) (is_natural place) both)))
    (constant-lacks 10 refl value (and-right (is_name device && is_natural place) (is_constant value) all)))
    (prefix-lacks is_constant (constant-lacks 10 refl) (codes " against ") refl old (and-right (is_name device && is_natural place && is_constant value) (option_map_or is_constant old true) h))
body-lacks (SaysRest device taken) h =
    spaced (codes "rest " ++ device) taken (lacks-both 10 (codes "rest ") device refl (name-lacks 10 refl device (and-left (is_name device) (is_natural taken) h)))
    (natural-lacks 10 refl taken (and-right (is_name device) (is_natural taken) h))
body-lacks (SaysClose device reason taken) h =
    spaced (codes "close " ++ device ++ codes " " ++ reason_text reason) taken
    (spaced (codes "close " ++ device) (reason_text reason) (lacks-both 10 (codes "close ") device refl (name-lacks 10 refl device (and-left (is_name device) (is_natural taken) h))) (reason-lacks reason).0)
    (natural-lacks 10 refl taken (and-right (is_name device) (is_natural taken) h))
body-lacks (SaysEnd answer) h = answer-lacks answer

pub said-lacks : (said : Said) → is_said said ≡ true → Lacks 10 (said_text said)
said-lacks said h =
    spaced said.number (body_said said.body) (natural-lacks 10 refl said.number (and-left (is_natural said.number) (is_body said.body) h))
    (body-lacks said.body (and-right (is_natural said.number) (is_body said.body) h))
