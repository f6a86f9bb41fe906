-- What a line says has the line as its text, in words of their forms.
use Rattle.std.proofs.Common.{◌≡◌, Bool, true, false, ◌&&◌, Option, Some, None, List, [], ◌∷◌, ◌++◌, length, take, drop, inl, inr, ◌⊎◌, refl, sym, ap, ◌∙◌, subst, take-append-drop}
use Rattle.std.specs.Prelude.{codes, bytes_eq, cond, find, if◌then◌else◌, option_map, option_and_then}
use Rattle.std.specs.Cmp.Lexicographic.{same_text}
use Rattle.std.specs.Option.{option_map_or}
use Rattle.std.proofs.lemmas.List.{append_assoc}
use Rattle.std.proofs.lemmas.Option.{same_Some}
use Rattle.golog_base.specs.Names.{is_name}
use Rattle.golog_semantics.specs.declared.journal.Reason.{Reason}
use Rattle.golog_semantics.specs.declared.journal.Answer.{Answer}
use Rattle.golog_semantics.specs.Text.{Text, reason_text, answer_text}
use Rattle.golog_semantics.proofs.Words.{and-both}
use Rattle.golog_reports.specs.Forms.{cut, is_natural, is_constant, is_action, is_run}
use Rattle.golog_reports.specs.Said.{Said, Body, SaysDo, SaysTest, SaysExo, SaysSense, SaysRest, SaysClose, SaysEnd, with_prefix, body_said, said_text, is_body, is_said, if_so, behind, run_in, device_in, do_in, exo_in, old_in, value_in, place_in, sense_in, rest_in, reasons, reason_in, answers, answer_in, reason_and_taken, close_in, end_in, test_in, with_word, body_in, said_in}
use Rattle.golog_reports.proofs.Marks.{marked, cut-whole}
use Rattle.golog_reports.proofs.Results.{if-so, and-then}
use Rattle.golog_reports.proofs.SaidBack.{two, three, run_behind, old_behind, device_behind, run-marked, old-marked, device-marked}
use Rattle.golog_reports.proofs.Says.{mapped}

-- what stands behind a prefix
pub behind-only : (prefix text rest : Text) → behind prefix text ≡ Some rest → text ≡ prefix ++ rest
unfolding behind
behind-only prefix text rest e =
    let b = if-so (bytes_eq (take (length prefix) text) prefix) (Some (drop (length prefix) text)) rest e in
    let front = same_text (take (length prefix) text) prefix (sym b.0) in
    let back = same_Some (drop (length prefix) text) rest b.1 in
    sym (take-append-drop (length prefix) text) ∙ (λ i. front i ++ back i)

-- a word of a form behind a prefix
record Behind (form : Text → Bool) (prefix text : Text) (word : Option Text) : Type 0 where
  one : Text
  is : word ≡ Some one
  fits : form one ≡ true
  whole : text ≡ prefix ++ one

word-behind : (form : Text → Bool) (prefix text : Text) (word : Option Text) → option_and_then (λ one. if_so (form one) (Some (Some one))) (behind prefix text) ≡ Some word
    → Behind form prefix text word
word-behind form prefix text word e =
    let r = and-then (λ one. if_so (form one) (Some (Some one))) (behind prefix text) word e in
    let b = if-so (form r.0) (Some (Some r.0)) word r.2 in
    record { one = r.0; is = sym (same_Some (Some r.0) word b.1); fits = b.0; whole = behind-only prefix text r.0 r.1 }

run-only : (o run : Option Text) → run_in o ≡ Some run → (option_map_or is_run run true ≡ true) × (o ≡ run_behind run)
unfolding run_in
run-only None run e = let same = same_Some None run e in (ap (λ r. option_map_or is_run r true) (sym same), ap run_behind same)
run-only (Some text) run e =
    let r = word-behind is_run (codes "run") text run e in
    (ap (λ x. option_map_or is_run x true) r.is ∙ r.fits, ap Some r.whole ∙ ap run_behind (sym r.is))

old-only : (o old : Option Text) → old_in o ≡ Some old → (option_map_or is_constant old true ≡ true) × (o ≡ old_behind old)
unfolding old_in
old-only None old e = let same = same_Some None old e in (ap (λ r. option_map_or is_constant r true) (sym same), ap old_behind same)
old-only (Some text) old e =
    let r = word-behind is_constant (codes "against ") text old e in
    (ap (λ x. option_map_or is_constant x true) r.is ∙ r.fits, ap Some r.whole ∙ ap old_behind (sym r.is))

-- the device that a word is, if there is one, and what stands behind it
abbrev device_at : Text → Option Text → Option Text × Option Text
device_at text word = option_map_or (λ word. (Some (cut 32 word).0, (cut 32 word).1)) word (None, Some text)

device-only : (o run : Option Text) → run_in (device_in o).1 ≡ Some run → (option_map_or is_run run true ≡ true) × (o ≡ device_behind (device_in o).0 run)
unfolding device_in
device-only None run e = run-only None run e
device-only (Some text) run e = go (behind (codes "@") text) refl e
  where
    go : (b : Option Text) → behind (codes "@") text ≡ b → run_in (device_at text b).1 ≡ Some run
        → (option_map_or is_run run true ≡ true) × (Some text ≡ device_behind (device_at text b).0 run)
    go None h e = run-only (Some text) run e
    go (Some word) h e =
        let r = run-only (cut 32 word).1 run e in
        (r.0, ap Some (behind-only (codes "@") text word h ∙ ap (λ t. 64 ∷ t) (sym (cut-whole 32 word) ∙ ap (λ o. (cut 32 word).0 ++ marked 32 o) r.1)))

-- the body has its form, and this text
abbrev Only : Text → Body → Type 0
Only text body = (is_body body ≡ true) × (body_said body ≡ text)

-- what stands behind the space
rest-is : (text rest : Text) → (cut 32 text).1 ≡ Some rest → (cut 32 text).0 ++ 32 ∷ rest ≡ text
rest-is text rest e = ap (λ o. (cut 32 text).0 ++ marked 32 o) (sym e) ∙ cut-whole 32 text

do-only : (text : Text) (body : Body) → do_in text ≡ Some body → Only (codes "do " ++ text) body
unfolding do_in
do-only text body e =
    let action = (cut 32 text).0 in
    let device = (device_in (cut 32 text).1).0 in
    let words = is_action action && option_map_or is_name device true in
    let b = if-so words (option_map (SaysDo action device) (run_in (device_in (cut 32 text).1).1)) body e in
    let m = mapped (SaysDo action device) (run_in (device_in (cut 32 text).1).1) body b.1 in
    let r = device-only (cut 32 text).1 m.0 m.1 in
    subst (Only (codes "do " ++ text)) m.2 (
      and-both words (option_map_or is_run m.0 true) b.0 r.0,
      ap (λ t. codes "do " ++ t)
          (append_assoc action (with_prefix (codes " @") device) (with_prefix (codes " run") m.0)
          ∙ ap (λ t. action ++ t) (device-marked device m.0 ∙ ap (marked 32) (sym r.1)) ∙ cut-whole 32 text),
    )

-- a device, and a word of a form behind it
pair-only : (says : Text → Text → Body) (form : Text → Bool) (name : Text)
    → ((device word : Text) → (is_body (says device word) ≡ (is_name device && form word)) × (body_said (says device word) ≡ name ++ ((device ++ codes " ") ++ word)))
    → (text : Text) (body : Body) → option_and_then (λ word. if_so (is_name (cut 32 text).0 && form word) (Some (says (cut 32 text).0 word))) (cut 32 text).1 ≡ Some body
    → Only (name ++ text) body
pair-only says form name so text body e =
    let device = (cut 32 text).0 in
    let r = and-then (λ word. if_so (is_name device && form word) (Some (says device word))) (cut 32 text).1 body e in
    let b = if-so (is_name device && form r.0) (Some (says device r.0)) body r.2 in
    subst (Only (name ++ text)) (same_Some (says device r.0) body b.1)
    ((so device r.0).0 ∙ b.0, (so device r.0).1 ∙ ap (λ t. name ++ t) (two device r.0 ∙ rest-is text r.0 r.1))

exo-only : (text : Text) (body : Body) → exo_in text ≡ Some body → Only (codes "exo " ++ text) body
unfolding exo_in
exo-only text body e = pair-only SaysExo is_action (codes "exo ") (λ device action. (refl, refl)) text body e

rest-only : (text : Text) (body : Body) → rest_in text ≡ Some body → Only (codes "rest " ++ text) body
unfolding rest_in
rest-only text body e = pair-only SaysRest is_natural (codes "rest ") (λ device taken. (refl, refl)) text body e

-- a value, and the one known before if there is one
record IsValue (device place text : Text) (body : Body) : Type 0 where
  value : Text
  old : Option Text
  constant : is_constant value ≡ true
  constants : option_map_or is_constant old true ≡ true
  is : SaysSense device place value old ≡ body
  whole : value ++ marked 32 (old_behind old) ≡ text

value-only : (device place text : Text) (body : Body) → value_in device place text ≡ Some body → IsValue device place text body
unfolding value_in
value-only device place text body e =
    let value = (cut 32 text).0 in
    let b = if-so (is_constant value) (option_map (SaysSense device place value) (old_in (cut 32 text).1)) body e in
    let m = mapped (SaysSense device place value) (old_in (cut 32 text).1) body b.1 in
    let r = old-only (cut 32 text).1 m.0 m.1 in
    record {
      value = value;
      old = m.0;
      constant = b.0;
      constants = r.0;
      is = m.2;
      whole = ap (λ o. value ++ marked 32 o) (sym r.1) ∙ cut-whole 32 text;
    }

sense-only : (text : Text) (body : Body) → sense_in text ≡ Some body → Only (codes "sense " ++ text) body
unfolding sense_in place_in
sense-only text body e =
    let device = (cut 32 text).0 in
    let b = if-so (is_name device) (option_and_then (place_in device) (cut 32 text).1) body e in
    let r = and-then (place_in device) (cut 32 text).1 body b.1 in
    let place = (cut 32 r.0).0 in
    let c = if-so (is_natural place) (option_and_then (value_in device place) (cut 32 r.0).1) body r.2 in
    let q = and-then (value_in device place) (cut 32 r.0).1 body c.1 in
    let v = value-only device place q.0 body q.2 in
    subst (Only (codes "sense " ++ text)) v.is (
      and-both (is_name device && is_natural place && is_constant v.value) (option_map_or is_constant v.old true)
          (and-both (is_name device && is_natural place) (is_constant v.value) (and-both (is_name device) (is_natural place) b.0 c.0) v.constant) v.constants,
      ap (λ t. codes "sense " ++ t)
          (append_assoc (((device ++ codes " ") ++ place) ++ codes " ") v.value (with_prefix (codes " against ") v.old)
          ∙ ap (λ t. (((device ++ codes " ") ++ place) ++ codes " ") ++ (v.value ++ t)) (old-marked v.old)
          ∙ three device place (v.value ++ marked 32 (old_behind v.old))
          ∙ ap (λ t. device ++ 32 ∷ (place ++ 32 ∷ t)) v.whole
          ∙ ap (λ t. device ++ 32 ∷ t) (rest-is r.0 q.0 q.1)
          ∙ rest-is text r.0 r.1),
    )

-- what is found passes the test
found-passes : {A : Type 0} (test : A → Bool) (xs : List A) (x : A) → find test xs ≡ Some x → test x ≡ true
found-passes test [] x e = absurd (cc)
found-passes test (y ∷ ys) x e = go (test y) refl e (found-passes test ys x)
  where
    go : (b : Bool) → test y ≡ b → cond b (Some y) (find test ys) ≡ Some x → (find test ys ≡ Some x → test x ≡ true) → test x ≡ true
    go true h e later = ap test (sym (same_Some y x e)) ∙ h
    go false h e later = later e

reason-only : (word : Text) (reason : Reason) → reason_in word ≡ Some reason → reason_text reason ≡ word
reason-only word reason e = same_text (reason_text reason) word (sym (found-passes (λ r. bytes_eq (reason_text r) word) reasons reason e))

answer-only : (word : Text) (answer : Answer) → answer_in word ≡ Some answer → answer_text answer ≡ word
answer-only word answer e = same_text (answer_text answer) word (sym (found-passes (λ a. bytes_eq (answer_text a) word) answers answer e))

close-only : (text : Text) (body : Body) → close_in text ≡ Some body → Only (codes "close " ++ text) body
unfolding close_in reason_and_taken
close-only text body e =
    let device = (cut 32 text).0 in
    let b = if-so (is_name device) (option_and_then (reason_and_taken device) (cut 32 text).1) body e in
    let r = and-then (reason_and_taken device) (cut 32 text).1 body b.1 in
    let word = (cut 32 r.0).0 in
    let q = and-then (λ reason. option_and_then (λ taken. if_so (is_natural taken) (Some (SaysClose device reason taken))) (cut 32 r.0).1) (reason_in word) body r.2 in
    let t = and-then (λ taken. if_so (is_natural taken) (Some (SaysClose device q.0 taken))) (cut 32 r.0).1 body q.2 in
    let c = if-so (is_natural t.0) (Some (SaysClose device q.0 t.0)) body t.2 in
    subst (Only (codes "close " ++ text)) (same_Some (SaysClose device q.0 t.0) body c.1) (
      and-both (is_name device) (is_natural t.0) b.0 c.0,
      ap (λ t. codes "close " ++ t)
          (three device (reason_text q.0) t.0
          ∙ ap (λ w. device ++ 32 ∷ (w ++ 32 ∷ t.0)) (reason-only word q.0 q.1)
          ∙ ap (λ t. device ++ 32 ∷ t) (rest-is r.0 t.0 t.1)
          ∙ rest-is text r.0 r.1),
    )

end-only : (text : Text) (body : Body) → end_in text ≡ Some body → Only (codes "end " ++ text) body
unfolding end_in
end-only text body e =
    let m = mapped SaysEnd (answer_in text) body e in
    subst (Only (codes "end " ++ text)) m.2 (refl, ap (λ t. codes "end " ++ t) (answer-only text m.0 m.1))

picked : {A : Type 0} (b : Bool) (one other : Option A) (x : A) → (if b then one else other) ≡ Some x → ((b ≡ true) × (one ≡ Some x)) ⊎ (other ≡ Some x)
picked true one other x e = inl (refl, e)
picked false one other x e = inr e

module _ (word rest : Text) (body : Body) where
  of-word : (name : Text) → bytes_eq word name ≡ true → Only (name ++ 32 ∷ rest) body → Only (word ++ 32 ∷ rest) body
  of-word name e only = (only.0, only.1 ∙ ap (λ w. w ++ 32 ∷ rest) (sym (same_text word name (sym e))))

  word-only : with_word word rest ≡ Some body → Only (word ++ 32 ∷ rest) body
  unfolding with_word
  word-only e = elim (picked (bytes_eq word (codes "do")) (do_in rest) _ body e) [
    | inl h ↦ of-word (codes "do") h.0 (do-only rest body h.1)
    | inr e ↦ elim (picked (bytes_eq word (codes "exo")) (exo_in rest) _ body e) [
      | inl h ↦ of-word (codes "exo") h.0 (exo-only rest body h.1)
      | inr e ↦ elim (picked (bytes_eq word (codes "sense")) (sense_in rest) _ body e) [
        | inl h ↦ of-word (codes "sense") h.0 (sense-only rest body h.1)
        | inr e ↦ elim (picked (bytes_eq word (codes "rest")) (rest_in rest) _ body e) [
          | inl h ↦ of-word (codes "rest") h.0 (rest-only rest body h.1)
          | inr e ↦ elim (picked (bytes_eq word (codes "close")) (close_in rest) _ body e) [
            | inl h ↦ of-word (codes "close") h.0 (close-only rest body h.1)
            | inr e ↦ elim (picked (bytes_eq word (codes "end")) (end_in rest) None body e) [
              | inl h ↦ of-word (codes "end") h.0 (end-only rest body h.1)
              | inr e ↦ absurd (cc)
            ]
          ]
        ]
      ]
    ]
  ]

pub body-only : (text : Text) (body : Body) → body_in text ≡ Some body → (is_body body ≡ true) × (body_said body ≡ text)
unfolding body_in test_in
body-only text body e =
    elim (picked (bytes_eq (cut 32 text).0 (codes "test")) (option_map SaysTest (run_in (cut 32 text).1)) (option_and_then (with_word (cut 32 text).0) (cut 32 text).1) body e) [
      | inl h ↦
          let m = mapped SaysTest (run_in (cut 32 text).1) body h.1 in
          let r = run-only (cut 32 text).1 m.0 m.1 in
          subst (Only text) m.2 (
            r.0,
            ap (λ t. codes "test" ++ t) (run-marked m.0 ∙ ap (marked 32) (sym r.1))
                ∙ ap (λ w. w ++ marked 32 (cut 32 text).1) (sym (same_text (cut 32 text).0 (codes "test") (sym h.0)))
                ∙ cut-whole 32 text,
          )
      | inr h ↦
          let r = and-then (with_word (cut 32 text).0) (cut 32 text).1 body h in
          let only = word-only (cut 32 text).0 r.0 body r.2 in
          (only.0, only.1 ∙ rest-is text r.0 r.1)
    ]

pub said-only : (line : Text) (said : Said) → said_in line ≡ Some said → (is_said said ≡ true) × (said_text said ≡ line)
unfolding said_in
said-only line said e =
    let number = (cut 32 line).0 in
    let whole : Body → Said = λ body. record { number = number; body = body } in
    let b = if-so (is_natural number) (option_map whole (option_and_then body_in (cut 32 line).1)) said e in
    let m = mapped whole (option_and_then body_in (cut 32 line).1) said b.1 in
    let r = and-then body_in (cut 32 line).1 m.0 m.1 in
    let only = body-only r.0 m.0 r.2 in
    subst (λ (s : Said). (is_said s ≡ true) × (said_text s ≡ line)) m.2 (
      and-both (is_natural number) (is_body m.0) b.0 only.0,
      two number (body_said m.0) ∙ ap (λ t. number ++ 32 ∷ t) only.1 ∙ rest-is line r.0 r.1,
    )
