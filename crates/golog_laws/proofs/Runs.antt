-- Different labels, runs, numbers, reasons and answers have different texts, whatever follows.
use Rattle.std.proofs.Common.{◌≡◌, ℕ, ◌<◌, ◌^◌, true, if◌then◌else◌, List, [], ◌∷◌, ◌++◌, refl, sym, ap, ◌∙◌, Some, None, Option}
use Rattle.std.specs.Prelude.{⊤, codes, decimal}
use Rattle.std.specs.List.{flat_map}
use Rattle.std.proofs.lemmas.List.{append_assoc}
use Rattle.std.proofs.lemmas.Fmt.{decimal_injective}
use Rattle.golog_base.specs.Names.{begins_name, is_name}
use Rattle.golog_tree.specs.declared.agent.Agent.{Agent}
use Rattle.golog_tree.specs.declared.prog.Label.{Label}
use Rattle.golog_tree.specs.declared.prog.Label.TheVariants.{Quiet, Do as Doing}
use Rattle.golog_semantics.specs.declared.journal.Reason.{Reason}
use Rattle.golog_semantics.specs.declared.journal.Reason.TheVariants.{Ended, Bad, Full, Late, Stopped, Refused}
use Rattle.golog_semantics.specs.declared.journal.Answer.{Answer}
use Rattle.golog_semantics.specs.declared.journal.Answer.TheVariants.{Done, Stuck, Unknown, Depth, Fuel, Unanswered, Full as AnswerFull, Deep, Memory}
use Rattle.golog_semantics.specs.Same.{same_values}
use Rattle.golog_semantics.specs.Text.{Text, reason_text, answer_text, action_text, args_text, label_text, run_text}
use Rattle.golog_semantics.specs.ReportLaws.{TellsApart}
use Rattle.golog_semantics.proofs.Words.{IsWord, Stops, and-left, decimal-word}
use Rattle.golog_semantics.proofs.Names.{Tells, words_tell}
use Rattle.golog_semantics.proofs.ActionNames.{HasAction, action_text-is, is-named, action_tells}
use Rattle.golog_semantics.proofs.Fits.{HasLabel, HaveLabels, HasRun}

pub decimal_tells : Tells decimal (λ n. n < 2 ^ 64) Stops
decimal_tells = words_tell decimal (λ n. n < 2 ^ 64) decimal-word (λ a b h k e. decimal_injective a b h k e)

reason-word : (r : Reason) → ⊤ → IsWord (reason_text r)
reason-word Ended _ = refl
reason-word _ _ = refl

-- the reason with this text
reason_of : Text → Reason
reason_of t =
    if same_values t (codes "ended") then Ended
    else (if same_values t (codes "bad") then Bad
    else (if same_values t (codes "full") then Full
    else (if same_values t (codes "late") then Late
    else (if same_values t (codes "stopped") then Stopped else Refused))))

reason-back : (r : Reason) → reason_of (reason_text r) ≡ r
unfolding reason_of
reason-back Ended = refl
reason-back _ = refl

reason-same : (r q : Reason) → ⊤ → ⊤ → reason_text r ≡ reason_text q → r ≡ q
reason-same r q h k e = sym (reason-back r) ∙ ap reason_of e ∙ reason-back q

pub reason_tells : Tells reason_text (λ _. ⊤) Stops
reason_tells = words_tell reason_text (λ _. ⊤) reason-word reason-same

answer-word : (a : Answer) → ⊤ → IsWord (answer_text a)
answer-word Done _ = refl
answer-word _ _ = refl

-- the answer with this text
answer_of : Text → Answer
answer_of t =
    if same_values t (codes "done") then Done
    else (if same_values t (codes "stuck") then Stuck
    else (if same_values t (codes "unknown") then Unknown
    else (if same_values t (codes "depth") then Depth
    else (if same_values t (codes "fuel") then Fuel
    else (if same_values t (codes "unanswered") then Unanswered
    else (if same_values t (codes "full") then AnswerFull
    else (if same_values t (codes "deep") then Deep else Memory)))))))

answer-back : (a : Answer) → answer_of (answer_text a) ≡ a
unfolding answer_of
answer-back Done = refl
answer-back _ = refl

answer-same : (a b : Answer) → ⊤ → ⊤ → answer_text a ≡ answer_text b → a ≡ b
answer-same a b h k e = sym (answer-back a) ∙ ap answer_of e ∙ answer-back b

pub answer_tells : Tells answer_text (λ _. ⊤) Stops
answer_tells = words_tell answer_text (λ _. ⊤) answer-word answer-same

-- no name begins with a dash
no_dash : (name s t : Text) → is_name name ≡ true → 45 ∷ s ≡ name ++ t → ⊥
no_dash [] s t h e = cc
no_dash (b ∷ bytes) s t h e = let f : 45 ≡ b = cc in let g : begins_name b ≡ true = and-left (begins_name b) _ h in cc (ap begins_name f)

module _ (agent : Agent) (apart : TellsApart agent) where
  not_quiet : (action : ℕ) (s t : Text) → HasAction agent action → 45 ∷ s ≡ action_text agent action ++ t → ⊥
  not_quiet action s t has e =
      no_dash has.item.name s (args_text agent has.item.args has.args ++ t) (is-named agent apart action has)
      (e ∙ ap (λ x. x ++ t) (action_text-is agent apart action has) ∙ append_assoc has.item.name (args_text agent has.item.args has.args) t)

  label_tells : Tells (label_text agent) (HasLabel agent) Stops
  label_tells Quiet Quiet s t h k f g e = (refl, cc)
  label_tells Quiet (Doing b) s t h k f g e = absurd (not_quiet b s t k e)
  label_tells (Doing a) Quiet s t h k f g e = absurd (not_quiet a t s h (sym e))
  label_tells (Doing a) (Doing b) s t h k f g e = let r = action_tells agent apart a b s t h k f g e in (ap Doing r.0, r.1)

  -- the labels after the first
  abbrev behind : List Label → Text
  behind labels = flat_map (λ y. codes "; " ++ label_text agent y) labels

  stops_behind : (ls : List Label) (s : Text) → Stops (behind ls ++ 10 ∷ s)
  stops_behind [] s = refl
  stops_behind (l ∷ ls) s = refl

  first_label : (l k : Label) (ls ks : List Label) (s t : Text) → HasLabel agent l → HasLabel agent k
      → (behind ls ++ 10 ∷ s ≡ behind ks ++ 10 ∷ t → (ls ≡ ks) × (s ≡ t))
      → (label_text agent l ++ behind ls) ++ 10 ∷ s ≡ (label_text agent k ++ behind ks) ++ 10 ∷ t → (l ∷ ls ≡ k ∷ ks) × (s ≡ t)
  first_label l k ls ks s t f g later e =
      let one = label_tells l k (behind ls ++ 10 ∷ s) (behind ks ++ 10 ∷ t) f g (stops_behind ls s) (stops_behind ks t)
      (sym (append_assoc (label_text agent l) (behind ls) (10 ∷ s)) ∙ e ∙ append_assoc (label_text agent k) (behind ks) (10 ∷ t)) in
      let rest = later one.1 in
      (λ i. one.0 i ∷ rest.0 i, rest.1)

  labels_tell : (ls ks : List Label) (s t : Text) → HaveLabels agent ls → HaveLabels agent ks
      → behind ls ++ 10 ∷ s ≡ behind ks ++ 10 ∷ t → (ls ≡ ks) × (s ≡ t)
  labels_tell [] [] s t f g e = (refl, cc)
  labels_tell [] (k ∷ ks) s t f g e = absurd (cc)
  labels_tell (l ∷ ls) [] s t f g e = absurd (cc)
  labels_tell (l ∷ ls) (k ∷ ks) s t f g e = first_label l k ls ks s t f.0 g.0 (labels_tell ls ks s t f.1 g.1) (cc)

  pub run_tells : (r q : Option (List Label)) (s t : Text) → HasRun agent r → HasRun agent q → run_text agent r ++ 10 ∷ s ≡ run_text agent q ++ 10 ∷ t → (r ≡ q) × (s ≡ t)
  run_tells None None s t h k e = (refl, cc)
  run_tells None (Some []) s t h k e = absurd k
  run_tells None (Some (l ∷ ls)) s t h k e = absurd (cc)
  run_tells (Some []) q s t h k e = absurd h
  run_tells (Some (l ∷ ls)) None s t h k e = absurd (cc)
  run_tells (Some (l ∷ ls)) (Some []) s t h k e = absurd k
  run_tells (Some (l ∷ ls)) (Some (k ∷ ks)) s t f g e =
      let r = first_label l k ls ks s t f.0 g.0 (labels_tell ls ks s t f.1 g.1) (cc) in (ap Some r.0, r.1)
