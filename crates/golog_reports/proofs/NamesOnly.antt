-- What is named in a line has the words of the line.
use Rattle.std.proofs.Common.{◌≡◌, ℕ, ◌<◌, Bool, true, false, not, cond, ◌&&◌, ◌==◌, Option, Some, None, List, [], ◌∷◌, ◌++◌, length, get_or, map, refl, sym, ap, ◌∙◌, subst, arith, append-nil}
use Rattle.std.specs.Prelude.{bytes_eq, codes, decimal, drop, is_some, nat_lt, option_map, option_and_then, unwrap_or}
use Rattle.std.specs.Cmp.Lexicographic.{same_text}
use Rattle.std.specs.List.{join_with_byte, list_all, position_or_len}
use Rattle.std.specs.Option.{option_map_or}
use Rattle.std.proofs.lemmas.Bool.{eqb-true, leb-true, lt-ltb, ltb-true}
use Rattle.std.proofs.lemmas.List.{append_assoc}
use Rattle.std.proofs.lemmas.List.Splits.{join_with_byte-slice_split, length-slice_split}
use Rattle.std.proofs.lemmas.List.Sums.{passes_at_first}
use Rattle.std.proofs.lemmas.Option.{same_Some}
use Rattle.golog_base.specs.Names.{is_name}
use Rattle.golog_base.specs.Numbers.{amount}
use Rattle.golog_tree.specs.declared.agent.Agent.{Agent}
use Rattle.golog_tree.specs.declared.prog.Label.{Label}
use Rattle.golog_tree.specs.declared.prog.Label.TheVariants.{Quiet, Do as Doing}
use Rattle.golog_tree.specs.Ground.{action_args, ground_count, ground_fluents, sort_size}
use Rattle.golog_semantics.specs.declared.journal.Entry.{Entry}
use Rattle.golog_semantics.specs.declared.journal.Entry.TheVariants.{Do, Test, Exo, Sense, Rest, Close, End}
use Rattle.golog_semantics.specs.Journal.{Journal, device_of}
use Rattle.golog_semantics.specs.Reports.{is_exogenous, is_own, place_limit}
use Rattle.golog_semantics.specs.Text.{Text, action_text, constant_text, device_text, label_text, value_text}
use Rattle.golog_semantics.specs.Values.{fluent_sort}
use Rattle.golog_semantics.specs.WellFormed.{WellFormed}
use Rattle.golog_semantics.proofs.SortsStay.{has_at}
use Rattle.golog_semantics.proofs.Words.{and-both, and-left, and-right}
use Rattle.golog_reports.specs.declared.reading.Line.{Line}
use Rattle.golog_reports.specs.Forms.{is_action, is_constant, is_label, is_natural, is_run, is_step, parts}
use Rattle.golog_reports.specs.Reads.{Named, Told, Result, action_named, constant_named, device_named, do_named, exo_named, has_small, is_agents_constant, is_sent_to, is_small, label_named, labels_named, line_named, named, own_action, posted_action, result_in, result_named, run_named, sensed_at, value_named}
use Rattle.golog_reports.specs.ReadsAs.{MayStand}
use Rattle.golog_reports.specs.Said.{Body, SaysDo, SaysTest, SaysExo, SaysSense, SaysRest, SaysClose, SaysEnd, if_so, is_body}
use Rattle.golog_reports.proofs.Decimals.{decimal-amount}
use Rattle.golog_reports.proofs.EntryBodies.{bare, body_of_entry, run_words, step_text}
use Rattle.golog_reports.proofs.FirstNamed.{named-has}
use Rattle.golog_reports.proofs.OwnWords.{joined-is, stands-at}
use Rattle.golog_reports.proofs.Results.{and-then, if-so, sensed_inside}
use Rattle.golog_reports.proofs.Says.{mapped}

-- the body that names these things, a result's values in their own words
abbrev pub body_of_named : Agent → Named → Body
body_of_named agent (Told e run) = body_of_entry agent run None e
body_of_named agent (Result device place value old) = SaysSense (device_text agent device) (decimal place) value old

module _ (agent : Agent) where
  device-only : (name : Text) (device : ℕ) → device_named agent name ≡ Some device → device_text agent device ≡ name
  device-only name device e = go (nat_lt (position_or_len is_name_of agent.devices) (length agent.devices)) refl e
    where
      is_name_of : Text → Bool
      is_name_of n = bytes_eq n name

      go : (b : Bool) → nat_lt (position_or_len (λ n. bytes_eq n name) agent.devices) (length agent.devices) ≡ b → cond b (Some (position_or_len (λ n. bytes_eq n name) agent.devices)) None ≡ Some device
          → device_text agent device ≡ name
      go false less e = absurd (cc)
      go true less e =
          let same = same_Some (position_or_len (λ n. bytes_eq n name) agent.devices) device e in
          let low = ltb-true (position_or_len (λ n. bytes_eq n name) agent.devices) (length agent.devices) less in
          let r = has_at agent.devices device (omega (arith, same, low)) in
          let passes : bytes_eq r.item name ≡ true =
          ap (λ n. bytes_eq n name) (sym (stands-at agent.devices device r.item r.item r.is))
          ∙ ap (λ i. bytes_eq (get_or agent.devices i r.item) name) (sym same) ∙ passes_at_first (λ n. bytes_eq n name) agent.devices r.item low in
          ap (λ o. unwrap_or o []) r.is ∙ same_text r.item name (sym passes)

  tested-only : (test : ℕ → Bool) (text : Text) (action : ℕ) → option_and_then (λ a. if_so (test a) (Some a)) (action_named agent text) ≡ Some action → action_text agent action ≡ text
  tested-only test text action e =
      let r = and-then (λ a. if_so (test a) (Some a)) (action_named agent text) action e in
      let b = if-so (test r.0) (Some r.0) action r.2 in
      ap (action_text agent) (sym (same_Some r.0 action b.1)) ∙ (named-has (ground_count agent (action_args agent)) (action_text agent) text r.0 r.1).1

  own-only : (text : Text) (action : ℕ) → own_action agent text ≡ Some action → action_text agent action ≡ text
  unfolding own_action
  own-only text action e = tested-only (is_own agent) text action e

  posted-only : (text : Text) (action : ℕ) → posted_action agent text ≡ Some action → action_text agent action ≡ text
  unfolding posted_action
  posted-only text action e = tested-only (is_exogenous agent) text action e

  -- runs
  label-only : (text : Text) (label : Label) → label_named agent text ≡ Some label → label_text agent label ≡ text
  unfolding label_named
  label-only text label e = go (bytes_eq text (codes "-")) refl e
    where
      go : (b : Bool) → bytes_eq text (codes "-") ≡ b → cond b (Some Quiet) (option_map Doing (own_action agent text)) ≡ Some label → label_text agent label ≡ text
      go true h e = ap (label_text agent) (sym (same_Some Quiet label e)) ∙ sym (same_text text (codes "-") (sym h))
      go false h e = let m = mapped Doing (own_action agent text) label e in ap (label_text agent) (sym m.2) ∙ own-only text m.0 m.1

  step-whole : (step : Text) → is_step step ≡ true → 32 ∷ drop 1 step ≡ step
  step-whole [] h = absurd (cc)
  step-whole (b ∷ bs) h = ap (λ x. x ∷ bs) (sym (eqb-true b 32 (and-left (b == 32) (is_label bs) h)))

  labels-only : (before : List Label) (steps : List Text) (all : List Label) → labels_named agent before steps ≡ Some all → list_all is_step steps ≡ true
      → (labels : List Label) × (before ++ labels ≡ all) × (map (step_text agent) labels ≡ steps)
  labels-only before [] all e h = ([], append-nil before ∙ same_Some before all e, refl)
  labels-only before (step ∷ steps) all e h =
      let r = and-then (λ label. labels_named agent (before ++ label ∷ []) steps) (label_named agent (drop 1 step)) all e in
      let rest = labels-only (before ++ r.0 ∷ []) steps all r.2 (and-right (is_step step) (list_all is_step steps) h) in
      let first : step_text agent r.0 ≡ step = ap (λ t. 32 ∷ t) (label-only (drop 1 step) r.0 r.1) ∙ step-whole step (and-left (is_step step) (list_all is_step steps) h) in
      (r.0 ∷ rest.0, sym (append_assoc before (r.0 ∷ []) rest.0) ∙ rest.1, (λ i. first i ∷ rest.2 i))

  words-only : (text : Text) (labels : List Label) → map (step_text agent) labels ≡ parts 59 text → text ≡ run_words agent labels
  words-only text [] e = let some = length-slice_split (λ byte. byte == 59) text in absurd (omega (arith, some, ap length e))
  words-only text (label ∷ labels) e =
      sym (join_with_byte-slice_split 59 text) ∙ ap (join_with_byte 59) (sym e) ∙ sym (joined-is 59 (step_text agent) label labels)

  run-only : (text : Option Text) (run : Option (List Label)) → run_named agent text ≡ Some run → option_map_or is_run text true ≡ true → text ≡ option_map (run_words agent) run
  unfolding run_named is_run
  run-only None run e h = ap (option_map (run_words agent)) (same_Some None run e)
  run-only (Some text) run e h =
      let m = mapped Some (labels_named agent [] (parts 59 text)) run e in
      let r = labels-only [] (parts 59 text) m.0 m.1 h in
      ap Some (words-only text r.0 r.2 ∙ ap (run_words agent) r.1) ∙ ap (option_map (run_words agent)) m.2

  -- the device that a command is sent to
  sent-only : (action : ℕ) (device : Option Text) → is_sent_to agent action device ≡ true → device ≡ option_map (device_text agent) (device_of agent action)
  unfolding is_sent_to
  sent-only action None h = go (device_of agent action) h
    where
      go : (o : Option ℕ) → not (is_some o) ≡ true → None ≡ option_map (device_text agent) o
      go None h = refl
      go (Some d) h = absurd (cc)
  sent-only action (Some name) h = go (device_of agent action) h
    where
      go : (o : Option ℕ) → option_map_or (λ device. bytes_eq (device_text agent device) name) o false ≡ true → Some name ≡ option_map (device_text agent) o
      go None h = absurd (cc)
      go (Some d) h = ap Some (sym (same_text (device_text agent d) name (sym h)))

  small-only : (digits : Text) → is_natural digits ≡ true → is_small digits ≡ true → digits ≡ decimal (amount digits)
  small-only digits h small = let low = leb-true (amount digits) place_limit small in sym (decimal-amount digits h (omega (arith, low)))

  pub named-only : (body : Body) (what : Named) → is_body body ≡ true → has_small body ≡ true → named agent body ≡ Some what → body ≡ body_of_named agent what
  unfolding named do_named exo_named result_named
  named-only (SaysDo text device words) what h small e =
      let r = and-then (λ a. if_so (is_sent_to agent a device) (option_map (Told (Do a)) (run_named agent words))) (own_action agent text) what e in
      let b = if-so (is_sent_to agent r.0 device) (option_map (Told (Do r.0)) (run_named agent words)) what r.2 in
      let m = mapped (Told (Do r.0)) (run_named agent words) what b.1 in
      let own = own-only text r.0 r.1 in
      let sent = sent-only r.0 device b.0 in
      let run = run-only words m.0 m.1 (and-right (is_action text && option_map_or is_name device true) (option_map_or is_run words true) h) in
      subst (λ w. SaysDo text device words ≡ body_of_named agent w) m.2 (λ i. SaysDo (sym own i) (sent i) (run i))
  named-only (SaysTest words) what h small e =
      let m = mapped (Told Test) (run_named agent words) what e in
      subst (λ w. SaysTest words ≡ body_of_named agent w) m.2 (ap SaysTest (run-only words m.0 m.1 h))
  named-only (SaysExo name text) what h small e =
      let r = and-then (λ d. option_map (λ a. Told (Exo d a) None) (posted_action agent text)) (device_named agent name) what e in
      let m = mapped (λ a. Told (Exo r.0 a) None) (posted_action agent text) what r.2 in
      let device = device-only name r.0 r.1 in
      let action = posted-only text m.0 m.1 in
      subst (λ w. SaysExo name text ≡ body_of_named agent w) m.2 (λ i. SaysExo (sym device i) (sym action i))
  named-only (SaysSense name place value old) what h small e =
      let r = and-then (λ d. if_so (is_agents_constant agent value && option_map_or (is_agents_constant agent) old true) (Some (Result d (amount place) value old))) (device_named agent name) what e in
      let b = if-so (is_agents_constant agent value && option_map_or (is_agents_constant agent) old true) (Some (Result r.0 (amount place) value old)) what r.2 in
      let device = device-only name r.0 r.1 in
      let both = and-left (is_name name && is_natural place) (is_constant value) (and-left (is_name name && is_natural place && is_constant value) (option_map_or is_constant old true) h) in
      let digits = small-only place (and-right (is_name name) (is_natural place) both) small in
      subst (λ w. SaysSense name place value old ≡ body_of_named agent w) (same_Some (Result r.0 (amount place) value old) what b.1) (λ i. SaysSense (sym device i) (digits i) value old)
  named-only (SaysRest name taken) what h small e =
      let m = mapped (λ d. Told (Rest d (amount taken)) None) (device_named agent name) what e in
      let device = device-only name m.0 m.1 in
      let digits = small-only taken (and-right (is_name name) (is_natural taken) h) small in
      subst (λ w. SaysRest name taken ≡ body_of_named agent w) m.2 (λ i. SaysRest (sym device i) (digits i))
  named-only (SaysClose name reason taken) what h small e =
      let m = mapped (λ d. Told (Close d reason (amount taken)) None) (device_named agent name) what e in
      let device = device-only name m.0 m.1 in
      let digits = small-only taken (and-right (is_name name) (is_natural taken) h) small in
      subst (λ w. SaysClose name reason taken ≡ body_of_named agent w) m.2 (λ i. SaysClose (sym device i) reason (digits i))
  named-only (SaysEnd answer) what h small e =
      subst (λ w. SaysEnd answer ≡ body_of_named agent w) (same_Some (Told (End answer) None) what e) refl

  may-none : (e : Entry) → MayStand agent e None
  may-none (Do action) = tt
  may-none _ = tt

  old-only : (poster place fluent value : ℕ) → fluent < length (ground_fluents agent) → (o : Option Text) → option_map_or (λ text. is_some (constant_named agent (fluent_sort agent fluent) text)) o true ≡ true
      → (old : Option ℕ) × (MayStand agent (Sense poster place fluent value) old) × (o ≡ option_map (value_text agent fluent) old)
  old-only poster place fluent value inside None h = (None, tt, refl)
  old-only poster place fluent value inside (Some text) h = go (constant_named agent (fluent_sort agent fluent) text) refl h
    where
      go : (c : Option ℕ) → constant_named agent (fluent_sort agent fluent) text ≡ c → is_some c ≡ true
          → (old : Option ℕ) × (MayStand agent (Sense poster place fluent value) old) × (Some text ≡ option_map (value_text agent fluent) old)
      go None e h = absurd (cc)
      go (Some v) e h =
          let has = named-has (sort_size agent (fluent_sort agent fluent)) (constant_text agent (fluent_sort agent fluent)) text v e in (
            Some v,
            and-both (nat_lt fluent (length (ground_fluents agent))) (nat_lt v (sort_size agent (fluent_sort agent fluent))) (lt-ltb fluent (length (ground_fluents agent)) inside)
                (lt-ltb v (sort_size agent (fluent_sort agent fluent)) has.0),
            ap Some (sym has.1),
          )

  -- the value behind ` against`, if any, with which the body is that of the entry
  abbrev pub HasOld : Named → Line → Type 0
  HasOld what line = (old : Option ℕ) × (MayStand agent line.entry old) × (body_of_named agent what ≡ body_of_entry agent line.run old line.entry)

  pub line-only : WellFormed agent → (before : Journal) (what : Named) (line : Line) → line_named agent before what ≡ Some line → HasOld what line
  unfolding line_named result_in value_named
  line-only well before (Told e run) line h =
      let same : ◌≡◌ {A = Line} (record { entry = e; run = run }) line = same_Some (record { entry = e; run = run }) line h in
      subst (HasOld (Told e run)) same (None, may-none e, refl)
  line-only well before (Result device place text against) line h =
      let m = mapped bare (option_and_then (λ f. option_map (Sense device place f) (value_named agent f text against)) (sensed_at agent before device place)) line h in
      let r = and-then (λ f. option_map (Sense device place f) (value_named agent f text against)) (sensed_at agent before device place) m.0 m.1 in
      let fluent = r.0 in
      let q = mapped (Sense device place fluent) (value_named agent fluent text against) m.0 r.2 in
      let sort = fluent_sort agent fluent in
      let b = if-so (option_map_or (λ t. is_some (constant_named agent sort t)) against true) (constant_named agent sort text) q.0 q.1 in
      let has = named-has (sort_size agent sort) (constant_text agent sort) text q.0 b.1 in
      let old = old-only device place fluent q.0 (sensed_inside agent well before device place fluent r.1) against b.0 in
      subst (HasOld (Result device place text against)) (ap bare q.2 ∙ m.2)
      (old.0, old.1, (λ i. SaysSense (device_text agent device) (decimal place) (sym has.1 i) (old.2 i)))
