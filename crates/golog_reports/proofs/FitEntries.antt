-- What a line was read as speaks of the agent's things, and a result of an earlier command.
use Rattle.std.proofs.Common.{◌≡◌, ℕ, zero, suc, ◌+◌, ◌<◌, Bool, true, false, not, ◌&&◌, ◌||◌, ◌==◌, cond, Option, Some, None, List, [], ◌∷◌, ◌++◌, length, length-append, drop, refl, sym, ap, ◌∙◌, subst, arith}
use Rattle.std.specs.Prelude.{nat_lt, slice_get, bytes_eq, option_map, option_and_then, filter_map, is_some}
use Rattle.std.specs.List.{list_all, list_any, cons_option, enumerate_from}
use Rattle.std.specs.Option.{option_map_or}
use Rattle.std.proofs.lemmas.Bool.{lt-ltb, eq-eqb}
use Rattle.std.proofs.lemmas.Option.{same_Some}
use Rattle.std.proofs.lemmas.List.Folds.{list_all-append}
use Rattle.std.proofs.lemmas.List.Splits.{length-slice_split}
use Rattle.golog_base.specs.Numbers.{amount}
use Rattle.golog_tree.specs.declared.agent.Agent.{Agent}
use Rattle.golog_tree.specs.declared.prog.Label.{Label}
use Rattle.golog_tree.specs.declared.prog.Label.TheVariants.{Quiet, Do as Doing}
use Rattle.golog_tree.specs.Ground.{sort_size, ground_fluents}
use Rattle.golog_semantics.specs.declared.journal.Entry.{Entry}
use Rattle.golog_semantics.specs.declared.journal.Entry.TheVariants.{Do, Test, Exo, Sense, Rest, Close, End}
use Rattle.golog_semantics.specs.Journal.{Journal, Command, command_at, commands, is_carried_by, fluent_sensed}
use Rattle.golog_semantics.specs.Online.{is_result, label_of}
use Rattle.golog_semantics.specs.Reports.{fits_entry, fits_label, is_device, is_exogenous, is_own, is_value}
use Rattle.golog_semantics.specs.Text.{Text, constant_text}
use Rattle.golog_semantics.specs.Values.{fluent_sort}
use Rattle.golog_semantics.specs.WellFormed.{WellFormed}
use Rattle.golog_semantics.specs.Ways.{is_empty}
use Rattle.golog_semantics.proofs.Words.{and-both}
use Rattle.golog_reports.specs.declared.reading.Line.{Line}
use Rattle.golog_reports.specs.Forms.{parts}
use Rattle.golog_reports.specs.Said.{Body, SaysDo, SaysTest, SaysExo, SaysSense, SaysRest, SaysClose, SaysEnd, if_so}
use Rattle.golog_reports.specs.Reads.{Named, Told, Result, named, do_named, exo_named, result_named, run_named, labels_named, label_named, own_action, posted_action, action_named, device_named, constant_named, is_sent_to, is_agents_constant, has_small, is_small, result_in, value_named, sensed_at, line_named}
use Rattle.golog_reports.proofs.Cuts.{position-within}
use Rattle.golog_reports.proofs.FirstNamed.{named-has}
use Rattle.golog_reports.proofs.Results.{if-so, and-then, sensed_is, sensed_inside}
use Rattle.golog_reports.proofs.Says.{mapped}

module _ (agent : Agent) where
  -- a command that stands in a journal is one of its device's commands
  any-later : {A : Type 0} (test : A → Bool) (o : Option A) (xs : List A) → list_any test xs ≡ true → list_any test (cons_option o xs) ≡ true
  any-later test None xs e = e
  any-later test (Some x) xs e = go (test x)
    where
      go : (b : Bool) → (b || list_any test xs) ≡ true
      go true = refl
      go false = e

  or-true : (a b : Bool) → a ≡ true → (a || b) ≡ true
  or-true true b e = refl
  or-true false b e = absurd (cc)

  listed : (journal : Journal) (device fluent action first place : ℕ) (entries : Journal) (i : ℕ) → place ≡ first + i → slice_get entries i ≡ Some (Do action)
      → is_carried_by agent device action ≡ true → fluent_sensed agent action ≡ Some fluent
      → list_any (is_result agent journal place fluent) (filter_map (command_at agent device) (enumerate_from first entries)) ≡ true
  listed journal device fluent action first place [] i at e carried senses = absurd (cc)
  listed journal device fluent action first place (x ∷ entries) zero at e carried senses =
      let is : x ≡ Do action = same_Some x (Do action) e in
      let rest = filter_map (command_at agent device) (enumerate_from (first + 1) entries) in
      let c : Command = record { place = first; action = action } in
      let here : is_result agent journal place fluent c ≡ true =
      and-both (first == place) (option_map_or (λ f. f == fluent) (fluent_sensed agent action) false) (eq-eqb first place (omega (arith, at)))
      (ap (λ o. option_map_or (λ f. f == fluent) o false) senses ∙ eq-eqb fluent fluent refl) in
      ap (λ y. list_any (is_result agent journal place fluent) (cons_option (command_at agent device (first, y)) rest)) is
      ∙ ap (λ b. list_any (is_result agent journal place fluent) (cons_option (cond b (Some c) None) rest)) carried
      ∙ or-true (is_result agent journal place fluent c) (list_any (is_result agent journal place fluent) rest) here
  listed journal device fluent action first place (x ∷ entries) (suc i) at e carried senses =
      any-later (is_result agent journal place fluent) (command_at agent device (first, x)) (filter_map (command_at agent device) (enumerate_from (first + 1) entries))
      (listed journal device fluent action (first + 1) place entries i (omega (arith, at)) e carried senses)

  -- devices and actions
  pub device-is : (name : Text) (device : ℕ) → device_named agent name ≡ Some device → is_device agent device ≡ true
  device-is name device e = lt-ltb device (length agent.devices) (position-within (λ n. bytes_eq n name) agent.devices device (sym e))

  -- an action that is named passes the test
  passes : (test : ℕ → Bool) (text : Text) (action : ℕ) → option_and_then (λ a. if_so (test a) (Some a)) (action_named agent text) ≡ Some action → test action ≡ true
  passes test text action e =
      let r = and-then (λ a. if_so (test a) (Some a)) (action_named agent text) action e in
      let both = if-so (test r.0) (Some r.0) action r.2 in
      ap test (sym (same_Some r.0 action both.1)) ∙ both.0

  pub own-is : (text : Text) (action : ℕ) → own_action agent text ≡ Some action → is_own agent action ≡ true
  unfolding own_action
  own-is text action e = passes (is_own agent) text action e

  pub posted-is : (text : Text) (action : ℕ) → posted_action agent text ≡ Some action → is_exogenous agent action ≡ true
  unfolding posted_action
  posted-is text action e = passes (is_exogenous agent) text action e

  -- labels
  label-is : (text : Text) (label : Label) → label_named agent text ≡ Some label → fits_label agent label ≡ true
  unfolding label_named
  label-is text label e = go (bytes_eq text (45 ∷ [])) e
    where
      go : (b : Bool) → cond b (Some Quiet) (option_map Doing (own_action agent text)) ≡ Some label → fits_label agent label ≡ true
      go true h = ap (fits_label agent) (sym (same_Some Quiet label h))
      go false h =
          let r = mapped Doing (own_action agent text) label h in
          ap (fits_label agent) (sym r.2) ∙ own-is text r.0 r.1

  labels-are : (labels : List Label) (steps : List Text) (all : List Label) → labels_named agent labels steps ≡ Some all
      → list_all (fits_label agent) labels ≡ true → (list_all (fits_label agent) all ≡ true) × (length labels + length steps ≡ length all)
  labels-are labels [] all e fits =
      let same : labels ≡ all = same_Some labels all e in
      (ap (list_all (fits_label agent)) (sym same) ∙ fits, omega (arith, ap length same))
  labels-are labels (step ∷ steps) all e fits =
      let r = and-then (λ label. labels_named agent (labels ++ label ∷ []) steps) (label_named agent (drop 1 step)) all e in
      let label = r.0 in
      let one : list_all (fits_label agent) (label ∷ []) ≡ true = and-both (fits_label agent label) true (label-is (drop 1 step) label r.1) refl in
      let more : list_all (fits_label agent) (labels ++ label ∷ []) ≡ true =
      list_all-append (fits_label agent) labels (label ∷ []) ∙ and-both (list_all (fits_label agent) labels) (list_all (fits_label agent) (label ∷ [])) fits one in
      let rest = labels-are (labels ++ label ∷ []) steps all r.2 more in
      (rest.0, omega (arith, rest.1, length-append labels (label ∷ [])))

  some-labels : (all : List Label) → 0 < length all → not (is_empty all) ≡ true
  some-labels [] h = absurd (omega (arith, h))
  some-labels (label ∷ all) h = refl

  -- a run has a label, and labels of the program
  abbrev pub RunFits : Option (List Label) → Type 0
  RunFits None = Unit {0}
  RunFits (Some labels) = (not (is_empty labels) && list_all (fits_label agent) labels) ≡ true

  pub run-is : (text : Option Text) (run : Option (List Label)) → run_named agent text ≡ Some run → RunFits run
  unfolding run_named
  run-is None run e = subst RunFits (same_Some None run e) tt
  run-is (Some text) run e =
      let r = mapped Some (labels_named agent [] (parts 59 text)) run e in
      let fit = labels-are [] (parts 59 text) r.0 r.1 refl in
      let long = length-slice_split (λ byte. byte == 59) text in
      subst RunFits r.2 (and-both (not (is_empty r.0)) (list_all (fits_label agent) r.0) (some-labels r.0 (omega (arith, fit.1, long))) fit.0)

  -- a run begins with a step
  abbrev pub StepsOnly : Entry → Option (List Label) → Type 0
  StepsOnly e None = Unit {0}
  StepsOnly e (Some labels) = is_some (label_of e) ≡ true

  -- what is told fits behind any entries
  pub record ToldFits (before : Journal) (e : Entry) (run : Option (List Label)) : Type 0 where
    pub entry : fits_entry agent before e ≡ true
    pub labels : RunFits run
    pub steps : StepsOnly e run

  plain : (before : Journal) (e d : Entry) (run : Option (List Label)) → Told e None ≡ Told d run → fits_entry agent before e ≡ true → ToldFits before d run
  plain before e d run same h =
      let k : e ≡ d = cc in
      let l : None ≡ run = cc in
      subst (λ x. ToldFits before x run) k (subst (ToldFits before e) l (record { entry = h; labels = tt; steps = tt }))

  steps-some : (e : Entry) (run : Option (List Label)) → is_some (label_of e) ≡ true → StepsOnly e run
  steps-some e None h = tt
  steps-some e (Some labels) h = h

  step : (before : Journal) (e d : Entry) (text : Option Text) (run : Option (List Label)) → option_map (Told e) (run_named agent text) ≡ Some (Told d run)
      → fits_entry agent before e ≡ true → is_some (label_of e) ≡ true → ToldFits before d run
  step before e d text run h fits labelled =
      let r = mapped (Told e) (run_named agent text) (Told d run) h in
      let same : Told e r.0 ≡ Told d run = r.2 in
      let k : e ≡ d = cc in
      let l : r.0 ≡ run = cc in
      subst (λ x. ToldFits before x run) k
      (subst (ToldFits before e) l (record { entry = fits; labels = run-is text r.0 r.1; steps = steps-some e r.0 labelled }))

  pub told-fits : (before : Journal) (body : Body) (e : Entry) (run : Option (List Label)) → has_small body ≡ true → named agent body ≡ Some (Told e run) → ToldFits before e run
  unfolding named do_named exo_named result_named
  told-fits before (SaysDo text device text') e run small h =
      let r = and-then (λ action. if_so (is_sent_to agent action device) (option_map (Told (Do action)) (run_named agent text'))) (own_action agent text) (Told e run) h in
      let both = if-so (is_sent_to agent r.0 device) (option_map (Told (Do r.0)) (run_named agent text')) (Told e run) r.2 in
      step before (Do r.0) e text' run both.1 (own-is text r.0 r.1) refl
  told-fits before (SaysTest text') e run small h = step before Test e text' run h refl refl
  told-fits before (SaysExo name text) e run small h =
      let r = and-then (λ device. option_map (λ action. Told (Exo device action) None) (posted_action agent text)) (device_named agent name) (Told e run) h in
      let a = mapped (λ action. Told (Exo r.0 action) None) (posted_action agent text) (Told e run) r.2 in
      plain before (Exo r.0 a.0) e run a.2 (and-both (is_device agent r.0) (is_exogenous agent a.0) (device-is name r.0 r.1) (posted-is text a.0 a.1))
  told-fits before (SaysSense name place value old) e run small h =
      let r = and-then (λ device. if_so (is_agents_constant agent value && option_map_or (is_agents_constant agent) old true) (Some (Result device (amount place) value old))) (device_named agent name) (Told e run) h in
      let both = if-so (is_agents_constant agent value && option_map_or (is_agents_constant agent) old true) (Some (Result r.0 (amount place) value old)) (Told e run) r.2 in
      absurd (let wrong = both.1 in cc)
  told-fits before (SaysRest name taken) e run small h =
      let r = mapped (λ d. Told (Rest d (amount taken)) None) (device_named agent name) (Told e run) h in
      plain before (Rest r.0 (amount taken)) e run r.2 (and-both (is_device agent r.0) (is_small taken) (device-is name r.0 r.1) small)
  told-fits before (SaysClose name reason taken) e run small h =
      let r = mapped (λ d. Told (Close d reason (amount taken)) None) (device_named agent name) (Told e run) h in
      plain before (Close r.0 reason (amount taken)) e run r.2 (and-both (is_device agent r.0) (is_small taken) (device-is name r.0 r.1) small)
  told-fits before (SaysEnd answer) e run small h = plain before (End answer) e run (same_Some (Told (End answer) None) (Told e run) h) refl

  -- only a result's device is left to be looked up
  pub result-device : (body : Body) (device place : ℕ) (value : Text) (old : Option Text) → named agent body ≡ Some (Result device place value old) → is_device agent device ≡ true
  unfolding named do_named exo_named result_named
  result-device (SaysDo text at text') device place value old h =
      let r = and-then (λ action. if_so (is_sent_to agent action at) (option_map (Told (Do action)) (run_named agent text'))) (own_action agent text) (Result device place value old) h in
      let both = if-so (is_sent_to agent r.0 at) (option_map (Told (Do r.0)) (run_named agent text')) (Result device place value old) r.2 in
      let m = mapped (Told (Do r.0)) (run_named agent text') (Result device place value old) both.1 in
      absurd (let wrong = m.2 in cc)
  result-device (SaysTest text') device place value old h =
      let m = mapped (Told Test) (run_named agent text') (Result device place value old) h in
      absurd (let wrong = m.2 in cc)
  result-device (SaysExo name text) device place value old h =
      let r = and-then (λ device. option_map (λ action. Told (Exo device action) None) (posted_action agent text)) (device_named agent name) (Result device place value old) h in
      let m = mapped (λ action. Told (Exo r.0 action) None) (posted_action agent text) (Result device place value old) r.2 in
      absurd (let wrong = m.2 in cc)
  result-device (SaysSense name place' value' old') device place value old h =
      let r = and-then (λ device. if_so (is_agents_constant agent value' && option_map_or (is_agents_constant agent) old' true) (Some (Result device (amount place') value' old'))) (device_named agent name) (Result device place value old) h in
      let both = if-so (is_agents_constant agent value' && option_map_or (is_agents_constant agent) old' true) (Some (Result r.0 (amount place') value' old')) (Result device place value old) r.2 in
      let told = both.1 in
      let same : r.0 ≡ device = cc in
      ap (is_device agent) (sym same) ∙ device-is name r.0 r.1
  result-device (SaysRest name taken) device place value old h =
      let m = mapped (λ d. Told (Rest d (amount taken)) None) (device_named agent name) (Result device place value old) h in
      absurd (let wrong = m.2 in cc)
  result-device (SaysClose name reason taken) device place value old h =
      let m = mapped (λ d. Told (Close d reason (amount taken)) None) (device_named agent name) (Result device place value old) h in
      absurd (let wrong = m.2 in cc)
  result-device (SaysEnd answer) device place value old h = absurd (cc)

  -- a result fits behind the entries among which its command stands
  pub result-fits : WellFormed agent → (before : Journal) (device place : ℕ) (value : Text) (old : Option Text) (e : Entry) → is_device agent device ≡ true
      → result_in agent before device place value old ≡ Some e → fits_entry agent before e ≡ true
  unfolding result_in value_named
  result-fits well before device place value old e own h =
      let r = and-then (λ fluent. option_map (Sense device place fluent) (value_named agent fluent value old)) (sensed_at agent before device place) e h in
      let fluent = r.0 in
      let m = mapped (Sense device place fluent) (value_named agent fluent value old) e r.2 in
      let sort = fluent_sort agent fluent in
      let both = if-so (option_map_or (λ text. is_some (constant_named agent sort text)) old true) (constant_named agent sort value) m.0 m.1 in
      let constant = named-has (sort_size agent sort) (constant_text agent sort) value m.0 both.1 in
      let at = sensed_is agent before device place fluent r.1 in
      let command : slice_get before place ≡ Some (Do at.command.action) = at.stands ∙ ap Some at.command.is in
      let inside = sensed_inside agent well before device place fluent r.1 in
      let is : is_value agent fluent m.0 ≡ true = and-both (nat_lt fluent (length (ground_fluents agent))) (nat_lt m.0 (sort_size agent sort))
      (lt-ltb fluent (length (ground_fluents agent)) inside) (lt-ltb m.0 (sort_size agent sort) constant.0) in
      let stands = listed before device fluent at.command.action 0 place before place (omega arith) command at.command.carried at.command.senses in
      ap (fits_entry agent before) (sym m.2)
      ∙ and-both (is_device agent device && is_value agent fluent m.0) (list_any (is_result agent before place fluent) (commands agent device before))
      (and-both (is_device agent device) (is_value agent fluent m.0) own is) stands

  -- the line fits
  pub line-fits : WellFormed agent → (before : Journal) (body : Body) (what : Named) (line : Line) → has_small body ≡ true → named agent body ≡ Some what → line_named agent before what ≡ Some line
      → ToldFits before line.entry line.run
  unfolding line_named
  line-fits well before body (Told e run) line small h k =
      let same : ◌≡◌ {A = Line} (record { entry = e; run = run }) line = same_Some (record { entry = e; run = run }) line k in
      subst (λ (l : Line). ToldFits before l.entry l.run) same (told-fits before body e run small h)
  line-fits well before body (Result device place value old) line small h k =
      let m = mapped {B = Line} (λ entry. record { entry = entry; run = None }) (result_in agent before device place value old) line k in
      subst (λ (l : Line). ToldFits before l.entry l.run) m.2
      (record { entry = result-fits well before device place value old m.0 (result-device body device place value old h) m.1; labels = tt; steps = tt })
