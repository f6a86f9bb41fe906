-- The line of an entry that fits is read as the entry.
use Rattle.std.proofs.Common.{◌≡◌, ℕ, zero, suc, ◌+◌, ◌<◌, ◌≤◌, Bool, true, false, not, cond, ◌&&◌, ◌||◌, ◌==◌, Option, Some, None, Ok, List, [], ◌∷◌, ◌++◌, length, refl, sym, ap, ◌∙◌, subst, arith}
use Rattle.std.specs.Prelude.{bytes_eq, codes, decimal, filter_map, is_some, nat_eq, nat_le, option_map, option_and_then, slice_get}
use Rattle.std.specs.List.{cons_option, enumerate_from, list_all, list_any}
use Rattle.std.specs.Option.{option_map_or}
use Rattle.std.proofs.lemmas.Bool.{eq-eqb, eqb-true, le-leb, leb-true, ltb-true}
use Rattle.std.proofs.lemmas.Option.{slice_get_within}
use Rattle.golog_base.specs.Names.{is_name}
use Rattle.golog_base.specs.Numbers.{amount}
use Rattle.golog_rows.specs.Reading.{Reading, found, unless, ◌>>=◌}
use Rattle.golog_tree.specs.declared.agent.Agent.{Agent}
use Rattle.golog_tree.specs.declared.agent.ActionItem.{ActionItem}
use Rattle.golog_tree.specs.declared.prog.Label.{Label}
use Rattle.golog_tree.specs.Ground.{ground_actions, sort_size}
use Rattle.golog_semantics.specs.declared.journal.Entry.{Entry}
use Rattle.golog_semantics.specs.declared.journal.Entry.TheVariants.{Do, Test, Exo, Sense, Rest, Close, End}
use Rattle.golog_semantics.specs.Journal.{Command, Journal, action_item, command_at, commands, device_of, is_carried_by, fluent_sensed}
use Rattle.golog_semantics.specs.Online.{is_result, label_of}
use Rattle.golog_semantics.specs.ReportLaws.{TellsApart}
use Rattle.golog_semantics.specs.Reports.{fits_entry, is_device, is_exogenous, is_value, place_limit}
use Rattle.golog_semantics.specs.Text.{action_text, device_text, value_text}
use Rattle.golog_semantics.specs.Values.{fluent_sort}
use Rattle.golog_semantics.specs.WellFormed.{WellFormed, action_item_fits, are_sorts, is_device_no}
use Rattle.golog_semantics.specs.Ways.{is_empty}
use Rattle.golog_semantics.proofs.Fits.{has_action, senses-it}
use Rattle.golog_semantics.proofs.Levels.{same_values-same}
use Rattle.golog_semantics.proofs.Words.{and-both, and-left, and-right}
use Rattle.golog_reports.specs.declared.reading.Line.{Line}
use Rattle.golog_reports.specs.Codes.{NO_BODY, MISPLACED, NOT_OWN, NO_RESULT}
use Rattle.golog_reports.specs.Forms.{is_action, is_constant, is_natural, is_run}
use Rattle.golog_reports.specs.Reads.{Named, Told, Result, constant_named, do_named, exo_named, has_small, is_agents_constant, is_in_place, is_sent_to, is_small, line_named, line_of, line_said, named, posted_action, result_in, result_named, run_named, sensed_at, sensed_by_entry, value_named}
use Rattle.golog_reports.specs.ReadsAs.{MayStand, said_body}
use Rattle.golog_reports.specs.Said.{Body, Said, if_so, is_body, is_said, said_in, said_text}
use Rattle.golog_reports.proofs.Decimals.{amount-decimal, decimal-natural}
use Rattle.golog_reports.proofs.EntryBodies.{bare, body-text, body_of_entry, run_words}
use Rattle.golog_reports.proofs.FitEntries.{RunFits, StepsOnly}
use Rattle.golog_reports.proofs.OwnWords.{action-is-form, agents-constant, constant-back, constant-form, device-back, device-form, own-back, posted-back, run-form, run-named-back}
use Rattle.golog_reports.proofs.Results.{and-then}
use Rattle.golog_reports.proofs.SaidBack.{passed, said-back}
use Rattle.golog_text.proofs.Things.{value_below}

all-at : {A : Type 0} (test : A → Bool) (xs : List A) (k : ℕ) (x : A) → list_all test xs ≡ true → slice_get xs k ≡ Some x → test x ≡ true
all-at test [] k x h e = absurd (cc)
all-at test (y ∷ xs) zero x h e = let same : y ≡ x = cc in ap test (sym same) ∙ and-left (test y) (list_all test xs) h
all-at test (y ∷ xs) (suc k) x h e = all-at test xs k x (and-right (test y) (list_all test xs) h) e

module _ (agent : Agent) where
  -- the device of an action
  device-below : WellFormed agent → (action device : ℕ) → device_of agent action ≡ Some device → device < length agent.devices
  device-below well action device e =
      let r = and-then (λ (item : ActionItem). item.device) (action_item agent action) device e in
      let q = and-then (λ at. slice_get agent.actions at.0) (slice_get (ground_actions agent) action) r.0 r.1 in
      let fits = all-at (action_item_fits agent) agent.actions q.0.0 r.0 well.actions q.2 in
      let item = r.0 in
      let sorts = are_sorts agent item.args in
      let own = option_map_or (is_device_no agent) item.device true in
      let posters = list_all (is_device_no agent) item.posters in
      let both = and-right sorts own (and-left (sorts && own) posters (and-left (sorts && own && posters) (is_empty item.posters || not (is_some item.device)) fits)) in
      let below : is_device_no agent device ≡ true = ap (λ o. option_map_or (is_device_no agent) o true) (sym r.2) ∙ both in
      ltb-true device (length agent.devices) below

  sent-back : (action : ℕ) → is_sent_to agent action (option_map (device_text agent) (device_of agent action)) ≡ true
  unfolding is_sent_to
  sent-back action = go (device_of agent action) refl
    where
      go : (o : Option ℕ) → device_of agent action ≡ o → is_sent_to agent action (option_map (device_text agent) o) ≡ true
      go None e = ap (λ x. not (is_some x)) e
      go (Some d) e = ap (λ x. option_map_or (λ device. bytes_eq (device_text agent device) (device_text agent d)) x false) e ∙ same_values-same (device_text agent d)

  -- a command among those of a device senses the fluent
  entry-senses : (journal : Journal) (device first place fluent : ℕ) (e : Entry) (c : Command) → command_at agent device (first, e) ≡ Some c → is_result agent journal place fluent c ≡ true
      → (place ≡ first) × (sensed_by_entry agent device e ≡ Some fluent)
  unfolding sensed_by_entry
  entry-senses journal device first place fluent (Do action) c h k = go (is_carried_by agent device action) h
    where
      go : (b : Bool) → cond b (Some (record { place = first; action = action })) None ≡ Some c → (place ≡ first) × (if_so b (fluent_sensed agent action) ≡ Some fluent)
      go false h = absurd (cc)
      go true h =
          let same : ◌≡◌ {A = Command} (record { place = first; action = action }) c = cc in
          let here : (first == place && option_map_or (λ f. f == fluent) (fluent_sensed agent action) false) ≡ true = ap (is_result agent journal place fluent) same ∙ k in
          (sym (eqb-true first place (and-left (first == place) _ here)), senses-it agent fluent (fluent_sensed agent action) (and-right (first == place) _ here))
  entry-senses journal device first place fluent _ c h k = absurd (cc)

  -- where such a command stands
  abbrev Stands : ℕ → Journal → ℕ → ℕ → ℕ → Type 0
  Stands first entries device place fluent = (i : ℕ) × (place ≡ first + i) × (option_and_then (sensed_by_entry agent device) (slice_get entries i) ≡ Some fluent)

  one-later : (first : ℕ) (e : Entry) (entries : Journal) (device place fluent : ℕ) → Stands (first + 1) entries device place fluent → Stands first (e ∷ entries) device place fluent
  one-later first e entries device place fluent s = (suc s.0, omega (arith, s.1), s.2)

  stands-from : (journal : Journal) (device first place fluent : ℕ) (entries : Journal) → list_any (is_result agent journal place fluent) (filter_map (command_at agent device) (enumerate_from first entries)) ≡ true
      → Stands first entries device place fluent
  stands-from journal device first place fluent [] h = absurd (cc)
  stands-from journal device first place fluent (e ∷ entries) h =
      go (command_at agent device (first, e)) refl h (λ k. one-later first e entries device place fluent (stands-from journal device (first + 1) place fluent entries k))
    where
      here : (c : Command) → command_at agent device (first, e) ≡ Some c → is_result agent journal place fluent c ≡ true → Stands first (e ∷ entries) device place fluent
      here c k m = let r = entry-senses journal device first place fluent e c k m in (0, omega (arith, r.0), r.1)

      either : (b d : Bool) → (b || d) ≡ true → (b ≡ true → Stands first (e ∷ entries) device place fluent) → (d ≡ true → Stands first (e ∷ entries) device place fluent) → Stands first (e ∷ entries) device place fluent
      either true d h one other = one refl
      either false d h one other = other h

      go : (o : Option Command) → command_at agent device (first, e) ≡ o → list_any (is_result agent journal place fluent) (cons_option o (filter_map (command_at agent device) (enumerate_from (first + 1) entries))) ≡ true
          → (list_any (is_result agent journal place fluent) (filter_map (command_at agent device) (enumerate_from (first + 1) entries)) ≡ true → Stands first (e ∷ entries) device place fluent) → Stands first (e ∷ entries) device place fluent
      go None k h rest = rest h
      go (Some c) k h rest = either (is_result agent journal place fluent c) (list_any (is_result agent journal place fluent) (filter_map (command_at agent device) (enumerate_from (first + 1) entries))) h (here c k) rest

  record IsSensedAt (before : Journal) (device place fluent : ℕ) : Type 0 where
    at : sensed_at agent before device place ≡ Some fluent
    inside : place < length before

  sensed-back : (before : Journal) (device place fluent : ℕ) → list_any (is_result agent before place fluent) (commands agent device before) ≡ true → IsSensedAt before device place fluent
  unfolding sensed_at
  sensed-back before device place fluent h =
      let s = stands-from before device 0 place fluent before h in
      let same : s.0 ≡ place = omega (arith, s.1) in
      record {
        at = ap (λ n. option_and_then (sensed_by_entry agent device) (slice_get before n)) (sym same) ∙ s.2;
        inside = within (slice_get before s.0) refl s.2 same;
      }
    where
      within : {i : ℕ} (o : Option Entry) → slice_get before i ≡ o → option_and_then (sensed_by_entry agent device) o ≡ Some fluent → i ≡ place → place < length before
      within None e k same = absurd (cc)
      within {i} (Some x) e k same = subst (λ n. n < length before) same (slice_get_within before i x e)

  -- the body of an entry that fits: its words have their forms, its numbers are small, and it names the entry
  record IsBack (before : Journal) (body : Body) (e : Entry) (run : Option (List Label)) : Type 0 where
    form : is_body body ≡ true
    small : has_small body ≡ true
    what : Named
    what_is : named agent body ≡ Some what
    line_is : line_named agent before what ≡ Some (record { entry = e; run = run })

  no-run : (e : Entry) (run : Option (List Label)) → is_some (label_of e) ≡ false → StepsOnly agent e run → None ≡ run
  no-run e None h k = refl
  no-run e (Some labels) h k = absurd (let wrong : true ≡ false = sym k ∙ h in cc)

  below : (device : ℕ) → is_device agent device ≡ true → device < length agent.devices
  below device h = ltb-true device (length agent.devices) h

  small-decimal : (n : ℕ) → n ≤ place_limit → is_small (decimal n) ≡ true
  small-decimal n h = ap (λ m. nat_le m place_limit) (amount-decimal n (omega (arith, h))) ∙ le-leb n place_limit h

  module _ (well : WellFormed agent) (apart : TellsApart agent) (before : Journal) (few : length before ≤ place_limit) where
    device-names : (action : ℕ) → option_map_or is_name (option_map (device_text agent) (device_of agent action)) true ≡ true
    device-names action = go (device_of agent action) refl
      where
        go : (o : Option ℕ) → device_of agent action ≡ o → option_map_or is_name (option_map (device_text agent) o) true ≡ true
        go None e = refl
        go (Some d) e = device-form agent well apart d (device-below well action d e)

    do-line : (action : ℕ) (run : Option (List Label)) → fits_entry agent before (Do action) ≡ true → RunFits agent run → IsBack before (body_of_entry agent run None (Do action)) (Do action) run
    unfolding named do_named line_named
    do-line action run h r =
        let device = option_map (device_text agent) (device_of agent action) in
        let words = option_map (run_words agent) run in
        record {
          form = and-both (is_action (action_text agent action) && option_map_or is_name device true) (option_map_or is_run words true)
              (and-both (is_action (action_text agent action)) (option_map_or is_name device true) (action-is-form agent well apart action (has_action agent _ action h)) (device-names action))
              (run-form agent well apart run r);
          small = refl;
          what = Told (Do action) run;
          what_is =
              ap (option_and_then (λ a. if_so (is_sent_to agent a device) (option_map (Told (Do a)) (run_named agent words)))) (own-back agent well apart action h)
              ∙ passed (is_sent_to agent action device) (option_map (Told (Do action)) (run_named agent words)) (sent-back action)
              ∙ ap (option_map (Told (Do action))) (run-named-back agent well apart run r);
          line_is = refl;
        }

    exo-line : (poster action : ℕ) → fits_entry agent before (Exo poster action) ≡ true → IsBack before (body_of_entry agent None None (Exo poster action)) (Exo poster action) None
    unfolding named exo_named line_named
    exo-line poster action h =
        let mine = below poster (and-left (is_device agent poster) (is_exogenous agent action) h) in
        let posted = and-right (is_device agent poster) (is_exogenous agent action) h in
        record {
          form = and-both (is_name (device_text agent poster)) (is_action (action_text agent action)) (device-form agent well apart poster mine) (action-is-form agent well apart action (has_action agent _ action posted));
          small = refl;
          what = Told (Exo poster action) None;
          what_is =
              ap (option_and_then (λ d. option_map (λ a. Told (Exo d a) None) (posted_action agent (action_text agent action)))) (device-back agent well apart poster mine)
              ∙ ap (option_map (λ a. Told (Exo poster a) None)) (posted-back agent well apart action posted);
          line_is = refl;
        }

    -- a value known before
    old-form : (fluent : ℕ) (old : Option ℕ) → MayStand agent (Sense 0 0 fluent 0) old → option_map_or is_constant (option_map (value_text agent fluent) old) true ≡ true
    old-form fluent None h = refl
    old-form fluent (Some v) h = constant-form agent well apart (fluent_sort agent fluent) v (value_below agent fluent v h)

    old-own : (fluent : ℕ) (old : Option ℕ) → MayStand agent (Sense 0 0 fluent 0) old → option_map_or (is_agents_constant agent) (option_map (value_text agent fluent) old) true ≡ true
    old-own fluent None h = refl
    old-own fluent (Some v) h = agents-constant agent well apart (fluent_sort agent fluent) v (value_below agent fluent v h)

    old-back : (fluent : ℕ) (old : Option ℕ) → MayStand agent (Sense 0 0 fluent 0) old
        → option_map_or (λ text. is_some (constant_named agent (fluent_sort agent fluent) text)) (option_map (value_text agent fluent) old) true ≡ true
    old-back fluent None h = refl
    old-back fluent (Some v) h = ap is_some (constant-back agent well apart (fluent_sort agent fluent) v (value_below agent fluent v h))

    sense-line : (poster place fluent value : ℕ) (old : Option ℕ) → fits_entry agent before (Sense poster place fluent value) ≡ true → MayStand agent (Sense 0 0 fluent 0) old
        → IsBack before (body_of_entry agent None old (Sense poster place fluent value)) (Sense poster place fluent value) None
    unfolding named result_named line_named result_in value_named
    sense-line poster place fluent value old h o =
        let result = list_any (is_result agent before place fluent) (commands agent poster before) in
        let both = and-left (is_device agent poster && is_value agent fluent value) result h in
        let mine = below poster (and-left (is_device agent poster) (is_value agent fluent value) both) in
        let sort = fluent_sort agent fluent in
        let known : value < sort_size agent sort = value_below agent fluent value (and-right (is_device agent poster) (is_value agent fluent value) both) in
        let it = sensed-back before poster place fluent (and-right (is_device agent poster && is_value agent fluent value) result h) in
        let low : place ≤ place_limit = omega (arith, it.inside, few) in
        let name = device_text agent poster in
        let text = value_text agent fluent value in
        let against = option_map (value_text agent fluent) old in
        record {
          form = and-both (is_name name && is_natural (decimal place) && is_constant text) (option_map_or is_constant against true)
              (and-both (is_name name && is_natural (decimal place)) (is_constant text)
              (and-both (is_name name) (is_natural (decimal place)) (device-form agent well apart poster mine) (decimal-natural place (omega (arith, low)))) (constant-form agent well apart sort value known))
              (old-form fluent old o);
          small = small-decimal place low;
          what = Result poster place text against;
          what_is =
              ap (option_and_then (λ d. if_so (is_agents_constant agent text && option_map_or (is_agents_constant agent) against true) (Some (Result d (amount (decimal place)) text against)))) (device-back agent well apart poster mine)
              ∙ passed (is_agents_constant agent text && option_map_or (is_agents_constant agent) against true) (Some (Result poster (amount (decimal place)) text against))
              (and-both (is_agents_constant agent text) (option_map_or (is_agents_constant agent) against true) (agents-constant agent well apart sort value known) (old-own fluent old o))
              ∙ ap (λ n. Some (Result poster n text against)) (amount-decimal place (omega (arith, low)));
          line_is =
              ap (λ o. option_map bare (option_and_then (λ f. option_map (Sense poster place f) (value_named agent f text against)) o)) it.at
              ∙ ap (λ v. option_map bare (option_map (Sense poster place fluent) v))
              (passed (option_map_or (λ t. is_some (constant_named agent sort t)) against true) (constant_named agent sort text) (old-back fluent old o) ∙ constant-back agent well apart sort value known);
        }

    rest-line : (poster taken : ℕ) → fits_entry agent before (Rest poster taken) ≡ true → IsBack before (body_of_entry agent None None (Rest poster taken)) (Rest poster taken) None
    unfolding named line_named
    rest-line poster taken h =
        let mine = below poster (and-left (is_device agent poster) (nat_le taken place_limit) h) in
        let low : taken ≤ place_limit = leb-true taken place_limit (and-right (is_device agent poster) (nat_le taken place_limit) h) in
        record {
          form = and-both (is_name (device_text agent poster)) (is_natural (decimal taken)) (device-form agent well apart poster mine) (decimal-natural taken (omega (arith, low)));
          small = small-decimal taken low;
          what = Told (Rest poster taken) None;
          what_is =
              ap (option_map (λ d. Told (Rest d (amount (decimal taken))) None)) (device-back agent well apart poster mine)
              ∙ ap (λ n. Some (Told (Rest poster n) None)) (amount-decimal taken (omega (arith, low)));
          line_is = refl;
        }

    entry-back : (e : Entry) (run : Option (List Label)) (old : Option ℕ) → fits_entry agent before e ≡ true → RunFits agent run → StepsOnly agent e run → MayStand agent e old
        → IsBack before (body_of_entry agent run old e) e run
    unfolding named line_named
    entry-back (Do action) run old h r s o = do-line action run h r
    entry-back Test run old h r s o = record {
      form = run-form agent well apart run r;
      small = refl;
      what = Told Test run;
      what_is = ap (option_map (Told Test)) (run-named-back agent well apart run r);
      line_is = refl;
    }
    entry-back (Exo poster action) run old h r s o = subst (IsBack before (body_of_entry agent None None (Exo poster action)) (Exo poster action)) (no-run (Exo poster action) run refl s) (exo-line poster action h)
    entry-back (Sense poster place fluent value) run None h r s o =
        subst (IsBack before (body_of_entry agent None None (Sense poster place fluent value)) (Sense poster place fluent value)) (no-run (Sense poster place fluent value) run refl s) (sense-line poster place fluent value None h tt)
    entry-back (Sense poster place fluent value) run (Some old) h r s o =
        subst (IsBack before (body_of_entry agent None (Some old) (Sense poster place fluent value)) (Sense poster place fluent value)) (no-run (Sense poster place fluent value) run refl s) (sense-line poster place fluent value (Some old) h o)
    entry-back (Rest poster taken) run old h r s o = subst (IsBack before (body_of_entry agent None None (Rest poster taken)) (Rest poster taken)) (no-run (Rest poster taken) run refl s) (rest-line poster taken h)
    entry-back (Close poster reason taken) run old h r s o =
        let mine = below poster (and-left (is_device agent poster) (nat_le taken place_limit) h) in
        let low : taken ≤ place_limit = leb-true taken place_limit (and-right (is_device agent poster) (nat_le taken place_limit) h) in
        subst (IsBack before (body_of_entry agent None None (Close poster reason taken)) (Close poster reason taken)) (no-run (Close poster reason taken) run refl s)
        (record {
          form = and-both (is_name (device_text agent poster)) (is_natural (decimal taken)) (device-form agent well apart poster mine) (decimal-natural taken (omega (arith, low)));
          small = small-decimal taken low;
          what = Told (Close poster reason taken) None;
          what_is =
              ap (option_map (λ d. Told (Close d reason (amount (decimal taken))) None)) (device-back agent well apart poster mine)
              ∙ ap (λ n. Some (Told (Close poster reason n) None)) (amount-decimal taken (omega (arith, low)));
          line_is = refl;
        })
    entry-back (End answer) run old h r s o =
        subst (IsBack before (body_of_entry agent None None (End answer)) (End answer)) (no-run (End answer) run refl s)
        (record { form = refl; small = refl; what = Told (End answer) None; what_is = refl; line_is = refl })

    -- what the line of an entry says
    abbrev said_of_entry : Option (List Label) → Option ℕ → Entry → Said
    said_of_entry run old e = record { number = decimal (length before); body = body_of_entry agent run old e }

    pub record IsReadBack (e : Entry) (run : Option (List Label)) (old : Option ℕ) : Type 0 where
      pub said : Said
      pub forms : is_said said ≡ true
      pub text : said_text said ≡ decimal (length before) ++ codes " " ++ said_body agent run old e
      pub outcome : (line_of agent before (decimal (length before) ++ codes " " ++ said_body agent run old e)).outcome ≡ Ok (record { entry = e; run = run })

    pub line-back : (e : Entry) (run : Option (List Label)) (old : Option ℕ) → fits_entry agent before e ≡ true → RunFits agent run → StepsOnly agent e run → MayStand agent e old → IsReadBack e run old
    unfolding line_of line_said is_in_place
    line-back e run old h r s o =
        let n = length before in
        let back = entry-back e run old h r s o in
        let said = said_of_entry run old e in
        let forms : is_said said ≡ true = and-both (is_natural (decimal n)) (is_body (body_of_entry agent run old e)) (decimal-natural n (omega (arith, few))) back.form in
        let text : said_text said ≡ decimal n ++ codes " " ++ said_body agent run old e = ap (λ b. decimal n ++ codes " " ++ b) (body-text agent run old e) in
        let says : said_in (decimal n ++ codes " " ++ said_body agent run old e) ≡ Some said = ap said_in (sym text) ∙ said-back said forms in
        let amounts = amount-decimal n (omega (arith, few)) in
        let same : nat_eq (amount (decimal n)) n ≡ true = ap (λ m. nat_eq m n) amounts ∙ eq-eqb n n refl in
        let placed : is_in_place n said ≡ true = and-both (is_small (decimal n) && nat_eq (amount (decimal n)) n) (has_small (body_of_entry agent run old e))
        (and-both (is_small (decimal n)) (nat_eq (amount (decimal n)) n) (small-decimal n few) same) back.small in
        let rest : Reading Line = found NOT_OWN n (named agent (body_of_entry agent run old e)) >>= λ what. found NO_RESULT n (line_named agent before what) in
        record {
          said = said;
          forms = forms;
          text = text;
          outcome =
              ap (λ o. (found NO_BODY n o >>= line_said agent before).outcome) says
              ∙ ap (λ b. unless (not b) (MISPLACED, n) rest.outcome) placed
              ∙ ap (λ o. (found NOT_OWN n o >>= λ what. found NO_RESULT n (line_named agent before what)).outcome) back.what_is
              ∙ ap (λ o. (found NO_RESULT n o).outcome) back.line_is;
        }
