-- Different entries, and different runs at a step, have different texts in the line at one place.
use Rattle.std.proofs.Common.{◌≡◌, ℕ, ◌+◌, ◌<◌, ◌≤◌, ◌^◌, Bool, true, false, not, ◌&&◌, ◌==◌, if◌then◌else◌, List, [], ◌∷◌, ◌++◌, length, refl, sym, ap, ◌∙◌, subst, Some, None, Option, arith}
use Rattle.std.specs.Prelude.{⊤, codes, decimal, slice_get, slice_index, nat_lt, nat_le}
use Rattle.std.specs.List.{list_any}
use Rattle.std.proofs.lemmas.List.{append_assoc, append_cancel_left}
use Rattle.std.proofs.lemmas.Bool.{leb-true, ltb-true}
use Rattle.golog_tree.specs.declared.agent.Agent.{Agent}
use Rattle.golog_tree.specs.declared.prog.Label.{Label}
use Rattle.golog_tree.specs.Ground.{sort_size, ground_fluents}
use Rattle.golog_semantics.specs.declared.journal.Entry.{Entry}
use Rattle.golog_semantics.specs.declared.journal.Entry.TheVariants.{Do, Test, Exo, Sense, Rest, Close, End}
use Rattle.golog_semantics.specs.declared.journal.Reason.{Reason}
use Rattle.golog_semantics.specs.declared.journal.Answer.{Answer}
use Rattle.golog_semantics.specs.Truth.{Values, is_known}
use Rattle.golog_semantics.specs.Values.{fluent_sort}
use Rattle.golog_semantics.specs.Journal.{Journal, device_of, fluent_sensed, commands}
use Rattle.golog_semantics.specs.Text.{Text, reason_text, action_text, device_text, value_text, at_device, against_text, run_text, body_text}
use Rattle.golog_semantics.specs.Online.{is_result}
use Rattle.golog_semantics.specs.Reports.{fits_entry, is_exogenous, is_device, is_value, place_limit}
use Rattle.golog_semantics.specs.ReportLaws.{TellsApart}
use Rattle.golog_semantics.proofs.Words.{Stops, and-left, and-right}
use Rattle.golog_semantics.proofs.Names.{constant_tells, device_tells}
use Rattle.golog_semantics.proofs.GroundNumbers.{some-same}
use Rattle.golog_semantics.proofs.ActionNames.{action_tells}
use Rattle.golog_semantics.proofs.Fits.{has_action, Answers, answers, HasRun}
use Rattle.golog_laws.proofs.Runs.{decimal_tells, reason_tells, answer_tells, run_tells}

-- what a line says: the first word of its body
kind : Entry → ℕ
kind (Do action) = 0
kind Test = 1
kind (Exo poster action) = 2
kind (Sense poster place fluent value) = 3
kind (Rest poster taken) = 4
kind (Close poster reason taken) = 5
kind (End answer) = 6

-- the steps of the program
abbrev pub IsStep : Entry → Type 0
IsStep (Do action) = ⊤
IsStep Test = ⊤
IsStep _ = ⊥

kind_of_e : Text → ℕ
kind_of_e [] = 6
kind_of_e (b ∷ bytes) = if b == 120 then 2 else 6

kind_of : Text → ℕ
kind_of [] = 6
kind_of (b ∷ bytes) =
    if b == 100 then 0
    else (if b == 116 then 1
    else (if b == 115 then 3
    else (if b == 114 then 4
    else (if b == 99 then 5 else kind_of_e bytes))))

gap : (x y s : Text) → ((x ++ codes " ") ++ y) ++ s ≡ x ++ 32 ∷ (y ++ s)
gap x y s = append_assoc (x ++ codes " ") y s ∙ append_assoc x (codes " ") (y ++ s)

gaps : (x y z s : Text) → ((((x ++ codes " ") ++ y) ++ codes " ") ++ z) ++ s ≡ x ++ 32 ∷ (y ++ 32 ∷ (z ++ s))
gaps x y z s = gap ((x ++ codes " ") ++ y) z s ∙ gap x y (32 ∷ (z ++ s))

joined : (x y z s : Text) → ((x ++ y) ++ z) ++ s ≡ x ++ (y ++ (z ++ s))
joined x y z s = append_assoc (x ++ y) z s ∙ append_assoc x y (z ++ s)

stops_if : (b : Bool) (x s : Text) → Stops ((if b then 32 ∷ x else []) ++ 10 ∷ s)
stops_if true x s = refl
stops_if false x s = refl

module _ (agent : Agent) (apart : TellsApart agent) (before : Journal) (small : length before ≤ place_limit) (values : Values) where
  kind-is : (e : Entry) (run : Option (List Label)) (s : Text) → kind_of (body_text agent values run e ++ s) ≡ kind e
  unfolding kind kind_of kind_of_e
  kind-is (Do action) run s = refl
  kind-is _ run s = refl

  -- the same entry, and at a step the same run, with the same text after it
  pub record SameBody (e f : Entry) (run other : Option (List Label)) (s t : Text) : Type 0 where
    pub entry : e ≡ f
    pub run_same : IsStep e → run ≡ other
    pub rest : s ≡ t

  abbrev Bodies : Entry → Entry → Option (List Label) → Option (List Label) → Text → Text → Type 0
  Bodies e f run other s t =
      fits_entry agent before e ≡ true → fits_entry agent before f ≡ true → HasRun agent run → HasRun agent other
      → body_text agent values run e ++ 10 ∷ s ≡ body_text agent values other f ++ 10 ∷ t → SameBody e f run other s t

  stops_run : (run : Option (List Label)) (s : Text) → Stops (run_text agent run ++ 10 ∷ s)
  stops_run None s = refl
  stops_run (Some ls) s = refl

  stops_at : (o : Option ℕ) (run : Option (List Label)) (s : Text) → Stops (at_device agent o ++ (run_text agent run ++ 10 ∷ s))
  stops_at None run s = stops_run run s
  stops_at (Some d) run s = refl

  do_body : (a b : ℕ) (run other : Option (List Label)) (s t : Text) → Bodies (Do a) (Do b) run other s t
  do_body a b run other s t h k r q e =
      let inner : ((action_text agent a ++ at_device agent (device_of agent a)) ++ run_text agent run) ++ 10 ∷ s ≡ ((action_text agent b ++ at_device agent (device_of agent b)) ++ run_text agent other) ++ 10 ∷ t = cc in
      let one = action_tells agent apart a b (at_device agent (device_of agent a) ++ (run_text agent run ++ 10 ∷ s)) (at_device agent (device_of agent b) ++ (run_text agent other ++ 10 ∷ t))
      (has_action agent _ a h) (has_action agent _ b k) (stops_at (device_of agent a) run s) (stops_at (device_of agent b) other t)
      (sym (joined (action_text agent a) (at_device agent (device_of agent a)) (run_text agent run) (10 ∷ s)) ∙ inner ∙ joined (action_text agent b) (at_device agent (device_of agent b)) (run_text agent other) (10 ∷ t)) in
      let two = append_cancel_left (at_device agent (device_of agent a)) (run_text agent run ++ 10 ∷ s) (run_text agent other ++ 10 ∷ t)
      (one.1 ∙ ap (λ x. at_device agent (device_of agent x) ++ (run_text agent other ++ 10 ∷ t)) (sym one.0)) in
      let three = run_tells agent apart run other s t r q two in
      record { entry = ap Do one.0; run_same = λ _. three.0; rest = three.1 }

  test_body : (run other : Option (List Label)) (s t : Text) → Bodies Test Test run other s t
  test_body run other s t h k r q e =
      let one = run_tells agent apart run other s t r q (cc) in
      record { entry = refl; run_same = λ _. one.0; rest = one.1 }

  taken_small : (n : ℕ) → nat_le n place_limit ≡ true → n < 2 ^ 64
  taken_small n h = let k : n ≤ place_limit = leb-true n place_limit h in omega arith

  below : (device : ℕ) → is_device agent device ≡ true → device < length agent.devices
  below device h = ltb-true device (length agent.devices) h

  exo_body : (d c a b : ℕ) (run other : Option (List Label)) (s t : Text) → Bodies (Exo d a) (Exo c b) run other s t
  exo_body d c a b run other s t h k r q e =
      let inner : ((device_text agent d ++ codes " ") ++ action_text agent a) ++ 10 ∷ s ≡ ((device_text agent c ++ codes " ") ++ action_text agent b) ++ 10 ∷ t = cc in
      let one = device_tells agent apart d c (32 ∷ (action_text agent a ++ 10 ∷ s)) (32 ∷ (action_text agent b ++ 10 ∷ t))
      (below d (and-left (is_device agent d) (is_exogenous agent a) h)) (below c (and-left (is_device agent c) (is_exogenous agent b) k)) refl refl
      (sym (gap (device_text agent d) (action_text agent a) (10 ∷ s)) ∙ inner ∙ gap (device_text agent c) (action_text agent b) (10 ∷ t)) in
      let next : action_text agent a ++ 10 ∷ s ≡ action_text agent b ++ 10 ∷ t = cc (one.1) in
      let two = action_tells agent apart a b (10 ∷ s) (10 ∷ t)
      (has_action agent _ a (and-right (is_device agent d) (is_exogenous agent a) h)) (has_action agent _ b (and-right (is_device agent c) (is_exogenous agent b) k)) refl refl next in
      record { entry = (λ i. Exo (one.0 i) (two.0 i)); run_same = λ n. absurd n; rest = let f : s ≡ t = cc (two.1) in f }

  rest_body : (d c m n : ℕ) (run other : Option (List Label)) (s t : Text) → Bodies (Rest d m) (Rest c n) run other s t
  rest_body d c m n run other s t h k r q e =
      let inner : ((device_text agent d ++ codes " ") ++ decimal m) ++ 10 ∷ s ≡ ((device_text agent c ++ codes " ") ++ decimal n) ++ 10 ∷ t = cc in
      let one = device_tells agent apart d c (32 ∷ (decimal m ++ 10 ∷ s)) (32 ∷ (decimal n ++ 10 ∷ t))
      (below d (and-left (is_device agent d) (nat_le m place_limit) h)) (below c (and-left (is_device agent c) (nat_le n place_limit) k)) refl refl
      (sym (gap (device_text agent d) (decimal m) (10 ∷ s)) ∙ inner ∙ gap (device_text agent c) (decimal n) (10 ∷ t)) in
      let next : decimal m ++ 10 ∷ s ≡ decimal n ++ 10 ∷ t = cc (one.1) in
      let two = decimal_tells m n (10 ∷ s) (10 ∷ t) (taken_small m (and-right (is_device agent d) (nat_le m place_limit) h)) (taken_small n (and-right (is_device agent c) (nat_le n place_limit) k)) refl refl next in
      record { entry = (λ i. Rest (one.0 i) (two.0 i)); run_same = λ n. absurd n; rest = let f : s ≡ t = cc (two.1) in f }

  close_body : (d c : ℕ) (a b : Reason) (m n : ℕ) (run other : Option (List Label)) (s t : Text) → Bodies (Close d a m) (Close c b n) run other s t
  close_body d c a b m n run other s t h k r q e =
      let inner : ((((device_text agent d ++ codes " ") ++ reason_text a) ++ codes " ") ++ decimal m) ++ 10 ∷ s ≡ ((((device_text agent c ++ codes " ") ++ reason_text b) ++ codes " ") ++ decimal n) ++ 10 ∷ t = cc in
      let one = device_tells agent apart d c (32 ∷ (reason_text a ++ 32 ∷ (decimal m ++ 10 ∷ s))) (32 ∷ (reason_text b ++ 32 ∷ (decimal n ++ 10 ∷ t)))
      (below d (and-left (is_device agent d) (nat_le m place_limit) h)) (below c (and-left (is_device agent c) (nat_le n place_limit) k)) refl refl
      (sym (gaps (device_text agent d) (reason_text a) (decimal m) (10 ∷ s)) ∙ inner ∙ gaps (device_text agent c) (reason_text b) (decimal n) (10 ∷ t)) in
      let next : reason_text a ++ 32 ∷ (decimal m ++ 10 ∷ s) ≡ reason_text b ++ 32 ∷ (decimal n ++ 10 ∷ t) = cc (one.1) in
      let two = reason_tells a b (32 ∷ (decimal m ++ 10 ∷ s)) (32 ∷ (decimal n ++ 10 ∷ t)) tt tt refl refl next in
      let last : decimal m ++ 10 ∷ s ≡ decimal n ++ 10 ∷ t = cc (two.1) in
      let three = decimal_tells m n (10 ∷ s) (10 ∷ t) (taken_small m (and-right (is_device agent d) (nat_le m place_limit) h)) (taken_small n (and-right (is_device agent c) (nat_le n place_limit) k)) refl refl last in
      record { entry = (λ i. Close (one.0 i) (two.0 i) (three.0 i)); run_same = λ n. absurd n; rest = let f : s ≡ t = cc (three.1) in f }

  end_body : (a b : Answer) (run other : Option (List Label)) (s t : Text) → Bodies (End a) (End b) run other s t
  end_body a b run other s t h k r q e =
      let one = answer_tells a b (10 ∷ s) (10 ∷ t) tt tt refl refl (cc) in
      record { entry = ap End one.0; run_same = λ n. absurd n; rest = let f : s ≡ t = cc (one.1) in f }

  -- what it says that a result fits
  record FitsResult (device place fluent value : ℕ) : Type 0 where
    device_below : device < length agent.devices
    value_below : value < sort_size agent (fluent_sort agent fluent)
    place_small : place < 2 ^ 64
    answers_it : Answers agent 0 before place fluent

  fits_result : (d p f v : ℕ) → fits_entry agent before (Sense d p f v) ≡ true → FitsResult d p f v
  fits_result d p f v h =
      let both = and-left (is_device agent d && is_value agent f v) (list_any (is_result agent before p f) (commands agent d before)) h in
      let it = answers agent d p f before (and-right (is_device agent d && is_value agent f v) (list_any (is_result agent before p f) (commands agent d before)) h) in
      record {
        device_below = below d (and-left (is_device agent d) (is_value agent f v) both);
        value_below = ltb-true v (sort_size agent (fluent_sort agent f)) (and-right (nat_lt f (length (ground_fluents agent))) (nat_lt v (sort_size agent (fluent_sort agent f))) (and-right (is_device agent d) (is_value agent f v) both));
        place_small = let a : it.at < length before = it.inside in let b : p ≡ 0 + it.at = it.place_is in omega arith;
        answers_it = it;
      }

  -- the fluent of a result is that of its place
  same-fluent : (p q f g : ℕ) → Answers agent 0 before p f → Answers agent 0 before q g → p ≡ q → f ≡ g
  same-fluent p q f g a b e =
      let at : a.at ≡ b.at = (let k : p ≡ 0 + a.at = a.place_is in let l : q ≡ 0 + b.at = b.place_is in omega arith) in
      let actions : Do a.action ≡ Do b.action = some-same (Do a.action) (Do b.action) (sym a.is ∙ ap (slice_get before) at ∙ b.is) in
      let action : a.action ≡ b.action = cc in
      some-same f g (sym a.senses ∙ ap (fluent_sensed agent) action ∙ b.senses)

  sense_regroup : (x y z w s : Text) → (((((x ++ codes " ") ++ y) ++ codes " ") ++ z) ++ w) ++ s ≡ x ++ 32 ∷ (y ++ 32 ∷ (z ++ (w ++ s)))
  sense_regroup x y z w s = append_assoc ((((x ++ codes " ") ++ y) ++ codes " ") ++ z) w s ∙ gaps x y z (w ++ s)

  stops_against : (f v : ℕ) (s : Text) → Stops (against_text agent f (slice_index values f) v ++ 10 ∷ s)
  stops_against f v s = stops_if (is_known (slice_index values f) && not (slice_index values f == v)) _ s

  value_same : (f g v w : ℕ) (s t : Text) → f ≡ g → v < sort_size agent (fluent_sort agent f) → w < sort_size agent (fluent_sort agent g)
      → value_text agent f v ++ (against_text agent f (slice_index values f) v ++ 10 ∷ s) ≡ value_text agent g w ++ (against_text agent g (slice_index values g) w ++ 10 ∷ t)
      → (v ≡ w) × (s ≡ t)
  value_same f g v w s t e h k same =
      let one = constant_tells agent apart (fluent_sort agent f) v w (against_text agent f (slice_index values f) v ++ 10 ∷ s) (against_text agent f (slice_index values f) w ++ 10 ∷ t)
      h (subst (λ x. w < sort_size agent (fluent_sort agent x)) (sym e) k) (stops_against f v s) (stops_against f w t)
      (same ∙ ap (λ x. value_text agent x w ++ (against_text agent x (slice_index values x) w ++ 10 ∷ t)) (sym e)) in
      let two = append_cancel_left (against_text agent f (slice_index values f) v) (10 ∷ s) (10 ∷ t)
      (one.1 ∙ ap (λ x. against_text agent f (slice_index values f) x ++ 10 ∷ t) (sym one.0)) in
      (one.0, let f : s ≡ t = cc (two) in f)

  sense_body : (d c p q f g v w : ℕ) (run other : Option (List Label)) (s t : Text) → Bodies (Sense d p f v) (Sense c q g w) run other s t
  sense_body d c p q f g v w run other s t h k _ _ e =
      let a = fits_result d p f v h in
      let b = fits_result c q g w k in
      let ours = against_text agent f (slice_index values f) v in
      let theirs = against_text agent g (slice_index values g) w in
      let inner : (((((device_text agent d ++ codes " ") ++ decimal p) ++ codes " ") ++ value_text agent f v) ++ ours) ++ 10 ∷ s
      ≡ (((((device_text agent c ++ codes " ") ++ decimal q) ++ codes " ") ++ value_text agent g w) ++ theirs) ++ 10 ∷ t = cc in
      let one = device_tells agent apart d c (32 ∷ (decimal p ++ 32 ∷ (value_text agent f v ++ (ours ++ 10 ∷ s)))) (32 ∷ (decimal q ++ 32 ∷ (value_text agent g w ++ (theirs ++ 10 ∷ t))))
      a.device_below b.device_below refl refl
      (sym (sense_regroup (device_text agent d) (decimal p) (value_text agent f v) ours (10 ∷ s)) ∙ inner ∙ sense_regroup (device_text agent c) (decimal q) (value_text agent g w) theirs (10 ∷ t)) in
      let next : decimal p ++ 32 ∷ (value_text agent f v ++ (ours ++ 10 ∷ s)) ≡ decimal q ++ 32 ∷ (value_text agent g w ++ (theirs ++ 10 ∷ t)) = cc (one.1) in
      let two = decimal_tells p q (32 ∷ (value_text agent f v ++ (ours ++ 10 ∷ s))) (32 ∷ (value_text agent g w ++ (theirs ++ 10 ∷ t))) a.place_small b.place_small refl refl next in
      let fluent = same-fluent p q f g a.answers_it b.answers_it two.0 in
      let last : value_text agent f v ++ (ours ++ 10 ∷ s) ≡ value_text agent g w ++ (theirs ++ 10 ∷ t) = cc (two.1) in
      let three = value_same f g v w s t fluent a.value_below b.value_below last in
      record { entry = (λ i. Sense (one.0 i) (two.0 i) (fluent i) (three.0 i)); run_same = λ n. absurd n; rest = three.1 }

  bodies_by_kind : (e f : Entry) (run other : Option (List Label)) (s t : Text) → kind e ≡ kind f → Bodies e f run other s t
  unfolding kind
  bodies_by_kind (Do a) (Do b) run other s t _ = do_body a b run other s t
  bodies_by_kind Test Test run other s t _ = test_body run other s t
  bodies_by_kind (Exo d a) (Exo c b) run other s t _ = exo_body d c a b run other s t
  bodies_by_kind (Sense d p f v) (Sense c q g w) run other s t _ = sense_body d c p q f g v w run other s t
  bodies_by_kind (Rest d m) (Rest c n) run other s t _ = rest_body d c m n run other s t
  bodies_by_kind (Close d a m) (Close c b n) run other s t _ = close_body d c a b m n run other s t
  bodies_by_kind (End a) (End b) run other s t _ = end_body a b run other s t
  bodies_by_kind e f run other s t k = absurd (cc)

  pub bodies_tell : (e f : Entry) (run other : Option (List Label)) (s t : Text) → Bodies e f run other s t
  bodies_tell e f run other s t h k r q same =
      bodies_by_kind e f run other s t (sym (kind-is e run (10 ∷ s)) ∙ ap kind_of same ∙ kind-is f other (10 ∷ t)) h k r q same
