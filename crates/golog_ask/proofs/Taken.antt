-- A condition taken back over the last of some entries has, after the others, the truth that it has after all.
use Rattle.std.proofs.Common.{◌≡◌, ℕ, zero, suc, ◌<◌, ◌≤◌, ◌-◌, Option, Some, None, [], ◌∷◌, ◌++◌, drop, take, get_or, length, refl, sym, ap, ◌∙◌, subst, arith}
use Rattle.std.specs.Prelude.{fold, IfOk, IsTrue, Result, Ok, Err}
use Rattle.std.proofs.lemmas.List.{take-append-drop}
use Rattle.std.proofs.lemmas.List.Sums.{fold-append}
use Rattle.golog_tree.specs.declared.agent.Agent.{Agent}
use Rattle.golog_tree.specs.declared.cond.Cond.{Cond}
use Rattle.golog_tree.specs.Ground.{ground_fluents}
use Rattle.golog_semantics.specs.declared.journal.Entry.{Entry}
use Rattle.golog_semantics.specs.declared.journal.Entry.TheVariants.{Do, Test, Exo, Sense, Rest, Close, End}
use Rattle.golog_semantics.specs.Fits.{cond_fits, nothing_bound}
use Rattle.golog_semantics.specs.Journal.{Journal}
use Rattle.golog_semantics.specs.Progress.{after_entry, values_after}
use Rattle.golog_semantics.specs.SortLaws.{ResultsFit}
use Rattle.golog_semantics.specs.Truth.{Env, Values, env_of, truth_of}
use Rattle.golog_semantics.specs.WellFormed.{WellFormed}
use Rattle.golog_semantics.proofs.CausesKeep.{values_stay_in_sorts}
use Rattle.golog_known.specs.Fits.{CondFitsAt}
use Rattle.golog_progress.specs.Entries.{EntryFits, EntriesFit}
use Rattle.golog_regress.specs.declared.event.Event.{Event}
use Rattle.golog_regress.specs.declared.event.Event.TheVariants.{Did, Sensed}
use Rattle.golog_regress.specs.Regression.{after_event, EventFits, IsRegressed}
use Rattle.golog_regress.proofs.Events.{over_none, over_both}
use Rattle.golog_ask.specs.Events.{event_of, put_before, events_of}
use Rattle.golog_ask.proofs.Closed.{closed}

events_of-append : (xs ys : Journal) → events_of (xs ++ ys) ≡ events_of xs ++ events_of ys
events_of-append [] ys = refl
events_of-append (x ∷ xs) ys = go (event_of x) (events_of-append xs ys)
  where
    go : (o : Option Event) → events_of (xs ++ ys) ≡ events_of xs ++ events_of ys → put_before o (events_of (xs ++ ys)) ≡ put_before o (events_of xs) ++ events_of ys
    go None rest = rest
    go (Some event) rest = ap (λ events. event ∷ events) rest

drop-parts : (m n : ℕ) (xs : Journal) → m ≤ n → drop m xs ≡ drop m (take n xs) ++ drop n xs
drop-parts zero n xs h = sym (take-append-drop n xs)
drop-parts (suc m) zero xs h = absurd (omega arith)
drop-parts (suc m) (suc n) [] h = refl
drop-parts (suc m) (suc n) (x ∷ xs) h = drop-parts m n xs (omega arith)

last-of : (xs : Journal) (n : ℕ) (d : Entry) → n < length xs → drop n (take (suc n) xs) ≡ get_or xs n d ∷ []
last-of [] n d h = absurd (omega arith)
last-of (x ∷ xs) zero d h = refl
last-of (x ∷ xs) (suc n) d h = last-of xs n d (omega arith)

pub fit-first : (agent : Agent) (xs : Journal) (n : ℕ) → EntriesFit agent xs → EntriesFit agent (take n xs)
fit-first agent xs zero h = tt
fit-first agent [] (suc n) h = tt
fit-first agent (x ∷ xs) (suc n) h = (h.0, fit-first agent xs n h.1)

pub event-fits : (agent : Agent) (entry : Entry) (event : Event) → EntryFits agent entry → event_of entry ≡ Some event → EventFits agent event
event-fits agent (Do action) event h e = let same : Did action ≡ event = cc in subst (EventFits agent) same h
event-fits agent Test event h e = absurd (cc)
event-fits agent (Exo poster action) event h e = let same : Did action ≡ event = cc in subst (EventFits agent) same h
event-fits agent (Sense poster place fluent value) event h e = let same : Sensed fluent value ≡ event = cc in subst (EventFits agent) same h
event-fits agent (Rest poster taken) event h e = absurd (cc)
event-fits agent (Close poster reason taken) event h e = absurd (cc)
event-fits agent (End answer) event h e = absurd (cc)

-- the values after the events are those after the entries
values-same : (agent : Agent) (values : Values) (xs : Journal) → fold (after_event agent) values (events_of xs) ≡ fold (after_entry agent) values xs
values-same agent values [] = refl
values-same agent values (Do action ∷ xs) = values-same agent (after_entry agent values (Do action)) xs
values-same agent values (Test ∷ xs) = values-same agent values xs
values-same agent values (Exo poster action ∷ xs) = values-same agent (after_entry agent values (Exo poster action)) xs
values-same agent values (Sense poster place fluent value ∷ xs) = values-same agent (after_entry agent values (Sense poster place fluent value)) xs
values-same agent values (Rest poster taken ∷ xs) = values-same agent values xs
values-same agent values (Close poster reason taken ∷ xs) = values-same agent values xs
values-same agent values (End answer ∷ xs) = values-same agent values xs

-- the values after all entries, by the first of them and the events among the others
pub values-after-all : (agent : Agent) (values : Values) (xs : Journal) (n : ℕ)
    → fold (after_event agent) (fold (after_entry agent) values (take n xs)) (events_of (drop n xs)) ≡ fold (after_entry agent) values xs
values-after-all agent values xs n =
    values-same agent (fold (after_entry agent) values (take n xs)) (drop n xs)
    ∙ sym (fold-append (after_entry agent) values (take n xs) (drop n xs))
    ∙ ap (fold (after_entry agent) values) (take-append-drop n xs)

-- a condition before no entry
pub back-none : (agent : Agent) (xs : Journal) (c answer : Cond) → answer ≡ c → IsRegressed agent (events_of (drop (length xs) xs)) c answer
back-none agent xs c answer same = subst (λ ys. IsRegressed agent (events_of ys) c answer) (sym (past xs)) (over_none agent c answer same)
  where
    past : (xs : Journal) → drop (length xs) xs ≡ []
    past [] = refl
    past (x ∷ xs) = past xs

-- a condition taken back over some entries, and then over those before them
pub back-more : (agent : Agent) → WellFormed agent → (xs : Journal) (m n : ℕ) → m ≤ n → (c later answer : Cond) → IsRegressed agent (events_of (drop n xs)) c later
    → IsRegressed agent (events_of (drop m (take n xs))) later answer → IsRegressed agent (events_of (drop m xs)) c answer
back-more agent fits xs m n h c later answer r s =
    subst (λ events. IsRegressed agent events c answer) (sym (ap events_of (drop-parts m n xs h) ∙ events_of-append (drop m (take n xs)) (drop n xs)))
    (over_both agent fits (events_of (drop m (take n xs))) (events_of (drop n xs)) c later answer r s)

-- a condition taken back over one more entry
pub back-one : (agent : Agent) → WellFormed agent → (xs : Journal) (n : ℕ) (d : Entry) → 0 < n → n ≤ length xs → (c later answer : Cond) → IsRegressed agent (events_of (drop n xs)) c later
    → IsRegressed agent (events_of (get_or xs (n - 1) d ∷ [])) later answer → IsRegressed agent (events_of (drop (n - 1) xs)) c answer
back-one agent fits xs n d some inside c later answer r s =
    let next : n ≡ suc (n - 1) = omega arith in
    back-more agent fits xs (n - 1) n (omega arith) c later answer r
    (subst (λ ys. IsRegressed agent (events_of ys) later answer) (sym (ap (λ m. drop (n - 1) (take m xs)) next ∙ last-of xs (n - 1) d (omega arith))) s)

-- a condition taken back over an entry by its event
pub back-event : (agent : Agent) (entry : Entry) (o : Option Event) (event : Event) → o ≡ event_of entry → o ≡ Some event
    → (c answer : Cond) → IsRegressed agent (event ∷ []) c answer → IsRegressed agent (events_of (entry ∷ [])) c answer
back-event agent entry o event same is c answer = subst (λ p. IsRegressed agent (put_before p []) c answer) (sym is ∙ same)

-- a condition taken back over an entry that is no event
pub back-no-event : (agent : Agent) (entry : Entry) (o : Option Event) → o ≡ event_of entry → o ≡ None
    → (c answer : Cond) → answer ≡ c → IsRegressed agent (events_of (entry ∷ [])) c answer
back-no-event agent entry o same is c answer e = subst (λ p. IsRegressed agent (put_before p []) c answer) (sym is ∙ same) (over_none agent c answer e)

pub if-ok-more : {A E : Type 0} (P Q : A → Type 0) (r : Result A E) → ((a : A) → P a → Q a) → IfOk r P → IfOk r Q
if-ok-more P Q (Ok a) k h = k a h
if-ok-more P Q (Err e) k h = tt

-- the truth after all entries of what was taken back over the last of them
pub truth-before : (agent : Agent) (xs : Journal) (n : ℕ) (values : Values) (c answer : Cond) (env : Env) → IsRegressed agent (events_of (drop n xs)) c answer
    → length (fold (after_entry agent) values (take n xs)) ≡ length (ground_fluents agent) → length env ≡ 32 → CondFitsAt agent c env
    → truth_of agent (fold (after_entry agent) values (take n xs)) answer env ≡ truth_of agent (fold (after_entry agent) values xs) c env
truth-before agent xs n values c answer env r whole count at =
    r.truth (fold (after_entry agent) values (take n xs)) env whole count at ∙ ap (λ vs. truth_of agent vs c env) (values-after-all agent values xs n)

env-length : length (env_of []) ≡ 32
unfolding env_of
env-length = refl

results-fit : (agent : Agent) (xs : Journal) → EntriesFit agent xs → ResultsFit agent xs
results-fit agent [] h = tt
results-fit agent (Do action ∷ xs) h = results-fit agent xs h.1
results-fit agent (Test ∷ xs) h = results-fit agent xs h.1
results-fit agent (Exo poster action ∷ xs) h = results-fit agent xs h.1
results-fit agent (Sense poster place fluent value ∷ xs) h = (h.0, results-fit agent xs h.1)
results-fit agent (Rest poster taken ∷ xs) h = results-fit agent xs h.1
results-fit agent (Close poster reason taken ∷ xs) h = results-fit agent xs h.1
results-fit agent (End answer ∷ xs) h = results-fit agent xs h.1

-- after the first entries a condition taken back over the others has the truth that it has after all
pub truth-after : (agent : Agent) → WellFormed agent → (xs : Journal) (n : ℕ) (c answer : Cond) → EntriesFit agent xs → IsTrue (cond_fits agent c nothing_bound) → IsRegressed agent (events_of (drop n xs)) c answer
    → truth_of agent (values_after agent (take n xs)) answer (env_of []) ≡ truth_of agent (values_after agent xs) c (env_of [])
truth-after agent formed xs n c answer entries fit r =
    truth-before agent xs n agent.starts c answer (env_of []) r
    (values_stay_in_sorts agent formed (take n xs) (results-fit agent (take n xs) (fit-first agent xs n entries))).whole
    env-length (closed agent c (env_of []) fit)
