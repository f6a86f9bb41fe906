-- What stands with one more entry.
use Rattle.std.proofs.Common.{◌≡◌, ℕ, ◌+◌, ◌-◌, ◌≤◌, ◌<◌, Bool, true, false, not, ◌||◌, ◌==◌, List, [], ◌∷◌, ◌++◌, length, length-append, length-drop, drop, get_or, take, Option, Some, None, refl, sym, ap, ◌∙◌, subst, arith}
use Rattle.std.specs.Prelude.{is_some, nat_lt, if◌then◌else◌}
use Rattle.std.specs.Option.{option_map_or}
use mir.Val.{bool_byte}
use Rattle.std.proofs.lemmas.Bool.{and_parts, ltb-true, ne_eqb}
use Rattle.std.proofs.lemmas.List.{take-append-le, take_all}
use Rattle.std.proofs.lemmas.List.Elements.{Contains-append_left, Contains-push}
use Rattle.golog_base.proofs.Bools.{or-false, or-true}
use Rattle.golog_tree.specs.declared.agent.Agent.{Agent}
use Rattle.golog_semantics.specs.declared.journal.Answer.{Answer}
use Rattle.golog_semantics.specs.declared.journal.Entry.{Entry}
use Rattle.golog_semantics.specs.declared.journal.Entry.TheVariants.{Do, Test, Exo, Sense, Rest, Close, End}
use Rattle.golog_tree.specs.Ground.{sort_size}
use Rattle.golog_semantics.specs.Values.{fluent_sort}
use Rattle.golog_semantics.specs.Ways.{is_empty}
use Rattle.golog_semantics.specs.Journal.{Journal, Command, count, has_end, is_counted, is_end, is_result_of, poster_of}
use Rattle.golog_semantics.specs.Online.{keeps_place}
use Rattle.golog_semantics.specs.Reports.{fits_entry}
use Rattle.golog_semantics.proofs.Grown.{entries_grow}
use Rattle.golog_replay.specs.declared.standing.Held.{Held}
use Rattle.golog_replay.specs.declared.tracked.Tracked.{Tracked}
use Rattle.golog_replay.specs.declared.tracked.Awaited.{Awaited}
use Rattle.golog_replay.specs.Standings.{AreEarlier, AreTracked, AwaitsFrom, EndsBy, HoldsBy, first_awaited, commands_from, untouched}
use Rattle.golog_replay.proofs.Awaiting.{ItsResult, awaits-next, awaits-same, earlier-place, earlier-still, holds-still, its-result, none-any}

-- the end
pub ends-now : (journal : Journal) (answer : Answer) → EndsBy (journal ++ End answer ∷ []) (Some answer)
ends-now journal answer = ((entries_grow journal (End answer)).end ∙ or-true (has_end journal), Contains-push journal (End answer))

pub ends-still : (journal : Journal) (e : Entry) (ended : Option Answer) → is_end e ≡ false → EndsBy journal ended → EndsBy (journal ++ e ∷ []) ended
ends-still journal e None other h = (entries_grow journal e).end ∙ ap (λ b. has_end journal || b) other ∙ or-false (has_end journal) ∙ h
ends-still journal e (Some answer) other h = (
  (entries_grow journal e).end ∙ ap (λ b. b || is_end e) h.0,
  Contains-append_left journal (e ∷ []) (End answer) h.1,
)

pub not-end : (e : Entry) → ((answer : Answer) → e ≡ End answer → ⊥) → is_end e ≡ false
not-end (End answer) other = absurd (other answer refl)
not-end (Do action) other = refl
not-end Test other = refl
not-end (Exo p a) other = refl
not-end (Sense p at f v) other = refl
not-end (Rest p t) other = refl
not-end (Close p r t) other = refl

pub not-some : {A : Type 0} (o : Option A) → ((x : A) → o ≡ Some x → ⊥) → o ≡ None
not-some None other = refl
not-some (Some x) other = absurd (other x refl)

pub flipped : (a b : Bool) → a ≡ not b → b ≡ not a
flipped a true h = sym (ap not h)
flipped a false h = sym (ap not h)

pub as-number : (b : Bool) → bool_byte b ≡ (if b then 1 else 0)
as-number true = refl
as-number false = refl

pub empty-by : {A : Type 0} (n : ℕ) (xs : List A) → n ≡ length xs → (n == 0) ≡ is_empty xs
empty-by n [] h = ap (λ k. k == 0) h
empty-by n (x ∷ xs) h = ne_eqb n 0 (λ e. omega (arith, e, h))

-- a result carries a value of its fluent's sort
pub value-within : (agent : Agent) (journal : Journal) (p at f v : ℕ) → fits_entry agent journal (Sense p at f v) ≡ true
    → nat_lt v (sort_size agent (fluent_sort agent f)) ≡ true
value-within agent journal p at f v fits = (and_parts _ _ (and_parts _ _ (and_parts _ _ fits).0).1).1

-- the device that posts an entry is the agent's
pub poster-within : (agent : Agent) (journal : Journal) (e : Entry) (p : ℕ) → poster_of e ≡ Some p → fits_entry agent journal e ≡ true → p < length agent.devices
poster-within agent journal (Do action) p h fits = absurd (cc)
poster-within agent journal Test p h fits = absurd (cc)
poster-within agent journal (End a) p h fits = absurd (cc)
poster-within agent journal (Exo q a) p h fits =
    let same : q ≡ p = cc in subst (λ k. k < length agent.devices) same (ltb-true q (length agent.devices) (and_parts _ _ fits).0)
poster-within agent journal (Sense q at f v) p h fits =
    let same : q ≡ p = cc in
    subst (λ k. k < length agent.devices) same (ltb-true q (length agent.devices) (and_parts _ _ (and_parts _ _ fits).0).0)
poster-within agent journal (Rest q t) p h fits =
    let same : q ≡ p = cc in subst (λ k. k < length agent.devices) same (ltb-true q (length agent.devices) (and_parts _ _ fits).0)
poster-within agent journal (Close q r t) p h fits =
    let same : q ≡ p = cc in subst (λ k. k < length agent.devices) same (ltb-true q (length agent.devices) (and_parts _ _ fits).0)

-- a list from a place on
pub list-behind : {A : Type 0} (n : ℕ) (xs : List A) → take (length xs - n) (drop n xs) ≡ drop n xs
list-behind n xs = take_all (length xs - n) (drop n xs) (let k = length-drop n xs in omega (arith, k))

-- the result that an entry of a device is
pub result-of : (agent : Agent) (journal : Journal) (tracked : List Tracked) → AreTracked agent journal tracked
    → (p at f v : ℕ) → fits_entry agent journal (Sense p at f v) ≡ true → keeps_place agent journal (Sense p at f v) ≡ true → at < length journal
result-of agent journal tracked are p at f v fits keeps =
    let low = poster-within agent journal (Sense p at f v) p refl fits in
    let one = are.one_each in
    let its = are.each p untouched (omega (arith, low, one)) in
    earlier-place agent journal p at (get_or tracked p untouched).first
    (its-result agent journal p (get_or tracked p untouched).first its.awaits at f v keeps)

module _ (agent : Agent) (journal : Journal) (tracked : List Tracked) (are : AreTracked agent journal tracked) where
  not-later : (e : Entry) → fits_entry agent journal e ≡ true → keeps_place agent journal e ≡ true → (place : ℕ) → length journal + 1 ≤ place → is_result_of place e ≡ false
  not-later (Sense p at f v) fits h place high =
      let low = result-of agent journal tracked are p at f v fits h in
      ne_eqb at place (λ e. omega (arith, low, e, high))
  not-later (Do action) fits h place high = refl
  not-later Test fits h place high = refl
  not-later (Exo p a) fits h place high = refl
  not-later (Rest p t) fits h place high = refl
  not-later (Close p r t) fits h place high = refl
  not-later (End a) fits h place high = refl

  pub results-still : (e : Entry) → fits_entry agent journal e ≡ true → keeps_place agent journal e ≡ true → AreEarlier journal → AreEarlier (journal ++ e ∷ [])
  results-still e fits h results = earlier-still journal e results (not-later e fits h)

-- what the program waits for, where the entry is neither an action nor a result
pub waits-on : (agent : Agent) (journal : Journal) (o : Option Held) → HoldsBy agent journal o → (e : Entry) → ((action : ℕ) → e ≡ Do action → ⊥)
    → ((p at f v : ℕ) → e ≡ Sense p at f v → ⊥) → HoldsBy agent (journal ++ e ∷ []) o
waits-on agent journal o holds (Do action) other none = absurd (other action refl)
waits-on agent journal o holds (Sense p at f v) other none = absurd (none p at f v refl)
waits-on agent journal o holds Test other none = holds-still agent journal Test (λ c. refl) (λ d. refl) o holds
waits-on agent journal o holds (Exo p a) other none = holds-still agent journal (Exo p a) (λ c. refl) (λ d. refl) o holds
waits-on agent journal o holds (Rest p t) other none = holds-still agent journal (Rest p t) (λ c. refl) (λ d. refl) o holds
waits-on agent journal o holds (Close p r t) other none = holds-still agent journal (Close p r t) (λ c. refl) (λ d. refl) o holds
waits-on agent journal o holds (End a) other none = holds-still agent journal (End a) (λ c. refl) (λ d. refl) o holds

-- the first result of a device that is to come, after an entry of it that is no result
pub first-still : (agent : Agent) (journal : Journal) (d : ℕ) (o : Option Awaited) → AwaitsFrom agent journal d o → (e : Entry) → poster_of e ≡ Some d
    → ((p at f v : ℕ) → e ≡ Sense p at f v → ⊥) → AwaitsFrom agent (journal ++ e ∷ []) d o
first-still agent journal d o is (Do action) own other = absurd (cc)
first-still agent journal d o is Test own other = absurd (cc)
first-still agent journal d o is (Exo p a) own other =
    awaits-same agent journal (Exo p a) d refl o is (none-any (λ (c : Command). is_result_of c.place (Exo p a)) is.coming (λ c. refl))
first-still agent journal d o is (Sense p at f v) own other = absurd (other p at f v refl)
first-still agent journal d o is (Rest p t) own other =
    awaits-same agent journal (Rest p t) d refl o is (none-any (λ (c : Command). is_result_of c.place (Rest p t)) is.coming (λ c. refl))
first-still agent journal d o is (Close p r t) own other =
    awaits-same agent journal (Close p r t) d refl o is (none-any (λ (c : Command). is_result_of c.place (Close p r t)) is.coming (λ c. refl))
first-still agent journal d o is (End a) own other = absurd (cc)

-- the result that a device's entry is, where the first result of it that is to come is this
pub its-own : (agent : Agent) (journal : Journal) (d : ℕ) (o : Option Awaited) → AwaitsFrom agent journal d o → (p at f v : ℕ) → p ≡ d
    → keeps_place agent journal (Sense p at f v) ≡ true → ItsResult agent journal d at o
its-own agent journal d o is p at f v same keeps =
    its-result agent journal d o is at f v (sym (ap (λ k. keeps_place agent journal (Sense k at f v)) same) ∙ keeps)

-- and the first after it
pub first-next : (agent : Agent) (journal : Journal) (d : ℕ) (o : Option Awaited) → AwaitsFrom agent journal d o → (p at f v : ℕ) → p ≡ d
    → ItsResult agent journal d at o → (new : Option Awaited)
    → new ≡ first_awaited agent (option_map_or (λ (a : Awaited). a.number) o 0) (commands_from agent d (at + 1) (drop (at + 1) journal))
    → AwaitsFrom agent (journal ++ Sense p at f v ∷ []) d new
first-next agent journal d o is p at f v same r new so =
    subst (λ k. AwaitsFrom agent (journal ++ Sense k at f v ∷ []) d new) (sym same) (awaits-next agent journal d at f v o is r new so)

pub count-more : (journal : Journal) (e : Entry) → count (journal ++ e ∷ []) ≡ count journal + (if is_counted e then 1 else 0)
count-more journal e = (entries_grow journal e).counted

pub counted-most : (n : ℕ) (journal : Journal) (e : Entry) (one : ℕ) → n ≤ length journal → one ≡ (if is_counted e then 1 else 0)
    → n + one ≤ length (journal ++ e ∷ [])
counted-most n journal e one few is = go (is_counted e) is
  where
    go : (b : Bool) → one ≡ (if b then 1 else 0) → n + one ≤ length (journal ++ e ∷ [])
    go true h = let l = length-append journal (e ∷ []) in omega (arith, few, h, l)
    go false h = let l = length-append journal (e ∷ []) in omega (arith, few, h, l)

-- what is written in front of a list, and what is taken of both
pub written : {A : Type 0} (n : ℕ) (new rest : List A) → length new ≡ n → take n (new ++ rest) ≡ new
written n new rest h = take-append-le n new rest (omega (arith, h)) ∙ take_all n new (omega (arith, h))

pub has-end-by : (journal : Journal) (ended : Option Answer) → EndsBy journal ended → has_end journal ≡ is_some ended
has-end-by journal None h = h
has-end-by journal (Some answer) h = h.0
