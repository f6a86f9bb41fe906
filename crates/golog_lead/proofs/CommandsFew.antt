-- All devices together have no more commands than entries are counted.
use Rattle.std.proofs.Common.{◌≡◌, ℕ, zero, suc, ◌+◌, ◌≤◌, ◌<◌, Bool, true, false, ◌==◌, if◌then◌else◌, Option, Some, None, List, [], ◌∷◌, length, get_or, refl, ap, subst, arith, add-zero}
use Rattle.std.specs.Prelude.{filter_map, sum, sum_by}
use Rattle.std.specs.List.{enumerate_from, cons_option, range_with_len}
use Rattle.std.specs.Option.{option_map_or}
use Rattle.std.proofs.lemmas.Bool.{ne_eqb, eqb-true}
use Rattle.std.proofs.lemmas.List.Sums.{sum_by-cons, count_by-le-length}
use Rattle.golog_tree.specs.declared.agent.Agent.{Agent}
use Rattle.golog_semantics.specs.declared.journal.Entry.{Entry}
use Rattle.golog_semantics.specs.declared.journal.Entry.TheVariants.{Do, Test, Exo, Sense, Rest, Close, End}
use Rattle.golog_semantics.specs.Journal.{Journal, device_of, devices, command_at, commands, is_carried_by, is_counted, count, limit}
use Rattle.golog_journal.specs.Boards.{IsBoardList}

abbrev one_if : Bool → ℕ
one_if b = if b then 1 else 0

-- ---- sums over lists

sum_by-none : (f : ℕ → ℕ) → ((d : ℕ) → f d ≡ 0) → (ds : List ℕ) → sum_by f ds ≡ 0
sum_by-none f none [] = refl
sum_by-none f none (d ∷ ds) =
    let first = sum_by-cons f d ds in
    let this = none d in
    let others = sum_by-none f none ds in
    omega (arith, first, this, others)

sum_by-both : (f g h : ℕ → ℕ) → ((d : ℕ) → h d ≡ f d + g d) → (ds : List ℕ) → sum_by h ds ≡ sum_by f ds + sum_by g ds
sum_by-both f g h both [] = omega arith
sum_by-both f g h both (d ∷ ds) =
    let all = sum_by-cons h d ds in
    let left = sum_by-cons f d ds in
    let right = sum_by-cons g d ds in
    let this = both d in
    let others = sum_by-both f g h both ds in
    omega (arith, all, left, right, this, others)

-- the sum over a list is within that over as many numbers, where each element is within its number's
sum_by-row : {A : Type 0} (f : A → ℕ) (g : ℕ → ℕ) (from : ℕ) (ds : List A) → ((d : ℕ) (x : A) → d < length ds → f (get_or ds d x) ≤ g (from + d))
    → sum_by f ds ≤ sum_by g (range_with_len from (length ds))
sum_by-row f g from [] within = omega arith
sum_by-row f g from (y ∷ ds) within =
    let left = sum_by-cons f y ds in
    let right = sum_by-cons g from (range_with_len (from + 1) (length ds)) in
    let this : f y ≤ g from = subst (λ k. f y ≤ g k) (add-zero from) (within 0 y (omega arith)) in
    let others = sum_by-row f g (from + 1) ds (λ d x l. subst (λ k. f (get_or ds d x) ≤ g k) (let k : from + suc d ≡ (from + 1) + d = omega arith in k) (within (suc d) x (omega (arith, l)))) in
    omega (arith, left, right, this, others)

-- ---- one device at most carries an action out

none-from : (x from n : ℕ) → x < from → sum_by (λ d. one_if (x == d)) (range_with_len from n) ≡ 0
none-from x from zero h = refl
none-from x from (suc n) h =
    let first = sum_by-cons (λ d. one_if (x == d)) from (range_with_len (from + 1) n) in
    let this : one_if (x == from) ≡ 0 = ap one_if (ne_eqb x from (λ same. omega (arith, same, h))) in
    let others = none-from x (from + 1) n (omega (arith, h)) in
    omega (arith, first, this, others)

one-after : (x from n : ℕ) (b : Bool) → (x == from) ≡ b → sum_by (λ d. one_if (x == d)) (range_with_len (from + 1) n) ≤ 1 → sum_by (λ d. one_if (x == d)) (range_with_len from (suc n)) ≤ 1
one-after x from n true e few =
    let all = sum_by-cons (λ d. one_if (x == d)) from (range_with_len (from + 1) n) in
    let this : one_if (x == from) ≡ 1 = ap one_if e in
    let same = eqb-true x from e in
    let others = none-from x (from + 1) n (omega (arith, same)) in
    omega (arith, all, this, others)
one-after x from n false e few =
    let all = sum_by-cons (λ d. one_if (x == d)) from (range_with_len (from + 1) n) in
    let this : one_if (x == from) ≡ 0 = ap one_if e in
    omega (arith, all, this, few)

one-from : (x from n : ℕ) → sum_by (λ d. one_if (x == d)) (range_with_len from n) ≤ 1
one-from x from zero = omega arith
one-from x from (suc n) = one-after x from n (x == from) refl (one-from x (from + 1) n)

one-carries : (o : Option ℕ) (from n : ℕ) → sum_by (λ d. one_if (option_map_or (λ x. x == d) o false)) (range_with_len from n) ≤ 1
one-carries None from n = let none = sum_by-none (λ d. one_if false) (λ d. refl) (range_with_len from n) in omega (arith, none)
one-carries (Some x) from n = one-from x from n

-- ---- commands

lengthens : {A : Type 0} (b : Bool) (x : A) (xs : List A) → length (cons_option (if b then Some x else None) xs) ≡ one_if b + length xs
lengthens true x xs = omega arith
lengthens false x xs = omega arith

grown : (e : Entry) (journal : Journal) (n : ℕ) → n ≤ count journal → n ≤ count (e ∷ journal)
grown e journal n few =
    let more = sum_by-cons (λ x. if is_counted x then 1 else 0) e journal in
    omega (arith, more, few)

grown-one : (action : ℕ) (journal : Journal) (n : ℕ) → n ≤ 1 + count journal → n ≤ count (Do action ∷ journal)
grown-one action journal n few =
    let more : count (Do action ∷ journal) ≡ 1 + count journal = sum_by-cons (λ x. if is_counted x then 1 else 0) (Do action) journal in
    omega (arith, more, few)

module _ (agent : Agent) (from n : ℕ) where
  abbrev row : List ℕ
  row = range_with_len from n

  abbrev those : ℕ → Journal → ℕ → ℕ
  those place journal d = length (filter_map (command_at agent d) (enumerate_from place journal))

  few-from : (place : ℕ) (journal : Journal) → sum_by (those place journal) row ≤ count journal
  few-from place [] = let none = sum_by-none (those place []) (λ d. refl) row in omega (arith, none)
  few-from place (Do action ∷ journal) =
      let few = few-from (place + 1) journal in
      let both = sum_by-both (λ d. one_if (is_carried_by agent d action)) (those (place + 1) journal) (those place (Do action ∷ journal)) (λ d. lengthens (is_carried_by agent d action) _ _) row in
      let one = one-carries (device_of agent action) from n in
      grown-one action journal (sum_by (those place (Do action ∷ journal)) row) (omega (arith, few, both, one))
  few-from place (Test ∷ journal) = grown Test journal _ (few-from (place + 1) journal)
  few-from place (Exo p a ∷ journal) = grown (Exo p a) journal _ (few-from (place + 1) journal)
  few-from place (Sense p at f v ∷ journal) = grown (Sense p at f v) journal _ (few-from (place + 1) journal)
  few-from place (Rest p t ∷ journal) = grown (Rest p t) journal _ (few-from (place + 1) journal)
  few-from place (Close p r t ∷ journal) = grown (Close p r t) journal _ (few-from (place + 1) journal)
  few-from place (End a ∷ journal) = grown (End a) journal _ (few-from (place + 1) journal)

-- not all entries are counted
pub count_within : (journal : Journal) → count journal ≤ length journal
count_within journal = count_by-le-length is_counted journal

module _ (agent : Agent) (journal : Journal) where
  pub all_commands_few : (from n : ℕ) → sum_by (λ d. length (commands agent d journal)) (range_with_len from n) ≤ count journal
  all_commands_few from n = few-from agent from n 0 journal

  pub commands_few : sum_by (λ d. length (commands agent d journal)) (devices agent) ≤ count journal
  commands_few = all_commands_few 0 (length agent.devices)

  -- devices that have taken no more than their commands
  pub taken_by_few : {A : Type 0} (f : A → ℕ) (ds : List A) → ((d : ℕ) (x : A) → d < length ds → f (get_or ds d x) ≤ length (commands agent d journal)) → sum_by f ds ≤ count journal
  taken_by_few f ds within =
      let least = sum_by-row f (λ d. length (commands agent d journal)) 0 ds (λ d x l. subst (λ k. f (get_or ds d x) ≤ length (commands agent k journal)) (let k : d ≡ 0 + d = omega arith in k) (within d x l)) in
      let few = all_commands_few 0 (length ds) in
      omega (arith, least, few)

  pub taken_few : (taken : List ℕ) → ((d x : ℕ) → d < length taken → get_or taken d x ≤ length (commands agent d journal)) → sum taken ≤ count journal
  taken_few taken within = taken_by_few (λ x. x) taken within

  pub taken_within : IsBoardList agent journal → (taken : List ℕ) → ((d x : ℕ) → d < length taken → get_or taken d x ≤ length (commands agent d journal)) → sum taken ≤ limit
  taken_within list taken within =
      let few = taken_few taken within in
      let room : count journal ≤ limit = list.room in
      omega (arith, few, room)
