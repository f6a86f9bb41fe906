-- Tallies with one more entry.
use Rattle.std.proofs.Common.{◌≡◌, ◌≢◌, ℕ, zero, suc, ◌+◌, ◌≤◌, ◌<◌, Bool, true, false, not, ◌&&◌, ◌||◌, ◌==◌, if◌then◌else◌, Option, Some, None, List, [], ◌∷◌, ◌++◌, length, length-append, set, get_or, refl, sym, ap, ◌∙◌, subst, arith, ◌⊎◌, inl, inr, get_or-set_same, get_or-set_other, length-set}
use Rattle.std.specs.Prelude.{count_by}
use Rattle.std.specs.List.{list_any}
use Rattle.std.specs.Option.{option_to_list, option_map_or}
use Rattle.std.proofs.lemmas.Bool.{cases_eq, eq-eqb, ne_eqb}
use Rattle.std.proofs.lemmas.List.{append-nil}
use Rattle.std.proofs.lemmas.List.Sums.{sum_by-set, sum_by-cons, count_by-le-length}
use Rattle.golog_tree.specs.declared.agent.Agent.{Agent}
use Rattle.golog_semantics.specs.declared.journal.Entry.{Entry}
use Rattle.golog_semantics.specs.declared.journal.Entry.TheVariants.{Do}
use Rattle.golog_semantics.specs.Journal.{Journal, Command, device_of, command_at, commands, outstanding_commands, is_posted_by, entries_by, is_close, is_open, is_end, has_end, count, last_of}
use Rattle.golog_semantics.proofs.Pushed.{fold-push}
use Rattle.golog_semantics.proofs.Grown.{posted-push, posts_grow, commands-push, entries_grow}
use Rattle.golog_journal.specs.declared.standing.Standing.{Standing}
use Rattle.golog_journal.specs.Tallies.{rested_after, IsTally, closed, AreTallies}

-- whose command an action is
module _ (agent : Agent) (journal : Journal) (action : ℕ) where
  command-if : (d : ℕ) (o : Option ℕ) (b : Bool) → device_of agent action ≡ o → option_map_or (λ x. x == d) o false ≡ b
      → command_at agent d (length journal, Do action) ≡ (if b then Some (record { place = length journal; action = action }) else None)
  command-if d o b is by =
      ap (λ c. if c then Some (record { place = length journal; action = action }) else None)
      (ap (λ p. option_map_or (λ x. x == d) p false) is ∙ by)

  pub no-carrier : device_of agent action ≡ None → (d : ℕ) → command_at agent d (length journal, Do action) ≡ None
  no-carrier none d = command-if d None false none refl

  pub other-carrier : (i : ℕ) → device_of agent action ≡ Some i → (d : ℕ) → d ≢ i → command_at agent d (length journal, Do action) ≡ None
  other-carrier i device d other = command-if d (Some i) false device (ne_eqb i d (λ e. other (sym e)))

  pub own-carrier : (i : ℕ) → device_of agent action ≡ Some i
      → command_at agent i (length journal, Do action) ≡ Some (record { place = length journal; action = action })
  own-carrier i device = command-if i (Some i) true device (eq-eqb i i refl)

module _ (agent : Agent) (journal : Journal) (e : Entry) where
  abbrev after : Journal
  after = journal ++ e ∷ []

  posted-other : (d : ℕ) → is_posted_by d e ≡ false → entries_by d after ≡ entries_by d journal
  posted-other d other =
      posted-push journal e d ∙ ap (λ b. entries_by d journal ++ (if b then e ∷ [] else [])) other ∙ append-nil (entries_by d journal)

  posted-own : (d : ℕ) → is_posted_by d e ≡ true → entries_by d after ≡ entries_by d journal ++ e ∷ []
  posted-own d own = posted-push journal e d ∙ ap (λ b. entries_by d journal ++ (if b then e ∷ [] else [])) own

  pub commands-same : (d : ℕ) → command_at agent d (length journal, e) ≡ None → commands agent d after ≡ commands agent d journal
  commands-same d none =
      commands-push agent journal e d ∙ ap (λ o. commands agent d journal ++ option_to_list o) none ∙ append-nil (commands agent d journal)

  pub commands-more : (d : ℕ) (c : Command) → command_at agent d (length journal, e) ≡ Some c → commands agent d after ≡ commands agent d journal ++ c ∷ []
  commands-more d c some = commands-push agent journal e d ∙ ap (λ o. commands agent d journal ++ option_to_list o) some

  -- the entry is neither posted by the device nor a command of it, and no result of it
  pub tally-stays : (d : ℕ) (t : Standing) → is_posted_by d e ≡ false → command_at agent d (length journal, e) ≡ None
      → outstanding_commands agent d after ≡ outstanding_commands agent d journal
      → IsTally agent journal d t → IsTally agent after d t
  tally-stays d t other none out is = record {
    has_commands = is.has_commands ∙ ap length (sym (commands-same d none));
    has_outstanding = is.has_outstanding ∙ ap length (sym out);
    has_rested = is.has_rested ∙ ap (λ es. rested_after (last_of es)) (sym (posted-other d other));
    has_open = is.has_open ∙ ap (λ es. not (list_any is_close es)) (sym (posted-other d other));
  }

  -- the entry is a command of the device
  pub tally-command : (d : ℕ) (t new : Standing) (c : Command) → is_posted_by d e ≡ false
      → command_at agent d (length journal, e) ≡ Some c
      → new.commands ≡ t.commands + 1 → new.outstanding ≡ length (outstanding_commands agent d after)
      → new.rested ≡ t.rested → new.is_open ≡ t.is_open
      → IsTally agent journal d t → IsTally agent after d new
  tally-command d t new c other some more out rested still is = record {
    has_commands =
        more ∙ ap (λ n. n + 1) is.has_commands ∙ sym (length-append (commands agent d journal) (c ∷ []))
        ∙ ap length (sym (commands-more d c some));
    has_outstanding = out;
    has_rested = rested ∙ is.has_rested ∙ ap (λ es. rested_after (last_of es)) (sym (posted-other d other));
    has_open = still ∙ is.has_open ∙ ap (λ es. not (list_any is_close es)) (sym (posted-other d other));
  }

  -- the entry is posted by the device
  pub tally-noted : (d : ℕ) (t new : Standing) → is_posted_by d e ≡ true → command_at agent d (length journal, e) ≡ None
      → new.commands ≡ t.commands → new.outstanding ≡ length (outstanding_commands agent d after)
      → new.rested ≡ rested_after (Some e) → new.is_open ≡ (t.is_open && not (is_close e))
      → IsTally agent journal d t → IsTally agent after d new
  tally-noted d t new own none same out rested still is = record {
    has_commands = same ∙ is.has_commands ∙ ap length (sym (commands-same d none));
    has_outstanding = out;
    has_rested = rested ∙ ap rested_after (sym (fold-push _ None (entries_by d journal) e)) ∙ ap (λ es. rested_after (last_of es)) (sym (posted-own d own));
    has_open =
        still ∙ ap (λ b. b && not (is_close e)) is.has_open
        ∙ ap (λ b. is_open d journal && not (b && is_close e)) (sym own) ∙ sym (posts_grow journal e d).open_still;
  }

  -- the entry says nothing of the device
  pub record SaysNothing (d : ℕ) : Type 0 where
    pub no_post : is_posted_by d e ≡ false
    pub no_command : command_at agent d (length journal, e) ≡ None
    pub no_result : outstanding_commands agent d after ≡ outstanding_commands agent d journal

  -- one device's tally changes
  pub each-set : (ts : List Standing) (i : ℕ) (new : Standing) → i < length ts
      → ((d : ℕ) → d ≢ i → SaysNothing d)
      → IsTally agent after i new
      → ((d : ℕ) (x : Standing) → d < length ts → IsTally agent journal d (get_or ts d x))
      → (d : ℕ) (x : Standing) → d < length (set ts i new) → IsTally agent after d (get_or (set ts i new) d x)
  each-set ts i new inside others this each d x below = go (cases_eq d i)
    where
      within : d < length ts
      within = let l = length-set ts i new in omega (arith, l, below)

      go : (d ≡ i) ⊎ (d ≡ i → ⊥) → IsTally agent after d (get_or (set ts i new) d x)
      go (inl same) =
          subst (λ k. IsTally agent after k (get_or (set ts i new) k x)) (sym same)
          (subst (IsTally agent after i) (sym (get_or-set_same ts i new x inside)) this)
      go (inr other) =
          let apart = others d other in
          subst (IsTally agent after d) (sym (get_or-set_other ts i d new x other))
          (tally-stays d (get_or ts d x) apart.no_post apart.no_command apart.no_result (each d x within))

  pub has_end-after : has_end after ≡ (has_end journal || is_end e)
  has_end-after = (entries_grow journal e).end

  -- an entry of the program that is no command
  pub tallies-step : (ts : List Standing) → ((d : ℕ) → SaysNothing d)
      → length after ≡ count after + closed agent after ts + (if has_end after then 1 else 0)
      → AreTallies agent journal ts → AreTallies agent after ts
  tallies-step ts others in_all are = record {
    one_each = are.one_each;
    each = λ d x below.
        let apart = others d in
        tally-stays d (get_or ts d x) apart.no_post apart.no_command apart.no_result (are.each d x below);
    in_all = in_all;
  }

-- how many devices are closed, where one tally changes
module _ (ts : List Standing) (i : ℕ) (new : Standing) (inside : i < length ts) where
  abbrev shut : Standing → ℕ
  shut t = if not t.is_open then 1 else 0

  abbrev shut_in : List Standing → ℕ
  shut_in standings = count_by (λ standing. not standing.is_open) standings

  pub closed-same : new.is_open ≡ (get_or ts i new).is_open → shut_in (set ts i new) ≡ shut_in ts
  closed-same same =
      let total = sum_by-set shut ts i new new inside in
      let equal : shut new ≡ shut (get_or ts i new) = ap (λ b. if not b then 1 else 0) same in
      omega (arith, total, equal)

  pub closed-more : new.is_open ≡ false → (get_or ts i new).is_open ≡ true → (shut_in (set ts i new) ≡ shut_in ts + 1) × (shut_in ts + 1 ≤ length ts)
  closed-more is_shut was_open =
      let total = sum_by-set shut ts i new new inside in
      let one : shut new ≡ 1 = ap (λ b. if not b then 1 else 0) is_shut in
      let none : shut (get_or ts i new) ≡ 0 = ap (λ b. if not b then 1 else 0) was_open in
      let more : shut_in (set ts i new) ≡ shut_in ts + 1 = omega (arith, total, one, none) in
      let most = count_by-le-length (λ standing. not standing.is_open) (set ts i new) in
      let long = length-set ts i new in
      (more, omega (arith, more, most, long))

abbrev one_if : Bool → ℕ
one_if b = if b then 1 else 0

at-most-one : (b : Bool) → one_if b ≤ 1
at-most-one true = omega arith
at-most-one false = omega arith

-- where one device is open, not all are closed
pub some-open : (ts : List Standing) (i : ℕ) → i < length ts → ((d : Standing) → (get_or ts i d).is_open ≡ true)
    → count_by (λ standing. not standing.is_open) ts + 1 ≤ length ts
some-open [] i inside is_open = absurd (omega (arith, inside))
some-open (t ∷ ts) zero inside is_open =
    let first = sum_by-cons (λ (standing : Standing). if not standing.is_open then 1 else 0) t ts in
    let none : one_if (not t.is_open) ≡ 0 = ap (λ b. one_if (not b)) (is_open t) in
    let most = count_by-le-length (λ (tally : Standing). not tally.is_open) ts in
    omega (arith, first, none, most)
some-open (t ∷ ts) (suc i) inside is_open =
    let first = sum_by-cons (λ (standing : Standing). if not standing.is_open then 1 else 0) t ts in
    let one = at-most-one (not t.is_open) in
    let most = some-open ts i (omega (arith, inside)) is_open in
    omega (arith, first, one, most)
