-- What is kept of a journal with one more lawful entry.
use Rattle.std.proofs.Common.{◌≡◌, ◌≢◌, ℕ, ◌+◌, ◌-◌, ◌≤◌, ◌<◌, Bool, true, false, not, ◌&&◌, ◌||◌, ◌==◌, if◌then◌else◌, Some, None, List, [], ◌∷◌, ◌++◌, length, length-append, set, get_or, refl, sym, ap, ◌∙◌, subst, arith, length-set}
use Rattle.std.proofs.lemmas.Bool.{and_parts, ltb-true, eq-eqb, ne_eqb}
use Rattle.std.proofs.lemmas.Option.{same_Some}
use Rattle.std.proofs.lemmas.List.Sums.{count_by-le-length, length-filter}
use Rattle.golog_base.proofs.Bools.{and-true, or-false}
use Rattle.golog_tree.specs.declared.agent.Agent.{Agent}
use Rattle.golog_semantics.specs.declared.journal.Entry.{Entry}
use Rattle.golog_semantics.specs.declared.journal.Entry.TheVariants.{Do, Test, Exo, Sense, Rest, Close, End}
use Rattle.golog_semantics.specs.Journal.{Journal, Command, command_at, commands, device_of, is_outstanding, outstanding_commands, is_posted_by, is_result_of, is_sensing, poster_of, is_close, is_end, has_end, is_counted, count, longest}
use Rattle.golog_semantics.specs.Online.{keeps_place}
use Rattle.golog_semantics.specs.Reports.{is_device}
use Rattle.golog_journal.specs.declared.standing.Standing.{Standing}
use Rattle.golog_journal.specs.Boards.{IsBoardList}
use Rattle.golog_journal.specs.Tallies.{rested_after, outstanding_after, IsTally, closed, AreTallies, IsStep, IsCounted}
use Rattle.golog_journal.proofs.Lawful.{count-push, lawful-last, lawful-parts}
use Rattle.golog_journal.proofs.Outstanding.{out-same, more-out, fewer-out, out-other}
use Rattle.golog_journal.proofs.Tallied.{SaysNothing, no-carrier, other-carrier, own-carrier, tally-command, tally-noted, each-set, tallies-step, has_end-after, closed-same, closed-more, some-open}

abbrev one_if : Bool → ℕ
one_if b = if b then 1 else 0

module _ (agent : Agent) (journal : Journal) where
  ended : (e : Entry) → is_end e ≡ false → one_if (has_end (journal ++ e ∷ [])) ≡ one_if (has_end journal)
  ended e stays = ap one_if (has_end-after agent journal e ∙ ap (λ b. has_end journal || b) stays ∙ or-false (has_end journal))

  longer : (e : Entry) → length (journal ++ e ∷ []) ≡ length journal + 1
  longer e = length-append journal (e ∷ [])

  -- the counted entries and the end, with one more entry
  in-counted : (e : Entry) (n : ℕ) → is_counted e ≡ true → is_end e ≡ false
      → length journal ≡ count journal + n + one_if (has_end journal)
      → length (journal ++ e ∷ []) ≡ count (journal ++ e ∷ []) + n + one_if (has_end (journal ++ e ∷ []))
  in-counted e n counts no_end all =
      let c : count (journal ++ e ∷ []) ≡ count journal + 1 = count-push journal e ∙ ap (λ b. count journal + one_if b) counts in
      let l = longer e in
      let m = ended e no_end in
      omega (arith, c, l, m, all)

  -- the program has not ended before its end
  pub goes-on : (answer : _) → IsBoardList agent (journal ++ End answer ∷ []) → has_end journal ≡ false
  goes-on answer is = go (has_end journal) (lawful-parts agent journal (End answer) (lawful-last agent journal (End answer) is)).after
    where
      go : (b : Bool) → (not b || false) ≡ true → b ≡ false
      go false h = refl
      go true h = absurd (cc)

  in-end : (answer : _) (n : ℕ) → has_end journal ≡ false
      → length journal ≡ count journal + n + one_if (has_end journal)
      → length (journal ++ End answer ∷ []) ≡ count (journal ++ End answer ∷ []) + n + one_if (has_end (journal ++ End answer ∷ []))
  in-end answer n no_end all =
      let c = count-push journal (End answer) in
      let l = longer (End answer) in
      let now_ended : one_if (has_end (journal ++ End answer ∷ [])) ≡ 1 = ap one_if (has_end-after agent journal (End answer) ∙ ap (λ b. b || true) no_end) in
      let before : one_if (has_end journal) ≡ 0 = ap one_if no_end in
      omega (arith, c, l, now_ended, before, all)

  in-close : (p : ℕ) (r : _) (t n m : ℕ) → m ≡ n + 1
      → length journal ≡ count journal + n + one_if (has_end journal)
      → length (journal ++ Close p r t ∷ []) ≡ count (journal ++ Close p r t ∷ []) + m + one_if (has_end (journal ++ Close p r t ∷ []))
  in-close p r t n m more all =
      let c = count-push journal (Close p r t) in
      let l = longer (Close p r t) in
      let same = ended (Close p r t) refl in
      omega (arith, c, l, same, more, all)

  module _ (ts : List Standing) (kept : IsCounted agent journal ts) where
    few : closed agent journal ts ≤ 16
    few =
        let most = count_by-le-length (λ (standing : Standing). not standing.is_open) ts in
        let one = kept.tallied.one_each in
        let devices = kept.serves.few in
        omega (arith, most, one, devices)

    at-most-one : (b : Bool) → one_if b ≤ 1
    at-most-one true = omega arith
    at-most-one false = omega arith

    -- the device of a lawful Close has an open tally
    pub number-in : (p : ℕ) → is_device agent p ≡ true → p < length ts
    number-in p is =
        let number : p < length agent.devices = ltb-true p (length agent.devices) is in
        let one = kept.tallied.one_each in
        omega (arith, number, one)

    pub open-in : (p : ℕ) (r : _) (t : ℕ) → IsBoardList agent (journal ++ Close p r t ∷ [])
        → (inside : p < length ts) → (d : Standing) → (get_or ts p d).is_open ≡ true
    open-in p r t is inside d =
        (kept.tallied.each p d inside).has_open ∙ (lawful-parts agent journal (Close p r t) (lawful-last agent journal (Close p r t) is)).poster

    pub device-of-close : (p : ℕ) (r : _) (t : ℕ) → IsBoardList agent (journal ++ Close p r t ∷ []) → p < length ts
    device-of-close p r t is =
        let parts = lawful-parts agent journal (Close p r t) (lawful-last agent journal (Close p r t) is) in
        number-in p (and_parts (is_device agent p) _ parts.of_agent).0

    counted : (e : Entry) → is_counted e ≡ true → IsBoardList agent (journal ++ e ∷ []) → length journal < longest
    counted e counts is =
        let c : count (journal ++ e ∷ []) ≡ count journal + 1 = count-push journal e ∙ ap (λ b. count journal + one_if b) counts in
        let room = is.room in
        let shut = few in
        let ends = at-most-one (has_end journal) in
        let all = kept.tallied.in_all in
        omega (arith, c, room, shut, ends, all)

    at-close : (p : ℕ) (r : _) (t : ℕ) → IsBoardList agent (journal ++ Close p r t ∷ []) → length journal < longest
    at-close p r t is =
        let inside = device-of-close p r t is in
        let shut = some-open ts p inside (open-in p r t is inside) in
        let one = kept.tallied.one_each in
        let devices = kept.serves.few in
        let room = kept.lawful.room in
        let ends = at-most-one (has_end journal) in
        let all = kept.tallied.in_all in
        omega (arith, shut, one, devices, room, ends, all)

    at-end : (answer : _) → IsBoardList agent (journal ++ End answer ∷ []) → length journal < longest
    at-end answer is =
        let room = kept.lawful.room in
        let shut = few in
        let none : one_if (has_end journal) ≡ 0 = ap one_if (goes-on answer is) in
        let all = kept.tallied.in_all in
        omega (arith, room, shut, none, all)

    -- there is room for one more lawful entry
    pub room-for : (e : Entry) → IsBoardList agent (journal ++ e ∷ []) → length journal < longest
    room-for (Do action) is = counted (Do action) refl is
    room-for Test is = counted Test refl is
    room-for (Exo poster action) is = counted (Exo poster action) refl is
    room-for (Sense poster place fluent value) is = counted (Sense poster place fluent value) refl is
    room-for (Rest poster taken) is = counted (Rest poster taken) refl is
    room-for (Close p r t) is = at-close p r t is
    room-for (End answer) is = at-end answer is

    -- the list goes on, with other tallies
    goes : (e : Entry) (new : List Standing) → IsBoardList agent (journal ++ e ∷ []) → AreTallies agent (journal ++ e ∷ []) new
        → IsCounted agent (journal ++ e ∷ []) new
    goes e new is are = record { serves = kept.serves; lawful = is; tallied = are }

    -- an entry of the program that is no command says nothing of any device
    silent : (e : Entry) → ((d : ℕ) → is_posted_by d e ≡ false) → ((c : Command) → is_result_of c.place e ≡ false)
        → ((d : ℕ) → command_at agent d (length journal, e) ≡ None) → (d : ℕ) → SaysNothing agent journal e d
    silent e no_post no_result none d = record {
      no_post = no_post d;
      no_command = none d;
      no_result = out-same agent journal e no_result d (none d);
    }

    -- a test
    pub counted-test : IsBoardList agent (journal ++ Test ∷ []) → IsCounted agent (journal ++ Test ∷ []) ts
    counted-test is =
        goes Test ts is
        (tallies-step agent journal Test ts (silent Test (λ d. refl) (λ c. refl) (λ d. refl)) (in-counted Test (closed agent journal ts) refl refl kept.tallied.in_all) kept.tallied)

    -- the end
    pub counted-end : (answer : _) → IsBoardList agent (journal ++ End answer ∷ []) → IsCounted agent (journal ++ End answer ∷ []) ts
    counted-end answer is =
        goes (End answer) ts is
        (tallies-step agent journal (End answer) ts (silent (End answer) (λ d. refl) (λ c. refl) (λ d. refl)) (in-end answer (closed agent journal ts) (goes-on answer is) kept.tallied.in_all) kept.tallied)

    -- an action without a device
    pub counted-do : (action : ℕ) → device_of agent action ≡ None → IsBoardList agent (journal ++ Do action ∷ []) → IsCounted agent (journal ++ Do action ∷ []) ts
    counted-do action none is =
        goes (Do action) ts is
        (tallies-step agent journal (Do action) ts (silent (Do action) (λ d. refl) (λ c. refl) (no-carrier agent journal action none))
        (in-counted (Do action) (closed agent journal ts) refl refl kept.tallied.in_all) kept.tallied)

    -- a command of a device
    pub counted-command : (action i : ℕ) (new : Standing) → device_of agent action ≡ Some i → i < length ts
        → new.commands ≡ (get_or ts i new).commands + 1
        → new.outstanding ≡ (get_or ts i new).outstanding + (if is_sensing agent action then 1 else 0)
        → new.rested ≡ (get_or ts i new).rested → new.is_open ≡ (get_or ts i new).is_open
        → IsBoardList agent (journal ++ Do action ∷ []) → IsCounted agent (journal ++ Do action ∷ []) (set ts i new)
    counted-command action i new device inside more out rested still is =
        goes (Do action) (set ts i new) is (record {
          one_each = length-set ts i new ∙ kept.tallied.one_each;
          each = each-set agent journal (Do action) ts i new inside
              (λ d other. silent-at (other-carrier agent journal action i device d other)) this kept.tallied.each;
          in_all = in_all;
        })
      where
        silent-at : {d : ℕ} → command_at agent d (length journal, Do action) ≡ None → SaysNothing agent journal (Do action) d
        silent-at {d = d} none = record { no_post = refl; no_command = none; no_result = out-same agent journal (Do action) (λ c. refl) d none }

        this : IsTally agent (journal ++ Do action ∷ []) i new
        this =
            let was = kept.tallied.each i new inside in
            tally-command agent journal (Do action) i (get_or ts i new) new (record { place = length journal; action = action }) refl
            (own-carrier agent journal action i device) more
            (out ∙ ap (λ n. n + (if is_sensing agent action then 1 else 0)) was.has_outstanding
            ∙ sym (more-out agent journal action i kept.lawful (own-carrier agent journal action i device)))
            rested still was

        in_all : length (journal ++ Do action ∷ []) ≡ count (journal ++ Do action ∷ []) + closed agent journal (set ts i new) + one_if (has_end (journal ++ Do action ∷ []))
        in_all =
            let same = closed-same ts i new inside still in
            let all = in-counted (Do action) (closed agent journal ts) refl refl kept.tallied.in_all in
            omega (arith, same, all)

    -- what a device posted
    module _ (i : ℕ) (new : Standing) (inside : i < length ts) where
      -- the tallies where the entry is this device's and no command
      noted : (e : Entry) (own : is_posted_by i e ≡ true) → ((d : ℕ) → d ≢ i → SaysNothing agent journal e d) → command_at agent i (length journal, e) ≡ None
          → new.commands ≡ (get_or ts i new).commands → new.outstanding ≡ length (outstanding_commands agent i (journal ++ e ∷ []))
          → new.rested ≡ rested_after (Some e)
          → new.is_open ≡ ((get_or ts i new).is_open && not (is_close e))
          → length (journal ++ e ∷ []) ≡ count (journal ++ e ∷ []) + closed agent journal (set ts i new) + one_if (has_end (journal ++ e ∷ []))
          → AreTallies agent (journal ++ e ∷ []) (set ts i new)
      noted e own others none same out rested still in_all = record {
        one_each = length-set ts i new ∙ kept.tallied.one_each;
        each = each-set agent journal e ts i new inside others
            (tally-noted agent journal e i (get_or ts i new) new own none same out rested still (kept.tallied.each i new inside)) kept.tallied.each;
        in_all = in_all;
      }

      own-number : (p : ℕ) → p ≡ i → (p == i) ≡ true
      own-number p same = eq-eqb p i same

      other-number : (p : ℕ) → p ≡ i → (d : ℕ) → d ≢ i → (p == d) ≡ false
      other-number p same d other = ne_eqb p d (λ e. other (sym e ∙ same))

      still-open : (e : Entry) → is_close e ≡ false → new.is_open ≡ ((get_or ts i new).is_open && not (is_close e)) → new.is_open ≡ (get_or ts i new).is_open
      still-open e stays still = still ∙ ap (λ b. (get_or ts i new).is_open && not b) stays ∙ and-true (get_or ts i new).is_open

      counts : (e : Entry) → is_counted e ≡ true → is_end e ≡ false → is_close e ≡ false → new.is_open ≡ ((get_or ts i new).is_open && not (is_close e))
          → length (journal ++ e ∷ []) ≡ count (journal ++ e ∷ []) + closed agent journal (set ts i new) + one_if (has_end (journal ++ e ∷ []))
      counts e counted_it no_end no_close still =
          let same = closed-same ts i new inside (still-open e no_close still) in
          let all = in-counted e (closed agent journal ts) counted_it no_end kept.tallied.in_all in
          omega (arith, same, all)

      shuts : (p : ℕ) (r : _) (t : ℕ) → p ≡ i → IsBoardList agent (journal ++ Close p r t ∷ []) → new.is_open ≡ ((get_or ts i new).is_open && false)
          → length (journal ++ Close p r t ∷ []) ≡ count (journal ++ Close p r t ∷ []) + closed agent journal (set ts i new) + one_if (has_end (journal ++ Close p r t ∷ []))
      shuts p r t same is still =
          let was_open = subst (λ k. (get_or ts k new).is_open ≡ true) same (open-in p r t is (subst (λ k. k < length ts) (sym same) inside) new) in
          let now_shut : new.is_open ≡ false = still ∙ ap (λ b. b && false) was_open in
          let more = closed-more ts i new inside now_shut was_open in
          in-close p r t (closed agent journal ts) (closed agent journal (set ts i new)) more.0 kept.tallied.in_all

      -- an entry that is no result of any device, and this one's
      apart : (e : Entry) → ((d : ℕ) → d ≢ i → is_posted_by d e ≡ false) → ((c : Command) → is_result_of c.place e ≡ false)
          → ((d : ℕ) → command_at agent d (length journal, e) ≡ None) → (d : ℕ) → d ≢ i → SaysNothing agent journal e d
      apart e no_post no_result none d other = record {
        no_post = no_post d other;
        no_command = none d;
        no_result = out-same agent journal e no_result d (none d);
      }

      stays-out : (e : Entry) → ((c : Command) → is_result_of c.place e ≡ false) → ((d : ℕ) → command_at agent d (length journal, e) ≡ None)
          → new.outstanding ≡ (get_or ts i new).outstanding → new.outstanding ≡ length (outstanding_commands agent i (journal ++ e ∷ []))
      stays-out e no_result none out =
          out ∙ (kept.tallied.each i new inside).has_outstanding
          ∙ ap (λ (cs : List Command). length cs) (sym (out-same agent journal e no_result i (none i)))

      fewer : (p at f v : ℕ) → p ≡ i → keeps_place agent journal (Sense p at f v) ≡ true → new.outstanding ≡ (get_or ts i new).outstanding - 1
          → new.outstanding ≡ length (outstanding_commands agent i (journal ++ Sense p at f v ∷ []))
      fewer p at f v n keeps out =
          let was = (kept.tallied.each i new inside).has_outstanding in
          let less = subst (λ k. length (outstanding_commands agent k (journal ++ Sense p at f v ∷ [])) + 1 ≡ length (outstanding_commands agent k journal)) n (fewer-out agent journal p at f v keeps) in
          omega (arith, out, was, less)

      pub counted-posted : (e : Entry) → poster_of e ≡ Some i
          → new.commands ≡ (get_or ts i new).commands → new.outstanding ≡ outstanding_after (get_or ts i new).outstanding e
          → new.rested ≡ rested_after (Some e)
          → new.is_open ≡ ((get_or ts i new).is_open && not (is_close e))
          → IsBoardList agent (journal ++ e ∷ []) → IsCounted agent (journal ++ e ∷ []) (set ts i new)
      counted-posted (Do action) own same out rested still is = absurd (cc)
      counted-posted Test own same out rested still is = absurd (cc)
      counted-posted (End answer) own same out rested still is = absurd (cc)
      counted-posted (Exo p action) own same out rested still is =
          let n = same_Some p i own in let e = Exo p action in
          goes e (set ts i new) is
          (noted e (own-number p n) (apart e (other-number p n) (λ c. refl) (λ d. refl)) refl same (stays-out e (λ c. refl) (λ d. refl) out) rested still
          (counts e refl refl refl still))
      counted-posted (Sense p place fluent value) own same out rested still is =
          let n = same_Some p i own in let e = Sense p place fluent value in
          let keeps = (lawful-parts agent journal e (lawful-last agent journal e is)).place in
          goes e (set ts i new) is
          (noted e (own-number p n)
          (λ d other. record {
            no_post = other-number p n d other;
            no_command = refl;
            no_result = out-other agent journal p place fluent value keeps d (λ same. other (sym same ∙ n));
          })
          refl same (fewer p place fluent value n keeps out) rested still (counts e refl refl refl still))
      counted-posted (Rest p taken) own same out rested still is =
          let n = same_Some p i own in let e = Rest p taken in
          goes e (set ts i new) is
          (noted e (own-number p n) (apart e (other-number p n) (λ c. refl) (λ d. refl)) refl same (stays-out e (λ c. refl) (λ d. refl) out) rested still
          (counts e refl refl refl still))
      counted-posted (Close p r t) own same out rested still is =
          let n = same_Some p i own in let e = Close p r t in
          goes e (set ts i new) is
          (noted e (own-number p n) (apart e (other-number p n) (λ c. refl) (λ d. refl)) refl same (stays-out e (λ c. refl) (λ d. refl) out) rested still
          (shuts p r t n is still))

-- no more results are still to come than there are commands
pub owed-few : (agent : Agent) (journal : Journal) (i : ℕ) (t : Standing) → IsTally agent journal i t → t.outstanding ≤ t.commands
owed-few agent journal i t is =
    let all = is.has_commands in
    let some = is.has_outstanding in
    let passed = length-filter (is_outstanding agent journal) (commands agent i journal) in
    let most = count_by-le-length (is_outstanding agent journal) (commands agent i journal) in
    omega (arith, all, some, passed, most)

-- not too many entries stand
pub counted-short : (agent : Agent) (journal : Journal) (ts : List Standing) → IsCounted agent journal ts → length journal ≤ longest
counted-short agent journal ts kept =
    let shut = few agent journal ts kept in
    let ends = at-most-one agent journal ts kept (has_end journal) in
    let room = kept.lawful.room in
    let all = kept.tallied.in_all in
    omega (arith, shut, ends, room, all)

-- an entry of the program that is no command
pub counted-step : (agent : Agent) (journal : Journal) (ts : List Standing) → IsCounted agent journal ts → (e : Entry) → IsStep agent e
    → IsBoardList agent (journal ++ e ∷ []) → IsCounted agent (journal ++ e ∷ []) ts
counted-step agent journal ts kept (Do action) step is = counted-do agent journal ts kept action step is
counted-step agent journal ts kept Test step is = counted-test agent journal ts kept is
counted-step agent journal ts kept (End answer) step is = counted-end agent journal ts kept answer is
counted-step agent journal ts kept (Exo p a) step is = absurd step
counted-step agent journal ts kept (Sense p at f v) step is = absurd step
counted-step agent journal ts kept (Rest p t) step is = absurd step
counted-step agent journal ts kept (Close p r t) step is = absurd step
