-- What a lead has gathered at the end of a run.
use Rattle.std.proofs.Common.{◌≡◌, ℕ, ◌+◌, ◌<◌, ◌≤◌, Bool, true, false, not, ◌||◌, ◌==◌, Option, Some, None, List, [], ◌∷◌, ◌++◌, length, append_assoc, refl, sym, ap, ◌∙◌, subst, arith}
use Rattle.std.specs.Prelude.{is_some, IsTrue}
use Rattle.std.specs.List.{list_all}
use Rattle.std.specs.Option.{option_map_or}
use Rattle.std.proofs.lemmas.Bool.{and_parts, or_from, eqb-true}
use Rattle.std.proofs.lemmas.List.Folds.{list_any-append}
use Rattle.golog_tree.specs.declared.agent.Agent.{Agent}
use Rattle.golog_semantics.specs.Journal.{Journal, poster_of, has_end, longest}
use Rattle.golog_semantics.specs.Dealt.{Meaning}
use Rattle.golog_journal.specs.Boards.{IsBoardList}
use Rattle.golog_journal.specs.Laws.{AreNotOf}
use Rattle.golog_journal.specs.Growing.{Sight, party_of, program}
use Rattle.golog_journal.specs.Leading.{IsBehind, Watches, may_come, is_of_program}
use Rattle.golog_turn.specs.Parties.{contains, GoesOn, KeepsLonger}
use Rattle.golog_threads.specs.Driving.{HaveServed, HasDriven, RunsOverThreads}
use Rattle.golog_threads.specs.Gathering.{Gathered}
use Rattle.golog_threads.proofs.Lists.{foreign, not-program, end-stands}
use Rattle.golog_threads.proofs.Turning.{goes-then}
use Rattle.golog_threads.proofs.Driving.{joined-goes, goes-from, all-later, more-served}

-- ---- entries that may come are not of a device that is held

come-one : (alone : Bool) (holds : ℕ → Bool) (device : ℕ) → holds device ≡ true → (o : Option ℕ)
    → (not (is_some o) || not (alone || holds (option_map_or (λ d. d) o program))) ≡ true → option_map_or (λ p. p == device) o false ≡ false
come-one alone holds device held None h = refl
come-one alone holds device held (Some p) h = go (p == device) refl
  where
    lost : (b a : Bool) → b ≡ true → not (a || b) ≡ true → ⊥
    lost true true e h = absurd (cc)
    lost true false e h = absurd (cc)
    lost false a e h = absurd (cc)

    go : (b : Bool) → (p == device) ≡ b → (p == device) ≡ false
    go true is = absurd (lost (holds p) alone (ap holds (eqb-true p device is) ∙ held) h)
    go false is = is

pub come-foreign : (sight : Sight) (device : ℕ) → sight.holds device ≡ true → (since : Journal) → list_all (may_come sight) since ≡ true → AreNotOf device since
come-foreign sight device held [] h = refl
come-foreign sight device held (e ∷ since) h =
    let parts = and_parts (may_come sight e) (list_all (may_come sight) since) h in
    or_from _ _ (come-one sight.alone sight.holds device held (poster_of e) parts.0) (come-foreign sight device held since parts.1)

-- ---- a lead that is behind is so with entries of others

pub behind-later : (list seen kept : Journal) (ps : List ℕ) → contains ps program ≡ true → GoesOn party_of kept seen ps → IsBehind list seen → IsBehind list kept
behind-later list seen kept ps held goes behind = record {
  since = behind.since ++ goes.0;
  front = goes.1 ∙ ap (λ j. j ++ goes.0) behind.front ∙ append_assoc list behind.since goes.0;
  of_devices =
      list_any-append is_of_program behind.since goes.0
      ∙ or_from _ _ behind.of_devices (not-program (contains ps) held goes.0 (foreign ps goes.0 goes.2));
}

pub end-later : (seen kept : Journal) (ps : List ℕ) → GoesOn party_of kept seen ps → IsTrue (has_end seen) → IsTrue (has_end kept)
end-later seen kept ps goes ended = subst (λ j. IsTrue (has_end j)) (sym goes.1) (end-stands seen goes.0 ended)

-- ---- the whole run

pub gathered : (agent : Agent) (old new : Sight) (list : Journal) (ps : List ℕ) → old.holds ≡ contains ps → Watches old new → list ≡ new.seen
    → IsBoardList agent new.seen → length new.seen ≤ longest → Gathered agent old.seen list ps
gathered agent old new list ps holds watches whole lawful short = record {
  since = watches.leads.since;
  is = whole ∙ watches.leads.grows;
  none = λ device held. come-foreign old device (ap (λ h. h device) holds ∙ held) watches.leads.since watches.leads.may_come;
  lawful = subst (IsBoardList agent) (sym whole) lawful;
  short = subst (λ (j : Journal). length j ≤ longest) (sym whole) short;
}

module _ {D : Type 0} (agent : Agent) (meaning : D → Meaning) (old new : Journal) (later : Journal) where
  all-more : (first : ℕ) (ds es : List D) → ((i : ℕ) → i < length ds → AreNotOf (first + i) later) → HaveServed agent meaning old new first ds es
      → HaveServed agent meaning old (new ++ later) first ds es
  all-more first [] [] none served = tt
  all-more first [] (e ∷ es) none served = absurd served
  all-more first (d ∷ ds) [] none served = absurd served
  all-more first (d ∷ ds) (e ∷ es) none served = (
    more-served agent meaning old new later first d e
        (let same : first + 0 ≡ first = omega arith in subst (λ (k : ℕ). AreNotOf k later) same (none 0 (omega arith)))
        served.0,
    all-more (first + 1) ds es
        (λ i less. (let further : first + (1 + i) ≡ first + 1 + i = omega arith in subst (λ (k : ℕ). AreNotOf k later) further (none (1 + i) (omega arith))))
        served.1,
  )

pub has-run : {D : Type 0} (agent : Agent) (meaning : D → Meaning) (old driven led kept list : Journal) (ps qs all : List ℕ) (ds es : List D)
    → HasDriven agent meaning 0 old driven ps ds es → IsTrue (has_end led)
    → KeepsLonger party_of driven ps led qs kept → all ≡ ps ++ qs
    → ((p : ℕ) → contains ps p ≡ true → contains all p ≡ true)
    → Gathered agent kept list all
    → RunsOverThreads agent meaning old list ds es
has-run agent meaning old driven led kept list ps qs all ds es drove ended joined held keeps got =
    let goes = joined-goes driven led kept ps qs joined in
    record {
      goes = goes-then old driven list drove.goes (goes-then driven kept list (goes-from driven kept ps goes.0) (record { since = got.since; is = got.is }));
      lawful = got.lawful;
      short = got.short;
      ended = subst (λ j. IsTrue (has_end j)) (sym got.is) (end-stands kept got.since (end-later led kept qs goes.1 ended));
      served =
          subst (λ j. HaveServed agent meaning old j 0 ds es) (sym got.is)
          (all-more agent meaning old kept got.since 0 ds es (λ i less. got.none (0 + i) (keeps (0 + i) (drove.holds i less)))
          (all-later agent meaning old driven kept ps goes.0 0 ds es drove.holds drove.served));
    }
