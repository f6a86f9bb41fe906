-- The entries behind a command, gone through up to the device's next sensing command.
use Rattle.std.proofs.Common.{◌≡◌, ℕ, ◌+◌, ◌≤◌, ◌<◌, Bool, true, false, List, [], ◌∷◌, length, drop, get_or, Option, Some, None, refl, sym, ap, ◌∙◌, arith, add-one}
use Rattle.std.specs.Prelude.{if◌then◌else◌, is_some, option_and_then, option_map}
use Rattle.std.specs.List.{cons_option}
use Rattle.std.specs.Option.{option_or}
use Rattle.std.proofs.Math.Seq.{drop-cons}
use Rattle.std.proofs.lemmas.List.{drop_all}
use Rattle.golog_tree.specs.declared.agent.Agent.{Agent}
use Rattle.golog_semantics.specs.declared.journal.Entry.{Entry}
use Rattle.golog_semantics.specs.declared.journal.Entry.TheVariants.{Do, Test, Exo, Sense, Rest, Close, End}
use Rattle.golog_semantics.specs.Journal.{Journal, Command, command_at, is_carried_by}
use Rattle.golog_semantics.specs.Reports.{entry_limit}
use Rattle.golog_replay.specs.declared.tracked.Awaited.{Awaited}
use Rattle.golog_replay.proofs.Awaiting.{placed}
use Rattle.golog_replay.specs.Standings.{awaited_by, command_of, commands_from, first_awaited}

module _ (agent : Agent) (device : ℕ) (rest : Journal) (whole : Option Awaited) where
  abbrev of : ℕ → ℕ → List Command
  of k i = commands_from agent device k (drop i rest)

  command-so : (k : ℕ) (e : Entry) → command_at agent device (k, e) ≡ option_map (λ action. placed k action) (command_of agent device e)
  command-so k (Do action) = go (is_carried_by agent device action)
    where
      go : (b : Bool) → (if b then Some (placed k action) else None)
          ≡ option_map (λ action. placed k action) (if b then Some action else None)
      go true = refl
      go false = refl
  command-so k Test = refl
  command-so k (Exo p a) = refl
  command-so k (Sense p at f v) = refl
  command-so k (Rest p t) = refl
  command-so k (Close p r t) = refl
  command-so k (End a) = refl

  ahead : (i k : ℕ) (d : Entry) → i < length rest → of k i ≡ cons_option (command_at agent device (k, get_or rest i d)) (of (k + 1) (i + 1))
  ahead i k d low =
      ap (commands_from agent device k) (drop-cons rest i d low ∙ ap (λ n. get_or rest i d ∷ drop n rest) (sym (add-one i)))

  -- what is found so far, of which the entries from this one on are left
  pub record Scanned (number at i : ℕ) : Type 0 where
    pub found : whole ≡ first_awaited agent number (of (at + 1) i)
    pub few : number + length (of (at + 1) i) ≤ entry_limit
    pub room : at + 1 + length rest ≤ entry_limit + i

  module _ (number at i : ℕ) (is : Scanned number at i) (d : Entry) (low : i < length rest) where
    abbrev next : Option ℕ
    next = command_of agent device (get_or rest i d)

    left : (o : Option ℕ) → o ≡ next → of (at + 1) i ≡ cons_option (option_map (λ action. placed (at + 1) action) o) (of (at + 1 + 1) (i + 1))
    left o so =
        ahead i (at + 1) d low
        ∙ ap (λ c. cons_option c (of (at + 1 + 1) (i + 1))) (command-so (at + 1) (get_or rest i d) ∙ ap (option_map (λ action. placed (at + 1) action)) (sym so))

    abbrev found-in : Option ℕ → Option Awaited
    found-in o = option_and_then (λ action. awaited_by agent (at + 1) action (number + 1)) o

    abbrev later : List Command
    later = of (at + 1 + 1) (i + 1)

    behind : (action : ℕ) → Some action ≡ next → whole ≡ option_or (awaited_by agent (at + 1) action (number + 1)) (first_awaited agent (number + 1) later)
    behind action so = is.found ∙ ap (first_awaited agent number) (left (Some action) so)

    -- the entry is no command of the device that senses
    pub goes-on : (o : Option ℕ) → o ≡ next → (r : Option Awaited) → r ≡ found-in o → is_some r ≡ false
        → (one : ℕ) → one ≡ (if is_some o then 1 else 0) → Scanned (number + one) (at + 1) (i + 1)
    goes-on None so r is-it none one is-one = record {
      found =
          is.found ∙ ap (first_awaited agent number) (left None so)
          ∙ ap (λ n. first_awaited agent n later) (let k : number ≡ number + one = omega (arith, is-one) in k);
      few = let k = ap (λ (cs : List Command). length cs) (left None so) in let f = is.few in omega (arith, k, f, is-one);
      room = let r = is.room in omega (arith, r);
    }
    goes-on (Some action) so None is-it none one is-one = record {
      found =
          behind action so ∙ ap (λ o. option_or o (first_awaited agent (number + 1) later)) (sym is-it)
          ∙ ap (λ n. first_awaited agent n later) (let k : number + 1 ≡ number + one = omega (arith, is-one) in k);
      few = let k = ap (λ (cs : List Command). length cs) (left (Some action) so) in let f = is.few in omega (arith, k, f, is-one);
      room = let r = is.room in omega (arith, r);
    }
    goes-on (Some action) so (Some a) is-it none one is-one = absurd (cc)

    -- it is one that does
    pub is-found : (o : Option ℕ) → o ≡ next → (r : Option Awaited) → r ≡ found-in o → is_some r ≡ true → r ≡ whole
    is-found None so None is-it some = absurd (cc)
    is-found None so (Some a) is-it some = absurd (let k : Some a ≡ None = is-it in cc)
    is-found (Some action) so None is-it some = absurd (cc)
    is-found (Some action) so (Some a) is-it some =
        sym (behind action so ∙ ap (λ o. option_or o (first_awaited agent (number + 1) later)) (sym is-it))

  pub none-found : (number at i : ℕ) → Scanned number at i → length rest ≤ i → None ≡ whole
  none-found number at i is most =
      sym (is.found ∙ ap (λ es. first_awaited agent number (commands_from agent device (at + 1) es)) (drop_all i rest most))
