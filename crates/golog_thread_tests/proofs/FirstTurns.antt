-- Devices that are fresh, and the first turns at a board's list to which no one else adds entries.
use Rattle.std.proofs.Common.{◌≡◌, ℕ, zero, suc, ◌+◌, ◌<◌, Bool, true, false, not, ◌&&◌, ◌||◌, Option, Some, None, List, [], ◌∷◌, ◌++◌, length, refl, sym, ap, ◌∙◌, subst, arith}
use Rattle.std.specs.List.{list_any, list_all}
use Rattle.golog_tree.specs.declared.agent.Agent.{Agent}
use Rattle.golog_semantics.specs.declared.journal.Entry.TheVariants.{Do, Test, Exo, Sense, Rest, Close, End}
use Rattle.golog_semantics.specs.declared.journal.Answer.TheVariants.{Done}
use Rattle.golog_semantics.specs.declared.journal.Item.{Item}
use Rattle.golog_semantics.specs.declared.journal.Item.TheVariants as item
use Rattle.golog_semantics.specs.Journal.{Journal, is_posted_by}
use Rattle.golog_semantics.specs.Dealt.{Meaning}
use Rattle.golog_journal.specs.declared.board.Next.{Next}
use Rattle.golog_journal.specs.declared.board.Next.TheVariants.{Command, Nothing as NoCommand, Ended}
use Rattle.golog_journal.specs.Growing.{Sight}
use Rattle.golog_journal.specs.Leading.{Leads, may_come}
use Rattle.golog_journal.specs.Taken.{IsReady}
use Rattle.golog_journal.proofs.Staying.{ready_stays}
use Rattle.golog_device.specs.declared.turn.Turned.{Turned}
use Rattle.golog_device.specs.declared.turn.Turned.TheVariants as turned
use Rattle.golog_device.specs.Slots.{FreshBelow, standings}
use Rattle.golog_device.specs.Turns.{PostsItem, TurnsBy, Turns, answer_item, idle_item, idle_turn}
use Rattle.golog_thread_tests.proofs.Starting.{no-entries, none-ready}

-- the first two devices are fresh, whatever follows
pub first-fresh : {A : Type 0} (fresh : A → Bool) (meaning : A → Meaning) (one other : A) (more : List A) → fresh one ≡ true → fresh other ≡ true
    → FreshBelow 2 (standings fresh meaning (one ∷ other ∷ more))
first-fresh fresh meaning one other more is_one is_other zero within = is_one
first-fresh fresh meaning one other more is_one is_other (suc zero) within = is_other
first-fresh fresh meaning one other more is_one is_other (suc (suc slot)) within = absurd (omega (arith, within))

-- a turn keeps the board's agent
module _ (agent : Agent) (device taken : ℕ) (result : Turned) (count : ℕ) (old new : Sight) (was is : Meaning) where
  posts : (at : Sight) (n : ℕ) (i : Option Item) (done : Turned) → PostsItem device n i done result at new → new.agent ≡ at.agent
  posts at n None done (told, same) = ap (λ (s : Sight). s.agent) same
  posts at n (Some i) done (reply, told, called) = called.agent

  does : (at : Sight) (told : Next) → TurnsBy agent device taken told result count at new was is → new.agent ≡ at.agent
  does at (Command place action asked) (counts, (answer, serves, posted)) =
      posts at (taken + 1) (answer_item agent device action asked answer) turned.Served posted
  does at Ended (counts, same, posted) = posts at taken (Some item.Stop) turned.Posted posted
  does at (NoCommand true) (counts, same, posted) = posts at taken None turned.Nothing posted
  does at (NoCommand false) (counts, (answer, idles, posted)) = posts at taken (Some (idle_item agent answer)) (idle_turn answer) posted

  pub turn-agent : Turns agent device taken result count old new was is → new.agent ≡ old.agent
  turn-agent turns = does turns.asked turns.told turns.does ∙ turns.asks.agent

-- where no one else adds entries, none comes that isn't of the program
none-comes : (sight : Sight) (party : ℕ) (more : Bool) → sight.alone ≡ true → (not (sight.alone || sight.holds party) && more) ≡ true → ⊥
none-comes sight party more alone come =
    let no : true ≡ false = sym come ∙ ap (λ b. not (b || sight.holds party) && more) alone in absurd (cc)

-- what a lead adds is of no device
of-program : (sight : Sight) (device : ℕ) (since : Journal) → sight.alone ≡ true → list_all (may_come sight) since ≡ true
    → list_any (is_posted_by device) since ≡ false
of-program sight device [] alone come = refl
of-program sight device (Do action ∷ since) alone come = of-program sight device since alone come
of-program sight device (Test ∷ since) alone come = of-program sight device since alone come
of-program sight device (End answer ∷ since) alone come = of-program sight device since alone come
of-program sight device (Exo p action ∷ since) alone come = absurd (none-comes sight p (list_all (may_come sight) since) alone come)
of-program sight device (Sense p place fluent value ∷ since) alone come = absurd (none-comes sight p (list_all (may_come sight) since) alone come)
of-program sight device (Rest p taken ∷ since) alone come = absurd (none-comes sight p (list_all (may_come sight) since) alone come)
of-program sight device (Close p reason taken ∷ since) alone come = absurd (none-comes sight p (list_all (may_come sight) since) alone come)

-- the first device is ready behind the first turn of a lead
pub led-ready : (agent : Agent) (old new : Sight) → Leads old new → old.alone ≡ true → old.seen ≡ [] → 0 < length agent.devices
    → IsReady agent new.seen 0 0
led-ready agent old new leads alone none some =
    let is : new.seen ≡ leads.since = leads.grows ∙ ap (λ seen. seen ++ leads.since) none in
    subst (λ (j : Journal). IsReady agent j 0 0) (sym is)
    (ready_stays agent [] leads.since 0 0 (no-entries agent) (of-program old 0 leads.since alone leads.may_come) (none-ready agent [] 0 some refl refl))

-- and behind the end of the program
pub ended-ready : (agent : Agent) (seen : Journal) → 0 < length agent.devices → seen ≡ End Done ∷ [] → IsReady agent seen 0 0
ended-ready agent seen some is =
    subst (λ (j : Journal). IsReady agent j 0 0) (sym is)
    (record { driven = record { is_device = some; still_open = refl; fitting = refl }; answered = refl })
