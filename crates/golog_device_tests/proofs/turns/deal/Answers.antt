use Rattle.std.proofs.Common.{rules, arith, ℕ, List, [], All, ◌≡◌, true, sym, subst}
use Rattle.std.proofs.lemmas.List.Elements.{All-append, All-cons, All-nil}
use Rattle.golog_turn.specs.Parties.{contains}
use Rattle.golog_turn.specs.Seats.{IsSeatOf}
use Rattle.golog_device_tests.specs.declared.turns.Worker.{Worker}
use Rattle.golog_turn.proofs.Parties.{contains_below, held_after_next}
use Rattle.golog_device_tests.proofs.turns.deal.Goals as goal

pub loop-party-init : goal.loop-party-init
loop-party-init c = (
  search rules,
  search rules,
  search rules,
  λ p less which. subst (λ (ps : List ℕ). contains ps p ≡ true) (sym c.requires.new.1) (contains_below c.args.parties p less),
)

pub loop-party-preserved : goal.loop-party-preserved
loop-party-preserved c =
    let P : Worker → Type 0 = λ worker. IsSeatOf c.args.lock.now worker.seat in (
      search rules,
      search rules,
      subst (λ (l : List Worker). All P l) (sym c.in_ok-push.ensures.items)
          (All-append P _ _ c.loop-party.invariant.2 (All-cons P _ [] c.split.ensures.lock.1 (All-nil P))),
      λ p less which. subst (λ (ps : List ℕ). contains ps p ≡ true) (sym c.split.ensures.left)
          (held_after_next c.loop-party.party c.args.parties _ (omega (arith, c.loop-party.auto.party)) c.loop-party.invariant.3 p less which),
    )
