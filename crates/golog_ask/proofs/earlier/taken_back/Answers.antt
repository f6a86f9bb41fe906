use Rattle.std.proofs.Common.{◌≡◌, ◌-◌, drop, take, length, sym, subst, arith}
use Rattle.std.proofs.lemmas.List.{length-take-le}
use Rattle.golog_progress.proofs.Rolled.{fit-at}
use Rattle.golog_regress.specs.Regression.{IsRegressed}
use Rattle.golog_ask.specs.Events.{events_of}
use Rattle.golog_ask.proofs.Taken.{fit-first, back-one, back-more}
use Rattle.golog_ask.proofs.earlier.taken_back.Goals as goal

pub stepped-requires-clause-entry : goal.stepped-requires-clause-entry
stepped-requires-clause-entry c = fit-at c.args.agent.now c.args.entries.now (c.loop-left.left - 1) _ c.requires.entries (omega arith)

pub up_to_change-left-requires-in-loop-left-clause-entries : goal.up_to_change-left-requires-in-loop-left-clause-entries
up_to_change-left-requires-in-loop-left-clause-entries c = fit-first c.args.agent.now c.args.entries.now (c.loop-left.left - 1) c.requires.entries

pub loop-left-init : goal.loop-left-init
loop-left-init c = record {
  inside = c.up_to_change-left.ensures.inside;
  back = subst (λ earlier. IsRegressed c.args.agent.now (events_of (drop c.up_to_change-left.result c.args.entries.now)) c.args.cond.now earlier) (sym c.in_ok-earlier.ensures) c.up_to_change-left.ensures.stays;
}

pub loop-left-preserved : goal.loop-left-preserved
loop-left-preserved c =
    let agent = c.args.agent.now in
    let entries = c.args.entries.now in
    let cond = c.args.cond.now in
    let whole : length (take (c.loop-left.left - 1) entries) ≡ c.loop-left.left - 1 = length-take-le (c.loop-left.left - 1) entries (omega arith) in
    record {
      inside = omega arith;
      back = back-more agent c.requires.agent entries c.up_to_change-left-in-loop-left.result (c.loop-left.left - 1) (omega arith) cond c.in_ok-earlier-2.earlier c.in_ok-earlier-2.earlier
          (back-one agent c.requires.agent entries c.loop-left.left _ (omega arith) (omega arith) cond c.loop-left.earlier c.in_ok-earlier-2.earlier c.loop-left.invariant.back c.in_ok-earlier-2.ensures)
          c.up_to_change-left-in-loop-left.ensures.stays;
    }
