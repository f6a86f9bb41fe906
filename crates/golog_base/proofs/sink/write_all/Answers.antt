use Rattle.std.proofs.Common.{arith, ◌≡◌, take, drop, length, subst, ◌∙◌, ℕ, List, ◌≤◌, length-drop}
use Rattle.std.proofs.lemmas.List.{take_rest}
use Rattle.golog_base.specs.Known.{and_then_bytes}
use Rattle.golog_base.proofs.KnownLemmas.{and_then-next}
use Rattle.golog_base.proofs.sink.write_all.Goals as goal

pub loop-at-preserved : goal.loop-at-preserved
loop-at-preserved g c =
    let rest = take_rest c.args.bytes.now c.loop-at.at in
    let some : c.in_ok-at.field-0 ≤ length (drop c.loop-at.at c.args.bytes.now)
    = subst (λ (s : List ℕ). c.in_ok-at.field-0 ≤ length s) rest c.in_ok-at.ensures.within in
    let added : g.K.Sink.taken c.write.new.self
    ≡ and_then_bytes (g.K.Sink.taken c.loop-at.out) (take c.in_ok-at.field-0 (drop c.loop-at.at c.args.bytes.now))
    = subst (λ (s : List ℕ). g.K.Sink.taken c.write.new.self ≡ and_then_bytes (g.K.Sink.taken c.loop-at.out) (take c.in_ok-at.field-0 s)) rest c.in_ok-at.ensures.added in (
      omega (arith, some, length-drop {A = ℕ}),
      and_then-next _ _ _ c.loop-at.at c.in_ok-at.field-0 c.args.bytes.now c.loop-at.invariant.1 added,
      c.in_ok-at.ensures.no_fault ∙ c.loop-at.invariant.2,
    )
