use Rattle.std.proofs.Common.{◌≡◌, ℕ, ◌+◌, ◌≤◌, ◌<◌, Bool, true, false, if◌then◌else◌, get_or, length, sym, ap, ◌∙◌, arith}
use Rattle.std.specs.Prelude.{is_some}
use Rattle.std.proofs.lemmas.List.{get_or_default}
use Rattle.golog_semantics.specs.declared.journal.Entry.{Entry}
use Rattle.golog_semantics.specs.declared.journal.Entry.TheVariants.{Do}
use Rattle.golog_journal.proofs.Reaching.{reached-further}
use Rattle.golog_journal.proofs.reached.reached_from.Goals as goal

one-more : (b : Bool) (few number : ℕ) → few ≤ number → few + (if b then 1 else 0) ≤ number + 1
one-more true few number low = omega (arith, low)
one-more false few number low = omega (arith, low)

pub loop-index-preserved : goal.loop-index-preserved
loop-index-preserved c =
    let l = c.loop-index in
    let is = l.invariant in
    let entries = c.args.entries.now in
    let place = is.place in
    let test : l.index < length entries = c.loop-index-test.true in
    let inside : l.reached.place < length entries = omega (arith, place, test) in
    let e : Entry = get_or entries l.index (Do 0) in
    let at : e ≡ get_or entries l.reached.place e = get_or_default entries l.index (Do 0) e test ∙ ap (λ n. get_or entries n e) (sym place) in
    let further = c.past-reached.ensures in
    record {
      reached =
          reached-further c.args.facts.now c.args.device entries l.reached is.reached c.past-reached.result e c.command_in-command.result inside at
          c.command_in-command.ensures further.place further.commands further.last;
      most =
          (let fewer = one-more (is_some c.command_in-command.result) l.reached.commands c.args.number c.if-number-reached.false in
          let more = further.commands in
          omega (arith, fewer, more));
      place = (let more = further.place in omega (arith, place, more));
    }
