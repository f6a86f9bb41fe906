use Rattle.std.proofs.Common.{◌≡◌, ◌<◌, List, length, map, get_or, sym, ap, ◌∙◌, arith, length-set}
use Rattle.std.proofs.lemmas.List.{length-map, get_or-map}
use Rattle.golog_tree.specs.declared.cond.Arg.{Arg}
use Rattle.golog_semantics.specs.Truth.{env_of, arg_value}
use Rattle.golog_journal.proofs.Filling.{args-few, fill-more}
use Rattle.golog_journal.proofs.table.fluent_in.Goals as goal

pub bounds-given-index : goal.bounds-given-index
bounds-given-index c =
    let xs = map (arg_value (env_of c.args.args.now)) c.args.sense.now.args in
    let few = args-few c.args.agent.now c.args.sense.now.fluent xs c.requires.countable c.requires.fluent c.requires.fits in
    let long = length-map c.args.sense.now.args (arg_value (env_of c.args.args.now)) in
    let same = ap (λ (l : List Arg). length l) c.as_slice-items.ensures in
    let test = c.loop-index-test.true in
    omega (arith, few, long, same, test)

pub loop-index-preserved : goal.loop-index-preserved
loop-index-preserved c =
    let f = arg_value (env_of c.args.args.now) in
    let items = c.as_slice-items.result.now in
    let xs = map f c.args.sense.now.args in
    let i = c.loop-index.index in
    let few = args-few c.args.agent.now c.args.sense.now.fluent xs c.requires.countable c.requires.fluent c.requires.fits in
    let long = length-map c.args.sense.now.args f in
    let same = ap (λ (l : List Arg). length l) c.as_slice-items.ensures in
    let within : i < length items = c.loop-index-test.true in
    let size = c.loop-index.invariant.1 in
    let is : c.value_in.result ≡ get_or xs i 0 = c.value_in.ensures ∙ sym (get_or-map f items i _ 0 within) ∙ ap (λ (l : List Arg). get_or (map f l) i 0) c.as_slice-items.ensures in (
      fill-more c.loop-index.given xs i c.value_in.result (omega (arith, few, long, same, within, size)) (omega (arith, long, same, within)) is
          c.loop-index.invariant.0,
      length-set c.loop-index.given i c.value_in.result ∙ size,
    )
