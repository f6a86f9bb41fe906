use Rattle.std.proofs.Common.{rules, add-one, arith, ◌<◌, length}
use Rattle.std.proofs.Math.Seq.{take-suc, take-suc-set}
use Rattle.std.proofs.lemmas.List.{map-append}
use Rattle.golog_tree.specs.declared.cond.Arg.TheVariants.{Const}
use Rattle.golog_known.proofs.env.Env.arg_values.Goals as goal

pub loop-i-preserved : goal.loop-i-preserved
loop-i-preserved c =
    let within : c.loop-i.i < length c.args.args.now = omega arith in
    let set = take-suc-set c.loop-i.values c.loop-i.i c.arg_value.result (omega arith) in
    let more = take-suc c.args.args.now c.loop-i.i (Const 0) within in
    record { room = search rules; done = rw (add-one, set, more, map-append) (cc c.loop-i.invariant.done) }
