use Rattle.std.proofs.Common.{◌≡◌, ◌+◌, ◌*◌, ◌<◌, max, List, length, Some, refl, sym, ap, ◌∙◌, subst, rules, arith}
use Rattle.std.specs.Prelude.{slice_get}
use Rattle.std.proofs.lemmas.Option.{slice_get_past, slice_get_read}
use Rattle.golog_tree.specs.declared.agent.ProcItem.{ProcItem}
use Rattle.golog_tree.specs.declared.prog.Prog.{Prog}
use Rattle.golog_tree.specs.declared.prog.Prog.TheVariants as prog
use Rattle.golog_semantics.specs.Guarded.{Front, front, front_at, proc_fronts}
use Rattle.golog_fronts.specs.Fore.{IsFore}
use Rattle.golog_fronts.proofs.Moved.{one_same, two_same}
use Rattle.golog_fronts.proofs.Fores.{act_fore, body_fore, call_fore, call_low, choice_fore, choice_low, conc_fore, conc_low, cstar_fore, cstar_low, follow_fore, follow_low, front_in_body, if_fore, if_low, nil_fore, none_fore, pick_fore, pick_low, prio_fore, prio_low, search_fore, search_low, second_low, seq_barred, seq_fore, seq_low, star_fore, star_low, test_fore, while_fore, while_low}
use Rattle.golog_fronts.proofs.blocks.+fore.Goals as goal

pub fore_of-fore_of_seq-requires : goal.fore_of-fore_of_seq-requires
fore_of-fore_of_seq-requires t c =
    let same = ap (λ (z : Prog). (front c.args.agent.now z).height) (two_same prog.Seq c.in-Seq.is c.get.ensures c.get-in-Seq.ensures) in
    let low : 3 * (front c.args.agent.now (prog.Seq c.get.result.now c.get-in-Seq.result.now)).height < 1 + 3 * (front c.args.agent.now c.args.prog.now).height = omega arith in
    search rules

pub fore_of-fores-requires : goal.fore_of-fores-requires
fore_of-fores-requires t c =
    let low = choice_low c.args.agent.now c.args.prog.now _ _ (two_same prog.Choice c.in-Choice.is c.get-in-Choice.ensures c.get-in-Choice-2.ensures) in
    search rules

pub fore_of-fores-requires-in-If : goal.fore_of-fores-requires-in-If
fore_of-fores-requires-in-If t c =
    let low = if_low c.args.agent.now c.in-If.cond c.args.prog.now _ _ (two_same (prog.If c.in-If.cond) c.in-If.is c.get-in-If.ensures c.get-in-If-2.ensures) in
    search rules

pub fore_of-fores-requires-in-Conc : goal.fore_of-fores-requires-in-Conc
fore_of-fores-requires-in-Conc t c =
    let low = conc_low c.args.agent.now c.args.prog.now _ _ (two_same prog.Conc c.in-Conc.is c.get-in-Conc.ensures c.get-in-Conc-2.ensures) in
    search rules

pub fore_of-fores-requires-in-Prio : goal.fore_of-fores-requires-in-Prio
fore_of-fores-requires-in-Prio t c =
    let low = prio_low c.args.agent.now c.args.prog.now _ _ (two_same prog.Prio c.in-Prio.is c.get-in-Prio.ensures c.get-in-Prio-2.ensures) in
    search rules

pub fore_of-fore_of-requires : goal.fore_of-fore_of-requires
fore_of-fore_of-requires t c =
    let low = pick_low c.args.agent.now c.in-Pick.var c.in-Pick.sort c.args.prog.now _ (one_same (prog.Pick c.in-Pick.var c.in-Pick.sort) c.in-Pick.is c.get-in-Pick.ensures) in
    search rules

pub fore_of-fore_of-requires-in-Star : goal.fore_of-fore_of-requires-in-Star
fore_of-fore_of-requires-in-Star t c =
    let low = star_low c.args.agent.now c.args.prog.now _ (one_same prog.Star c.in-Star.is c.get-in-Star.ensures) in
    search rules

pub fore_of-fore_of-requires-in-Cstar : goal.fore_of-fore_of-requires-in-Cstar
fore_of-fore_of-requires-in-Cstar t c =
    let low = cstar_low c.args.agent.now c.args.prog.now _ (one_same prog.Cstar c.in-Cstar.is c.get-in-Cstar.ensures) in
    search rules

pub fore_of-fore_of-requires-in-While : goal.fore_of-fore_of-requires-in-While
fore_of-fore_of-requires-in-While t c =
    let low = while_low c.args.agent.now c.in-While.cond c.args.prog.now _ (one_same (prog.While c.in-While.cond) c.in-While.is c.get-in-While.ensures) in
    search rules

pub fore_of-fore_of-requires-in-Search : goal.fore_of-fore_of-requires-in-Search
fore_of-fore_of-requires-in-Search t c =
    let low = search_low c.args.agent.now c.in-Search.depth c.in-Search.fuel c.args.prog.now _ (one_same (prog.Search c.in-Search.depth c.in-Search.fuel) c.in-Search.is c.get-in-Search.ensures) in
    search rules

pub fore_of-fore_of-requires-in-Follow : goal.fore_of-fore_of-requires-in-Follow
fore_of-fore_of-requires-in-Follow t c =
    let low = follow_low c.args.agent.now c.in-Follow.depth c.in-Follow.fuel c.in-Follow.rest c.args.prog.now _ (one_same (λ (z : Prog). prog.Follow c.in-Follow.depth c.in-Follow.fuel z c.in-Follow.rest) c.in-Follow.is c.get-in-Follow.ensures) in
    search rules

pub fore_of-fore_of_call-requires : goal.fore_of-fore_of_call-requires
fore_of-fore_of_call-requires t c =
    let low = call_low c.args.agent.now c.args.prog.now c.in-Call.item c.in-Call.args c.in-Call.is in
    search rules

pub fore_of-returns-in-Nil : goal.fore_of-returns-in-Nil
fore_of-returns-in-Nil t c =
    nil_fore c.args.agent.now c.args.prog.now c.leaf.result c.in-Nil.is c.leaf.ensures.skip c.leaf.ensures.block

pub fore_of-returns-in-Act : goal.fore_of-returns-in-Act
fore_of-returns-in-Act t c =
    act_fore c.args.agent.now c.args.prog.now c.in-Act.action c.in-Act.args c.leaf-in-Act.result c.in-Act.is c.leaf-in-Act.ensures.skip c.leaf-in-Act.ensures.block

pub fore_of-returns-in-Test : goal.fore_of-returns-in-Test
fore_of-returns-in-Test t c =
    test_fore c.args.agent.now c.args.prog.now c.in-Test.field-0 c.leaf-in-Test.result c.in-Test.is c.leaf-in-Test.ensures.skip c.leaf-in-Test.ensures.block

pub fore_of-returns-in-Seq : goal.fore_of-returns-in-Seq
fore_of-returns-in-Seq t c =
    let a = c.get.result.now in
    let b = c.get-in-Seq.result.now in
    let e = two_same prog.Seq c.in-Seq.is c.get.ensures c.get-in-Seq.ensures in
    subst (λ (z : Prog). IsFore c.args.agent.now z c.fore_of_seq.result) (sym e) c.fore_of_seq.ensures

pub fore_of-returns-in-Choice : goal.fore_of-returns-in-Choice
fore_of-returns-in-Choice t c =
    let a = c.get-in-Choice.result.now in
    let b = c.get-in-Choice-2.result.now in
    let e = two_same prog.Choice c.in-Choice.is c.get-in-Choice.ensures c.get-in-Choice-2.ensures in
    choice_fore c.args.agent.now c.args.prog.now a b c.fores.result.0 c.fores.result.1 c.or.result c.fores.ensures.one c.fores.ensures.other e c.or.ensures.skip c.or.ensures.block

pub fore_of-returns-in-If : goal.fore_of-returns-in-If
fore_of-returns-in-If t c =
    let a = c.get-in-If.result.now in
    let b = c.get-in-If-2.result.now in
    let e = two_same (prog.If c.in-If.cond) c.in-If.is c.get-in-If.ensures c.get-in-If-2.ensures in
    if_fore c.args.agent.now c.args.prog.now a b c.fores-in-If.result.0 c.fores-in-If.result.1 c.or-in-If.result c.fores-in-If.ensures.one c.fores-in-If.ensures.other c.in-If.cond e c.or-in-If.ensures.skip c.or-in-If.ensures.block

pub fore_of-returns-in-Conc : goal.fore_of-returns-in-Conc
fore_of-returns-in-Conc t c =
    let a = c.get-in-Conc.result.now in
    let b = c.get-in-Conc-2.result.now in
    let e = two_same prog.Conc c.in-Conc.is c.get-in-Conc.ensures c.get-in-Conc-2.ensures in
    conc_fore c.args.agent.now c.args.prog.now a b c.fores-in-Conc.result.0 c.fores-in-Conc.result.1 c.and.result c.fores-in-Conc.ensures.one c.fores-in-Conc.ensures.other e c.and.ensures.skip c.and.ensures.block

pub fore_of-returns-in-Prio : goal.fore_of-returns-in-Prio
fore_of-returns-in-Prio t c =
    let a = c.get-in-Prio.result.now in
    let b = c.get-in-Prio-2.result.now in
    let e = two_same prog.Prio c.in-Prio.is c.get-in-Prio.ensures c.get-in-Prio-2.ensures in
    prio_fore c.args.agent.now c.args.prog.now a b c.fores-in-Prio.result.0 c.fores-in-Prio.result.1 c.and-in-Prio.result c.fores-in-Prio.ensures.one c.fores-in-Prio.ensures.other e c.and-in-Prio.ensures.skip c.and-in-Prio.ensures.block

pub fore_of-returns-in-Pick : goal.fore_of-returns-in-Pick
fore_of-returns-in-Pick t c =
    let a = c.get-in-Pick.result.now in
    let e = one_same (prog.Pick c.in-Pick.var c.in-Pick.sort) c.in-Pick.is c.get-in-Pick.ensures in
    pick_fore c.args.agent.now c.args.prog.now a c.fore_of.result c.fore_of.result c.fore_of.ensures c.in-Pick.var c.in-Pick.sort e refl refl

pub fore_of-returns-in-Star : goal.fore_of-returns-in-Star
fore_of-returns-in-Star t c =
    let a = c.get-in-Star.result.now in
    let e = one_same prog.Star c.in-Star.is c.get-in-Star.ensures in
    star_fore c.args.agent.now c.args.prog.now a c.fore_of-in-Star.result c.repeated.result c.fore_of-in-Star.ensures e c.repeated.ensures.skip c.repeated.ensures.block

pub fore_of-returns-in-Cstar : goal.fore_of-returns-in-Cstar
fore_of-returns-in-Cstar t c =
    let a = c.get-in-Cstar.result.now in
    let e = one_same prog.Cstar c.in-Cstar.is c.get-in-Cstar.ensures in
    cstar_fore c.args.agent.now c.args.prog.now a c.fore_of-in-Cstar.result c.repeated-in-Cstar.result c.fore_of-in-Cstar.ensures e c.repeated-in-Cstar.ensures.skip c.repeated-in-Cstar.ensures.block

pub fore_of-returns-in-While : goal.fore_of-returns-in-While
fore_of-returns-in-While t c =
    let a = c.get-in-While.result.now in
    let e = one_same (prog.While c.in-While.cond) c.in-While.is c.get-in-While.ensures in
    while_fore c.args.agent.now c.args.prog.now a c.fore_of-in-While.result c.repeated-in-While.result c.fore_of-in-While.ensures c.in-While.cond e c.repeated-in-While.ensures.skip c.repeated-in-While.ensures.block

pub fore_of-returns-in-Search : goal.fore_of-returns-in-Search
fore_of-returns-in-Search t c =
    let a = c.get-in-Search.result.now in
    let e = one_same (prog.Search c.in-Search.depth c.in-Search.fuel) c.in-Search.is c.get-in-Search.ensures in
    search_fore c.args.agent.now c.args.prog.now a c.fore_of-in-Search.result c.blocked.result c.fore_of-in-Search.ensures c.in-Search.depth c.in-Search.fuel e c.blocked.ensures.skip c.blocked.ensures.block

pub fore_of-returns-in-Follow : goal.fore_of-returns-in-Follow
fore_of-returns-in-Follow t c =
    let a = c.get-in-Follow.result.now in
    let e = one_same (λ (z : Prog). prog.Follow c.in-Follow.depth c.in-Follow.fuel z c.in-Follow.rest) c.in-Follow.is c.get-in-Follow.ensures in
    follow_fore c.args.agent.now c.args.prog.now a c.fore_of-in-Follow.result c.blocked-in-Follow.result c.fore_of-in-Follow.ensures c.in-Follow.depth c.in-Follow.fuel c.in-Follow.rest e c.blocked-in-Follow.ensures.skip c.blocked-in-Follow.ensures.block

pub fore_of-returns-in-Call : goal.fore_of-returns-in-Call
fore_of-returns-in-Call t c =
    call_fore c.args.agent.now c.args.prog.now c.in-Call.item c.in-Call.args c.fore_of_call.result c.in-Call.is c.fore_of_call.ensures

pub fore_of_call-fore_of-requires : goal.fore_of_call-fore_of-requires
fore_of_call-fore_of-requires t c =
    let at = slice_get_read c.as_slice.result.now (length c.as_slice.result.now) c.args.item c.in-Some.procedure.now refl c.in-Some.ensures.lookup.3.0 c.in-Some.ensures.lookup.1 in
    let found : slice_get c.args.agent.now.procs c.args.item ≡ Some c.in-Some.procedure.now = ap (λ (xs : List ProcItem). slice_get xs c.args.item) (sym c.as_slice.ensures) ∙ at in
    let same = ap (λ (f : Front). f.height) (front_in_body c.args.agent.now c.requires c.args.item c.in-Some.procedure.now found) in
    let low : 1 + 3 * (front c.args.agent.now c.in-Some.procedure.now.body).height < 2 + 3 * (front_at (proc_fronts c.args.agent.now) c.args.item).height = omega arith in
    search rules

pub fore_of_call-returns-in-None : goal.fore_of_call-returns-in-None
fore_of_call-returns-in-None t c =
    let past = slice_get_past c.as_slice.result.now c.args.item c.in-None.ensures.lookup.3 in
    none_fore c.args.agent.now c.requires c.args.item c.leaf.result (ap (λ (xs : List ProcItem). slice_get xs c.args.item) (sym c.as_slice.ensures) ∙ past) c.leaf.ensures.skip c.leaf.ensures.block

pub fore_of_call-returns-in-Some : goal.fore_of_call-returns-in-Some
fore_of_call-returns-in-Some t c =
    let at = slice_get_read c.as_slice.result.now (length c.as_slice.result.now) c.args.item c.in-Some.procedure.now refl c.in-Some.ensures.lookup.3.0 c.in-Some.ensures.lookup.1 in
    let found : slice_get c.args.agent.now.procs c.args.item ≡ Some c.in-Some.procedure.now = ap (λ (xs : List ProcItem). slice_get xs c.args.item) (sym c.as_slice.ensures) ∙ at in
    body_fore c.args.agent.now c.requires c.args.item c.in-Some.procedure.now c.fore_of.result found c.fore_of.ensures

pub fore_of_seq-fore_of-one-requires : goal.fore_of_seq-fore_of-one-requires
fore_of_seq-fore_of-one-requires t c =
    let low = seq_low c.args.agent.now c.args.one.now c.args.other.now in
    search rules

pub fore_of_seq-fore_of-requires : goal.fore_of_seq-fore_of-requires
fore_of_seq-fore_of-requires t c =
    let low = second_low c.args.agent.now c.args.one.now c.args.other.now (sym c.fore_of-one.ensures.skip ∙ c.if-one.true) in
    search rules

pub fore_of_seq-returns-then-one : goal.fore_of_seq-returns-then-one
fore_of_seq-returns-then-one t c =
    seq_fore c.args.agent.now (prog.Seq c.args.one.now c.args.other.now) c.args.one.now c.args.other.now c.fore_of-one.result c.fore_of.result c.and.result c.fore_of-one.ensures c.fore_of.ensures refl c.if-one.true c.and.ensures.skip c.and.ensures.block

pub fore_of_seq-returns-else-one : goal.fore_of_seq-returns-else-one
fore_of_seq-returns-else-one t c =
    seq_barred c.args.agent.now c.args.one.now c.args.other.now c.fore_of-one.result c.fore_of-one.ensures c.if-one.false

pub fores-fore_of-one-requires : goal.fores-fore_of-one-requires
fores-fore_of-one-requires t c =
    let low : 1 + 3 * (front c.args.agent.now c.args.one.now).height < 2 + 3 * max (front c.args.agent.now c.args.one.now).height (front c.args.agent.now c.args.other.now).height = omega arith in
    search rules

pub fores-fore_of-other-requires : goal.fores-fore_of-other-requires
fores-fore_of-other-requires t c =
    let low : 1 + 3 * (front c.args.agent.now c.args.other.now).height < 2 + 3 * max (front c.args.agent.now c.args.one.now).height (front c.args.agent.now c.args.other.now).height = omega arith in
    search rules

pub fores-returns : goal.fores-returns
fores-returns t c =
    record { one = c.fore_of-one.ensures; other = c.fore_of-other.ensures }
