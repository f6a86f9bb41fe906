use Rattle.std.proofs.Common.{rules, ◌≡◌, ◌+◌, ◌-◌, ◌≤◌, length, length-append, ◌∙◌, arith}
use Rattle.golog_progress.proofs.Affected.{cause_is, args_even, take-parts}
use Rattle.golog_progress.proofs.causes.affect.Goals as goal

pub head_of-head-requires : goal.head_of-head-requires
head_of-head-requires c =
    let is = cause_is c.args.agent.now c.args.cause.now c.requires.agent c.requires.cause in
    omega (arith, length-append c.args.cause.now.action_args c.args.cause.now.fluent_args, is.even, is.few_given, is.few_free)

pub shared_ref_as_front-given : goal.shared_ref_as_front-given
shared_ref_as_front-given c =
    let is = cause_is c.args.agent.now c.args.cause.now c.requires.agent c.requires.cause in
    let even = args_even c.args.agent.now c.args.cause.now c.requires.agent c.requires.cause c.args.args.now c.requires.args in
    omega (arith, even, is.few_given)

pub slice_bounds-free-count : goal.slice_bounds-free-count
slice_bounds-free-count c =
    let is = cause_is c.args.agent.now c.args.cause.now c.requires.agent c.requires.cause in
    let even = args_even c.args.agent.now c.args.cause.now c.requires.agent c.requires.cause c.args.args.now c.requires.args in
    omega (arith, even, length-append c.args.cause.now.action_args c.args.cause.now.fluent_args, is.even, c.len.ensures, c.len-2.ensures)

pub slice_bounds-free-start : goal.slice_bounds-free-start
slice_bounds-free-start c =
    let is = cause_is c.args.agent.now c.args.cause.now c.requires.agent c.requires.cause in
    let even = args_even c.args.agent.now c.args.cause.now c.requires.agent c.requires.cause c.args.args.now c.requires.args in
    let below : length c.args.args.now ≤ c.len.result + c.len-2.result = omega (arith, even, length-append c.args.cause.now.action_args c.args.cause.now.fluent_args, is.even, c.len.ensures, c.len-2.ensures) in
    search rules

pub affect_by-requires-clause-head : goal.affect_by-requires-clause-head
affect_by-requires-clause-head c =
    let is = cause_is c.args.agent.now c.args.cause.now c.requires.agent c.requires.cause in
    let even = args_even c.args.agent.now c.args.cause.now c.requires.agent c.requires.cause c.args.args.now c.requires.args in
    let count : c.len.result + c.len-2.result ≡ length c.args.cause.now.action_args + length c.args.cause.now.fluent_args = omega (arith, c.len.ensures, c.len-2.ensures) in
    let few : length c.args.cause.now.action_args + length c.args.cause.now.fluent_args ≤ 6 = omega (arith, length-append c.args.cause.now.action_args c.args.cause.now.fluent_args, is.even, is.few_given, is.few_free) in
    let below : length c.args.args.now ≤ c.len.result + c.len-2.result = omega (arith, even, length-append c.args.cause.now.action_args c.args.cause.now.fluent_args, is.even, c.len.ensures, c.len-2.ensures) in
    take-parts (length c.args.args.now) (c.len.result + c.len-2.result - length c.args.args.now) (length c.args.cause.now.action_args + length c.args.cause.now.fluent_args) c.head_of-head.result (omega arith) (omega (arith, c.head_of-head.ensures.room)) ∙ c.head_of-head.ensures.head
