use Rattle.std.proofs.Common.{◌+◌, sym, ◌∙◌, subst, arith}
use Rattle.golog_semantics.specs.declared.journal.Item.TheVariants as item
use Rattle.golog_journal.specs.Taken.{IsDriven}
use Rattle.golog_journal.specs.Posting.{MayPost}
use Rattle.golog_device.proofs.Commanded.{taken-small, told-number, told-driven, told-stop}
use Rattle.golog_device.proofs.turn.do_next.Goals as goal

pub overflow_add-taken : goal.overflow_add-taken
overflow_add-taken g c =
    let small = taken-small c.args.agent.now (g.B.Board.sight c.args.board.now).seen c.args.poster c.args.taken.now c.requires.lawful c.requires.ready in
    omega (arith, small)

pub serve_command-requires-clause-number : goal.serve_command-requires-clause-number
serve_command-requires-clause-number g c =
    told-number c.args.agent.now (g.B.Board.sight c.args.board.now).seen c.args.poster c.args.taken.now c.requires.lawful c.requires.ready
    c.in-Command.place c.in-Command.action c.in-Command.asked (sym c.in-Command.is ∙ c.requires.told)

pub serve_command-requires-clause-driven : goal.serve_command-requires-clause-driven
serve_command-requires-clause-driven g c =
    subst (λ a. IsDriven a (g.B.Board.sight c.args.board.now).seen c.args.poster (c.args.taken.now + 1)) (sym c.requires.agent)
    (told-driven c.args.agent.now (g.B.Board.sight c.args.board.now).seen c.args.poster c.args.taken.now c.requires.lawful c.requires.ready
    c.in-Command.place c.in-Command.action c.in-Command.asked (sym c.in-Command.is ∙ c.requires.told))

pub post_item-requires-clause-allowed : goal.post_item-requires-clause-allowed
post_item-requires-clause-allowed g c =
    subst (λ a. MayPost a (g.B.Board.sight c.args.board.now).seen c.args.poster c.args.taken.now item.Stop) (sym c.requires.agent)
    (told-stop c.args.agent.now (g.B.Board.sight c.args.board.now).seen c.args.poster c.args.taken.now c.requires.lawful c.requires.ready
    (sym c.in-Ended.is ∙ c.requires.told))
