use Rattle.std.proofs.Common.{sym, ◌∙◌}
use Rattle.golog_device.proofs.Commanded.{may-plain, answer-plain, not-refused}
use Rattle.golog_device.proofs.turn.serve_command.Goals as goal

pub post_item-requires-clause-allowed : goal.post_item-requires-clause-allowed
post_item-requires-clause-allowed g c =
    may-plain (g.B.Board.sight c.args.board.now).agent (g.B.Board.sight c.args.board.now).seen c.args.poster c.args.taken c.in-Some.item
    (answer-plain c.args.agent.now c.args.poster c.args.action c.args.asked c.serve-served.result c.in-Some.item
    (sym (c.item_of_answer.ensures c.args.poster) ∙ c.in-Some.is))
    c.requires.driven

pub post_item-requires-clause-taking : goal.post_item-requires-clause-taking
post_item-requires-clause-taking g c =
    not-refused c.in-Some.item
    (answer-plain c.args.agent.now c.args.poster c.args.action c.args.asked c.serve-served.result c.in-Some.item
    (sym (c.item_of_answer.ensures c.args.poster) ∙ c.in-Some.is))
