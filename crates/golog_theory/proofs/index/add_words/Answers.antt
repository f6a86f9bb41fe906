use Rattle.std.proofs.Common.{◌∙◌}
use Rattle.golog_theory.proofs.Found.{words_more}
use Rattle.golog_theory.proofs.index.add_words.Goals as goal

pub loop-word-preserved : goal.loop-word-preserved
loop-word-preserved c = λ word.
    words_more c.loop-word.numbers c.add.new.self c.args.words.now c.loop-word.word-index c.word-item.result c.args.number
    c.loop-word-test.true c.word-item.is (rw c.as_bytes.ensures.same at c.in_ok-add.ensures) word
    ∙ c.loop-word.invariant word
