use Rattle.std.proofs.Common.{rules}
use Rattle.golog_regress.proofs.ImageParts.{image-and, image-or}
use Rattle.golog_regress.proofs.substitute.+cond_with.Goals as goal

pub cond_with-returns-in_ok-conds_with-in-And : goal.cond_with-returns-in_ok-conds_with-in-And
cond_with-returns-in_ok-conds_with-in-And t c = search (rules, image-and)

pub cond_with-returns-in_ok-conds_with-in-Or : goal.cond_with-returns-in_ok-conds_with-in-Or
cond_with-returns-in_ok-conds_with-in-Or t c = search (rules, image-or)
