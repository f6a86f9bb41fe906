use Rattle.std.proofs.Common.{FoldHasher, ap, ◌∙◌}
use Rattle.std.specs.Prelude.{fold}
use Rattle.std.specs.Hash.{u64 as number_input}
use Rattle.std.specs.Hash.FoldHasher.{finish, write}
use Rattle.golog_branch.specs.Places.{spot_hash}
use Rattle.golog_branch.proofs.places.hash_of.Goals as goal

pub returns : goal.returns
unfolding spot_hash
returns c =
    c.finish.ensures
    ∙ ap finish (c.write.ensures ∙ ap (λ (h : FoldHasher). write h c.args.values.now) (c.write_u64.ensures ∙ ap (λ (h : FoldHasher). fold write h (number_input c.args.number)) c.default-hasher.ensures))
