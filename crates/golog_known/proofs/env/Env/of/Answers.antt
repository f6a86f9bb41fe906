use Rattle.std.proofs.Common.{◌≡◌, ℕ, suc, ◌+◌, ◌-◌, ◌<◌, ◌≤◌, List, ◌++◌, length, take, replicate, slice_set, get_or, ap, ◌∙◌, sym, arith}
use Rattle.std.proofs.lemmas.List.{take_all}
use Rattle.golog_semantics.specs.Truth.{env_of}
use Rattle.golog_tree.proofs.Decoded.{set-padded}
use Rattle.golog_known.proofs.env.Env.of.Goals as goal

one-more : (args values : List ℕ) (i : ℕ) → i < length args → length args ≤ 32 → values ≡ take i args ++ replicate (32 - i) 0
    → slice_set values i (get_or args i 0) ≡ take (i + 1) args ++ replicate (32 - (i + 1)) 0
one-more args values i inside few e =
    let n : 32 - i ≡ suc (32 - (i + 1)) = omega arith in
    let m : i + 1 ≡ suc i = omega arith in
    ap (λ given. slice_set given i (get_or args i 0)) (e ∙ ap (λ j. take i args ++ replicate j 0) n)
    ∙ set-padded args i (32 - (i + 1)) inside
    ∙ ap (λ j. take j args ++ replicate (32 - (i + 1)) 0) (sym m)

pub loop-i-preserved : goal.loop-i-preserved
loop-i-preserved c = one-more c.args.args.now c.loop-i.values c.loop-i.i (omega arith) c.requires c.loop-i.invariant

pub returns : goal.returns
unfolding env_of
returns c =
    let same : c.loop-i.i ≡ length c.args.args.now = omega arith in
    c.loop-i.invariant
    ∙ ap (λ xs. xs ++ replicate (32 - c.loop-i.i) 0) (take_all c.loop-i.i c.args.args.now (omega arith))
    ∙ ap (λ n. c.args.args.now ++ replicate (32 - n) 0) same
