use Rattle.std.proofs.Common.{◌≡◌, ℕ, suc, ◌+◌, ◌-◌, List, ◌++◌, codes, refl, sym, ap, ◌∙◌, append_assoc, arith}
use Rattle.std.specs.List.{flat_map}
use Rattle.golog_demo.specs.Demo.{downward, push_text}
use Rattle.golog_demo.proofs.files.add_pushes.Goals as goal

-- a push behind a comma
abbrev behind : ℕ → List ℕ
behind floor = codes "," ++ push_text floor

-- a push that is added is the next of those below
turn : (text comma pushed total : List ℕ) (n m : ℕ) → n ≡ suc m → comma ≡ text ++ codes ","
    → pushed ≡ comma ++ push_text n → text ++ flat_map behind (downward n) ≡ total
    → pushed ++ flat_map behind (downward m) ≡ total
turn text comma pushed total n m is added next all =
    let rest = flat_map behind (downward m) in
    let one : comma ++ push_text n ≡ text ++ behind n = ap (λ t. t ++ push_text n) added ∙ append_assoc text (codes ",") (push_text n) in
    let split : flat_map behind (downward n) ≡ behind n ++ rest = rw is refl in
    ap (λ t. t ++ rest) (next ∙ one) ∙ append_assoc text (behind n) rest ∙ sym (ap (λ t. text ++ t) split) ∙ all

pub loop-below-preserved : goal.loop-below-preserved
loop-below-preserved c =
    let size = c.args.size in let below = c.loop-below.below in
    turn c.loop-below.text c.extend.new.self c.add_push-in-loop-below.new.text _ (size - below) (size - (below + 1))
    (omega arith) c.in_ok-extend.ensures.added c.in_ok-add_push-2.ensures c.loop-below.invariant
