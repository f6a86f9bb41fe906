-- Parts that nest to the right, taken from the last on.
use Rattle.std.proofs.Common.{◌≡◌, List, [], ◌∷◌, ◌++◌, refl, ap, ◌∙◌}
use Rattle.golog_tree.specs.declared.prog.Prog.{Prog}
use Rattle.golog_tree.specs.declared.join.Join.{Join}
use Rattle.golog_shapes.specs.Nested.{joined, nested}

-- the last two parts are joined first
last_two : (join : Join) (parts : List Prog) (one other : Prog) → nested join (parts ++ one ∷ other ∷ []) ≡ nested join (parts ++ joined join one other ∷ [])
last_two join [] one other = refl
last_two join (p ∷ []) one other = refl
last_two join (p ∷ q ∷ parts) one other = ap (joined join p) (last_two join (q ∷ parts) one other)

append-two : (parts : List Prog) (one other : Prog) → (parts ++ one ∷ []) ++ other ∷ [] ≡ parts ++ one ∷ other ∷ []
append-two [] one other = refl
append-two (p ∷ parts) one other = ap (λ ps. p ∷ ps) (append-two parts one other)

pub nested-step : (join : Join) (whole parts : List Prog) (one other : Prog) → whole ≡ parts ++ one ∷ [] → nested join (whole ++ other ∷ []) ≡ nested join (parts ++ joined join one other ∷ [])
nested-step join whole parts one other is = ap (λ ps. nested join (ps ++ other ∷ [])) is ∙ ap (nested join) (append-two parts one other) ∙ last_two join parts one other

pub nested-end : (join : Join) (parts : List Prog) (one : Prog) → parts ≡ [] → nested join (parts ++ one ∷ []) ≡ one
nested-end join parts one is = ap (λ ps. nested join (ps ++ one ∷ [])) is

pub ruleset laws = (nested-step, nested-end)
