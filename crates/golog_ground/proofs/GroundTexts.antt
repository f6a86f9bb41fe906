-- What is written of a ground thing: its name, and its arguments in brackets where it has some.
use Rattle.std.proofs.Common.{◌≡◌, ℕ, ◌+◌, ◌*◌, ◌<◌, ◌≤◌, append-nil, List, [], ◌∷◌, ◌++◌, length, refl, sym, ap, ◌∙◌, arith}
use Rattle.golog_tree.specs.declared.agent.Agent.{Agent}
use Rattle.golog_tree.specs.Ground.{AreWithin, sizes}
use Rattle.golog_semantics.specs.Text.{Text, args_text}
use Rattle.golog_ground.specs.Texts.{enclosed}
use Rattle.golog_ground.proofs.Enclosed.{in-brackets}

-- what is written first
pub first-written : (new old bytes name : Text) → new ≡ old ++ bytes → old ≡ [] → bytes ≡ name → new ≡ name
first-written new old bytes name e h k = e ∙ (λ i. h i ++ k i)

no-brackets : (agent : Agent) (sorts args : List ℕ) → length sorts ≡ 0 → args_text agent sorts args ≡ []
no-brackets agent [] args e = refl
no-brackets agent (s ∷ sorts) args e = absurd (omega arith)

module _ (agent : Agent) (name text : Text) (e : text ≡ name) (sorts args : List ℕ) where
  pub room : length name ≤ 31 → length sorts ≤ 3 → length text + 32 * length sorts + 1 ≤ 128
  room short few = omega (arith, ap length e, short, few)

  pub written : AreWithin (sizes agent sorts) args → 0 < length sorts → text ++ enclosed agent 40 sorts args ≡ name ++ args_text agent sorts args
  written fits some = λ i. e i ++ sym (in-brackets agent sorts args some fits) i

  pub written-alone : length sorts ≡ 0 → text ≡ name ++ args_text agent sorts args
  written-alone none =
      e ∙ sym (append-nil name) ∙ ap (λ t. name ++ t) (sym (no-brackets agent sorts args none))
