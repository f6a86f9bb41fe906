-- The lines that are left once some were taken.
use Rattle.std.proofs.Common.{◌≡◌, true, false, List, [], ◌∷◌, Option, Some, None, drop, refl, sym, ap, ◌∙◌}
use Rattle.std.specs.Prelude.{ℕ, MatchOption, is_some}
use denote.Ref.{Bor}
use Rattle.golog_tree.specs.declared.agent.Agent.{Agent}
use Rattle.golog_semantics.specs.Restart.{started}
use Rattle.golog_semantics.specs.Text.{Text}
use Rattle.golog_semantics.specs.Truth.{Values}
use Rattle.golog_semantics.specs.Verdicts.{entry_lines, head_length, lines_in}

pub next-dropped : (result : Option (Bor (List ℕ))) (old new : List Text) → MatchOption result ((old ≡ []) × (new ≡ [])) (λ line. old ≡ line.now ∷ new) → new ≡ drop 1 old
next-dropped None old new h = h.1 ∙ sym (ap (drop 1) h.0)
next-dropped (Some line) old new h = sym (ap (drop 1) h)

module _ (agent : Agent) (bytes : Text) where
  -- the lines of the entries, by whether there is a head
  pub behind-head : (start : Option Values) → is_some start ≡ true → drop (head_length agent) (lines_in bytes) ≡ entry_lines agent bytes start
  behind-head None h = absurd (cc)
  behind-head (Some values) h = refl

  pub all-lines : (start : Option Values) → is_some start ≡ false → lines_in bytes ≡ entry_lines agent bytes start
  all-lines None h = refl
  all-lines (Some values) h = absurd (cc)

  -- the agent's start values are not asked for how long a head is
  pub same-lines : (start : Option Values) → entry_lines (started agent start) bytes start ≡ entry_lines agent bytes start
  same-lines None = refl
  same-lines (Some values) = refl
