-- What a check says of an agent.
use Rattle.std.specs.Prelude.{ℕ, [], ◌∷◌, ◌++◌, codes, decimal, length}
use Rattle.golog_tree.specs.declared.agent.Agent.{Agent}
use Rattle.golog_tree.specs.Ground.{ground_actions, ground_fluents}
use Rattle.golog_semantics.specs.Text.{Text}

-- a line with these numbers of ground fluents, ground actions, procedures and devices
abbrev pub counts_line : ℕ → ℕ → ℕ → ℕ → Text
counts_line fluents actions procedures devices =
    codes "ok fluents " ++ decimal fluents ++ codes " actions " ++ decimal actions
    ++ codes " procedures " ++ decimal procedures ++ codes " devices " ++ decimal devices ++ 10 ∷ []

-- the line of an agent
abbrev pub check_text : Agent → Text
check_text agent =
    counts_line (length (ground_fluents agent)) (length (ground_actions agent))
    (length agent.procs) (length agent.devices)
