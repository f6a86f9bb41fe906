use Rattle.std.proofs.Common.{◌≡◌, ◌+◌, ◌-◌, Bool, List, ℕ, [], ◌∷◌, take, drop, length, refl, sym, ap, ◌∙◌}
use Rattle.std.specs.Prelude.{if◌then◌else◌}
use Rattle.golog_reports.proofs.Cuts.{parts-none, parts-some}
use Rattle.golog_reports.proofs.Rests.{rest-whole}
use Rattle.golog_semantics.specs.Verdicts.{lines_in}
use Rattle.golog_replay.proofs.lines.Lines.next.Goals as goal

-- the lines to come, by whether they are over
abbrev left : List ℕ → Bool → List (List ℕ)
left rest over = if over then [] else lines_in rest

pub returns-in-Some : goal.returns-in-Some
returns-in-Some c =
    let rest = c.self.inside.rest.now in
    let end = c.in-Some.end in
    sym c.self.view_is ∙ ap (left rest) c.if-self.false
    ∙ parts-some 10 rest end (sym c.in-Some.is ∙ c.line_end.ensures)
    ∙ ap (λ r. take end rest ∷ lines_in r) (sym (rest-whole (end + 1) rest))
    ∙ ap (λ b. take end rest ∷ left (take (length rest - (end + 1)) (drop (end + 1) rest)) b) (sym c.if-self.false)

pub returns-in-None : goal.returns-in-None
returns-in-None c =
    let rest = c.self.inside.rest.now in
    sym c.self.view_is ∙ ap (left rest) c.if-self.false ∙ parts-none 10 rest (sym c.in-None.is ∙ c.line_end.ensures)

pub returns-then-self : goal.returns-then-self
returns-then-self c =
    let over = sym c.self.view_is ∙ ap (left c.self.inside.rest.now) c.if-self.true in (over, over)
