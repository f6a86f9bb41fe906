use Rattle.std.proofs.Common.{◌∷◌, [], ◌++◌, sym, ap, ◌∙◌, subst}
use Rattle.golog_semantics.specs.declared.journal.Entry.{Entry}
use Rattle.golog_journal.specs.Boards.{IsBoardList}
use Rattle.golog_journal.proofs.CommandsKept.{is-step}
use Rattle.golog_journal.proofs.Views.{seen_as}
use Rattle.golog_journal.proofs.counts.Counts.add_committed.Goals as goal

pub add_do-requires : goal.add_do-requires
add_do-requires c =
    let v = c.args.self.now in
    subst (λ (e : Entry). IsBoardList v.agent (v.entries ++ e ∷ [])) c.in-Do.is c.requires.lawful

pub add_step-requires-clause-step : goal.add_step-requires-clause-step
add_step-requires-clause-step c = is-step c.args.self.now.agent c.args.entry c.requires.program c.in_default.not-Do

pub returns-in-Do : goal.returns-in-Do
returns-in-Do c =
    let v = c.args.self.now in
    c.add_do.ensures ∙ ap (λ (e : Entry). seen_as v.agent (v.entries ++ e ∷ [])) (sym c.in-Do.is)
