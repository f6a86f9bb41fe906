use Rattle.std.proofs.Common.{◌∷◌, [], refl, sym, ap, subst}
use Rattle.std.proofs.lemmas.List.{append-nil}
use Rattle.golog_journal.specs.Boards.{AgentJournal, IsBoardList}
use Rattle.golog_journal.proofs.Alone.{called}
use Rattle.golog_journal.proofs.PostsLawful.{commit-list}
use Rattle.golog_journal.proofs.journal.JournalBoard.commit.Goals as goal

pub push-requires : goal.push-requires
push-requires c =
    let v = c.args.self.now in
    commit-list v.agent v.entries c.args.at c.args.entry c.keeps_rules.ensures.lawful c.requires.allowed c.in-None.ensures

pub returns-in-Some : goal.returns-in-Some
returns-in-Some c =
    called _ _ _ [] refl refl refl (sym (append-nil c.args.self.now.entries))
    (record { above = c.in-Some.ensures.0; told = c.in-Some.ensures.1; none = refl })
    c.keeps_rules.ensures.lawful c.keeps_rules.ensures.short

pub returns-in-None : goal.returns-in-None
returns-in-None c =
    let v = c.args.self.now in
    let more = c.push.ensures.more in
    let list = commit-list v.agent v.entries c.args.at c.args.entry c.keeps_rules.ensures.lawful c.requires.allowed c.in-None.ensures in
    called _ _ _ (c.args.entry ∷ []) (ap (λ (w : AgentJournal). w.agent) more) refl refl (ap (λ (w : AgentJournal). w.entries) more)
    (record { at_end = c.in-None.ensures; one = refl }) (subst (λ (w : AgentJournal). IsBoardList w.agent w.entries) (sym more) list)
    c.push.ensures.short
