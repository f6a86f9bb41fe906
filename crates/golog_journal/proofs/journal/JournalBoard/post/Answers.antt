use Rattle.std.proofs.Common.{◌≡◌, ℕ, ◌∷◌, [], ◌++◌, length, refl, sym, ap, ◌∙◌, subst}
use Rattle.std.specs.Option.{option_map_or}
use Rattle.golog_semantics.specs.declared.journal.Entry.{Entry}
use Rattle.golog_semantics.specs.declared.journal.Entry.TheVariants.{Close}
use Rattle.golog_semantics.specs.Posts.{entry_of, posted_entry}
use Rattle.golog_journal.specs.Boards.{AgentJournal, IsBoardList}
use Rattle.golog_journal.specs.Posting.{posted_at}
use Rattle.golog_journal.proofs.Alone.{called}
use Rattle.golog_journal.proofs.Sensing.{sensed-inside}
use Rattle.golog_journal.proofs.PostsLawful.{post-list}
use Rattle.golog_journal.proofs.journal.JournalBoard.post.Goals as goal

pub push-requires : goal.push-requires
push-requires c =
    let v = c.args.self.now in
    let same : c.posted_entry-entry.result ≡ posted_entry v.agent v.entries c.args.poster c.args.taken c.args.item =
    c.posted_entry-entry.ensures
    ∙ ap (λ o. option_map_or (λ r. Close c.args.poster r c.args.taken) o (entry_of v.agent v.entries c.args.poster c.args.taken c.args.item)) c.closing-closing.ensures in
    subst (λ (e : Entry). IsBoardList v.agent (v.entries ++ e ∷ [])) (sym same)
    (post-list v.agent v.entries c.args.poster c.args.taken c.keeps_rules.ensures.lawful c.requires.allowed.driven
    (sensed-inside v.agent c.keeps_rules.ensures.serves) c.args.item c.requires.allowed)

pub returns : goal.returns
returns c =
    let v = c.args.self.now in
    let e = c.posted_entry-entry.result in
    let same : e ≡ posted_entry v.agent v.entries c.args.poster c.args.taken c.args.item =
    c.posted_entry-entry.ensures
    ∙ ap (λ o. option_map_or (λ r. Close c.args.poster r c.args.taken) o (entry_of v.agent v.entries c.args.poster c.args.taken c.args.item)) c.closing-closing.ensures in
    let list : IsBoardList v.agent (v.entries ++ e ∷ []) =
    subst (λ (x : Entry). IsBoardList v.agent (v.entries ++ x ∷ [])) (sym same)
    (post-list v.agent v.entries c.args.poster c.args.taken c.keeps_rules.ensures.lawful c.requires.allowed.driven
    (sensed-inside v.agent c.keeps_rules.ensures.serves) c.args.item c.requires.allowed) in
    let place : c.len-place.result ≡ length v.entries = c.len-place.ensures.number ∙ ap (λ (w : AgentJournal). length w.entries) c.self.view_is in
    let more = c.push.ensures.more in
    called _ _ _ (e ∷ []) (ap (λ (w : AgentJournal). w.agent) more) refl refl (ap (λ (w : AgentJournal). w.entries) more)
    (record {
      one = ap (λ (x : Entry). x ∷ []) same;
      told = c.posted_at.ensures ∙ ap (λ (n : ℕ). posted_at n c.closing-closing.result) place ∙ ap (posted_at (length v.entries)) c.closing-closing.ensures;
    })
    (subst (λ (w : AgentJournal). IsBoardList w.agent w.entries) (sym more) list) c.push.ensures.short
