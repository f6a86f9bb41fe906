use Rattle.std.proofs.Common.{◌≡◌, ◌<◌, refl, true, sym, ap, ◌∙◌, subst, arith}
use Rattle.golog_semantics.specs.Journal.{may_post}
use Rattle.golog_semantics.specs.Online.{is_declared}
use Rattle.golog_semantics.specs.Reports.{fits_entry}
use Rattle.golog_semantics.specs.declared.journal.Entry.TheVariants.{Exo}
use Rattle.golog_replay.proofs.Noting.{poster-within}
use Rattle.golog_replay.proofs.standing.Standing.is_declared.Goals as goal

pub may_post-requires : goal.may_post-requires
may_post-requires c =
    let agent = c.args.agent.now in
    let fits : fits_entry agent c.args.before.now (Exo c.in-Exo.poster c.in-Exo.action) ≡ true =
    sym (ap (fits_entry agent c.args.before.now) c.in-Exo.is) ∙ c.requires.fits in
    let low = poster-within agent c.args.before.now (Exo c.in-Exo.poster c.in-Exo.action) c.in-Exo.poster refl fits in
    let few = c.requires.standing.serves.few in
    omega (arith, low, few)

pub returns-in-Exo : goal.returns-in-Exo
returns-in-Exo c =
    let agent = c.args.agent.now in
    c.may_post.ensures ∙ ap (λ a. may_post a c.in-Exo.poster c.in-Exo.action) c.requires.standing.facts_so
    ∙ ap (is_declared agent c.args.before.now) (sym c.in-Exo.is)
