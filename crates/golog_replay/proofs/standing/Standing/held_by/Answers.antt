use Rattle.std.proofs.Common.{[], ◌∷◌, ◌++◌, length, refl, sym, ap, ◌∙◌, subst}
use Rattle.golog_semantics.specs.declared.journal.Entry.TheVariants.{Do}
use Rattle.golog_semantics.specs.Journal.{device_of, is_held}
use Rattle.golog_tree.specs.declared.agent.Agent.{Agent}
use Rattle.golog_replay.specs.declared.standing.Held.{Held}
use Rattle.golog_replay.specs.Standings.{HoldsBy}
use Rattle.golog_replay.proofs.Awaiting.{holds-new, holds-none, holds-nothing, none-held}
use Rattle.golog_replay.proofs.standing.Standing.held_by.Goals as goal

pub returns-in_err-device : goal.returns-in_err-device
returns-in_err-device c =
    let agent = c.args.agent.now in
    let before = c.args.before.now in
    let action = c.args.action in
    let s = c.requires.standing in
    subst (HoldsBy agent (before ++ Do action ∷ [])) (sym c.from_residual.ensures)
    (holds-none agent before action (none-held agent before c.args.self.now.held s.holds c.requires.settled)
    (sym (c.in_err-device.ensures ∙ ap (λ (a : Agent). device_of a action) s.facts_so)))

pub returns-then-not-is_held : goal.returns-then-not-is_held
returns-then-not-is_held c =
    let agent = c.args.agent.now in
    let before = c.args.before.now in
    let action = c.args.action in
    let s = c.requires.standing in
    holds-nothing agent before action (none-held agent before c.args.self.now.held s.holds c.requires.settled)
    (sym (c.is_held.ensures ∙ ap (λ (a : Agent). is_held a action) s.facts_so) ∙ c.if-not-is_held.true)

pub returns : goal.returns
returns c =
    let agent = c.args.agent.now in
    let before = c.args.before.now in
    let action = c.args.action in
    let s = c.requires.standing in
    let h : Held = record { device = c.in_ok-device.device; place = length before } in
    holds-new agent before action (none-held agent before c.args.self.now.held s.holds c.requires.settled) s.serves s.results c.in_ok-device.device
    (sym (c.in_ok-device.ensures ∙ ap (λ (a : Agent). device_of a action) s.facts_so))
    (sym (c.is_held.ensures ∙ ap (λ (a : Agent). is_held a action) s.facts_so) ∙ c.if-not-is_held.false) h refl refl
