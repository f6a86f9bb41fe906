use Rattle.std.proofs.Common.{◌≡◌, true, not, ℕ, List, refl, sym, ap, ◌∙◌, subst, arith}
use Rattle.std.specs.Prelude.{IsTrue}
use Rattle.golog_semantics.specs.Journal.{is_quiet}
use Rattle.golog_turn.specs.Parties.{contains, without}
use Rattle.golog_turn.specs.Seats.{seen, parties_of}
use Rattle.golog_team.specs.Notes.{across}
use Rattle.golog_team.specs.Played.{HavePlayed}
use Rattle.golog_team.proofs.Playing.{have-played}
use Rattle.golog_team.proofs.pair.run_locked.Goals as goal

pub split-given-requires-clause-party : goal.split-given-requires-clause-party
split-given-requires-clause-party g c = subst (λ (ps : List ℕ). contains ps 1 ≡ true) (sym c.requires.new.0) refl

pub of-wire-requires-clause-held : goal.of-wire-requires-clause-held
of-wire-requires-clause-held g c = c.split-given.ensures.left ∙ ap (without 1) c.requires.new.0

pub side_of-one-requires-clause-lead : goal.side_of-one-requires-clause-lead
side_of-one-requires-clause-lead g c = (c.requires.leads.one_of, c.requires.leads.one_new)

pub side_of-one-requires-clause-wire : goal.side_of-one-requires-clause-wire
side_of-one-requires-clause-wire g c =
    (c.of-wire.ensures.1, ap (λ s. seen s) c.of-wire.ensures.0 ∙ c.split-given.ensures.seen.0 ∙ c.requires.new.1)

pub side_of-other-requires-clause-formed : goal.side_of-other-requires-clause-formed
side_of-other-requires-clause-formed g c = (c.requires.formed.1, c.requires.formed.0)

pub side_of-other-requires-clause-lead : goal.side_of-other-requires-clause-lead
side_of-other-requires-clause-lead g c = (c.requires.leads.other_of, c.requires.leads.other_new)

pub side_of-other-requires-clause-wire : goal.side_of-other-requires-clause-wire
side_of-other-requires-clause-wire g c =
    (c.of-their_wire.ensures.1, ap (λ s. seen s) c.of-their_wire.ensures.0 ∙ c.split-given.ensures.seen.1 ∙ c.requires.new.1)

pub run_team-requires-clause-pair : goal.run_team-requires-clause-pair
run_team-requires-clause-pair g c κs within =
    let one = c.side_of-one.ensures.parts in
    let other = c.side_of-other.ensures.parts in
    record {
      one_is = c.side_of-one.ensures.side;
      other_is = c.side_of-other.ensures.side;
      opposite = other.0 ∙ sym (ap across one.0);
      their_agent = other.1 ∙ sym one.2;
      their_other = other.2 ∙ sym one.1;
    }

pub returns-clause-played : goal.returns-clause-played
returns-clause-played g c =
    let m = g.L.Lead.mind in
    let n = g.M.Lead.mind in
    let one = c.side_of-one.ensures.parts in
    let other = c.side_of-other.ensures.parts in
    let e = c.run_team.ensures in
    let played = have-played m n _ g.L.Lead.stands g.M.Lead.stands c.args.first.now c.args.second.now c.side_of-one.result c.run_team.new.first c.side_of-other.result c.run_team.new.second
    (record { agent_is = one.1; other_is = one.2; side_is = one.0; new = c.side_of-one.ensures.new })
    (record { agent_is = other.1; other_is = other.2; side_is = other.0; new = c.side_of-other.ensures.new })
    e.first e.second e.met c.args.beside e.linked e.in_turn in
    subst (λ l. HavePlayed c.args.first.now c.args.second.now (not c.args.beside) (m l) (m c.finish-lead.result.0) (n c.args.their_lead) (n c.finish-their_lead.result.0)) one.3
    (subst (λ l. HavePlayed c.args.first.now c.args.second.now (not c.args.beside) (m c.side_of-one.result.lead) (m c.finish-lead.result.0) (n l) (n c.finish-their_lead.result.0)) other.3
    (subst (λ l. HavePlayed c.args.first.now c.args.second.now (not c.args.beside) (m c.side_of-one.result.lead) (m l) (n c.side_of-other.result.lead) (n c.finish-their_lead.result.0)) (sym c.finish-lead.ensures.0)
    (subst (λ l. HavePlayed c.args.first.now c.args.second.now (not c.args.beside) (m c.side_of-one.result.lead) (m c.run_team.new.first.lead) (n c.side_of-other.result.lead) (n l)) (sym c.finish-their_lead.ensures.0)
    played)))

pub returns-clause-stands : goal.returns-clause-stands
returns-clause-stands g c =
    let one = c.side_of-one.ensures.parts in
    let other = c.side_of-other.ensures.parts in
    let e = c.run_team.ensures in (
      (λ h. subst g.L.Lead.stands (sym c.finish-lead.ensures.0) (e.first.gone.stood (subst g.L.Lead.stands (sym one.3) h))),
      (λ h. subst g.M.Lead.stands (sym c.finish-their_lead.ensures.0) (e.second.gone.stood (subst g.M.Lead.stands (sym other.3) h))),
    )
