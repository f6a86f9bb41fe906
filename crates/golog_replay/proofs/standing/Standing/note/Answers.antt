use Rattle.std.proofs.Common.{◌≡◌, ◌+◌, [], ◌∷◌, ◌++◌, length, drop, if◌then◌else◌, sym, ap, ◌∙◌, subst, arith}
use Rattle.golog_tree.specs.declared.agent.Agent.{Agent}
use Rattle.std.specs.Prelude.{IsTrue}
use Rattle.golog_semantics.specs.Journal.{is_counted}
use Rattle.golog_semantics.specs.Online.{keeps_place}
use Rattle.golog_replay.specs.Standings.{AreTracked}
use Rattle.golog_replay.proofs.Noting.{as-number, counted-most, count-more, results-still, written}
use Rattle.golog_replay.proofs.standing.Standing.note.Goals as goal

pub track-requires-clause-tracked : goal.track-requires-clause-tracked
track-requires-clause-tracked c =
    let s = c.requires.standing in
    subst (λ (a : Agent). AreTracked a c.args.before.now c.deref_mut.result.now) (sym s.facts_so)
    (subst (AreTracked c.args.agent.now c.args.before.now) (sym c.deref_mut.ensures.value) s.tracked)

pub track-requires-clause-place : goal.track-requires-clause-place
track-requires-clause-place c =
    subst (λ (a : Agent). IsTrue (keeps_place a c.args.before.now c.args.entry)) (sym c.requires.standing.facts_so) c.requires.place

pub returns : goal.returns
returns c =
    let agent = c.args.agent.now in
    let before = c.args.before.now in
    let entry = c.args.entry in
    let s = c.requires.standing in
    let one : c.from.result ≡ (if is_counted entry then 1 else 0) =
    c.from.ensures ∙ as-number c.is_counted.result ∙ ap (λ b. if b then 1 else 0) c.is_counted.ensures in
    let same : length c.track.new.devices ≡ c.args.self.now.devices.len = omega (arith, c.track.auto.devices, c.deref_mut.ensures.len) in
    record {
      serves = s.serves;
      facts_so = s.facts_so;
      tracked =
          subst (AreTracked agent (before ++ entry ∷ []))
          (sym (written c.args.self.now.devices.len c.track.new.devices (drop (length c.track.new.devices) c.args.self.now.devices.items) same))
          (subst (λ (a : Agent). AreTracked a (before ++ entry ∷ []) c.track.new.devices) s.facts_so c.track.ensures);
      holds = c.held_after-held.ensures;
      counted_so = (λ i. s.counted_so i + one i) ∙ sym (count-more before entry);
      few = counted-most c.args.self.now.counted before entry c.from.result s.few one;
      ends = c.ended_after-self.ensures before s.ends;
      results = results-still agent before c.args.self.now.devices.items s.tracked entry c.requires.fits c.requires.place s.results;
    }
