use Rattle.std.proofs.Common.{◌≡◌, ℕ, ◌+◌, ◌<◌, List, sym, ap, ◌∙◌, subst, length, map, arith}
use Rattle.std.proofs.lemmas.List.{at_drop_all}
use Rattle.std.proofs.lemmas.List.Elements.{All-get_or}
use Rattle.golog_tree.specs.declared.prog.Prog.{Prog}
use Rattle.golog_semantics.specs.Search.{plain_ways}
use Rattle.golog_find.specs.declared.sources.Source.{Source}
use Rattle.golog_find.specs.Batches.{IsSource, source_meant}
use Rattle.golog_find.specs.Levels.{stored_steps}
use Rattle.golog_find.specs.Numbers.{level_of}
use Rattle.golog_find.proofs.Batching.{listed-later, source-stays, source-steps, told-now}
use Rattle.golog_find.proofs.Numbering.{at-place, goes_on-further, goes_on-same}
use Rattle.golog_find.proofs.Visiting.{prog-stays}
use Rattle.golog_find.proofs.deepening.Deepening.merge.Goals as goal

pub loop-at-init : goal.loop-at-init
loop-at-init c =
    let nodes = c.args.nodes.now in
    let from = c.args.from in
    let same : from ≡ from + 0 = omega arith in
    record {
      steps = ap (λ (k : ℕ). stored_steps c.args.self.now.agent.now c.args.self.now.mode c.args.self.now.room k (level_of nodes c.args.level.now) (map (source_meant nodes) c.args.sources.now)) same;
      level = c.requires.level;
      goes_on = goes_on-same nodes;
      listed = c.requires.listed;
      few = omega arith;
    }

pub add_steps-requires-clause-source : goal.add_steps-requires-clause-source
add_steps-requires-clause-source c =
    let agent = c.args.self.now.agent.now in
    let old = c.args.nodes.now in
    let sources = c.args.sources.now in
    let at = c.loop-at.at in
    let s = c.source_at-source.result.now in
    let below : at < length sources = omega arith in
    let is = at-place sources at s c.source_at-source.ensures in
    let own : IsSource agent old s = subst (IsSource agent old) (sym is) (All-get_or (IsSource agent old) sources at s below c.requires.sources) in
    source-stays agent old c.loop-at.nodes s c.loop-at.invariant.goes_on own

pub add_steps-requires-clause-effects : goal.add_steps-requires-clause-effects
add_steps-requires-clause-effects c = c.requires.effects

pub add_steps-requires-clause-told : goal.add_steps-requires-clause-told
add_steps-requires-clause-told c =
    let agent = c.args.self.now.agent.now in
    let m = c.args.self.now.mode in
    let old = c.args.nodes.now in
    let here = c.loop-at.nodes in
    let sources = c.args.sources.now in
    let at = c.loop-at.at in
    let s = c.source_at-source.result.now in
    let below : at < length sources = omega arith in
    let is = at-place sources at s c.source_at-source.ensures in
    let own : IsSource agent old s = subst (IsSource agent old) (sym is) (All-get_or (IsSource agent old) sources at s below c.requires.sources) in
    let same = ap (λ (p : Prog). plain_ways agent s.reached.values.now m p) (sym (prog-stays old here c.loop-at.invariant.goes_on s.reached.left own.number)) in
    told-now agent m old sources c.args.told.now at c.loop-at.used s below is c.loop-at.invariant.listed here (c.args.from + at) c.requires.places same

pub add_steps-requires-clause-level : goal.add_steps-requires-clause-level
add_steps-requires-clause-level c = c.loop-at.invariant.level

pub loop-at-preserved : goal.loop-at-preserved
loop-at-preserved c =
    let agent = c.args.self.now.agent.now in
    let m = c.args.self.now.mode in
    let old = c.args.nodes.now in
    let here = c.loop-at.nodes in
    let sources = c.args.sources.now in
    let at = c.loop-at.at in
    let used = c.loop-at.used in
    let s = c.source_at-source.result.now in
    let inv = c.loop-at.invariant in
    let below : at < length sources = omega arith in
    let is = at-place sources at s c.source_at-source.ensures in
    let own : IsSource agent old s = subst (IsSource agent old) (sym is) (All-get_or (IsSource agent old) sources at s below c.requires.sources) in
    let done = c.in_ok-add_steps.ensures in
    let one = c.lists_of-used.ensures.few in
    let before = inv.few in
    record {
      steps =
          inv.steps
          ∙ source-steps agent m c.args.self.now.room old sources at c.args.from s below is here (level_of here c.loop-at.level) (level_of c.add_steps.new.nodes c.add_steps.new.level) inv.goes_on own.number done.means;
      level = done.level;
      goes_on = goes_on-further old here c.add_steps.new.nodes inv.goes_on done.goes_on;
      listed = listed-later agent m old sources c.args.told.now at used s below is inv.listed c.lists_of-used.result c.lists_of-used.ensures.lists;
      few = omega arith;
    }

pub returns-clause-means : goal.returns-clause-means
returns-clause-means c =
    let agent = c.args.self.now.agent.now in
    let end = level_of c.loop-at.nodes c.loop-at.level in
    sym (c.loop-at.invariant.steps
    ∙ at_drop_all (λ (ss : List Source). stored_steps agent c.args.self.now.mode c.args.self.now.room (c.args.from + c.loop-at.at) end (map (source_meant c.args.nodes.now) ss)) c.args.sources.now c.loop-at.at (omega arith))
