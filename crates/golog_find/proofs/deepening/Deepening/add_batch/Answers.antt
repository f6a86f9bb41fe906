use Rattle.std.proofs.Common.{◌≡◌, ◌+◌, List, sym, ap, ◌∙◌, subst, length, map, arith}
use Rattle.std.specs.Prelude.{All}
use Rattle.std.proofs.lemmas.Result.{on_ok_weaker}
use Rattle.golog_known.proofs.Folds.{map-map}
use Rattle.golog_find.specs.declared.sources.Source.{Source}
use Rattle.golog_find.specs.Batches.{IsSource, reached_of, source_meant}
use Rattle.golog_find.specs.Levels.{stored_steps}
use Rattle.golog_find.specs.Numbers.{all_meant, level_of, meant}
use Rattle.golog_find.proofs.Batching.{count-sources}
use Rattle.golog_find.proofs.deepening.Deepening.add_batch.Goals as goal

pub add_sources-added-requires-clause-room : goal.add_sources-added-requires-clause-room
add_sources-added-requires-clause-room g c =
    let sources = c.in_ok-sources.sources in
    let count : c.args.from + length sources ≡ c.args.end = count-sources sources c.args.states.now c.args.from c.args.end c.requires.ordered c.requires.inside c.in_ok-sources.ensures.states in
    let same : length c.as_slice.result.now ≡ length sources = ap (λ (ss : List Source). length ss) c.as_slice.ensures in
    let fits = c.ranges.end in
    omega arith

pub add_sources-added-requires-clause-sources : goal.add_sources-added-requires-clause-sources
add_sources-added-requires-clause-sources g c =
    subst (All (IsSource c.args.self.now.agent.now c.args.nodes.now)) (sym c.as_slice.ensures) c.in_ok-sources.ensures.sources

pub add_sources-added-requires-clause-effects : goal.add_sources-added-requires-clause-effects
add_sources-added-requires-clause-effects g c = c.requires.kept.effects

pub returns-clause-means : goal.returns-clause-means
returns-clause-means g c =
    let agent = c.args.self.now.agent.now in
    let nodes = c.args.nodes.now in
    let sources = c.in_ok-sources.sources in
    let start = level_of nodes c.args.level.now in
    let steps = stored_steps agent c.args.self.now.mode c.args.self.now.room c.args.from start in
    let same = ap (map (source_meant nodes)) c.as_slice.ensures ∙ sym (map-map reached_of (meant nodes) sources) ∙ ap (all_meant nodes) c.in_ok-sources.ensures.states in
    on_ok_weaker c.add_sources-added.result
    (λ (e : level_of c.add_sources-added.new.nodes c.add_sources-added.new.level ≡ steps (map (source_meant nodes) c.as_slice.result.now)). e ∙ ap steps same)
    c.add_sources-added.ensures.means
