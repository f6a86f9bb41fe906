use Rattle.std.proofs.Common.{◌≡◌, ◌≤◌, ◌+◌, ℕ, Some, None, length, take, refl, sym, ap, ◌∙◌, subst, arith}
use Rattle.std.proofs.lemmas.List.{length-take-le}
use Rattle.golog_team.specs.Steps.{Station}
use Rattle.golog_team.specs.Sides.{at_read, IsToldOf, ComesTo, ReadsOn}
use Rattle.golog_team.proofs.ReadOn.{reads-first, reads-one, comes-to, reads-all, looked-on, still-within, here, below, one-taken, same-taken, past}
use Rattle.golog_team.proofs.reading.read_on.Goals as goal

pub loop-at-init : goal.loop-at-init
loop-at-init g c = record {
  of_side = c.requires.side.1;
  read = refl;
  within = c.requires.within.0;
  few = c.requires.within.1;
  told = c.requires.told;
  reads = λ journal taken. reads-first c.args.side journal taken (g.W.Wire.view c.args.wire.now) c.args.told.now.read;
}

pub loop-at-preserved : goal.loop-at-preserved
loop-at-preserved g c =
    let side = c.args.side in
    let v = g.W.Wire.view c.loop-at.wire in
    let new = g.W.Wire.view c.look.new.self in
    let at = c.loop-at.at in
    let i = c.loop-at.invariant in
    let h = c.in-Some.ensures in
    let n = c.in-Some.note in
    let low = below side v new at (Some n) i.of_side i.within h n refl in
    let told = subst (λ l. IsToldOf side l c.with.result) (sym (one-taken side v new at (Some n) i.of_side i.within h n refl)) (c.with.ensures (take at v.seen) i.told) in
    record {
      of_side = h.same_side ∙ i.of_side;
      read = told.read ∙ length-take-le (at + 1) new.seen (omega (arith, low));
      within = omega (arith, low);
      few = h.short;
      told = told;
      reads = λ journal taken.
          reads-one side journal taken (at_read (g.W.Wire.view c.args.wire.now) c.args.told.now.read journal taken) new at
          (looked-on side v new at (Some n) i.of_side i.within h journal taken (at_read (g.W.Wire.view c.args.wire.now) c.args.told.now.read journal taken) (i.reads journal taken))
          n (here side v new at (Some n) i.of_side i.within h n refl) (sym c.is_news.ensures ∙ c.if-is_news.false);
    }

pub returns-then-is_news-clause-within : goal.returns-then-is_news-clause-within
returns-then-is_news-clause-within g c =
    let side = c.args.side in
    let v = g.W.Wire.view c.loop-at.wire in
    let new = g.W.Wire.view c.look.new.self in
    let at = c.loop-at.at in
    let i = c.loop-at.invariant in
    let h = c.in-Some.ensures in
    let n = c.in-Some.note in
    let low = below side v new at (Some n) i.of_side i.within h n refl in
    let told = subst (λ l. IsToldOf side l c.with.result) (sym (one-taken side v new at (Some n) i.of_side i.within h n refl)) (c.with.ensures (take at v.seen) i.told) in
    let read = told.read ∙ length-take-le (at + 1) new.seen (omega (arith, low)) in
    let few = h.short in
    (omega (arith, low, read), few)

pub returns-then-is_news-clause-told : goal.returns-then-is_news-clause-told
returns-then-is_news-clause-told g c =
    let side = c.args.side in
    let v = g.W.Wire.view c.loop-at.wire in
    let new = g.W.Wire.view c.look.new.self in
    let at = c.loop-at.at in
    let i = c.loop-at.invariant in
    let h = c.in-Some.ensures in
    let n = c.in-Some.note in
    let low = below side v new at (Some n) i.of_side i.within h n refl in
    let told = subst (λ l. IsToldOf side l c.with.result) (sym (one-taken side v new at (Some n) i.of_side i.within h n refl)) (c.with.ensures (take at v.seen) i.told) in
    let read = told.read ∙ length-take-le (at + 1) new.seen (omega (arith, low)) in
    subst (λ r. IsToldOf side (take r new.seen) c.with.result) (sym read) told

pub returns-then-is_news-clause-reads : goal.returns-then-is_news-clause-reads
returns-then-is_news-clause-reads g c journal taken =
    let side = c.args.side in
    let v = g.W.Wire.view c.loop-at.wire in
    let new = g.W.Wire.view c.look.new.self in
    let at = c.loop-at.at in
    let i = c.loop-at.invariant in
    let h = c.in-Some.ensures in
    let n = c.in-Some.note in
    let low = below side v new at (Some n) i.of_side i.within h n refl in
    let told = subst (λ l. IsToldOf side l c.with.result) (sym (one-taken side v new at (Some n) i.of_side i.within h n refl)) (c.with.ensures (take at v.seen) i.told) in
    let read = told.read ∙ length-take-le (at + 1) new.seen (omega (arith, low)) in
    let old = at_read (g.W.Wire.view c.args.wire.now) c.args.told.now.read journal taken in
    subst (λ r. ComesTo side old (at_read new r journal taken) n.note) (sym read)
    (comes-to side journal taken old new at (looked-on side v new at (Some n) i.of_side i.within h journal taken old (i.reads journal taken))
    n (here side v new at (Some n) i.of_side i.within h n refl) (sym c.is_news.ensures ∙ c.if-is_news.true))

pub returns-in-None-clause-reads : goal.returns-in-None-clause-reads
returns-in-None-clause-reads g c journal taken =
    let side = c.args.side in
    let v = g.W.Wire.view c.loop-at.wire in
    let new = g.W.Wire.view c.look.new.self in
    let at = c.loop-at.at in
    let i = c.loop-at.invariant in
    let h = c.in-None.ensures in
    let old = at_read (g.W.Wire.view c.args.wire.now) c.args.told.now.read journal taken in
    subst (λ r. ReadsOn side old (at_read new r journal taken) None) (sym i.read)
    (reads-all side journal taken old new at (looked-on side v new at None i.of_side i.within h journal taken old (i.reads journal taken))
    (past side v new at None i.of_side i.within h refl))
