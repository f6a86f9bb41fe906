use Rattle.std.proofs.Common.{◌≡◌, ◌+◌, ◌-◌, ◌<◌, ◌≤◌, length, ap, arith}
use Rattle.std.proofs.lemmas.Slice.{put_mid-rotated}
use Rattle.golog_watch.proofs.Keeping.{put-last}
use Rattle.golog_watch.proofs.watches.Watches.use_again.Goals as goal

pub returns : goal.returns
returns c = λ d.
    let ws = c.args.self.now.watches.items in
    let place = c.args.place in
    let lent = c.deref_mut.result.now in
    let same : length lent ≡ length ws = ap length c.deref_mut.ensures.value in
    let inside : place < length lent = omega (arith, same, c.requires) in
    let whole : length lent ≤ place + (length lent - place) = omega arith in
    put-last d ws lent _ c.args.self.now.watches.len place c.requires c.args.self.now.watches.ok.0 c.deref_mut.ensures.value
    (put_mid-rotated _ _ _ _ d inside whole c.rotate_left.ensures.after)
