use Rattle.std.proofs.Common.{◌≡◌, ℕ, ◌++◌, ◌∷◌, [], Option, Some, None, inl, inr, refl, sym, ap, ◌∙◌, subst}
use Rattle.std.specs.Prelude.{MatchOption}
use Rattle.std.specs.List.{position}
use Rattle.std.proofs.lemmas.Result.{IfOk-weaker, on_err_weaker}
use Rattle.golog_watch.specs.Watched.{IsNewest, IsRecalled, LastKeeps, UsedLast, keeps, with_room}
use Rattle.golog_watch.proofs.Keeping.{added-watches, kept, last-keeps, on-err, own-keeps, place-in, used-kept, used-last, watches}
use Rattle.golog_watch.proofs.watches.Watches.recall.Goals as goal

pub use_again-requires : goal.use_again-requires
use_again-requires c =
    let f = keeps c.args.body.now c.args.rest.now in
    let ws = c.args.self.now.watches.items in
    let found : position f ws ≡ Some c.in-Some.place = ap (position f) (sym c.deref.ensures.value) ∙ sym c.in-Some.ensures in
    place-in f ws c.in-Some.place found

pub returns-in-Some-clause-watches : goal.returns-in-Some-clause-watches
returns-in-Some-clause-watches c =
    let agent = c.args.agent.now in
    let f = keeps c.args.body.now c.args.rest.now in
    let old = c.args.self.now in
    let ws = old.watches.items in
    let new = c.use_again.new.self in
    let found : position f ws ≡ Some c.in-Some.place = ap (position f) (sym c.deref.ensures.value) ∙ sym c.in-Some.ensures in
    let inside = place-in f ws c.in-Some.place found in
    watches agent new new.watches.items refl
    (used-kept agent ws new.watches.items c.in-Some.place inside c.use_again.ensures (kept agent old c.requires.watches))

pub returns-in-Some-clause-last : goal.returns-in-Some-clause-last
returns-in-Some-clause-last c =
    let p = c.args.body.now in
    let rest = c.args.rest.now in
    let f = keeps p rest in
    let ws = c.args.self.now.watches.items in
    let found : position f ws ≡ Some c.in-Some.place = ap (position f) (sym c.deref.ensures.value) ∙ sym c.in-Some.ensures in
    let inside = place-in f ws c.in-Some.place found in
    used-last p rest ws c.use_again.new.self.watches.items c.in-Some.place inside c.use_again.ensures found

pub returns-in_ok-watch-in-None-clause-watches : goal.returns-in_ok-watch-in-None-clause-watches
returns-in_ok-watch-in-None-clause-watches c =
    let agent = c.args.agent.now in
    let old = c.args.self.now in
    added-watches agent c.add.result old.watches.items c.add.new.self c.in_ok-watch-in-None.watch c.in_ok-watch-in-None.ensures.watch (kept agent old c.requires.watches)
    c.add.ensures.added c.add.ensures.others

pub returns-in_ok-watch-in-None-clause-last : goal.returns-in_ok-watch-in-None-clause-last
returns-in_ok-watch-in-None-clause-last c =
    let p = c.args.body.now in
    let rest = c.args.rest.now in
    let old = c.args.self.now.watches.items in
    let new = c.add.new.self.watches.items in
    let watch = c.in_ok-watch-in-None.watch in
    let own = own-keeps p rest watch c.in_ok-watch-in-None.ensures.body c.in_ok-watch-in-None.ensures.rest in
    IfOk-weaker c.add.result (λ done. new ≡ with_room old ++ watch ∷ []) (λ done. LastKeeps p rest new)
    (λ done e. last-keeps p rest new (with_room old) watch e own) c.add.ensures.added

pub returns-in-Some-clause-recalled : goal.returns-in-Some-clause-recalled
returns-in-Some-clause-recalled c =
    let p = c.args.body.now in
    let rest = c.args.rest.now in
    let ws = c.args.self.now.watches.items in
    let new = c.use_again.new.self.watches.items in
    let found : position (keeps p rest) ws ≡ Some c.in-Some.place = ap (position (keeps p rest)) (sym c.deref.ensures.value) ∙ sym c.in-Some.ensures in
    subst (λ (o : Option ℕ). MatchOption o (IsNewest p rest ws new) (λ place. UsedLast ws place new)) (sym found) c.use_again.ensures

pub returns-in_ok-watch-in-None-clause-recalled : goal.returns-in_ok-watch-in-None-clause-recalled
returns-in_ok-watch-in-None-clause-recalled c =
    let p = c.args.body.now in
    let rest = c.args.rest.now in
    let ws = c.args.self.now.watches.items in
    let new = c.add.new.self.watches.items in
    let made = c.in_ok-watch-in-None.ensures in
    let none : position (keeps p rest) ws ≡ None = ap (position (keeps p rest)) (sym c.deref.ensures.value) ∙ sym c.in-None.ensures in
    IfOk-weaker c.add.result (λ done. new ≡ with_room ws ++ c.in_ok-watch-in-None.watch ∷ []) (λ done. IsRecalled p rest ws new)
    (λ done e.
    subst (λ (o : Option ℕ). MatchOption o (IsNewest p rest ws new) (λ place. UsedLast ws place new)) (sym none)
    (record { watch = c.in_ok-watch-in-None.watch; body = made.body; run = made.rest; added = e })) c.add.ensures.added

pub returns-in_ok-watch-in-None-clause-others : goal.returns-in_ok-watch-in-None-clause-others
returns-in_ok-watch-in-None-clause-others c = on_err_weaker c.add.result (λ e. inr e) c.add.ensures.others

pub returns-in_err-watch-in-None-clause-others : goal.returns-in_err-watch-in-None-clause-others
returns-in_err-watch-in-None-clause-others c = on-err _ _ (inl refl)
