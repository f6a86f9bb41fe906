use Rattle.std.proofs.Common.{◌≡◌, List, [], ◌∷◌, ◌++◌, sym, subst}
use Rattle.std.specs.Prelude.{Result, Ok, Err, OnErr, OnOk}
use Rattle.std.proofs.lemmas.List.Elements.{All-push}
use Rattle.golog_tree.specs.declared.agent.Agent.{Agent}
use Rattle.golog_ways.specs.declared.ready.Ready.{Ready}
use Rattle.golog_ways.specs.Ready.{AreReady, IsReady}
use Rattle.golog_ways.proofs.ready.add_cond.Goals as goal

pushed : {A E : Type 0} (agent : Agent) (old new : List Ready) (one : Ready) (r : Result A E) → OnOk r (new ≡ old ++ one ∷ []) → OnErr r (new ≡ old)
    → AreReady agent old → IsReady agent one → AreReady agent new
pushed agent old new one (Ok x) ok err h k = subst (AreReady agent) (sym ok) (All-push (IsReady agent) old one h k)
pushed agent old new one (Err e) ok err h k = subst (AreReady agent) (sym err) h

pub returns-in-Ok : goal.returns-in-Ok
returns-in-Ok c = pushed c.args.agent.now c.args.ready.now c.push.new.self c.in-Ok.one c.push.result c.push.ensures.ok c.push.ensures.err c.requires.ready c.in-Ok.ensures
