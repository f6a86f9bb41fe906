use Rattle.std.proofs.Common.{◌≡◌, ◌≤◌, ℕ, Bool, true, false, length}
use Rattle.std.proofs.lemmas.Result.{IfOk-weaker}
use Rattle.golog_tree.specs.declared.prog.Prog.{Prog}
use Rattle.golog_semantics.specs.Truth.{Values}
use Rattle.golog_branch.specs.Searching.{IsSearch, LooksFurther}
use Rattle.golog_branch.proofs.search.Search.goes_on.Goals as goal

pub returns-then-is_wanted-clause-few : goal.returns-then-is_wanted-clause-few
returns-then-is_wanted-clause-few c =
    let new = c.deepen.new.self in
    IfOk-weaker c.deepen.result (λ (b : Bool). b ≡ true → length new.last ≤ c.args.room) (λ (b : Bool). c.args.is_wanted ≡ true → b ≡ true → length new.last ≤ c.args.room)
    (λ b h _. h) c.deepen.ensures.few

pub returns-then-is_wanted-clause-further : goal.returns-then-is_wanted-clause-further
returns-then-is_wanted-clause-further c =
    let agent = c.args.planner.now.agent.now in
    let further = λ (b : Bool). (p : Prog) (values : Values) (n : ℕ) → IsSearch agent p values n c.args.self.now → LooksFurther agent p values n c.args.room c.deepen.new.self b in
    IfOk-weaker c.deepen.result further (λ (b : Bool). c.args.is_wanted ≡ true → further b) (λ b h _. h) c.deepen.ensures.further

pub returns-then-is_wanted-clause-still : goal.returns-then-is_wanted-clause-still
returns-then-is_wanted-clause-still c =
    IfOk-weaker c.deepen.result (λ (b : Bool). b ≡ true → length c.deepen.new.self.last ≤ c.args.room) (λ (b : Bool). c.args.is_wanted ≡ false → b ≡ true)
    (λ b h e. let t = c.if-is_wanted.true in absurd (cc)) c.deepen.ensures.few
