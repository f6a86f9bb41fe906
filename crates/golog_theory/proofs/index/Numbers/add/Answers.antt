use Rattle.std.proofs.Common.{rules, ◌≡◌, ℕ, List, false, sym, subst}
use Rattle.std.specs.Prelude.{is_some}
use Rattle.golog_theory.specs.Names.{same}
use Rattle.golog_theory.specs.Index.{number_at, or_new}
use Rattle.golog_theory.specs.declared.index.Numbers.{Numbers}
use Rattle.golog_theory.proofs.Found.{added}
use Rattle.golog_theory.proofs.index.Numbers.add.Goals as goal

pub returns : goal.returns
returns c =
    let new : Numbers = record { by_name = c.insert.new.self } in
    let key : c.extend_from_slice.new.self.items ≡ c.args.name.now = search rules in
    let none : is_some (number_at c.args.self.now c.args.name.now) ≡ false = search rules in
    let none_of_key = subst (λ k. is_some (number_at c.args.self.now k) ≡ false) (sym key) none in
    subst (λ k. (word : List ℕ) → number_at new word ≡ or_new (number_at c.args.self.now word) (same word k) c.args.number) key
    (added c.args.self.now new c.extend_from_slice.new.self.items c.args.number c.in_ok-insert.ensures.updates none_of_key)
