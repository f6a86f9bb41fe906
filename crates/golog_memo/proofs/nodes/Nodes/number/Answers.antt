use Rattle.std.proofs.Common.{rules, ◌≡◌, false, None, sym, ◌∙◌, subst}
use Rattle.std.specs.Prelude.{is_err}
use Rattle.golog_memo.specs.Numbered.{AreOnce, number_in}
use Rattle.golog_memo.proofs.Numbers.{are_once, numbered_next, popped, stands-last}
use Rattle.golog_memo.proofs.nodes.Nodes.number.Goals as goal

pub returns-in-Some-clause-once : goal.returns-in-Some-clause-once
returns-in-Some-clause-once c = subst AreOnce c.self.view_is (are_once c.self.inside.progs.items c.self.inside.numbers c.self.invariant)

pub returns-in_err-push_copy-clause-once : goal.returns-in_err-push_copy-clause-once
returns-in_err-push_copy-clause-once c =
    subst AreOnce (sym c.in_err-push_copy.ensures.err) (are_once c.self.inside.progs.items c.self.inside.numbers c.self.invariant)

pub returns-then-is_err-clause-once : goal.returns-then-is_err-clause-once
returns-then-is_err-clause-once c =
    let back : c.pop.new.self.items ≡ c.self.inside.progs.items =
    popped c.self.inside.progs.items c.push_copy.new.progs.items c.pop.new.self.items c.args.prog.now _ c.in_ok-push_copy.ensures.added c.push_copy.new.progs.ok.0 c.pop.ensures.rest in
    subst AreOnce (sym back) (are_once c.self.inside.progs.items c.self.inside.numbers c.self.invariant)

pub invariant_of-self-else-is_err : goal.invariant_of-self-else-is_err
invariant_of-self-else-is_err c =
    let absent : number_in c.self.inside.numbers c.args.prog.now ≡ None = search rules in
    let ok : is_err c.insert_number.result ≡ false = search rules in
    numbered_next c.self.inside.progs.items c.push_copy.new.progs.items c.self.inside.numbers c.insert_number.new.numbers c.args.prog.now c.len-number.result
    c.insert_number.result c.self.invariant c.in_ok-push_copy.ensures.added (c.len-number.ensures ∙ c.self.inside.progs.ok.0) absent ok c.insert_number.ensures.updates

pub returns-clause-number : goal.returns-clause-number
returns-clause-number c =
    stands-last c.self.inside.progs.items c.push_copy.new.progs.items c.args.prog.now c.len-number.result c.in_ok-push_copy.ensures.added
    (c.len-number.ensures ∙ c.self.inside.progs.ok.0)

pub returns-clause-once : goal.returns-clause-once
returns-clause-once c = are_once c.push_copy.new.progs.items c.insert_number.new.numbers (invariant_of-self-else-is_err c)
