use Rattle.std.proofs.Common.{◌≡◌, ℕ, ◌+◌, ◌-◌, ◌<◌, Bool, true, false, not, List, IfOk, nat_eq, sym, ap, ◌∙◌, subst, arith}
use Rattle.std.specs.Prelude.{if◌then◌else◌}
use Rattle.std.specs.List.{list_any, starts_with}
use Rattle.golog_semantics.specs.BuiltIn.{declared_names}
use Rattle.golog_print.specs.Printing.{first_passing, is_free, stem_no, stem_text}
use Rattle.golog_print.proofs.Stems.{first_passing-next, first_passing-none}
use Rattle.golog_print.proofs.named.stem_of.Goals as goal

pub loop-number-preserved : goal.loop-number-preserved
loop-number-preserved c =
    let agent = c.args.agent.now in
    let n = c.loop-number.number in
    let names = declared_names agent in
    let less : n < 100000 = omega (arith, c.loop-number-test.true) in
    let text : c.as_slice.result.now ≡ stem_text n = grind (arith, c.as_slice.ensures, c.in_ok-stem.ensures) in
    let begun : c.is_begun.result ≡ true = grind (arith, c.if-not-is_begun.false) in
    let taken : is_free agent n ≡ false =
    ap not (sym (ap (λ (stem : List ℕ). list_any (λ (name : List ℕ). starts_with nat_eq name stem) names) text) ∙ sym c.is_begun.ensures ∙ begun) in
    c.loop-number.invariant ∙ first_passing-next (is_free agent) n 100000 less
    ∙ ap (λ (b : Bool). if b then n else first_passing (is_free agent) (n + 1) (100000 - (n + 1))) taken

pub returns : goal.returns
returns c =
    let agent = c.args.agent.now in
    let n = c.loop-number.number in
    let over : 100000 - n ≡ 0 = omega (arith, c.loop-number-test.false) in
    let none : stem_no agent ≡ 0 = c.loop-number.invariant ∙ ap (first_passing (is_free agent) n) over ∙ first_passing-none (is_free agent) n in
    subst (λ (number : ℕ). IfOk c.stem_text-2.result (λ text. text ≡ stem_text number)) (sym none) c.stem_text-2.ensures
