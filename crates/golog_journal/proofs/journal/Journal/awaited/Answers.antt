use Rattle.std.proofs.Common.{◌≡◌, Bool, true, false, not, ◌&&◌, if◌then◌else◌, Some, None, sym, ap, ◌∙◌, arith}
use Rattle.std.specs.Prelude.{option_map}
use Rattle.std.specs.List.{list_any}
use Rattle.std.proofs.lemmas.Grind.{common_steps}
use Rattle.golog_semantics.specs.Journal.{Journal, is_sensing, is_result_of, is_outstanding}
use Rattle.golog_journal.specs.Boards.{AgentJournal}
use Rattle.golog_journal.specs.Reaching.{command_of}
use Rattle.golog_journal.proofs.CommandsKept.{awaited-some, awaited-none}
use Rattle.golog_journal.proofs.journal.Journal.awaited.Goals as goal

outstanding-if : (a b : Bool) (x y : Bool) → a ≡ x → b ≡ y → (a && not b) ≡ (x && not y)
outstanding-if a b x y e k = ap (λ s. s && not b) e ∙ ap (λ s. x && not s) k

pub returns-in-Some : goal.returns-in-Some
returns-in-Some c =
    let v = c.args.self.now in
    let x = command_of c.in-Some.command in
    let senses : is_sensing v.agent x.action ≡ true =
    ap (λ (w : AgentJournal). is_sensing w.agent x.action) (sym c.self.view_is) ∙ ap (λ agent. is_sensing agent x.action) (sym c.facts.ensures) ∙ sym c.is_sensing.ensures ∙ c.if-is_sensing.true in
    let free : c.is_answered.result ≡ false = grind (arith, common_steps) in
    let none : list_any (is_result_of x.place) v.entries ≡ false =
    ap (λ (w : AgentJournal). list_any (is_result_of x.place) w.entries) (sym c.self.view_is)
    ∙ ap (λ (l : Journal). list_any (is_result_of x.place) l) (sym c.self.invariant.0) ∙ sym c.is_answered.ensures ∙ free in
    let out : is_outstanding v.agent v.entries x ≡ true = outstanding-if _ _ true false senses none in
    sym (awaited-some v.agent v.entries c.args.poster c.args.taken x c.if-taken-eq0.false (sym c.in-Some.ensures.command)
    ∙ ap (λ b. if b then Some x else None) out)

pub returns-in_default : goal.returns-in_default
returns-in_default c =
    let v = c.args.self.now in
    let x = command_of c.in-Some.command in
    let senses : is_sensing v.agent x.action ≡ true =
    ap (λ (w : AgentJournal). is_sensing w.agent x.action) (sym c.self.view_is) ∙ ap (λ agent. is_sensing agent x.action) (sym c.facts.ensures) ∙ sym c.is_sensing.ensures ∙ c.if-is_sensing.true in
    let told : c.is_answered.result ≡ true = grind (arith, common_steps) in
    let some : list_any (is_result_of x.place) v.entries ≡ true =
    ap (λ (w : AgentJournal). list_any (is_result_of x.place) w.entries) (sym c.self.view_is)
    ∙ ap (λ (l : Journal). list_any (is_result_of x.place) l) (sym c.self.invariant.0) ∙ sym c.is_answered.ensures ∙ told in
    let out : is_outstanding v.agent v.entries x ≡ false = outstanding-if _ _ true true senses some in
    sym (awaited-some v.agent v.entries c.args.poster c.args.taken x c.if-taken-eq0.false (sym c.in-Some.ensures.command)
    ∙ ap (λ b. if b then Some x else None) out)

pub returns-in_default-2 : goal.returns-in_default-2
returns-in_default-2 c =
    let v = c.args.self.now in
    let x = command_of c.in-Some.command in
    let senses : is_sensing v.agent x.action ≡ false =
    ap (λ (w : AgentJournal). is_sensing w.agent x.action) (sym c.self.view_is) ∙ ap (λ agent. is_sensing agent x.action) (sym c.facts.ensures) ∙ sym c.is_sensing.ensures ∙ c.if-is_sensing.false in
    let out : is_outstanding v.agent v.entries x ≡ false = ap (λ s. s && not (list_any (is_result_of x.place) v.entries)) senses in
    sym (awaited-some v.agent v.entries c.args.poster c.args.taken x c.if-taken-eq0.false (sym c.in-Some.ensures.command)
    ∙ ap (λ b. if b then Some x else None) out)

pub returns-in_default-3 : goal.returns-in_default-3
returns-in_default-3 c =
    let v = c.args.self.now in
    let none = sym c.command_at.ensures.command ∙ ap (option_map command_of) c.in_default.is in
    sym (awaited-none v.agent v.entries c.args.poster c.args.taken c.if-taken-eq0.false none)
