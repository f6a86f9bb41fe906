use Rattle.std.proofs.Common.{◌≡◌, ◌+◌, ◌<◌, if◌then◌else◌, length, set, get_or, sym, ap, ◌∙◌, subst, arith}
use Rattle.std.proofs.lemmas.List.{get_or_default}
use Rattle.golog_semantics.specs.declared.journal.Entry.TheVariants.{Do}
use Rattle.golog_semantics.specs.Journal.{device_of}
use Rattle.golog_journal.specs.declared.standing.Standing.{Standing}
use Rattle.golog_journal.specs.Boards.{AgentJournal}
use Rattle.golog_journal.specs.Tallies.{IsTally, IsCounted}
use Rattle.golog_journal.proofs.Views.{lawful-inside}
use Rattle.golog_journal.proofs.Beginning.{carrier-inside, command-room}
use Rattle.golog_journal.proofs.Pushing.{room-for, owed-few, counted-command}
use Rattle.golog_journal.proofs.counts.Counts.add_command.Goals as goal

pub index_mut-requires : goal.index_mut-requires
index_mut-requires c =
    let j = c.self.inside in
    let device = ap (λ (v : AgentJournal). device_of v.agent c.args.action) c.self.view_is ∙ c.requires.device in
    let inside = carrier-inside j.facts c.self.invariant.serves c.args.action c.args.device device in
    let one = c.self.invariant.tallied.one_each in
    let ok = j.standings.ok.0 in
    omega (arith, inside, one, ok)

pub add_command-requires-clause-commands : goal.add_command-requires-clause-commands
add_command-requires-clause-commands c =
    let j = c.self.inside in
    let ts = j.standings.items in
    let standing = c.index_mut.result.now in
    let device = ap (λ (v : AgentJournal). device_of v.agent c.args.action) c.self.view_is ∙ c.requires.device in
    let number = carrier-inside j.facts c.self.invariant.serves c.args.action c.args.device device in
    let inside : c.args.device < length ts = (let one = c.self.invariant.tallied.one_each in omega (arith, number, one)) in
    let room = command-room j.facts j.totals c.args.action c.args.device
    (lawful-inside j.facts j.totals c.args.self.now (Do c.args.action) c.self.view_is c.requires.lawful) in
    let same = (c.self.invariant.tallied.each c.args.device standing inside).has_commands in
    let is = ap (λ (t : Standing). t.commands) c.index_mut.ensures.value in
    omega (arith, room, same, is)

pub add_command-requires-clause-outstanding : goal.add_command-requires-clause-outstanding
add_command-requires-clause-outstanding c =
    let j = c.self.inside in
    let standing = c.index_mut.result.now in
    let device = ap (λ (v : AgentJournal). device_of v.agent c.args.action) c.self.view_is ∙ c.requires.device in
    let number = carrier-inside j.facts c.self.invariant.serves c.args.action c.args.device device in
    let inside : c.args.device < length j.standings.items = (let one = c.self.invariant.tallied.one_each in omega (arith, number, one)) in
    owed-few j.facts j.totals c.args.device standing
    (subst (IsTally j.facts j.totals c.args.device) (sym c.index_mut.ensures.value) (c.self.invariant.tallied.each c.args.device standing inside))

pub add-requires : goal.add-requires
add-requires c =
    let j = c.self.inside in
    room-for j.facts j.totals j.standings.items c.self.invariant (Do c.args.action)
    (lawful-inside j.facts j.totals c.args.self.now (Do c.args.action) c.self.view_is c.requires.lawful)

pub invariant_of-self : goal.invariant_of-self
invariant_of-self c =
    let j = c.self.inside in
    let ts = j.standings.items in
    let new = c.add_command.new.self in
    let device = ap (λ (v : AgentJournal). device_of v.agent c.args.action) c.self.view_is ∙ c.requires.device in
    let number = carrier-inside j.facts c.self.invariant.serves c.args.action c.args.device device in
    let inside : c.args.device < length ts = (let one = c.self.invariant.tallied.one_each in omega (arith, number, one)) in
    let was : c.index_mut.result.now ≡ get_or ts c.args.device new =
    c.index_mut.ensures.value ∙ get_or_default ts c.args.device c.index_mut.result.now new inside in
    subst (λ entries. IsCounted j.facts entries (set ts c.args.device new)) (sym c.add.ensures)
    (counted-command j.facts j.totals ts c.self.invariant c.args.action c.args.device new device inside
    (c.add_command.ensures.commands ∙ ap (λ (t : Standing). t.commands + 1) was)
    (c.add_command.ensures.outstanding ∙ ap (λ (t : Standing). t.outstanding + (if c.is_sensing-asks.result then 1 else 0)) was
    ∙ ap (λ b. (get_or ts c.args.device new).outstanding + (if b then 1 else 0)) c.is_sensing-asks.ensures)
    (c.add_command.ensures.rested ∙ ap (λ (t : Standing). t.rested) was)
    (c.add_command.ensures.is_open ∙ ap (λ (t : Standing). t.is_open) was)
    (lawful-inside j.facts j.totals c.args.self.now (Do c.args.action) c.self.view_is c.requires.lawful))
