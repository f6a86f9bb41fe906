use Rattle.std.proofs.Common.{◌≡◌, subst}
use Rattle.std.specs.Prelude.{IfOk}
use Rattle.std.proofs.lemmas.Result.{IfOk-weaker}
use Rattle.golog_find.specs.declared.found.Found.{Found}
use Rattle.golog_find.specs.Finding.{found, mode_of}
use Rattle.golog_find.specs.InWorlds.{AbsenceIsCertain, RunIsCertain}
use Rattle.golog_find.proofs.FoundInWorlds.{absence_so, run_so}
use Rattle.golog_find.proofs.finding.find_with.Goals as goal

pub returns-clause-so : goal.returns-clause-so
returns-clause-so g c =
    let agent = c.args.agent.now in
    let values = c.args.state.now in
    let block = c.args.block.now in
    let told = subst (λ m. IfOk c.search_block_with.result (λ (f : Found). f ≡ found agent values m block)) c.mode_of.ensures c.search_block_with.ensures in
    IfOk-weaker c.search_block_with.result (λ f. f ≡ found agent values (mode_of c.args.certain) block) (RunIsCertain agent values block.body c.args.certain)
    (λ f. run_so agent c.requires.agent values block c.args.certain f) told

pub returns-clause-none : goal.returns-clause-none
returns-clause-none g c =
    let agent = c.args.agent.now in
    let values = c.args.state.now in
    let block = c.args.block.now in
    let told = subst (λ m. IfOk c.search_block_with.result (λ (f : Found). f ≡ found agent values m block)) c.mode_of.ensures c.search_block_with.ensures in
    IfOk-weaker c.search_block_with.result (λ f. f ≡ found agent values (mode_of c.args.certain) block) (AbsenceIsCertain agent values block.body c.args.certain)
    (λ f. absence_so agent c.requires.agent values block c.args.certain f) told
