-- Agents that start from other values: what has a text has one from these too, and the values that a journal leaves are
-- in their sorts.
use Rattle.std.proofs.Common.{◌≡◌, ◌∙◌, ◌<◌, Bool, ◌&&◌, true, false, is_some, List, [], ◌∷◌, Option, Some, None, Result, Ok, Err, IfOk, ap, refl, sym, subst, length, arith, lt-ltb, ltb-true, All}
use Rattle.std.specs.Prelude.{IfErr, IfSome, IsTrue, MatchResult, fold, nat_lt, take, unwrap_or}
use Rattle.golog_base.specs.declared.mem_files.HeldFile.{HeldFile}
use Rattle.golog_tree.specs.declared.agent.Agent.{Agent}
use Rattle.golog_tree.specs.declared.agent.FluentItem.{FluentItem}
use Rattle.golog_tree.specs.declared.agent.SortItem.{SortItem}
use Rattle.golog_tree.specs.declared.cond.Cond.{Cond}
use Rattle.golog_semantics.specs.declared.journal.Report.{Report}
use Rattle.golog_semantics.specs.BuiltIn.{bool_item, interrupts_running}
use Rattle.golog_semantics.specs.Fits.{cond_fits, nothing_bound}
use Rattle.golog_semantics.specs.InSorts.{AreInSorts}
use Rattle.golog_semantics.specs.Journal.{Journal}
use Rattle.golog_semantics.specs.Progress.{after_entry, values_after}
use Rattle.golog_semantics.specs.Reports.{IsReport, is_value}
use Rattle.golog_semantics.specs.Restart.{migrated, restarted, started, values_left}
use Rattle.golog_semantics.specs.Text.{Text, report_text}
use Rattle.golog_semantics.specs.Truth.{Values}
use Rattle.golog_semantics.specs.Values.{ground_fluents}
use Rattle.golog_semantics.specs.WellFormed.{WellFormed}
use Rattle.golog_semantics.proofs.WellNamed.{starts_in_sorts}
use Rattle.golog_semantics.proofs.Words.{and-left}
use Rattle.golog_script.specs.declared.scripts.Script.{Script}
use Rattle.golog_script.specs.ScriptTexts.{HasTexts}
use Rattle.golog_commands.specs.declared.outcome.Outcome.{Outcome}
use Rattle.golog_commands.specs.declared.ready.Ready.{Ready}
use Rattle.golog_commands.specs.declared.ready.Told.{Told}
use Rattle.golog_commands.specs.declared.ready.Unready.{Unready}
use Rattle.golog_commands.specs.declared.ready.Unready.TheVariants.{Memory}
use Rattle.golog_commands.specs.Inputs.{LeavesValues, Reads, ReadsAgent, ReadsScripts, ReadsStart, SpellsJournal}
use Rattle.golog_commands.specs.Outcome.{BeginsFrom, HoldsRun, IfEnded}

-- a report of the agent that starts from these values is one of the agent with this start
pub from-start : (agent : Agent) (start : Option Values) (report : Report) → IfSome start (AreInSorts agent)
    → IsReport (started agent start) report → IsReport agent (record report { start = start })
from-start agent None report sorts f =
    record { entries = f.entries; runs = f.runs; in_order = f.in_order; in_bounds = f.in_bounds; start = tt }
from-start agent (Some values) report sorts f =
    record { entries = f.entries; runs = f.runs; in_order = f.in_order; in_bounds = f.in_bounds; start = sorts }

-- the lines of a report are the same from each start
pub same-text : (agent : Agent) (start : Option Values) (report : Report)
    → report_text agent (record report { start = start }) ≡ report_text agent report
unfolding report_text
same-text agent start report = refl

-- values in the sorts of an agent are in those of the agent that starts from others
pub sorts-again : (agent : Agent) (start : Option Values) (values : Values) → AreInSorts agent values → AreInSorts (started agent start) values
sorts-again agent None values h = h
sorts-again agent (Some others) values h = record { whole = h.whole; sorted = h.sorted }

-- the values after entries, from the values that a journal starts from
pub after-start : (agent : Agent) (start : Option Values) (entries : Journal)
    → fold (after_entry agent) (unwrap_or start agent.starts) entries ≡ values_after (started agent start) entries
after-start agent None entries = refl
after-start agent (Some values) entries = refl

-- a report with its start written out has a text
pub written-out : (agent : Agent) → WellFormed agent → (report : Report) → IsReport agent report → IsReport agent (migrated agent report)
written-out agent formed report f = record {
  entries = f.entries;
  runs = f.runs;
  in_order = f.in_order;
  in_bounds = f.in_bounds;
  start = own report.start f.start;
}
  where
    own : (start : Option Values) → IfSome start (AreInSorts agent) → AreInSorts agent (unwrap_or start agent.starts)
    own None h = starts_in_sorts agent formed
    own (Some values) h = h

-- a report that has a start has it written out
pub migrated-same : (agent : Agent) (report : Report) → is_some report.start ≡ true → report ≡ migrated agent report
migrated-same agent report some = ap (λ (start : Option Values). record report { start = start }) (own report.start some)
  where
    own : (start : Option Values) → is_some start ≡ true → start ≡ Some (unwrap_or start agent.starts)
    own None none = absurd (cc)
    own (Some values) has = refl

-- one that has none gets the agent's
pub migrated-first : (agent : Agent) (report : Report) (values : Values) → is_some report.start ≡ false → values ≡ agent.starts
    → ◌≡◌ {A = Report} (record report { start = Some values }) (migrated agent report)
migrated-first agent report values none is =
    ap (λ (start : Option Values). record report { start = start }) (ap Some is ∙ own report.start none)
  where
    own : (start : Option Values) → is_some start ≡ false → Some agent.starts ≡ Some (unwrap_or start agent.starts)
    own None none = refl
    own (Some values) has = absurd (cc)

-- what fits fits from each start
pub cond-again : (agent : Agent) (start : Option Values) (cond : Cond) → IsTrue (cond_fits agent cond nothing_bound)
    → IsTrue (cond_fits (started agent start) cond nothing_bound)
cond-again agent None cond fits = fits
cond-again agent (Some values) cond fits = fits

-- ---- the agent after a call that restarts it

pub restarted-sorts : {A E : Type 0} (r : Result A E) (old new : Agent) (values : Values) → MatchResult r (λ _. new ≡ restarted old values) (λ _. new ≡ old)
    → AreInSorts old values → AreInSorts new values
restarted-sorts (Ok x) old new values is sorts = subst (λ a. AreInSorts a values) (sym is) (sorts-again old (Some values) values sorts)
restarted-sorts (Err e) old new values is sorts = subst (λ a. AreInSorts a values) (sym is) sorts

-- ---- the values that a journal leaves

begins-with : {A : Type 0} (x : A) (xs : List A) → take 1 xs ≡ x ∷ [] → (rest : List A) × (xs ≡ x ∷ rest)
begins-with x [] is = absurd (cc)
begins-with x (y ∷ ys) is = let same : y ≡ x = cc in (ys, ap (λ z. z ∷ ys) same)

-- an agent whose first fluent and sort are built in
first-false : (agent : Agent) (fluents : List FluentItem) (sorts : List SortItem)
    → is_value (record agent { fluents = interrupts_running ∷ fluents; sorts = bool_item ∷ sorts }) 0 0 ≡ true
first-false agent fluents sorts =
    ap (λ (b : Bool). b && true)
    (lt-ltb 0 (length (ground_fluents (record agent { fluents = interrupts_running ∷ fluents; sorts = bool_item ∷ sorts }))) (omega arith))

-- the ground fluent 0 may be false
pub may-be-false : (agent : Agent) → WellFormed agent → IsTrue (is_value agent 0 0)
may-be-false agent formed =
    let fluents = begins-with interrupts_running agent.fluents formed.built_in.fluents in
    let sorts = begins-with bool_item agent.sorts formed.built_in.sorts in
    subst (λ (fs : List FluentItem). is_value (record agent { fluents = fs }) 0 0 ≡ true) (sym fluents.1)
    (subst (λ (ss : List SortItem). is_value (record agent { fluents = interrupts_running ∷ fluents.0; sorts = ss }) 0 0 ≡ true) (sym sorts.1)
    (first-false agent fluents.0 sorts.0))

-- so each list of values has one for it
pub has-first : (agent : Agent) → WellFormed agent → (values : Values) → AreInSorts agent values → 0 < length values
has-first agent formed values sorts =
    let within : 0 < length (ground_fluents agent) = ltb-true _ _ (and-left (nat_lt 0 (length (ground_fluents agent))) _ (may-be-false agent formed)) in
    let many = sorts.whole in
    omega (arith, within, many)

-- ---- what is said of a result

-- what is so of a value is so of its copy
pub copied-so : {A E : Type 0} (P : A → Type 0) (x : A) (r : Result A E) → P x → IfOk r (λ y. y ≡ x) → IfOk r P
copied-so P x (Ok y) so is = subst P (sym is) so
copied-so P x (Err e) so is = tt

-- where memory ran out nothing is said
pub memory-ends : {A : Type 0} (r : Result A Unready) (P : Outcome → Type 0) → IfErr r (λ fault. fault ≡ Memory) → IfErr r (λ fault. IfEnded fault P)
memory-ends (Ok x) P is = tt
memory-ends (Err fault) P is = subst (λ f. IfEnded f P) (sym is) tt

-- values that a report leaves are left by its journal file
pub values-left-by : (held : Option (List HeldFile)) (name : Text) (agent : Agent) (told : Told) (r : Result Values Unready) → Reads held name (λ bytes. SpellsJournal agent bytes told)
    → IfOk r (λ values. values ≡ values_left agent told.report) → IfOk r (λ values. Reads held name (λ bytes. LeavesValues agent bytes values))
values-left-by held name agent told (Ok values) reads left =
    record { bytes = reads.bytes; has = reads.has; so = record { told = told; spells = reads.so; left = left } }
values-left-by held name agent told (Err fault) reads left = tt

-- what a run holds whose files were read
pub run-held : (held : Option (List HeldFile)) (name : Text) (named from : Option Text) (own : Agent) (r : Result Ready Unready) → WellFormed own → ReadsAgent held name own
    → IfOk r (λ ready. All HasTexts ready.scripts) → IfOk r (λ ready. ReadsScripts held own named ready.scripts) → IfOk r (BeginsFrom held own from)
    → IfOk r (HoldsRun held name named from)
run-held held name named from own (Ok ready) own_formed reads texts scripts begins =
    record { own = own; own_formed = own_formed; agent_so = reads; scripts_so = scripts; texts = texts; begins = begins }
run-held held name named from own (Err fault) own_formed reads texts scripts begins = tt

-- what was restarted at the values that were read begins from them
pub begins-so : (held : Option (List HeldFile)) (own : Agent) (from : Option Text) (start : Option Values) (r : Result Ready Unready) → ReadsStart held own from start
    → IfSome start (AreInSorts own) → IfOk r (λ ready. ready.start ≡ start) → IfOk r (λ ready. ready.agent ≡ started own ready.start) → IfOk r (λ ready. WellFormed ready.agent)
    → IfOk r (λ ready. IfSome ready.start (AreInSorts ready.agent)) → IfOk r (BeginsFrom held own from)
begins-so held own from start (Ok ready) reads sorts same is formed kept = record {
  start_so = subst (ReadsStart held own from) (sym same) reads;
  sorts = subst (λ (s : Option Values). IfSome s (AreInSorts own)) (sym same) sorts;
  is = is;
  formed = formed;
  kept = kept;
}
begins-so held own from start (Err fault) reads sorts same is formed kept = tt

-- what is so of the scripts that were read is so of those that are ready
pub scripts-ready : (P : List Script → Type 0) (listed : List Script) (r : Result Ready Unready) → P listed → IfOk r (λ ready. ready.scripts ≡ listed) → IfOk r (λ ready. P ready.scripts)
scripts-ready P listed (Ok ready) so is = subst P (sym is) so
scripts-ready P listed (Err fault) so is = tt
