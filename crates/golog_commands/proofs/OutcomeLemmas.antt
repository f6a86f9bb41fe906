-- From what the inputs of a call hold, and what a run of these comes to, to what the call comes to.
use Rattle.std.proofs.Common.{◌≡◌, Bool, ℕ, ◌+◌, ◌<◌, ◌≤◌, List, [], Option, Some, None, Result, Ok, Err, IfOk, length, replicate, refl, sym, ap, ◌∙◌, subst, inl, inr, arith}
use Rattle.std.specs.Prelude.{IsSomeAnd}
use Rattle.std.proofs.lemmas.List.{length-replicate}
use Rattle.golog_base.specs.Files.{FileHas, file_limit}
use Rattle.golog_base.specs.declared.mem_files.HeldFile.{HeldFile}
use Rattle.golog_tree.specs.declared.agent.Agent.{Agent}
use Rattle.golog_tree.specs.declared.cond.Cond.{Cond}
use Rattle.golog_tree.specs.declared.draft.DraftTheory.{DraftTheory}
use Rattle.golog_semantics.specs.Restart.{values_left}
use Rattle.golog_semantics.specs.Text.{Text}
use Rattle.golog_semantics.specs.Truth.{Values}
use Rattle.golog_device.specs.Slots.{Standing}
use Rattle.golog_script.specs.declared.scripts.Script.{Script}
use Rattle.golog_file.specs.Conditions.{RefusesCond, SpellsCond}
use Rattle.golog_file.specs.declared.reading.Understood.{Understood}
use Rattle.golog_file.specs.Spelled.{IsFirstRefusal, of_bytes}
use Rattle.golog_words.specs.Commands.{run}
use Rattle.golog_commands.specs.declared.outcome.Input.{Input}
use Rattle.golog_commands.specs.declared.outcome.Input.TheVariants.{Agent as AgentFile, Devices as DevicesFile, Journal as JournalFile, Condition}
use Rattle.golog_commands.specs.declared.outcome.Outcome.{Outcome}
use Rattle.golog_commands.specs.declared.outcome.Outcome.TheVariants.{Refused}
use Rattle.golog_commands.specs.declared.ready.Ready.{Ready}
use Rattle.golog_commands.specs.declared.ready.Told.{Told}
use Rattle.golog_commands.specs.declared.ready.Unready.{Unready}
use Rattle.golog_commands.specs.declared.ready.Unready.TheVariants.{Ended, Memory}
use Rattle.golog_commands.specs.Inputs.{Reads, ReadsAgent, ReadsScripts, SpellsScripts, RefusesScripts, too_long, SpellsBoth, SpellsJournal, RefusesJournal, journal_too_long, ReadsStart, Tells, input_limit, refusal_text, IsUnread}
use Rattle.golog_commands.specs.Outcome.{ComesOf, unread, refused, holds, RunOf, OfFile, OfAgent, OfBoth, OfScripts, OfJournal, OfFrom, OfCondition, Comes, CondFails, FileFails, HoldsRun, IfEnded, IsTooLong, Never}
use Rattle.golog_commands.proofs.InputLemmas.{held-reads, reads-so, unread-since}

-- ---- files that are refused or can't be read

pub ended-so : (fault : Unready) (P Q : Outcome → Type 0) → ((outcome : Outcome) → P outcome → Q outcome) → IfEnded fault P → IfEnded fault Q
ended-so (Ended outcome) P Q so h = so outcome h
ended-so Memory P Q so h = tt

-- what is so of a refusal is so of what the call comes to
pub ends-so : {E : Type 0} (r : Result Outcome E) (fault : Unready) (P Q : Outcome → Type 0) → IfOk r (λ outcome. fault ≡ Ended outcome)
    → ((outcome : Outcome) → P outcome → Q outcome) → IfEnded fault P → IfOk r Q
ends-so (Ok outcome) fault P Q is so h = so outcome (subst (λ f. IfEnded f P) is h)
ends-so (Err e) fault P Q is so h = tt

-- a list of one byte more than a limit
one-more : (limit : ℕ) → limit < length (replicate {A = ℕ} (limit + 1) 0)
one-more limit = subst (λ k. limit < k) (sym (length-replicate {A = ℕ} (limit + 1) 0)) (omega arith)

module _ (input : Input) (held : Option (List HeldFile)) (name : Text) (before after : ℕ) where
  -- a file with more bytes than the limit
  pub too-long : (limit : ℕ) (fault : Unready) → limit ≡ input_limit input → FileHas held name (λ told. limit < length told)
      → IfEnded fault (λ o. o ≡ Refused input (refusal_text input 5 limit)) → IfEnded fault (FileFails input (IsTooLong input) held name before after)
  too-long limit fault so has said =
      ended-so fault (λ o. o ≡ Refused input (refusal_text input 5 limit)) (FileFails input (IsTooLong input) held name before after)
      (λ o is. inr (
        refusal_text input 5 limit,
        is,
        reads-so held name (λ told. limit < length told) (λ told. Tells input (IsTooLong input told) (refusal_text input 5 limit))
            (λ told long. record { code = 5; at = limit; refused = (subst (λ k. k < length told) so long, refl, so); is = refl })
            (held-reads held name (replicate (limit + 1) 0) (λ told. limit < length told) (one-more limit) has),
      )) said

  -- a file whose bytes are refused so
  pub refused-so : (Refuses : Text → ℕ → ℕ → Type 0) (fault : Unready) (bytes : Text) (code at : ℕ) → FileHas held name (λ told. told ≡ bytes) → Refuses bytes code at
      → IfEnded fault (λ o. o ≡ Refused input (refusal_text input code at)) → IfEnded fault (FileFails input Refuses held name before after)
  refused-so Refuses fault bytes code at has refuses said =
      ended-so fault (λ o. o ≡ Refused input (refusal_text input code at)) (FileFails input Refuses held name before after)
      (λ o is. inr (
        refusal_text input code at,
        is,
        record { bytes = bytes; has = has; so = record { code = code; at = at; refused = refuses; is = refl } },
      )) said

  -- a refusal of one kind is one of another
  fails-so : (P Q : Text → ℕ → ℕ → Type 0) → ((bytes : Text) (code at : ℕ) → P bytes code at → Q bytes code at) → (outcome : Outcome)
      → FileFails input P held name before after outcome → FileFails input Q held name before after outcome
  fails-so P Q so outcome (inl fault) = inl fault
  fails-so P Q so outcome (inr (text, is, reads)) =
      inr (
        text,
        is,
        reads-so held name (λ told. Tells input (P told) text) (λ told. Tells input (Q told) text)
            (λ told t. record { code = t.code; at = t.at; refused = so told t.code t.at t.refused; is = t.is }) reads,
      )

  -- so are bytes above the limit
  pub bytes-fail : (Q : Text → ℕ → ℕ → Type 0) → ((bytes : Text) → input_limit input < length bytes → Q bytes 5 (input_limit input)) → (fault : Unready)
      → IfEnded fault (FileFails input (IsTooLong input) held name before after) → IfEnded fault (FileFails input Q held name before after)
  bytes-fail Q so fault fails =
      ended-so fault (FileFails input (IsTooLong input) held name before after) (FileFails input Q held name before after)
      (fails-so (IsTooLong input) Q (λ told code at long.
      subst (λ k. Q told k at) (sym long.1) (subst (λ k. Q told 5 k) (sym long.2) (so told long.0)))) fails

  -- calls that failed since later failed since earlier
  pub fails-since : (first : ℕ) → first ≤ before → (Q : Text → ℕ → ℕ → Type 0) (outcome : Outcome) → FileFails input Q held name before after outcome
      → FileFails input Q held name first after outcome
  fails-since first grows Q outcome (inl (is, u)) = inl (is, unread-since held name first before after grows u)
  fails-since first grows Q outcome (inr refusal) = inr refusal

  -- what comes of a file that holds no value
  pub file-comes : {A : Type 0} (Q : Text → ℕ → ℕ → Type 0) (Spells : Text → A → Type 0) (Next : A → Outcome → Type 0) (outcome : Outcome)
      → FileFails input Q held name before after outcome → OfFile held before after input name Q Spells Next outcome
  file-comes Q Spells Next outcome (inl (is, u)) = unread is u
  file-comes Q Spells Next outcome (inr (text, is, reads)) = refused text is reads

  -- what a call comes to whose file holds no value
  pub file-ends : {E A : Type 0} (Q : Text → ℕ → ℕ → Type 0) (Spells : Text → A → Type 0) (Next : A → Outcome → Type 0) (r : Result Outcome E) (fault : Unready)
      → IfOk r (λ outcome. fault ≡ Ended outcome) → IfEnded fault (FileFails input Q held name before after)
      → IfOk r (OfFile held before after input name Q Spells Next)
  file-ends Q Spells Next r fault is fails =
      ends-so r fault (FileFails input Q held name before after) (OfFile held before after input name Q Spells Next) is (file-comes Q Spells Next) fails

-- a condition whose bytes are refused so
pub cond-refused-so : (theory : DraftTheory) (agent : Agent) (bytes : Text) (fault : Unready) (code at : ℕ) → RefusesCond theory agent bytes code at
    → IfEnded fault (λ o. o ≡ Refused Condition (refusal_text Condition code at)) → IfEnded fault (CondFails theory agent bytes)
cond-refused-so theory agent bytes fault code at refuses said =
    ended-so fault (λ o. o ≡ Refused Condition (refusal_text Condition code at)) (CondFails theory agent bytes)
    (λ o is. (refusal_text Condition code at, is, record { code = code; at = at; refused = refuses; is = refl })) said

-- what comes of a condition that is refused
pub cond-comes : (theory : DraftTheory) (agent : Agent) (bytes : Text) (Next : Cond → Outcome → Type 0) (outcome : Outcome) → CondFails theory agent bytes outcome
    → OfCondition theory agent bytes Next outcome
cond-comes theory agent bytes Next outcome (text, is, tells) = refused text is tells

-- what comes of a file since later comes of it since earlier
pub file-since : {A : Type 0} (input : Input) (held : Option (List HeldFile)) (name : Text) (first later after : ℕ) (Q : Text → ℕ → ℕ → Type 0) (Spells : Text → A → Type 0)
    (Next : A → Outcome → Type 0) (outcome : Outcome) → first ≤ later
    → OfFile held later after input name Q Spells Next outcome → OfFile held first after input name Q Spells Next outcome
file-since input held name first later after Q Spells Next outcome grows (unread is u) = unread is (unread-since held name first later after grows u)
file-since input held name first later after Q Spells Next outcome grows (refused text is reads) = refused text is reads
file-since input held name first later after Q Spells Next outcome grows (holds x reads next) = holds x reads next

-- what comes of an agent file that spells this agent
pub agent-comes : {E : Type 0} (held : Option (List HeldFile)) (name : Text) (first after : ℕ) (Next : Agent → Outcome → Type 0) (agent : Agent) (r : Result Outcome E)
    → ReadsAgent held name agent → IfOk r (Next agent) → IfOk r (OfAgent held first after name Next)
agent-comes held name first after Next agent (Ok outcome) reads next = holds agent reads next
agent-comes held name first after Next agent (Err e) reads next = next

-- what comes of a condition that is spelled
pub cond-holds : {E : Type 0} (theory : DraftTheory) (agent : Agent) (bytes : Text) (Next : Cond → Outcome → Type 0) (cond : Cond) (r : Result Outcome E)
    → SpellsCond theory agent bytes cond → IfOk r (Next cond) → IfOk r (OfCondition theory agent bytes Next)
cond-holds theory agent bytes Next cond (Ok outcome) spells next = holds cond spells next
cond-holds theory agent bytes Next cond (Err e) spells next = next

-- what comes of a journal file that tells this
pub told-comes : {E : Type 0} (held : Option (List HeldFile)) (name : Text) (first after : ℕ) (agent : Agent) (Next : Told → Outcome → Type 0) (told : Told) (r : Result Outcome E)
    → Reads held name (λ bytes. SpellsJournal agent bytes told) → IfOk r (Next told) → IfOk r (OfJournal held first after agent name Next)
told-comes held name first after agent Next told (Ok outcome) reads next = holds told reads next
told-comes held name first after agent Next told (Err e) reads next = next

-- what comes of a journal file since later comes of it since earlier
pub journal-since : {E : Type 0} (held : Option (List HeldFile)) (name : Text) (first later after : ℕ) (agent : Agent) (Next : Told → Outcome → Type 0) (r : Result Outcome E) → first ≤ later
    → IfOk r (OfJournal held later after agent name Next) → IfOk r (OfJournal held first after agent name Next)
journal-since held name first later after agent Next (Ok outcome) grows comes =
    file-since JournalFile held name first later after (RefusesJournal agent) (SpellsJournal agent) Next outcome grows comes
journal-since held name first later after agent Next (Err e) grows comes = comes

-- what comes of an agent file that spells this, and of a journal file that is read later
pub both-come : {E : Type 0} (held : Option (List HeldFile)) (name : Text) (first later after : ℕ) (journal : Text) (Next : Understood → Told → Outcome → Type 0)
    (u : Understood) (r : Result Outcome E) → first ≤ later → Reads held name (λ bytes. SpellsBoth bytes u)
    → IfOk r (OfJournal held later after u.agent journal (Next u)) → IfOk r (OfBoth held first after name (λ v. OfJournal held first after v.agent journal (Next v)))
both-come held name first later after journal Next u (Ok outcome) grows reads next =
    holds u reads (file-since JournalFile held journal first later after (RefusesJournal u.agent) (SpellsJournal u.agent) (Next u) outcome grows next)
both-come held name first later after journal Next u (Err e) grows reads next = next

pub agent-bytes : (input : Input) (held : Option (List HeldFile)) (name : Text) (before after : ℕ) (fault : Unready) → input_limit input ≡ file_limit
    → IfEnded fault (FileFails input (IsTooLong input) held name before after) → IfEnded fault (FileFails input IsFirstRefusal held name before after)
agent-bytes input held name before after fault is =
    bytes-fail input held name before after IsFirstRefusal
    (λ told long. subst (λ k. IsFirstRefusal told 5 k) (sym is) (of_bytes 5 1048576 (inl (subst (λ k. k < length told) is long, refl, refl)))) fault

pub scripts-bytes : (agent : Agent) (held : Option (List HeldFile)) (name : Text) (before after : ℕ) (fault : Unready)
    → IfEnded fault (FileFails DevicesFile (IsTooLong DevicesFile) held name before after) → IfEnded fault (FileFails DevicesFile (RefusesScripts agent) held name before after)
scripts-bytes agent held name before after = bytes-fail DevicesFile held name before after (RefusesScripts agent) (λ told long. too_long long)

pub journal-bytes : (agent : Agent) (held : Option (List HeldFile)) (name : Text) (before after : ℕ) (fault : Unready)
    → IfEnded fault (FileFails JournalFile (IsTooLong JournalFile) held name before after) → IfEnded fault (FileFails JournalFile (RefusesJournal agent) held name before after)
journal-bytes agent held name before after = bytes-fail JournalFile held name before after (RefusesJournal agent) (λ told long. journal_too_long long)

-- ---- what comes of inputs

-- what follows of the same values
pub comes-so : {A : Type 0} (input : Input) (Unread : Type 0) (Refuses : Text → Type 0) (Holds : A → Type 0) (P Q : A → Outcome → Type 0) (outcome : Outcome)
    → ((x : A) → P x outcome → Q x outcome) → ComesOf input Unread Refuses Holds P outcome → ComesOf input Unread Refuses Holds Q outcome
comes-so input Unread Refuses Holds P Q outcome so (unread is u) = unread is u
comes-so input Unread Refuses Holds P Q outcome so (refused text is r) = refused text is r
comes-so input Unread Refuses Holds P Q outcome so (holds x h next) = holds x h (so x next)

module _ (held : Option (List HeldFile)) (first now : ℕ) where
  pub scripts-so : (agent : Agent) (named : Option Text) (P Q : List Script → Outcome → Type 0) (outcome : Outcome) → ((listed : List Script) → P listed outcome → Q listed outcome)
      → OfScripts held first now agent named P outcome → OfScripts held first now agent named Q outcome
  scripts-so agent None P Q outcome so comes = so [] comes
  scripts-so agent (Some name) P Q outcome so comes =
      comes-so DevicesFile (IsUnread held name first now) (λ text. Reads held name (λ bytes. Tells DevicesFile (RefusesScripts agent bytes) text))
      (λ listed. Reads held name (λ bytes. SpellsScripts agent bytes listed)) P Q outcome so comes

  pub scripts-hold : (agent : Agent) (named : Option Text) (listed : List Script) (P : List Script → Outcome → Type 0) (outcome : Outcome)
      → ReadsScripts held agent named listed → P listed outcome → OfScripts held first now agent named P outcome
  scripts-hold agent None listed P outcome reads next = subst (λ l. P l outcome) reads next
  scripts-hold agent (Some name) listed P outcome reads next = holds listed reads next

  -- ---- the journal file that a run begins from

  from-so : (agent : Agent) (from : Option Text) (P Q : Option Values → Outcome → Type 0) (outcome : Outcome) → ((start : Option Values) → P start outcome → Q start outcome)
      → OfFrom held first now agent from P outcome → OfFrom held first now agent from Q outcome
  from-so agent None P Q outcome so comes = so None comes
  from-so agent (Some name) P Q outcome so comes =
      comes-so JournalFile (IsUnread held name first now) (λ text. Reads held name (λ bytes. Tells JournalFile (RefusesJournal agent bytes) text))
      (λ told. Reads held name (λ bytes. SpellsJournal agent bytes told)) (λ told. P (Some (values_left agent told.report))) (λ told. Q (Some (values_left agent told.report))) outcome
      (λ told. so (Some (values_left agent told.report))) comes

  from-holds : (agent : Agent) (from : Option Text) (start : Option Values) (P : Option Values → Outcome → Type 0) (outcome : Outcome)
      → ReadsStart held agent from start → P start outcome → OfFrom held first now agent from P outcome
  from-holds agent None start P outcome reads next = subst (λ s. P s outcome) reads next
  from-holds agent (Some name) start P outcome (values, reads, is) next =
      holds reads.so.told (record { bytes = reads.bytes; has = reads.has; so = reads.so.spells })
      (subst (λ s. P s outcome) (is ∙ ap Some reads.so.left) next)

  -- what comes of a file since later comes of it since earlier
  pub from-since : (later : ℕ) → first ≤ later → (agent : Agent) (from : Option Text) (Next : Option Values → Outcome → Type 0) (outcome : Outcome)
      → OfFrom held later now agent from Next outcome → OfFrom held first now agent from Next outcome
  from-since later grows agent None Next outcome comes = comes
  from-since later grows agent (Some name) Next outcome comes =
      file-since JournalFile held name first later now (RefusesJournal agent) (SpellsJournal agent) (λ told. Next (Some (values_left agent told.report))) outcome grows comes

  pub scripts-since : (later : ℕ) → first ≤ later → (agent : Agent) (named : Option Text) (P Q : List Script → Outcome → Type 0) (outcome : Outcome)
      → ((listed : List Script) → P listed outcome → Q listed outcome) → OfScripts held later now agent named P outcome → OfScripts held first now agent named Q outcome
  scripts-since later grows agent None P Q outcome so comes = so [] comes
  scripts-since later grows agent (Some name) P Q outcome so comes =
      scripts-so agent (Some name) P Q outcome so
      (file-since DevicesFile held name first later now (RefusesScripts agent) (SpellsScripts agent) P outcome grows comes)

  -- where the devices file holds no scripts
  pub scripts-fail : (agent : Agent) (named : Option Text) (Next : List Script → Outcome → Type 0) (outcome : Outcome)
      → IsSomeAnd named (λ file. FileFails DevicesFile (RefusesScripts agent) held file first now outcome)
      → OfScripts held first now agent named Next outcome
  scripts-fail agent None Next outcome fails = absurd fails
  scripts-fail agent (Some file) Next outcome fails =
      file-comes DevicesFile held file first now (RefusesScripts agent) (SpellsScripts agent) Next outcome fails

  -- where it does, and the journal file holds no values
  pub from-fails : (later : ℕ) → first ≤ later → (agent : Agent) (named from : Option Text) (listed : List Script) (outcome : Outcome)
      → ReadsScripts held agent named listed → OfFrom held later now agent from Never outcome
      → OfScripts held first now agent named (λ l. OfFrom held first now agent from Never) outcome
  from-fails later grows agent named from listed outcome reads comes =
      scripts-hold agent named listed (λ l. OfFrom held first now agent from Never) outcome reads (from-since later grows agent from Never outcome comes)

  -- where the agent file spells an agent, and a file behind it holds nothing
  pub behind-agent : (later : ℕ) → first ≤ later → (name : Text) (agent : Agent) → ReadsAgent held name agent → (named from : Option Text) (outcome : Outcome)
      → OfScripts held later now agent named (λ l. OfFrom held later now agent from Never) outcome
      → OfAgent held first now name (λ a. OfScripts held first now a named (λ l. OfFrom held first now a from Never)) outcome
  behind-agent later grows name agent reads named from outcome comes =
      holds agent reads
      (scripts-since later grows agent named (λ l. OfFrom held later now agent from Never) (λ l. OfFrom held first now agent from Never) outcome
      (λ l. from-since later grows agent from Never outcome) comes)

  -- ---- runs

  module _ (olds news : List Standing) (name : Text) (named : Option Text) (inline : Bool) (from : Option Text) (workers : Option ℕ) where
    abbrev Runs : Agent → List Script → Option Values → Outcome → Type 0
    Runs a listed start = RunOf a start listed inline olds news

    -- what a run of what the files hold comes to
    pub run-comes : (ready : Ready) (has : HoldsRun held name named from ready) (outcome : Outcome) → Runs has.own ready.scripts ready.start outcome
        → Comes held first now olds news (Some (run name named inline from workers)) outcome
    run-comes ready has outcome ran =
        holds has.own has.agent_so
        (scripts-hold has.own named ready.scripts (λ listed. OfFrom held first now has.own from (Runs has.own listed)) outcome has.scripts_so
        (from-holds has.own from ready.start (Runs has.own ready.scripts) outcome has.begins.start_so ran))

    -- what comes of files that hold no run
    pub never-comes : (outcome : Outcome) → OfAgent held first now name (λ a. OfScripts held first now a named (λ l. OfFrom held first now a from Never)) outcome
        → Comes held first now olds news (Some (run name named inline from workers)) outcome
    never-comes outcome comes =
        comes-so AgentFile (IsUnread held name first now) (λ text. Reads held name (λ bytes. Tells AgentFile (IsFirstRefusal bytes) text)) (ReadsAgent held name)
        (λ a. OfScripts held first now a named (λ l. OfFrom held first now a from Never))
        (λ a. OfScripts held first now a named (λ listed. OfFrom held first now a from (Runs a listed))) outcome
        (λ a. scripts-so a named (λ l. OfFrom held first now a from Never) (λ listed. OfFrom held first now a from (Runs a listed)) outcome
        (λ listed. from-so a from Never (Runs a listed) outcome (λ start none. absurd none))) comes
