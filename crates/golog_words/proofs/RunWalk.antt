-- How `clap` goes over the words of a `run`, word by word.
use Rattle.std.proofs.Common.{◌≡◌, ◌∙◌, ap, ap₂, refl, sym, subst, codes, ℕ, Bool, true, false, not, List, [], ◌∷◌, Option, Some, None}
use Rattle.std.specs.Prelude.{⊤, ◌==◌, ◌&&◌, ◌||◌, if◌then◌else◌, option_and_then}
use Rattle.std.proofs.lemmas.Slice.Eq.{bytes_eq-Decides}
use Rattle.clap.proofs.OnLiterals.{clap_on_literals}
use Rattle.clap.specs.Words.{App, Row, Rule, built, is_simple, new_app, new_rule, with_rule}
use Rattle.clap.specs.Simple.{Shape, filled, with_index}
use Rattle.clap.specs.Takes.{settle_passes, turn_passes, walk_passes}
use Rattle.clap.specs.Walk.{Held, Waiting, Walk, after_step, idle, is_pending, option, plain_word, pushed, settled, used, walked}
use Rattle.clap.specs.declared.builder.ArgAction.TheVariants.{Set, SetTrue}
use Rattle.clap.specs.declared.parser.matches.ValueSource.TheVariants.{CommandLine as FromWords}
use Rattle.golog_base.proofs.Bools.{and-false}
use Rattle.golog_words.specs.Commands.{Said, Text, is_count, is_file_word, is_from, is_inline, is_workers, said_by, said_more, with_file, with_from, with_inline, with_workers}
use Rattle.golog_words.specs.declared.said.Awaited.{Awaited}
use Rattle.golog_words.specs.declared.said.Awaited.TheVariants.{Journal, Count}
use Rattle.golog_words.proofs.Digits.{no_count}
use Rattle.golog_words.proofs.Conditions.{is_no}
use Rattle.golog_words.proofs.Rows.{absent, beside, given, newest, row_by, row_for, used_once}
use Rattle.golog_words.proofs.Walks.{ends, stepped, stepped_waiting, takes_over, turned, turned_waiting, waiting_for, walk_over}

abbrev pub inline : Rule
inline = record (new_rule (codes "inline")) { long = Some (codes "inline"); action = Some SetTrue }

abbrev pub from : Rule
from = record (new_rule (codes "from")) { long = Some (codes "from"); action = Some Set }

abbrev pub workers : Rule
workers = record (new_rule (codes "workers")) { long = Some (codes "workers"); action = Some Set }

abbrev pub running : App
running = with_rule (with_rule (with_rule
    (with_rule (with_rule (new_app (codes "run")) (new_rule (codes "agent"))) (new_rule (codes "devices"))) inline) from) workers

abbrev pub shape : Shape
shape = (built running).top

abbrev pub rules : List Rule
rules = shape.rules

pub simple : is_simple running ≡ true
unfolding clap_on_literals
simple = refl

-- the arguments as they are built
abbrev pub agent_rule : Rule
agent_rule = with_index 1 (filled (new_rule (codes "agent")))

abbrev pub devices_rule : Rule
devices_rule = with_index 2 (filled (new_rule (codes "devices")))

abbrev pub inline_rule : Rule
inline_rule = filled inline

abbrev pub from_rule : Rule
from_rule = filled from

abbrev pub workers_rule : Rule
workers_rule = filled workers

-- ---- the words

abbrev flag : Text
flag = codes "--inline"

abbrev opener : Text
opener = codes "--from"

abbrev counter : Text
counter = codes "--workers"

data Kind : Text → Type 0 where
  file : (x : ℕ) (xs : Text) → (x == 45) ≡ false → Kind (x ∷ xs)
  switch : Kind flag
  opens : Kind opener
  counts : Kind counter
  other : {word : Text} → is_file_word word ≡ false → is_inline word ≡ false → is_from word ≡ false → is_workers word ≡ false → Kind word

kind : (word : Text) → Kind word
kind word = files word (is_file_word word) refl
  where
    counting : (text : Text) (b : Bool) → is_workers text ≡ b → is_file_word text ≡ false → is_inline text ≡ false → is_from text ≡ false → Kind text
    counting text true same no_file no_flag no_from = subst Kind (sym ((bytes_eq-Decides text counter).0 same)) counts
    counting text false differs no_file no_flag no_from = other no_file no_flag no_from differs

    opening : (text : Text) (b : Bool) → is_from text ≡ b → is_file_word text ≡ false → is_inline text ≡ false → Kind text
    opening text true same no_file no_flag = subst Kind (sym ((bytes_eq-Decides text opener).0 same)) opens
    opening text false differs no_file no_flag = counting text (is_workers text) refl no_file no_flag differs

    flags : (text : Text) (b : Bool) → is_inline text ≡ b → is_file_word text ≡ false → Kind text
    flags text true same no_file = subst Kind (sym ((bytes_eq-Decides text flag).0 same)) switch
    flags text false differs no_file = opening text (is_from text) refl no_file differs

    files : (text : Text) (b : Bool) → is_file_word text ≡ b → Kind text
    files [] true is = flags [] false refl refl
    files (x ∷ xs) true is = file x xs (is_no _ is)
    files text false is = flags text (is_inline text) refl is

-- ---- what is held where words have said this

-- the rows of these arguments
pub record Looks (agent devices : Option Text) (is_set : Bool) (journal count : Option Text) (rows : List Row) : Type 0 where
  pub agent_is : row_by (codes "agent") rows ≡ row_for agent_rule agent
  pub devices_is : row_by (codes "devices") rows ≡ row_for devices_rule devices
  pub inline_is : row_by (codes "inline") rows ≡ (if is_set then Some (given inline_rule (codes "true" ∷ [])) else None)
  pub from_is : row_by (codes "from") rows ≡ row_for from_rule journal
  pub workers_is : row_by (codes "workers") rows ≡ row_for workers_rule count

-- Between two words the argument before them may be used; behind `--from` and `--workers` its value is awaited.
abbrev pub Keeps : Option Awaited → Said → Held → Type 0
Keeps None said h =
    Looks said.agent said.devices said.is_inline said.from said.workers (settled rules h).rows × (settle_passes rules false h ≡ true)
Keeps (Some Journal) said h =
    (h.pending ≡ Some (codes "from", [])) × Looks said.agent said.devices said.is_inline None said.workers h.rows
Keeps (Some Count) said h =
    (h.pending ≡ Some (codes "workers", [])) × Looks said.agent said.devices said.is_inline said.from None h.rows

-- the position of the next file
abbrev pub place : Option Text → Option Text → ℕ
place None devices = 1
place (Some agent) None = 2
place (Some agent) (Some devices) = 3

abbrev pub InOrder : Option Text → Option Text → Type 0
InOrder None (Some devices) = ⊥
InOrder agent devices = ⊤

abbrev pub waits : Option Awaited → Waiting
waits None = idle
waits (Some Journal) = option (codes "from")
waits (Some Count) = option (codes "workers")

abbrev pub standing : Said → Held → Walk
standing said h = record {
  held = h;
  waiting = waits said.awaits;
  position = place said.agent said.devices;
  is_trailing = false;
  stopped = None;
}

-- one more word: the walk goes on, and holds what is said now
record Moved (said : Said) (h : Held) (word : Text) (next : Said) : Type 0 where
  held : Held
  goes : walked rules [] (standing said h) word ≡ standing next held
  passes : turn_passes shape [] (standing said h) word ≡ true
  keeps : Keeps next.awaits next held
  in_order : InOrder next.agent next.devices

abbrev Moves : Said → Held → Text → Option Said → Type 0
Moves said h word None = ⊤
Moves said h word (Some next) = Moved said h word next

-- ---- a file

abbrev before : Option Text → Option Text → Bool → Option Text → Option Text → Said
before agent devices is_set journal count =
    record { agent = agent; devices = devices; is_inline = is_set; from = journal; workers = count; awaits = None }

module _ (is_set : Bool) (journal count : Option Text) (h : Held) (x : ℕ) (xs : Text) (e : (x == 45) ≡ false) where
  abbrev file_word : Text
  file_word = x ∷ xs

  abbrev rows : List Row
  rows = (settled rules h).rows

  -- what is held behind the word
  abbrev holding : Text → Held
  holding id = record h { rows = rows; pending = Some (id, file_word ∷ []) }

  agent_moves : Keeps None (before None None is_set journal count) h
      → Moved (before None None is_set journal count) h file_word (before (Some file_word) None is_set journal count)
  unfolding clap_on_literals
  agent_moves keeps =
      let new = used_once agent_rule FromWords (file_word ∷ []) rows keeps.0.agent_is in
      record {
        held = holding (codes "agent");
        goes = stepped shape x xs e h 1
            ∙ ap (λ (b : Bool). standing (before (Some file_word) None is_set journal count) (pushed (codes "agent") file_word (if b then h else settled rules h)))
            (and-false (is_pending agent_rule h.pending));
        passes = turned shape x xs e h 1
            ∙ ap₂ (λ (a b : Bool). a || b) (and-false (is_pending agent_rule h.pending)) keeps.1;
        keeps = (
          record {
            agent_is = ap (row_by (codes "agent")) new ∙ newest (codes "agent") _ rows keeps.0.agent_is refl;
            devices_is = ap (row_by (codes "devices")) new ∙ beside (codes "devices") _ rows refl ∙ keeps.0.devices_is;
            inline_is = ap (row_by (codes "inline")) new ∙ beside (codes "inline") _ rows refl ∙ keeps.0.inline_is;
            from_is = ap (row_by (codes "from")) new ∙ beside (codes "from") _ rows refl ∙ keeps.0.from_is;
            workers_is = ap (row_by (codes "workers")) new ∙ beside (codes "workers") _ rows refl ∙ keeps.0.workers_is;
          },
          ap (λ (b : Bool). (not b || false) && true) (absent (codes "agent") rows keeps.0.agent_is),
        );
        in_order = tt;
      }

  devices_moves : (agent : Text) → Keeps None (before (Some agent) None is_set journal count) h
      → Moved (before (Some agent) None is_set journal count) h file_word (before (Some agent) (Some file_word) is_set journal count)
  unfolding clap_on_literals
  devices_moves agent keeps =
      let new = used_once devices_rule FromWords (file_word ∷ []) rows keeps.0.devices_is in
      record {
        held = holding (codes "devices");
        goes = stepped shape x xs e h 2
            ∙ ap (λ (b : Bool). standing (before (Some agent) (Some file_word) is_set journal count) (pushed (codes "devices") file_word (if b then h else settled rules h)))
            (and-false (is_pending devices_rule h.pending));
        passes = turned shape x xs e h 2
            ∙ ap₂ (λ (a b : Bool). a || b) (and-false (is_pending devices_rule h.pending)) keeps.1;
        keeps = (
          record {
            agent_is = ap (row_by (codes "agent")) new ∙ beside (codes "agent") _ rows refl ∙ keeps.0.agent_is;
            devices_is = ap (row_by (codes "devices")) new ∙ newest (codes "devices") _ rows keeps.0.devices_is refl;
            inline_is = ap (row_by (codes "inline")) new ∙ beside (codes "inline") _ rows refl ∙ keeps.0.inline_is;
            from_is = ap (row_by (codes "from")) new ∙ beside (codes "from") _ rows refl ∙ keeps.0.from_is;
            workers_is = ap (row_by (codes "workers")) new ∙ beside (codes "workers") _ rows refl ∙ keeps.0.workers_is;
          },
          ap (λ (b : Bool). (not b || false) && true) (absent (codes "devices") rows keeps.0.devices_is),
        );
        in_order = tt;
      }

  file_moves : (agent devices : Option Text) → InOrder agent devices → Keeps None (before agent devices is_set journal count) h
      → Moves (before agent devices is_set journal count) h file_word (with_file (before agent devices is_set journal count) file_word)
  file_moves None None order keeps = agent_moves keeps
  file_moves None (Some devices) order keeps = absurd order
  file_moves (Some agent) None order keeps = devices_moves agent keeps
  file_moves (Some agent) (Some devices) order keeps = tt

  file_said : (agent devices : Option Text)
      → said_more (before agent devices is_set journal count) file_word ≡ with_file (before agent devices is_set journal count) file_word
  file_said agent devices = rw e refl

-- ---- the flag, and the options

module _ (agent devices : Option Text) (h : Held) where
  abbrev held_rows : List Row
  held_rows = (settled rules h).rows

  flag_moves : (is_set : Bool) (journal count : Option Text) → InOrder agent devices → Keeps None (before agent devices is_set journal count) h
      → Moves (before agent devices is_set journal count) h flag (with_inline (before agent devices is_set journal count))
  unfolding clap_on_literals
  flag_moves true journal count order keeps = tt
  flag_moves false journal count order keeps =
      let new = used_once inline_rule FromWords (codes "true" ∷ []) held_rows keeps.0.inline_is in
      record {
        held = record h { rows = used inline_rule [] held_rows; pending = None };
        goes = refl;
        passes = ap₂ (λ (a b : Bool). (a && ((not b || false) && true)) && true) keeps.1 (absent (codes "inline") held_rows keeps.0.inline_is);
        keeps = (
          record {
            agent_is = ap (row_by (codes "agent")) new ∙ beside (codes "agent") _ held_rows refl ∙ keeps.0.agent_is;
            devices_is = ap (row_by (codes "devices")) new ∙ beside (codes "devices") _ held_rows refl ∙ keeps.0.devices_is;
            inline_is = ap (row_by (codes "inline")) new ∙ newest (codes "inline") _ held_rows keeps.0.inline_is refl;
            from_is = ap (row_by (codes "from")) new ∙ beside (codes "from") _ held_rows refl ∙ keeps.0.from_is;
            workers_is = ap (row_by (codes "workers")) new ∙ beside (codes "workers") _ held_rows refl ∙ keeps.0.workers_is;
          },
          refl,
        );
        in_order = order;
      }

  opener_moves : (is_set : Bool) (journal count : Option Text) → InOrder agent devices → Keeps None (before agent devices is_set journal count) h
      → Moves (before agent devices is_set journal count) h opener (with_from (before agent devices is_set journal count))
  unfolding clap_on_literals
  opener_moves is_set (Some journal) count order keeps = tt
  opener_moves is_set None count order keeps = record {
    held = record h { rows = held_rows; pending = Some (codes "from", []) };
    goes = refl;
    passes = ap (λ (b : Bool). b && true) keeps.1;
    keeps = (refl, keeps.0);
    in_order = order;
  }

  counter_moves : (is_set : Bool) (journal count : Option Text) → InOrder agent devices → Keeps None (before agent devices is_set journal count) h
      → Moves (before agent devices is_set journal count) h counter (with_workers (before agent devices is_set journal count))
  unfolding clap_on_literals
  counter_moves is_set journal (Some count) order keeps = tt
  counter_moves is_set journal None order keeps = record {
    held = record h { rows = held_rows; pending = Some (codes "workers", []) };
    goes = refl;
    passes = ap (λ (b : Bool). b && true) keeps.1;
    keeps = (refl, keeps.0);
    in_order = order;
  }

-- ---- the options' values

abbrev awaiting : Awaited → Option Text → Option Text → Bool → Option Text → Option Text → Said
awaiting awaited agent devices is_set journal count =
    record { agent = agent; devices = devices; is_inline = is_set; from = journal; workers = count; awaits = Some awaited }

module _ (agent devices : Option Text) (is_set : Bool) (journal count : Option Text) (x : ℕ) (xs : Text) (e : (x == 45) ≡ false) where
  abbrev name : Text
  name = x ∷ xs

  -- the walk behind the word, where an option waits for it
  abbrev taken : Text → Held → Walk
  taken id k = after_step rules name (waiting_for id k (place agent devices))
      (plain_word rules (option id) name k).0 (plain_word rules (option id) name k).1

  journal_moves : (h : Held) → h.pending ≡ Some (codes "from", []) → InOrder agent devices → Looks agent devices is_set None count h.rows
      → Moved (awaiting Journal agent devices is_set journal count) h name (before agent devices is_set (Some name) count)
  unfolding clap_on_literals
  journal_moves h waits order looks =
      let new = used_once from_rule FromWords (name ∷ []) h.rows looks.from_is in
      record {
        held = record h { pending = Some (codes "from", name ∷ []) };
        goes = stepped_waiting shape x xs e (codes "from") h (place agent devices)
            ∙ ap (λ (p : Option (Text × List Text)). taken (codes "from") (record h { pending = p })) waits;
        passes = turned_waiting shape x xs e (codes "from") h (place agent devices);
        keeps = (
          record {
            agent_is = ap (row_by (codes "agent")) new ∙ beside (codes "agent") _ h.rows refl ∙ looks.agent_is;
            devices_is = ap (row_by (codes "devices")) new ∙ beside (codes "devices") _ h.rows refl ∙ looks.devices_is;
            inline_is = ap (row_by (codes "inline")) new ∙ beside (codes "inline") _ h.rows refl ∙ looks.inline_is;
            from_is = ap (row_by (codes "from")) new ∙ newest (codes "from") _ h.rows looks.from_is refl;
            workers_is = ap (row_by (codes "workers")) new ∙ beside (codes "workers") _ h.rows refl ∙ looks.workers_is;
          },
          ap (λ (b : Bool). (not b || false) && true) (absent (codes "from") h.rows looks.from_is),
        );
        in_order = order;
      }

  count_moves : (h : Held) → h.pending ≡ Some (codes "workers", []) → InOrder agent devices → Looks agent devices is_set journal None h.rows
      → Moved (awaiting Count agent devices is_set journal count) h name (before agent devices is_set journal (Some name))
  unfolding clap_on_literals
  count_moves h waits order looks =
      let new = used_once workers_rule FromWords (name ∷ []) h.rows looks.workers_is in
      record {
        held = record h { pending = Some (codes "workers", name ∷ []) };
        goes = stepped_waiting shape x xs e (codes "workers") h (place agent devices)
            ∙ ap (λ (p : Option (Text × List Text)). taken (codes "workers") (record h { pending = p })) waits;
        passes = turned_waiting shape x xs e (codes "workers") h (place agent devices);
        keeps = (
          record {
            agent_is = ap (row_by (codes "agent")) new ∙ beside (codes "agent") _ h.rows refl ∙ looks.agent_is;
            devices_is = ap (row_by (codes "devices")) new ∙ beside (codes "devices") _ h.rows refl ∙ looks.devices_is;
            inline_is = ap (row_by (codes "inline")) new ∙ beside (codes "inline") _ h.rows refl ∙ looks.inline_is;
            from_is = ap (row_by (codes "from")) new ∙ beside (codes "from") _ h.rows refl ∙ looks.from_is;
            workers_is = ap (row_by (codes "workers")) new ∙ newest (codes "workers") _ h.rows looks.workers_is refl;
          },
          ap (λ (b : Bool). (not b || false) && true) (absent (codes "workers") h.rows looks.workers_is),
        );
        in_order = order;
      }

  journal_said : said_more (awaiting Journal agent devices is_set journal count) name ≡ Some (before agent devices is_set (Some name) count)
  journal_said = rw e refl

  -- the number, where the word is one
  number_moves : (h : Held) → h.pending ≡ Some (codes "workers", []) → InOrder agent devices → Looks agent devices is_set journal None h.rows
      → (b : Bool) → Moves (awaiting Count agent devices is_set journal count) h name (if b then Some (before agent devices is_set journal (Some name)) else None)
  number_moves h waits order looks true = count_moves h waits order looks
  number_moves h waits order looks false = tt

-- ---- one word, and all

abbrev at : Option Text → Option Text → Bool → Option Text → Option Text → Option Awaited → Said
at agent devices is_set journal count awaits =
    record { agent = agent; devices = devices; is_inline = is_set; from = journal; workers = count; awaits = awaits }

none_said : (agent devices : Option Text) (is_set : Bool) (journal count : Option Text) (word : Text)
    → is_file_word word ≡ false → is_inline word ≡ false → is_from word ≡ false → is_workers word ≡ false
    → said_more (before agent devices is_set journal count) word ≡ None
none_said agent devices is_set journal count word no_file no_flag no_from no_workers = rw (no_file, no_flag, no_from, no_workers) refl

-- a word that no file may have tells nothing that is awaited
none_told : (awaited : Awaited) (agent devices : Option Text) (is_set : Bool) (journal count : Option Text) (word : Text)
    → is_file_word word ≡ false → said_more (awaiting awaited agent devices is_set journal count) word ≡ None
none_told Journal agent devices is_set journal count word no_file = rw no_file refl
none_told Count agent devices is_set journal count word no_file = rw (no_count word no_file) refl

none_moves : (awaited : Awaited) (a d : Option Text) (i : Bool) (j c : Option Text) (h : Held) (word : Text) → is_file_word word ≡ false
    → Moves (awaiting awaited a d i j c) h word (said_more (awaiting awaited a d i j c) word)
none_moves awaited a d i j c h word no_file =
    subst (Moves (awaiting awaited a d i j c) h word) (sym (none_told awaited a d i j c word no_file)) tt

told_at : (awaited : Awaited) (a d : Option Text) (i : Bool) (j c : Option Text) (h : Held) (word : Text) → Kind word → InOrder a d
    → Keeps (Some awaited) (awaiting awaited a d i j c) h
    → Moves (awaiting awaited a d i j c) h word (said_more (awaiting awaited a d i j c) word)
told_at Journal a d i j c h word (file x xs e) order keeps =
    subst (Moves (awaiting Journal a d i j c) h (x ∷ xs)) (sym (journal_said a d i j c x xs e)) (journal_moves a d i j c x xs e h keeps.0 order keeps.1)
told_at Count a d i j c h word (file x xs e) order keeps =
    number_moves a d i j c x xs e h keeps.0 order keeps.1 (is_count (x ∷ xs))
told_at awaited a d i j c h word switch order keeps = none_moves awaited a d i j c h flag refl
told_at awaited a d i j c h word opens order keeps = none_moves awaited a d i j c h opener refl
told_at awaited a d i j c h word counts order keeps = none_moves awaited a d i j c h counter refl
told_at awaited a d i j c h word (other no_file no_flag no_from no_workers) order keeps = none_moves awaited a d i j c h word no_file

step_at : (a d : Option Text) (i : Bool) (j c : Option Text) (awaits : Option Awaited) (h : Held) (word : Text) → Kind word → InOrder a d
    → Keeps awaits (at a d i j c awaits) h → Moves (at a d i j c awaits) h word (said_more (at a d i j c awaits) word)
step_at a d i j c None h word (file x xs e) order keeps =
    subst (Moves (before a d i j c) h (x ∷ xs)) (sym (file_said i j c h x xs e a d)) (file_moves i j c h x xs e a d order keeps)
step_at a d i j c None h word switch order keeps = flag_moves a d h i j c order keeps
step_at a d i j c None h word opens order keeps = opener_moves a d h i j c order keeps
step_at a d i j c None h word counts order keeps = counter_moves a d h i j c order keeps
step_at a d i j c None h word (other no_file no_flag no_from no_workers) order keeps =
    subst (Moves (before a d i j c) h word) (sym (none_said a d i j c word no_file no_flag no_from no_workers)) tt
step_at a d i j c (Some awaited) h word kind order keeps = told_at awaited a d i j c h word kind order keeps

step : (said : Said) (h : Held) (word : Text) → InOrder said.agent said.devices → Keeps said.awaits said h
    → Moves said h word (said_more said word)
step said h word order keeps =
    step_at said.agent said.devices said.is_inline said.from said.workers said.awaits h word (kind word) order keeps

-- The words are taken, and what they say is held behind them.
pub record Ended (said : Said) (h : Held) (words : List Text) (end : Said) : Type 0 where
  pub takes : takes_over shape (standing said h) words ≡ true
  pub looks : Looks end.agent end.devices end.is_inline end.from end.workers (settled rules (walk_over shape (standing said h) words).held).rows

ended_here : (said : Said) (h : Held) → Keeps None said h → Ended said h [] said
unfolding clap_on_literals
ended_here said h keeps = record { takes = ap (λ (b : Bool). b && true) keeps.1; looks = keeps.0 }

one_more : (said : Said) (h : Held) (word : Text) (words : List Text) (next end : Said) (m : Moved said h word next)
    → Ended next m.held words end → Ended said h (word ∷ words) end
unfolding walk_passes
one_more said h word words next end m more = record {
  takes = ap₂ (λ (t : Bool) (w : Walk). (t && walk_passes shape [] w words) && ends shape (walk_over shape w words)) m.passes m.goes
      ∙ more.takes;
  looks = subst (λ (w : Walk). Looks end.agent end.devices end.is_inline end.from end.workers (settled rules (walk_over shape w words).held).rows)
      (sym m.goes) more.looks;
}

pub goes : (words : List Text) (said : Said) (h : Held) → InOrder said.agent said.devices → Keeps said.awaits said h
    → (end : Said) → said_by words said ≡ Some end → end.awaits ≡ None → Ended said h words end
goes [] said h order keeps end is closed =
    let same : said ≡ end = cc in
    subst (λ (s : Said). s.awaits ≡ None → Ended said h [] s) same
    (λ shut. ended_here said h (subst (λ (w : Option Awaited). Keeps w said h) shut keeps)) closed
goes (word ∷ words) said h order keeps end is closed =
    go (said_more said word) (step said h word order keeps) is (λ next g in_order kept e. goes words next g in_order kept end e closed)
  where
    go : (more : Option Said) → Moves said h word more → option_and_then (said_by words) more ≡ Some end
        → ((next : Said) (g : Held) → InOrder next.agent next.devices → Keeps next.awaits next g → said_by words next ≡ Some end → Ended next g words end)
        → Ended said h (word ∷ words) end
    go None m is rest = absurd (cc)
    go (Some next) m is rest = one_more said h word words next end m (rest next m.held m.in_order m.keeps is)
