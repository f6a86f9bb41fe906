-- How `clap` goes over a word that begins with no `-`.
use Rattle.std.proofs.Common.{◌≡◌, ◌∙◌, ap, ap₂, refl, ℕ, Bool, true, false, List, [], ◌∷◌, None, bytes_eq}
use Rattle.std.specs.Prelude.{◌==◌, ◌&&◌, ◌||◌, if◌then◌else◌, fold}
use Rattle.std.specs.List.{list_all}
use Rattle.std.specs.Option.{option_map_or}
use Rattle.clap.specs.Lexer.{long_of, short_of}
use Rattle.clap.specs.Simple.{Shape}
use Rattle.clap.specs.Takes.{bundle_passes, default_passes, flag_word_passes, is_valid, settle_passes, step_passes, turn_passes, walk_passes}
use Rattle.clap.specs.Walk.{Held, Row, Rule, Step, Text, Walk, after_step, arg_by_index, finished, idle, long_or_other, nothing_held, option, plain_word, short_or_plain, to_positional, trailing, value, walk_from, walked, word_met}

-- between two words, where no option waits for its value
abbrev pub between : Held → ℕ → Walk
between h position = record { held = h; waiting = idle; position = position; is_trailing = false; stopped = None }

-- between two words, where this option waits for its value
abbrev pub waiting_for : Text → Held → ℕ → Walk
waiting_for id h position =
    record { held = h; waiting = option id; position = position; is_trailing = false; stopped = None }

abbrev pub start : Walk
start = walk_from nothing_held

module _ (shape : Shape) where
  abbrev rules : List Rule
  rules = shape.rules

  abbrev pub walk_over : Walk → List Text → Walk
  walk_over w words = fold (walked rules []) w words

  -- the rows after these words
  abbrev pub rows_over : Walk → List Text → List Row
  rows_over w words = finished rules (walk_over w words).held

  -- the words at the end of a walk are taken
  abbrev pub ends : Walk → Bool
  ends w = settle_passes rules shape.args_override_self w.held
      && (list_all default_passes rules && is_valid shape (finished rules w.held) false)

  -- these words are taken
  abbrev pub takes_over : Walk → List Text → Bool
  takes_over w words = walk_passes shape [] w words && ends (walk_over w words)

  module _ (x : ℕ) (xs : Text) (e : (x == 45) ≡ false) where
    abbrev file : Text
    file = x ∷ xs

    -- the walk after the word
    abbrev pub next_of : Held → ℕ → Walk
    next_of h position = to_positional rules (arg_by_index rules position) file (between h position) h

    dashes : bytes_eq file (45 ∷ 45 ∷ []) ≡ false
    dashes = rw e refl

    no_long : long_of file ≡ None
    no_long = rw e refl

    no_short : short_of file ≡ None
    no_short = rw e refl

    met : (h : Held) (position : ℕ) → word_met rules [] false idle position file h ≡ (h, value)
    met h position =
        ap (λ (b : Bool). if b then (h, trailing position) else long_or_other rules idle file (long_of file) h) dashes
        ∙ ap (λ l. long_or_other rules idle file l h) no_long
        ∙ ap (λ s. short_or_plain rules idle file s h) no_short

    pub stepped : (h : Held) (position : ℕ) → walked rules [] (between h position) file ≡ next_of h position
    unfolding walked
    stepped h position = ap (λ (m : Held × Step). after_step rules file (between h position) m.0 m.1) (met h position)

    pub turned : (h : Held) (position : ℕ)
        → turn_passes shape [] (between h position) file ≡ step_passes shape position h value
    turned h position =
        ap₂ (λ (b : Bool) (m : Held × Step).
        (b || flag_word_passes rules shape.args_override_self (long_of file) file h)
        && step_passes shape position m.0 m.1) dashes (met h position)
        ∙ ap (λ l. flag_word_passes rules shape.args_override_self l file h
        && step_passes shape position h value) no_long
        ∙ ap (λ s. option_map_or (λ flags. bundle_passes rules shape.args_override_self flags h) s true
        && step_passes shape position h value) no_short

    pub rows_on : (h : Held) (position : ℕ) (rest : List Text)
        → rows_over (between h position) (file ∷ rest) ≡ rows_over (next_of h position) rest
    rows_on h position rest = ap (λ (w : Walk). rows_over w rest) (stepped h position)

    -- The word is taken where a positional is left.
    pub takes_on : (h : Held) (position : ℕ) (rest : List Text) → step_passes shape position h value ≡ true
        → takes_over (between h position) (file ∷ rest) ≡ takes_over (next_of h position) rest
    unfolding walk_passes
    takes_on h position rest passes =
        ap₂ (λ (t : Bool) (w : Walk). (t && walk_passes shape [] w rest) && ends (walk_over w rest))
        (turned h position ∙ passes) (stepped h position)

    -- where an option waits for its value
    met_waiting : (id : Text) (h : Held) (position : ℕ)
        → word_met rules [] false (option id) position file h ≡ plain_word rules (option id) file h
    met_waiting id h position =
        ap (λ (b : Bool). if b then (h, trailing position) else long_or_other rules (option id) file (long_of file) h) dashes
        ∙ ap (λ l. long_or_other rules (option id) file l h) no_long
        ∙ ap (λ s. short_or_plain rules (option id) file s h) no_short

    pub stepped_waiting : (id : Text) (h : Held) (position : ℕ)
        → walked rules [] (waiting_for id h position) file
        ≡ after_step rules file (waiting_for id h position) (plain_word rules (option id) file h).0 (plain_word rules (option id) file h).1
    unfolding walked
    stepped_waiting id h position =
        ap (λ (m : Held × Step). after_step rules file (waiting_for id h position) m.0 m.1) (met_waiting id h position)

    pub turned_waiting : (id : Text) (h : Held) (position : ℕ)
        → turn_passes shape [] (waiting_for id h position) file
        ≡ step_passes shape position (plain_word rules (option id) file h).0 (plain_word rules (option id) file h).1
    turned_waiting id h position =
        ap₂ (λ (b : Bool) (m : Held × Step).
        (b || flag_word_passes rules shape.args_override_self (long_of file) file h)
        && step_passes shape position m.0 m.1) dashes (met_waiting id h position)
        ∙ ap (λ l. flag_word_passes rules shape.args_override_self l file h
        && step_passes shape position (plain_word rules (option id) file h).0 (plain_word rules (option id) file h).1) no_long
        ∙ ap (λ s. option_map_or (λ flags. bundle_passes rules shape.args_override_self flags h) s true
        && step_passes shape position (plain_word rules (option id) file h).0 (plain_word rules (option id) file h).1) no_short
