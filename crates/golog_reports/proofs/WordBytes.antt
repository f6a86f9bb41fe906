-- The bytes of names, numbers, constants, actions and runs.
use Rattle.std.proofs.Common.{◌≡◌, ℕ, Bool, true, false, not, ◌||◌, ◌==◌, if◌then◌else◌, Option, Some, None, List, [], ◌∷◌, refl, sym, ap, ◌∙◌}
use Rattle.std.specs.Prelude.{codes, nat_eq, bytes_eq}
use Rattle.std.specs.Cmp.Lexicographic.{same_text}
use Rattle.std.specs.List.{AllByRecursion, list_all}
use Rattle.std.specs.Option.{option_map_or}
use Rattle.std.proofs.lemmas.Bool.{eqb-true, or_left, or_right}
use Rattle.std.proofs.lemmas.List.Folds.{list_all-append}
use Rattle.std.proofs.lemmas.List.Splits.{join_with_byte-slice_split}
use Rattle.golog_base.specs.Names.{is_digit, begins_name, continues_name, is_name}
use Rattle.golog_base.specs.Numbers.{are_digits, is_zero, is_positive, without_sign, is_number}
use Rattle.golog_semantics.specs.declared.journal.Reason.{Reason}
use Rattle.golog_semantics.specs.declared.journal.Reason.TheVariants.{Ended, Bad, Full, Late, Stopped, Refused}
use Rattle.golog_semantics.specs.Text.{Text, reason_text}
use Rattle.golog_semantics.specs.Ways.{is_empty}
use Rattle.golog_semantics.proofs.Words.{IsWord, name-word, and-both, and-left, and-right}
use Rattle.golog_reports.specs.Forms.{cut, parts, is_natural, is_constant, is_action, is_closed, is_label, is_step, is_run}
use Rattle.golog_reports.proofs.Marks.{Lacks, lacks, marked, cut-whole, all-joined}
use Rattle.golog_reports.proofs.Decimals.{natural-digits}

digits-word : (digits : Text) → list_all is_digit digits ≡ true → IsWord digits
digits-word [] h = refl
digits-word (b ∷ bs) h =
    and-both (continues_name b) (list_all continues_name bs)
    (or_left (begins_name b || is_digit b) (b == 45) (or_right (begins_name b) (is_digit b) (and-left (is_digit b) (list_all is_digit bs) h)))
    (digits-word bs (and-right (is_digit b) (list_all is_digit bs) h))

pub natural-word : (digits : Text) → is_natural digits ≡ true → IsWord digits
natural-word digits h = digits-word digits (natural-digits digits h)

positive-word : (digits : Text) → is_positive digits ≡ true → IsWord digits
positive-word [] h = refl
positive-word (b ∷ bs) h = digits-word (b ∷ bs) (and-left (are_digits (b ∷ bs)) (not (nat_eq b 48)) h)

behind-sign : (text : Text) → IsWord (without_sign text) → IsWord text
behind-sign [] h = h
behind-sign (b ∷ bs) h = go (nat_eq b 45) refl h
  where
    go : (s : Bool) → nat_eq b 45 ≡ s → IsWord (if s then bs else b ∷ bs) → IsWord (b ∷ bs)
    go false e h = h
    go true e h = and-both (continues_name b) (list_all continues_name bs) (or_right (begins_name b || is_digit b) (b == 45) e) h

number-word : (text : Text) → is_number text ≡ true → IsWord text
number-word text h = go (is_zero text) refl h
  where
    go : (z : Bool) → is_zero text ≡ z → (if z then true else is_positive (without_sign text)) ≡ true → IsWord text
    go true e h = natural-word text (or_left (is_zero text) _ e)
    go false e h = behind-sign text (positive-word (without_sign text) h)

pub constant-word : (text : Text) → is_constant text ≡ true → IsWord text
constant-word text h = go (is_name text) refl h
  where
    go : (n : Bool) → is_name text ≡ n → (n || is_number text) ≡ true → IsWord text
    go true e h = name-word text e
    go false e h = number-word text h

-- a byte of an action
abbrev acts : ℕ → Bool
acts byte = continues_name byte || (byte == 40 || byte == 41 || byte == 44)

word-acts : (text : Text) → IsWord text → list_all acts text ≡ true
word-acts [] h = refl
word-acts (b ∷ bs) h =
    and-both (acts b) (list_all acts bs) (or_left (continues_name b) (b == 40 || b == 41 || b == 44) (and-left (continues_name b) (list_all continues_name bs) h))
    (word-acts bs (and-right (continues_name b) (list_all continues_name bs) h))

constants-act : (texts : List Text) → list_all is_constant texts ≡ true → AllByRecursion (λ text. list_all acts text ≡ true) texts
constants-act [] h = tt
constants-act (t ∷ ts) h =
    (word-acts t (constant-word t (and-left (is_constant t) (list_all is_constant ts) h)), constants-act ts (and-right (is_constant t) (list_all is_constant ts) h))

-- what is behind the first mark, if anything, passes too
all-cut : (p : ℕ → Bool) (mark : ℕ) (text : Text) → list_all p (cut mark text).0 ≡ true → list_all p (marked mark (cut mark text).1) ≡ true → list_all p text ≡ true
all-cut p mark text h k =
    sym (ap (list_all p) (cut-whole mark text)) ∙ list_all-append p (cut mark text).0 (marked mark (cut mark text).1)
    ∙ and-both (list_all p (cut mark text).0) (list_all p (marked mark (cut mark text).1)) h k

closed-acts : (text : Text) → is_closed text ≡ true → list_all acts text ≡ true
unfolding is_closed
closed-acts text h =
    let inside = (cut 41 text).0 in
    let end = and-left (option_map_or is_empty (cut 41 text).1 false) (list_all is_constant (parts 44 inside)) h in
    let constants = and-right (option_map_or is_empty (cut 41 text).1 false) (list_all is_constant (parts 44 inside)) h in
    all-cut acts 41 text
    (sym (ap (list_all acts) (join_with_byte-slice_split 44 inside)) ∙ all-joined acts 44 refl (parts 44 inside) (constants-act (parts 44 inside) constants))
    (go (cut 41 text).1 end)
  where
    go : (o : Option Text) → option_map_or is_empty o false ≡ true → list_all acts (marked 41 o) ≡ true
    go None e = refl
    go (Some []) e = refl
    go (Some (b ∷ bs)) e = absurd (cc)

pub action-acts : (text : Text) → is_action text ≡ true → list_all acts text ≡ true
unfolding is_action
action-acts text h =
    let name = and-left (is_name (cut 40 text).0) (option_map_or is_closed (cut 40 text).1 true) h in
    all-cut acts 40 text (word-acts (cut 40 text).0 (name-word (cut 40 text).0 name))
    (go (cut 40 text).1 (and-right (is_name (cut 40 text).0) (option_map_or is_closed (cut 40 text).1 true) h))
  where
    go : (o : Option Text) → option_map_or is_closed o true ≡ true → list_all acts (marked 40 o) ≡ true
    go None e = refl
    go (Some rest) e = closed-acts rest e

-- which marks they lack
module _ (mark : ℕ) (none : continues_name mark ≡ false) where
  pub name-lacks : (text : Text) → is_name text ≡ true → Lacks mark text
  name-lacks text h = lacks continues_name mark none text (name-word text h)

  pub natural-lacks : (text : Text) → is_natural text ≡ true → Lacks mark text
  natural-lacks text h = lacks continues_name mark none text (natural-word text h)

  pub constant-lacks : (text : Text) → is_constant text ≡ true → Lacks mark text
  constant-lacks text h = lacks continues_name mark none text (constant-word text h)

pub action-lacks : (mark : ℕ) → acts mark ≡ false → (text : Text) → is_action text ≡ true → Lacks mark text
action-lacks mark none text h = lacks acts mark none text (action-acts text h)

-- a byte of a run
abbrev runs : ℕ → Bool
runs byte = acts byte || (byte == 32 || byte == 59)

act-runs : (text : Text) → list_all acts text ≡ true → list_all runs text ≡ true
act-runs [] h = refl
act-runs (b ∷ bs) h =
    and-both (runs b) (list_all runs bs) (or_left (acts b) (b == 32 || b == 59) (and-left (acts b) (list_all acts bs) h))
    (act-runs bs (and-right (acts b) (list_all acts bs) h))

label-runs : (text : Text) → is_label text ≡ true → list_all runs text ≡ true
label-runs text h = go (bytes_eq text (codes "-")) refl h
  where
    go : (b : Bool) → bytes_eq text (codes "-") ≡ b → (b || is_action text) ≡ true → list_all runs text ≡ true
    go true e h = ap (list_all runs) (same_text text (codes "-") (sym e))
    go false e h = act-runs text (action-acts text h)

step-runs : (text : Text) → is_step text ≡ true → list_all runs text ≡ true
step-runs [] h = refl
step-runs (b ∷ bs) h =
    and-both (runs b) (list_all runs bs) (ap runs (eqb-true b 32 (and-left (b == 32) (is_label bs) h)))
    (label-runs bs (and-right (b == 32) (is_label bs) h))

steps-run : (texts : List Text) → list_all is_step texts ≡ true → AllByRecursion (λ text. list_all runs text ≡ true) texts
steps-run [] h = tt
steps-run (t ∷ ts) h = (step-runs t (and-left (is_step t) (list_all is_step ts) h), steps-run ts (and-right (is_step t) (list_all is_step ts) h))

pub run-lacks : (mark : ℕ) → runs mark ≡ false → (text : Text) → is_run text ≡ true → Lacks mark text
unfolding is_run
run-lacks mark none text h =
    lacks runs mark none text
    (sym (ap (list_all runs) (join_with_byte-slice_split 59 text)) ∙ all-joined runs 59 refl (parts 59 text) (steps-run (parts 59 text) h))

-- a reason's word has no line feed and no space
pub reason-lacks : (reason : Reason) → Lacks 10 (reason_text reason) × Lacks 32 (reason_text reason)
reason-lacks Ended = (refl, refl)
reason-lacks _ = (refl, refl)
