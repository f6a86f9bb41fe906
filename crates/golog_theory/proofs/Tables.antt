-- The rows of each part of a form stand in order, within the places of the form.
use Rattle.std.proofs.Common.{◌≡◌, ℕ, ◌+◌, ◌*◌, ◌<◌, ◌≤◌, true, false, List, [], ◌∷◌, drop, length, Option, Some, None, refl, arith}
use Rattle.std.specs.Prelude.{if◌then◌else◌, ◌&&◌, nat_lt}
use Rattle.std.proofs.lemmas.Bool.{ltb-true}
use Rattle.golog_base.specs.Names.{is_name}
use Rattle.golog_form.specs.declared.form.Form.{Form}
use Rattle.golog_form.specs.Shape.{place_of}
use Rattle.golog_form.specs.Places.{IsInOrder}
use Rattle.golog_tree.specs.declared.draft.DraftTheory.{DraftTheory}
use Rattle.golog_tree.specs.declared.draft_cond.DraftArg.TheVariants.{Word, Number}
use Rattle.golog_theory.specs.declared.heads.Callee.{Callee}
use Rattle.golog_theory.specs.declared.names.Actions.{Actions}
use Rattle.golog_theory.specs.Reading.{Row, Reading, gives, refused, row, ◌>>=◌, found, each}
use Rattle.golog_theory.specs.Names.{sort_no}
use Rattle.golog_base.specs.Numbers.{value}
use Rattle.golog_theory.specs.Parts.{word, parts, short_name, new_name, sort_of, number_of, arg_of}
use Rattle.golog_theory.specs.Heads.{first_word, first_place, head_word, arguments, args_of, fluent_named, action_named, allowed_action, declared_with, called, fluent_called, action_called, var_of, schema_of}
use Rattle.golog_semantics.proofs.Words.{and-left, and-right}
use Rattle.golog_rows.proofs.Chain.{key, Chain, chain-low, Spans, then-spans, gives-spans, found-chain, Parts, ReadsFrom, each-spans, if-chain}
use Rattle.golog_theory.proofs.Inside.{end_of, Between, stands}

-- a part of a form, and the places of the form
abbrev pub Covers : {A : Type 0} → Form → Reading A → Type 0
Covers f reading = Spans (place_of f) (end_of f) reading

pub parts-of : {A : Type 0} (read : List A → Form → Reading A) → ((before : List A) (f : Form) → IsInOrder f → Covers f (read before f))
    → (from : ℕ) (fs : List Form) (to : ℕ) → Between from fs to → Parts (ReadsFrom read) from fs to
parts-of read covers from [] to b = b
parts-of read covers from (f ∷ fs) to b =
    let size = (stands f b.1).size in
    (place_of f, end_of f, b.0, omega (arith, size), (λ before. covers before f b.1), parts-of read covers (end_of f) fs to b.2)

pub each-covers : {A : Type 0} (read : List A → Form → Reading A) → ((before : List A) (f : Form) → IsInOrder f → Covers f (read before f))
    → (before : List A) (from : ℕ) (fs : List Form) (to : ℕ) → Between from fs to → Spans from to (each read before fs)
each-covers read covers before from fs to b = each-spans read before fs from to (parts-of read covers from fs to b)

pub between-le : (from : ℕ) (fs : List Form) (to : ℕ) → Between from fs to → from ≤ to
between-le from [] to b = b
between-le from (f ∷ fs) to b = omega (arith, b.0, (stands f b.1).size, between-le (end_of f) fs to b.2)

pub short_name-behind : (f : Form) → place_of f < end_of f → Chain (key (place_of f) 25) (64 * end_of f) (short_name f).rows
unfolding short_name
short_name-behind f size = (omega arith, omega arith, omega arith, omega arith)

-- a row, and those behind it
pub row-chain : (low later high code at : ℕ) (rows : List Row) → (nat_lt 0 code && nat_lt code 64) ≡ true → low ≤ key at code → key at code ≤ later
    → Chain later high rows → Chain low high ((false, code, at) ∷ rows)
row-chain low later high code at rows small le le' c = (
  le,
  ltb-true 0 code (and-left (nat_lt 0 code) (nat_lt code 64) small),
  ltb-true code 64 (and-right (nat_lt 0 code) (nat_lt code 64) small),
  chain-low (key at code) later high rows le' c,
)

-- two rows at one place, and those behind them
pub two-rows : (low later high code other at : ℕ) (rows : List Row) → (nat_lt 0 code && nat_lt code other && nat_lt other 64) ≡ true → low ≤ key at code → key at other ≤ later
    → Chain later high rows → Chain low high ((false, code, at) ∷ (false, other, at) ∷ rows)
two-rows low later high code other at rows small le le' c =
    let front = and-left (nat_lt 0 code && nat_lt code other) (nat_lt other 64) small in
    let some : 0 < code = ltb-true 0 code (and-left (nat_lt 0 code) (nat_lt code other) front) in
    let more : code < other = ltb-true code other (and-right (nat_lt 0 code) (nat_lt code other) front) in
    let few : other < 64 = ltb-true other 64 (and-right (nat_lt 0 code && nat_lt code other) (nat_lt other 64) small) in
    (le, some, omega (arith, more, few), (omega (arith, more), omega (arith, some, more), few, chain-low (key at other) later high rows le' c))

-- what is not one of a kind, 20, or not found
pub found-covers : {A : Type 0} (code : ℕ) (f : Form) (o : Option A) → (nat_lt 20 code && nat_lt code 64) ≡ true → IsInOrder f
    → Covers f (row false 20 (place_of f) (found code (place_of f) o))
found-covers code f o small order =
    let size = (stands f order).size in
    let more : 20 < code = ltb-true 20 code (and-left (nat_lt 20 code) (nat_lt code 64) small) in
    let few : code < 64 = ltb-true code 64 (and-right (nat_lt 20 code) (nat_lt code 64) small) in
    let at = place_of f in
    row-chain (64 * at) (key at 20) (64 * end_of f) 20 at (found code at o).rows refl (omega arith) (omega arith)
    (found-chain (key at 20) (64 * end_of f) code at o (omega (arith, more)) (omega (arith, more)) few (omega (arith, few, size)))

-- a name that is none, 20, or that may not stand there, 21, and its length: whether these rows fit or not
pub named-covers : (f : Form) → IsInOrder f → Covers f (row false 20 (place_of f) (row false 21 (place_of f) (short_name f)))
named-covers f order =
    let size = (stands f order).size in
    let at = place_of f in
    two-rows (64 * at) (key at 25) (64 * end_of f) 20 21 at (short_name f).rows refl (omega arith) (omega arith) (short_name-behind f size)

pub new_name-covers : (theory : DraftTheory) (f : Form) → IsInOrder f → Covers f (new_name theory f)
unfolding new_name
new_name-covers theory f order = named-covers f order

pub sort_of-covers : (theory : DraftTheory) (f : Form) → IsInOrder f → Covers f (sort_of theory f)
unfolding sort_of
sort_of-covers theory f order = found-covers 22 f (sort_no theory (word f)) refl order

pub number_of-covers : (f : Form) → IsInOrder f → Covers f (number_of f)
unfolding number_of
number_of-covers f order = found-covers 26 f (value (word f)) refl order

pub short_name-covers : (f : Form) → IsInOrder f → Covers f (short_name f)
short_name-covers f order =
    let size = (stands f order).size in
    chain-low (64 * place_of f) (key (place_of f) 25) (64 * end_of f) (short_name f).rows (omega arith) (short_name-behind f size)

pub arg_of-covers : (f : Form) → IsInOrder f → Covers f (arg_of f)
unfolding arg_of
arg_of-covers f order =
    if-chain (64 * place_of f) (64 * end_of f) (is_name (word f)) (short_name f >>= (λ word. gives (Word word (place_of f)))) (number_of f >>= (λ number. gives (Number number (place_of f))))
    (gives-spans (place_of f) (end_of f) (short_name f) (λ word. Word word (place_of f)) (short_name-covers f order))
    (gives-spans (place_of f) (end_of f) (number_of f) (λ number. Number number (place_of f)) (number_of-covers f order))

pub args_of-spans : (from : ℕ) (fs : List Form) (to : ℕ) → Between from fs to → Spans from to (args_of fs)
unfolding args_of
args_of-spans from fs to b = each-covers (λ _. arg_of) (λ _. arg_of-covers) [] from fs to b

-- the place behind the name that a list begins with
abbrev after_first : ℕ → List Form → ℕ
after_first at [] = at + 1
after_first at (first ∷ others) = end_of first

abbrev pub after_head : Form → ℕ
after_head f = after_first (place_of f) (parts f)

drop_first : (at : ℕ) (fs : List Form) (to : ℕ) → Between (at + 1) fs to → Between (after_first at fs) (drop 1 fs) to
drop_first at [] to b = b
drop_first at (f ∷ fs) to b = b.2

pub arguments-behind : (f : Form) → IsInOrder f → Between (after_head f) (arguments f) (end_of f)
arguments-behind f order = drop_first (place_of f) (parts f) (end_of f) (stands f order).inner

-- what is named, where it has so many arguments
pub declared_with-spans : (at : ℕ) (name : Form) (count : ℕ) (callee : Option Callee) → IsInOrder name → at < place_of name
    → Spans at (end_of name) (declared_with at (place_of name) count callee)
unfolding declared_with
declared_with-spans at name count None order lt =
    let size = (stands name order).size in (omega arith, omega arith, omega arith, omega arith)
declared_with-spans at name count (Some callee) order lt =
    let size = (stands name order).size in (omega arith, omega arith, omega arith, omega arith)

called-first : (at : ℕ) (fs : List Form) (to count : ℕ) (callee : Option Callee) → Between (at + 1) fs to
    → Spans at (after_first at fs) (if is_name (first_word fs) then declared_with at (first_place at fs) count callee else refused 20 at)
called-first at [] to count callee b = (omega arith, omega arith, omega arith, omega arith)
called-first at (f ∷ fs) to count callee b =
    let size = (stands f b.1).size in
    if-chain (64 * at) (64 * end_of f) (is_name (word f)) (declared_with at (place_of f) count callee) (refused 20 at)
    (declared_with-spans at f count callee b.1 (omega (arith, b.0))) (omega arith, omega arith, omega arith, omega (arith, b.0))

pub called-spans : (f : Form) (callee : Option Callee) → IsInOrder f → Spans (place_of f) (after_head f) (called f callee)
unfolding called
called-spans f callee order =
    called-first (place_of f) (parts f) (end_of f) (length (arguments f)) callee (stands f order).inner

-- what is called, and then its arguments
pub called-covers : {A B : Type 0} (f : Form) (callee : Option Callee) (args : List Form → Reading A) (made : ℕ → A → B) → IsInOrder f
    → ((from : ℕ) (fs : List Form) (to : ℕ) → Between from fs to → Spans from to (args fs))
    → Covers f (called f callee >>= λ item. args (arguments f) >>= λ args. gives (made item args))
called-covers f callee args made order spans =
    let behind = arguments-behind f order in
    then-spans (place_of f) (after_head f) (end_of f) (called f callee) (λ item. args (arguments f) >>= λ args. gives (made item args))
    (between-le (after_head f) (arguments f) (end_of f) behind) (called-spans f callee order)
    (λ item. gives-spans (after_head f) (end_of f) (args (arguments f)) (made item) (spans (after_head f) (arguments f) (end_of f) behind))

pub fluent_called-covers : (theory : DraftTheory) (f : Form) → IsInOrder f → Covers f (fluent_called theory f)
unfolding fluent_called
fluent_called-covers theory f order =
    called-covers f (fluent_named theory (head_word f)) args_of (λ item args. record { item = item; args = args }) order args_of-spans

pub action_called-covers : (theory : DraftTheory) (f : Form) → IsInOrder f → Covers f (action_called theory f)
unfolding action_called
action_called-covers theory f order =
    called-covers f (action_named theory (head_word f)) args_of (λ item args. record { item = item; args = args }) order args_of-spans

var_of-covers : (theory : DraftTheory) (before : List (List ℕ)) (f : Form) → IsInOrder f → Covers f (var_of theory before f)
unfolding var_of
var_of-covers theory before f order = named-covers f order

pub schema_of-covers : (theory : DraftTheory) (actions : Actions) (f : Form) → IsInOrder f → Covers f (schema_of theory actions f)
unfolding schema_of
schema_of-covers theory actions f order =
    called-covers f (allowed_action theory actions (head_word f)) (each (var_of theory) [])
    (λ action vars. record { action = action; vars = vars }) order (each-covers (var_of theory) (var_of-covers theory) [])

pub ruleset laws = (fluent_called-covers, schema_of-covers)
