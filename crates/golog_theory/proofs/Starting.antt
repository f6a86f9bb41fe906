-- What the set of ground fluents with a start value tells.
use Rattle.std.proofs.Common.{◌≡◌, ℕ, ◌+◌, ◌<◌, Bool, true, false, List, [], ◌∷◌, ◌++◌, length, take, get_or, Option, refl, sym, ap, subst, ◌∙◌, cond}
use Rattle.std.specs.Prelude.{◌&&◌, ◌||◌, nat_eq}
use Rattle.std.specs.List.{list_any}
use Rattle.std.specs.BTreeSet as set
use Rattle.std.specs.BTreeSet.{BTreeSet, contains}
use Rattle.std.specs.Cmp.{unsigned_ties}
use Rattle.std.specs.Ordering.{nat_cmp, int_eq, is_eq, ordering_then}
use Rattle.std.specs.declared.cmp.Ordering.{Ordering}
use Rattle.std.specs.declared.cmp.Ordering.TheVariants.{Less, Equal, Greater}
use Rattle.std.specs.Cmp.Lexicographic.{pointwise, slice_cmp}
use Rattle.std.proofs.lemmas.List.{take_more}
use Rattle.std.proofs.lemmas.List.Folds.{list_any-append}
use Rattle.std.proofs.lemmas.Map.Text.{is_eq-slice_cmp}
use Rattle.golog_tree.specs.declared.draft.DraftTheory.{DraftTheory}
use Rattle.golog_tree.specs.declared.draft.DraftStart.{DraftStart}
use Rattle.golog_tree.specs.declared.draft.DraftStart.TheVariants.{Each, One}
use Rattle.golog_tree.specs.declared.draft_cond.DraftArg.{DraftArg}
use Rattle.golog_tree.specs.declared.draft_cond.DraftArg.TheVariants as arg
use Rattle.golog_theory.specs.declared.started.Constant.{Constant}
use Rattle.golog_theory.specs.declared.started.Constant.TheVariants.{Name, Number}
use Rattle.golog_theory.specs.declared.started.Ground.{Ground}
use Rattle.golog_theory.specs.contracts.started.ConstantOrd.TheImpl as constant_ord
use Rattle.golog_theory.specs.Names.{same}
use Rattle.golog_draft.specs.Drafts.{same_arg}
use Rattle.golog_theory.specs.Fluents.{starts, is_started}
use Rattle.golog_theory.specs.Started.{ground_cmp, IsWritten, AreWritten, IsGroundOf, is_constant_arg, are_constant_args, starts_at}

-- the order of constants
abbrev constant_cmp : Constant → Constant → Ordering
constant_cmp = (constant_ord.ghosts).cmp

both : (a b c d : Bool) → a ≡ b → c ≡ d → (a && c) ≡ (b && d)
both a b c d e f = ap (λ x. x && c) e ∙ ap (λ y. b && y) f

arg_told : (constant : Constant) (one other : DraftArg) → IsWritten constant other → is_constant_arg one constant ≡ same_arg one other
arg_told (Name name) (arg.Word word at) (arg.Word other at') is = rw is refl
arg_told (Number n) (arg.Number one at) (arg.Number other at') is = rw is refl
arg_told (Name name) (arg.Number one at) (arg.Word other at') is = refl
arg_told (Number n) (arg.Word word at) (arg.Number other at') is = refl
arg_told (Name name) one (arg.Number other at') is = absurd is
arg_told (Number n) one (arg.Word other at') is = absurd is

args_told : (constants : List Constant) (ones others : List DraftArg) → AreWritten constants others → are_constant_args ones constants ≡ pointwise same_arg ones others
args_told [] [] [] is = refl
args_told [] (one ∷ ones) [] is = refl
args_told (constant ∷ constants) [] (other ∷ others) is = refl
args_told (constant ∷ constants) (one ∷ ones) (other ∷ others) is =
    both (is_constant_arg one constant) (same_arg one other) (are_constant_args ones constants) (pointwise same_arg ones others)
    (arg_told constant one other is.0) (args_told constants ones others is.1)
args_told [] ones (other ∷ others) is = absurd is
args_told (constant ∷ constants) ones [] is = absurd is

start_told : (cell : Ground) (fluent : ℕ) (args : List DraftArg) → IsGroundOf cell fluent args → (start : DraftStart) → starts_at cell start ≡ starts fluent args start
start_told cell fluent args is (Each own value at) = refl
start_told cell fluent args is (One own constants value at) =
    both (nat_eq own cell.fluent) (nat_eq own fluent) (are_constant_args constants cell.args.items) (pointwise same_arg constants args)
    (ap (nat_eq own) is.fluent_is) (args_told cell.args.items constants args is.args_are)

pub starts_told : (cell : Ground) (fluent : ℕ) (args : List DraftArg) → IsGroundOf cell fluent args → (all : List DraftStart)
    → list_any (starts_at cell) all ≡ list_any (starts fluent args) all
starts_told cell fluent args is [] = refl
starts_told cell fluent args is (start ∷ all) =
    ap (λ b. b || list_any (starts_at cell) all) (start_told cell fluent args is start)
    ∙ ap (λ c. starts fluent args start || c) (starts_told cell fluent args is all)

pub is_started_told : (theory : DraftTheory) (cell : Ground) (fluent : ℕ) (args : List DraftArg) → IsGroundOf cell fluent args
    → list_any (starts_at cell) theory.starts ≡ is_started theory fluent args
unfolding is_started
is_started_told theory cell fluent args is = starts_told cell fluent args is theory.starts

then_is_eq : (one other : Ordering) → is_eq (ordering_then one other) ≡ (is_eq one && is_eq other)
then_is_eq Less other = refl
then_is_eq Equal other = refl
then_is_eq Greater other = refl

constant_told : (key constant : Constant) (written : DraftArg) → IsWritten key written → is_eq (constant_cmp key constant) ≡ is_constant_arg written constant
constant_told (Name one) (Name other) (arg.Word word at) is = is_eq-slice_cmp one.items other.items ∙ ap (λ w. same w other.items) is
constant_told (Number one) (Number other) (arg.Number number at) is = ap (λ n. int_eq n other) is
constant_told (Name one) (Number other) (arg.Word word at) is = refl
constant_told (Number one) (Name other) (arg.Number number at) is = refl
constant_told (Name one) constant (arg.Number number at) is = absurd is
constant_told (Number one) constant (arg.Word word at) is = absurd is

constants_told : (keys constants : List Constant) (args : List DraftArg) → AreWritten keys args → is_eq (slice_cmp constant_cmp keys constants) ≡ are_constant_args args constants
constants_told [] [] [] is = refl
constants_told [] (constant ∷ constants) [] is = refl
constants_told (key ∷ keys) [] (one ∷ args) is = refl
constants_told (key ∷ keys) (constant ∷ constants) (one ∷ args) is =
    then_is_eq (constant_cmp key constant) (slice_cmp constant_cmp keys constants)
    ∙ both (is_eq (constant_cmp key constant)) (is_constant_arg one constant) (is_eq (slice_cmp constant_cmp keys constants)) (are_constant_args args constants)
    (constant_told key constant one is.0) (constants_told keys constants args is.1)
constants_told [] constants (one ∷ args) is = absurd is
constants_told (key ∷ keys) constants [] is = absurd is

ground_told : (key cell : Ground) (fluent : ℕ) (args : List DraftArg) (value : Option DraftArg) (at : ℕ) → IsGroundOf key fluent args
    → is_eq (ground_cmp key cell) ≡ starts_at cell (One fluent args value at)
ground_told key cell fluent args value at is =
    then_is_eq (nat_cmp key.fluent cell.fluent) (slice_cmp constant_cmp key.args.items cell.args.items)
    ∙ both (is_eq (nat_cmp key.fluent cell.fluent)) (nat_eq fluent cell.fluent) (is_eq (slice_cmp constant_cmp key.args.items cell.args.items)) (are_constant_args args cell.args.items)
    (sym (unsigned_ties key.fluent cell.fluent) ∙ ap (λ n. nat_eq n cell.fluent) is.fluent_is)
    (constants_told key.args.items cell.args.items args is.args_are)

or-false : (b : Bool) → b ≡ (b || false)
or-false true = refl
or-false false = refl

either : (a b c : Bool) → a ≡ b → cond a true c ≡ (c || b)
either true true true e = refl
either true true false e = refl
either false false true e = refl
either false false false e = refl
either true false c e = absurd cc
either false true c e = absurd cc

abbrev Started : BTreeSet Ground → List DraftStart → Type 0
Started grounds all = (cell : Ground) → contains ground_cmp grounds cell ≡ list_any (starts_at cell) all

-- the set has one more ground fluent, that of a start value
pub one_added : (old new : BTreeSet Ground) (key : Ground) (fluent : ℕ) (args : List DraftArg) (value : Option DraftArg) (at : ℕ)
    → IsGroundOf key fluent args → set.Updates ground_cmp old new key true
    → (cell : Ground) → contains ground_cmp new cell ≡ (contains ground_cmp old cell || starts_at cell (One fluent args value at))
one_added old new key fluent args value at is updates cell =
    updates.0 cell
    ∙ either (is_eq (ground_cmp key cell)) (starts_at cell (One fluent args value at)) (contains ground_cmp old cell) (ground_told key cell fluent args value at is)

pub none_added : (old : BTreeSet Ground) (fluent : ℕ) (value : Option DraftArg) (at : ℕ)
    → (cell : Ground) → contains ground_cmp old cell ≡ (contains ground_cmp old cell || starts_at cell (Each fluent value at))
none_added old fluent value at cell = or-false (contains ground_cmp old cell)

-- one more start value, whose ground fluent is put into the set
pub start_pushed : (old new : BTreeSet Ground) (all : List DraftStart) (start : DraftStart) → Started old all
    → ((cell : Ground) → contains ground_cmp new cell ≡ (contains ground_cmp old cell || starts_at cell start))
    → Started new (all ++ start ∷ [])
start_pushed old new all start was adds cell =
    adds cell ∙ ap (λ b. b || starts_at cell start) (was cell) ∙ last (list_any (starts_at cell) all) (starts_at cell start)
    ∙ sym (list_any-append (starts_at cell) all (start ∷ []))
  where
    last : (a b : Bool) → (a || b) ≡ (a || (b || false))
    last true b = refl
    last false true = refl
    last false false = refl

-- constants that are written one after another
pub written_push : (constants : List Constant) (args : List DraftArg) (constant : Constant) (one : DraftArg) → AreWritten constants args → IsWritten constant one
    → AreWritten (constants ++ constant ∷ []) (args ++ one ∷ [])
written_push [] [] constant one are is = (is, tt)
written_push (first ∷ constants) (arg ∷ args) constant one are is = (are.0, written_push constants args constant one are.1 is)
written_push [] (arg ∷ args) constant one are is = absurd are
written_push (first ∷ constants) [] constant one are is = absurd are

pub written_more : (constants : List Constant) (args : List DraftArg) (i : ℕ) (constant : Constant) (one : DraftArg) → i < length args → one ≡ get_or args i one
    → AreWritten constants (take i args) → IsWritten constant one → AreWritten (constants ++ constant ∷ []) (take (i + 1) args)
written_more constants args i constant one lt at_i are is =
    let more : take (i + 1) args ≡ take i args ++ one ∷ [] = take_more args i one lt ∙ ap (λ x. take i args ++ x ∷ []) (sym at_i) in
    subst (AreWritten (constants ++ constant ∷ [])) (sym more) (written_push constants (take i args) constant one are is)

pub ruleset laws = (starts_told)

pub ruleset adding = (one_added, none_added)

pub ruleset writing = (written_more)
