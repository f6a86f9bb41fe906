-- Devices that begin, each with a text of its script.
use Rattle.std.proofs.Common.{◌≡◌, ℕ, zero, suc, ◌≤◌, List, [], ◌∷◌, length, get_or, Option, Some, None, Bool, true, false, refl, sym, ap, ◌∙◌, subst, arith, IsSome, All, Result, Ok, Err, inl, inr}
use Rattle.std.specs.Prelude.{is_some, find, cond, OnErr, nat_lt, slice_get}
use Rattle.std.specs.List.{list_any, list_all}
use Rattle.std.proofs.lemmas.List.{length-map}
use Rattle.golog_semantics.specs.declared.journal.Entry.TheVariants.{Do, Test, Exo, Sense, Rest, Close, End}
use Rattle.golog_semantics.specs.Journal.{Journal, device_limit, is_close}
use Rattle.golog_semantics.specs.Text.{Text}
use Rattle.golog_semantics.specs.Dealt.{Script}
use Rattle.golog_journal.specs.Leading.{IsBehind, is_of_program}
use Rattle.golog_device.specs.Scripts.{script_spelled}
use Rattle.golog_device.specs.Slots.{Standing, FreshBelow, HaveBegun, Both, ChangesIf, BeginsUnless, BeginsBelow, name_at}
use Rattle.golog_device.proofs.Refused.{refusals-close}
use Rattle.golog_device.proofs.Standings.{Both-same}
use Rattle.golog_commands.specs.Runs.{AreTextsOf, AreUnserved, IsUnserved}

-- ---- texts

pub as-many : (texts : List Text) (scripts : List Script) → AreTextsOf texts scripts → length texts ≡ length scripts
as-many texts scripts are = sym (length-map texts script_spelled) ∙ ap length are ∙ length-map scripts Some

pub all-spelled : (texts : List Text) (scripts : List Script) → AreTextsOf texts scripts → All (λ text. IsSome (script_spelled text)) texts
all-spelled [] scripts are k d within = absurd (omega (arith, within))
all-spelled (text ∷ texts) [] are k d within = absurd (cc)
all-spelled (text ∷ texts) (script ∷ scripts) are zero d within =
    let e : script_spelled text ≡ Some script = cc in
    ap is_some e
all-spelled (text ∷ texts) (script ∷ scripts) are (suc k) d within = all-spelled texts scripts (cc) k d (omega (arith, within))

-- what is found has what all have
pub found-so : {A : Type 0} (P : A → Type 0) (test : A → Bool) (xs : List A) (x : A) → All P xs → Some x ≡ find test xs → P x
found-so P test [] x all e = let no : ⊥ = cc in absurd no
found-so {A} P test (y ∷ xs) x all e = by (test y) refl (found-so P test xs x (λ k d within. all (suc k) d (omega (arith, within))))
  where
    by : (b : Bool) → test y ≡ b → (Some x ≡ find test xs → P x) → P x
    by true t further =
        let k : Some x ≡ Some y = e ∙ ap (λ c. cond c (Some y) (find test xs)) t in
        let same : y ≡ x = cc in
        subst P same (all 0 y (omega arith))
    by false t further = further (e ∙ ap (λ c. cond c (Some y) (find test xs)) t)

-- ---- where the run begins

no-program : (journal : Journal) → list_all is_close journal ≡ true → list_any is_of_program journal ≡ false
no-program [] closes = refl
no-program (Close p r t ∷ journal) closes = no-program journal closes
no-program (Do a ∷ journal) closes = absurd (cc)
no-program (Test ∷ journal) closes = absurd (cc)
no-program (Exo p a ∷ journal) closes = absurd (cc)
no-program (Sense p at f v ∷ journal) closes = absurd (cc)
no-program (Rest p t ∷ journal) closes = absurd (cc)
no-program (End a ∷ journal) closes = absurd (cc)

pub first-fresh : (count : ℕ) (standings : List Standing) → count ≤ device_limit → FreshBelow device_limit standings → FreshBelow count standings
first-fresh count standings few fresh = λ slot within. fresh slot (omega (arith, few, within))

pub is-behind : (count : ℕ) (names texts : List Text) (journal : Journal) (olds mids : List Standing) → HaveBegun count names texts journal olds mids → IsBehind [] journal
is-behind count names texts journal olds mids begun = record {
  since = journal;
  front = refl;
  of_devices = no-program journal (ap (list_all is_close) begun.closed ∙ refusals-close begun.refused);
}

-- ---- devices that no one has served

begins-unserved : (b refused : Bool) (name text : Text) (old new : Standing) → ChangesIf b (BeginsUnless refused name text) old new → IsUnserved old new
begins-unserved false refused name text old new same = inl same
begins-unserved true true name text old new (same, untold) = inl same
begins-unserved true false name text old new (ready, has_begun) = inr (name, text, has_begun)

both-so : (P Q : Standing → Standing → Type 0) (x y : Option Standing) → ((a b : Standing) → P a b → Q a b) → Both P x y → Both Q x y
both-so P Q None None so both = tt
both-so P Q None (Some b) so both = both
both-so P Q (Some a) None so both = both
both-so P Q (Some a) (Some b) so both = so a b both

-- devices of which the first have begun
pub begun-unserved : (count : ℕ) (names texts : List Text) (journal : Journal) (olds mids : List Standing) → HaveBegun count names texts journal olds mids
    → AreUnserved olds mids
begun-unserved count names texts journal olds mids begun = record {
  at = λ slot.
      both-so (BeginsBelow count names texts begun.refused slot) IsUnserved (slice_get olds slot) (slice_get mids slot)
      (λ old new. begins-unserved (nat_lt slot count) (get_or begun.refused slot false) (name_at names slot) (get_or texts slot []) old new) ((begun.begun).at slot);
}

-- devices as they were
pub none-served : (olds : List Standing) → AreUnserved olds olds
none-served olds = record { at = λ slot. Both-same IsUnserved (slice_get olds slot) (λ old. inl refl) }

-- where memory is wanting they stay so
pub still-unserved : {A E : Type 0} (stand : List A → List Standing) (olds mids news : List A) (r : Result ℕ E) → AreUnserved (stand olds) (stand mids)
    → OnErr r (news ≡ mids) → OnErr r (AreUnserved (stand olds) (stand news))
still-unserved stand olds mids news (Ok status) unserved same = tt
still-unserved stand olds mids news (Err e) unserved same = subst (λ l. AreUnserved (stand olds) (stand l)) (sym same) unserved
