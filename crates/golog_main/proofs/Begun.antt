-- What devices that have begun with the texts of scripts have before them.
use Rattle.std.proofs.Common.{◌≡◌, ℕ, zero, suc, ◌+◌, ◌<◌, ◌≤◌, List, [], ◌∷◌, length, map, get_or, Option, Some, None, Bool, true, false, refl, sym, ap, ◌∙◌, subst, arith, inl, inr, ◌⊎◌, IsSome, IsSomeAnd}
use Rattle.std.specs.Prelude.{◌==◌, IfSome, slice_get, nat_lt, is_some}
use Rattle.std.specs.List.{flat_map, enumerate_from}
use Rattle.std.proofs.lemmas.Bool.{eqb-true, lt-ltb}
use Rattle.std.proofs.lemmas.Bool.Decides.{leb_tells}
use Rattle.std.proofs.lemmas.List.{length-map}
use Rattle.golog_tree.specs.declared.agent.Agent.{Agent}
use Rattle.golog_semantics.specs.Journal.{Journal, device_limit, is_open}
use Rattle.golog_semantics.specs.Text.{Text}
use Rattle.golog_semantics.specs.Dealt.{Script, WasDealtWith}
use Rattle.golog_semantics.proofs.Tests.{or_cases}
use Rattle.golog_device.specs.Devices.{Restarts}
use Rattle.golog_device.specs.Scripts.{script_spelled}
use Rattle.golog_device.specs.Slots.{Standing, Both, EachSlot, ChangesIf, BeginsUnless, BeginsBelow, HaveBegun, name_at, refusal}
use Rattle.golog_device.specs.Dealing.{DealtNow, HasLeft}
use Rattle.golog_device.proofs.DealtFirst.{dealt_at_first}
use Rattle.golog_lead.specs.Rounds.{IsDealtWith, TellLeft}
use Rattle.golog_threads.specs.Driving.{has_refused}
use Rattle.golog_threads.proofs.Refusals.{open-unrefused}
use Rattle.golog_commands.specs.Runs.{AreTextsOf, AreDealtWith, AllTellLeft, IsDealt}
use Rattle.golog_main.specs.Runs.{HaveRun, Serves}
use Rattle.golog_commands.proofs.Begun.{as-many}

-- ---- texts

-- the text of a slot spells its script
spelled-at : (texts : List Text) (scripts : List Script) → AreTextsOf texts scripts → (slot : ℕ) → slot < length texts
    → script_spelled (get_or texts slot []) ≡ slice_get scripts slot
spelled-at [] scripts are slot within = absurd (omega (arith, within))
spelled-at (text ∷ texts) [] are slot within = absurd (cc)
spelled-at (text ∷ texts) (script ∷ scripts) are zero within = cc
spelled-at (text ∷ texts) (script ∷ scripts) are (suc slot) within = spelled-at texts scripts (cc) slot (omega (arith, within))

-- ---- refusals

-- nothing stands where no device refused
none-refused : (n : ℕ) (refused : List Bool) → ((slot : ℕ) → slot < length refused → get_or refused slot false ≡ false)
    → flat_map refusal (enumerate_from n refused) ≡ []
none-refused n [] none = refl
none-refused n (true ∷ refused) none = let no : true ≡ false = none 0 (omega arith) in absurd (cc)
none-refused n (false ∷ refused) none = none-refused (n + 1) refused (λ slot within. none (suc slot) (omega (arith, within)))

-- a device that stands among the refusals refused
told-refused : (n : ℕ) (refused : List Bool) (device : ℕ) → has_refused device (flat_map refusal (enumerate_from n refused)) ≡ true
    → (k : ℕ) × ((device ≡ n + k) × (get_or refused k false ≡ true))
told-refused n [] device c = absurd (cc)
told-refused n (true ∷ refused) device c =
    by (λ later. told-refused (n + 1) refused device later) (or_cases (n == device) (has_refused device (flat_map refusal (enumerate_from (n + 1) refused))) c)
  where
    by : (has_refused device (flat_map refusal (enumerate_from (n + 1) refused)) ≡ true → (k : ℕ) × ((device ≡ (n + 1) + k) × (get_or refused k false ≡ true)))
        → ((n == device) ≡ true) ⊎ (has_refused device (flat_map refusal (enumerate_from (n + 1) refused)) ≡ true)
        → (k : ℕ) × ((device ≡ n + k) × (get_or (true ∷ refused) k false ≡ true))
    by further (inl same) = (0, (let e : n ≡ device = eqb-true n device same in omega (arith, e), refl))
    by further (inr c) =
        let r = further c in
        (suc r.0, (let e = r.1.0 in omega (arith, e), r.1.1))
told-refused n (false ∷ refused) device c =
    let r = told-refused (n + 1) refused device c in
    (suc r.0, (let e = r.1.0 in omega (arith, e), r.1.1))

-- a device that has refused its script is not open
closed-by : (journal : Journal) (device : ℕ) → has_refused device journal ≡ true → is_open device journal ≡ false
closed-by journal device refused = by (is_open device journal) refl
  where
    by : (b : Bool) → is_open device journal ≡ b → is_open device journal ≡ false
    by true is = let no : true ≡ false = sym refused ∙ open-unrefused device journal is in absurd (cc)
    by false is = is

-- ---- slots

same-length : (P : ℕ → Standing → Standing → Type 0) (olds news : List Standing) → EachSlot P olds news → length olds ≡ length news
same-length P [] [] each = refl
same-length P [] (y ∷ news) each = absurd (each.at 0)
same-length P (x ∷ olds) [] each = absurd (each.at 0)
same-length P (x ∷ olds) (y ∷ news) each = ap suc (same-length (λ slot. P (suc slot)) olds news (record { at = λ slot. each.at (suc slot) }))

-- ---- where the run begins

-- the boxes of the agent's devices are all there still
pub enough-boxes : {A : Type 0} (stand : A → Standing) (olds mids : List A) (k count : ℕ) (names texts : List Text) (journal : Journal)
    → HaveBegun count names texts journal (map stand olds) (map stand mids) → k ≤ device_limit → device_limit ≤ length olds → k ≤ length mids
enough-boxes stand olds mids k count names texts journal begun few many =
    let same = same-length _ (map stand olds) (map stand mids) begun.begun in
    let a = length-map olds stand in
    let b = length-map mids stand in
    omega (arith, few, many, same, a, b)

-- ---- devices that have begun

module _ (agent : Agent) (texts : List Text) (scripts : List Script) (are : AreTextsOf texts scripts) (journal : Journal) (olds mids : List Standing)
    (begun : HaveBegun (length agent.devices) agent.devices texts journal olds mids) (one_each : length texts ≡ length agent.devices) where
  abbrev n : ℕ
  n = length agent.devices

  -- ---- what is left of their scripts

  has-left : (old new : Option Script) (text : Text) (script : Script) → Restarts old new text → script_spelled text ≡ Some script → IfSome new (λ left. left ≡ script)
  has-left None new text script none spelled = subst (λ o. IfSome o (λ left. left ≡ script)) (sym none) tt
  has-left (Some l) new text script (some, is) spelled = subst (λ o. IfSome o (λ left. left ≡ script)) (sym (is ∙ spelled)) refl

  none-left : (left : Option Script) (script : Script) → left ≡ None → IfSome left (λ l. l ≡ script)
  none-left left script none = subst (λ o. IfSome o (λ l. l ≡ script)) (sym none) tt

  begun-left : (r : Bool) (name text : Text) (a b : Standing) (script : Script) → BeginsUnless r name text a b → script_spelled text ≡ Some script → HasLeft script b.meaning
  begun-left true name text a b script (same, untold) spelled = none-left b.meaning.left script (ap (λ (s : Standing). s.meaning.left) same ∙ untold)
  begun-left false name text a b script (begins, started) spelled = has-left a.meaning.left b.meaning.left text script started.script_left spelled

  at-slot : (slot : ℕ) → slot < n → script_spelled (get_or texts slot []) ≡ slice_get scripts slot
  at-slot slot within = spelled-at texts scripts are slot (omega (arith, within, one_each))

  -- ---- how they are dealt with, after a run

  module _ (new : Journal) (news : List Standing) (run : HaveRun agent journal new mids news) where
    -- a device that has refused its script had refused it when the run began
    refused-first : (slot : ℕ) → has_refused slot journal ≡ true → (get_or begun.refused slot false ≡ true) × (is_open slot journal ≡ false)
    refused-first slot c =
        let told = told-refused 0 begun.refused slot (subst (λ j. has_refused slot j ≡ true) begun.closed c) in
        let same : told.0 ≡ slot = let e = told.1.0 in omega (arith, e) in
        (ap (λ k. get_or begun.refused k false) (sym same) ∙ told.1.1, closed-by journal slot c)

    as-it-was : (r : Bool) (name text : Text) (a b : Standing) → BeginsUnless r name text a b → r ≡ true → b ≡ a
    as-it-was true name text a b begins is = begins.0
    as-it-was false name text a b begins is = absurd (cc)

    dealt-slot : (slot : ℕ) (a b c : Standing) → slot < n → BeginsUnless (get_or begun.refused slot false) (name_at agent.devices slot) (get_or texts slot []) a b
        → ((script : Script) → HasLeft script b.meaning → DealtNow agent slot journal 0 script b.meaning)
        → IsDealtWith agent journal new slot b c → (o : Option Script) → slice_get scripts slot ≡ o → IfSome o (λ script. WasDealtWith agent slot new script c.meaning)
    dealt-slot slot a b c within begins first runs None is = tt
    dealt-slot slot a b c within begins first runs (Some script) is =
        runs script (first script (begun-left (get_or begun.refused slot false) (name_at agent.devices slot) (get_or texts slot []) a b script begins (at-slot slot within ∙ is)))

    goes-slot : (slot : ℕ) (a b c : Standing) → slot < n → BeginsUnless (get_or begun.refused slot false) (name_at agent.devices slot) (get_or texts slot []) a b
        → ((script : Script) → HasLeft script b.meaning → DealtNow agent slot journal 0 script b.meaning)
        → Serves agent journal new slot b c → IsDealt agent scripts new slot a c
    goes-slot slot a b c within begins first serves = record {
      dealt = dealt-slot slot a b c within begins first serves.served.dealt (slice_get scripts slot) refl;
      refused = λ stands.
          let was = refused-first slot (serves.refused stands) in
          serves.served.shut was.1 ∙ as-it-was (get_or begun.refused slot false) (name_at agent.devices slot) (get_or texts slot []) a b begins was.0;
    }

    slot-goes : (slot : ℕ) (v : Bool) → nat_lt slot n ≡ v → (v ≡ true → slot < n) → (x y z : Option Standing)
        → Both (BeginsBelow n agent.devices texts begun.refused slot) x y → Both (ChangesIf (nat_lt slot n) (Serves agent journal new slot)) y z
        → (slot < n → IfSome y (λ s. (script : Script) → HasLeft script s.meaning → DealtNow agent slot journal 0 script s.meaning))
        → Both (ChangesIf v (IsDealt agent scripts new slot)) x z
    slot-goes slot v e within None None None begins runs first = tt
    slot-goes slot v e within None (Some b) z begins runs first = absurd begins
    slot-goes slot v e within None None (Some c) begins runs first = absurd runs
    slot-goes slot v e within (Some a) None z begins runs first = absurd begins
    slot-goes slot v e within (Some a) (Some b) None begins runs first = absurd runs
    slot-goes slot true e within (Some a) (Some b) (Some c) begins runs first =
        goes-slot slot a b c (within refl)
        (subst (λ u. ChangesIf u (BeginsUnless (get_or begun.refused slot false) (name_at agent.devices slot) (get_or texts slot [])) a b) e begins)
        (first (within refl)) (subst (λ u. ChangesIf u (Serves agent journal new slot) b c) e runs)
    slot-goes slot false e within (Some a) (Some b) (Some c) begins runs first =
        subst (λ u. ChangesIf u (Serves agent journal new slot) b c) e runs
        ∙ subst (λ u. ChangesIf u (BeginsUnless (get_or begun.refused slot false) (name_at agent.devices slot) (get_or texts slot [])) a b) e begins

    below : (slot : ℕ) → nat_lt slot n ≡ true → slot < n
    below slot e = by (leb_tells (suc slot) n)
      where
        by : (nat_lt slot n ≡ true) × (slot < n) ⊎ (nat_lt slot n ≡ false) × (n < suc slot) → slot < n
        by (inl (so, lt)) = lt
        by (inr (not_so, gt)) = absurd (cc)

    pub dealt-with : AreDealtWith agent scripts new olds news
    dealt-with = record {
      at = λ slot.
          slot-goes slot (nat_lt slot n) refl (below slot) (slice_get olds slot) (slice_get mids slot) (slice_get news slot) ((begun.begun).at slot) (run.at slot)
          (λ within. dealt_at_first agent n texts journal olds mids begun slot within);
    }

  -- ---- devices that all tell what is left

  module _ (tell : AllTellLeft agent olds) where
    told-so : (slot : ℕ) (r : Bool) → get_or begun.refused slot false ≡ r → (a b : Standing) → IsSome a.meaning.left → BeginsUnless r (name_at agent.devices slot) (get_or texts slot []) a b
        → (get_or begun.refused slot false ≡ false) × (b.meaning.left ≡ script_spelled (get_or texts slot []))
    told-so slot true is a b tells (same, untold) = let no : false ≡ true = ap is_some (sym untold) ∙ tells in absurd (cc)
    told-so slot false is a b tells (begins, started) = (is, restarted a.meaning.left b.meaning.left tells started.script_left)
      where
        restarted : (old new : Option Script) → IsSome old → Restarts old new (get_or texts slot []) → new ≡ script_spelled (get_or texts slot [])
        restarted None new some r = let no : ⊥ = cc in absurd no
        restarted (Some l) new some r = r.1

    told-slot : (slot : ℕ) → slot < n → (x y : Option Standing) → Both (BeginsBelow n agent.devices texts begun.refused slot) x y → IsSomeAnd x (λ s. IsSome s.meaning.left)
        → (get_or begun.refused slot false ≡ false) × IsSomeAnd y (λ s. s.meaning.left ≡ script_spelled (get_or texts slot []))
    told-slot slot within None None begins tells = absurd tells
    told-slot slot within None (Some b) begins tells = absurd begins
    told-slot slot within (Some a) None begins tells = absurd begins
    told-slot slot within (Some a) (Some b) begins tells =
        let begins' = subst (λ u. ChangesIf u (BeginsUnless (get_or begun.refused slot false) (name_at agent.devices slot) (get_or texts slot [])) a b) (lt-ltb slot n within) begins in
        told-so slot (get_or begun.refused slot false) refl a b tells begins'

    told-at : (slot : ℕ) → slot < n → (get_or begun.refused slot false ≡ false) × IsSomeAnd (slice_get mids slot) (λ s. s.meaning.left ≡ script_spelled (get_or texts slot []))
    told-at slot within = told-slot slot within (slice_get olds slot) (slice_get mids slot) ((begun.begun).at slot) (tell slot within)

    pub tell-left : TellLeft mids scripts
    tell-left slot inside =
        let within : slot < n = let l = as-many texts scripts are in omega (arith, inside, l, one_each) in
        subst (λ o. IsSomeAnd (slice_get mids slot) (λ s. s.meaning.left ≡ o)) (at-slot slot within) (told-at slot within).1

    pub none-stands : journal ≡ []
    none-stands =
        begun.closed ∙ none-refused 0 begun.refused (λ slot inside. let l = begun.one_each in (told-at slot (omega (arith, inside, l))).0)
