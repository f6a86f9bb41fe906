-- What a turn makes of a device's dealing.
use Rattle.std.proofs.Common.{◌≡◌, ℕ, ◌+◌, Bool, true, false, if◌then◌else◌, Option, Some, None, List, [], ◌∷◌, ◌++◌, map, take, refl, sym, ap, ◌∙◌, subst, append_assoc, inl, inr}
use Rattle.std.specs.Prelude.{IfSome, slice_get, codes}
use Rattle.std.specs.List.{list_any, flat_map}
use Rattle.std.proofs.lemmas.List.{append-nil, map-append}
use Rattle.std.proofs.lemmas.Grind.{flat_map-append}
use Rattle.golog_tree.specs.declared.agent.Agent.{Agent}
use Rattle.golog_semantics.specs.Journal.{Journal, Command, commands}
use Rattle.golog_semantics.specs.Text.{Text, device_text}
use Rattle.golog_semantics.specs.Same.{same_values}
use Rattle.golog_semantics.specs.Dealt.{Meaning, Told, TellsValue, TellsClose, Script, FollowsScript, told_value, told_idle, items, service, GivenFits}
use Rattle.golog_semantics.proofs.Levels.{same_values-eq}
use Rattle.golog_device.specs.declared.device.Served.{Served}
use Rattle.golog_device.specs.declared.device.Served.TheVariants.{Nothing, Value}
use Rattle.golog_device.specs.declared.device.Idle.{Idle}
use Rattle.golog_device.specs.declared.device.Idle.TheVariants.{Post, Rest, Close}
use Rattle.golog_device.specs.Devices.{is_told_close, told_then, told_after, tells, next_answer, rest_of, idle_of, next_idle, ServesBy, IdlesBy, Serves, Idles}
use Rattle.golog_device.specs.Dealing.{KeepsScript, DealtSoFar}
use Rattle.golog_device.proofs.Growing.{items-no-close, given-more}
use Rattle.golog_device.proofs.Taking.{take-next}
use Rattle.golog_device.proofs.Dealing.{HasAnswered, Keeps, Follows}

-- what a device told in answer to a command
abbrev pub value_told : Served → List Told
value_told Nothing = []
value_told (Value bytes) = TellsValue bytes ∷ []

-- one more is told
told-more : (items : List Told) (old : Option (List Told)) (t : Told) → list_any is_told_close items ≡ false
    → IfSome old (λ told. told ≡ items) → IfSome (told_then old t) (λ told. told ≡ items ++ t ∷ [])
told-more items None t none h = tt
told-more items (Some told) t none h =
    ap (λ b. if b then told else told ++ t ∷ []) (ap (list_any is_told_close) h ∙ none) ∙ ap (λ l. l ++ t ∷ []) h

told-served : (items : List Told) (old : Option (List Told)) (answer : Served) → list_any is_told_close items ≡ false
    → IfSome old (λ told. told ≡ items) → IfSome (told_after old answer) (λ told. told ≡ items ++ value_told answer)
told-served items None Nothing none h = tt
told-served items (Some told) Nothing none h = h ∙ sym (append-nil items)
told-served items old (Value bytes) none h = told-more items old (TellsValue bytes) none h

-- what was told and what is left, with one more answer
keeps-value : (script left : Script) (told : List Told) (bytes : Text) (later : List Text) → left.answers ≡ bytes ∷ later → KeepsScript script left told
    → KeepsScript script (record left { answers = later }) (told ++ TellsValue bytes ∷ [])
keeps-value script left told bytes later first keeps = record {
  answers =
      ap (λ l. l ++ later) (flat_map-append told_value told (TellsValue bytes ∷ []))
      ∙ append_assoc (flat_map told_value told) (bytes ∷ []) later
      ∙ ap (λ l. flat_map told_value told ++ l) (sym first) ∙ keeps.answers;
  idle =
      ap (λ l. l ++ left.idle) (flat_map-append told_idle told (TellsValue bytes ∷ []) ∙ append-nil (flat_map told_idle told)) ∙ keeps.idle;
}

-- with one more idle item
keeps-idle : (script left : Script) (told : List Told) (text : Text) (later : List Text) (t : Told) → left.idle ≡ text ∷ later
    → told_value t ≡ [] → told_idle t ≡ text ∷ [] → KeepsScript script left told → KeepsScript script (record left { idle = later }) (told ++ t ∷ [])
keeps-idle script left told text later t first no_value says keeps = record {
  answers =
      ap (λ l. l ++ left.answers)
      (flat_map-append told_value told (t ∷ []) ∙ ap (λ l. flat_map told_value told ++ (l ++ [])) no_value ∙ append-nil (flat_map told_value told))
      ∙ keeps.answers;
  idle =
      ap (λ l. l ++ later) (flat_map-append told_idle told (t ∷ []) ∙ ap (λ l. flat_map told_idle told ++ (l ++ [])) says)
      ∙ append_assoc (flat_map told_idle told) (text ∷ []) later
      ∙ ap (λ l. flat_map told_idle told ++ l) (sym first) ∙ keeps.idle;
}

idle-says : (text : Text) → (told_value (tells (idle_of text)) ≡ []) × (told_idle (tells (idle_of text)) ≡ text ∷ [])
idle-says text = go (same_values text (codes "rest")) (same_values text (codes "close")) refl refl
  where
    go : (a b : Bool) → same_values text (codes "rest") ≡ a → same_values text (codes "close") ≡ b
        → (told_value (tells (if a then Rest else (if b then Close else Post text))) ≡ [])
        × (told_idle (tells (if a then Rest else (if b then Close else Post text))) ≡ text ∷ [])
    go true b is e = (refl, ap (λ t. t ∷ []) (sym (same_values-eq text (codes "rest") is)))
    go false true e is = (refl, ap (λ t. t ∷ []) (sym (same_values-eq text (codes "close") is)))
    go false false e k = (refl, refl)

module _ (agent : Agent) (device : ℕ) where
  -- a command was served
  pub served-answered : (journal : Journal) (taken : ℕ) (script : Script) (old new : Meaning) (answer : Served) (c : Command)
      → slice_get (commands agent device journal) taken ≡ Some c → DealtSoFar agent device journal taken script old
      → Serves answer old new (service agent device c) → HasAnswered agent device journal (taken + 1) new (value_told answer)
  served-answered journal taken script old new answer c next so_far serves = record {
    named = subst (λ o. IfSome o (λ n. n ≡ device_text agent device)) (sym serves.name_same) so_far.named;
    given =
        subst (λ cs. IfSome new.given (λ given. GivenFits agent device new.cut given cs))
        (sym (map-append (service agent device) (take taken (commands agent device journal)) (c ∷ []))
        ∙ ap (map (service agent device)) (sym (take-next (commands agent device journal) taken c next)))
        (given-more agent device old.cut new.cut old.given new.given (map (service agent device) (take taken (commands agent device journal))) (service agent device c) serves.gives so_far.given);
    told =
        subst (λ o. IfSome o (λ told. told ≡ items agent device journal ++ value_told answer)) (sym serves.tells_value)
        (told-served (items agent device journal) old.told answer (items-no-close agent device journal) so_far.told);
    rested = so_far.rested;
  }

  -- the device was asked without a command
  pub idled-answered : (journal : Journal) (taken : ℕ) (script : Script) (old new : Meaning) (answer : Idle)
      → DealtSoFar agent device journal taken script old → Idles answer old new → HasAnswered agent device journal taken new (tells answer ∷ [])
  idled-answered journal taken script old new answer so_far idles = record {
    named = subst (λ o. IfSome o (λ n. n ≡ device_text agent device)) (sym idles.name_same) so_far.named;
    given =
        subst (λ c. IfSome new.given (λ given. GivenFits agent device c given (map (service agent device) (take taken (commands agent device journal))))) (sym idles.cut_same)
        (subst (λ o. IfSome o (λ given. GivenFits agent device old.cut given (map (service agent device) (take taken (commands agent device journal))))) (sym idles.given_same) so_far.given);
    told =
        subst (λ o. IfSome o (λ told. told ≡ items agent device journal ++ tells answer ∷ [])) (sym idles.tells_item)
        (told-more (items agent device journal) old.told (tells answer) (items-no-close agent device journal) so_far.told);
    rested = so_far.rested;
  }

-- what a device was given and told, and what its script says of it
module _ (script : Script) where
  -- without a value the script stands as it was
  pub keeps-unasked : (old new : Meaning) → Keeps script old → ServesBy old.left false Nothing new.left → new.told ≡ told_after old.told Nothing
      → Keeps script new
  keeps-unasked old new keeps by same = go old.left new.left by keeps
    where
      go : (a b : Option Script) → ServesBy a false Nothing b → IfSome a (λ left. IfSome old.told (λ told. KeepsScript script left told))
          → IfSome b (λ left. IfSome new.told (λ told. KeepsScript script left told))
      go None b by k = subst (λ o. IfSome o (λ left. IfSome new.told (λ told. KeepsScript script left told))) (sym by) tt
      go (Some left) b (answer, by) k =
          subst (λ o. IfSome o (λ left. IfSome new.told (λ told. KeepsScript script left told))) (sym by)
          (subst (λ o. IfSome o (λ told. KeepsScript script left told)) (sym same) k)

  -- no script answers where no value is asked for
  pub follows-unasked : (old new : Meaning) (bytes : Text) → ServesBy old.left false (Value bytes) new.left → Follows script new
  follows-unasked old new bytes by = go old.left by
    where
      go : (a : Option Script) → ServesBy a false (Value bytes) new.left → Follows script new
      go None by = subst (λ o. IfSome o (λ left. IfSome new.told (λ told. FollowsScript script left told))) (sym by) tt
      go (Some left) (answer, by) = absurd (cc)

  -- where no answer is left none comes
  pub keeps-silent : (old new : Meaning) → Keeps script old → ServesBy old.left true Nothing new.left → new.told ≡ told_after old.told Nothing
      → Keeps script new
  keeps-silent old new keeps by same = go old.left by keeps
    where
      last : (left : Script) (answers : List Text) → left.answers ≡ answers → Nothing ≡ next_answer answers
          → IfSome old.told (λ told. KeepsScript script left told) → IfSome new.told (λ told. KeepsScript script (record left { answers = rest_of answers }) told)
      last left [] is e k =
          subst (λ o. IfSome o (λ told. KeepsScript script (record left { answers = [] }) told)) (sym same)
          (subst (λ l. IfSome old.told (λ told. KeepsScript script (record left { answers = l }) told)) is k)
      last left (x ∷ xs) is e k = absurd (cc)

      go : (a : Option Script) → ServesBy a true Nothing new.left → IfSome a (λ left. IfSome old.told (λ told. KeepsScript script left told)) → Keeps script new
      go None by k = subst (λ o. IfSome o (λ left. IfSome new.told (λ told. KeepsScript script left told))) (sym by) tt
      go (Some left) (answer, by) k =
          subst (λ o. IfSome o (λ left. IfSome new.told (λ told. KeepsScript script left told))) (sym by)
          (last left left.answers refl answer k)

  -- told with one more item, where what was told is this
  more-told : (P Q : List Told → Type 0) (items : List Told) (o : Option (List Told)) (t : Told) → list_any is_told_close items ≡ false
      → IfSome o (λ told. told ≡ items) → ((told : List Told) → P told → Q (told ++ t ∷ [])) → IfSome o P → IfSome (told_then o t) Q
  more-told P Q items None t none same f h = tt
  more-told P Q items (Some told) t none same f h =
      subst Q (sym (ap (λ b. if b then told else told ++ t ∷ []) (ap (list_any is_told_close) same ∙ none))) (f told h)

  module _ (agent : Agent) (device : ℕ) (journal : Journal) (taken : ℕ) (old new : Meaning) (so_far : DealtSoFar agent device journal taken script old) where
    open-items : list_any is_told_close (items agent device journal) ≡ false
    open-items = items-no-close agent device journal

    -- the script's next answer was told
    pub keeps-answered : (bytes : Text) → ServesBy old.left true (Value bytes) new.left → new.told ≡ told_after old.told (Value bytes)
        → Keeps script new
    keeps-answered bytes by same = go old.left by so_far.left
      where
        next : (left : Script) (answers : List Text) → left.answers ≡ answers → Value bytes ≡ next_answer answers
            → IfSome old.told (λ told. KeepsScript script left told)
            → IfSome new.told (λ told. KeepsScript script (record left { answers = rest_of answers }) told)
        next left [] is e k = absurd (cc)
        next left (x ∷ xs) is e k =
            let same_bytes : x ≡ bytes = cc in
            subst (λ o. IfSome o (λ told. KeepsScript script (record left { answers = xs }) told)) (sym same)
            (more-told (λ told. KeepsScript script left told) (λ told. KeepsScript script (record left { answers = xs }) told)
            (items agent device journal) old.told (TellsValue bytes) open-items so_far.told
            (λ told h. keeps-value script left told bytes xs (is ∙ ap (λ y. y ∷ xs) same_bytes) h) k)

        go : (a : Option Script) → ServesBy a true (Value bytes) new.left → IfSome a (λ left. IfSome old.told (λ told. KeepsScript script left told))
            → Keeps script new
        go None by k = subst (λ o. IfSome o (λ left. IfSome new.told (λ told. KeepsScript script left told))) (sym by) tt
        go (Some left) (answer, by) k =
            subst (λ o. IfSome o (λ left. IfSome new.told (λ told. KeepsScript script left told))) (sym by)
            (next left left.answers refl answer k)

    -- the script's next idle item was told
    keeps-next : (left : Script) (text : Text) (later : List Text) → left.idle ≡ text ∷ later → new.told ≡ told_then old.told (tells (idle_of text))
        → IfSome old.told (λ told. KeepsScript script left told) → IfSome new.told (λ told. KeepsScript script (record left { idle = later }) told)
    keeps-next left text later is same k =
        let says = idle-says text in
        subst (λ o. IfSome o (λ told. KeepsScript script (record left { idle = later }) told)) (sym same)
        (more-told (λ told. KeepsScript script left told) (λ told. KeepsScript script (record left { idle = later }) told)
        (items agent device journal) old.told (tells (idle_of text)) open-items so_far.told
        (λ told h. keeps-idle script left told text later (tells (idle_of text)) is says.0 says.1 h) k)

    -- an idle item that is no Close
    pub keeps-idled : (answer : Idle) → (answer ≡ Close → ⊥) → IdlesBy old.left answer new.left → new.told ≡ told_then old.told (tells answer)
        → Keeps script new
    keeps-idled answer other by same = go old.left by so_far.left
      where
        next : (left : Script) (idle : List Text) → left.idle ≡ idle → answer ≡ next_idle idle
            → IfSome old.told (λ told. KeepsScript script left told)
            → IfSome new.told (λ told. KeepsScript script (record left { idle = rest_of idle }) told)
        next left [] is e k = absurd (other e)
        next left (x ∷ xs) is e k = keeps-next left x xs is (same ∙ ap (λ a. told_then old.told (tells a)) e) k

        go : (a : Option Script) → IdlesBy a answer new.left → IfSome a (λ left. IfSome old.told (λ told. KeepsScript script left told)) → Keeps script new
        go None by k = subst (λ o. IfSome o (λ left. IfSome new.told (λ told. KeepsScript script left told))) (sym by) tt
        go (Some left) (is, by) k =
            subst (λ o. IfSome o (λ left. IfSome new.told (λ told. KeepsScript script left told))) (sym by) (next left left.idle refl is k)

    -- the device closed by itself
    pub follows-closed : IdlesBy old.left Close new.left → new.told ≡ told_then old.told TellsClose → Follows script new
    follows-closed by same = go old.left by so_far.left
      where
        last : (left : Script) (told : List Told) → left.idle ≡ [] → KeepsScript script left told
            → FollowsScript script (record left { idle = [] }) (told ++ TellsClose ∷ [])
        last left told is k = record {
          answers =
              ap (λ l. l ++ left.answers) (flat_map-append told_value told (TellsClose ∷ []) ∙ append-nil (flat_map told_value told)) ∙ k.answers;
          idle =
              inr (
                refl,
                flat_map-append told_idle told (TellsClose ∷ [])
                    ∙ ap (λ l. l ++ codes "close" ∷ [])
                    (sym (append-nil (flat_map told_idle told)) ∙ ap (λ l. flat_map told_idle told ++ l) (sym is) ∙ k.idle),
              );
        }

        next : (left : Script) (idle : List Text) → left.idle ≡ idle → Close ≡ next_idle idle
            → IfSome old.told (λ told. KeepsScript script left told)
            → IfSome new.told (λ told. FollowsScript script (record left { idle = rest_of idle }) told)
        next left [] is e k =
            subst (λ o. IfSome o (λ told. FollowsScript script (record left { idle = [] }) told)) (sym same)
            (more-told (λ told. KeepsScript script left told) (λ told. FollowsScript script (record left { idle = [] }) told)
            (items agent device journal) old.told TellsClose open-items so_far.told (λ told h. last left told is h) k)
        next left (x ∷ xs) is e k =
            follow new.told (keeps-next left x xs is (same ∙ ap (λ a. told_then old.told (tells a)) e) k)
          where
            follow : (o : Option (List Told)) → IfSome o (λ told. KeepsScript script (record left { idle = xs }) told)
                → IfSome o (λ told. FollowsScript script (record left { idle = xs }) told)
            follow None h = tt
            follow (Some told) h = record { answers = h.answers; idle = inl h.idle }

        go : (a : Option Script) → IdlesBy a Close new.left → IfSome a (λ left. IfSome old.told (λ told. KeepsScript script left told)) → Follows script new
        go None by k = subst (λ o. IfSome o (λ left. IfSome new.told (λ told. FollowsScript script left told))) (sym by) tt
        go (Some left) (is, by) k =
            subst (λ o. IfSome o (λ left. IfSome new.told (λ told. FollowsScript script left told))) (sym by) (next left left.idle refl is k)
