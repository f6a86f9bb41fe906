-- A device that was dealt with so far is so after a turn, or it was closed and is dealt with.
use Rattle.std.proofs.Common.{◌≡◌, ◌≢◌, ℕ, ◌≤◌, Bool, true, false, if◌then◌else◌, Option, Some, None, List, [], ◌∷◌, ◌++◌, length, map, take, refl, sym, ap, ◌∙◌, subst, inl}
use Rattle.std.specs.Prelude.{IfSome}
use Rattle.std.proofs.lemmas.List.{append-nil}
use Rattle.golog_tree.specs.declared.agent.Agent.{Agent}
use Rattle.golog_semantics.specs.declared.journal.Entry.{Entry}
use Rattle.golog_semantics.specs.declared.journal.Entry.TheVariants.{Close}
use Rattle.golog_semantics.specs.declared.journal.Item.{Item}
use Rattle.golog_semantics.specs.declared.journal.Reason.{Reason}
use Rattle.golog_semantics.specs.declared.journal.Reason.TheVariants as reason
use Rattle.golog_semantics.specs.Journal.{Journal, commands, is_posted_by, has_end, is_full}
use Rattle.golog_semantics.specs.Text.{at_each}
use Rattle.golog_semantics.specs.Posts.{is_bad, later_reason}
use Rattle.golog_semantics.specs.Dealt.{Meaning, Told, Script, FollowsScript, item_of, items, service, GivenFits, wakes, told_item, IsLost, TailFits, IsNamed, DealtUntil, DealtBy, WasDealtWith}
use Rattle.golog_journal.specs.Laws.{AreNotOf}
use Rattle.golog_device.specs.Dealing.{KeepsScript, DealtSoFar}
use Rattle.golog_device.proofs.Growing.{all, items-others, items-own, rested-push, rested-others, taken-others}

-- what it told and has left is its script, while it is open
abbrev pub Keeps : Script → Meaning → Type 0
Keeps script m = IfSome m.left (λ left. IfSome m.told (λ told. KeepsScript script left told))

-- or with a last Close
abbrev pub Follows : Script → Meaning → Type 0
Follows script m = IfSome m.left (λ left. IfSome m.told (λ told. FollowsScript script left told))

if-some : {A : Type 0} (P Q : A → Type 0) (o : Option A) → ((x : A) → P x → Q x) → IfSome o P → IfSome o Q
if-some P Q None f h = tt
if-some P Q (Some x) f h = f x h

pub keeps-follows : (script : Script) (m : Meaning) → Keeps script m → Follows script m
keeps-follows script m keeps =
    if-some (λ left. IfSome m.told (λ told. KeepsScript script left told)) (λ left. IfSome m.told (λ told. FollowsScript script left told)) m.left
    (λ left h. if-some (KeepsScript script left) (FollowsScript script left) m.told (λ told k. record { answers = k.answers; idle = inl k.idle }) h)
    keeps

module _ (agent : Agent) (device : ℕ) where
  -- The device has answered, and told this last, which does not stand in the journal yet.
  pub record HasAnswered (journal : Journal) (taken : ℕ) (m : Meaning) (tail : List Told) : Type 0 where
    pub named : IsNamed agent device m
    pub given : IfSome m.given
        (λ given. GivenFits agent device m.cut given (map (service agent device) (take taken (commands agent device journal))))
    pub told : IfSome m.told (λ told. told ≡ items agent device journal ++ tail)
    pub rested : all (at_each (wakes agent device) [] journal) ≡ true

  -- others may add entries meanwhile
  pub answered-others : (journal others : Journal) (taken : ℕ) (m : Meaning) (tail : List Told) → AreNotOf device others
      → taken ≤ length (commands agent device journal) → HasAnswered journal taken m tail → HasAnswered (journal ++ others) taken m tail
  answered-others journal others taken m tail foreign few has = record {
    named = has.named;
    given =
        if-some (λ given. GivenFits agent device m.cut given (map (service agent device) (take taken (commands agent device journal))))
        (λ given. GivenFits agent device m.cut given (map (service agent device) (take taken (commands agent device (journal ++ others))))) m.given
        (λ given h. subst (λ cs. GivenFits agent device m.cut given (map (service agent device) cs)) (sym (taken-others agent device journal others taken few)) h)
        has.given;
    told =
        if-some (λ told. told ≡ items agent device journal ++ tail) (λ told. told ≡ items agent device (journal ++ others) ++ tail) m.told
        (λ told h. h ∙ ap (λ l. l ++ tail) (sym (items-others agent device journal others foreign))) has.told;
    rested = rested-others agent device journal others foreign has.rested;
  }

  -- one that was dealt with so far has told nothing that does not stand
  pub so-far-answered : (journal : Journal) (taken : ℕ) (script : Script) (m : Meaning) → DealtSoFar agent device journal taken script m
      → HasAnswered journal taken m []
  so-far-answered journal taken script m so_far = record {
    named = so_far.named;
    given = so_far.given;
    told =
        if-some (λ told. told ≡ items agent device journal) (λ told. told ≡ items agent device journal ++ []) m.told
        (λ told h. h ∙ sym (append-nil (items agent device journal))) so_far.told;
    rested = so_far.rested;
  }

  pub answered-so-far : (journal : Journal) (taken : ℕ) (script : Script) (m : Meaning) → HasAnswered journal taken m [] → Keeps script m
      → DealtSoFar agent device journal taken script m
  answered-so-far journal taken script m has keeps = record {
    named = has.named;
    given = has.given;
    told =
        if-some (λ told. told ≡ items agent device journal ++ []) (λ told. told ≡ items agent device journal) m.told
        (λ told h. h ∙ append-nil (items agent device journal)) has.told;
    rested = has.rested;
    left = keeps;
  }

  -- what it told last stands now
  pub dealt-own : (journal : Journal) (e : Entry) (taken : ℕ) (script : Script) (m : Meaning) (t : Told) → taken ≤ length (commands agent device journal)
      → is_posted_by device e ≡ true → item_of agent device e ≡ t ∷ [] → wakes agent device journal e ≡ true
      → HasAnswered journal taken m (t ∷ []) → Keeps script m → DealtSoFar agent device (journal ++ e ∷ []) taken script m
  dealt-own journal e taken script m t few own stands woken has keeps = record {
    named = has.named;
    given =
        if-some (λ given. GivenFits agent device m.cut given (map (service agent device) (take taken (commands agent device journal))))
        (λ given. GivenFits agent device m.cut given (map (service agent device) (take taken (commands agent device (journal ++ e ∷ []))))) m.given
        (λ given h. subst (λ cs. GivenFits agent device m.cut given (map (service agent device) cs)) (sym (taken-others agent device journal (e ∷ []) taken few)) h)
        has.given;
    told =
        if-some (λ told. told ≡ items agent device journal ++ t ∷ []) (λ told. told ≡ items agent device (journal ++ e ∷ [])) m.told
        (λ told h. h ∙ ap (λ l. items agent device journal ++ l) (sym stands) ∙ sym (items-own agent device journal e own)) has.told;
    rested = rested-push agent device journal e has.rested woken;
    left = keeps;
  }

  until-by : (journal : Journal) (r : Reason) (taken : ℕ) (script : Script) (m : Meaning) → r ≢ reason.Refused → DealtUntil agent device journal r taken script m
      → DealtBy agent device journal r taken script m
  until-by journal reason.Ended taken script m other until = until
  until-by journal reason.Bad taken script m other until = until
  until-by journal reason.Full taken script m other until = until
  until-by journal reason.Late taken script m other until = until
  until-by journal reason.Stopped taken script m other until = until
  until-by journal reason.Refused taken script m other until = absurd (other refl)

  -- it was closed
  pub dealt-closed : (journal : Journal) (r : Reason) (taken : ℕ) (script : Script) (m : Meaning) (tail : List Told) → r ≢ reason.Refused
      → HasAnswered journal taken m tail → Follows script m → TailFits agent device journal taken r tail
      → WasDealtWith agent device (journal ++ Close device r taken ∷ []) script m
  dealt-closed journal r taken script m tail other has follows fits = record {
    before = journal;
    later = [];
    reason = r;
    taken = taken;
    closed = refl;
    fits = until-by journal r taken script m other (record {
      named = has.named;
      given = has.given;
      told =
          if-some (λ told. told ≡ items agent device journal ++ tail)
          (λ told. (end : List Told) × (told ≡ items agent device journal ++ end) × TailFits agent device journal taken r end) m.told
          (λ told h. (tail, h, fits)) has.told;
      rested = has.rested;
      left = follows;
    });
  }

  -- why an item was refused that is no end of the device
  pub tail-fits : (journal : Journal) (taken : ℕ) (i : Item) (r : Reason) (tail : List Told)
      → later_reason agent journal device taken i ≡ Some r → IsLost agent device journal taken tail → told_item agent device journal taken tail ≡ i
      → (r ≢ reason.Refused) × TailFits agent device journal taken r tail
  tail-fits journal taken i r tail why lost same = go (has_end journal) (is_full journal) (is_bad agent journal device taken i) refl why
    where
      by : (q : Reason) → q ≡ r → (q ≢ reason.Refused) × TailFits agent device journal taken q tail → (r ≢ reason.Refused) × TailFits agent device journal taken r tail
      by q e h = subst (λ x. (x ≢ reason.Refused) × TailFits agent device journal taken x tail) e h

      go : (a b c : Bool) → is_bad agent journal device taken i ≡ c
          → (if a then Some reason.Late else (if b then Some reason.Full else (if c then Some reason.Bad else None))) ≡ Some r
          → (r ≢ reason.Refused) × TailFits agent device journal taken r tail
      go true b c bad h = by reason.Late (let k : reason.Late ≡ r = cc in k) ((λ e. absurd (cc)), lost)
      go false true c bad h = by reason.Full (let k : reason.Full ≡ r = cc in k) ((λ e. absurd (cc)), lost)
      go false false true bad h =
          by reason.Bad (let k : reason.Bad ≡ r = cc in k) ((λ e. absurd (cc)), (lost, ap (is_bad agent journal device taken) same ∙ bad))
      go false false false bad h = absurd (cc)
