-- A turn deals with a device as its journal says.
use Rattle.std.proofs.Common.{◌≡◌, ◌≢◌, ℕ, ◌+◌, ◌-◌, ◌≤◌, Bool, true, false, ◌==◌, if◌then◌else◌, Option, Some, None, List, [], ◌∷◌, ◌++◌, length, length-append, refl, sym, ap, ◌∙◌, subst, arith}
use Rattle.std.specs.Prelude.{slice_get, nat_le, is_some}
use Rattle.std.specs.List.{list_all}
use Rattle.std.specs.Option.{option_map_or}
use Rattle.std.proofs.lemmas.Bool.{and_parts, eq-eqb, leb-true, leb-false}
use Rattle.std.proofs.lemmas.Option.{slice_get_within, slice_get-get_or}
use Rattle.golog_tree.specs.declared.agent.Agent.{Agent}
use Rattle.golog_tree.specs.Ground.{sort_size, ground_actions}
use Rattle.golog_semantics.specs.declared.journal.Entry.TheVariants.{Exo, Sense, Rest as RestEntry, Close as CloseEntry}
use Rattle.golog_semantics.specs.declared.journal.Item.{Item}
use Rattle.golog_semantics.specs.declared.journal.Item.TheVariants as item
use Rattle.golog_semantics.specs.declared.journal.Reason.{Reason}
use Rattle.golog_semantics.specs.declared.journal.Reason.TheVariants as reason
use Rattle.golog_semantics.specs.Values.{fluent_sort}
use Rattle.golog_semantics.specs.Journal.{Journal, Command, commands, fluent_sensed, is_sensing, entries_by, has_end, last_of, is_rest_after}
use Rattle.golog_semantics.specs.Posts.{awaited_command, closing, entry_of, result_of}
use Rattle.golog_semantics.specs.Text.{Text, action_text, value_text}
use Rattle.golog_semantics.specs.Inline.{number_of_text, posted_action, posted_value}
use Rattle.golog_semantics.specs.Dealt.{Meaning, Told, TellsPost, TellsValue, TellsRest, TellsClose, Script, last_sensed, value_item, rests_before, TailFits, WasDealtWith}
use Rattle.golog_journal.specs.declared.board.Next.TheVariants.{Nothing as NoCommand, Ended}
use Rattle.golog_journal.specs.Taken.{IsDriven, IsReady}
use Rattle.golog_journal.specs.Commands.{is_resting}
use Rattle.golog_journal.specs.Posting.{posted_at}
use Rattle.golog_journal.specs.Growing.{Sight}
use Rattle.golog_journal.proofs.Staying.{commands-append, posted-same, from}
use Rattle.golog_device.specs.declared.device.Served.{Served}
use Rattle.golog_device.specs.declared.device.Served.TheVariants.{Nothing, Value}
use Rattle.golog_device.specs.declared.device.Idle.{Idle}
use Rattle.golog_device.specs.declared.device.Idle.TheVariants.{Post, Rest, Close}
use Rattle.golog_device.specs.declared.turn.Turned.{Turned}
use Rattle.golog_device.specs.declared.turn.Turned.TheVariants as turned
use Rattle.golog_device.specs.Devices.{tells, told_then, told_after, ServesBy, IdlesBy, Serves, Idles}
use Rattle.golog_device.specs.Turns.{done_by, PostsItem, answer_item, idle_item, idle_turn, TurnsBy, Turns}
use Rattle.golog_device.specs.Dealing.{DealtSoFar, DealtAfter}
use Rattle.golog_device.proofs.Reading.{action-told, value-told}
use Rattle.golog_device.proofs.Taking.{fine, awaited-next, some-none}
use Rattle.golog_device.proofs.Resting.{may-wake, may-wake-later}
use Rattle.golog_device.proofs.Dealing.{HasAnswered, Keeps, Follows, keeps-follows, answered-others, so-far-answered, answered-so-far, dealt-own, dealt-closed, tail-fits}
use Rattle.golog_device.proofs.Turning.{value_told, served-answered, idled-answered, keeps-unasked, follows-unasked, keeps-silent, keeps-answered, keeps-idled, follows-closed}
use Rattle.golog_device.proofs.Asked.{GoesOn, ready-there, next-there, PostedAt, posted-point, mid-point, mid-ready, done-by}

-- a device has as many commands as it has taken
pub few-of : (agent : Agent) (journal : Journal) (device taken : ℕ) → IsDriven agent journal device taken → taken ≤ length (commands agent device journal)
few-of agent journal device taken driven =
    leb-true taken (length (commands agent device journal)) (and_parts _ _ (and_parts _ _ driven.fitting).0).0

-- and none more, where it has no next command
pub all-taken : (agent : Agent) (journal : Journal) (device taken : ℕ) → IsDriven agent journal device taken
    → slice_get (commands agent device journal) taken ≡ None → length (commands agent device journal) ≡ taken
all-taken agent journal device taken driven none =
    let low = few-of agent journal device taken driven in
    let high = past (nat_le (length (commands agent device journal)) taken) refl in
    omega (arith, low, high)
  where
    past : (b : Bool) → nat_le (length (commands agent device journal)) taken ≡ b → length (commands agent device journal) ≤ taken
    past true h = leb-true (length (commands agent device journal)) taken h
    past false h =
        let less = leb-false (length (commands agent device journal)) taken h in
        absurd (let k = slice_get-get_or (commands agent device journal) taken (record { place = 0; action = 0 }) less in let j = sym none ∙ k in cc)

module _ (agent : Agent) (device : ℕ) where
  -- those that a point has are at least those before
  few-there : (n : ℕ) (journal point : Journal) → GoesOn agent device journal point → n ≤ length (commands agent device journal)
      → n ≤ length (commands agent device point)
  few-there n journal point goes few =
      let more = length-append (commands agent device journal) (from agent device (0 + length journal) (goes.others)) in
      let all : length (commands agent device point) ≡ length (commands agent device journal ++ from agent device (0 + length journal) (goes.others)) =
      ap (λ j. length (commands agent device j)) goes.grows ∙ ap (λ cs. length cs) (commands-append agent journal goes.others device) in
      omega (arith, few, more, all)

  answered-there : (n : ℕ) (journal point : Journal) (m : Meaning) (tail : List Told) → GoesOn agent device journal point
      → n ≤ length (commands agent device journal) → HasAnswered agent device journal n m tail → HasAnswered agent device point n m tail
  answered-there n journal point m tail goes few has =
      subst (λ j. HasAnswered agent device j n m tail) (sym goes.grows) (answered-others agent device journal goes.others n m tail goes.foreign few has)

  far-there : (n : ℕ) (journal point : Journal) (script : Script) (m : Meaning) → GoesOn agent device journal point
      → n ≤ length (commands agent device journal) → DealtSoFar agent device journal n script m → DealtSoFar agent device point n script m
  far-there n journal point script m goes few far =
      answered-so-far agent device point n script m
      (answered-there n journal point m [] goes few (so-far-answered agent device journal n script m far)) far.left

  after-open : (r : Turned) (journal : Journal) (n : ℕ) (script : Script) (m : Meaning) → r ≢ turned.Closed → DealtSoFar agent device journal n script m
      → DealtAfter agent device r journal n script m
  after-open turned.Served journal n script m other far = far
  after-open turned.Posted journal n script m other far = far
  after-open turned.Rested journal n script m other far = far
  after-open turned.Nothing journal n script m other far = far
  after-open turned.Closed journal n script m other far = absurd (other refl)

  after-closed : (r : Turned) (journal : Journal) (n : ℕ) (script : Script) (m : Meaning) → turned.Closed ≡ r → WasDealtWith agent device journal script m
      → DealtAfter agent device r journal n script m
  after-closed r journal n script m same dealt = subst (λ x. DealtAfter agent device x journal n script m) same dealt

  -- by what came of the item at the list where it was posted
  abbrev pub Refuses : Journal → ℕ → Item → List Told → Type 0
  Refuses journal n i tail =
      (point : Journal) → GoesOn agent device journal point → (r : Reason) → closing agent point device n i ≡ Some r
      → (r ≢ reason.Refused) × TailFits agent device point n r tail

  abbrev pub Stands : Journal → ℕ → Item → List Told → Script → Meaning → Type 0
  Stands journal n i tail script m =
      (point : Journal) → GoesOn agent device journal point → closing agent point device n i ≡ None → HasAnswered agent device point n m tail
      → DealtSoFar agent device (point ++ entry_of agent point device n i ∷ []) n script m

  dealt-post : (n : ℕ) (i : Item) (done result : Turned) (mid new : Sight) (script : Script) (m : Meaning) (tail : List Told)
      → mid.agent ≡ agent → mid.holds device ≡ true → done ≢ turned.Closed → PostsItem device n (Some i) done result mid new
      → n ≤ length (commands agent device mid.seen) → HasAnswered agent device mid.seen n m tail → Follows script m
      → Refuses mid.seen n i tail → Stands mid.seen n i tail script m → DealtAfter agent device result new.seen n script m
  dealt-post n i done result mid new script m tail own held other posts few has follows refuses stands = go (closing agent p.at device n i) refl
    where
      p : PostedAt agent device n i done result mid new
      p = posted-point agent device n i done result mid new own held posts

      there : HasAnswered agent device p.at n m tail
      there = answered-there n mid.seen p.at m tail p.goes few has

      seen-by : (o : Option Reason) → closing agent p.at device n i ≡ o
          → p.at ++ option_map_or (λ r. CloseEntry device r n) o (entry_of agent p.at device n i) ∷ [] ≡ new.seen
      seen-by o why = sym (p.seen ∙ ap (λ x. p.at ++ option_map_or (λ r. CloseEntry device r n) x (entry_of agent p.at device n i) ∷ []) why)

      go : (o : Option Reason) → closing agent p.at device n i ≡ o → DealtAfter agent device result new.seen n script m
      go None none =
          let is : result ≡ done = p.turned ∙ ap (λ o. done_by (posted_at (length p.at) o) done) none in
          after-open result new.seen n script m (λ e. other (sym is ∙ e))
          (subst (λ j. DealtSoFar agent device j n script m) (seen-by None none) (stands p.at p.goes none there))
      go (Some r) why =
          let is : turned.Closed ≡ result = sym (p.turned ∙ ap (λ o. done_by (posted_at (length p.at) o) done) why) in
          let fits = refuses p.at p.goes r why in
          after-closed result new.seen n script m is
          (subst (λ j. WasDealtWith agent device j script m) (seen-by (Some r) why) (dealt-closed agent device p.at r n script m tail fits.0 there follows fits.1))

  -- an unreadable or silent item never stands
  never-stands : (journal : Journal) (n : ℕ) (script : Script) (m : Meaning) (tail : List Told) → Stands journal n item.Unreadable tail script m
  never-stands journal n script m tail point goes none has =
      absurd (let k = (fine agent point device n item.Unreadable none).good in cc)

  never-silent : (journal : Journal) (n : ℕ) (script : Script) (m : Meaning) (tail : List Told) → Stands journal n item.Silent tail script m
  never-silent journal n script m tail point goes none has =
      absurd (let k = (fine agent point device n item.Silent none).good in cc)

  -- an action's text
  post-refuses : (journal : Journal) (n : ℕ) (bytes : Text) → Refuses journal n (posted_action agent bytes) (TellsPost bytes ∷ [])
  post-refuses journal n bytes point goes r why = go (number_of_text agent (action_text agent) (length (ground_actions agent)) bytes) refl
    where
      go : (o : Option ℕ) → number_of_text agent (action_text agent) (length (ground_actions agent)) bytes ≡ o
          → (r ≢ reason.Refused) × TailFits agent device point n r (TellsPost bytes ∷ [])
      go None is =
          let i : posted_action agent bytes ≡ item.Unreadable = ap (λ x. option_map_or item.Exo x item.Unreadable) is in
          tail-fits agent device point n item.Unreadable r (TellsPost bytes ∷ []) (ap (closing agent point device n) (sym i) ∙ why) refl i
      go (Some a) is =
          let i : posted_action agent bytes ≡ item.Exo a = ap (λ x. option_map_or item.Exo x item.Unreadable) is in
          tail-fits agent device point n (item.Exo a) r (TellsPost bytes ∷ []) (ap (closing agent point device n) (sym i) ∙ why) refl i

  post-stands : (journal : Journal) (n : ℕ) (bytes : Text) (script : Script) (m : Meaning) → Keeps script m
      → n ≤ length (commands agent device journal)
      → ((point : Journal) → GoesOn agent device journal point → list_all (rests_before agent device point) (entries_by device point) ≡ true)
      → Stands journal n (posted_action agent bytes) (TellsPost bytes ∷ []) script m
  post-stands journal n bytes script m keeps few awake point goes none has = go (number_of_text agent (action_text agent) (length (ground_actions agent)) bytes) refl
    where
      itself : (device == device) ≡ true
      itself = eq-eqb device device refl

      go : (o : Option ℕ) → number_of_text agent (action_text agent) (length (ground_actions agent)) bytes ≡ o
          → DealtSoFar agent device (point ++ entry_of agent point device n (posted_action agent bytes) ∷ []) n script m
      go None is =
          let i : posted_action agent bytes ≡ item.Unreadable = ap (λ x. option_map_or item.Exo x item.Unreadable) is in
          absurd (let k = (fine agent point device n item.Unreadable (ap (closing agent point device n) (sym i) ∙ none)).good in cc)
      go (Some a) is =
          let i : posted_action agent bytes ≡ item.Exo a = ap (λ x. option_map_or item.Exo x item.Unreadable) is in
          let text = action-told agent bytes a i in
          subst (λ e. DealtSoFar agent device (point ++ e ∷ []) n script m) (ap (entry_of agent point device n) (sym i))
          (dealt-own agent device point (Exo device a) n script m (TellsPost bytes) (few-there n journal point goes few) itself
          (ap (λ t. TellsPost t ∷ []) (sym text)) (ap (λ b. if b then list_all (rests_before agent device point) (entries_by device point) else true) itself ∙ awake point goes) has keeps)

  -- a rest
  rest-stands : (journal : Journal) (n : ℕ) (script : Script) (m : Meaning) → Keeps script m → n ≤ length (commands agent device journal)
      → ((point : Journal) → GoesOn agent device journal point → list_all (rests_before agent device point) (entries_by device point) ≡ true)
      → Stands journal n item.Rest (TellsRest ∷ []) script m
  rest-stands journal n script m keeps few awake point goes none has =
      let itself = eq-eqb device device refl in
      dealt-own agent device point (RestEntry device n) n script m TellsRest (few-there n journal point goes few) itself refl
      (ap (λ b. if b then list_all (rests_before agent device point) (entries_by device point) else true) itself ∙ awake point goes) has keeps

  -- what holds of each value and of an unreadable item holds of a value's text
  value-cases : (P : Item → Type 0) (o : Option ℕ) (bytes : Text) → ((v : ℕ) → P (item.Value v)) → P item.Unreadable → P (value_item agent device o bytes)
  value-cases P None bytes one none = none
  value-cases P (Some f) bytes one none = go (number_of_text agent (value_text agent f) (sort_size agent (fluent_sort agent f)) bytes)
    where
      go : (x : Option ℕ) → P (option_map_or item.Value x item.Unreadable)
      go None = none
      go (Some v) = one v

  value-refuses : (journal : Journal) (n : ℕ) (o : Option ℕ) (bytes : Text)
      → ((point : Journal) → GoesOn agent device journal point → last_sensed agent device point n ≡ o)
      → Refuses journal n (value_item agent device o bytes) (TellsValue bytes ∷ [])
  value-refuses journal n o bytes last point goes r =
      value-cases
      (λ i. value_item agent device o bytes ≡ i → closing agent point device n i ≡ Some r → (r ≢ reason.Refused) × TailFits agent device point n r (TellsValue bytes ∷ []))
      o bytes
      (λ v same why. tail-fits agent device point n (item.Value v) r (TellsValue bytes ∷ []) why refl (told ∙ same))
      (λ same why. tail-fits agent device point n item.Unreadable r (TellsValue bytes ∷ []) why refl (told ∙ same))
      refl
    where
      told : value_item agent device (last_sensed agent device point n) bytes ≡ value_item agent device o bytes
      told = ap (λ x. value_item agent device x bytes) (last point goes)

  module _ (taken count : ℕ) (result : Turned) (old new : Sight) (was is : Meaning) (own : old.agent ≡ agent) (held : old.holds device ≡ true)
      (ready : IsReady agent old.seen device taken) (turns : Turns agent device taken result count old new was is) (script : Script)
      (far : DealtSoFar agent device old.seen taken script was) where
    abbrev mid : Sight
    mid = turns.asked

    mid-own : mid.agent ≡ agent
    mid-own = (turns.asks).agent ∙ own

    mid-held : mid.holds device ≡ true
    mid-held = ap (λ (holds : ℕ → Bool). holds device) (turns.asks).holds ∙ held

    there : GoesOn agent device old.seen mid.seen
    there = (mid-point agent device taken count result old new was is own held ready turns).0

    on : IsReady agent mid.seen device taken
    on = mid-ready agent device taken count result old new was is own held ready turns

    mid-far : DealtSoFar agent device mid.seen taken script was
    mid-far = far-there taken old.seen mid.seen script was there (few-of agent old.seen device taken ready.driven) far

    result-of : (n : ℕ) → count ≡ n → DealtAfter agent device result new.seen n script is → DealtAfter agent device result new.seen count script is
    result-of n same dealt = subst (λ k. DealtAfter agent device result new.seen k script is) (sym same) dealt

    -- nothing was posted
    nothing-posted : (n : ℕ) (done : Turned) → done ≢ turned.Closed → (result ≡ done) × (new ≡ mid) → DealtSoFar agent device mid.seen n script is
        → DealtAfter agent device result new.seen n script is
    nothing-posted n done other (same, still) dealt =
        after-open result new.seen n script is (λ e. other (sym same ∙ e)) (subst (λ (s : Sight). DealtSoFar agent device s.seen n script is) (sym still) dealt)

    module _ (c : Command) (next : slice_get (commands agent device mid.seen) taken ≡ Some c) where
      few : taken + 1 ≤ length (commands agent device mid.seen)
      few = let inside = slice_get_within (commands agent device mid.seen) taken c next in omega (arith, inside)

      last-is : (point : Journal) → GoesOn agent device mid.seen point → last_sensed agent device point (taken + 1) ≡ fluent_sensed agent c.action
      last-is point goes =
          let less : taken + 1 - 1 ≡ taken = omega arith in
          ap (λ n. option_map_or (λ (x : Command). fluent_sensed agent x.action) (slice_get (commands agent device point) n) None) less
          ∙ ap (λ o. option_map_or (λ (x : Command). fluent_sensed agent x.action) o None) (next-there agent device taken c mid.seen point goes next)

      awaits : is_sensing agent c.action ≡ true → (point : Journal) → GoesOn agent device mid.seen point → awaited_command agent point device (taken + 1) ≡ Some c
      awaits senses point goes =
          awaited-next agent point device taken goes.list (ready-there agent device taken mid.seen point goes on) c
          (next-there agent device taken c mid.seen point goes next) senses

      -- the value that was asked for
      value-stands : (f : ℕ) (bytes : Text) → fluent_sensed agent c.action ≡ Some f → is_sensing agent c.action ≡ true → Keeps script is
          → Stands mid.seen (taken + 1) (value_item agent device (Some f) bytes) (TellsValue bytes ∷ []) script is
      value-stands f bytes tells senses keeps point goes none has =
          value-cases
          (λ i. value_item agent device (Some f) bytes ≡ i → closing agent point device (taken + 1) i ≡ None
          → DealtSoFar agent device (point ++ entry_of agent point device (taken + 1) i ∷ []) (taken + 1) script is)
          (Some f) bytes
          (λ v same fits. stands v same)
          (λ same fits. absurd (let k = (fine agent point device (taken + 1) item.Unreadable fits).good in cc))
          refl none
        where
          stands : (v : ℕ) → posted_value agent f bytes ≡ item.Value v
              → DealtSoFar agent device (point ++ entry_of agent point device (taken + 1) (item.Value v) ∷ []) (taken + 1) script is
          stands v same =
              let entry : Sense device c.place f v ≡ entry_of agent point device (taken + 1) (item.Value v)
              = sym (ap (λ o. option_map_or (result_of agent point device (taken + 1) v) o (RestEntry device (taken + 1))) (awaits senses point goes)
              ∙ ap (λ o. Sense device c.place (option_map_or (λ x. x) o 0) v) tells) in
              subst (λ e. DealtSoFar agent device (point ++ e ∷ []) (taken + 1) script is) entry
              (dealt-own agent device point (Sense device c.place f v) (taken + 1) script is (TellsValue bytes) (few-there (taken + 1) mid.seen point goes few)
              (eq-eqb device device refl) (ap (λ t. TellsValue t ∷ []) (sym (value-told agent f bytes v same))) refl has keeps)

      silent-refuses : is_sensing agent c.action ≡ true → Refuses mid.seen (taken + 1) item.Silent []
      silent-refuses senses point goes r why =
          tail-fits agent device point (taken + 1) item.Silent r [] why (ap is_some (awaits senses point goes)) refl

      -- a command
      dealt-command : (b : Bool) → is_sensing agent c.action ≡ b → (answer : Served) → count ≡ taken + 1
          → Serves answer was is (record { text = action_text agent c.action; asked = is_sensing agent c.action })
          → PostsItem device (taken + 1) (answer_item agent device c.action b answer) turned.Served result mid new
          → DealtAfter agent device result new.seen count script is
      dealt-command b senses answer same serves posts =
          result-of (taken + 1) same
          (go b senses answer (served-answered agent device mid.seen taken script was is answer c next mid-far serves)
          (subst (λ x. ServesBy was.left x answer is.left) senses serves.by_script) serves.tells_value posts)
        where
          go : (x : Bool) → is_sensing agent c.action ≡ x → (a : Served) → HasAnswered agent device mid.seen (taken + 1) is (value_told a)
              → ServesBy was.left x a is.left → is.told ≡ told_after was.told a
              → PostsItem device (taken + 1) (answer_item agent device c.action x a) turned.Served result mid new
              → DealtAfter agent device result new.seen (taken + 1) script is
          go false senses Nothing has by told posts =
              nothing-posted (taken + 1) turned.Served (λ e. absurd (cc)) posts
              (answered-so-far agent device mid.seen (taken + 1) script is has (keeps-unasked script was is mid-far.left by told))
          go false senses (Value bytes) has by told posts =
              let untold : None ≡ fluent_sensed agent c.action = sym (some-none agent mid.seen device taken (fluent_sensed agent c.action) senses) in
              dealt-post (taken + 1) item.Unreadable turned.Served result mid new script is (TellsValue bytes ∷ []) mid-own mid-held (λ e. absurd (cc)) posts few has
              (follows-unasked script was is bytes by)
              (value-refuses mid.seen (taken + 1) None bytes (λ point goes. last-is point goes ∙ sym untold))
              (never-stands mid.seen (taken + 1) script is (TellsValue bytes ∷ []))
          go true senses Nothing has by told posts =
              dealt-post (taken + 1) item.Silent turned.Served result mid new script is [] mid-own mid-held (λ e. absurd (cc)) posts few has
              (keeps-follows script is (keeps-silent script was is mid-far.left by told)) (silent-refuses senses)
              (never-silent mid.seen (taken + 1) script is [])
          go true senses (Value bytes) has by told posts =
              value-post (fluent_sensed agent c.action) refl bytes has posts senses
              (keeps-answered script agent device mid.seen taken was is mid-far bytes by told)
            where
              value-post : (o : Option ℕ) → fluent_sensed agent c.action ≡ o → (bs : Text) → HasAnswered agent device mid.seen (taken + 1) is (TellsValue bs ∷ [])
                  → PostsItem device (taken + 1) (Some (value_item agent device (fluent_sensed agent c.action) bs)) turned.Served result mid new
                  → is_some (fluent_sensed agent c.action) ≡ true → Keeps script is → DealtAfter agent device result new.seen (taken + 1) script is
              value-post None tells bs has posts some keeps = absurd (let k = sym (ap is_some tells) ∙ some in cc)
              value-post (Some f) tells bs has posts some keeps =
                  dealt-post (taken + 1) (value_item agent device (Some f) bs) turned.Served result mid new script is (TellsValue bs ∷ []) mid-own mid-held (λ e. absurd (cc))
                  (subst (λ o. PostsItem device (taken + 1) (Some (value_item agent device o bs)) turned.Served result mid new) tells posts) few has
                  (keeps-follows script is keeps)
                  (value-refuses mid.seen (taken + 1) (Some f) bs (λ point goes. last-is point goes ∙ tells))
                  (value-stands f bs tells some keeps)

    still-few : taken ≤ length (commands agent device mid.seen)
    still-few = few-of agent mid.seen device taken on.driven

    -- where it was not at rest it may be asked
    awake : is_resting agent mid.seen device taken ≡ false → slice_get (commands agent device mid.seen) taken ≡ None
        → (point : Journal) → GoesOn agent device mid.seen point → list_all (rests_before agent device point) (entries_by device point) ≡ true
    awake rests none point goes =
        may-wake-later agent device mid.seen point (few-there (length (commands agent device mid.seen)) mid.seen point goes (omega arith))
        (ap (entries_by device) goes.grows ∙ posted-same agent mid.seen goes.others device goes.foreign)
        (may-wake agent device mid.seen there.list mid-far.rested (on.driven).still_open
        (ap (λ n. option_map_or (is_rest_after n) (last_of (entries_by device mid.seen)) false) (all-taken agent mid.seen device taken on.driven none) ∙ rests))

    -- without a command
    dealt-idle : (answer : Idle) → is_resting agent mid.seen device taken ≡ false → slice_get (commands agent device mid.seen) taken ≡ None
        → Idles answer was is → PostsItem device taken (Some (idle_item agent answer)) (idle_turn answer) result mid new
        → DealtAfter agent device result new.seen taken script is
    dealt-idle answer rests none idles posts =
        go answer (idled-answered agent device mid.seen taken script was is answer mid-far idles) idles.by_script idles.tells_item posts
      where
        go : (a : Idle) → HasAnswered agent device mid.seen taken is (tells a ∷ []) → IdlesBy was.left a is.left → is.told ≡ told_then was.told (tells a)
            → PostsItem device taken (Some (idle_item agent a)) (idle_turn a) result mid new → DealtAfter agent device result new.seen taken script is
        go (Post bytes) has by told posts =
            let keeps = keeps-idled script agent device mid.seen taken was is mid-far (Post bytes) (λ e. absurd (cc)) by told in
            dealt-post taken (posted_action agent bytes) turned.Posted result mid new script is (TellsPost bytes ∷ []) mid-own mid-held (λ e. absurd (cc)) posts still-few has
            (keeps-follows script is keeps) (post-refuses mid.seen taken bytes) (post-stands mid.seen taken bytes script is keeps still-few (awake rests none))
        go Rest has by told posts =
            let keeps = keeps-idled script agent device mid.seen taken was is mid-far Rest (λ e. absurd (cc)) by told in
            dealt-post taken item.Rest turned.Rested result mid new script is (TellsRest ∷ []) mid-own mid-held (λ e. absurd (cc)) posts still-few has
            (keeps-follows script is keeps)
            (λ point goes r why. tail-fits agent device point taken item.Rest r (TellsRest ∷ []) why refl refl)
            (rest-stands mid.seen taken script is keeps still-few (awake rests none))
        go Close has by told posts =
            dealt-post taken item.Close turned.Posted result mid new script is (TellsClose ∷ []) mid-own mid-held (λ e. absurd (cc)) posts still-few has
            (follows-closed script agent device mid.seen taken was is mid-far by told)
            (λ point goes r why. let same : reason.Ended ≡ r = cc in
            subst (λ x. (x ≢ reason.Refused) × TailFits agent device point taken x (TellsClose ∷ [])) same ((λ e. absurd (cc)), refl))
            (λ point goes never has. absurd (cc))

    -- after the end
    dealt-stop : is ≡ was → PostsItem device taken (Some item.Stop) turned.Posted result mid new → DealtAfter agent device result new.seen taken script is
    dealt-stop stays posts =
        subst (λ m. DealtAfter agent device result new.seen taken script m) (sym stays)
        (dealt-post taken item.Stop turned.Posted result mid new script was [] mid-own mid-held (λ e. absurd (cc)) posts still-few
        (so-far-answered agent device mid.seen taken script was mid-far) (keeps-follows script was mid-far.left)
        (λ point goes r why. let same : reason.Stopped ≡ r = cc in
        subst (λ x. (x ≢ reason.Refused) × TailFits agent device point taken x []) same ((λ e. absurd (cc)), refl))
        (λ point goes never has. absurd (cc)))

    dealt-none : (e : Bool) → (r : Bool) → is_resting agent mid.seen device taken ≡ r → slice_get (commands agent device mid.seen) taken ≡ None
        → TurnsBy agent device taken (if e then Ended else NoCommand r) result count mid new was is → DealtAfter agent device result new.seen count script is
    dealt-none true r rests none (same, stays, posts) = result-of taken same (dealt-stop stays posts)
    dealt-none false true rests none (same, stays, posts) =
        result-of taken same
        (nothing-posted taken turned.Nothing (λ e. absurd (cc)) posts (subst (λ m. DealtSoFar agent device mid.seen taken script m) (sym stays) mid-far))
    dealt-none false false rests none (same, (answer, idles, posts)) = result-of taken same (dealt-idle answer rests none idles posts)

    -- a device that was dealt with so far is so after a turn, or is dealt with where it was closed
    pub dealt-turn : DealtAfter agent device result new.seen count script is
    dealt-turn = go (slice_get (commands agent device mid.seen) taken) refl
      where
        go : (o : Option Command) → slice_get (commands agent device mid.seen) taken ≡ o → DealtAfter agent device result new.seen count script is
        go (Some c) next =
            let d = done-by agent device taken count result old new was is own held ready turns (Some c) next in
            dealt-command c next (is_sensing agent c.action) refl d.1.0 d.0 d.1.1 d.1.2
        go None next =
            dealt-none (has_end mid.seen) (is_resting agent mid.seen device taken) refl next
            (done-by agent device taken count result old new was is own held ready turns None next)
