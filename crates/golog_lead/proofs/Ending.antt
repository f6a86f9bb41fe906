-- The rounds of a run without threads, up to its end.
use Rattle.std.proofs.Common.{◌≡◌, ℕ, zero, suc, ◌+◌, ◌<◌, ◌≤◌, Bool, true, false, not, ◌||◌, Option, Some, None, List, [], ◌∷◌, ◌++◌, length, map, replicate, get_or, refl, sym, ap, ◌∙◌, subst, append_assoc, inl, inr, arith, nat_lt}
use Rattle.std.specs.Prelude.{slice_get, IsSomeAnd, option_map, option_and_then}
use Rattle.std.specs.List.{list_any}
use Rattle.std.proofs.lemmas.Bool.{and_from, or_from, or_left, or_right, ltb-true}
use Rattle.std.proofs.lemmas.Option.{slice_get-map, slice_get-get_or}
use Rattle.std.proofs.lemmas.List.{append-nil, length-map, get_or_default}
use Rattle.std.proofs.lemmas.List.Elements.{filter-append}
use Rattle.std.proofs.lemmas.List.Folds.{list_any-append, list_all-append}
use Rattle.golog_tree.specs.declared.agent.Agent.{Agent}
use Rattle.golog_semantics.specs.declared.journal.Entry.TheVariants.{End}
use Rattle.golog_semantics.specs.declared.journal.Answer.{Answer}
use Rattle.golog_semantics.specs.Journal.{Journal, is_close, is_end, is_open, is_posted_by, has_end, commands, entries_by, longest, limit}
use Rattle.golog_semantics.specs.Inline.{Scripted, Stage, turns_from, round, rounds}
use Rattle.golog_semantics.specs.InlineText.{new_scripted}
use Rattle.golog_semantics.specs.Dealt.{Script}
use Rattle.golog_semantics.specs.Online.{is_whole}
use Rattle.golog_journal.specs.Boards.{IsBoardList}
use Rattle.golog_journal.specs.Taken.{IsReady}
use Rattle.golog_device.specs.Dealing.{scripted, DealtIf, DealtNow}
use Rattle.golog_device.specs.Slots.{Standing, Both, EachSlot, ChangesIf}
use Rattle.golog_device.proofs.Standings.{EachSlot-then}
use Rattle.golog_lead.specs.Rounds.{Adds, AreReady, HasServed, HasRun, is_refusal, TellLeft, FollowsRounds, RunsToEnd}
use Rattle.golog_lead.specs.Moments.{Moment, taken_by, progress, MayGoOn, StaysDealt, DealsOn, AreScripted, IsStage, RoundIs, RoundMade, Starved, RoundsAre, RoundsMade}
use Rattle.golog_lead.proofs.Adding.{one_round_more}
use Rattle.golog_lead.proofs.CommandsFew.{taken_within}
use Rattle.golog_lead.proofs.EndLast.{closes_follow}
use Rattle.golog_lead.proofs.Following.{follows_whole_at, follows_starved_at}
use Rattle.golog_lead.proofs.Over.{IsOverAll, over_is}
use Rattle.golog_lead.proofs.Serving.{deals-same}

-- nothing was taken at first
pub zeros : (n device : ℕ) → taken_by (replicate n 0) device ≡ 0
zeros zero device = refl
zeros (suc n) zero = refl
zeros (suc n) (suc device) = zeros n device

-- each device may have its first turn
pub on-first : (agent : Agent) (journal : Journal) (n : ℕ) → AreReady agent journal → MayGoOn agent journal (replicate n 0)
on-first agent journal n ready = record {
  few = λ device. subst (λ k. k ≤ length (commands agent device journal)) (sym (zeros n device)) (omega arith);
  ready = λ device below opened. subst (IsReady agent journal device) (sym (zeros n device)) (ready device below opened);
}

module _ (agent : Agent) where
  -- no round yet
  pub rounds-none : (turned : Journal → Journal) (early : Answer → Type 0) (m : Moment) → MayGoOn agent m.journal m.taken → RoundsMade agent turned early m m
  rounds-none turned early m on = record {
    since = [];
    grows = sym (append-nil m.journal);
    unrefused = refl;
    on = on;
    deals = deals-same agent m;
    count = 0;
    goes = omega arith;
    scripted = λ ds are. inl (record { entries = refl; devices = are });
  }

  -- what was closed stays closed
  shut-later : (device : ℕ) (journal since : Journal) → is_open device journal ≡ false → is_open device (journal ++ since) ≡ false
  shut-later device journal since shut =
      ap (λ j. not (list_any is_close j)) (filter-append (is_posted_by device) journal since)
      ∙ ap not (list_any-append is_close (entries_by device journal) (entries_by device since) ∙ or_left _ _ (opposite (list_any is_close (entries_by device journal)) shut))
    where
      opposite : (b : Bool) → not b ≡ false → b ≡ true
      opposite true h = refl
      opposite false h = absurd (cc)

  deals-then : (old mid new : Moment) (since : Journal) → mid.journal ≡ old.journal ++ since → DealsOn agent old mid → DealsOn agent mid new → DealsOn agent old new
  deals-then old mid new since grows first second = EachSlot-then _ _ _ old.standings mid.standings new.standings step first second
    where
      by : (x : Bool) (j : ℕ) (a b c : Standing) → ChangesIf x (StaysDealt agent old mid j) a b → ChangesIf x (StaysDealt agent mid new j) b c
          → ChangesIf x (StaysDealt agent old new j) a c
      by true j a b c before now = record {
        dealt = λ script far. now.dealt script (before.dealt script far);
        shut = λ shut. now.shut (ap (is_open j) grows ∙ shut-later j old.journal since shut) ∙ before.shut shut;
      }
      by false j a b c before now = now ∙ before

      step : (j : ℕ) (a b c : Standing) → ChangesIf (nat_lt j (length agent.devices)) (StaysDealt agent old mid j) a b
          → ChangesIf (nat_lt j (length agent.devices)) (StaysDealt agent mid new j) b c
          → ChangesIf (nat_lt j (length agent.devices)) (StaysDealt agent old new j) a c
      step j a b c before now = by (nat_lt j (length agent.devices)) j a b c before now

  -- what stands ends with the end and closings
  ended-then : (front closings : Journal) (a : Answer) → has_end (front ++ End a ∷ closings) ≡ true
  ended-then front closings a = list_any-append is_end front (End a ∷ closings) ∙ or_right (list_any is_end front) (true || list_any is_end closings) refl

  -- one more round
  module _ (turned : Journal → Journal) (early : Answer → Type 0) (start mid new : Moment) (list : IsBoardList agent new.journal)
      (made : RoundsMade agent turned early start mid) (one : RoundMade agent turned early mid new) where
    abbrev begun : List Scripted → Stage
    begun ds = record { journal = start.journal; devices = ds }

    -- of scripted devices
    round-follows : (s : Stage) → IsStage agent mid s → (k : ℕ) (ds : List Scripted) → rounds agent turned k (begun ds) ≡ s → RoundIs agent turned early mid.journal s.devices new
        → RoundsAre agent turned early (k + 1) (begun ds) new
    round-follows s stage k ds is (inl next) =
        let again : round agent turned (record { journal = mid.journal; devices = s.devices }) ≡ rounds agent turned (k + 1) (begun ds) =
        ap (λ j. round agent turned (record { journal = j; devices = s.devices })) stage.entries ∙ ap (round agent turned) (sym is) ∙ sym (one_round_more agent turned k (begun ds)) in
        inl (subst (IsStage agent new) again next)
    round-follows s stage k ds is (inr ends) =
        inr (record {
          before = k;
          earlier = omega arith;
          closings = [];
          are_closings = refl;
          answer = ends.answer;
          short = ends.short;
          is = ends.is ∙ ap (λ j. (turns_from agent 0 j s.devices).0 ++ End ends.answer ∷ []) stage.entries
              ∙ ap (λ (t : Stage). (turns_from agent 0 t.journal t.devices).0 ++ End ends.answer ∷ []) (sym is);
        })

    -- after the end only devices are closed
    still-starved : (k : ℕ) (s : Stage) → Starved agent turned early k s mid.journal → Starved agent turned early (k + 1) s new.journal
    still-starved k s starved =
        let front = (turns_from agent 0 (rounds agent turned starved.before s).journal (rounds agent turned starved.before s).devices).0 in
        let ended : has_end mid.journal ≡ true = ap has_end starved.is ∙ ended-then front starved.closings starved.answer in
        let more = closes_follow agent mid.journal one.since (subst (IsBoardList agent) one.grows list) ended in
        let least = starved.earlier in
        record {
          before = starved.before;
          earlier = omega (arith, least);
          closings = starved.closings ++ one.since;
          are_closings = list_all-append is_close starved.closings one.since ∙ and_from _ _ starved.are_closings more;
          answer = starved.answer;
          short = starved.short;
          is = one.grows ∙ ap (λ j. j ++ one.since) starved.is ∙ append_assoc front (End starved.answer ∷ starved.closings) one.since;
        }

    next-are : (ds : List Scripted) → RoundsAre agent turned early made.count (begun ds) mid → RoundsAre agent turned early (made.count + 1) (begun ds) new
    next-are ds (inl stage) =
        let s = rounds agent turned made.count (begun ds) in
        round-follows s stage made.count ds refl (one.scripted s.devices stage.devices)
    next-are ds (inr starved) = inr (still-starved made.count (begun ds) starved)

    pub rounds-next : RoundsMade agent turned early start new
    rounds-next = record {
      since = made.since ++ one.since;
      grows = one.grows ∙ ap (λ j. j ++ one.since) made.grows ∙ append_assoc start.journal made.since one.since;
      on = one.on;
      unrefused = list_any-append is_refusal made.since one.since ∙ or_from _ _ made.unrefused one.unrefused;
      deals = deals-then start mid new made.since made.grows made.deals one.deals;
      count = made.count + 1;
      goes = let m = made.goes in let o = one.goes in omega (arith, m, o);
      scripted = λ ds are. next-are ds (made.scripted ds are);
    }

  -- a run comes no further than so far
  pub progress-few : (m : Moment) → IsBoardList agent m.journal → MayGoOn agent m.journal m.taken → length m.journal ≤ longest → progress m ≤ (longest + limit)
  progress-few m list on short =
      let few = taken_within agent m.journal list m.taken few-each in
      omega (arith, few, short)
    where
      few-each : (d x : ℕ) → d < length m.taken → get_or m.taken d x ≤ length (commands agent d m.journal)
      few-each d x within = subst (λ n. n ≤ length (commands agent d m.journal)) (get_or_default m.taken d 0 x within) (on.few d)

  -- a run that is over
  module _ (keeps : Journal → Type 0) (turned : Journal → Journal) (early : Answer → Type 0) (start now : Moment) (none_taken : (device : ℕ) → taken_by start.taken device ≡ 0)
      (list : IsBoardList agent now.journal) (short : length now.journal ≤ longest) (kept : keeps now.journal) (whole : is_whole agent now.journal ≡ true)
      (made : RoundsMade agent turned early start now) where
    over : IsOverAll now.journal (length agent.devices)
    over = over_is agent now.journal whole

    ran-slot : (j : ℕ) → j < length agent.devices → (a b : Standing) → StaysDealt agent start now j a b → HasServed agent start.journal now.journal j a b
    ran-slot j below a b stays = record {
      dealt = λ script far.
          subst (λ o. DealtIf agent j o now.journal (taken_by now.taken j) script b.meaning) (over.shut j below)
          (stays.dealt script (subst (λ n. DealtNow agent j start.journal n script a.meaning) (sym (none_taken j)) far));
      shut = stays.shut;
    }

    ran-each : EachSlot (HasRun agent start.journal now.journal) start.standings now.standings
    ran-each = record { at = λ j. at j (slice_get start.standings j) (slice_get now.standings j) ((made.deals).at j) }
      where
        by : (j : ℕ) (x : Bool) → nat_lt j (length agent.devices) ≡ x → (a b : Standing) → ChangesIf x (StaysDealt agent start now j) a b
            → ChangesIf x (HasServed agent start.journal now.journal j) a b
        by j true below a b stays = ran-slot j (ltb-true j (length agent.devices) below) a b stays
        by j false past a b stays = stays

        at : (j : ℕ) (x y : Option Standing) → Both (ChangesIf (nat_lt j (length agent.devices)) (StaysDealt agent start now j)) x y
            → Both (HasRun agent start.journal now.journal j) x y
        at j None None both = tt
        at j None (Some b) both = absurd both
        at j (Some a) None both = absurd both
        at j (Some a) (Some b) both = by j (nat_lt j (length agent.devices)) refl a b both

    few-rounds : made.count ≤ (longest + limit)
    few-rounds = let g = made.goes in let p = progress-few now list made.on short in omega (arith, g, p)

    tell-scripts : (scripts : List Script) → length scripts ≡ length agent.devices → TellLeft start.standings scripts
        → AreScripted agent start (map new_scripted scripts)
    tell-scripts scripts many tell = record {
      one_each = length-map scripts new_scripted ∙ many;
      told = λ j below.
          one j (slice_get start.standings j) (slice_get scripts j) (slice_get-script j (let l = length-map scripts new_scripted in omega (arith, below, l)))
          (tell j (let l = length-map scripts new_scripted in omega (arith, below, l)))
          ∙ sym (slice_get-map new_scripted scripts j);
    }
      where
        slice_get-script : (j : ℕ) → j < length scripts → (s : Script) × (slice_get scripts j ≡ Some s)
        slice_get-script j within = let none : Script = record { answers = []; idle = [] } in (get_or scripts j none, slice_get-get_or scripts j none within)

        one : (j : ℕ) (x : Option Standing) (y : Option Script) → (s : Script) × (y ≡ Some s) → IsSomeAnd x (λ s. s.meaning.left ≡ y)
            → option_and_then (λ (s : Standing). option_map (λ left. scripted left (taken_by start.taken j)) s.meaning.left) x ≡ option_map new_scripted y
        one j None y some is = absurd is
        one j (Some a) y some is = ap (option_map (λ left. scripted left (taken_by start.taken j))) is ∙ by y
          where
            by : (y : Option Script) → option_map (λ left. scripted left (taken_by start.taken j)) y ≡ option_map new_scripted y
            by None = refl
            by (Some s) = ap (λ n. Some (scripted s n)) (none_taken j)

    module _ (adds : (journal : Journal) → Adds journal (turned journal)) (stays : (journal : Journal) → has_end journal ≡ true → turned journal ≡ journal) where
      follows : (scripts : List Script) → length scripts ≡ length agent.devices → RoundsAre agent turned early made.count (record { journal = start.journal; devices = map new_scripted scripts }) now
          → FollowsRounds turned early agent scripts start.journal now.journal
      follows scripts many (inl stage) =
          let few = few-rounds in
          let s = rounds agent turned made.count (record { journal = start.journal; devices = map new_scripted scripts }) in
          follows_whole_at agent turned early adds stays scripts start.journal now.journal made.count s refl (omega (arith, few))
          (subst (λ j. IsOverAll j (length scripts)) stage.entries (subst (IsOverAll now.journal) (sym many) over)) stage.entries
      follows scripts many (inr starved) =
          let few = few-rounds in
          let least = starved.earlier in
          let s = rounds agent turned starved.before (record { journal = start.journal; devices = map new_scripted scripts }) in
          follows_starved_at agent turned early adds stays scripts start.journal now.journal starved.before s refl (omega (arith, few, least)) starved.closings starved.answer starved.are_closings starved.short starved.is

      pub runs-to-end : RunsToEnd keeps turned early agent start.journal now.journal start.standings now.standings
      runs-to-end = record {
        since = made.since;
        grows = made.grows;
        unrefused = made.unrefused;
        kept = kept;
        whole = whole;
        run = ran-each;
        scripted = λ scripts many tell. follows scripts many (made.scripted (map new_scripted scripts) (tell-scripts scripts many tell));
      }
