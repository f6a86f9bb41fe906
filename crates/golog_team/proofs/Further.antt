-- What a side keeps where more notes are read, with the same journal.
use Rattle.std.proofs.Common.{◌≡◌, ℕ, ◌+◌, Bool, true, false, not, ◌&&◌, Option, Some, None, List, [], ◌∷◌, ◌++◌, length, refl, sym, ap, ◌∙◌, subst, arith, append_assoc, ◌⊎◌, inl, inr}
use Rattle.std.specs.Prelude.{map}
use Rattle.std.specs.List.{list_any}
use Rattle.std.proofs.lemmas.Bool.{or_left}
use Rattle.std.proofs.lemmas.List.{append-nil, map-append}
use Rattle.std.proofs.lemmas.List.Folds.{list_any-append}
use Rattle.golog_tree.specs.declared.agent.Agent.{Agent}
use Rattle.golog_semantics.specs.Journal.{Journal, is_carried_by}
use Rattle.golog_semantics.specs.Text.{action_text}
use Rattle.golog_team.specs.declared.note.Note.TheVariants.{Waiting, Ended}
use Rattle.golog_team.specs.declared.note.SideNote.{SideNote}
use Rattle.golog_team.specs.Notes.{Notes, put_by, across, is_own, is_send, sends, ends, waited}
use Rattle.golog_team.specs.Steps.{Station, station, seen_at, Reads}
use Rattle.golog_team.specs.Linked.{posted, texts, Begins, WaitsAt, BothWaitAt, HasEnded}
use Rattle.golog_team.specs.Keeping.{heard_in, has_stranger, CameToEnd, IsClosedFor, ClosedSo, IsOver, RestedSo, WaitedSo, StillSo, Keeps}
use Rattle.golog_team.proofs.NoteLists.{StandsLeft, StandsRight, where-it-stands, none-left, none-right, none-both, sends-append, ends-append, foreign-sends, foreign-ends, no-news-sends, SendsAlone, foreign-alone, no-own-waiting, waited-append, still-said}

-- what was heard of more notes
pub heard-append : (other : Agent) (side : ℕ) (xs ys : Notes) → heard_in other side (xs ++ ys) ≡ heard_in other side xs ++ heard_in other side ys
heard-append other side xs ys = ap (texts other) (sends-append (across side) xs ys) ∙ map-append (action_text other) (sends (across side) xs) (sends (across side) ys)

pub begins-further : {A : Type 0} (front list more : List A) → Begins front list → Begins front (list ++ more)
begins-further front list more (rest, is) = (rest ++ more, ap (λ l. l ++ more) is ∙ append_assoc front rest more)

module _ (side : ℕ) where
  pub rested-further : (notes ys : Notes) (journal : Journal) → RestedSo side notes journal → RestedSo side (notes ++ ys) journal
  rested-further notes ys journal so before later k is =
      let b = so before later k is in
      record {
        front = b.front;
        later = b.later ++ ys;
        cut = ap (λ l. l ++ ys) b.cut ∙ append_assoc b.front b.later ys;
        both = b.both;
        with_length = b.with_length;
      }

  pub over-further : (seen ys : Notes) (journal : Journal) → list_any (is_own side) ys ≡ false → (ends side seen ≡ 0) ⊎ IsOver side seen journal
      → (ends side (seen ++ ys) ≡ 0) ⊎ IsOver side (seen ++ ys) journal
  over-further seen ys journal foreign (inl none) =
      inl (let e = ends-append side seen ys in let f = foreign-ends side ys foreign in omega (arith, e, f, none))
  over-further seen ys journal foreign (inr o) =
      let h = o.ended in
      inr (record {
        finished = o.finished;
        shut = o.shut;
        ended = record {
          before = h.before;
          later = h.later ++ ys;
          stands = ap (λ l. l ++ ys) h.stands ∙ append_assoc h.before (put_by side Ended ∷ h.later) ys;
          first = h.first;
          last = none-both (is_own side) h.later ys h.last foreign;
          behind = h.behind;
        };
      })

module _ (agent other : Agent) (side : ℕ) where
  pub stranger-further : (notes ys : Notes) → has_stranger agent other side notes ≡ true → has_stranger agent other side (notes ++ ys) ≡ true
  stranger-further notes ys h =
      ap (list_any (λ a. not (is_carried_by other 0 a))) (sends-append (across side) notes ys)
      ∙ list_any-append (λ a. not (is_carried_by other 0 a)) (sends (across side) notes) (sends (across side) ys)
      ∙ or_left (has_stranger agent other side notes) (has_stranger agent other side ys) h

  pub closed-further : (notes ys : Notes) (journal : Journal) (count : ℕ) → ClosedSo agent other side notes journal count → ClosedSo agent other side (notes ++ ys) journal count
  closed-further notes ys journal count so reason taken there =
      let c = so reason taken there in
      record {
        same_taken = c.same_taken;
        unrefused = c.unrefused;
        bad = λ h. stranger-further notes ys (c.bad h);
        at_end = λ h. let a = c.at_end h in record {
          before = a.before;
          later = a.later ++ ys;
          stands = ap (λ l. l ++ ys) a.stands ∙ append_assoc a.before (put_by (across side) Ended ∷ a.later) ys;
          whole = a.whole;
        };
      }

  module _ (waits : Journal → Bool) where
    -- with notes of which each Waiting of the side is so
    pub waited-with-more : (notes ys : Notes) (journal : Journal)
        → ((mid later : Notes) (n : ℕ) → ys ≡ mid ++ put_by side (Waiting n) ∷ later → WaitsAt agent side waits (notes ++ mid) journal n)
        → WaitedSo agent other side waits notes journal → WaitedSo agent other side waits (notes ++ ys) journal
    waited-with-more notes ys journal new so before later n is = go (where-it-stands notes ys before later (put_by side (Waiting n)) is)
      where
        go : StandsLeft notes before (put_by side (Waiting n)) ⊎ StandsRight notes ys before later (put_by side (Waiting n))
            → WaitsAt agent side waits before journal n
        go (inl l) = so before l.mid n l.is
        go (inr r) = subst (λ b. WaitsAt agent side waits b journal n) (sym r.front) (new r.mid later n r.is)

    -- with none
    pub waited-further : (notes ys : Notes) (journal : Journal) → SendsAlone side ys → WaitedSo agent other side waits notes journal
        → WaitedSo agent other side waits (notes ++ ys) journal
    waited-further notes ys journal alone so =
        waited-with-more notes ys journal (λ mid later n is. no-own-waiting side n ys mid later alone is) so

    -- what it has said it has said before, and has sent nothing since
    pub still-further : (notes ys : Notes) (journal : Journal) → SendsAlone side ys → StillSo agent other side waits notes journal
        → StillSo agent other side waits (notes ++ ys) journal
    still-further notes ys journal alone so n says goes still loud all =
        let s = still-said side n ys (waited side notes) alone (sym (waited-append side notes ys) ∙ says) in
        so n s.0 goes still loud
        (sym (ap (λ (l : List ℕ). length l) (sends-append side notes ys ∙ ap (λ l. sends side notes ++ l) s.1 ∙ append-nil (sends side notes))) ∙ all)

    -- a side that has read keeps all
    pub reads-keep : (old new : Station) → Keeps agent other side waits old → Reads side old new → Keeps agent other side waits new
    reads-keep old new k r = subst (Keeps agent other side waits) (sym r.now) (record {
      lawful = k.lawful;
      few = k.few;
      ready = k.ready;
      sent =
          ap (sends side) seen ∙ sends-append side (seen_at old) r.others
          ∙ ap (λ l. sends side (seen_at old) ++ l) (foreign-sends side r.others r.foreign)
          ∙ append-nil (sends side (seen_at old)) ∙ k.sent;
      came = subst (Begins (texts agent (posted old.journal))) (sym heard) k.came;
      all_came = λ o. k.all_came o ∙ sym heard;
      closed = closed-further old.told r.passed old.journal old.taken k.closed;
      senseless = k.senseless;
      unread_sends = none-right own_other r.passed r.rest both;
      waited_so = waited-further old.told r.passed old.journal alone k.waited_so;
      rested_so = rested-further side old.told r.passed old.journal k.rested_so;
      still = still-further old.told r.passed old.journal alone k.still;
      over = subst (λ s. (ends side s ≡ 0) ⊎ IsOver side s old.journal) (sym seen) (over-further side (seen_at old) r.others old.journal r.foreign k.over);
    })
      where
        own_other : SideNote → Bool
        own_other = λ n. is_own side n && not (is_send n.note)

        both : list_any own_other (r.passed ++ r.rest) ≡ false
        both = ap (list_any own_other) (sym r.come) ∙ none-both own_other old.unread r.others k.unread_sends (foreign-alone side r.others r.foreign)

        alone : SendsAlone side r.passed
        alone = none-left own_other r.passed r.rest both

        seen : (old.told ++ r.passed) ++ r.rest ≡ seen_at old ++ r.others
        seen = append_assoc old.told r.passed r.rest ∙ ap (λ l. old.told ++ l) (sym r.come) ∙ sym (append_assoc old.told old.unread r.others)

        heard : heard_in other side (old.told ++ r.passed) ≡ heard_in other side old.told
        heard =
            heard-append other side old.told r.passed
            ∙ ap (λ l. heard_in other side old.told ++ texts other l) (no-news-sends side r.passed r.no_news)
            ∙ append-nil (heard_in other side old.told)
