-- What is kept of a program that follows plans, with one more entry.
use Rattle.std.proofs.Common.{◌≡◌, ℕ, ◌+◌, ◌≤◌, true, false, not, ◌&&◌, ◌⊎◌, inl, inr, [], ◌∷◌, ◌++◌, drop, Option, Some, None, refl, sym, ap, ◌∙◌, subst}
use Rattle.std.specs.Prelude.{IfSome, nat_lt, slice_get}
use Rattle.std.proofs.lemmas.Bool.{and_parts, not-true}
use Rattle.std.proofs.lemmas.Option.{same_Some}
use Rattle.golog_tree.specs.declared.agent.Agent.{Agent}
use Rattle.golog_tree.specs.declared.prog.Label.TheVariants.{Do as Doing}
use Rattle.golog_semantics.specs.declared.journal.Answer.{Answer}
use Rattle.golog_semantics.specs.declared.journal.Entry.{Entry}
use Rattle.golog_semantics.specs.declared.journal.Entry.TheVariants.{Do, Test, Exo, Sense, Rest, Close, End}
use Rattle.golog_semantics.specs.declared.Mode.TheVariants.{Must}
use Rattle.golog_semantics.specs.BlockFree.{has_block}
use Rattle.golog_semantics.specs.InSorts.{AreInSorts}
use Rattle.golog_progress.specs.Entries.{EntriesFit}
use Rattle.golog_semantics.specs.Journal.{Journal, count, lacks_results, limit}
use Rattle.golog_semantics.specs.Online.{label_of}
use Rattle.golog_semantics.specs.Progress.{after_entry, values_after}
use Rattle.golog_semantics.specs.Search.{final}
use Rattle.golog_semantics.specs.Truth.{Values}
use Rattle.golog_semantics.specs.WellFormed.{WellFormed}
use Rattle.golog_semantics.proofs.Pushed.{values_after-push}
use Rattle.golog_journal.specs.Boards.{AgentJournal, IsBoardList}
use Rattle.golog_journal.proofs.Serving.{well_formed_serves}
use Rattle.golog_ways.specs.Searched.{IsSearched}
use Rattle.golog_lead.specs.Keeping.{ended_by}
use Rattle.golog_lead.proofs.Growing.{ends-after, first-rules, next-fits}
use Rattle.golog_branch.specs.declared.following.Kept.{Kept}
use Rattle.golog_branch.specs.Following.{ahead, kept_after, kept_at}
use Rattle.golog_branch.specs.PlanJournals.{IsPlannedSoFar, KeepsPlanned, is_label, label_ahead}
use Rattle.golog_branch.proofs.KeptSearched.{kept-searched, kept_after-push}
use Rattle.golog_plan.specs.Keeping.{IsFollowed, KeepsPlan, KeptFor, LacksOne, PlanCourse, kept_by, kept_on, with_list}
use Rattle.golog_plan.proofs.Awaiting.{lacks-one-more}

-- ---- journals with one more entry

-- the entry is the last, or stands among those before
record Among (xs : Journal) (before : Journal) (x : Entry) : Type 0 where
  pub later : Journal
  pub is : xs ≡ before ++ x ∷ later

head-same : (x y : Entry) (xs ys : Journal) → x ∷ xs ≡ y ∷ ys → x ≡ y
head-same x y xs ys e = same_Some x y (ap (λ (l : Journal). slice_get l 0) e)

none-there : (before : Journal) (x : Entry) (later : Journal) → [] ≡ before ++ x ∷ later → ⊥
none-there [] x later e = absurd (cc)
none-there (b ∷ before) x later e = absurd (cc)

push-split : (xs : Journal) (e : Entry) (before : Journal) (x : Entry) (later : Journal) → xs ++ e ∷ [] ≡ before ++ x ∷ later
    → ((before ≡ xs) × (x ≡ e)) ⊎ Among xs before x
push-split [] e [] x later is = inl (refl, sym (head-same e x [] later is))
push-split [] e (b ∷ before) x later is = absurd (none-there before x later (ap (drop 1) is))
push-split (y ∷ xs) e [] x later is = inr (record { later = xs; is = ap (λ (z : Entry). z ∷ xs) (head-same y x (xs ++ e ∷ []) later is) })
push-split (y ∷ xs) e (b ∷ before) x later is = go (push-split xs e before x later (ap (drop 1) is))
  where
    same : y ≡ b
    same = head-same y b (xs ++ e ∷ []) (before ++ x ∷ later) is

    go : ((before ≡ xs) × (x ≡ e)) ⊎ Among xs before x → ((b ∷ before ≡ y ∷ xs) × (x ≡ e)) ⊎ Among (y ∷ xs) (b ∷ before) x
    go (inl p) = inl (ap (λ (z : Entry). z ∷ before) (sym same) ∙ ap (λ (zs : Journal). y ∷ zs) p.0, p.1)
    go (inr a) = inr (record { later = a.later; is = ap (λ (z : Entry). z ∷ xs) same ∙ ap (λ (zs : Journal). b ∷ zs) a.is })

module _ (agent : Agent) (depth fuel : ℕ) where
  pub planned-grows : (journal : Journal) (e : Entry) → IsPlannedSoFar agent depth fuel journal → KeepsPlanned agent depth fuel journal e → IsPlannedSoFar agent depth fuel (journal ++ e ∷ [])
  planned-grows journal e so_far keeps = record { entries = each }
    where
      each : (before : Journal) (x : Entry) (later : Journal) → journal ++ e ∷ [] ≡ before ++ x ∷ later → KeepsPlanned agent depth fuel before x
      each before x later is = go (push-split journal e before x later is)
        where
          go : ((before ≡ journal) × (x ≡ e)) ⊎ Among journal before x → KeepsPlanned agent depth fuel before x
          go (inl p) = subst (λ j. KeepsPlanned agent depth fuel j x) (sym p.0) (subst (KeepsPlanned agent depth fuel journal) (sym p.1) keeps)
          go (inr a) = so_far.entries before x a.later a.is

  pub planned-none : IsPlannedSoFar agent depth fuel []
  planned-none = record { entries = λ before e later is. absurd (none-there before e later is) }

  -- ---- what is kept

  -- what is kept goes on with what is kept after the entry
  stepless : (values : Values) (k : Kept) (e : Entry) → label_of e ≡ None → kept_at agent depth fuel values k e ≡ kept_on e k
  stepless values k (Do a) h = absurd (cc)
  stepless values k Test h = absurd (cc)
  stepless values k (Exo p a) h = refl
  stepless values k (Sense p at f v) h = refl
  stepless values k (Rest p t) h = refl
  stepless values k (Close p r t) h = refl
  stepless values k (End a) h = refl

-- a step was taken where no result was lacking
lacked-none : (c : PlanCourse) (action : ℕ) → KeepsPlanned c.agent c.depth c.fuel c.list (Do action) → lacks_results c.agent c.list ≡ false
lacked-none c action keeps =
    let values = values_after c.agent c.list in
    let k = kept_after c.agent c.depth c.fuel c.list in
    let last = is_label (Doing action) (label_ahead (ahead c.agent c.depth c.fuel values k)) in
    let four = and_parts (not (lacks_results c.agent c.list) && not (final c.agent values Must k.left) && nat_lt (count c.list) limit) last keeps.step in
    let three = and_parts (not (lacks_results c.agent c.list) && not (final c.agent values Must k.left)) (nat_lt (count c.list) limit) four.0 in
    not-true (lacks_results c.agent c.list) (and_parts (not (lacks_results c.agent c.list)) (not (final c.agent values Must k.left)) three.0).0

module _ (c : PlanCourse) (e : Entry) where
  abbrev next : PlanCourse
  next = with_list c (c.list ++ e ∷ [])

  kept-then : (was given : Option Kept) (later : Kept) → IfSome was (λ (k : Kept). k ≡ kept_after c.agent c.depth c.fuel c.list) → KeptFor c e given → Some later ≡ kept_by was given e
      → later ≡ kept_after c.agent c.depth c.fuel (c.list ++ e ∷ [])
  kept-then was (Some given) later so fits is = same_Some later given is ∙ fits
  kept-then None None later so fits is = absurd (cc)
  kept-then (Some k) None later so fits is =
      same_Some later (kept_on e k) is ∙ ap (kept_on e) so
      ∙ sym (stepless c.agent c.depth c.fuel (values_after c.agent c.list) (kept_after c.agent c.depth c.fuel c.list) e fits)
      ∙ sym (kept_after-push c.agent c.depth c.fuel c.list e)

  pub kept-next : (was given later : Option Kept) → IfSome was (λ (k : Kept). k ≡ kept_after c.agent c.depth c.fuel c.list) → KeptFor c e given
      → IfSome later (λ (k : Kept). Some k ≡ kept_by was given e) → IfSome later (λ (k : Kept). k ≡ kept_after c.agent c.depth c.fuel (c.list ++ e ∷ []))
  kept-next was given None so fits is = tt
  kept-next was given (Some k) so fits is = kept-then was given k so fits is

  pub followed-next : IsFollowed c → IsBoardList c.agent (c.list ++ e ∷ []) → KeepsPlanned c.agent c.depth c.fuel c.list e → IsFollowed next
  followed-next f lawful keeps = record {
    formed = f.formed;
    blockless = f.blockless;
    deep = f.deep;
    fueled = f.fueled;
    lawful = lawful;
    planned = planned-grows c.agent c.depth c.fuel c.list e f.planned keeps;
  }

  pub lacks-one-next : IsFollowed c → LacksOne c.agent c.list → KeepsPlanned c.agent c.depth c.fuel c.list e → LacksOne c.agent (c.list ++ e ∷ [])
  lacks-one-next f one keeps =
      lacks-one-more c.agent c.list e (well_formed_serves c.agent f.formed)
      (λ action is. lacked-none c action (subst (KeepsPlanned c.agent c.depth c.fuel c.list) is keeps)) one

-- what may be searched from
pub searched : (c : PlanCourse) → IsFollowed c → IsSearched c.agent (kept_after c.agent c.depth c.fuel c.list).left (values_after c.agent c.list)
searched c f = kept-searched c.agent c.depth c.fuel f.formed c.list f.planned f.blockless

-- ---- as it is kept

-- as contracts see it
abbrev pub seen_as : AgentJournal → ℕ → ℕ → PlanCourse
seen_as j depth fuel = record { agent = j.agent; depth = depth; fuel = fuel; list = j.entries }

-- all that is kept, after one more entry
pub keeps-next : (held after : AgentJournal) (depth fuel : ℕ) (value : PlanCourse) (e : Entry) (own : Agent) (state later : Values) (was given kept : Option Kept) (ended last : Option Answer)
    → seen_as held depth fuel ≡ value → KeepsPlan (seen_as held depth fuel) own state was ended → IsBoardList value.agent (value.list ++ e ∷ [])
    → KeepsPlanned value.agent value.depth value.fuel value.list e → KeptFor value e given
    → after ≡ record { agent = held.agent; entries = held.entries ++ e ∷ [] } → later ≡ after_entry own state e
    → IfSome kept (λ (k : Kept). Some k ≡ kept_by was given e) → last ≡ ended_by ended e
    → KeepsPlan (seen_as after depth fuel) own later kept last
keeps-next held after depth fuel value e own state later was given kept ended last is k lawful planned fits ja la ka ea =
    let c = seen_as held depth fuel in
    let lawful-in = subst (λ (v : PlanCourse). IsBoardList v.agent (v.list ++ e ∷ [])) (sym is) lawful in
    let planned-in = subst (λ (v : PlanCourse). KeepsPlanned v.agent v.depth v.fuel v.list e) (sym is) planned in
    let fits-in = subst (λ (v : PlanCourse). KeptFor v e given) (sym is) fits in
    let whole : KeepsPlan (with_list c (c.list ++ e ∷ [])) own (after_entry own state e) kept (ended_by ended e) = record {
      followed = followed-next c e k.followed lawful-in planned-in;
      own_so = k.own_so;
      state_so =
          ap (λ (a : Agent). after_entry a state e) k.own_so ∙ ap (λ (v : Values). after_entry c.agent v e) k.state_so
          ∙ sym (values_after-push c.agent c.list e);
      kept_so = kept-next c e was given kept k.kept_so fits-in ka;
      ends = ends-after c.agent c.list ended e k.ends;
      lacks_one = lacks-one-next c e k.followed k.lacks_one planned-in;
    } in
    subst (λ (j : AgentJournal). KeepsPlan (seen_as j depth fuel) own later kept last) (sym ja)
    (subst (λ (v : Values). KeepsPlan (with_list c (c.list ++ e ∷ [])) own v kept last) (sym la)
    (subst (λ (o : Option Answer). KeepsPlan (with_list c (c.list ++ e ∷ [])) own (after_entry own state e) kept o) (sym ea) whole))

-- before any entry
pub keeps-first : (agent : Agent) (depth fuel : ℕ) (journal : AgentJournal) (state : Values) (kept : Kept) → WellFormed agent → not (has_block agent agent.main) ≡ true → 1 ≤ depth → 1 ≤ fuel
    → journal ≡ record { agent = agent; entries = [] } → state ≡ values_after agent [] → kept ≡ record { left = agent.main; plan = None }
    → KeepsPlan (seen_as journal depth fuel) agent state (Some kept) None
keeps-first agent depth fuel journal state kept formed free deep fueled empty known is =
    subst (λ (j : AgentJournal). KeepsPlan (seen_as j depth fuel) agent state (Some kept) None) (sym empty)
    (record {
      followed = record { formed = formed; blockless = free; deep = deep; fueled = fueled; lawful = first-rules agent; planned = planned-none agent depth fuel };
      own_so = refl;
      state_so = known;
      kept_so = is;
      ends = refl;
      lacks_one = λ d e below within lacks too. absurd (cc);
    })

-- ---- what is known of it

module _ (c : PlanCourse) (own : Agent) (state : Values) (kept : Option Kept) (ended : Option Answer) (k : KeepsPlan c own state kept ended) where
  pub own-formed : WellFormed own
  own-formed = subst WellFormed (sym k.own_so) k.followed.formed

  pub own-searched : IsSearched own (kept_after c.agent c.depth c.fuel c.list).left state
  own-searched =
      subst (λ a. IsSearched a (kept_after c.agent c.depth c.fuel c.list).left state) (sym k.own_so)
      (subst (IsSearched c.agent (kept_after c.agent c.depth c.fuel c.list).left) (sym k.state_so) (searched c k.followed))

  pub own-sorts : AreInSorts own state
  own-sorts = own-searched.sorts

  pub own-fits : (value : PlanCourse) (e : Entry) → c ≡ value → IsBoardList value.agent (value.list ++ e ∷ []) → EntriesFit own (e ∷ [])
  own-fits value e is lawful =
      subst (λ a. EntriesFit a (e ∷ [])) (sym k.own_so)
      (next-fits c.agent c.list e (subst (λ (v : PlanCourse). IsBoardList v.agent (v.list ++ e ∷ [])) (sym is) lawful))
