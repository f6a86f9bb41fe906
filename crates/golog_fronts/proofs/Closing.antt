-- The parts of a closed program are closed, and lead less deep.
use Rattle.std.proofs.Common.{◌≡◌, ℕ, zero, suc, ◌+◌, ◌*◌, ◌<◌, ◌≤◌, max, Bool, true, false, ◌&&◌, if◌then◌else◌, List, [], ◌∷◌, length, refl, sym, ap, ◌∙◌, subst, arith}
use Rattle.std.specs.Prelude.{nat_le, slice_get}
use Rattle.std.specs.List.{list_all}
use Rattle.std.specs.Option.{option_map_or}
use Rattle.std.proofs.lemmas.Bool.{leb-true}
use Rattle.golog_tree.specs.declared.agent.Agent.{Agent}
use Rattle.golog_tree.specs.declared.agent.ProcItem.{ProcItem}
use Rattle.golog_tree.specs.declared.cond.Arg.{Arg}
use Rattle.golog_tree.specs.declared.cond.Cond.{Cond}
use Rattle.golog_tree.specs.declared.prog.Prog.{Prog}
use Rattle.golog_tree.specs.declared.prog.Way.{Way}
use Rattle.golog_tree.specs.declared.prog.Prog.TheOpen.{Act, Test, Seq, Choice, Pick, Star, If, While, Conc, Prio, Cstar, Call, Search, Follow}
use Rattle.golog_tree.specs.declared.prog.Prog.TheVariants as prog
use Rattle.golog_tree.specs.declared.prog.Prog.TheViews.{out-Prog}
use Rattle.golog_tree.specs.declared.prog.Prog.TheFolds.{fold_out-Prog, map-Prog}
use Rattle.golog_tree.specs.Ground.{sort_size}
use Rattle.golog_tree.specs.Tidy.{Layer}
use Rattle.golog_semantics.specs.Program.{put_arg, body_of}
use Rattle.golog_semantics.specs.Guarded.{Front, front}
use Rattle.golog_semantics.specs.Fits.{args_fit, binder_fits, bound, cond_fits, nothing_bound}
use Rattle.golog_semantics.specs.ProgFits.{Position, act_fits, block_fits, outermost, prog_fits, prog_step, way_step}
use Rattle.golog_semantics.proofs.ClosedFits.{body_closed, put_closed}
use Rattle.golog_semantics.proofs.Parts.{front-at, front-put_arg}
use Rattle.golog_semantics.proofs.ProgPut.{at_scope, way_fits}
use Rattle.golog_semantics.proofs.Settled.{bodies}
use Rattle.golog_semantics.proofs.Tests.{and_cases}
use Rattle.golog_semantics.specs.declared.Mode.TheVariants.{Must}
use Rattle.golog_fronts.specs.Closed.{IsClosed, IsFit}

module _ (agent : Agent) where
  abbrev A : Type 0
  A = Position → Bool

  abbrev outside : Bool → Position
  outside b = at_scope nothing_bound b

  abbrev pub height : Prog → ℕ
  height p = (front agent p).height

  -- one level of a closed program fits
  level : (p : Prog) (c : IsClosed agent p) (l : Layer) → out-Prog p ≡ l → prog_step agent (map-Prog Prog Way A A (prog_fits agent) (way_fits agent) l) (outside c.in_block) ≡ true
  level p c l e =
      ap (λ k. prog_step agent (map-Prog Prog Way A A (prog_fits agent) (way_fits agent) k) (outside c.in_block)) (sym e)
      ∙ sym (ap (λ (f : A). f (outside c.in_block)) (fold_out-Prog A A (prog_step agent) (way_step agent) p))
      ∙ c.fits

  closed : (b : Bool) (p : Prog) → prog_fits agent p (outside b) ≡ true → IsClosed agent p
  closed b p h = record { in_block = b; fits = h }

  -- a part of a program at its front
  pub record PartOf (r p : Prog) : Type 0 where
    pub closed_too : IsClosed agent p
    pub lower : height p < height r

  -- two parts at the front
  pub record PartsOf (r p q : Prog) : Type 0 where
    pub one : PartOf r p
    pub other : PartOf r q

  -- the parts of a sequence, of which the second is at the front where the first may be skipped
  pub record SeqParts (r p q : Prog) : Type 0 where
    pub one : PartOf r p
    pub other_closed : IsClosed agent q
    pub other_lower : (front agent p).skip ≡ true → height q < height r

  -- the condition and the branches of an `if`
  pub record IfParts (r : Prog) (t : Cond) (p q : Prog) : Type 0 where
    pub cond : cond_fits agent t nothing_bound ≡ true
    pub yes : PartOf r p
    pub no : PartOf r q

  -- the condition and the body of a `while`
  pub record WhileParts (r : Prog) (t : Cond) (p : Prog) : Type 0 where
    pub cond : cond_fits agent t nothing_bound ≡ true
    pub body : PartOf r p

  -- how deep two parts lead of which the second may stand at the front only where the first may be skipped
  abbrev pub both_height : Prog → Prog → ℕ
  both_height p q = max (height p) (if (front agent p).skip then height q else 0)

  -- a part as a walk comes down to it
  pub record Down (r p : Prog) : Type 0 where
    pub closed_too : IsClosed agent p
    pub to_part : 1 + 3 * height p < 1 + 3 * height r
    pub to_more : 2 + 3 * height p < 1 + 3 * height r
    pub from_whole : 1 + 3 * height p < 3 * height r
    pub more_from_whole : 2 + 3 * height p < 3 * height r

  -- two parts as a walk comes down to both
  pub record BothDown (r p q : Prog) : Type 0 where
    pub one : IsClosed agent p
    pub other : IsClosed agent q
    pub to_both : 2 + 3 * max (height p) (height q) < 1 + 3 * height r
    pub to_either : 3 + 3 * max (height p) (height q) < 1 + 3 * height r
    pub from_whole : 2 + 3 * max (height p) (height q) < 3 * height r

  -- a construct as it is handed on whole
  pub record Whole (r q : Prog) : Type 0 where
    pub closed_too : IsClosed agent q
    pub lower : 3 * height q < 1 + 3 * height r

  -- two parts as they are handed on to where both are walked over, the second only where the first may be skipped
  pub record BothUnder (r p q : Prog) : Type 0 where
    pub one : IsClosed agent p
    pub other : IsClosed agent q
    pub lower : 2 + 3 * both_height p q < 1 + 3 * height r

  pub both_one_lower : (p q : Prog) → 1 + 3 * height p < 2 + 3 * both_height p q
  both_one_lower p q = go (if (front agent p).skip then height q else 0)
    where
      go : (n : ℕ) → 1 + 3 * height p < 2 + 3 * max (height p) n
      go n = omega arith

  pub both_other_lower : (p q : Prog) → (front agent p).skip ≡ true → 1 + 3 * height q < 2 + 3 * both_height p q
  both_other_lower p q s = go (front agent p).skip s
    where
      go : (b : Bool) → b ≡ true → 1 + 3 * height q < 2 + 3 * max (height p) (if b then height q else 0)
      go true e = omega arith
      go false e = absurd (cc)

  both_under : (r p q : Prog) → height p < height r → ((front agent p).skip ≡ true → height q < height r) → 2 + 3 * both_height p q < 1 + 3 * height r
  both_under r p q l h = go (front agent p).skip h
    where
      go : (b : Bool) → (b ≡ true → height q < height r) → 2 + 3 * max (height p) (if b then height q else 0) < 1 + 3 * height r
      go true k = let j = k refl in omega arith
      go false k = omega arith

  pub search_part : (r p : Prog) (depth fuel : ℕ) → IsClosed agent r → r ≡ prog.Search depth fuel p → PartOf r p
  search_part r p depth fuel c e =
      let is : out-Prog r ≡ Search depth fuel p = ap out-Prog e ∙ prog.outs-Search depth fuel p in
      let k = and_cases (block_fits (outside c.in_block) depth fuel) (prog_fits agent p (outside true)) (level r c (Search depth fuel p) is) in
      let h = ap (λ (f : Front). f.height) (front-at agent r (Search depth fuel p) is) in
      record { closed_too = closed true p k.1; lower = omega arith }

  pub follow_part : (r p : Prog) (depth fuel : ℕ) (rest : List Way) → IsClosed agent r → r ≡ prog.Follow depth fuel p rest → PartOf r p
  follow_part r p depth fuel rest c e =
      let is : out-Prog r ≡ Follow depth fuel p rest = ap out-Prog e ∙ prog.outs-Follow depth fuel p rest in
      let j = and_cases _ _ (level r c (Follow depth fuel p rest) is) in
      let k = and_cases (block_fits (outside c.in_block) depth fuel) (prog_fits agent p (outside true)) j.0 in
      let h = ap (λ (f : Front). f.height) (front-at agent r (Follow depth fuel p rest) is) in
      record { closed_too = closed true p k.1; lower = omega arith }

  pub test_fits : (r : Prog) (t : Cond) → IsClosed agent r → r ≡ prog.Test t → cond_fits agent t nothing_bound ≡ true
  test_fits r t c e = level r c (Test t) (ap out-Prog e ∙ prog.outs-Test t)

  pub act_fits-of : (r : Prog) (action : ℕ) (args : List Arg) → IsClosed agent r → r ≡ prog.Act action args → act_fits agent outermost action args ≡ true
  act_fits-of r action args c e = level r c (Act action args) (ap out-Prog e ∙ prog.outs-Act action args)

  -- the body of a `pick` with a constant of the sort put in
  pub pick_part : (r : Prog) (x sort : ℕ) (p : Prog) → IsClosed agent r → r ≡ prog.Pick x sort p → (value : ℕ) → value < sort_size agent sort → PartOf r (put_arg p x value)
  pick_part r x sort p c e value below =
      let is : out-Prog r ≡ Pick x sort p = ap out-Prog e ∙ prog.outs-Pick x sort p in
      let k = and_cases (binder_fits agent x sort) (prog_fits agent p (at_scope (bound nothing_bound x sort) c.in_block)) (level r c (Pick x sort p) is) in
      let h = ap (λ (f : Front). f.height) (front-at agent r (Pick x sort p) is) in
      let same = ap (λ (f : Front). f.height) (front-put_arg agent p x value) in
      record { closed_too = closed c.in_block (put_arg p x value) (put_closed agent c.in_block p x sort value k.1 below); lower = omega arith }

  -- the body of a call, with its arguments put in
  pub call_part : IsFit agent → (r : Prog) (item : ℕ) (args : List Arg) → IsClosed agent r → r ≡ prog.Call item args → PartOf r (body_of agent item args)
  call_part f r item args c e =
      let is : out-Prog r ≡ Call item args = ap out-Prog e ∙ prog.outs-Call item args in
      let h = ap (λ (k : Front). k.height) (front-at agent r (Call item args) is) in
      let same = ap (λ (k : Front). k.height) ((bodies agent [] Must f.guarded).front_is item args) in
      record { closed_too = closed c.in_block (body_of agent item args) (body_closed agent f.procs c.in_block item args (level r c (Call item args) is)); lower = omega arith }

  count-args : (sorts : List ℕ) (args : List Arg) → args_fit agent nothing_bound sorts args ≡ true → length args ≡ length sorts
  count-args [] [] h = refl
  count-args [] (arg ∷ args) h = absurd (cc)
  count-args (s ∷ sorts) [] h = absurd (cc)
  count-args (s ∷ sorts) (arg ∷ args) h = ap suc (count-args sorts args (and_cases _ (args_fit agent nothing_bound sorts args) h).1)

  abbrev fits_params : List Arg → ProcItem → Bool
  fits_params args item = args_fit agent nothing_bound item.params args

  few-args : (procs : List ProcItem) (item : ℕ) (args : List Arg) → list_all (λ (i : ProcItem). nat_le (length i.params) 3) procs ≡ true
      → option_map_or (fits_params args) (slice_get procs item) false ≡ true → length args ≤ 3
  few-args [] item args h k = absurd (cc)
  few-args (i ∷ procs) zero args h k =
      let few = leb-true (length i.params) 3 (and_cases (nat_le (length i.params) 3) (list_all (λ (j : ProcItem). nat_le (length j.params) 3) procs) h).0 in
      subst (λ n. n ≤ 3) (sym (count-args i.params args k)) few
  few-args (i ∷ procs) (suc item) args h k =
      few-args procs item args (and_cases (nat_le (length i.params) 3) (list_all (λ (j : ProcItem). nat_le (length j.params) 3) procs) h).1 k

  -- a call has at most three arguments
  pub call_few : IsFit agent → (r : Prog) (item : ℕ) (args : List Arg) → IsClosed agent r → r ≡ prog.Call item args → length args ≤ 3
  call_few f r item args c e =
      let is : out-Prog r ≡ Call item args = ap out-Prog e ∙ prog.outs-Call item args in
      few-args agent.procs item args f.params (and_cases (option_map_or (fits_params args) (slice_get agent.procs item) false) _ (level r c (Call item args) is)).0

module _ {agent : Agent} {r p q : Prog} where
  -- two parts that fit as the program does, and lead less deep
  both_parts : (c : IsClosed agent r) → (prog_fits agent p (outside agent c.in_block) && prog_fits agent q (outside agent c.in_block)) ≡ true
      → height agent r ≡ 1 + max (height agent p) (height agent q) → PartsOf agent r p q
  both_parts c fit h =
      let k = and_cases (prog_fits agent p (outside agent c.in_block)) (prog_fits agent q (outside agent c.in_block)) fit in
      record {
        one = record { closed_too = closed agent c.in_block p k.0; lower = omega arith };
        other = record { closed_too = closed agent c.in_block q k.1; lower = omega arith };
      }

  pub choice_parts : IsClosed agent r → r ≡ prog.Choice p q → PartsOf agent r p q
  choice_parts c e =
      let is : out-Prog r ≡ Choice p q = ap out-Prog e ∙ prog.outs-Choice p q in
      both_parts c (level agent r c (Choice p q) is) (ap (λ (f : Front). f.height) (front-at agent r (Choice p q) is))

  pub conc_parts : IsClosed agent r → r ≡ prog.Conc p q → PartsOf agent r p q
  conc_parts c e =
      let is : out-Prog r ≡ Conc p q = ap out-Prog e ∙ prog.outs-Conc p q in
      both_parts c (level agent r c (Conc p q) is) (ap (λ (f : Front). f.height) (front-at agent r (Conc p q) is))

  pub prio_parts : IsClosed agent r → r ≡ prog.Prio p q → PartsOf agent r p q
  prio_parts c e =
      let is : out-Prog r ≡ Prio p q = ap out-Prog e ∙ prog.outs-Prio p q in
      both_parts c (level agent r c (Prio p q) is) (ap (λ (f : Front). f.height) (front-at agent r (Prio p q) is))

  pub seq_parts : IsClosed agent r → r ≡ prog.Seq p q → SeqParts agent r p q
  seq_parts c e =
      let is : out-Prog r ≡ Seq p q = ap out-Prog e ∙ prog.outs-Seq p q in
      let k = and_cases (prog_fits agent p (outside agent c.in_block)) (prog_fits agent q (outside agent c.in_block)) (level agent r c (Seq p q) is) in
      let h : height agent r ≡ 1 + max (height agent p) (if (front agent p).skip then height agent q else 0) = ap (λ (f : Front). f.height) (front-at agent r (Seq p q) is) in
      record {
        one = record { closed_too = closed agent c.in_block p k.0; lower = omega arith };
        other_closed = closed agent c.in_block q k.1;
        other_lower = λ s. let d : height agent r ≡ 1 + max (height agent p) (height agent q) = h ∙ (rw s refl) in omega arith;
      }

  pub if_parts : {t : Cond} → IsClosed agent r → r ≡ prog.If t p q → IfParts agent r t p q
  if_parts {t} c e =
      let is : out-Prog r ≡ If t p q = ap out-Prog e ∙ prog.outs-If t p q in
      let j = and_cases (cond_fits agent t nothing_bound && prog_fits agent p (outside agent c.in_block)) (prog_fits agent q (outside agent c.in_block)) (level agent r c (If t p q) is) in
      let k = and_cases (cond_fits agent t nothing_bound) (prog_fits agent p (outside agent c.in_block)) j.0 in
      let h = ap (λ (f : Front). f.height) (front-at agent r (If t p q) is) in
      record {
        cond = k.0;
        yes = record { closed_too = closed agent c.in_block p k.1; lower = omega arith };
        no = record { closed_too = closed agent c.in_block q j.1; lower = omega arith };
      }

  pub branches : {t : Cond} → IfParts agent r t p q → PartsOf agent r p q
  branches parts = record { one = parts.yes; other = parts.no }

  -- the parts of a sequence whose first may be skipped
  pub skipped : (front agent p).skip ≡ true → SeqParts agent r p q → PartsOf agent r p q
  skipped s parts = record { one = parts.one; other = record { closed_too = parts.other_closed; lower = parts.other_lower s } }

  pub both_down : PartsOf agent r p q → BothDown agent r p q
  both_down parts =
      let l = parts.one.lower in
      let k = parts.other.lower in
      record { one = parts.one.closed_too; other = parts.other.closed_too; to_both = omega arith; to_either = omega arith; from_whole = omega arith }

  pub seq_both : SeqParts agent r p q → BothUnder agent r p q
  seq_both parts = record { one = parts.one.closed_too; other = parts.other_closed; lower = both_under agent r p q parts.one.lower parts.other_lower }

  pub parts_both : PartsOf agent r p q → BothUnder agent r p q
  parts_both parts = record { one = parts.one.closed_too; other = parts.other.closed_too; lower = both_under agent r p q parts.one.lower (λ s. parts.other.lower) }

module _ {agent : Agent} {r p : Prog} where
  pub whole : r ≡ p → IsClosed agent r → Whole agent r p
  whole e c =
      let same = ap (λ (z : Prog). height agent z) e in
      record { closed_too = subst (λ (z : Prog). IsClosed agent z) e c; lower = omega arith }

  pub down : PartOf agent r p → Down agent r p
  down part =
      let l = part.lower in
      record { closed_too = part.closed_too; to_part = omega arith; to_more = omega arith; from_whole = omega arith; more_from_whole = omega arith }

  -- a part by another name
  pub part_as : {q : Prog} → q ≡ p → PartOf agent r p → PartOf agent r q
  part_as {q} e part = subst (λ (z : Prog). PartOf agent r z) (sym e) part

  -- a part that fits as the program does, and leads less deep
  one_part : (c : IsClosed agent r) → prog_fits agent p (outside agent c.in_block) ≡ true → height agent r ≡ 1 + height agent p → PartOf agent r p
  one_part c fit h = record { closed_too = closed agent c.in_block p fit; lower = omega arith }

  pub star_part : IsClosed agent r → r ≡ prog.Star p → PartOf agent r p
  star_part c e =
      let is : out-Prog r ≡ Star p = ap out-Prog e ∙ prog.outs-Star p in
      one_part c (level agent r c (Star p) is) (ap (λ (f : Front). f.height) (front-at agent r (Star p) is))

  pub cstar_part : IsClosed agent r → r ≡ prog.Cstar p → PartOf agent r p
  cstar_part c e =
      let is : out-Prog r ≡ Cstar p = ap out-Prog e ∙ prog.outs-Cstar p in
      one_part c (level agent r c (Cstar p) is) (ap (λ (f : Front). f.height) (front-at agent r (Cstar p) is))

  pub while_parts : {t : Cond} → IsClosed agent r → r ≡ prog.While t p → WhileParts agent r t p
  while_parts {t} c e =
      let is : out-Prog r ≡ While t p = ap out-Prog e ∙ prog.outs-While t p in
      let k = and_cases (cond_fits agent t nothing_bound) (prog_fits agent p (outside agent c.in_block)) (level agent r c (While t p) is) in
      record { cond = k.0; body = one_part c k.1 (ap (λ (f : Front). f.height) (front-at agent r (While t p) is)) }
