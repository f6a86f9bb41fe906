-- The text of a program reads back.
use Rattle.std.proofs.Common.{◌≡◌, ℕ, zero, suc, ◌+◌, ◌*◌, ◌<◌, ◌≤◌, Bool, true, false, List, [], ◌∷◌, ◌++◌, length, map, refl, sym, ap, subst, ◌∙◌, Option, Some, inl, inr, arith}
use Rattle.std.specs.Prelude.{if◌then◌else◌, find, unwrap_or}
use Rattle.std.specs.List.{flat_map, range_with_len}
use Rattle.std.proofs.lemmas.List.{length-append}
use Rattle.std.proofs.lemmas.List.Concat.{flat_map-cons}
use Rattle.golog_form.proofs.ReadBack.{reads_back}
use Rattle.golog_form.specs.Printing as printed
use Rattle.golog_form.specs.Printing.{atoms_fit}
use Rattle.golog_tree.specs.declared.agent.Agent.{Agent}
use Rattle.golog_tree.specs.declared.agent.SortItem.{SortItem}
use Rattle.golog_tree.specs.declared.agent.SortItem.TheVariants.{Range, Listed}
use Rattle.golog_tree.specs.declared.prog.Prog.{Prog}
use Rattle.golog_tree.specs.Ground.{item_size}
use Rattle.golog_semantics.specs.Text.{Text}
use Rattle.golog_semantics.specs.BuiltIn.{sort_names, declared_names}
use Rattle.golog_semantics.specs.WellFormed.{WellFormed}
use Rattle.golog_semantics.specs.ReportLaws.{RangesFit}
use Rattle.golog_semantics.specs.ProgFits.{outermost}
use Rattle.golog_semantics.proofs.Among.{Among, contains-among}
use Rattle.golog_semantics.proofs.GroundNumbers.{some-same}
use Rattle.golog_print.specs.declared.named.TheConstants.{STEMS}
use Rattle.golog_print.specs.Printing as say
use Rattle.golog_print.specs.Printing.{stem_text, first_passing, stem_no, text_of_prog}
use Rattle.golog_print.specs.ReadBack.{ReadsBack, IsPrintable}
use Rattle.golog_print.proofs.AtomsFit.{few-none, prog-atoms}
use Rattle.golog_print.proofs.Free.{is_free, some-free, found-passes}
use Rattle.golog_print.proofs.PrintedForms.{prog_form, prog-tells}
use Rattle.golog_print.proofs.ReadArgs.{Ready}
use Rattle.golog_print.proofs.ReadProgs.{prog-reads}
use Rattle.golog_print.proofs.Scopes.{nothing-scoped}

own-names : (item : SortItem) → item_size item ≤ 255 → length (sort_names item) ≤ 256
own-names (Range name low high) h = omega arith
own-names (Listed name constants) h = omega (arith, h)

sorts-names : (items : List SortItem) → ((item : SortItem) → Among items item → item_size item ≤ 255) → length (flat_map sort_names items) ≤ 256 * length items
sorts-names [] h = omega arith
sorts-names (item ∷ items) h =
    let here : length (sort_names item) ≤ 256 = own-names item (h item (inl refl)) in
    let rest : length (flat_map sort_names items) ≤ 256 * length items = sorts-names items (λ i a. h i (inr a)) in
    let whole : length (flat_map sort_names (item ∷ items)) ≡ length (sort_names item) + length (flat_map sort_names items) =
    ap length (flat_map-cons sort_names item items) ∙ length-append (sort_names item) (flat_map sort_names items) in
    omega (arith, here, rest, whole)

mapped-long : {A : Type 0} (f : A → Text) (xs : List A) → length (map f xs) ≡ length xs
mapped-long f [] = refl
mapped-long f (x ∷ xs) = ap suc (mapped-long f xs)

-- a well-formed agent has fewer names than stems are tried
names-few : (agent : Agent) → WellFormed agent → length (declared_names agent) < 100000
names-few agent formed =
    let sorts = flat_map sort_names agent.sorts in
    let fluents = map (λ item. item.name) agent.fluents in
    let actions = map (λ item. item.name) agent.actions in
    let procs = map (λ item. item.name) agent.procs in
    let a : length sorts ≤ 256 * length agent.sorts =
    sorts-names agent.sorts (λ item among. let r = contains-among agent.sorts item among in subst (λ (i : SortItem). item_size i ≤ 255) r.2 (formed.countable.sorts r.0 item r.1)) in
    let b : length fluents ≡ length agent.fluents = mapped-long (λ item. item.name) agent.fluents in
    let c : length actions ≡ length agent.actions = mapped-long (λ item. item.name) agent.actions in
    let d : length procs ≡ length agent.procs = mapped-long (λ item. item.name) agent.procs in
    let e : length ((((sorts ++ agent.devices) ++ fluents) ++ actions) ++ procs) ≡ length (((sorts ++ agent.devices) ++ fluents) ++ actions) + length procs = length-append (((sorts ++ agent.devices) ++ fluents) ++ actions) procs in
    let f : length (((sorts ++ agent.devices) ++ fluents) ++ actions) ≡ length ((sorts ++ agent.devices) ++ fluents) + length actions = length-append ((sorts ++ agent.devices) ++ fluents) actions in
    let g : length ((sorts ++ agent.devices) ++ fluents) ≡ length (sorts ++ agent.devices) + length fluents = length-append (sorts ++ agent.devices) fluents in
    let h : length (sorts ++ agent.devices) ≡ length sorts + length agent.devices = length-append sorts agent.devices in
    let i = formed.small.sorts in
    let j = formed.small.devices in
    let l = formed.small.procs in
    let m = formed.countable.fluents in
    let n = formed.countable.actions in
    bounded (length sorts) (length agent.sorts) (length agent.devices) (length fluents) (length agent.fluents) (length actions) (length agent.actions) (length procs) (length agent.procs)
    (length (sorts ++ agent.devices)) (length ((sorts ++ agent.devices) ++ fluents)) (length (((sorts ++ agent.devices) ++ fluents) ++ actions)) (length (declared_names agent))
    a b c d e f g h i j l m n
  where
    bounded : (s sorts ds f fs a acts p ps x y z all : ℕ) → s ≤ 256 * sorts → f ≡ fs → a ≡ acts → p ≡ ps → all ≡ z + p → z ≡ y + a → y ≡ x + f → x ≡ s + ds
        → sorts ≤ 64 → ds ≤ 16 → ps ≤ 256 → fs ≤ 4096 → acts ≤ 65536 → all < 100000
    bounded s sorts ds f fs a acts p ps x y z all h1 h2 h3 h4 h5 h6 h7 h8 h9 h10 h11 h12 h13 = omega (arith, h1, h2, h3, h4, h5, h6, h7, h8, h9, h10, h11, h12, h13)

within-range : (p : ℕ → Bool) (from count k : ℕ) → find p (range_with_len from count) ≡ Some k → k < from + count
within-range p from zero k e = absurd (cc)
within-range p from (suc n) k e = go (within-range p (from + 1) n k) (p from) e
  where
    go : (find p (range_with_len (from + 1) n) ≡ Some k → k < (from + 1) + n) → (b : Bool) → (if b then Some from else find p (range_with_len (from + 1) n)) ≡ Some k → k < from + suc n
    go rest true h = let same : from ≡ k = some-same from k h in omega (arith, same)
    go rest false h = let less : k < (from + 1) + n = rest h in omega (arith, less)

-- the stem that is taken is free
record Taken (agent : Agent) : Type 0 where
  small : stem_no agent < 100000
  free : say.is_free agent (stem_no agent) ≡ true

taken : (agent : Agent) → WellFormed agent → Taken agent
unfolding first_passing
taken agent formed =
    let some = some-free (declared_names agent) 0 STEMS (omega arith) (names-few agent formed) in
    let is : stem_no agent ≡ some.0 = ap (λ (o : Option ℕ). unwrap_or o 0) some.1 in
    record {
      small = subst (λ (k : ℕ). k < 100000) (sym is) (within-range (is_free (declared_names agent)) 0 STEMS some.0 some.1);
      free = ap (say.is_free agent) is ∙ found-passes (is_free (declared_names agent)) (range_with_len 0 STEMS) some.0 some.1;
    }

pub prints_back : (text : Text) (agent : Agent) (prog : Prog) → RangesFit agent → text ≡ text_of_prog agent prog → IsPrintable agent prog → ReadsBack text agent prog
prints_back text agent prog ranges e printable =
    let k = stem_no agent in
    let t = taken agent printable.formed in
    let small = t.small in
    let ready : Ready agent k = record { formed = printable.formed; ranges = ranges; small = t.small; free = t.free } in
    let form = prog_form agent (stem_text k) prog in
    let atoms : atoms_fit form ≡ true = prog-atoms agent printable.formed ranges k (omega (arith, small)) prog outermost few-none 0 printable.fitting printable.written in
    let back : printed.ReadsBack text form = reads_back text form atoms (e ∙ sym (prog-tells agent (stem_text k) prog)) in (
      back.0,
      back.1,
      λ theory of. let p = prog-reads agent k ready theory of prog outermost [] 0 refl (nothing-scoped (stem_text k)) printable.fitting printable.written back.0 back.2 in (p.draft, p.read, p.means),
    )

pub ruleset laws = (prints_back)
