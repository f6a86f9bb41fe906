-- What a replay finds of a journal is one verdict.
use Rattle.std.proofs.Common.{◌≡◌, Bool, true, false, not, ◌||◌, [], ◌∷◌, ◌++◌, append_assoc, Some, inl, inr, refl, sym, ap, ◌∙◌, subst}
use Rattle.golog_tree.specs.declared.agent.Agent.{Agent}
use Rattle.golog_semantics.specs.declared.journal.Answer.{Answer}
use Rattle.golog_semantics.specs.declared.journal.Entry.TheVariants.{End}
use Rattle.golog_semantics.specs.declared.journal.Report.{Report}
use Rattle.golog_semantics.specs.Journal.{Journal, has_end, is_close, is_end}
use Rattle.golog_semantics.specs.Online.{EachKeeps, Fault}
use Rattle.golog_semantics.specs.Text.{Text}
use Rattle.golog_semantics.proofs.Among.{Among, among-contains, among-left, among-right, any-among}
use Rattle.golog_semantics.proofs.NoFaults.{no_fault_is_online}
use Rattle.golog_semantics.specs.declared.journal.Verdict.{Verdict}
use Rattle.golog_semantics.specs.declared.journal.Verdict.TheVariants.{Online, Not}
use Rattle.golog_semantics.specs.Verdicts.{VerdictIs, entry_lines}

-- an end is no closing
unclosed : (ended : Bool) → ended ≡ true → (not ended || false) ≡ true → ⊥
unclosed true is kept = cc
unclosed false is kept = cc

module _ (agent : Agent) (report : Report) (keeps : EachKeeps agent report) where
  -- behind an end no other stands
  none-behind : (before rest : Journal) (a b : Answer) → report.entries ≡ before ++ rest → Among before (End a) → Among rest (End b) → ⊥
  none-behind before [] a b is first second = second
  none-behind before (e ∷ rest) a b is first (inl same) =
      unclosed (has_end before) (any-among is_end before (End a) first refl)
      (subst (λ x. (not (has_end before) || is_close x) ≡ true) same (keeps before e rest is).after)
  none-behind before (e ∷ rest) a b is first (inr second) =
      none-behind (before ++ e ∷ []) rest a b (is ∙ sym (append_assoc before (e ∷ []) rest)) (among-left before (e ∷ []) (End a) first) second

  -- so one end stands
  one-end : (before rest : Journal) (a b : Answer) → report.entries ≡ before ++ rest → Among rest (End a) → Among rest (End b) → a ≡ b
  one-end before [] a b is first second = absurd first
  one-end before (e ∷ rest) a b is (inl x) (inl y) = let same : End a ≡ End b = sym x ∙ y in cc
  one-end before (e ∷ rest) a b is (inl x) (inr y) =
      absurd
      (none-behind (before ++ e ∷ []) rest a b (is ∙ sym (append_assoc before (e ∷ []) rest))
      (among-right before (e ∷ []) (End a) (inl x)) y)
  one-end before (e ∷ rest) a b is (inr x) (inl y) =
      absurd
      (none-behind (before ++ e ∷ []) rest b a (is ∙ sym (append_assoc before (e ∷ []) rest))
      (among-right before (e ∷ []) (End b) (inl y)) x)
  one-end before (e ∷ rest) a b is (inr x) (inr y) = one-end (before ++ e ∷ []) rest a b (is ∙ sym (append_assoc before (e ∷ []) rest)) x y

module _ (agent : Agent) (bytes : Text) (report : Report) where
  pub one-verdict : (v w : Verdict) → VerdictIs agent bytes report v → VerdictIs agent bytes report w → v ≡ w
  one-verdict (Online a) (Online b) (none, x) (also, y) =
      let online = (no_fault_is_online.of_report agent (Some (entry_lines agent bytes report.start)) report).online none in
      ap Online
      (one-end agent report online.entries [] report.entries a b refl (among-contains report.entries (End a) x) (among-contains report.entries (End b) y))
  one-verdict (Online a) (Not place why) (none, x) fault = let no = sym none ∙ fault in absurd (cc)
  one-verdict (Not place why) (Online b) fault (none, y) = let no = sym none ∙ fault in absurd (cc)
  one-verdict (Not place why) (Not other because) fault also =
      let k = sym fault ∙ also in
      let same : ◌≡◌ {A = Fault} (record { place = place; why = why }) (record { place = other; why = because }) = cc in
      (λ i. Not ((same i).place) ((same i).why))
