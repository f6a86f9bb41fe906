-- The values after entries that go on a journal.
use Rattle.std.proofs.Common.{◌≡◌, ℕ, zero, suc, ◌+◌, ◌<◌, List, [], ◌∷◌, ◌++◌, length, take, get_or, refl, ap, ◌∙◌, arith}
use Rattle.std.specs.Prelude.{fold}
use Rattle.golog_tree.specs.declared.agent.Agent.{Agent}
use Rattle.golog_semantics.specs.declared.journal.Entry.{Entry}
use Rattle.golog_semantics.specs.Progress.{after_entry}
use Rattle.golog_progress.specs.Entries.{ValuesGoOn, HappeningIsDoing, EntryFits, EntriesFit}

fold-append : {A B : Type 0} (f : B → A → B) (b : B) (xs ys : List A) → fold f b (xs ++ ys) ≡ fold f (fold f b xs) ys
fold-append f b [] ys = refl
fold-append f b (x ∷ xs) ys = fold-append f (f b x) xs ys

pub values_go_on : ValuesGoOn
values_go_on agent journal entries = fold-append (after_entry agent) agent.starts journal entries

pub happening_is_doing : HappeningIsDoing
happening_is_doing agent values poster action = refl

-- one more entry
pub fold-more : {A B : Type 0} (f : B → A → B) (b : B) (xs : List A) (i : ℕ) (d : A) → i < length xs → fold f b (take (i + 1) xs) ≡ f (fold f b (take i xs)) (get_or xs i d)
fold-more f b [] i d h = absurd (omega arith)
fold-more f b (y ∷ xs) zero d h = refl
fold-more f b (y ∷ xs) (suc i) d h =
    let k : suc i + 1 ≡ suc (i + 1) = omega arith in
    ap (λ n. fold f b (take n (y ∷ xs))) k ∙ fold-more f (f b y) xs i d (omega arith)

-- each of the entries fits
pub fit-at : (agent : Agent) (entries : List Entry) (i : ℕ) (d : Entry) → EntriesFit agent entries → i < length entries → EntryFits agent (get_or entries i d)
fit-at agent [] i d fit h = absurd (omega arith)
fit-at agent (x ∷ entries) zero d fit h = fit.0
fit-at agent (x ∷ entries) (suc i) d fit h = fit-at agent entries i d fit.1 (omega arith)
