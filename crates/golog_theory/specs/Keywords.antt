-- The words that items and conditions begin with.
use Rattle.std.specs.Prelude.{ℕ, if◌then◌else◌, List, [], ◌∷◌, Option, Some, None, codes}
use Rattle.golog_theory.specs.Names.{same}
use Rattle.golog_theory.specs.declared.keyword.ItemKeyword.{ItemKeyword}
use Rattle.golog_theory.specs.declared.keyword.ItemKeyword.TheVariants.{Sort, Device, Fluent, Start, Action, Exo, Poss, Causes, Senses, Proc, Main}
use Rattle.golog_theory.specs.declared.keyword.CondKeyword.{CondKeyword}
use Rattle.golog_theory.specs.declared.keyword.CondKeyword.TheVariants.{Equal, Less, AtMost, Not, And, Or, ForSome, ForAll}

-- what stands beside the first of these words that the text is
abbrev pub key_of : {K : Type 0} → List (List ℕ × K) → List ℕ → Option K
key_of [] text = None
key_of ((word, key) ∷ rows) text = if same text word then Some key else key_of rows text

-- the words of items
abbrev pub item_words : List (List ℕ × ItemKeyword)
item_words =
    (codes "sort", Sort)
    ∷ (codes "device", Device)
    ∷ (codes "fluent", Fluent)
    ∷ (codes "start", Start)
    ∷ (codes "action", Action)
    ∷ (codes "exo", Exo)
    ∷ (codes "poss", Poss)
    ∷ (codes "causes", Causes)
    ∷ (codes "senses", Senses)
    ∷ (codes "proc", Proc)
    ∷ (codes "main", Main)
    ∷ []

-- the keyword of an item that a text spells
unfoldable pub item_keyword : List ℕ → Option ItemKeyword
item_keyword text = key_of item_words text

-- the words of conditions
abbrev pub cond_words : List (List ℕ × CondKeyword)
cond_words =
    (codes "=", Equal)
    ∷ (codes "<", Less)
    ∷ (codes "<=", AtMost)
    ∷ (codes "not", Not)
    ∷ (codes "and", And)
    ∷ (codes "or", Or)
    ∷ (codes "some", ForSome)
    ∷ (codes "all", ForAll)
    ∷ []

-- the keyword of a condition that a text spells
unfoldable pub cond_keyword : List ℕ → Option CondKeyword
cond_keyword text = key_of cond_words text
