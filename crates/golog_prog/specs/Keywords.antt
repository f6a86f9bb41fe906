-- The words that a program in a list begins with.
use Rattle.std.specs.Prelude.{ℕ, List, [], ◌∷◌, Option, codes}
use Rattle.golog_theory.specs.Keywords.{key_of}
use Rattle.golog_prog.specs.declared.keyword.Keyword.{Keyword}
use Rattle.golog_prog.specs.declared.keyword.Keyword.TheVariants.{Act, Test, Seq, Choice, Pick, Star, If, While, Conc, Prio, Cstar, Call, Search, Interrupt, Interrupts}

-- the words behind `while` in their row
abbrev pub later_words : List (List ℕ × Keyword)
later_words =
    (codes "conc", Conc)
    ∷ (codes "prio", Prio)
    ∷ (codes "cstar", Cstar)
    ∷ (codes "call", Call)
    ∷ (codes "search", Search)
    ∷ (codes "interrupt", Interrupt)
    ∷ (codes "interrupts", Interrupts)
    ∷ []

-- the words of programs
abbrev pub prog_words : List (List ℕ × Keyword)
prog_words =
    (codes "act", Act)
    ∷ (codes "test", Test)
    ∷ (codes "seq", Seq)
    ∷ (codes "choice", Choice)
    ∷ (codes "pick", Pick)
    ∷ (codes "star", Star)
    ∷ (codes "if", If)
    ∷ (codes "while", While)
    ∷ later_words

-- the keyword that a text spells, where it is one of those behind `while`
abbrev pub later_keyword : List ℕ → Option Keyword
later_keyword text = key_of later_words text

-- the keyword that a text spells
unfoldable pub keyword_of : List ℕ → Option Keyword
keyword_of text = key_of prog_words text
