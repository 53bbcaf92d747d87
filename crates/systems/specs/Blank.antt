-- Headings that hold no value.
use Rattle.std.specs.Prelude.{◌≡◌, List, [], ◌∷◌}
use Rattle.words.specs.Words.{Kept, combinations}
use Rattle.words.specs.State.{State}

abbrev pub AllBlank : List Kept → Type 0
AllBlank [] = Unit {0}
AllBlank (x ∷ xs) = (x.word ≡ 0) × AllBlank xs

-- 0 stands in each heading where a value would be kept
abbrev pub Blank : State → Type 0
Blank s = AllBlank (combinations s.lcs s.front s.term_words)
