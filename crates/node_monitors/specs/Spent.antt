-- What was spent at the words of flash.
use Rattle.std.specs.Prelude.{ℕ, ◌+◌, Bool, nat_lt, List, map}
use Rattle.std.specs.List.{range_with_len, sum_by}
use Rattle.node_monitors.specs.declared.spent.Spent.{Spent}

-- nothing was spent at a word
abbrev pub unused : ℕ → Spent
unused word = record { word = word; count = 0; cycles = 0 }

-- whether a row has the word
abbrev pub is_used : Spent → Bool
is_used s = nat_lt 0 s.count

-- one row more, with so many cycles
abbrev pub more : ℕ → Spent → Spent
more cycles s = record s { count = s.count + 1; cycles = s.cycles + cycles }

-- what is said of each word below a number
unfoldable pub table : ℕ → (ℕ → Spent) → List Spent
table words said = map said (range_with_len 0 words)

-- the cycles of a list of words
unfoldable pub cycles_in : List Spent → ℕ
cycles_in list = sum_by (λ s. s.cycles) list
