-- A table of words, and what each means.
use Rattle.std.specs.Prelude.{ℕ, if◌then◌else◌, List, [], ◌∷◌, Option, Some, None}
use Rattle.std.specs.Str.{bytes_eq}

-- what the first row gives that names a word
abbrev pub found : {F : Type 0} → List ℕ → List (List ℕ × F) → Option F
found name [] = None
found name (row ∷ rows) = if bytes_eq name row.0 then Some row.1 else found name rows
