-- What the reader has left of a line. These are words of its contracts, and no part of what a state is.
use Rattle.std.specs.Prelude.{◌≡◌, ℕ, List, [], ◌∷◌, Option, Some, None}
use Rattle.state_text.specs.Parts.{parts_of}

-- the parts of the text that is left, where some is
abbrev pub parts_left : Option (List ℕ) → List (List ℕ)
parts_left None = []
parts_left (Some text) = parts_of text

-- a part that was taken off the front, and those behind it
abbrev pub IsNextPart : List (List ℕ) → Option (List ℕ) → List (List ℕ) → Type 0
IsNextPart old None new = (old ≡ []) × (new ≡ [])
IsNextPart old (Some part) new = old ≡ part ∷ new
