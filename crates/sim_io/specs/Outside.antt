-- The outside of a run: the counts of its faults, and the bytes that a sink took.
use Rattle.std.specs.Prelude.{◌≡◌, ℕ, ◌<◌, ◌-◌, ◌^◌, List, ◌++◌, Option, Some, None}

-- a count of faults rose between these two moments, or stood at the last value of its 64 bits
abbrev pub Rose : ℕ → ℕ → Type 0
Rose before now = before < 2 ^ 64 - 1 → before < now

-- what a sink holds after it took these bytes, where it tells
abbrev pub extended : Option (List ℕ) → List ℕ → Option (List ℕ)
extended None bytes = None
extended (Some old) bytes = Some (old ++ bytes)

-- the sink took a front of these bytes
pub record TookFront (old : Option (List ℕ)) (bytes : List ℕ) (new : Option (List ℕ)) : Type 0 where
  pub front : List ℕ
  pub rest : List ℕ
  pub parts : bytes ≡ front ++ rest
  pub taken : new ≡ extended old front

-- a front of the page went to the sink, the rest is the page now
pub record Moved (old : Option (List ℕ)) (page : List ℕ) (new : Option (List ℕ)) (left : List ℕ) : Type 0 where
  pub front : List ℕ
  pub parts : page ≡ front ++ left
  pub taken : new ≡ extended old front
