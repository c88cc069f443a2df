-- Which entry of a list is the first that breaks a rule on what may stand behind what.
use Rattle.std.specs.Prelude.{ℕ, ◌<◌, List, length, take, slice_index_or}

-- the first n entries keep the rule, each behind those before it
abbrev pub KeepsBelow : {X : Type 0} → (List X → X → Type 0) → List X → ℕ → Type 0
KeepsBelow {X} keeps xs n = (i : ℕ) (d : X) → i < n → keeps (take i xs) (slice_index_or xs i d)

-- all entries keep it
abbrev pub AllKeep : {X : Type 0} → (List X → X → Type 0) → List X → Type 0
AllKeep keeps xs = KeepsBelow keeps xs (length xs)

-- entry number p, counted from 0, is the first that breaks it
pub record IsFirstFault {X : Type 0} (keeps : List X → X → Type 0) (xs : List X) (p : ℕ) : Type 0 where
  pub place : p < length xs
  pub before : KeepsBelow keeps xs p
  pub fault : (d : X) → ¬ keeps (take p xs) (slice_index_or xs p d)
