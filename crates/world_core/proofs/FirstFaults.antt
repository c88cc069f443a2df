-- The first entry that breaks a rule: one entry more, and what a fault excludes.
use Rattle.std.proofs.Common.{◌≡◌, ℕ, ◌+◌, ◌<◌, List, take, get_or, sym, subst, arith}
use native.Mathlib.Decide.{ℕ_discrete}
use Rattle.world_core.specs.FirstFault.{KeepsBelow, AllKeep, IsFirstFault}

module _ {X : Type 0} (keeps : List X → X → Type 0) where
  more_case : (xs : List X) (n i : ℕ) (d : X) → KeepsBelow keeps xs n → ((d : X) → keeps (take n xs) (get_or xs n d)) → i < n + 1 → Dec (i ≡ n) → keeps (take i xs) (get_or xs i d)
  more_case xs n i d old new lt (yes e) = subst (λ (m : ℕ). keeps (take m xs) (get_or xs m d)) (sym e) (new d)
  more_case xs n i d old new lt (no q) = old i d (omega arith)

  pub keeps_more : (xs : List X) (n : ℕ) → KeepsBelow keeps xs n → ((d : X) → keeps (take n xs) (get_or xs n d)) → KeepsBelow keeps xs (n + 1)
  keeps_more xs n old new i d lt = more_case xs n i d old new lt (ℕ_discrete i n)

  -- a list with a first fault has entries that break the rule
  pub fault_excludes : (xs : List X) (p : ℕ) (d : X) → IsFirstFault keeps xs p → AllKeep keeps xs → ⊥
  fault_excludes xs p d f all = f.fault d (all p d f.place)
