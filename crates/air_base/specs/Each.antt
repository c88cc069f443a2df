-- Lists that are made for each number below a bound.
use Rattle.std.specs.Prelude.{ℕ, zero, suc, List, [], ◌++◌}

-- what g gives for 0, for 1, .. and for n - 1, one after another
abbrev pub each_below : {X : Type 0} → ℕ → (ℕ → List X) → List X
each_below zero g = []
each_below (suc n) g = each_below n g ++ g n
