-- A node of a world without sends has none to be passed.
use Rattle.std.proofs.Common.{◌≡◌, ℕ, ◌≤◌, List, [], sym, subst, arith}
use Rattle.air_base.specs.declared.air.Send.{Send}
use Rattle.world_core.specs.Sends.{sends_below}

none_of : (k c n : ℕ) → sends_below [] k c ≤ n
unfolding sends_below
none_of k c n = omega arith

pub none_below : (sends : List Send) (k c n : ℕ) → sends ≡ [] → sends_below sends k c ≤ n
none_below sends k c n silent = subst (λ (l : List Send). sends_below l k c ≤ n) (sym silent) (none_of k c n)
