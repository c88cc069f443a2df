-- Sums and differences of words, byte by byte.
use Rattle.std.proofs.Common.{◌≡◌, ℕ, ◌+◌, ◌-◌, ◌%◌, ◌<◌, nat_le, nat_lt, false, arith}
use Rattle.std.proofs.lemmas.Bool.Decides.{nat_tests}
use Rattle.arith_step.specs.Whole.{one_if}
use Rattle.instruction_laws.specs.Branches.{word}

module _ (al ah bl bh : ℕ) (f : al < 256) (g : bl < 256) (h : ah < 256) (k : bh < 256) where
  pub sum_is : word ((al + bl + one_if false) % 256) ((ah + bh + one_if (nat_le 256 (al + bl + one_if false))) % 256) ≡ (word al ah + word bl bh) % 65536
  sum_is = grind (arith, nat_tests)

  pub sum_carries : nat_le 256 (ah + bh + one_if (nat_le 256 (al + bl + one_if false))) ≡ nat_le 65536 (word al ah + word bl bh)
  sum_carries = grind (arith, nat_tests)

  pub difference_is : word ((al + 256 - (bl + one_if false)) % 256) ((ah + 256 - (bh + one_if (nat_lt al bl))) % 256) ≡ (word al ah + 65536 - word bl bh) % 65536
  difference_is = grind (arith, nat_tests)
