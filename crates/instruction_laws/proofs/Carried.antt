-- C and H of sums and differences of bytes.
use Rattle.std.proofs.Common.{◌≡◌, ℕ, ◌+◌, ◌%◌, nat_le, nat_lt, Bool}
use Rattle.avr_base.specs.Flags.{has_flag}
use Rattle.avr_base.specs.declared.sreg.Sreg.{Sreg}
use Rattle.arith_step.specs.Bytes.{added, subtracted}
use Rattle.arith_step.specs.Whole.{one_if}
use Rattle.instruction_laws.proofs.Flags.{carry_of, half_of}

module _ (a b : ℕ) (c : Bool) (s : Sreg) where
  pub sum : has_flag (added a b c s).1.bits 0 ≡ nat_le 256 (a + b + one_if c)
  unfolding added
  sum = carry_of _ _ _ _ _ s.bits

  pub half_sum : has_flag (added a b c s).1.bits 5 ≡ nat_le 16 (a % 16 + b % 16 + one_if c)
  unfolding added
  half_sum = half_of _ _ _ _ _ s.bits

module _ (a b : ℕ) (c keep : Bool) (s : Sreg) where
  pub difference : has_flag (subtracted a b c keep s).1.bits 0 ≡ nat_lt a (b + one_if c)
  unfolding subtracted
  difference = carry_of _ _ _ _ _ s.bits

  pub half_difference : has_flag (subtracted a b c keep s).1.bits 5 ≡ nat_lt (a % 16) (b % 16 + one_if c)
  unfolding subtracted
  half_difference = half_of _ _ _ _ _ s.bits
