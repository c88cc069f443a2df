-- What C and H say of sums and differences (AVR Instruction Set Manual: ADD, ADC, SUB, SUBI, SBC, SBCI, CP, CPI, CPC).
use Rattle.std.specs.Prelude.{◌≡◌, ℕ, ◌+◌, ◌%◌, ◌==◌, nat_le, nat_lt}
use Rattle.arith_step.specs.Whole.{one_if}
use Rattle.avr_base.specs.Flags.{C, H, Z, has_flag}
use Rattle.data_space.specs.declared.cpu.Cpu.{Cpu}

-- the carry, or borrow, that an instruction finds: 1 or 0
abbrev pub carried : Cpu → ℕ
carried cpu = one_if (has_flag cpu.sreg.bits C)

-- two bytes and a carry were added: C, they do not fit a byte; H, their low halves do not fit a half
pub record IsAdded (a b carry : ℕ) (cpu : Cpu) : Type 0 where
  pub bytes : has_flag cpu.sreg.bits C ≡ nat_le 256 (a + b + carry)
  pub halves : has_flag cpu.sreg.bits H ≡ nat_le 16 (a % 16 + b % 16 + carry)

-- a byte and a borrow were taken from a byte: C, it is below them; H, its low half is
pub record IsTaken (a b borrow : ℕ) (cpu : Cpu) : Type 0 where
  pub bytes : has_flag cpu.sreg.bits C ≡ nat_lt a (b + borrow)
  pub halves : has_flag cpu.sreg.bits H ≡ nat_lt (a % 16) (b % 16 + borrow)

-- C and Z compare two numbers, however long
pub record IsOrdered (a b : ℕ) (cpu : Cpu) : Type 0 where
  -- a is below b
  pub below : has_flag cpu.sreg.bits C ≡ nat_lt a b
  pub equal : has_flag cpu.sreg.bits Z ≡ (a == b)
