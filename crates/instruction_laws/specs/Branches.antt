-- What comparisons, sums and differences over one byte and over two mean (AVR Instruction Set Manual, "Conditional
-- Branch Summary", and the examples of CPC, ADC and SBC): the conditions of the branches, in terms of the numbers
-- compared.
use Rattle.std.specs.Prelude.{Bool, ℤ, ◌≡◌, ◌≢◌, ℕ, ◌+◌, ◌*◌, ◌<◌, ◌==◌, nat_lt, int_lt, length, slice_index}
use Rattle.arith_step.specs.Whole.{signed}
use Rattle.avr_base.specs.Flags.{C, S, Z, has_flag}
use Rattle.avr_decoder.specs.declared.op.Op.{Op}
use Rattle.avr_core.specs.ArithTable.{arith_cpu}
use Rattle.data_space.specs.declared.cpu.Cpu.{Cpu}
use Rattle.data_space.specs.Sequence.{Outcome}
use Rattle.avr_core.specs.FlowShapes.{branched, ends}

-- the byte in general register d
abbrev pub reg : ℕ → Cpu → ℕ
reg d cpu = slice_index cpu.r d

-- the word of two bytes, the low one first
abbrev pub word : ℕ → ℕ → ℕ
word low high = low + 256 * high

-- the word in two registers: its low byte in the first, its high byte in the second
abbrev pub word_in : ℕ → ℕ → Cpu → ℕ
word_in low high cpu = word (reg low cpu) (reg high cpu)

-- registers hold bytes
abbrev pub IsByte : ℕ → Type 0
IsByte x = x < 256

abbrev pub AreBytes : ℕ → ℕ → Type 0
AreBytes x y = IsByte x × IsByte y

-- the general registers are 32 bytes
pub record IsCore (cpu : Cpu) : Type 0 where
  pub count : length cpu.r ≡ 32
  pub bytes : (d : ℕ) → IsByte (reg d cpu)

-- one instruction after another
abbrev pub both : Op → Op → Cpu → Cpu
both first second cpu = arith_cpu second (arith_cpu first cpu)

-- the flags compare a with b, two numbers below 2 * half
pub record IsCompared (half a b : ℕ) (cpu : Cpu) : Type 0 where
  -- BRLO and BRSH, by C: a is below b, as numbers without a sign
  pub lower : has_flag cpu.sreg.bits C ≡ nat_lt a b
  -- BREQ and BRNE, by Z: they are equal
  pub equal : has_flag cpu.sreg.bits Z ≡ a == b
  -- BRLT and BRGE, by S: a is below b, in two's complement
  pub less : has_flag cpu.sreg.bits S ≡ int_lt (signed half a) (signed half b)

-- two general registers, apart from one another
pub record AreApart (low high : ℕ) : Type 0 where
  pub low_is : low < 32
  pub high_is : high < 32
  pub apart : low ≢ high

-- a branch of k words, taken where `on`
abbrev pub branches : {B : Type 0} → Bool → ℤ → Cpu → B → Outcome B
branches on k cpu bus = ends (branched on k cpu) bus
