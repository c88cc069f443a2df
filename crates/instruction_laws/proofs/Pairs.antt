-- Two bytes in turn: the sum and the difference of words.
use Rattle.std.proofs.Common.{◌≡◌, ◌≢◌, ℕ, ◌+◌, ◌-◌, ◌%◌, ◌<◌, nat_le, nat_lt, Bool, true, false, refl, ap, ◌∙◌}
use Rattle.avr_base.specs.Flags.{has_flag}
use Rattle.avr_base.specs.declared.sreg.Sreg.{Sreg}
use Rattle.arith_step.specs.Bytes.{added, subtracted}
use Rattle.arith_step.specs.Whole.{one_if}
use Rattle.data_space.specs.declared.cpu.Cpu.{Cpu}
use Rattle.instruction_laws.specs.Branches.{AreApart, IsCompared, IsCore, reg, word, word_in}
use Rattle.instruction_laws.proofs.Compared.{alone, going_on, lower, words_equal, words_less, words_lower}
use Rattle.instruction_laws.proofs.Flags.{carry_of}
use Rattle.instruction_laws.proofs.Registers.{put, still, word_put}
use Rattle.instruction_laws.proofs.Sums.{difference_is, sum_carries, sum_is}

added_carry : (a b : ℕ) (c : Bool) (s : Sreg) → has_flag (added a b c s).1.bits 0 ≡ nat_le 256 (a + b + one_if c)
unfolding added
added_carry a b c s = carry_of _ _ _ _ _ s.bits

added_byte : (a b : ℕ) (c : Bool) (s : Sreg) → (added a b c s).0 ≡ (a + b + one_if c) % 256
unfolding added
added_byte a b c s = refl

subtracted_byte : (a b : ℕ) (c keep : Bool) (s : Sreg) → (subtracted a b c keep s).0 ≡ (a + 256 - (b + one_if c)) % 256
unfolding subtracted
subtracted_byte a b c keep s = refl

words : (x y x' y' : ℕ) → x ≡ x' → y ≡ y' → word x y ≡ word x' y'
words x y x' y' e f = ap (λ n. word n y) e ∙ ap (λ n. word x' n) f

module _ (dl dh rl rh : ℕ) (cpu : Cpu) (core : IsCore cpu) (apart : AreApart dl dh) (read : dl ≢ rh) where
  abbrev Low : ℕ × Sreg
  Low = added (reg dl cpu) (reg rl cpu) false cpu.sreg

  abbrev Mid : Cpu
  Mid = put dl Low cpu

  abbrev High : ℕ × Sreg
  High = added (reg dh Mid) (reg rh Mid) (has_flag Low.1.bits 0) Low.1

  carry : has_flag Low.1.bits 0 ≡ nat_le 256 (reg dl cpu + reg rl cpu + one_if false)
  carry = added_carry (reg dl cpu) (reg rl cpu) false cpu.sreg

  total : reg dh Mid + reg rh Mid + one_if (has_flag Low.1.bits 0) ≡ reg dh cpu + reg rh cpu + one_if (nat_le 256 (reg dl cpu + reg rl cpu + one_if false))
  total =
      ap (λ n. n + reg rh Mid + one_if (has_flag Low.1.bits 0)) (still dl dh Low cpu apart.apart)
      ∙ ap (λ n. reg dh cpu + n + one_if (has_flag Low.1.bits 0)) (still dl rh Low cpu read)
      ∙ ap (λ c. reg dh cpu + reg rh cpu + one_if c) carry

  pub sums : word_in dl dh (put dh High Mid) ≡ (word_in dl dh cpu + word_in rl rh cpu) % 65536
  sums =
      word_put dl dh Low High cpu core apart
      ∙ words Low.0 High.0 _ _ (added_byte _ _ _ cpu.sreg) (added_byte _ _ _ Low.1 ∙ ap (λ n. n % 256) total)
      ∙ sum_is (reg dl cpu) (reg dh cpu) (reg rl cpu) (reg rh cpu) (core.bytes dl) (core.bytes rl) (core.bytes dh) (core.bytes rh)

  pub carries : has_flag (put dh High Mid).sreg.bits 0 ≡ nat_le 65536 (word_in dl dh cpu + word_in rl rh cpu)
  carries =
      added_carry (reg dh Mid) (reg rh Mid) (has_flag Low.1.bits 0) Low.1 ∙ ap (nat_le 256) total
      ∙ sum_carries (reg dl cpu) (reg dh cpu) (reg rl cpu) (reg rh cpu) (core.bytes dl) (core.bytes rl) (core.bytes dh) (core.bytes rh)

-- a low byte less bl, then what stands in dh less b, which is bh
module _ (dl dh bl b bh : ℕ) (cpu : Cpu) (core : IsCore cpu) (apart : AreApart dl dh) (f : bl < 256) (g : bh < 256) (same : b ≡ bh) where
  abbrev Least : ℕ × Sreg
  Least = subtracted (reg dl cpu) bl false false cpu.sreg

  abbrev Then : Cpu
  Then = put dl Least cpu

  abbrev Most : ℕ × Sreg
  Most = subtracted (reg dh Then) b (has_flag Least.1.bits 0) true Least.1

  borrowed : reg dh Then + 256 - (b + one_if (has_flag Least.1.bits 0)) ≡ reg dh cpu + 256 - (bh + one_if (nat_lt (reg dl cpu) bl))
  borrowed =
      ap (λ n. n + 256 - (b + one_if (has_flag Least.1.bits 0))) (still dl dh Least cpu apart.apart)
      ∙ ap (λ n. reg dh cpu + 256 - (n + one_if (has_flag Least.1.bits 0))) same
      ∙ ap (λ c. reg dh cpu + 256 - (bh + one_if c)) (lower (reg dl cpu) bl cpu.sreg (core.bytes dl) f)

  pub differs : word_in dl dh (put dh Most Then) ≡ (word_in dl dh cpu + 65536 - word bl bh) % 65536
  differs =
      word_put dl dh Least Most cpu core apart
      ∙ words Least.0 Most.0 _ _ (subtracted_byte _ _ _ _ cpu.sreg) (subtracted_byte _ _ _ _ Least.1 ∙ ap (λ n. n % 256) borrowed)
      ∙ difference_is (reg dl cpu) (reg dh cpu) bl bh (core.bytes dl) f (core.bytes dh) g

  flags : (put dh Most Then).sreg ≡ going_on (reg dh cpu) bh (alone (reg dl cpu) bl cpu.sreg)
  flags =
      ap (λ n. going_on n b Least.1) (still dl dh Least cpu apart.apart) ∙ ap (λ n. going_on (reg dh cpu) n Least.1) same

  pub compared : IsCompared 32768 (word_in dl dh cpu) (word bl bh) (put dh Most Then)
  compared = record {
    lower = ap (λ (s : Sreg). has_flag s.bits 0) flags ∙ words_lower (reg dl cpu) (reg dh cpu) bl bh cpu.sreg (core.bytes dl) f (core.bytes dh) g;
    equal = ap (λ (s : Sreg). has_flag s.bits 1) flags ∙ words_equal (reg dl cpu) (reg dh cpu) bl bh cpu.sreg (core.bytes dl) f (core.bytes dh) g;
    less = ap (λ (s : Sreg). has_flag s.bits 4) flags ∙ words_less (reg dl cpu) (reg dh cpu) bl bh cpu.sreg (core.bytes dl) f (core.bytes dh) g;
  }
