-- ADIW and SBIW: the word that they leave in a pair, and its flags.
use Rattle.std.proofs.Common.{◌≡◌, ℕ, ◌+◌, ◌*◌, ◌-◌, ◌/◌, ◌%◌, ◌<◌, ◌==◌, nat_le, nat_lt, int_lt, pos, ◌-ℤ◌, slice_set, length-set, refl, sym, ap, ◌∙◌, arith}
use Rattle.std.proofs.lemmas.Bool.Decides.{nat_tests}
use Rattle.std.proofs.lemmas.Int.{ints}
use Rattle.std.proofs.lemmas.List.{get_or-set_same, get_or-set_other}
use Rattle.avr_base.specs.Flags.{has_flag}
use Rattle.avr_base.specs.declared.sreg.Sreg.{Sreg}
use Rattle.arith_step.specs.Whole.{overflows, signed, xor}
use Rattle.arith_step.specs.Words.{added_word, subtracted_word}
use Rattle.avr_core.specs.ArithShapes.{to_pair}
use Rattle.data_space.specs.declared.cpu.Cpu.{Cpu}
use Rattle.data_space.specs.Core.{advanced, pair_at}
use Rattle.instruction_laws.specs.Branches.{IsCompared, IsCore, reg, word_in}
use Rattle.instruction_laws.proofs.Flags.{carry_alone, half_left, sign_of, zero_of}

constant_equal : (a k : ℕ) → a < 65536 → k < 65536 → ((a + 65536 - k) % 65536 == 0) ≡ (a == k)
constant_equal a k f g = grind (arith, nat_tests)

constant_less : (a k : ℕ) → a < 65536 → k < 32768
    → xor (nat_le 32768 ((a + 65536 - k) % 65536)) (overflows 32768 (signed 32768 a -ℤ pos k)) ≡ int_lt (signed 32768 a) (signed 32768 k)
constant_less a k f g = grind (arith, ints, nat_tests)

module _ (a k : ℕ) (s : Sreg) where
  sum_of : (added_word a k s).0 ≡ (a + k) % 65536
  unfolding added_word
  sum_of = refl

  carry_of_sum : has_flag (added_word a k s).1.bits 0 ≡ nat_le 65536 (a + k)
  unfolding added_word
  carry_of_sum = carry_alone _ _ _ _ s.bits

  pub half_of_sum : has_flag (added_word a k s).1.bits 5 ≡ has_flag s.bits 5
  unfolding added_word
  half_of_sum = half_left _ _ _ _ s.bits

  difference_of : (subtracted_word a k s).0 ≡ (a + 65536 - k) % 65536
  unfolding subtracted_word
  difference_of = refl

  lower : has_flag (subtracted_word a k s).1.bits 0 ≡ nat_lt a k
  unfolding subtracted_word
  lower = carry_alone _ _ _ _ s.bits

  equal : a < 65536 → k < 65536 → has_flag (subtracted_word a k s).1.bits 1 ≡ (a == k)
  unfolding subtracted_word
  equal f g = zero_of _ _ _ _ ∙ constant_equal a k f g

  less : a < 65536 → k < 32768 → has_flag (subtracted_word a k s).1.bits 4 ≡ int_lt (signed 32768 a) (signed 32768 k)
  unfolding subtracted_word
  less f g = sign_of _ _ _ _ ∙ constant_less a k f g

  pub half_of_difference : has_flag (subtracted_word a k s).1.bits 5 ≡ has_flag s.bits 5
  unfolding subtracted_word
  half_of_difference = half_left _ _ _ _ s.bits

halves : (w : ℕ) → w % 256 + 256 * (w / 256) ≡ w
halves w = omega arith

-- the pair below r31
module _ (d : ℕ) (cpu : Cpu) (below : d < 31) where
  next : (d + 1) % 32 ≡ d + 1
  next = omega (arith, below)

  pair_is : pair_at d cpu ≡ word_in d (d + 1) cpu
  pair_is = ap (λ e. reg d cpu + 256 * reg e cpu) next

  pub carries : (k : ℕ) → has_flag (added_word (pair_at d cpu) k cpu.sreg).1.bits 0 ≡ nat_le 65536 (word_in d (d + 1) cpu + k)
  carries k = carry_of_sum (pair_at d cpu) k cpu.sreg ∙ ap (λ w. nat_le 65536 (w + k)) pair_is

module _ (d : ℕ) (cpu : Cpu) (core : IsCore cpu) (below : d < 31) where
  abbrev pub put_pair : ℕ × Sreg → Cpu
  put_pair result = advanced 1 (to_pair d result cpu)

  pair_put : (result : ℕ × Sreg) → word_in d (d + 1) (put_pair result) ≡ result.0
  pair_put result =
      let low = slice_set cpu.r d (result.0 % 256) in
      let there : reg d (put_pair result) ≡ result.0 % 256 =
      get_or-set_other low ((d + 1) % 32) d (result.0 / 256) 0 (λ e. omega (arith, e, below)) ∙ get_or-set_same cpu.r d (result.0 % 256) 0 (omega (arith, core.count, below)) in
      let above : reg (d + 1) (put_pair result) ≡ result.0 / 256 =
      ap (λ e. reg e (put_pair result)) (sym (next d cpu below))
      ∙ get_or-set_same low ((d + 1) % 32) (result.0 / 256) 0 (omega (arith, core.count, below, length-set cpu.r d (result.0 % 256))) in
      ap (λ n. n + 256 * reg (d + 1) (put_pair result)) there ∙ ap (λ n. result.0 % 256 + 256 * n) above ∙ halves result.0

  pub sums : (k : ℕ) → word_in d (d + 1) (put_pair (added_word (pair_at d cpu) k cpu.sreg)) ≡ (word_in d (d + 1) cpu + k) % 65536
  sums k =
      pair_put (added_word (pair_at d cpu) k cpu.sreg) ∙ sum_of (pair_at d cpu) k cpu.sreg ∙ ap (λ w. (w + k) % 65536) (pair_is d cpu below)

  pub differs : (k : ℕ) → word_in d (d + 1) (put_pair (subtracted_word (pair_at d cpu) k cpu.sreg)) ≡ (word_in d (d + 1) cpu + 65536 - k) % 65536
  differs k =
      pair_put (subtracted_word (pair_at d cpu) k cpu.sreg) ∙ difference_of (pair_at d cpu) k cpu.sreg
      ∙ ap (λ w. (w + 65536 - k) % 65536) (pair_is d cpu below)

  pair_fits : pair_at d cpu < 65536
  pair_fits = omega (arith, core.bytes d, core.bytes ((d + 1) % 32))

  pub compared : (k : ℕ) → k < 64 → IsCompared 32768 (word_in d (d + 1) cpu) k (put_pair (subtracted_word (pair_at d cpu) k cpu.sreg))
  compared k f =
      let pair = pair_is d cpu below in
      record {
        lower = lower (pair_at d cpu) k cpu.sreg ∙ ap (λ w. nat_lt w k) pair;
        equal = equal (pair_at d cpu) k cpu.sreg pair_fits (omega (arith, f)) ∙ ap (λ w. w == k) pair;
        less = less (pair_at d cpu) k cpu.sreg pair_fits (omega (arith, f)) ∙ ap (λ w. int_lt (signed 32768 w) (signed 32768 k)) pair;
      }
