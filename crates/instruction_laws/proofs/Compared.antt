-- The flags of a difference of bytes, and of one of words in two steps.
use Rattle.std.proofs.Common.{◌≡◌, ℕ, ◌<◌, ◌==◌, ◌&&◌, nat_lt, int_lt, ◌+◌, true, false, ap, ◌∙◌}
use Rattle.avr_base.specs.Flags.{has_flag}
use Rattle.avr_base.specs.declared.sreg.Sreg.{Sreg}
use Rattle.arith_step.specs.Bytes.{subtracted}
use Rattle.arith_step.specs.Whole.{one_if, signed}
use Rattle.instruction_laws.specs.Branches.{word}
use Rattle.instruction_laws.proofs.Flags.{carry_of, sign_of, zero_of}
use Rattle.instruction_laws.proofs.Signs.{byte_equal, byte_less, byte_lower, is_zero, sign, word_equal, word_less, word_lower}

-- the flags after a - b, and after a - b - C with Z kept
abbrev pub alone : ℕ → ℕ → Sreg → Sreg
alone a b s = (subtracted a b false false s).1

abbrev pub going_on : ℕ → ℕ → Sreg → Sreg
going_on a b s = (subtracted a b (has_flag s.bits 0) true s).1

module _ (a b : ℕ) (s : Sreg) (f : a < 256) (g : b < 256) where
  pub lower : has_flag (alone a b s).bits 0 ≡ nat_lt a b
  unfolding subtracted
  lower = carry_of _ _ _ _ _ s.bits ∙ byte_lower a b

  pub zero_alone : has_flag (alone a b s).bits 1 ≡ is_zero a b false
  unfolding subtracted
  zero_alone = zero_of _ _ _ _

  pub equal : has_flag (alone a b s).bits 1 ≡ a == b
  equal = zero_alone ∙ byte_equal a b f g

  pub less : has_flag (alone a b s).bits 4 ≡ int_lt (signed 128 a) (signed 128 b)
  unfolding subtracted
  less = sign_of _ _ _ _ ∙ byte_less a b f g

module _ (al ah bl bh : ℕ) (s : Sreg) (f : al < 256) (g : bl < 256) (h : ah < 256) (k : bh < 256) where
  abbrev Both : Sreg
  Both = going_on ah bh (alone al bl s)

  borrow : has_flag (alone al bl s).bits 0 ≡ nat_lt al bl
  borrow = lower al bl s f g

  pub words_lower : has_flag Both.bits 0 ≡ nat_lt (word al ah) (word bl bh)
  unfolding subtracted
  words_lower = carry_of _ _ _ _ _ (alone al bl s).bits ∙ ap (λ c. nat_lt ah (bh + one_if c)) borrow ∙ word_lower al ah bl bh f g h k

  pub words_equal : has_flag Both.bits 1 ≡ word al ah == word bl bh
  unfolding subtracted
  words_equal =
      zero_of _ _ _ _ ∙ ap (λ c. has_flag (alone al bl s).bits 1 && is_zero ah bh c) borrow
      ∙ ap (λ z. z && is_zero ah bh (nat_lt al bl)) (zero_alone al bl s f g) ∙ word_equal al ah bl bh f g h k

  pub words_less : has_flag Both.bits 4 ≡ int_lt (signed 32768 (word al ah)) (signed 32768 (word bl bh))
  unfolding subtracted
  words_less = sign_of _ _ _ _ ∙ ap (sign ah bh) borrow ∙ word_less al ah bl bh f g h k
