-- How many program words an instruction takes (AVR Instruction Set Manual, "Words" of each).
use Rattle.std.specs.Prelude.{ℕ, ◌==◌, Bool}
use Rattle.avr_decoder.specs.declared.op.Op.{Op}
use Rattle.avr_decoder.specs.declared.op.Op.TheVariants as op
use Rattle.avr_decoder.specs.Opcodes.{op_at}

abbrev pub words_of : Op → ℕ
words_of (op.Jmp k) = 2
words_of (op.Call k) = 2
words_of (op.Lds d k) = 2
words_of (op.Sts k r) = 2
words_of _ = 1

-- whether a word is the first of an instruction of two words, which no second word changes
unfoldable pub is_two_words : ℕ → Bool
is_two_words word = words_of (op_at word 0) == 2
