-- The printed text of each instruction of one word assembles to that word: by its row where the row has many words, and
-- computed word by word where rows are small.
use Rattle.std.proofs.Common.{◌≡◌, ℕ, ◌+◌, ◌<◌, ◌≤◌, ◌==◌, ◌&&◌, not, is_some, Bool, true, false, refl, sym, ◌∙◌, Result, Ok, Err, inl, inr, arith}
use Rattle.std.specs.Fmt.{digits}
use Rattle.std.proofs.lemmas.Bool.{and_parts, cases_lt, eqb-true}
use Rattle.avr_base.proofs.Computed.{all_from, all_from-at}
use Rattle.avr_decoder.specs.Opcodes.{op_at, rows_at, bits_at}
use Rattle.avr_decoder.specs.Words.{is_two_words}
use Rattle.avr_decoder.proofs.Long.{by_patterns, is_two_words-by_patterns}
use Rattle.avr_disassembler.specs.Text.{shown, operand_text, pointer_text}
use Rattle.sim_io.specs.Digits.{hex2, hex4, offset_text}
use Rattle.asm_words.specs.Text.{is_label}
use Rattle.asm_words.specs.Encoded.{encoded, part_of, piece}
use Rattle.asm_words.specs.Fields.{register_bits, number_bits, pointer, flash_pointer, displaced_of}
use Rattle.asm_words.specs.Number.{digits_of, number, register}
use Rattle.asm_words.specs.Opcodes.{bare, one_plain, one_alias, two_registers, two_narrow, two_signed, two_constant, two_memory, two_bits}
use Rattle.asm_words.specs.Target.{offset_of}
use Rattle.asm_words.specs.declared.instruction.Piece.{Piece}
use Rattle.asm_words.specs.declared.instruction.WordFault.{WordFault}
use Rattle.asm_laws.specs.Printed.{Labels, assembled, one_word}
use Rattle.asm_laws.proofs.Parts.{none_of}
use Rattle.asm_laws.proofs.Families.{Back, cpc_back, sbc_back, add_back, cpse_back, cp_back, sub_back, adc_back, and_back, eor_back, or_back, mov_back, cpi_back, sbci_back, subi_back, ori_back, andi_back, mul_back, in_io_back, out_io_back, rjmp_back, rcall_back, ldi_back, brbs_back, brbc_back}
use Rattle.asm_laws.proofs.Displaced.{displaced_8_back, displaced_10_back}

-- whether this word alone was assembled
abbrev is_word : ℕ → Result Piece WordFault → Bool
is_word w (Err fault) = false
is_word w (Ok p) = p.first == w && not (is_some p.second)

abbrev comes_back : ℕ → Labels → ℕ → ℕ → Bool
comes_back at labels next w = elim (by_patterns w) [ true ↦ true | false ↦ is_word w (assembled (op_at w next) at labels) ]

module _ (at : ℕ) (labels : Labels) (next : ℕ) where
  words_0 : all_from (comes_back at labels next) 0 1024 ≡ true
  unfolding digits op_at rows_at bits_at shown operand_text pointer_text hex2 hex4 offset_text is_label encoded part_of register_bits number_bits pointer flash_pointer displaced_of digits_of number register bare one_plain one_alias two_registers two_narrow two_signed two_constant two_memory two_bits offset_of
  words_0 = refl

  words_36864 : all_from (comes_back at labels next) 36864 2048 ≡ true
  unfolding digits op_at rows_at bits_at shown operand_text pointer_text hex2 hex4 offset_text is_label encoded part_of register_bits number_bits pointer flash_pointer displaced_of digits_of number register bare one_plain one_alias two_registers two_narrow two_signed two_constant two_memory two_bits offset_of
  words_36864 = refl

  words_38912 : all_from (comes_back at labels next) 38912 1024 ≡ true
  unfolding digits op_at rows_at bits_at shown operand_text pointer_text hex2 hex4 offset_text is_label encoded part_of register_bits number_bits pointer flash_pointer displaced_of digits_of number register bare one_plain one_alias two_registers two_narrow two_signed two_constant two_memory two_bits offset_of
  words_38912 = refl

  words_63488 : all_from (comes_back at labels next) 63488 2048 ≡ true
  unfolding digits op_at rows_at bits_at shown operand_text pointer_text hex2 hex4 offset_text is_label encoded part_of register_bits number_bits pointer flash_pointer displaced_of digits_of number register bare one_plain one_alias two_registers two_narrow two_signed two_constant two_memory two_bits offset_of
  words_63488 = refl

when_one : (b c : Bool) → elim b [ true ↦ true | false ↦ c ] ≡ true → b ≡ false → c ≡ true
when_one true c h e = absurd (cc)
when_one false c h e = h

word_is : (w : ℕ) (r : Result Piece WordFault) → is_word w r ≡ true → r ≡ Ok (one_word w)
word_is w (Err fault) h = absurd (cc)
word_is w (Ok p) h =
    let parts = and_parts (p.first == w) (not (is_some p.second)) h in
    λ i. Ok (piece (eqb-true p.first w parts.0 i) (none_of p.second parts.1 i))

-- a word of a range that was computed
computed : (low n w next at : ℕ) (labels : Labels) → all_from (comes_back at labels next) low n ≡ true → is_two_words w ≡ false → low ≤ w → w < low + n → Back w next at labels
computed low n w next at labels all one from below =
    word_is w (assembled (op_at w next) at labels)
    (when_one (by_patterns w) (is_word w (assembled (op_at w next) at labels)) (all_from-at (comes_back at labels next) low n w all from below) (sym (is_two_words-by_patterns w) ∙ one))

-- range by range, from the last one
module _ (w next at : ℕ) (labels : Labels) (one : is_two_words w ≡ false) where
  from_63488 : 63488 ≤ w → w < 65536 → Back w next at labels
  from_63488 from high = computed 63488 2048 w next at labels (words_63488 at labels next) one from high

  from_62464 : 62464 ≤ w → w < 65536 → Back w next at labels
  from_62464 from high = elim (cases_lt w 63488) [ inl below ↦ brbc_back w next at labels from below | inr more ↦ from_63488 more high ]

  from_61440 : 61440 ≤ w → w < 65536 → Back w next at labels
  from_61440 from high = elim (cases_lt w 62464) [ inl below ↦ brbs_back w next at labels from below | inr more ↦ from_62464 more high ]

  from_57344 : 57344 ≤ w → w < 65536 → Back w next at labels
  from_57344 from high = elim (cases_lt w 61440) [ inl below ↦ ldi_back w next at labels from below | inr more ↦ from_61440 more high ]

  from_53248 : 53248 ≤ w → w < 65536 → Back w next at labels
  from_53248 from high = elim (cases_lt w 57344) [ inl below ↦ rcall_back w next at labels from below | inr more ↦ from_57344 more high ]

  from_49152 : 49152 ≤ w → w < 65536 → Back w next at labels
  from_49152 from high = elim (cases_lt w 53248) [ inl below ↦ rjmp_back w next at labels from below | inr more ↦ from_53248 more high ]

  from_47104 : 47104 ≤ w → w < 65536 → Back w next at labels
  from_47104 from high = elim (cases_lt w 49152) [ inl below ↦ out_io_back w next at labels from below | inr more ↦ from_49152 more high ]

  from_45056 : 45056 ≤ w → w < 65536 → Back w next at labels
  from_45056 from high = elim (cases_lt w 47104) [ inl below ↦ in_io_back w next at labels from below | inr more ↦ from_47104 more high ]

  from_40960 : 40960 ≤ w → w < 65536 → Back w next at labels
  from_40960 from high = elim (cases_lt w 45056) [ inl below ↦ displaced_10_back w next at labels from below | inr more ↦ from_45056 more high ]

  from_39936 : 39936 ≤ w → w < 65536 → Back w next at labels
  from_39936 from high = elim (cases_lt w 40960) [ inl below ↦ mul_back w next at labels from below | inr more ↦ from_40960 more high ]

  from_38912 : 38912 ≤ w → w < 65536 → Back w next at labels
  from_38912 from high = elim (cases_lt w 39936) [ inl below ↦ computed 38912 1024 w next at labels (words_38912 at labels next) one from below | inr more ↦ from_39936 more high ]

  from_36864 : 36864 ≤ w → w < 65536 → Back w next at labels
  from_36864 from high = elim (cases_lt w 38912) [ inl below ↦ computed 36864 2048 w next at labels (words_36864 at labels next) one from below | inr more ↦ from_38912 more high ]

  from_32768 : 32768 ≤ w → w < 65536 → Back w next at labels
  from_32768 from high = elim (cases_lt w 36864) [ inl below ↦ displaced_8_back w next at labels from below | inr more ↦ from_36864 more high ]

  from_28672 : 28672 ≤ w → w < 65536 → Back w next at labels
  from_28672 from high = elim (cases_lt w 32768) [ inl below ↦ andi_back w next at labels from below | inr more ↦ from_32768 more high ]

  from_24576 : 24576 ≤ w → w < 65536 → Back w next at labels
  from_24576 from high = elim (cases_lt w 28672) [ inl below ↦ ori_back w next at labels from below | inr more ↦ from_28672 more high ]

  from_20480 : 20480 ≤ w → w < 65536 → Back w next at labels
  from_20480 from high = elim (cases_lt w 24576) [ inl below ↦ subi_back w next at labels from below | inr more ↦ from_24576 more high ]

  from_16384 : 16384 ≤ w → w < 65536 → Back w next at labels
  from_16384 from high = elim (cases_lt w 20480) [ inl below ↦ sbci_back w next at labels from below | inr more ↦ from_20480 more high ]

  from_12288 : 12288 ≤ w → w < 65536 → Back w next at labels
  from_12288 from high = elim (cases_lt w 16384) [ inl below ↦ cpi_back w next at labels from below | inr more ↦ from_16384 more high ]

  from_11264 : 11264 ≤ w → w < 65536 → Back w next at labels
  from_11264 from high = elim (cases_lt w 12288) [ inl below ↦ mov_back w next at labels from below | inr more ↦ from_12288 more high ]

  from_10240 : 10240 ≤ w → w < 65536 → Back w next at labels
  from_10240 from high = elim (cases_lt w 11264) [ inl below ↦ or_back w next at labels from below | inr more ↦ from_11264 more high ]

  from_9216 : 9216 ≤ w → w < 65536 → Back w next at labels
  from_9216 from high = elim (cases_lt w 10240) [ inl below ↦ eor_back w next at labels from below | inr more ↦ from_10240 more high ]

  from_8192 : 8192 ≤ w → w < 65536 → Back w next at labels
  from_8192 from high = elim (cases_lt w 9216) [ inl below ↦ and_back w next at labels from below | inr more ↦ from_9216 more high ]

  from_7168 : 7168 ≤ w → w < 65536 → Back w next at labels
  from_7168 from high = elim (cases_lt w 8192) [ inl below ↦ adc_back w next at labels from below | inr more ↦ from_8192 more high ]

  from_6144 : 6144 ≤ w → w < 65536 → Back w next at labels
  from_6144 from high = elim (cases_lt w 7168) [ inl below ↦ sub_back w next at labels from below | inr more ↦ from_7168 more high ]

  from_5120 : 5120 ≤ w → w < 65536 → Back w next at labels
  from_5120 from high = elim (cases_lt w 6144) [ inl below ↦ cp_back w next at labels from below | inr more ↦ from_6144 more high ]

  from_4096 : 4096 ≤ w → w < 65536 → Back w next at labels
  from_4096 from high = elim (cases_lt w 5120) [ inl below ↦ cpse_back w next at labels from below | inr more ↦ from_5120 more high ]

  from_3072 : 3072 ≤ w → w < 65536 → Back w next at labels
  from_3072 from high = elim (cases_lt w 4096) [ inl below ↦ add_back w next at labels from below | inr more ↦ from_4096 more high ]

  from_2048 : 2048 ≤ w → w < 65536 → Back w next at labels
  from_2048 from high = elim (cases_lt w 3072) [ inl below ↦ sbc_back w next at labels from below | inr more ↦ from_3072 more high ]

  from_1024 : 1024 ≤ w → w < 65536 → Back w next at labels
  from_1024 from high = elim (cases_lt w 2048) [ inl below ↦ cpc_back w next at labels from below | inr more ↦ from_2048 more high ]

  from_0 : 0 ≤ w → w < 65536 → Back w next at labels
  from_0 from high = elim (cases_lt w 1024) [ inl below ↦ computed 0 1024 w next at labels (words_0 at labels next) one from below | inr more ↦ from_1024 more high ]

pub one_back : (w next at : ℕ) (labels : Labels) → w < 65536 → is_two_words w ≡ false → assembled (op_at w next) at labels ≡ Ok (one_word w)
one_back w next at labels h one = from_0 w next at labels one (omega arith) h
