-- The fields of an opcode word, by the names that they have in `src/fields.rt`, each by a pattern that has it.
use Rattle.std.proofs.Common.{ℕ, ◌+◌, ◌*◌}
use Rattle.std.specs.Prelude.{ℤ, codes}
use Rattle.avr_decoder.specs.Opcodes.{spelled, signed, d, r, K, A, b, s, q, k}

abbrev pub middle : ℕ → ℕ
middle w = spelled d (codes "000011rdddddrrrr") w

abbrev pub split : ℕ → ℕ
split w = spelled r (codes "000011rdddddrrrr") w

abbrev pub upper_d : ℕ → ℕ
upper_d w = 16 + spelled d (codes "0011KKKKddddKKKK") w

abbrev pub upper_r : ℕ → ℕ
upper_r w = 16 + spelled r (codes "00000010ddddrrrr") w

abbrev pub pair_d : ℕ → ℕ
pair_d w = 2 * spelled d (codes "00000001ddddrrrr") w

abbrev pub pair_r : ℕ → ℕ
pair_r w = 2 * spelled r (codes "00000001ddddrrrr") w

abbrev pub short_d : ℕ → ℕ
short_d w = 16 + spelled d (codes "000000110ddd0rrr") w

abbrev pub short_r : ℕ → ℕ
short_r w = 16 + spelled r (codes "000000110ddd0rrr") w

abbrev pub word_pair : ℕ → ℕ
word_pair w = 24 + 2 * spelled d (codes "10010110KKddKKKK") w

abbrev pub constant : ℕ → ℕ
constant w = spelled K (codes "0011KKKKddddKKKK") w

abbrev pub short_constant : ℕ → ℕ
short_constant w = spelled K (codes "10010110KKddKKKK") w

abbrev pub displacement : ℕ → ℕ
displacement w = spelled q (codes "10q0qq0ddddd0qqq") w

abbrev pub low_address : ℕ → ℕ
low_address w = spelled A (codes "10011000AAAAAbbb") w

abbrev pub address : ℕ → ℕ
address w = spelled A (codes "10110AAdddddAAAA") w

abbrev pub low_three : ℕ → ℕ
low_three w = spelled b (codes "10011000AAAAAbbb") w

abbrev pub flag : ℕ → ℕ
flag w = spelled s (codes "100101000sss1000") w

abbrev pub jump_offset : ℕ → ℤ
jump_offset w = signed 12 (spelled k (codes "1100kkkkkkkkkkkk") w)

abbrev pub branch_offset : ℕ → ℤ
branch_offset w = signed 7 (spelled k (codes "111100kkkkkkksss") w)
