-- The numbers of an instruction's printed operands fit their digits: a constant or an I/O address has at most eight
-- bits in its word.
use Rattle.std.proofs.Common.{◌≡◌, ℕ, ◌+◌, ◌*◌, ◌/◌, ◌%◌, ◌^◌, ◌<◌, ◌≤◌, ◌&&◌, Bool, true, false, List, [], ◌∷◌, length, filter, refl, arith, mul-le-mul_right, pow-suc}
use Rattle.std.specs.Prelude.{nat_le}
use Rattle.std.proofs.lemmas.Bool.{and_parts, cond_both, leb-true}
use Rattle.avr_base.proofs.Computed.{all_from, all_from-at}
use Rattle.avr_decoder.specs.Opcodes.{Row, bits, bits_at, matches, matches_any, op_at, places, rows_at, spelled, table, undefined, K, A}
use Rattle.avr_decoder.specs.declared.op.Op.{Op}
use Rattle.avr_decoder.specs.declared.op.Op.TheVariants as op
use Rattle.avr_disassembler.specs.Text.{shown}
use Rattle.asm_laws.proofs.Bytes.{AllFit}

abbrev pub Shows : Op → Type 0
Shows o = AllFit (shown o).operands

doubled : (before bit x m : ℕ) → bit < 2 → (before + 1) * (2 ^ x * 2) ≤ m → (2 * before + bit + 1) * 2 ^ x ≤ m
doubled before bit x m b h =
    let most : bit * 2 ^ x ≤ 1 * 2 ^ x = mul-le-mul_right (2 ^ x) (omega arith) in
    omega arith

-- so many bits spell a number so large
bits_below : (places : List ℕ) (before word m : ℕ) → (before + 1) * 2 ^ length places ≤ m → bits_at before places word < m
unfolding bits_at
bits_below [] before word m h = omega arith
bits_below (p ∷ ps) before word m h =
    let bit : word / 2 ^ p % 2 < 2 = omega arith in
    bits_below ps (2 * before + word / 2 ^ p % 2) word m (doubled before (word / 2 ^ p % 2) (length ps) m bit (rw pow-suc at h))

powers : all_from (λ k. nat_le (2 ^ k) 256) 0 9 ≡ true
powers = refl

eight : (letter : ℕ) (pattern : List ℕ) (word : ℕ) → length (places letter 15 pattern) ≤ 8 → spelled letter pattern word < 256
eight letter pattern word h = bits_below (places letter 15 pattern) 0 word 256 (omega (arith, leb-true _ 256 (all_from-at (λ k. nat_le (2 ^ k) 256) 0 9 (length (places letter 15 pattern)) powers (omega arith) (omega arith))))

-- each row has at most eight bits of a constant and of an I/O address
abbrev narrow : List Row → Bool
narrow [] = true
narrow (row ∷ rows) = (nat_le (length (places K 15 row.pattern)) 8 && nat_le (length (places A 15 row.pattern)) 8) && narrow rows

table_narrow : narrow table ≡ true
table_narrow = refl

-- each row's operands fit, where the numbers of these two letters do
abbrev AllShow : (ℕ → ℕ) → ℕ → List Row → Type 0
AllShow n next [] = Unit {0}
AllShow n next (row ∷ rows) = Shows (row.made n next) × AllShow n next rows

table_shows : (n : ℕ → ℕ) (next : ℕ) → n K < 256 → n A < 256 → next < 65536 → AllShow n next table
unfolding shown
table_shows n next constant address second = omega arith

abbrev pub first : ℕ → ℕ → List Row → Op
first word next rows = elim rows [ [] ↦ op.Reserved word | row ∷ _ ↦ row.made (λ letter. spelled letter row.pattern word) next ]

module _ (word next : ℕ) (small : word < 65536) (second : next < 65536) where
  first_shows : (rows : List Row) → narrow rows ≡ true → ((n : ℕ → ℕ) → n K < 256 → n A < 256 → AllShow n next rows) → (p : Row → Bool) → Shows (first word next (filter p rows))
  unfolding shown
  first_shows [] h all p = small
  first_shows (row ∷ rows) h all p =
      let parts = and_parts (nat_le (length (places K 15 row.pattern)) 8 && nat_le (length (places A 15 row.pattern)) 8) (narrow rows) h in
      let both = and_parts (nat_le (length (places K 15 row.pattern)) 8) (nat_le (length (places A 15 row.pattern)) 8) parts.0 in
      cond_both (p row) (row ∷ filter p rows) (filter p rows) (λ rs. Shows (first word next rs))
      (λ _. (all (λ letter. spelled letter row.pattern word) (eight K row.pattern word (leb-true _ 8 both.0)) (eight A row.pattern word (leb-true _ 8 both.1))).0)
      (λ _. first_shows rows parts.1 (λ n c a. (all n c a).1) p)

  either : (b : Bool) (x y : Op) → Shows x → Shows y → Shows (elim b [ true ↦ x | false ↦ y ])
  either true x y h k = h
  either false x y h k = k

  -- the numbers of each instruction fit their digits
  pub all_show : Shows (op_at word next)
  unfolding op_at rows_at shown
  all_show =
      either (matches_any undefined (bits 16 word)) (op.Undefined word) (first word next (rows_at word)) small
      (first_shows table table_narrow (λ n c a. table_shows n next c a second) (λ row. matches row.pattern (bits 16 word)))
