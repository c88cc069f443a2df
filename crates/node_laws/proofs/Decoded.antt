-- The numbers of a decoded instruction that go to a register or to the program counter fit there: a constant has at
-- most eight bits in its word, an address is the second word.
use Rattle.std.proofs.Common.{◌≡◌, ℕ, ◌+◌, ◌*◌, ◌/◌, ◌%◌, ◌^◌, ◌<◌, ◌≤◌, ◌&&◌, Bool, true, false, List, [], ◌∷◌, length, filter, refl, arith, mul-le-mul_right, pow-suc}
use Rattle.std.specs.Prelude.{nat_le}
use Rattle.std.proofs.lemmas.Bool.{and_parts, cond_both, leb-true}
use Rattle.std.proofs.Math.Pow.{pow_mono}
use Rattle.avr_decoder.specs.Opcodes.{K, Row, bits, bits_at, matches, matches_any, op_at, places, rows_at, spelled, table, undefined}
use Rattle.avr_decoder.specs.declared.op.Op.{Op}
use Rattle.avr_decoder.specs.declared.op.Op.TheVariants as op
use Rattle.node_laws.proofs.Cores.{OpWithin}

doubled : (before bit x m : ℕ) → bit < 2 → (before + 1) * (2 ^ x * 2) ≤ m → (2 * before + bit + 1) * 2 ^ x ≤ m
doubled before bit x m b h =
    let most : bit * 2 ^ x ≤ 1 * 2 ^ x = mul-le-mul_right (2 ^ x) (omega arith) in
    omega arith

-- so many bits spell a number so large
bits_below : (places : List ℕ) (before word m : ℕ) → (before + 1) * 2 ^ length places ≤ m → bits_at before places word < m
unfolding bits_at
bits_below [] before word m h = omega arith
bits_below (p ∷ ps) before word m h =
    let bit : word / 2 ^ p % 2 < 2 = omega arith in
    bits_below ps (2 * before + word / 2 ^ p % 2) word m (doubled before (word / 2 ^ p % 2) (length ps) m bit (rw pow-suc at h))

eight : (letter : ℕ) (pattern : List ℕ) (word : ℕ) → length (places letter 15 pattern) ≤ 8 → spelled letter pattern word < 256
eight letter pattern word h = bits_below (places letter 15 pattern) 0 word 256 (omega (arith, pow_mono h))

-- each row has at most eight bits of a constant
abbrev narrow : List Row → Bool
narrow [] = true
narrow (row ∷ rows) = nat_le (length (places K 15 row.pattern)) 8 && narrow rows

table_narrow : narrow table ≡ true
table_narrow = refl

-- each row's numbers fit, where the constant does
abbrev AllIn : (ℕ → ℕ) → ℕ → List Row → Type 0
AllIn n next [] = Unit {0}
AllIn n next (row ∷ rows) = OpWithin (row.made n next) × AllIn n next rows

table_in : (n : ℕ → ℕ) (next : ℕ) → n K < 256 → next < 65536 → AllIn n next table
table_in n next constant second = omega arith

abbrev first : ℕ → ℕ → List Row → Op
first word next rows = elim rows [ [] ↦ op.Reserved word | row ∷ _ ↦ row.made (λ letter. spelled letter row.pattern word) next ]

module _ (word next : ℕ) (second : next < 65536) where
  first_in : (rows : List Row) → narrow rows ≡ true → ((n : ℕ → ℕ) → n K < 256 → AllIn n next rows) → (p : Row → Bool) → OpWithin (first word next (filter p rows))
  first_in [] h all p = tt
  first_in (row ∷ rows) h all p =
      let parts = and_parts (nat_le (length (places K 15 row.pattern)) 8) (narrow rows) h in
      cond_both (p row) (row ∷ filter p rows) (filter p rows) (λ rs. OpWithin (first word next rs))
      (λ _. (all (λ letter. spelled letter row.pattern word) (eight K row.pattern word (leb-true _ 8 parts.0))).0)
      (λ _. first_in rows parts.1 (λ n c. (all n c).1) p)

  either : (b : Bool) (x y : Op) → OpWithin x → OpWithin y → OpWithin (elim b [ true ↦ x | false ↦ y ])
  either true x y h k = h
  either false x y h k = k

  pub op_in : OpWithin (op_at word next)
  unfolding op_at rows_at
  op_in =
      either (matches_any undefined (bits 16 word)) (op.Undefined word) (first word next (rows_at word)) tt
      (first_in table table_narrow (λ n c. table_in n next c second) (λ row. matches row.pattern (bits 16 word)))
