-- From a test that the checker computes over a range of words to the instruction at each of them.
use Rattle.std.proofs.Common.{◌≡◌, ◌≢◌, ℕ, zero, suc, ◌+◌, ◌*◌, ◌^◌, ◌/◌, ◌%◌, ◌<◌, ◌≤◌, ◌==◌, Bool, true, false, refl, sym, ap, ◌∙◌, List, [], ◌∷◌, ◌++◌, None, Some, arith, zero-add, add_comm}
use Rattle.std.proofs.Math.Nat.{suc-add, div-div-eq-div-mul}
use Rattle.std.proofs.lemmas.Nat.{pow-add}
use Rattle.std.specs.Prelude.{filter, length, Option, if◌then◌else◌}
use Rattle.std.proofs.lemmas.Bool.{false≢true, true≢false, eqb-true, eq-eqb, ne_eqb}
use Rattle.avr_base.proofs.Computed.{all_from, all_from-at}
use Rattle.avr_decoder.specs.declared.op.Op.{Op}
use Rattle.avr_decoder.specs.declared.op.Op.TheVariants as op
use Rattle.avr_decoder.specs.Opcodes.{Row, matches, matches_any, bits, table, undefined, spelled, rows_at, op_at}

-- the number of the first of these rows that the bits match, or how many they are
abbrev pub first : List Row → List ℕ → ℕ
first [] bs = zero
first (r ∷ rs) bs = elim (matches r.pattern bs) [ true ↦ zero | false ↦ suc (first rs bs) ]

-- the row of a number
abbrev pub nth : List Row → ℕ → Option Row
nth [] n = None
nth (r ∷ rs) zero = Some r
nth (r ∷ rs) (suc n) = nth rs n

-- the number of the row of these bits: 0 to 88, 89 for a reserved word, 90 for an undefined one
unfoldable pub number_of : List ℕ → ℕ
number_of bs = elim (matches_any undefined bs) [ true ↦ 90 | false ↦ first table bs ]

abbrev pub number_at : ℕ → ℕ
number_at w = number_of (bits 16 w)

-- what a row, or none, makes of a word
abbrev pub made_by : ℕ → ℕ → Option Row → Op
made_by w next None = op.Reserved w
made_by w next (Some row) = row.made (λ letter. spelled letter row.pattern w) next

-- what the row of this number makes of a word
unfoldable pub numbered : ℕ → ℕ → ℕ → Op
numbered n w next = elim (n == 90) [ true ↦ op.Undefined w | false ↦ made_by w next (nth table n) ]

abbrev head : List Row → Option Row
head [] = None
head (r ∷ rs) = Some r

nth-first : (rows : List Row) (bs : List ℕ) → head (filter (λ row. matches row.pattern bs) rows) ≡ nth rows (first rows bs)
nth-first [] bs = refl
nth-first (r ∷ rs) bs =
    elim (matches r.pattern bs) as (λ b. head (if b then (r ∷ filter (λ row. matches row.pattern bs) rs) else filter (λ row. matches row.pattern bs) rs) ≡ nth (r ∷ rs) (elim b [ true ↦ zero | false ↦ suc (first rs bs) ])) [
      | true ↦ refl
      | false ↦ nth-first rs bs
    ]

first-le : (rows : List Row) (bs : List ℕ) → first rows bs ≤ length rows
first-le [] bs = omega arith
first-le (r ∷ rs) bs =
    let more = first-le rs bs in
    elim (matches r.pattern bs) as (λ b. elim b [ true ↦ zero | false ↦ suc (first rs bs) ] ≤ length (r ∷ rs)) [
      | true ↦ omega arith
      | false ↦ omega arith
    ]

at_false : (b : Bool) (x y : Op) → b ≡ false → elim b [ true ↦ x | false ↦ y ] ≡ y
at_false true x y e = absurd (true≢false e)
at_false false x y e = refl

at_head : (w next : ℕ) (rows : List Row) → elim rows [ [] ↦ op.Reserved w | row ∷ _ ↦ made_by w next (Some row) ] ≡ made_by w next (head rows)
at_head w next [] = refl
at_head w next (r ∷ rs) = refl

-- the definition by all rows that match, and the number of the first one
op_at-numbered : (w next : ℕ) → op_at w next ≡ numbered (number_at w) w next
unfolding op_at rows_at number_of numbered
op_at-numbered w next =
    elim (matches_any undefined (bits 16 w)) as (λ b. elim b [ true ↦ op.Undefined w | false ↦ defined ] ≡ numbered (elim b [ true ↦ 90 | false ↦ number ]) w next) [
      | true ↦ refl
      | false ↦ at_head w next (rows_at w) ∙ (ap (made_by w next) (nth-first table (bits 16 w)) ∙ sym (at_false (number == 90) (op.Undefined w) (made_by w next (nth table number)) not_ninety))
    ]
  where
    defined : Op
    defined = elim (rows_at w) [ [] ↦ op.Reserved w | row ∷ _ ↦ made_by w next (Some row) ]

    number : ℕ
    number = first table (bits 16 w)

    not_ninety : (first table (bits 16 w) == 90) ≡ false
    not_ninety = let few = first-le table (bits 16 w) in ne_eqb (first table (bits 16 w)) 90 (λ e. absurd (omega arith))

when : (b c : Bool) → elim b [ true ↦ c | false ↦ true ] ≡ true → b ≡ true → c ≡ true
when true c h e = h
when false c h e = absurd (false≢true e)

-- the test that a word has a row, if a field of it has a value
abbrev pub has_row : ℕ → (ℕ → ℕ) → ℕ → ℕ → Bool
has_row n field value w = elim (field w == value) [ true ↦ number_at w == n | false ↦ true ]

-- where a value of a field leads to one row at each word of a range, so it does at a word of the range
pub with_field : (field : ℕ → ℕ) (n at len value w next : ℕ) → all_from (has_row n field value) at len ≡ true → at ≤ w → w < at + len → field w ≡ value → op_at w next ≡ numbered n w next
with_field field n at len value w next computed low high is =
    let here = when (field w == value) (number_at w == n) (all_from-at (has_row n field value) at len w computed low high) (eq-eqb (field w) value is) in
    op_at-numbered w next ∙ ap (λ k. numbered k w next) (eqb-true (number_at w) n here)

-- 1 where a number is none of these, else 0: a field whose value 1 leads to what is left of a range
abbrev pub none_of : List ℕ → ℕ → ℕ
none_of [] v = 1
none_of (k ∷ ks) v = elim (v == k) [ true ↦ 0 | false ↦ none_of ks v ]

abbrev pub IsNone : List ℕ → ℕ → Type 0
IsNone [] v = Unit {0}
IsNone (k ∷ ks) v = (v ≢ k) × IsNone ks v

pub none_is : (ks : List ℕ) (v : ℕ) → IsNone ks v → none_of ks v ≡ 1
none_is [] v h = refl
none_is (k ∷ ks) v h = let ne : v ≢ k = h.0 in rw (none_of, ne_eqb v k ne) (none_is ks v h.1)

-- the bits of a word are those of its upper part and those below
pub bits-split : (k m w : ℕ) → bits (k + m) w ≡ bits k (w / 2 ^ m) ++ bits m w
bits-split zero m w = ap (λ i. bits i w) (zero-add m)
bits-split (suc k) m w =
    let power : 2 ^ (k + m) ≡ 2 ^ m * 2 ^ k = ap (λ i. 2 ^ i) (add_comm k m) ∙ pow-add 2 m k in
    let quotient = div-div-eq-div-mul w (2 ^ m) (2 ^ k) in
    let below = bits-split k m w in
    let all : (w / 2 ^ (k + m) % 2) ∷ bits (k + m) w ≡ (w / 2 ^ m / 2 ^ k % 2) ∷ (bits k (w / 2 ^ m) ++ bits m w) = cc in
    ap (λ i. bits i w) (suc-add k m) ∙ all

-- where the bits of a word are known as far as the patterns look at them
pub by_bits : (n w next : ℕ) (bs : List ℕ) → bits 16 w ≡ bs → number_of bs ≡ n → op_at w next ≡ numbered n w next
by_bits n w next bs e is = op_at-numbered w next ∙ ap (λ k. numbered k w next) (ap number_of e ∙ is)

-- where the k upper bits of a word lead to one row, whatever the m others are
pub by_top : (n k m v w next : ℕ) → number_of (bits k v ++ bits m w) ≡ n → k + m ≡ 16 → w / 2 ^ m ≡ v → op_at w next ≡ numbered n w next
by_top n k m v w next is whole top =
    by_bits n w next (bits k v ++ bits m w) (ap (λ i. bits i w) (sym whole) ∙ (bits-split k m w ∙ ap (λ u. bits k u ++ bits m w) top)) is

-- where the k upper bits of a word and bit 3 lead to one row, whatever the m bits between them and the low three are
pub by_bit : (n k m v x w next : ℕ) → number_of (bits k v ++ (bits m (w / 16) ++ (x ∷ bits 3 w))) ≡ n → k + (m + 4) ≡ 16 → w / 2 ^ (m + 4) ≡ v → w / 8 % 2 ≡ x → op_at w next ≡ numbered n w next
by_bit n k m v x w next is whole top bit =
    let below : bits (m + 4) w ≡ bits m (w / 16) ++ (x ∷ bits 3 w) = bits-split m 4 w ∙ ap (λ u. bits m (w / 16) ++ (u ∷ bits 3 w)) bit in
    by_bits n w next (bits k v ++ (bits m (w / 16) ++ (x ∷ bits 3 w)))
    (ap (λ i. bits i w) (sym whole) ∙ (bits-split k (m + 4) w ∙ (ap (λ u. bits k u ++ bits (m + 4) w) top ∙ ap (λ t. bits k v ++ t) below))) is

-- the bits of a number are those of what is left of it by a power of two
bits-5 : (v : ℕ) → bits 5 v ≡ bits 5 (v % 32)
bits-5 v =
    let b4 : v / 16 % 2 ≡ v % 32 / 16 % 2 = omega arith in
    let b3 : v / 8 % 2 ≡ v % 32 / 8 % 2 = omega arith in
    let b2 : v / 4 % 2 ≡ v % 32 / 4 % 2 = omega arith in
    let b1 : v / 2 % 2 ≡ v % 32 / 2 % 2 = omega arith in
    let b0 : v / 1 % 2 ≡ v % 32 / 1 % 2 = omega arith in
    (λ i. b4 i ∷ b3 i ∷ b2 i ∷ b1 i ∷ b0 i ∷ [])

bits-4 : (v : ℕ) → bits 4 v ≡ bits 4 (v % 16)
bits-4 v =
    let b3 : v / 8 % 2 ≡ v % 16 / 8 % 2 = omega arith in
    let b2 : v / 4 % 2 ≡ v % 16 / 4 % 2 = omega arith in
    let b1 : v / 2 % 2 ≡ v % 16 / 2 % 2 = omega arith in
    let b0 : v / 1 % 2 ≡ v % 16 / 1 % 2 = omega arith in
    (λ i. b3 i ∷ b2 i ∷ b1 i ∷ b0 i ∷ [])

-- the bits of a word by its upper seven, those of a register and the low four
bits-ends : (top low w : ℕ) → w / 512 ≡ top → w % 16 ≡ low → bits 16 w ≡ bits 7 top ++ (bits 5 (w / 16) ++ bits 4 low)
bits-ends top low w e f =
    bits-split 7 9 w ∙ (ap (λ u. bits 7 u ++ bits 9 w) e ∙ ap (λ t. bits 7 top ++ t) (bits-split 5 4 w ∙ ap (λ t. bits 5 (w / 16) ++ t) (bits-4 w ∙ ap (λ u. bits 4 u) f)))

-- where the upper seven bits and the low four lead to one row, whatever the register between them is
pub by_ends : (n top low w next : ℕ) → number_of (bits 7 top ++ (bits 5 (w / 16) ++ bits 4 low)) ≡ n → w / 512 ≡ top → w % 16 ≡ low → op_at w next ≡ numbered n w next
by_ends n top low w next is e f = by_bits n w next (bits 7 top ++ (bits 5 (w / 16) ++ bits 4 low)) (bits-ends top low w e f) is

abbrev pub number_with : ℕ → ℕ → ℕ → ℕ
number_with top low v = number_of (bits 7 top ++ (bits 5 v ++ bits 4 low))

with_register : (n top low w next : ℕ) → number_with top low (w / 16 % 32) ≡ n → w / 512 ≡ top → w % 16 ≡ low → op_at w next ≡ numbered n w next
with_register n top low w next is e f =
    by_bits n w next (bits 7 top ++ (bits 5 (w / 16 % 32) ++ bits 4 low)) (bits-ends top low w e f ∙ ap (λ t. bits 7 top ++ (t ++ bits 4 low)) (bits-5 (w / 16))) is

-- the row of a word with a register in its middle, by a test of each register
pub by_registers : (n top low w next : ℕ) → all_from (λ v. number_with top low v == n) 0 32 ≡ true → w / 512 ≡ top → w % 16 ≡ low → op_at w next ≡ numbered n w next
by_registers n top low w next computed e f =
    with_register n top low w next (eqb-true (number_with top low (w / 16 % 32)) n (all_from-at (λ v. number_with top low v == n) 0 32 (w / 16 % 32) computed (omega arith) (omega arith))) e f

-- the number of the row of a load or store that moves a pointer, or of none, since its register is in the pair of this
-- number
abbrev pub moving_number : ℕ → ℕ → ℕ → ℕ
moving_number n pair v = elim (v / 2 == pair) [ true ↦ 90 | false ↦ n ]

chosen : (b : Bool) (n w next : ℕ) → numbered (elim b [ true ↦ 90 | false ↦ n ]) w next ≡ (if b then numbered 90 w next else numbered n w next)
chosen true n w next = refl
chosen false n w next = refl

half : (w : ℕ) → w / 16 % 32 / 2 ≡ w / 32 % 16
half w = omega arith

pub moving : (n top pair low w next : ℕ) → all_from (λ v. number_with top low v == moving_number n pair v) 0 32 ≡ true → w / 512 ≡ top → w % 16 ≡ low → op_at w next ≡ (if w / 32 % 16 == pair then numbered 90 w next else numbered n w next)
moving n top pair low w next computed e f =
    let here = eqb-true (number_with top low (w / 16 % 32)) (moving_number n pair (w / 16 % 32)) (all_from-at (λ v. number_with top low v == moving_number n pair v) 0 32 (w / 16 % 32) computed (omega arith) (omega arith)) in
    with_register (moving_number n pair (w / 16 % 32)) top low w next here e f
    ∙ (ap (λ v. numbered (elim (v == pair) [ true ↦ 90 | false ↦ n ]) w next) (half w) ∙ chosen (w / 32 % 16 == pair) n w next)

-- what a row that moves its pointer makes of a register, which is read from the word
pub of_register : (w pair : ℕ) (made : ℕ → Op) {it : Op} {register read : ℕ} → it ≡ (if w / 32 % 16 == pair then op.Undefined w else made register) → register ≡ read
    → it ≡ (if w / 32 % 16 == pair then op.Undefined w else made read)
of_register w pair made e f = e ∙ ap (λ r. if w / 32 % 16 == pair then op.Undefined w else made r) f
