-- SUBI of 1 and SBCI of 0 behind it, as of a number of two bytes: they lower it by one, and their flags do not tell where it
-- stands while its four highest bits stay.
use Rattle.std.proofs.Common.{◌≡◌, ◌≢◌, ℕ, suc, ◌+◌, ◌-◌, ◌*◌, ◌/◌, ◌%◌, ◌≤◌, ◌<◌, ◌==◌, ◌&&◌, nat_le, nat_lt, Bool, true, false, if◌then◌else◌, None, length, inl, inr, refl, sym, subst, ap, ◌∙◌, arith, pos, ◌-ℤ◌}
use Rattle.std.proofs.lemmas.Bool.Decides.{nat_tests}
use Rattle.std.proofs.lemmas.Bool.{and_parts, cases_lt, eqb-true}
use Rattle.std.proofs.lemmas.Int.{ints}
use Rattle.std.proofs.lemmas.List.{get_or-set_other}
use Rattle.std.specs.Prelude.{slice_index, slice_set}
use Rattle.avr_base.specs.declared.sreg.Sreg.{Sreg}
use Rattle.avr_base.specs.Flags.{C, Z, has_flag, with_flag}
use Rattle.avr_base.specs.Lines.{due_of, pending_of}
use Rattle.avr_base.specs.declared.interrupts.Lines.{Lines}
use Rattle.avr_base.proofs.Computed.{all_from, all_from-at}
use Rattle.arith_step.specs.Bytes.{subtracted}
use Rattle.avr_core.specs.ArithShapes.{subtracts, subtracts_with_carry}
use Rattle.avr_core.specs.ArithTable.{arith_cpu, effect}
use Rattle.arith_step.specs.Whole.{one_if, overflows, signed, with_carries, with_sign, xor}
use Rattle.avr_decoder.specs.declared.op.Op.TheVariants as op
use Rattle.data_space.specs.declared.cpu.Cpu.{Cpu}
use Rattle.board_io.specs.Lines.{lines_of}
use Rattle.node_core.specs.declared.pace.countdowns.Lowering.{Lowering}
use Rattle.node_core.specs.declared.machine.Machine.{Machine}
use Rattle.node_core.specs.Cycle.{op_now}
use Rattle.node_core.specs.Pace.Leaps.{IsLongLowering, IsStillStep, Walk, counter_at, goes, with_counter}
use Rattle.node_core.specs.Shown.{shown}
use Rattle.node_core.proofs.Counting.{came, counter_put, high_put, low_put, other_step, set_twice, walk_one}

-- ---- the flags of a subtraction, put into a flags byte at once
abbrev both : (Bool → Bool) → Bool
both p = p true && p false

at : (p : Bool → Bool) (b : Bool) → both p ≡ true → p b ≡ true
at p true h = (and_parts _ _ h).0
at p false h = (and_parts _ _ h).1

abbrev low_flags : Bool → Bool → Bool → Bool → Bool → ℕ
low_flags n z v c h = one_if c + 2 * one_if z + 4 * one_if n + 8 * one_if v + 16 * one_if (xor n v) + 32 * one_if h

abbrev flags_fit : Bool → Bool → Bool → Bool → Bool → ℕ → Bool
flags_fit n z v c h s = with_sign n z v (with_carries c h s) == s / 64 * 64 + low_flags n z v c h

all_fit : both (λ n. both (λ z. both (λ v. both (λ c. both (λ h. all_from (flags_fit n z v c h) 0 256))))) ≡ true
unfolding with_sign with_flag with_carries
all_fit = refl

one : (b : Bool) → one_if b ≤ 1
one true = omega arith
one false = omega arith

module _ (n z v c h : Bool) (s : ℕ) (f : s < 256) where
  fits : with_sign n z v (with_carries c h s) ≡ s / 64 * 64 + low_flags n z v c h
  fits =
      let e = at (λ n. both (λ z. both (λ v. both (λ c. both (λ h. all_from (flags_fit n z v c h) 0 256))))) n all_fit in
      let e = at (λ z. both (λ v. both (λ c. both (λ h. all_from (flags_fit n z v c h) 0 256)))) z e in
      let e = at (λ v. both (λ c. both (λ h. all_from (flags_fit n z v c h) 0 256))) v e in
      let e = at (λ c. both (λ h. all_from (flags_fit n z v c h) 0 256)) c e in
      let e = at (λ h. all_from (flags_fit n z v c h) 0 256) h e in
      eqb-true _ _ (all_from-at (flags_fit n z v c h) 0 256 s e (omega arith) (omega (arith, f)))

  low_below : low_flags n z v c h < 64
  low_below = below n z v c h
    where
      below : (n z v c h : Bool) → low_flags n z v c h < 64
      below n z v c h = let a = one n in let b = one z in let d = one v in let e = one c in let g = one h in let k = one (xor n v) in omega (arith, a, b, d, e, g, k)

  pub upper : with_sign n z v (with_carries c h s) / 64 ≡ s / 64
  upper = let e = fits in let l = low_below in omega (arith, e, l)

  pub small : with_sign n z v (with_carries c h s) < 256
  small = let e = fits in let l = low_below in omega (arith, e, l, f)

-- C and Z of them, and that the lower flags before do not tell
odd : (b : Bool) (k : ℕ) → k % 2 ≡ one_if b → (k % 2 == 1) ≡ b
odd true k is = ap (λ (r : ℕ). r == 1) is
odd false k is = ap (λ (r : ℕ). r == 1) is

pub carry_of : (n z v c h : Bool) (s : ℕ) → s < 256 → has_flag (with_sign n z v (with_carries c h s)) C ≡ c
carry_of n z v c h s f =
    let e = fits n z v c h s f in
    let few = one c in
    let lowest : with_sign n z v (with_carries c h s) / 1 % 2 ≡ one_if c = omega (arith, e, few) in
    odd c (with_sign n z v (with_carries c h s) / 1) lowest

pub zero_of : (n z v c h : Bool) (s : ℕ) → s < 256 → has_flag (with_sign n z v (with_carries c h s)) Z ≡ z
zero_of n z v c h s f =
    let e = fits n z v c h s f in
    let few = one c in
    let less = one z in
    let next : with_sign n z v (with_carries c h s) / 2 % 2 ≡ one_if z = omega (arith, e, few, less) in
    odd z (with_sign n z v (with_carries c h s) / 2) next

pub over : (n z v c h : Bool) (s t : ℕ) → s < 256 → t < 256 → s / 64 ≡ t / 64 → with_sign n z v (with_carries c h s) ≡ with_sign n z v (with_carries c h t)
over n z v c h s t f g e = fits n z v c h s f ∙ (ap (λ (k : ℕ). k * 64 + low_flags n z v c h) e ∙ sym (fits n z v c h t g))

-- the flag I is above them
pub due_same : (s t : ℕ) (lines : Lines) → s / 64 ≡ t / 64 → due_of s lines ≡ due_of t lines
due_same s t lines e =
    let half : s / 128 ≡ t / 128 = omega (arith, e) in
    ap (λ (k : ℕ). if k % 2 == 1 then pending_of lines else None) half

never_by : (s t : ℕ) (p : Bool) → nat_lt s 128 ≡ p → s / 64 ≡ t / 64 → false ≡ (p && nat_le 128 t)
never_by s t false is e = refl
never_by s t true is e = let low : nat_le 128 t ≡ false = grind (arith, is, e, nat_tests) in sym low

pub never_on : (s t : ℕ) → s / 64 ≡ t / 64 → false ≡ (nat_lt s 128 && nat_le 128 t)
never_on s t e = never_by s t (nat_lt s 128) refl e

-- ---- the core after both
-- a byte less 1, and whether that borrows and gives 0
module _ (a : ℕ) (s : Sreg) (f : s.bits < 256) where
  abbrev first : ℕ × Sreg
  first = subtracted a 1 false false s

  abbrev borrows : Bool
  borrows = nat_lt a (1 + one_if false)

  abbrev gives_zero : Bool
  gives_zero = (a + 256 - (1 + one_if false)) % 256 == 0

  kept_flags : first.1.bits / 64 ≡ s.bits / 64
  unfolding subtracted
  kept_flags = upper _ _ _ _ _ s.bits f

  fits_still : first.1.bits < 256
  unfolding subtracted
  fits_still = small _ _ _ _ _ s.bits f

  carry : has_flag first.1.bits C ≡ borrows
  unfolding subtracted
  carry = carry_of _ _ _ _ _ s.bits f

  zero : has_flag first.1.bits Z ≡ gives_zero
  unfolding subtracted
  zero = zero_of _ _ _ _ _ s.bits f

-- what is left of the flags behind a high byte r that is not 0 or not the last, without a borrow from a low digit 0
abbrev left : ℕ → Sreg → Sreg
left r s = record { bits = with_sign (nat_le 128 r) false false (with_carries false false s.bits) }

-- a byte x less 0 and a borrow c, behind flags t that have it
module _ (x r : ℕ) (c z : Bool) (s t : Sreg) (has_c : has_flag t.bits C ≡ c) (has_z : has_flag t.bits Z ≡ z) (f : t.bits < 256) (g : s.bits < 256) (e : t.bits / 64 ≡ s.bits / 64)
    (gives : (x + 256 - (0 + one_if c)) % 256 ≡ r) (some : (z && r == 0) ≡ false)
    (fine : overflows 128 (signed 128 x -ℤ signed 128 0 -ℤ pos (one_if c)) ≡ false) (none : nat_lt x (0 + one_if c) ≡ false) (half : nat_lt (x % 16) (0 % 16 + one_if c) ≡ false) where
  leaves : subtracted x 0 (has_flag t.bits C) true t ≡ (r, left r s)
  unfolding subtracted
  leaves =
      (λ i. subtracted x 0 (has_c i) true t)
      ∙ ((λ i. let u : Sreg = record { bits = with_sign (nat_le 128 (gives i)) (has_z i && gives i == 0) (fine i) (with_carries (none i) (half i) t.bits) } in (gives i, u))
      ∙ ((λ i. let u : Sreg = record { bits = with_sign (nat_le 128 r) (some i) false (with_carries false false t.bits) } in (r, u))
      ∙ ap (λ (b : ℕ). let u : Sreg = record { bits = b } in (r, u)) (over (nat_le 128 r) false false false false t.bits s.bits f g e)))

-- the high byte x of a number whose low byte is a, where its twelve lower bits are 2 or more
module _ (a x : ℕ) (s : Sreg) (f : s.bits < 256) (byte : a < 256) (high : x < 256) (some : 1 < (a + 256 * x) % 4096) where
  abbrev less : ℕ
  less = a + 256 * x - 1

  abbrev second : ℕ × Sreg
  second = subtracted x 0 (has_flag (first a s f).1.bits C) true (first a s f).1

  low_less : (first a s f).0 ≡ less % 256
  unfolding subtracted
  low_less = omega (arith, byte, some)

  second_by : (c z : Bool) → borrows a s f ≡ c → gives_zero a s f ≡ z → (x + 256 - (0 + one_if c)) % 256 ≡ less / 256 → (z && less / 256 == 0) ≡ false
      → overflows 128 (signed 128 x -ℤ signed 128 0 -ℤ pos (one_if c)) ≡ false → nat_lt x (0 + one_if c) ≡ false → nat_lt (x % 16) (0 % 16 + one_if c) ≡ false
      → second ≡ (less / 256, left (less / 256) s)
  second_by c z is_c is_z gives some fine none half =
      leaves x (less / 256) c z s (first a s f).1 (carry a s f ∙ is_c) (zero a s f ∙ is_z) (fits_still a s f) f (kept_flags a s f) gives some fine none half

  not_last : (z : Bool) → (a == 1) ≡ z → (z && less / 256 == 0) ≡ false
  not_last false is = refl
  not_last true is = let one_ : a ≡ 1 = grind (arith, is, nat_tests) in let rest : (less / 256 == 0) ≡ false = grind (arith, one_, some, high, nat_tests) in rest

  high_less : second ≡ (less / 256, left (less / 256) s)
  high_less = elim (cases_lt a 1) [
    | inl none ↦ (let is : a ≡ 0 = omega (arith, none) in
        let digit : 0 < x % 16 = omega (arith, is, some, high) in
        let borrow : nat_lt a (1 + one_if false) ≡ true = grind (arith, is, nat_tests) in
        let last : ((a + 256 - (1 + one_if false)) % 256 == 0) ≡ false = grind (arith, is, nat_tests) in
        let gives : (x + 256 - (0 + one_if true)) % 256 ≡ less / 256 = omega (arith, is, digit, high) in
        let fine : overflows 128 (signed 128 x -ℤ signed 128 0 -ℤ pos (one_if true)) ≡ false = grind (arith, ints, nat_tests, digit, high) in
        let above : nat_lt x (0 + one_if true) ≡ false = grind (arith, digit, nat_tests) in
        let half : nat_lt (x % 16) (0 % 16 + one_if true) ≡ false = grind (arith, digit, nat_tests) in
        second_by true false borrow last gives refl fine above half)
    | inr one_or_more ↦ (let borrow : nat_lt a (1 + one_if false) ≡ false = grind (arith, one_or_more, nat_tests) in
        let last : ((a + 256 - (1 + one_if false)) % 256 == 0) ≡ (a == 1) = grind (arith, one_or_more, byte, nat_tests) in
        let gives : (x + 256 - (0 + one_if false)) % 256 ≡ less / 256 = omega (arith, one_or_more, byte, high) in
        let fine : overflows 128 (signed 128 x -ℤ signed 128 0 -ℤ pos (one_if false)) ≡ false = grind (arith, ints, nat_tests, high) in
        let above : nat_lt x (0 + one_if false) ≡ false = grind (arith, nat_tests) in
        let half : nat_lt (x % 16) (0 % 16 + one_if false) ≡ false = grind (arith, nat_tests) in
        second_by false (a == 1) borrow last gives (not_last (a == 1) refl) fine above half)
  ]

-- both, on a core whose counter has twelve lower bits of 2 or more
module _ (d e : ℕ) (cpu : Cpu) (other : e ≢ d) (f : cpu.sreg.bits < 256) (byte : slice_index cpu.r d < 256) (high : slice_index cpu.r e < 256) (some : 1 < counter_at d e cpu % 4096) where
  abbrev next : ℕ
  next = counter_at d e cpu - 1

  pub core_after : arith_cpu (op.Sbci e 0) (arith_cpu (op.Subi d 1) cpu)
      ≡ (let c : Cpu = record cpu { r = slice_set (slice_set cpu.r d (next % 256)) e (next / 256); sreg = left (next / 256) cpu.sreg; pc = ((cpu.pc + 1) % 65536 + 1) % 65536 } in c)
  unfolding effect subtracts subtracts_with_carry
  core_after =
      let a : ℕ = slice_index cpu.r d in
      let x : ℕ = slice_index cpu.r e in
      let t : Sreg = (first a cpu.sreg f).1 in
      let one_less = low_less a x cpu.sreg f byte high some in
      let kept : slice_index (slice_set cpu.r d (first a cpu.sreg f).0) e ≡ x = get_or-set_other cpu.r d e _ 0 other in
      let y = ap (λ (k : ℕ). subtracted k 0 (has_flag t.bits C) true t) kept ∙ high_less a x cpu.sreg f byte high some in
      λ i. let c : Cpu = record cpu { r = slice_set (slice_set cpu.r d (one_less i)) e (y i).0; sreg = (y i).1; pc = ((cpu.pc + 1) % 65536 + 1) % 65536 } in c

-- ---- the two as the first of a round
module _ (d e n k : ℕ) (m : Machine) (from mid to : Cpu) (h : IsStillStep n m from mid) (g : IsStillStep k m mid to)
    (is : op.Subi d 1 ≡ op_now (shown (let x : Machine = record m { cpu = from } in x))) (then_ : op.Sbci e 0 ≡ op_now (shown (let x : Machine = record m { cpu = mid } in x)))
    (other : e ≢ d) (f : from.sreg.bits < 256) (byte : slice_index from.r d < 256) (high : slice_index from.r e < 256) (low_there : d < length from.r) (high_there : e < length from.r) where
  abbrev value : ℕ
  value = counter_at d e from

  came_mid : mid ≡ arith_cpu (op.Subi d 1) from
  came_mid = came n m from mid h (op.Subi d 1) is refl

  came_to : to ≡ arith_cpu (op.Sbci e 0) (arith_cpu (op.Subi d 1) from)
  came_to = came k m mid to g (op.Sbci e 0) then_ refl ∙ ap (arith_cpu (op.Sbci e 0)) came_mid

  -- what SUBI leaves of the flags, of any core with these
  flags_mid : (b : Cpu) → b.sreg ≡ from.sreg → (arith_cpu (op.Subi d 1) b).sreg.bits / 64 ≡ from.sreg.bits / 64
  unfolding effect subtracts subtracted
  flags_mid b same = ap (λ (s : Sreg). (subtracted (slice_index b.r d) 1 false false s).1.bits / 64) same ∙ upper _ _ _ _ _ from.sreg.bits f

  pc_mid : (b : Cpu) → b.pc ≡ from.pc → (arith_cpu (op.Subi d 1) b).pc ≡ (arith_cpu (op.Subi d 1) from).pc
  unfolding effect subtracts
  pc_mid b same = ap (λ (p : ℕ). (p + 1) % 65536) same

  module _ (j : ℕ) (l : j < counter_at d e from % 4096 - 1) where
    abbrev now : ℕ
    now = value - j

    abbrev w : ℕ
    w = value - suc j

    abbrev b : Cpu
    b = with_counter d e now from

    abbrev bm : Cpu
    bm = arith_cpu (op.Subi d 1) b

    got : counter_at d e b ≡ now
    got = counter_put d e other now from low_there high_there

    some_here : 1 < counter_at d e from % 4096
    some_here = omega (arith, l)

    some_there : 1 < counter_at d e b % 4096
    some_there = let q = got in let low : now % 4096 ≡ value % 4096 - j = omega (arith, l) in omega (arith, l, q, low)

    byte_there : slice_index (slice_set (slice_set from.r d (now % 256)) e (now / 256)) d < 256
    byte_there = let q = low_put d e other from.r (now % 256) (now / 256) low_there high_there in omega (arith, q)

    high_byte_there : slice_index (slice_set (slice_set from.r d (now % 256)) e (now / 256)) e < 256
    high_byte_there = let q = high_put d e other from.r (now % 256) (now / 256) low_there high_there in omega (arith, q, byte, high)

    first_step : IsStillStep n m b bm
    first_step = other_step n m from mid h (op.Subi d 1) is refl b bm refl refl h.none (never_on from.sreg.bits bm.sreg.bits (sym (flags_mid b refl)))

    sign_stays : nat_le 128 ((value - 1) / 256) ≡ nat_le 128 (w / 256)
    sign_stays =
        let before : (value - 1) / 4096 ≡ value / 4096 = omega (arith, l) in
        let after : w / 4096 ≡ value / 4096 = omega (arith, l) in
        grind (arith, before, after, nat_tests)

    end_there : with_counter d e w to ≡ arith_cpu (op.Sbci e 0) bm
    end_there =
        let p : ℕ = (value - 1) % 256 in
        let q : ℕ = (value - 1) / 256 in
        let less : counter_at d e b - 1 ≡ w = (let q = got in omega (arith, q)) in
        let r : slice_set (slice_set (slice_set (slice_set from.r d p) e q) d (w % 256)) e (w / 256) ≡ slice_set (slice_set (slice_set (slice_set from.r d (now % 256)) e (now / 256)) d (w % 256)) e (w / 256) =
        set_twice d e other from.r p q (w % 256) (w / 256) ∙ sym (set_twice d e other from.r (now % 256) (now / 256) (w % 256) (w / 256)) in
        ap (with_counter d e w) (came_to ∙ core_after d e from other f byte high some_here)
        ∙ ((λ i. let c : Cpu = record from {
          r = r i;
          sreg = (let u : Sreg = record { bits = with_sign (sign_stays i) false false (with_carries false false from.sreg.bits) } in u);
          pc = ((from.pc + 1) % 65536 + 1) % 65536;
        } in c)
        ∙ ((λ i. let c : Cpu = record from {
          r = slice_set (slice_set (slice_set (slice_set from.r d (now % 256)) e (now / 256)) d (sym less i % 256)) e (sym less i / 256);
          sreg = left (sym less i / 256) from.sreg;
          pc = ((from.pc + 1) % 65536 + 1) % 65536;
        } in c)
        ∙ sym (core_after d e b other f byte_there high_byte_there some_there)))

    flags_to : to.sreg.bits / 64 ≡ from.sreg.bits / 64
    flags_to =
        ap (λ (c : Cpu). c.sreg.bits / 64) (came_to ∙ core_after d e from other f byte high some_here) ∙ upper _ _ _ _ _ from.sreg.bits f

    second_step : IsStillStep k m bm (with_counter d e w to)
    second_step =
        let mids : bm.sreg.bits / 64 ≡ mid.sreg.bits / 64 = flags_mid b refl ∙ (sym (flags_mid from refl) ∙ ap (λ (c : Cpu). c.sreg.bits / 64) (sym came_mid)) in
        other_step k m mid to g (op.Sbci e 0) then_ refl bm (with_counter d e w to) (pc_mid b refl ∙ ap (λ (c : Cpu). c.pc) (sym came_mid)) end_there
        (due_same bm.sreg.bits mid.sreg.bits (lines_of m.bus.io.board) mids ∙ g.none)
        (never_on bm.sreg.bits to.sreg.bits (flags_mid b refl ∙ sym flags_to))

    pub long_walk : Walk m b (n + k) 2 (with_counter d e w to)
    long_walk = goes n 1 k bm (with_counter d e w to) (walk_one m n b bm first_step) second_step

pub long_lowers : (d e : ℕ) (from : Cpu) (l : Lowering) → l ≡ (let k : Lowering = record { low = d; high = e; spare = counter_at d e from % 4096 - 1 } in k)
    → counter_at d e from < 65536 → slice_index from.r d < 256 → d < length from.r → e < length from.r → e ≢ d
    → IsLongLowering (op.Subi d 1) (op.Sbci e 0) from l
long_lowers d e from l same word byte low_there high_there other =
    subst (IsLongLowering (op.Subi d 1) (op.Sbci e 0) from) (sym same)
    record {
      spare = record { other = other; few = omega arith };
      steps = λ m n k mid to fetched then_ h g f j lt. long_walk d e n k m from mid to h g fetched then_ other f byte (omega (arith, word)) low_there high_there j lt;
    }
