-- Loops that count a number down: their rounds do the same wherever it stands.
use Rattle.std.proofs.Common.{zero-add, ◌≡◌, ◌≢◌, ℕ, suc, ◌+◌, ◌-◌, ◌*◌, ◌/◌, ◌%◌, ◌<◌, ◌==◌, nat_le, nat_lt, Bool, true, false, None, List, length, inl, inr, refl, sym, subst, ap, ◌∙◌, arith, ℤ, pos, ◌-ℤ◌}
use Rattle.std.proofs.lemmas.Bool.{cases_lt}
use Rattle.std.proofs.lemmas.Bool.Decides.{nat_tests}
use Rattle.std.proofs.lemmas.Int.{ints}
use Rattle.std.proofs.lemmas.List.{get_or_past, get_or-set_other, get_or-set_same, length-set, set-get_or, set-set, set_comm}
use Rattle.std.specs.Prelude.{Ok, slice_index, slice_set}
use Rattle.avr_base.specs.declared.sreg.Sreg.{Sreg}
use Rattle.avr_base.specs.Lines.{due_of}
use Rattle.avr_decoder.specs.Class.{class_of}
use Rattle.avr_decoder.specs.declared.op.Class.{Class}
use Rattle.avr_decoder.specs.declared.op.Class.TheVariants as class
use Rattle.avr_decoder.specs.declared.op.Op.{Op}
use Rattle.avr_decoder.specs.declared.op.Op.TheVariants as op
use Rattle.arith_step.specs.Bytes.{decremented, subtracted}
use Rattle.avr_core.specs.ArithShapes.{subtracts, subtracts_with_carry}
use Rattle.avr_core.specs.ArithTable.{arith_cpu, arith_done, effect}
use Rattle.arith_step.specs.Whole.{one_if, overflows, signed, with_carries, with_sign}
use Rattle.arith_step.specs.Words.{subtracted_word}
use Rattle.arith_step.proofs.Signs.{decrement_by_signs}
use Rattle.avr_base.specs.Flags.{C, has_flag, with_flag}
use Rattle.board_io.specs.Lines.{lines_of}
use Rattle.avr_core.specs.FlowShapes.{bit_is, branched, ends}
use Rattle.avr_core.specs.FlowTable.{flow_effect}
use Rattle.data_space.specs.declared.cpu.Cpu.{Cpu}
use Rattle.data_space.specs.Core.{pair_at, with_reg}
use Rattle.data_space.specs.Sequence.{Outcome, done}
use Rattle.node_core.specs.declared.bus.NodeBus.{NodeBus}
use Rattle.node_core.specs.declared.pace.countdowns.Countdown.{Countdown}
use Rattle.node_core.specs.declared.pace.countdowns.Lowering.{Lowering}
use Rattle.node_core.specs.declared.machine.Machine.{Machine}
use Rattle.node_core.specs.Cycle.{op_now, owes}
use Rattle.node_core.specs.Execute.{executed, executed_by}
use Rattle.node_core.specs.Pace.Leaps.{IsBeside, IsCountdown, IsLowering, IsStillStep, Walk, bus_later, counter_at, goes, lowered, spared, stays, with_counter}
use Rattle.node_core.specs.Shown.{shown}
use Rattle.avr_core.proofs.Executes.{arith_awake, is_arith}
use Rattle.node_core.proofs.Ran.{by_class}

-- ---- two registers
module _ (d e : ℕ) (other : e ≢ d) where
  turned : d ≢ e
  turned same = other (sym same)

  -- what stood there before does not tell
  pub set_twice : (r : List ℕ) (p q a b : ℕ) → slice_set (slice_set (slice_set (slice_set r d p) e q) d a) e b ≡ slice_set (slice_set r d a) e b
  set_twice r p q a b =
      ap (λ (x : List ℕ). slice_set x e b) (set_comm (slice_set r d p) e d q a other ∙ ap (λ (x : List ℕ). slice_set x e q) (set-set r d p a))
      ∙ set-set (slice_set r d a) e q b

  pub put_twice : (u w : ℕ) (cpu : Cpu) → with_counter d e w (with_counter d e u cpu) ≡ with_counter d e w cpu
  put_twice u w cpu = λ i. let c : Cpu = record cpu { r = set_twice cpu.r (u % 256) (u / 256) (w % 256) (w / 256) i } in c

  -- the bytes that were put there
  module _ (r : List ℕ) (p q : ℕ) (low : d < length r) (high : e < length r) where
    pub low_put : slice_index (slice_set (slice_set r d p) e q) d ≡ p
    low_put = get_or-set_other (slice_set r d p) e d q 0 turned ∙ get_or-set_same r d p 0 low

    pub high_put : slice_index (slice_set (slice_set r d p) e q) e ≡ q
    high_put = let long = length-set r d p in get_or-set_same (slice_set r d p) e q 0 (omega (arith, long, high))

  -- and the counter
  pub counter_put : (w : ℕ) (cpu : Cpu) → d < length cpu.r → e < length cpu.r → counter_at d e (with_counter d e w cpu) ≡ w
  counter_put w cpu low high =
      (λ i. low_put cpu.r (w % 256) (w / 256) low high i + 256 * high_put cpu.r (w % 256) (w / 256) low high i) ∙ omega arith

  -- where the high byte stays, the low one alone is put
  pub low_alone : (w : ℕ) (cpu : Cpu) → w / 256 ≡ slice_index cpu.r e → with_counter d e w cpu ≡ with_reg d (w % 256) cpu
  low_alone w cpu high =
      let r : List ℕ = slice_set cpu.r d (w % 256) in
      let same : w / 256 ≡ slice_index r e = high ∙ sym (get_or-set_other cpu.r d e (w % 256) 0 other) in
      λ i. let c : Cpu = record cpu { r = (ap (slice_set r e) same ∙ set-get_or r e 0) i } in c

-- the counter stands where it stands
pub stands_first : (l : Lowering) (cpu : Cpu) → slice_index cpu.r l.low < 256 → lowered l 0 cpu cpu ≡ cpu
stands_first l cpu byte =
    let w : ℕ = counter_at l.low l.high cpu - 0 in
    let low : w % 256 ≡ slice_index cpu.r l.low = omega (arith, byte) in
    let high : w / 256 ≡ slice_index cpu.r l.high = omega (arith, byte) in
    let r : List ℕ = slice_set cpu.r l.low (w % 256) in
    let same : r ≡ cpu.r = ap (slice_set cpu.r l.low) low ∙ set-get_or cpu.r l.low 0 in
    λ i. let c : Cpu = record cpu { r = ((λ k. slice_set (same k) l.high (high k)) ∙ set-get_or cpu.r l.high 0) i } in c

-- ---- what has nothing to do with two registers
steers_beside : (d e : ℕ) (on : Bool) (k : ℤ) (cpu : Cpu) (y : ℕ) (bus : NodeBus)
    → ends (branched on k (with_counter d e y cpu)) bus ≡ (let a : Outcome NodeBus = record (ends (branched on k cpu) bus) { cpu = with_counter d e y (ends (branched on k cpu) bus).cpu } in a)
unfolding branched
steers_beside d e true k cpu y bus = refl
steers_beside d e false k cpu y bus = refl

module _ (d e : ℕ) (o : Op) (cpu : Cpu) (y : ℕ) (flash : List ℕ) (bus : NodeBus) where
  abbrev beside_of : Outcome NodeBus → Outcome NodeBus
  beside_of a = record a { cpu = with_counter d e y a.cpu }

  by_both : (k : Class) → class_of o ≡ k → executed_by k flash o (with_counter d e y cpu) bus ≡ beside_of (executed_by k flash o cpu bus)
      → executed flash o (with_counter d e y cpu) bus ≡ beside_of (executed flash o cpu bus)
  by_both k is same = sym (by_class k flash o (with_counter d e y cpu) bus is) ∙ (same ∙ ap beside_of (by_class k flash o cpu bus is))

pub nop_beside : (d e : ℕ) → IsBeside d e op.Nop
unfolding effect
nop_beside d e = record { apart = λ flash cpu y bus. by_both d e op.Nop cpu y flash bus class.Arith refl refl }

pub rjmp_beside : (d e : ℕ) (k : ℤ) → IsBeside d e (op.Rjmp k)
unfolding flow_effect
rjmp_beside d e k = record { apart = λ flash cpu y bus. by_both d e (op.Rjmp k) cpu y flash bus class.Flow refl refl }

pub brbs_beside : (d e s : ℕ) (k : ℤ) → IsBeside d e (op.Brbs s k)
unfolding flow_effect
brbs_beside d e s k = record { apart = λ flash cpu y bus. by_both d e (op.Brbs s k) cpu y flash bus class.Flow refl (steers_beside d e (bit_is true (s % 8) cpu.sreg.bits) k cpu y bus) }

pub brbc_beside : (d e s : ℕ) (k : ℤ) → IsBeside d e (op.Brbc s k)
unfolding flow_effect
brbc_beside d e s k = record { apart = λ flash cpu y bus. by_both d e (op.Brbc s k) cpu y flash bus class.Flow refl (steers_beside d e (bit_is false (s % 8) cpu.sreg.bits) k cpu y bus) }

pub sbci_beside : (d e f k : ℕ) → f ≢ d → f ≢ e → IsBeside d e (op.Sbci f k)
unfolding effect subtracts_with_carry
sbci_beside d e f k low high = record {
  apart = λ flash cpu y bus. by_both d e (op.Sbci f k) cpu y flash bus class.Arith refl
      (let p : ℕ = y % 256 in
      let q : ℕ = y / 256 in
      let r : List ℕ = slice_set (slice_set cpu.r d p) e q in
      let byte : slice_index r f ≡ slice_index cpu.r f = get_or-set_other (slice_set cpu.r d p) e f q 0 high ∙ get_or-set_other cpu.r d f p 0 low in
      let x : ℕ → ℕ × Sreg = λ a. subtracted a k (has_flag cpu.sreg.bits C) true cpu.sreg in
      let v : ℕ = (x (slice_index cpu.r f)).0 in
      let there : slice_set r f v ≡ slice_set (slice_set (slice_set cpu.r f v) d p) e q =
      set_comm (slice_set cpu.r d p) e f q v (λ same. high (sym same)) ∙ ap (λ (z : List ℕ). slice_set z e q) (set_comm cpu.r d f p v (λ same. low (sym same))) in
      λ i. (let a : Outcome NodeBus = record {
        result = Ok (arith_done (op.Sbci f k));
        cpu = (let c : Cpu = record cpu {
          r = (ap (λ a. slice_set r f (x a).0) byte ∙ there) i;
          sreg = (x (byte i)).1;
          pc = (cpu.pc + 1) % 65536;
        } in c);
        bus = bus;
      } in a));
}

-- ---- the same step where the counter stands elsewhere
module _ (n : ℕ) (m : Machine) (from to : Cpu) (h : IsStillStep n m from to) (o : Op) (is : o ≡ op_now (shown (let x : Machine = record m { cpu = from } in x))) where
  pub beside_step : (d e : ℕ) → IsBeside d e o → (y : ℕ) → IsStillStep n m (with_counter d e y from) (with_counter d e y to)
  beside_step d e b y =
      let same : o ≡ h.op = is ∙ sym h.fetched in
      record {
        none = h.none;
        some = h.some;
        op = h.op;
        fetched = h.fetched;
        wakes = h.wakes;
        settled = h.settled;
        does = λ u t i. ap (λ (a : Outcome NodeBus). let x : Outcome NodeBus = record a { cpu = with_counter d e y a.cpu } in x) (h.does u t i)
            ∙ sym ((subst (IsBeside d e) same b).apart m.program.bytes from y (bus_later u t i m.bus));
      }

  -- what it owes, by the name of the instruction
  pub settled_as : false ≡ owes o from.sreg.bits to.sreg.bits
  settled_as = subst (λ (p : Op). false ≡ owes p from.sreg.bits to.sreg.bits) (h.fetched ∙ sym is) h.settled

  -- of an instruction on registers and flags
  module _ (arith_ : class_of o ≡ class.Arith) where
    whole : (u t i : ℕ) → (let a : Outcome NodeBus = record { result = Ok (done n); cpu = to; bus = bus_later u t i m.bus } in a)
        ≡ (let a : Outcome NodeBus = record { result = Ok (arith_done o); cpu = arith_cpu o from; bus = bus_later u t i m.bus } in a)
    whole u t i =
        h.does u t i ∙ (ap (λ (p : Op). executed m.program.bytes p from (bus_later u t i m.bus)) (h.fetched ∙ sym is)
        ∙ sym (by_class class.Arith m.program.bytes o from (bus_later u t i m.bus) arith_))

    pub came : to ≡ arith_cpu o from
    came = ap (λ (a : Outcome NodeBus). a.cpu) (whole 0 0 0)

    pub other_step : (b c : Cpu) → b.pc ≡ from.pc → c ≡ arith_cpu o b → due_of b.sreg.bits (lines_of m.bus.io.board) ≡ None → false ≡ owes o b.sreg.bits c.sreg.bits
        → IsStillStep n m b c
    other_step b c pc goes_there none settled = record {
      none = none;
      some = h.some;
      op = o;
      fetched = is ∙ (λ i. op_now (shown (let x : Machine = record m { cpu = (let y : Cpu = record b { pc = sym pc i } in y) } in x)));
      wakes = arith_awake o (ap is_arith arith_);
      settled = settled;
      does = λ u t i.
          (λ k. let a : Outcome NodeBus = record { result = ap (λ (x : Outcome NodeBus). x.result) (whole u t i) k; cpu = goes_there k; bus = bus_later u t i m.bus } in a)
          ∙ by_class class.Arith m.program.bytes o b (bus_later u t i m.bus) arith_;
    }

pub walk_one : (m : Machine) (n : ℕ) (from to : Cpu) → IsStillStep n m from to → Walk m from n 1 to
walk_one m n from to h = subst (λ (k : ℕ). Walk m from k 1 to) (zero-add n) (goes 0 0 n from to stays h)

-- ---- DEC, which leaves the register above
-- one register of 2 or more is there
inside : (r : List ℕ) (d : ℕ) → 0 < slice_index r d → d < length r
inside r d some = elim (cases_lt d (length r)) [
  | inl below ↦ below
  | inr above ↦ (let none : slice_index r d ≡ 0 = get_or_past r d 0 above in absurd (omega (arith, some, none)))
]

below_half : (a j : ℕ) → a < 256 → j < spared 128 a → (nat_le 128 ((a - j + 255) % 256) ≡ nat_le 128 ((a + 255) % 256)) × ((j + 1 < a) × (((a - j + 255) % 256 == 127) ≡ ((a + 255) % 256 == 127)))
below_half a j f l = (grind (arith, nat_tests), (grind (arith, nat_tests), grind (arith, nat_tests)))

dec_flags : (a j : ℕ) (s : Sreg) → a < 256 → j < spared 128 a → decremented (a - j) s ≡ (a - suc j, (decremented a s).1)
unfolding decremented
dec_flags a j s f l =
    let k = below_half a j f l in
    let low = k.1.0 in
    let r : (a - j + 255) % 256 ≡ a - suc j = omega (arith, low, f) in
    let zero_ : ((a - j + 255) % 256 == 0) ≡ ((a + 255) % 256 == 0) = grind (arith, nat_tests) in
    let v : overflows 128 (signed 128 (a - j) -ℤ pos 1) ≡ overflows 128 (signed 128 a -ℤ pos 1) =
    sym (decrement_by_signs (a - j) (omega (arith, f))) ∙ (k.1.1 ∙ decrement_by_signs a f) in
    λ i. (r i, (let x : Sreg = record { bits = with_sign (k.0 i) (zero_ i) (v i) s.bits } in x))

-- ---- an instruction on one byte, which leaves the register above
-- what it makes of the byte and the flags
abbrev pub stepped : ℕ → (ℕ → Sreg → ℕ × Sreg) → Cpu → Cpu
stepped d f cpu = record cpu { r = slice_set cpu.r d (f (slice_index cpu.r d) cpu.sreg).0; sreg = (f (slice_index cpu.r d) cpu.sreg).1; pc = (cpu.pc + 1) % 65536 }

-- it lowers the byte by one, and leaves the same flags, also where that stands up to `spare` lower
pub record LowersByte (f : ℕ → Sreg → ℕ × Sreg) (a spare : ℕ) (s : Sreg) : Type 0 where
  pub some : (j : ℕ) → j < spare → j + 1 < a
  pub gives : (j : ℕ) → j < spare → f (a - j) s ≡ (a - suc j, (f a s).1)

module _ (o : Op) (is_arith_ : class_of o ≡ class.Arith) (d : ℕ) (f : ℕ → Sreg → ℕ × Sreg) (does : (c : Cpu) → arith_cpu o c ≡ stepped d f c) where
  module _ (n e : ℕ) (m : Machine) (from to : Cpu) (h : IsStillStep n m from to) (is : o ≡ op_now (shown (let x : Machine = record m { cpu = from } in x)))
      (other : e ≢ d) (byte : slice_index from.r d < 256) (spare : ℕ) (lowers_ : LowersByte f (slice_index from.r d) spare from.sreg) where
    abbrev value : ℕ
    value = slice_index from.r d

    there : (j : ℕ) → j < spare → with_reg d (value - suc j) (arith_cpu o from) ≡ arith_cpu o (with_reg d (value - j) from)
    there j l =
        let some = lowers_.some j l in
        let stands : d < length from.r = inside from.r d (omega (arith, some)) in
        let got : slice_index (slice_set from.r d (value - j)) d ≡ value - j = get_or-set_same from.r d (value - j) 0 stands in
        let x : f (slice_index (slice_set from.r d (value - j)) d) from.sreg ≡ (value - suc j, (f value from.sreg).1) =
        ap (λ (k : ℕ). f k from.sreg) got ∙ lowers_.gives j l in
        let r = set-set from.r d (f value from.sreg).0 (value - suc j) ∙ (sym (set-set from.r d (value - j) (value - suc j))
        ∙ ap (λ (y : ℕ × Sreg). slice_set (slice_set from.r d (value - j)) d y.0) (sym x)) in
        ap (with_reg d (value - suc j)) (does from)
        ∙ ((λ i. let c : Cpu = record from { r = r i; sreg = (sym x i).1; pc = (from.pc + 1) % 65536 } in c)
        ∙ sym (does (with_reg d (value - j) from)))

    step : (j : ℕ) → j < spare → IsStillStep n m (with_reg d (value - j) from) (with_reg d (value - suc j) to)
    step j l =
        other_step n m from to h o is is_arith_ (with_reg d (value - j) from) (with_reg d (value - suc j) to) refl
        (ap (with_reg d (value - suc j)) (came n m from to h o is is_arith_) ∙ there j l) h.none (settled_as n m from to h o is)

    -- the same of the counter with the register above
    high_stays : slice_index to.r e ≡ slice_index from.r e
    high_stays = ap (λ (c : Cpu). slice_index c.r e) (came n m from to h o is is_arith_ ∙ does from) ∙ get_or-set_other from.r d e _ 0 other

    at_low : (j : ℕ) (c : Cpu) → slice_index c.r e ≡ slice_index from.r e → j < value → with_reg d (value - j) c ≡ with_counter d e (counter_at d e from - j) c
    at_low j c same l =
        let w : ℕ = counter_at d e from - j in
        let low : w % 256 ≡ value - j = omega (arith, byte, l) in
        let high : w / 256 ≡ slice_index c.r e = omega (arith, byte, l, same) in
        ap (λ (k : ℕ). with_reg d k c) (sym low) ∙ sym (low_alone d e other w c high)

    pub byte_lowers : (j : ℕ) → j < spare → IsStillStep n m (with_counter d e (counter_at d e from - j) from) (with_counter d e (counter_at d e from - suc j) to)
    byte_lowers j l =
        let some = lowers_.some j l in
        subst (λ (c : Cpu). IsStillStep n m c (with_counter d e (counter_at d e from - suc j) to)) (at_low j from refl (omega (arith, some)))
        (subst (λ (c : Cpu). IsStillStep n m (with_reg d (value - j) from) c) (at_low (suc j) to high_stays (omega (arith, some))) (step j l))

-- ---- DEC
dec_does : (d : ℕ) (c : Cpu) → arith_cpu (op.Dec d) c ≡ stepped d decremented c
unfolding effect
dec_does d c = refl

dec_gives : (a : ℕ) (s : Sreg) → a < 256 → LowersByte decremented a (spared 128 a) s
dec_gives a s byte = record {
  some = λ j l. (below_half a j byte l).1.0;
  gives = λ j l. dec_flags a j s byte l;
}

-- ---- SUBI by one, as far as the lower four bits do not come to 0
-- what it leaves there
nibble_less : (a : ℕ) (s : Sreg) → a < 256 → 1 < a % 16 → subtracted a 1 false false s ≡ (a - 1, (let u : Sreg = record { bits = with_sign (nat_le 128 (a - 1)) false false (with_carries false false s.bits) } in u))
unfolding subtracted
nibble_less a s byte some =
    let r : (a + 256 - (1 + one_if false)) % 256 ≡ a - 1 = omega (arith, byte, some) in
    let z : ((a + 256 - (1 + one_if false)) % 256 == 0) ≡ false = grind (arith, byte, some, nat_tests) in
    let v : overflows 128 (signed 128 a -ℤ signed 128 1 -ℤ pos (one_if false)) ≡ false = grind (arith, ints, nat_tests, byte, some) in
    let c : nat_lt a (1 + one_if false) ≡ false = grind (arith, some, nat_tests) in
    let h : nat_lt (a % 16) (1 % 16 + one_if false) ≡ false = grind (arith, some, nat_tests) in
    λ i. (r i, (let u : Sreg = record { bits = with_sign (nat_le 128 (r i)) (z i) (v i) (with_carries (c i) (h i) s.bits) } in u))

subi_gives : (a : ℕ) (s : Sreg) → a < 256 → LowersByte (λ (x : ℕ) (t : Sreg). subtracted x 1 false false t) a (a % 16 - 1) s
subi_gives a s byte = record {
  some = λ j l. omega (arith, l);
  gives = λ j l. (let first : 1 < a % 16 = omega (arith, l) in
      let now : 1 < (a - j) % 16 = omega (arith, l) in
      let on : a - j - 1 ≡ a - suc j = omega arith in
      let side : nat_le 128 (a - j - 1) ≡ nat_le 128 (a - 1) = (let low : (a - j - 1) / 16 ≡ (a - 1) / 16 = omega (arith, l) in grind (arith, low, nat_tests)) in
      nibble_less (a - j) s (omega (arith, byte)) now
      ∙ ((λ i. (on i, (let u : Sreg = record { bits = with_sign (side i) false false (with_carries false false s.bits) } in u)))
      ∙ ap (λ (y : ℕ × Sreg). (a - suc j, y.1)) (sym (nibble_less a s byte first))));
}

subi_does : (d : ℕ) (c : Cpu) → arith_cpu (op.Subi d 1) c ≡ stepped d (λ (x : ℕ) (t : Sreg). subtracted x 1 false false t) c
unfolding effect subtracts
subi_does d c = refl

-- ---- SBIW by one
word_flags : (w j : ℕ) (s : Sreg) → w < 65536 → j < spared 32768 w → subtracted_word (w - j) 1 s ≡ (w - suc j, (subtracted_word w 1 s).1)
unfolding subtracted_word
word_flags w j s f l =
    let low : j + 1 < w = grind (arith, nat_tests) in
    let r : (w - j + 65536 - 1) % 65536 ≡ w - suc j = omega (arith, low, f) in
    let n : nat_le 32768 ((w - j + 65536 - 1) % 65536) ≡ nat_le 32768 ((w + 65536 - 1) % 65536) = grind (arith, nat_tests) in
    let z : ((w - j + 65536 - 1) % 65536 == 0) ≡ ((w + 65536 - 1) % 65536 == 0) = grind (arith, nat_tests) in
    let v : overflows 32768 (signed 32768 (w - j) -ℤ pos 1) ≡ overflows 32768 (signed 32768 w -ℤ pos 1) = grind (arith, ints, nat_tests) in
    let c : nat_lt (w - j) 1 ≡ nat_lt w 1 = grind (arith, nat_tests) in
    λ i. (r i, (let x : Sreg = record { bits = with_sign (n i) (z i) (v i) (with_flag s.bits C (c i)) } in x))

module _ (n d : ℕ) (m : Machine) (from to : Cpu) (h : IsStillStep n m from to) (is : op.Sbiw d 1 ≡ op_now (shown (let x : Machine = record m { cpu = from } in x)))
    (low : d < length from.r) (high : (d + 1) % 32 < length from.r) (word : pair_at d from < 65536) where
  abbrev next : ℕ
  next = (d + 1) % 32

  abbrev pair : ℕ
  pair = pair_at d from

  apart : next ≢ d
  apart = λ same. absurd (omega (arith, same))

  sbiw_there : (j : ℕ) → j < spared 32768 pair → with_counter d next (pair - suc j) (arith_cpu (op.Sbiw d 1) from) ≡ arith_cpu (op.Sbiw d 1) (with_counter d next (pair - j) from)
  unfolding effect
  sbiw_there j l =
      let y : ℕ × Sreg = subtracted_word pair 1 from.sreg in
      let w : ℕ = pair - suc j in
      let v : ℕ = pair - j in
      let b : List ℕ = slice_set (slice_set from.r d (v % 256)) next (v / 256) in
      let x : subtracted_word (pair_at d (with_counter d next v from)) 1 from.sreg ≡ (w, y.1) =
      ap (λ (k : ℕ). subtracted_word k 1 from.sreg) (counter_put d next apart v from low high) ∙ word_flags pair j from.sreg word l in
      let r : slice_set (slice_set (slice_set (slice_set from.r d (y.0 % 256)) next (y.0 / 256)) d (w % 256)) next (w / 256) ≡ slice_set (slice_set b d (w % 256)) next (w / 256) =
      set_twice d next apart from.r (y.0 % 256) (y.0 / 256) (w % 256) (w / 256) ∙ sym (set_twice d next apart from.r (v % 256) (v / 256) (w % 256) (w / 256)) in
      let all = ap (λ (z : ℕ × Sreg). slice_set (slice_set b d (z.0 % 256)) next (z.0 / 256)) (sym x) in
      λ i. let c : Cpu = record from { r = (r ∙ all) i; sreg = (sym x i).1; pc = (from.pc + 1) % 65536 } in c

  pub sbiw_step : (j : ℕ) → j < spared 32768 pair → IsStillStep n m (with_counter d next (pair - j) from) (with_counter d next (pair - suc j) to)
  sbiw_step j l =
      other_step n m from to h (op.Sbiw d 1) is refl (with_counter d next (pair - j) from) (with_counter d next (pair - suc j) to) refl
      (ap (with_counter d next (pair - suc j)) (came n m from to h (op.Sbiw d 1) is refl) ∙ sbiw_there j l) h.none (settled_as n m from to h (op.Sbiw d 1) is)

-- so DEC, SUBI and SBIW lower it
module _ (d : ℕ) (from : Cpu) where
  above_other : (d + 1) % 32 ≢ d
  above_other = λ same. absurd (omega (arith, same))

  pub dec_lowers : (l : Lowering) → l ≡ (let k : Lowering = record { low = d; high = (d + 1) % 32; spare = spared 128 (slice_index from.r d) } in k) → slice_index from.r d < 256
      → IsLowering (op.Dec d) from l
  dec_lowers l same byte =
      subst (IsLowering (op.Dec d) from) (sym same)
      record {
        spare = record { other = above_other; few = grind (arith, nat_tests) };
        steps = λ m n to fetched h j lt. byte_lowers (op.Dec d) refl d decremented (dec_does d) n ((d + 1) % 32) m from to h fetched above_other byte (spared 128 (slice_index from.r d)) (dec_gives (slice_index from.r d) from.sreg byte) j lt;
      }

  pub subi_lowers : (l : Lowering) → l ≡ (let k : Lowering = record { low = d; high = (d + 1) % 32; spare = slice_index from.r d % 16 - 1 } in k) → slice_index from.r d < 256
      → IsLowering (op.Subi d 1) from l
  subi_lowers l same byte =
      subst (IsLowering (op.Subi d 1) from) (sym same)
      record {
        spare = record { other = above_other; few = omega arith };
        steps = λ m n to fetched h j lt. byte_lowers (op.Subi d 1) refl d (λ (x : ℕ) (t : Sreg). subtracted x 1 false false t) (subi_does d) n ((d + 1) % 32) m from to h fetched above_other byte (slice_index from.r d % 16 - 1) (subi_gives (slice_index from.r d) from.sreg byte) j lt;
      }

  pub sbiw_lowers : (l : Lowering) → l ≡ (let k : Lowering = record { low = d; high = (d + 1) % 32; spare = spared 32768 (pair_at d from) } in k)
      → d < length from.r → (d + 1) % 32 < length from.r → pair_at d from < 65536 → IsLowering (op.Sbiw d 1) from l
  sbiw_lowers l same low high word =
      subst (IsLowering (op.Sbiw d 1) from) (sym same)
      record {
        spare = record { other = above_other; few = grind (arith, nat_tests) };
        steps = λ m n to fetched h j lt. sbiw_step n d m from to h fetched low high word j lt;
      }

-- ---- rounds
-- one instruction more, which has nothing to do with the counter
module _ (m : Machine) (from to : Cpu) (l : Lowering) (length count n taken : ℕ) (is : taken ≡ n)
    (h : IsCountdown m m.cpu from (let c : Countdown = record { lowering = l; round = record { length = length; count = count } } in c)) (step : IsStillStep n m from to) (byte : n < 256) (o : Op)
    (fetched : o ≡ op_now (shown (let x : Machine = record m { cpu = from } in x))) (b : IsBeside l.low l.high o) where
  pub goes_down : IsCountdown m m.cpu to (let c : Countdown = record { lowering = l; round = record { length = length + taken; count = count + 1 } } in c)
  goes_down =
      let some = h.some in
      let few = h.few in
      let short = h.short in
      let takes = step.some in
      record {
        some = omega (arith, some);
        few = omega (arith, few, is, takes);
        short = omega (arith, short, is, byte);
        spare = h.spare;
        walks = λ j lt. (let y : ℕ = counter_at l.low l.high m.cpu - suc j in
            let head : Cpu = lowered l j m.cpu m.cpu in
            subst (λ (k : ℕ). Walk m head (length + k) (count + 1) (with_counter l.low l.high y to)) (sym is)
            (goes length count n (with_counter l.low l.high y from) (with_counter l.low l.high y to) (h.walks j lt) (beside_step n m from to step o fetched l.low l.high b y)));
      }

-- back at the core but for the counter
pub goes_round : (m : Machine) (to : Cpu) (c : Countdown) (y : ℕ) → with_counter c.lowering.low c.lowering.high y to ≡ m.cpu → IsCountdown m m.cpu to c → IsCountdown m m.cpu m.cpu c
goes_round m to c y back h = record {
  some = h.some;
  few = h.few;
  short = h.short;
  spare = h.spare;
  walks = λ j lt. (let l : Lowering = c.lowering in
      let same : lowered l (suc j) m.cpu to ≡ lowered l (suc j) m.cpu m.cpu =
      sym (put_twice l.low l.high h.spare.other y (counter_at l.low l.high m.cpu - suc j) to) ∙ ap (lowered l (suc j) m.cpu) back in
      subst (λ (x : Cpu). Walk m (lowered l j m.cpu m.cpu) c.round.length c.round.count x) same (h.walks j lt));
}
