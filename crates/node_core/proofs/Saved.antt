-- The numbers of a node: what their bounds say, the state that they make, and that it is the only one.
use Rattle.std.proofs.Common.{◌≡◌, ◌≤◌, ◌<◌, ◌+◌, ℕ, Bool, true, refl, sym, ◌∙◌, ap, arith, List, [], ◌∷◌, ◌++◌, length, take, drop, slice_index, slice_set, ◌==◌, nat_le, Option, None, Some, is_none}
use Rattle.std.specs.Prelude.{map, not}
use Rattle.air_base.specs.Bounds.{LAST_CYCLE}
use Rattle.std.specs.List.{list_all, position}
use Rattle.std.proofs.Math.Seq.{take-add}
use Rattle.std.proofs.lemmas.List.{append_assoc, drop-drop, drop_at, get_or-drop, get_or-take, length-drop, length-take, map_push, take_all, take_at, take_more, take_more_set, take-take}
use Rattle.std.proofs.lemmas.List.Folds.{list_all-append, list_all-map}
use Rattle.std.proofs.lemmas.List.Sums.{AllPass-from_list_all}
use Rattle.std.proofs.lemmas.List.Elements.{All-get_or}
use Rattle.std.proofs.lemmas.Bool.{and_parts, leb-true}
use Rattle.std.proofs.lemmas.Option.{none-some}
use Rattle.avr_base.specs.Causes.{cause_of, stop_number}
use Rattle.avr_base.proofs.Causes.{cause_again}
use Rattle.avr_base.specs.declared.stop.StopCause.{StopCause}
use Rattle.board_io.specs.Saved as board
use Rattle.board_io.proofs.OneBoard.{all, one-board}
use Rattle.data_space.specs.declared.cpu.Cpu.{Cpu}
use Rattle.device_base.specs.Bits.{bit}
use Rattle.device_base.specs.Numbers.{part}
use Rattle.device_base.proofs.Places.{bit-flag, flag-bit, by-places, from_places, none_outside, same-list}
use Rattle.serial_ports.specs.Script.{ScriptBytes}
use Rattle.node_core.specs.Numbers.{core_fits, core_tail, ends_from, first_outside, fits, numbers_of}
use Rattle.node_core.specs.Restored.{cpu_of, fault_by, IsCore, IsRestored}
use Rattle.node_core.specs.State.{NodeState}

-- ---- what the bounds say

-- the tests of the core's numbers are those of a node's first ones
pub core-front : (n : List ℕ) → core_fits (part 0 41 n) ≡ core_fits n
unfolding core_fits
core-front n =
    let bytes : take 33 (part 0 41 n) ≡ take 33 n = take-take 33 41 n (omega arith) in
    let at = λ (k : ℕ) (low : k < 41). get_or-take 41 n k 0 low in
    rw (bytes, at 33 (omega arith), at 34 (omega arith), at 35 (omega arith), at 36 (omega arith), at 37 (omega arith), at 38 (omega arith), at 39 (omega arith), at 40 (omega arith)) refl

fit-all : (tests : List Bool) → position not tests ≡ None → all tests ≡ true
fit-all tests e = sym (none_outside tests) ∙ ap is_none e

both-fit : (cycle : ℕ) (n : List ℕ) → first_outside cycle n ≡ None → (all (core_fits n) ≡ true) × (all (board.fits (ends_from cycle n) (part 41 67 n)) ≡ true)
unfolding fits
both-fit cycle n e =
    let both = and_parts _ _ (sym (list_all-append (λ fit. fit) (core_fits (part 0 41 n)) (board.fits (ends_from cycle n) (part 41 67 n))) ∙ fit-all (fits cycle n) e) in
    (ap all (sym (core-front n)) ∙ both.0, both.1)

pub board-fits : (cycle : ℕ) (n : List ℕ) → first_outside cycle n ≡ None → all (board.fits (ends_from cycle n) (part 41 67 n)) ≡ true
board-fits cycle n e = (both-fit cycle n e).1

abbrev tail-fits : List ℕ → List Bool
tail-fits n =
    nat_le (slice_index n 33) 65535
    ∷ nat_le (slice_index n 34) 65535
    ∷ nat_le (slice_index n 35) 1
    ∷ nat_le (slice_index n 36) 7
    ∷ nat_le (slice_index n 37) 1
    ∷ nat_le (slice_index n 38) 1
    ∷ nat_le (slice_index n 39) 26
    ∷ nat_le (slice_index n 40) LAST_CYCLE
    ∷ []

byte-at : (n : List ℕ) (k : ℕ) → 33 ≤ length n → list_all (λ byte. nat_le byte 255) (take 33 n) ≡ true → k < 33 → slice_index n k ≤ 255
byte-at n k len h low =
    let each = AllPass-from_list_all (λ byte. nat_le byte 255) (take 33 n) h in
    let there : nat_le (slice_index (take 33 n) k) 255 ≡ true = All-get_or (λ byte. nat_le byte 255 ≡ true) (take 33 n) k 0 (omega (arith, length-take 33 n)) each in
    let same : slice_index (take 33 n) k ≡ slice_index n k = get_or-take 33 n k 0 low in
    leb-true _ _ (ap (λ byte. nat_le byte 255) (sym same) ∙ there)

pub core-within : (cycle : ℕ) (n : List ℕ) → length n ≡ 108 → first_outside cycle n ≡ None → IsCore n
unfolding core_fits
core-within cycle n len e =
    let core = (both-fit cycle n e).0 in
    let parts = and_parts _ _ (sym (list_all-append (λ fit. fit) (map (λ byte. nat_le byte 255) (take 33 n)) (tail-fits n)) ∙ core) in
    let bytes = sym (list_all-map (λ fit. fit) (λ byte. nat_le byte 255) (take 33 n)) ∙ parts.0 in
    let a = and_parts _ _ parts.1 in
    let b = and_parts _ _ a.1 in
    let c = and_parts _ _ b.1 in
    let d = and_parts _ _ c.1 in
    let f = and_parts _ _ d.1 in
    let g = and_parts _ _ f.1 in
    let h = and_parts _ _ g.1 in
    let i = and_parts _ _ h.1 in
    record {
      bytes = λ k low. byte-at n k (omega arith) bytes low;
      sp = leb-true _ _ a.0;
      pc = leb-true _ _ b.0;
      rampz = leb-true _ _ c.0;
      wait = leb-true _ _ d.0;
      owed = leb-true _ _ f.0;
      asleep = leb-true _ _ g.0;
      stop = leb-true _ _ h.0;
      count = leb-true _ _ i.0;
    }

-- ---- the number of a stop's cause

same-stop : (a b : Option StopCause) → stop_number a ≡ stop_number b → a ≡ b
same-stop a b e = sym (cause_again a) ∙ ap cause_of e ∙ cause_again b

same-flag : (a b : Bool) → bit a 1 ≡ bit b 1 → a ≡ b
same-flag a b e = sym (flag-bit a) ∙ ap (λ n. n == 1) e ∙ flag-bit b

-- ---- lists that are copied, and lists into which parts were put

-- one element more of a list is copied
pub copied : (xs ys : List ℕ) (i x : ℕ) → i < length xs → i < length ys → x ≡ slice_index ys i → take i xs ≡ take i ys → take (i + 1) (slice_set xs i x) ≡ take (i + 1) ys
copied xs ys i x a b e same = take_more_set xs i x a ∙ (λ j. same j ++ e j ∷ []) ∙ sym (take_more ys i 0 b)

-- one byte more is tested
pub tested :
    (fits : List Bool) (ys : List ℕ) (i : ℕ) → i < length fits → i < length ys → take i fits ≡ map (λ byte. nat_le byte 255) (take i ys)
    → take (i + 1) (slice_set fits i (nat_le (slice_index ys i) 255)) ≡ map (λ byte. nat_le byte 255) (take (i + 1) ys)
tested fits ys i a b same =
    take_more_set fits i (nat_le (slice_index ys i) 255) a ∙ ap (λ xs. xs ++ nat_le (slice_index ys i) 255 ∷ []) same
    ∙ sym (map_push (λ byte. nat_le byte 255) (take i ys) (slice_index ys i)) ∙ ap (map (λ byte. nat_le byte 255)) (sym (take_more ys i 0 b))

-- ---- a list of 108 numbers by its parts

pub joined : (n : List ℕ) → length n ≡ 108 → take 32 n ++ part 32 9 n ++ part 41 67 n ≡ n
joined n len =
    let a = sym (take-add 32 9 n) in
    let b = ap (λ xs. xs ++ part 41 67 n) a ∙ sym (take-add 41 67 n) in
    b ∙ take_all 108 n (omega arith)

at-place : (at : ℕ) (n : List ℕ) (k i : ℕ) → i < k → slice_index (part at k n) i ≡ slice_index n (at + i)
at-place at n k i low = get_or-take k (drop at n) i 0 low ∙ get_or-drop at n i 0

-- nine numbers from place 32 on
nine : (n : List ℕ) → length n ≡ 108 → from_places (slice_index n) 32 9 ≡ part 32 9 n
nine n len =
    let part-len : length (part 32 9 n) ≡ 9 = omega (arith, length-take 9 (drop 32 n), length-drop 32 n) in
    let whole = by-places (part 32 9 n) 9 part-len in
    let at = λ (i : ℕ) (low : i < 9). sym (at-place 32 n 9 i low) in
    let a = same-list (at 5 (omega arith)) (same-list (at 6 (omega arith)) (same-list (at 7 (omega arith)) (same-list (at 8 (omega arith)) refl))) in
    same-list (at 0 (omega arith)) (same-list (at 1 (omega arith)) (same-list (at 2 (omega arith)) (same-list (at 3 (omega arith)) (same-list (at 4 (omega arith)) a)))) ∙ whole

pub record Has (n : List ℕ) (s : NodeState) : Type 0 where
  pub registers : s.cpu.r ≡ take 32 n
  pub tail : core_tail s ≡ part 32 9 n
  pub board : board.numbers_of s.board ≡ part 41 67 n

pub numbers-has : (n : List ℕ) (s : NodeState) → length n ≡ 108 → Has n s → numbers_of s ≡ n
numbers-has n s len h =
    let registers = h.registers in
    let tail = h.tail in
    let board = h.board in
    let parts : numbers_of s ≡ take 32 n ++ part 32 9 n ++ part 41 67 n = cc in
    parts ∙ joined n len

-- what stands behind 41 places stands behind 32 and 9
behind : (n xs ys : List ℕ) → drop 32 n ≡ xs ++ ys → length xs ≡ 9 → length ys ≡ 67 → part 41 67 n ≡ ys
behind n xs ys e len most =
    let far : drop 41 n ≡ drop 9 (drop 32 n) = sym (drop-drop 9 32 n) in
    ap (take 67) (far ∙ ap (drop 9) e ∙ drop_at xs ys 9 len) ∙ take_all 67 ys (omega arith)

pub has-numbers : (n : List ℕ) (s : NodeState) → length s.cpu.r ≡ 32 → numbers_of s ≡ n → Has n s
has-numbers n s len e =
    let rest = core_tail s ++ board.numbers_of s.board in
    let split : s.cpu.r ++ rest ≡ n = sym (append_assoc s.cpu.r (core_tail s) (board.numbers_of s.board)) ∙ e in
    let after : drop 32 n ≡ rest = ap (drop 32) (sym split) ∙ drop_at s.cpu.r rest 32 len in
    record {
      registers = sym (ap (take 32) (sym split) ∙ take_at s.cpu.r rest 32 len);
      tail = sym (ap (take 9) after);
      board = sym (behind n (core_tail s) (board.numbers_of s.board) after refl refl);
    }

-- ---- the one state

same-cpu : (a b : Cpu) → a.r ≡ b.r → a.sreg.bits ≡ b.sreg.bits → a.sp ≡ b.sp → a.pc ≡ b.pc → a.rampz ≡ b.rampz → a ≡ b
same-cpu a b r sreg sp pc rampz =
    let left : Cpu = record { r = a.r; sreg = record { bits = a.sreg.bits }; sp = a.sp; pc = a.pc; rampz = a.rampz } in
    let right : Cpu = record { r = b.r; sreg = record { bits = b.sreg.bits }; sp = b.sp; pc = b.pc; rampz = b.rampz } in
    let same : left ≡ right = cc in
    same

pub one-state :
    (cycle number : ℕ) (flash : List ℕ) (script : ScriptBytes) (from to byte_time : ℕ) (n io sram : List ℕ) (a b : NodeState)
    → first_outside cycle n ≡ None
    → IsRestored number flash script from to byte_time n io sram a
    → IsRestored number flash script from to byte_time n io sram b
    → a ≡ b
one-state cycle number flash script from to byte_time n io sram a b fit h k =
    let i = has-numbers n a h.registers h.numbers in
    let j = has-numbers n b k.registers k.numbers in
    let tails : core_tail a ≡ core_tail b = i.tail ∙ sym j.tail in
    let r = i.registers ∙ sym j.registers in
    let sreg = ap (λ xs. slice_index xs 0) tails in
    let sp = ap (λ xs. slice_index xs 1) tails in
    let pc = ap (λ xs. slice_index xs 2) tails in
    let rampz = same-flag a.cpu.rampz b.cpu.rampz (ap (λ xs. slice_index xs 3) tails) in
    let wait = ap (λ xs. slice_index xs 4) tails in
    let owed = same-flag a.owed b.owed (ap (λ xs. slice_index xs 5) tails) in
    let asleep = same-flag a.asleep b.asleep (ap (λ xs. slice_index xs 6) tails) in
    let stop = same-stop a.stop b.stop (ap (λ xs. slice_index xs 7) tails) in
    let count = ap (λ xs. slice_index xs 8) tails in
    let cpu = same-cpu a.cpu b.cpu r sreg sp pc rampz in
    let board = one-board byte_time (ends_from cycle n) (part 41 67 n) io a.board b.board (board-fits cycle n fit) h.board k.board in
    let sram = h.sram ∙ sym k.sram in
    let number = h.number ∙ sym k.number in
    let flash = h.flash ∙ sym k.flash in
    let script = h.script ∙ sym k.script in
    let from = h.from ∙ sym k.from in
    let to = h.to ∙ sym k.to in
    let left : NodeState = record { number = a.number; flash = a.flash; script = a.script; from = a.from; to = a.to; cpu = a.cpu; board = a.board; sram = a.sram; wait = a.wait; owed = a.owed; asleep = a.asleep; stop = a.stop; count = a.count } in
    let right : NodeState = record { number = b.number; flash = b.flash; script = b.script; from = b.from; to = b.to; cpu = b.cpu; board = b.board; sram = b.sram; wait = b.wait; owed = b.owed; asleep = b.asleep; stop = b.stop; count = b.count } in
    let same : left ≡ right = cc in
    same

-- ---- the state of the numbers

-- a state whose parts are read from the numbers
pub record Made (n : List ℕ) (s : NodeState) : Type 0 where
  pub cpu : s.cpu ≡ cpu_of n
  pub wait : s.wait ≡ slice_index n 36
  pub owed : s.owed ≡ (slice_index n 37 == 1)
  pub asleep : s.asleep ≡ (slice_index n 38 == 1)
  pub stop : stop_number s.stop ≡ slice_index n 39
  pub count : s.count ≡ slice_index n 40

-- has those of the core behind the registers
tail-made : (n : List ℕ) (s : NodeState) → length n ≡ 108 → IsCore n → Made n s → core_tail s ≡ part 32 9 n
tail-made n s len w m =
    let rampz = ap (λ (cpu : Cpu). bit cpu.rampz 1) m.cpu ∙ bit-flag (slice_index n 35) w.rampz in
    let flag = ap (λ b. bit b 1) m.owed ∙ bit-flag (slice_index n 37) w.owed in
    let sleep = ap (λ b. bit b 1) m.asleep ∙ bit-flag (slice_index n 38) w.asleep in
    let sreg = ap (λ (cpu : Cpu). cpu.sreg.bits) m.cpu in
    let sp = ap (λ (cpu : Cpu). cpu.sp) m.cpu in
    let pc = ap (λ (cpu : Cpu). cpu.pc) m.cpu in
    let flags = same-list flag (same-list sleep (same-list m.stop (same-list m.count refl))) in
    let made = same-list sreg (same-list sp (same-list pc (same-list rampz (same-list m.wait flags)))) in
    made ∙ nine n len

-- and all
pub made-numbers : (n : List ℕ) (s : NodeState) → length n ≡ 108 → IsCore n → Made n s → board.numbers_of s.board ≡ part 41 67 n → numbers_of s ≡ n
made-numbers n s len w m b =
    numbers-has n s len
    (record {
      registers = ap (λ (cpu : Cpu). cpu.r) m.cpu;
      tail = tail-made n s len w m;
      board = b;
    })

pub registers-32 : (n : List ℕ) (s : NodeState) → length n ≡ 108 → Made n s → length s.cpu.r ≡ 32
registers-32 n s len m = ap (λ (cpu : Cpu). length cpu.r) m.cpu ∙ omega (arith, length-take 32 n)

-- ---- a node without a fault

pub no-fault : (a b : Option ℕ) → fault_by a b ≡ None → a ≡ None
no-fault None b e = refl
no-fault (Some place) None e = absurd (none-some _ (sym e))
no-fault (Some place) (Some k) e = absurd (none-some _ (sym e))
