-- A node within its bounds has numbers within theirs: each passes its test, and the 108 are at most 2^41.
use Rattle.std.proofs.Common.{◌≡◌, ℕ, suc, ◌+◌, ◌^◌, ◌<◌, ◌≤◌, ◌==◌, nat_le, Bool, true, not, ◌&&◌, if◌then◌else◌, List, [], ◌∷◌, ◌++◌, length, take, drop, slice_index, refl, sym, ap, ◌∙◌, arith, Option, Some, None, is_some, is_none, map, bit_and, zero, length-append}
use Rattle.std.specs.List.{list_all}
use Rattle.std.proofs.lemmas.List.{append_assoc, drop_at, get_or-drop, get_or-take, take_at}
use Rattle.std.proofs.lemmas.List.Folds.{list_all-append, list_all-map}
use Rattle.std.proofs.lemmas.Nat.{and_assoc, and_le_r}
use Rattle.std.specs.Int.Bits.{and_zero_r}
use Rattle.std.proofs.lemmas.Bool.{false≢true, le-leb, lt-ltb}
use Rattle.std.proofs.lemmas.Bool.Decides.{nat_tests}
use Rattle.std.proofs.Math.Seq.{take-add}
use Rattle.avr_base.specs.Causes.{cause_number, stop_number}
use Rattle.avr_base.specs.declared.stop.StopCause.{StopCause}
use Rattle.avr_base.specs.declared.stop.StopCause.TheVariants as stop
use Rattle.board_io.specs.declared.board.Board.{Board}
use Rattle.board_io.specs.Saved as board
use Rattle.device_base.specs.Numbers.{part}
use Rattle.avr_timers.specs.Numbers8 as timer8
use Rattle.avr_timers.specs.Numbers16 as timer16
use Rattle.avr_timers.specs.declared.prescaler.Prescaler.{Prescaler}
use Rattle.avr_timers.specs.declared.timer8.Timer8.{Timer8}
use Rattle.avr_timers.specs.declared.timer16.Timer16.{Timer16}
use Rattle.device_base.proofs.Places.{bit-most, none_outside}
use Rattle.avr_timers.proofs.Saved8 as saved8
use Rattle.avr_timers.proofs.Saved16 as saved16
use Rattle.serial_ports.specs.UsartNumbers as usart
use Rattle.serial_ports.specs.SpiNumbers as spi
use Rattle.serial_ports.specs.RadioNumbers as radio
use Rattle.serial_ports.specs.declared.usart.Usart.{Usart}
use Rattle.serial_ports.specs.declared.spi.Spi.{Spi}
use Rattle.serial_ports.specs.declared.radio.Radio.{Radio}
use Rattle.device_laws.specs.States.{IsBoard, IsSpi, IsTimer16, IsTimer8, IsUsart}
use Rattle.node_core.specs.Numbers.{core_fits, core_tail, ends_from, first_outside, fits, numbers_of}
use Rattle.node_core.specs.State.{NodeState}
use Rattle.node_core.proofs.Saved.{core-front, has-numbers}
use Rattle.node_laws.specs.Within.{BoardWithin, RadioWithin, SpiWithin, Timer16Within, Timer8Within, UsartWithin}
use Rattle.node_laws.specs.Node.{AreBytes, NodeWithin}
use Rattle.avr_timers.specs.declared.prescaler.Prescaler.TheVariants.{Own, Shared}
use Rattle.avr_timers.specs.declared.registers8.Reg8.TheVariants as reg8
use Rattle.node_laws.proofs.Boards.{byte_8, control_byte}

-- both of two tests hold
both : {a b : Bool} → a ≡ true → b ≡ true → (a && b) ≡ true
both e f = rw (e, f) refl

take_33 : (r xs : List ℕ) (x : ℕ) → length r ≡ 32 → take 33 (r ++ x ∷ xs) ≡ r ++ x ∷ []
take_33 r xs x len =
    take-add 32 1 (r ++ x ∷ xs) ∙ ap (λ ys. ys ++ take 1 (drop 32 (r ++ x ∷ xs))) (take_at r (x ∷ xs) 32 len)
    ∙ ap (λ ys. r ++ take 1 ys) (drop_at r (x ∷ xs) 32 len)

-- the devices

abbrev all : List Bool → Bool
all fits = list_all (λ fit. fit) fits

abbrev AreTrue : List Bool → Type 0
AreTrue [] = Unit {0}
AreTrue (fit ∷ fits) = (fit ≡ true) × AreTrue fits

all_true : (fits : List Bool) → AreTrue fits → all fits ≡ true
all_true [] h = refl
all_true (fit ∷ fits) h = both h.0 (all_true fits h.1)

all_two : (xs ys : List Bool) → all xs ≡ true → all ys ≡ true → all (xs ++ ys) ≡ true
all_two xs ys a b = list_all-append (λ fit. fit) xs ys ∙ both a b

fits_8 : (p : Prescaler) (tm : Timer8) → IsTimer8 p tm → Timer8Within tm → all (timer8.fits p (timer8.numbers_of tm)) ≡ true
fits_8 p tm states h =
    let select : timer8.is_select tm.prescaler tm.select ≡ true =
    ap (λ (q : Prescaler). timer8.is_select q tm.select) states.prescaler_is ∙ both (lt-ltb tm.select 8 states.select) (ap not states.no_pin) in
    ap (λ (q : Prescaler). all (timer8.fits q (timer8.numbers_of tm))) (sym states.prescaler_is) ∙ saved8.numbers-within tm select h.count h.compare

fits_16 : (tm : Timer16) → IsTimer16 tm → Timer16Within tm → all (timer16.fits (timer16.numbers_of tm)) ≡ true
fits_16 tm states h = saved16.numbers-within tm states.select assumption

no_bits : (x : ℕ) → bit_and x 0xF9 ≡ x → bit_and x 0x06 ≡ 0
no_bits x e = ap (λ n. bit_and n 0x06) (sym e) ∙ and_assoc 0x06 x 0xF9 ∙ and_zero_r x

fits_usart : (t : ℕ) (u : Usart) → IsUsart u → UsartWithin t u → all (usart.fits t (usart.numbers_of u)) ≡ true
unfolding usart.fits
fits_usart t u states h =
    let each : AreTrue (usart.fits t (usart.numbers_of u)) = search (arith, nat_tests, bit-most, no_bits u.control_b states.control_b, and_le_r u.control_b 0xF9) in
    all_true (usart.fits t (usart.numbers_of u)) each

fits_spi : (t : ℕ) (s : Spi) → IsSpi s → SpiWithin t s → all (spi.fits t (spi.numbers_of s)) ≡ true
unfolding spi.fits
fits_spi t s states h = grind (arith, nat_tests, bit-most)

fits_radio : (r : Radio) → RadioWithin r → all (radio.fits (radio.numbers_of r)) ≡ true
unfolding radio.fits
fits_radio r h = grind (arith, nat_tests)

fits_board : (t : ℕ) (b : Board) → IsBoard b → BoardWithin t b → all (board.fits t (board.numbers_of b)) ≡ true
unfolding board.fits board.timers_fit board.ports_fit
fits_board t b states h = search (all_two, fits_8, fits_16, fits_usart, fits_spi, fits_radio) depth 10

-- the core

cause_range : (c : StopCause) → (1 ≤ cause_number c) × (cause_number c ≤ 26)
unfolding cause_number
cause_range stop.ReservedOpcode = (omega arith, omega arith)
cause_range _ = (omega arith, omega arith)

pub stop_most : (o : Option StopCause) → stop_number o ≤ 26
stop_most None = omega arith
stop_most (Some c) = (cause_range c).1

-- a stopped node's devices may have ended anything
stop_from : (t : ℕ) (o : Option StopCause) → (if is_some o then 0 else t) ≡ (if stop_number o == 0 then t else 0)
stop_from t None = refl
stop_from t (Some c) = grind (arith, nat_tests, (cause_range c).0)

bytes_all : (xs : List ℕ) → AreBytes xs → list_all (λ byte. nat_le byte 255) xs ≡ true
bytes_all [] h = refl
bytes_all (x ∷ xs) h = both (le-leb x 255 (h 0)) (bytes_all xs (λ k. h (suc k)))

module _ (t : ℕ) (s : NodeState) (h : NodeWithin t s) where
  -- what stands behind the registers
  at_tail : (i : ℕ) → i < 9 → slice_index (numbers_of s) (32 + i) ≡ slice_index (core_tail s) i
  at_tail i low =
      sym (get_or-drop 32 (numbers_of s) i 0) ∙ sym (get_or-take 9 (drop 32 (numbers_of s)) i 0 low)
      ∙ ap (λ xs. slice_index xs i) (sym (has-numbers (numbers_of s) s h.core.count refl).tail)

  bytes_fit : list_all (λ byte. nat_le byte 255) (take 33 (numbers_of s)) ≡ true
  bytes_fit =
      ap (λ xs. list_all (λ byte. nat_le byte 255) (take 33 xs)) (append_assoc s.cpu.r (core_tail s) (board.numbers_of s.board))
      ∙ ap (list_all (λ byte. nat_le byte 255)) (take_33 s.cpu.r (drop 1 (core_tail s) ++ board.numbers_of s.board) s.cpu.sreg.bits h.core.count)
      ∙ list_all-append (λ byte. nat_le byte 255) s.cpu.r (s.cpu.sreg.bits ∷ []) ∙ both (bytes_all s.cpu.r h.core.bytes) (both (le-leb _ _ h.core.sreg) refl)

  core_all : t ≤ 2 ^ 40 → all (core_fits (numbers_of s)) ≡ true
  unfolding core_fits
  core_all late =
      let at = λ (i : ℕ) (low : i < 9). at_tail i low in
      all_two (map (λ byte. nat_le byte 255) (take 33 (numbers_of s))) _ (list_all-map (λ fit. fit) (λ byte. nat_le byte 255) (take 33 (numbers_of s)) ∙ bytes_fit)
      (grind (arith, nat_tests, bit-most, stop_most s.stop, at 1 (omega arith), at 2 (omega arith), at 3 (omega arith), at 4 (omega arith), at 5 (omega arith), at 6 (omega arith), at 7 (omega arith), at 8 (omega arith)))

  board_all : all (board.fits (ends_from t (numbers_of s)) (part 41 67 (numbers_of s))) ≡ true
  board_all =
      let from : ends_from t (numbers_of s) ≡ (if is_some s.stop then 0 else t) = ap (λ n. if n == 0 then t else 0) (at_tail 7 (omega arith)) ∙ sym (stop_from t s.stop) in
      rw (from, ← (has-numbers (numbers_of s) s h.core.count refl).board) (fits_board (if is_some s.stop then 0 else t) s.board h.space.states h.space.board)

is_none_of : (o : Option ℕ) → is_none o ≡ true → o ≡ None
is_none_of None e = refl
is_none_of (Some x) e = absurd (false≢true e)

-- no number is outside its bound
pub none_outside_of : (t : ℕ) (s : NodeState) → NodeWithin t s → t ≤ 2 ^ 40 → first_outside t (numbers_of s) ≡ None
unfolding fits
none_outside_of t s h late =
    is_none_of _ (none_outside (fits t (numbers_of s)) ∙ all_two (core_fits (part 0 41 (numbers_of s))) _ (ap all (core-front (numbers_of s)) ∙ core_all t s h late) (board_all t s h))

-- their widths

-- each number is at most 2^41
abbrev AreSmall : List ℕ → Type 0
AreSmall [] = Unit {0}
AreSmall (x ∷ xs) = (x ≤ 2 ^ 41) × AreSmall xs

both_small : (xs ys : List ℕ) → AreSmall xs → AreSmall ys → AreSmall (xs ++ ys)
both_small [] ys h k = k
both_small (x ∷ xs) ys h k = (h.0, both_small xs ys h.1 k)

bytes_small : (xs : List ℕ) → AreBytes xs → AreSmall xs
bytes_small [] h = tt
bytes_small (x ∷ xs) h = (omega (arith, h 0), bytes_small xs (λ k. h (suc k)))

small_at : (xs : List ℕ) → AreSmall xs → (k : ℕ) → slice_index xs k ≤ 2 ^ 41
small_at [] h k = omega arith
small_at (x ∷ xs) h zero = h.0
small_at (x ∷ xs) h (suc k) = small_at xs h.1 k

small_8 : (p : Prescaler) (tm : Timer8) → IsTimer8 p tm → Timer8Within tm → AreSmall (timer8.numbers_of tm)
small_8 p tm states h = omega (arith, bit-most, byte_8 tm reg8.Control states.select h)

small_16 : (tm : Timer16) → IsTimer16 tm → Timer16Within tm → AreSmall (timer16.numbers_of tm)
small_16 tm states h = omega (arith, bit-most, control_byte tm states.select)

small_usart : (t : ℕ) (u : Usart) → IsUsart u → UsartWithin t u → AreSmall (usart.numbers_of u)
small_usart t u states h = grind (arith, bit-most, and_le_r u.control_b 0xF9)

small_spi : (t : ℕ) (s : Spi) → SpiWithin t s → AreSmall (spi.numbers_of s)
small_spi t s h = grind (arith, bit-most)

small_radio : (r : Radio) → RadioWithin r → AreSmall (radio.numbers_of r)
small_radio r h = grind arith

small_board : (t : ℕ) (b : Board) → IsBoard b → BoardWithin t b → AreSmall (board.numbers_of b)
small_board t b states h =
    assumption (
      small_8 Own b.t0 states.t0 h.t0,
      small_8 Shared b.t2 states.t2 h.t2,
      small_16 b.t1 states.t1 h.t1,
      small_16 b.t3 states.t3 h.t3,
      small_usart t b.usart states.usart h.usart,
      small_spi t b.spi h.spi,
      small_radio b.radio h.radio,
    )

pub numbers_small : (t : ℕ) (s : NodeState) → NodeWithin t s → t ≤ 2 ^ 40 → (k : ℕ) → slice_index (numbers_of s) k ≤ 2 ^ 41
numbers_small t s h late =
    let tail : AreSmall (core_tail s) = omega (arith, bit-most, stop_most, h.core.sreg, h.core.sp, h.core.pc) in
    small_at (numbers_of s)
    (both_small (s.cpu.r ++ core_tail s) _ (both_small s.cpu.r _ (bytes_small s.cpu.r h.core.bytes) tail) (small_board _ s.board h.space.states h.space.board))

pub numbers_length : (s : NodeState) → length s.cpu.r ≡ 32 → length (numbers_of s) ≡ 108
numbers_length s len = simp length-append (omega arith)
