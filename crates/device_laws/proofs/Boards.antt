-- What the calls of a board keep.
use Rattle.std.proofs.Common.{◌≡◌, ℕ, ◌+◌, ◌*◌, ◌/◌, ◌%◌, ◌<◌, ◌≤◌, ◌==◌, Bool, true, false, not, ◌&&◌, if◌then◌else◌, map, slice_index, length-set, refl, sym, ap, subst, ◌∙◌, Option, Some, None, Result, Ok, Err, bit_and, bit_or, arith}
use Rattle.air_base.specs.declared.bounds.TheConstants.{LONGEST_BYTE}
use Rattle.std.proofs.lemmas.List.{get_or-set_same, get_or-set_other}
use Rattle.std.proofs.lemmas.Nat.{and_assoc, and_comm, and_le_r}
use Rattle.std.proofs.lemmas.Bool.Decides.{nat_tests}
use Rattle.std.specs.List.{range_with_len}
use Rattle.std.proofs.lemmas.List.FromFn.{get_or-map-range_with_len}
use native.Mathlib.Decide.{ℕ_discrete}
use Rattle.avr_base.specs.declared.stop.StopCause.{StopCause}
use Rattle.avr_base.specs.declared.stop.StopCause.TheVariants as stop
use Rattle.board_io.specs.declared.board.Board.{Board}
use Rattle.board_io.specs.declared.clocked.ClockedBoard.{ClockedBoard}
use Rattle.board_io.specs.declared.rules.Rule.{Rule}
use Rattle.board_io.specs.declared.rules.Rule.TheVariants as rule
use Rattle.board_io.specs.Board.{kept_at, reset_board, selected, with_kept}
use Rattle.board_io.specs.Cycle.{board_answered, board_begun, moved_by, received, timers_cycle, timers_leap, transfer_end, usart_cycle, with_moved}
use Rattle.board_io.specs.Lines.{entered_of, no_flags}
use Rattle.board_io.specs.Registers.{done_in, get_by, got_in, io_get, io_put, put_by, with_spi, with_t0, with_t1, with_t2, with_t3, with_usart}
use Rattle.board_io.specs.Table.{rule_of, start_of}
use Rattle.serial_ports.specs.declared.radio.TransferOutcome.{TransferOutcome}
use Rattle.serial_ports.specs.declared.radio.TransferOutcome.TheVariants.{Answer, Send, Ask}
use Rattle.serial_ports.specs.declared.radio.Radio.{Radio}
use Rattle.serial_ports.specs.Radio.{radio_transfer}
use Rattle.avr_base.proofs.Computed.{all_from, all_from-at}
use Rattle.device_base.specs.Bits.{any_bit}
use Rattle.avr_timers.specs.declared.prescaler.Prescaler.TheVariants.{Own, Shared}
use Rattle.serial_ports.specs.Transmission.{ended_byte}
use Rattle.avr_timers.specs.declared.flags.TimerFlags.{TimerFlags}
use Rattle.serial_ports.specs.declared.spi.Spi.{Spi}
use Rattle.avr_timers.specs.declared.timer8.Timer8.{Timer8}
use Rattle.avr_timers.specs.Timer8 as timer8
use Rattle.avr_timers.specs.declared.timer16.Timer16.{Timer16}
use Rattle.avr_timers.specs.Timer16 as timer16
use Rattle.serial_ports.specs.declared.usart.Usart.{Usart}
use Rattle.air_base.specs.declared.air.Heard.{Heard}
use Rattle.device_laws.specs.States.{IsBoard, IsKept, IsRadio, IsSpi, IsTimer16, IsTimer8, IsUsart, IsWithin}
use Rattle.device_laws.proofs.Timers.{again_16, again_8, cleared_16, cleared_8, cycle_16, cycle_8, get_16_kept, kept_if, leap_16, leap_8, put_16_kept, put_8_kept}
use Rattle.device_laws.proofs.Ports.{arrived_kept, finished_kept, get_spi_kept, get_usart_kept, put_spi_kept, put_usart_kept, radio_kept, spif_kept, txc_kept, usart_cycle_kept, within}

module _ (b : Board) (h : IsBoard b) where
  pub set_timers : (t0 : Timer8) (t1 : Timer16) (t2 : Timer8) (t3 : Timer16) → IsTimer8 Own t0 → IsTimer16 t1 → IsTimer8 Shared t2 → IsTimer16 t3
      → IsBoard (record b { t0 = t0; t1 = t1; t2 = t2; t3 = t3 })
  set_timers t0 t1 t2 t3 f g i j =
      record { t0 = f; t1 = g; t2 = i; t3 = j; usart = h.usart; spi = h.spi; radio = h.radio; count = h.count; kept = h.kept }

  pub set_t0 : (tm : Timer8) → IsTimer8 Own tm → IsBoard (record b { t0 = tm })
  set_t0 tm f = set_timers tm b.t1 b.t2 b.t3 f h.t1 h.t2 h.t3

  pub set_t1 : (tm : Timer16) → IsTimer16 tm → IsBoard (record b { t1 = tm })
  set_t1 tm f = set_timers b.t0 tm b.t2 b.t3 h.t0 f h.t2 h.t3

  pub set_t2 : (tm : Timer8) → IsTimer8 Shared tm → IsBoard (record b { t2 = tm })
  set_t2 tm f = set_timers b.t0 b.t1 tm b.t3 h.t0 h.t1 f h.t3

  pub set_t3 : (tm : Timer16) → IsTimer16 tm → IsBoard (record b { t3 = tm })
  set_t3 tm f = set_timers b.t0 b.t1 b.t2 tm h.t0 h.t1 h.t2 f

  pub set_usart : (u : Usart) → IsUsart u → IsBoard (record b { usart = u })
  set_usart u f = record { t0 = h.t0; t1 = h.t1; t2 = h.t2; t3 = h.t3; usart = f; spi = h.spi; radio = h.radio; count = h.count; kept = h.kept }

  pub set_ports : (r : Radio) (s : Spi) → IsRadio r → IsSpi s → IsBoard (record b { radio = r; spi = s })
  set_ports r s f g = record { t0 = h.t0; t1 = h.t1; t2 = h.t2; t3 = h.t3; usart = h.usart; spi = g; radio = f; count = h.count; kept = h.kept }

  pub set_spi : (s : Spi) → IsSpi s → IsBoard (record b { spi = s })
  set_spi s f = set_ports b.radio s h.radio f

  kept_there : (at x other : ℕ) → IsKept (rule_of at) x → other < 256 → Dec (other ≡ at) → IsKept (rule_of other) (kept_at other (with_kept at x b))
  kept_there at x other f g (yes e) =
      let there : kept_at at (with_kept at x b) ≡ x = get_or-set_same b.kept at x 0 (omega (arith, h.count)) in
      subst (λ n. IsKept (rule_of n) (kept_at n (with_kept at x b))) (sym e) (subst (IsKept (rule_of at)) (sym there) f)
  kept_there at x other f g (no d) =
      let there : kept_at other (with_kept at x b) ≡ kept_at other b = get_or-set_other b.kept at other x 0 d in
      subst (IsKept (rule_of other)) (sym there) (h.kept other g)

  pub set_kept : (at x : ℕ) → IsKept (rule_of at) x → IsBoard (with_kept at x b)
  set_kept at x f = record {
    t0 = h.t0;
    t1 = h.t1;
    t2 = h.t2;
    t3 = h.t3;
    usart = h.usart;
    spi = h.spi;
    radio = h.radio;
    count = length-set b.kept at x ∙ h.count;
    kept = λ other g. kept_there at x other f g (ℕ_discrete other at);
  }

-- cycles

pub timers_kept : (t : ℕ) (b : Board) → IsBoard b → IsBoard (timers_cycle t b)
timers_kept t b h =
    set_timers b h _ _ _ _ (cycle_8 Own t b.t0 h.t0) (cycle_16 t b.t1 h.t1) (cycle_8 Shared t b.t2 h.t2) (cycle_16 t b.t3 h.t3)

pub leapt_kept : (t n : ℕ) (b : Board) → IsBoard b → IsBoard (timers_leap t n b)
unfolding timers_leap
leapt_kept t n b h =
    set_timers b h _ _ _ _ (leap_8 Own t n b.t0 h.t0) (leap_16 t n b.t1 h.t1) (leap_8 Shared t n b.t2 h.t2) (leap_16 t n b.t3 h.t3)

received_kept : (arrival : Option ℕ) (u : Usart) → IsUsart u → IsUsart (received arrival u)
received_kept None u h = h
received_kept (Some x) u h = arrived_kept x u h

end_kept : (m : TransferOutcome) (r : Radio) (b : Board) → IsRadio r → IsBoard b → IsBoard (transfer_end m r b)
end_kept (Answer miso) r b f h = set_ports b h r _ f (finished_kept miso b.spi h.spi)
end_kept (Send byte miso) r b f h = set_ports b h r _ f (finished_kept miso b.spi h.spi)
end_kept Ask r b f h = set_ports b h r b.spi f h.spi

moved_kept : (t : ℕ) (byte : Option ℕ) (b c : Board) → IsRadio b.radio → IsBoard c → IsBoard (with_moved (moved_by t byte b) c)
moved_kept t None b c f h = h
moved_kept t (Some x) b c f h =
    let m : TransferOutcome × Radio = radio_transfer t (selected b) x b.radio in
    end_kept m.0 m.1 c (radio_kept t x (selected b) b.radio f) h

pub begun_kept : (t : ℕ) (arrival : Option ℕ) (b : Board) → IsBoard b → IsBoard (board_begun t arrival b)
unfolding board_begun
begun_kept t arrival b h =
    let timed : Board = timers_cycle t b in
    let k : IsBoard timed = timers_kept t b h in
    let u : Usart = received arrival timed.usart in
    moved_kept t (ended_byte b.spi.shift_register t) b (usart_cycle t arrival timed) h.radio
    (set_usart timed k _ (usart_cycle_kept t u (received_kept arrival timed.usart k.usart)))

pub answered_kept : (x : Heard) (b : Board) → IsBoard b → IsBoard (board_answered x b)
unfolding board_answered
answered_kept x b h = set_ports b h _ _ (record { byte_time = h.radio.byte_time }) (finished_kept 0 b.spi h.spi)

-- accesses

abbrev ReadLeaves : Result (ℕ × Board) StopCause → Type 0
ReadLeaves (Ok got) = IsBoard got.1
ReadLeaves (Err cause) = Unit {0}

abbrev WriteLeaves : Result Board StopCause → Type 0
WriteLeaves (Ok b) = IsBoard b
WriteLeaves (Err cause) = Unit {0}

-- and of a board in a cycle
abbrev ReadLeavesIn : Result (ℕ × ClockedBoard) StopCause → Type 0
ReadLeavesIn (Ok got) = IsBoard got.1.board
ReadLeavesIn (Err cause) = Unit {0}

abbrev WriteLeavesIn : Result ClockedBoard StopCause → Type 0
WriteLeavesIn (Ok c) = IsBoard c.board
WriteLeavesIn (Err cause) = Unit {0}

read_in : (t : ℕ) (r : Result (ℕ × Board) StopCause) → ReadLeaves r → ReadLeavesIn (got_in t r)
read_in t (Ok got) h = h
read_in t (Err cause) h = tt

write_in : (t : ℕ) (r : Result Board StopCause) → WriteLeaves r → WriteLeavesIn (done_in t r)
write_in t (Ok b) h = h
write_in t (Err cause) h = tt

read_kept : (r : Rule) (b : Board) (at : ℕ) → IsBoard b → ReadLeaves (get_by r b at)
read_kept rule.Reserved b at h = tt
read_kept (rule.Pin port) b at h = h
read_kept (rule.Kept mask) b at h = h
read_kept (rule.Guarded bits cause mask) b at h = h
read_kept rule.WatchdogControl b at h = h
read_kept rule.ResetFlags b at h = h
read_kept rule.CpuControl b at h = h
read_kept rule.TimerFlags b at h = h
read_kept rule.ExtendedTimerFlags b at h = h
read_kept (rule.Timer0 reg) b at h = h
read_kept (rule.Timer1 reg) b at h = set_t1 b h _ (get_16_kept b.t1 reg h.t1)
read_kept (rule.Timer2 reg) b at h = h
read_kept (rule.Timer3 reg) b at h = set_t3 b h _ (get_16_kept b.t3 reg h.t3)
read_kept (rule.Usart0 reg) b at h = set_usart b h _ (get_usart_kept b.usart reg h.usart)
read_kept (rule.Spi reg) b at h = set_spi b h _ (get_spi_kept b.spi reg h.spi)

pub io_read_kept : (c c' : ClockedBoard) (at x : ℕ) → IsBoard c.board → io_get c at ≡ Ok (x, c') → IsBoard c'.board
unfolding io_get
io_read_kept c c' at x h e = subst ReadLeavesIn e (read_in c.clock (get_by (rule_of at) c.board at) (read_kept (rule_of at) c.board at h))

t0_kept : (b : Board) (r : Result Timer8 StopCause) → ((tm : Timer8) → r ≡ Ok tm → IsTimer8 Own tm) → IsBoard b → WriteLeaves (with_t0 b r)
t0_kept b (Ok tm) f h = set_t0 b h tm (f tm refl)
t0_kept b (Err cause) f h = tt

t1_kept : (b : Board) (r : Result Timer16 StopCause) → ((tm : Timer16) → r ≡ Ok tm → IsTimer16 tm) → IsBoard b → WriteLeaves (with_t1 b r)
t1_kept b (Ok tm) f h = set_t1 b h tm (f tm refl)
t1_kept b (Err cause) f h = tt

t2_kept : (b : Board) (r : Result Timer8 StopCause) → ((tm : Timer8) → r ≡ Ok tm → IsTimer8 Shared tm) → IsBoard b → WriteLeaves (with_t2 b r)
t2_kept b (Ok tm) f h = set_t2 b h tm (f tm refl)
t2_kept b (Err cause) f h = tt

t3_kept : (b : Board) (r : Result Timer16 StopCause) → ((tm : Timer16) → r ≡ Ok tm → IsTimer16 tm) → IsBoard b → WriteLeaves (with_t3 b r)
t3_kept b (Ok tm) f h = set_t3 b h tm (f tm refl)
t3_kept b (Err cause) f h = tt

usart_kept : (b : Board) (r : Result Usart StopCause) → ((u : Usart) → r ≡ Ok u → IsUsart u) → IsBoard b → WriteLeaves (with_usart b r)
usart_kept b (Ok u) f h = set_usart b h u (f u refl)
usart_kept b (Err cause) f h = tt

spi_kept : (b : Board) (r : Result Spi StopCause) → ((s : Spi) → r ≡ Ok s → IsSpi s) → IsBoard b → WriteLeaves (with_spi b r)
spi_kept b (Ok s) f h = set_spi b h s (f s refl)
spi_kept b (Err cause) f h = tt

-- a byte that is kept, where its register has this rule
keeps : (r : Rule) (at x : ℕ) (b : Board) → rule_of at ≡ r → IsKept r x → IsBoard b → IsBoard (with_kept at x b)
keeps r at x b e f h = set_kept b h at x (subst (λ (q : Rule). IsKept q x) (sym e) f)

zero_and : (mask : ℕ) → bit_and 0 mask ≡ 0
zero_and mask = refl

-- bits that are 0 stay 0 under a mask
any_within : (x mask bits : ℕ) → any_bit x bits ≡ false → any_bit (bit_and x mask) bits ≡ false
any_within x mask bits e =
    let none : bit_and x bits ≡ 0 = grind (arith, nat_tests) in
    let moved : bit_and (bit_and x mask) bits ≡ bit_and (bit_and x bits) mask =
    and_assoc bits x mask ∙ ap (bit_and x) (and_comm mask bits) ∙ sym (and_assoc mask x bits) in
    ap (λ n. not (n == 0)) (moved ∙ ap (λ n. bit_and n mask) none ∙ zero_and mask)

guarded_kept : (bits mask : ℕ) (cause : StopCause) (at x : ℕ) (b : Board) (set : Bool) → any_bit x bits ≡ set → rule_of at ≡ rule.Guarded bits cause mask
    → IsBoard b → WriteLeaves (if set then Err cause else Ok (with_kept at (bit_and x mask) b))
guarded_kept bits mask cause at x b true f e h = tt
guarded_kept bits mask cause at x b false f e h = keeps (rule.Guarded bits cause mask) at (bit_and x mask) b e (within x mask, any_within x mask bits f) h

watchdog_kept : (b : Board) (off : Bool) → IsBoard b → WriteLeaves (if off then Err stop.Watchdog else Ok b)
watchdog_kept b true h = tt
watchdog_kept b false h = h

cpu_kept : (at x : ℕ) (b : Board) (external moved : Bool) → rule_of at ≡ rule.CpuControl → IsBoard b
    → WriteLeaves (if external then Err stop.ExternalMemory else if moved then Err stop.MovedVectors else Ok (with_kept at (bit_and x 0x7C) b))
cpu_kept at x b true moved e h = tt
cpu_kept at x b false true e h = tt
cpu_kept at x b false false e h = keeps rule.CpuControl at (bit_and x 0x7C) b e (within x 0x7C) h

equal : (a b : ℕ) → (a == b) ≡ true → a ≡ b
equal a b h = grind (arith, nat_tests)

small : (a x : ℕ) → x < 256 → bit_and a x < 256
small a x f = omega (arith, and_le_r a x)

-- MCUCSR keeps JTD and clears reset flags
top_bit : all_from (λ x. bit_and x 0x80 == x / 128 * 128) 0 256 ≡ true
top_bit = refl

five_bits : all_from (λ z. bit_and z 0x1F == z % 32) 0 256 ≡ true
five_bits = refl

abbrev together : ℕ → Bool
together n = bit_and (bit_or (n / 32 * 128) (n % 32)) 0x9F == bit_or (n / 32 * 128) (n % 32)

all_together : all_from together 0 64 ≡ true
all_together = refl

reset_flags : (x z : ℕ) → x < 256 → z < 256 → IsWithin 0x9F (bit_or (bit_and x 0x80) (bit_and z 0x1F))
reset_flags x z f g =
    let top : bit_and x 0x80 ≡ x / 128 * 128 = equal _ _ (all_from-at (λ x. bit_and x 0x80 == x / 128 * 128) 0 256 x top_bit (omega arith) (omega arith)) in
    let low : bit_and z 0x1F ≡ z % 32 = equal _ _ (all_from-at (λ z. bit_and z 0x1F == z % 32) 0 256 z five_bits (omega arith) (omega arith)) in
    let n : ℕ = x / 128 * 32 + z % 32 in
    let high : n / 32 * 128 ≡ x / 128 * 128 = omega arith in
    let rest : n % 32 ≡ z % 32 = omega arith in
    let both : bit_or (n / 32 * 128) (n % 32) ≡ bit_or (bit_and x 0x80) (bit_and z 0x1F) =
    ap (λ a. bit_or a (n % 32)) (high ∙ sym top) ∙ ap (bit_or (bit_and x 0x80)) (rest ∙ sym low) in
    subst (IsWithin 0x9F) both (equal _ _ (all_from-at together 0 64 n all_together (omega arith) (omega arith)))

write_kept : (t : ℕ) (r : Rule) (b : Board) (at x : ℕ) → rule_of at ≡ r → x < 256 → IsBoard b → WriteLeaves (put_by t r b at x)
write_kept t rule.Reserved b at x e f h = tt
write_kept t (rule.Pin port) b at x e f h = h
write_kept t (rule.Kept mask) b at x e f h = keeps (rule.Kept mask) at (bit_and x mask) b e (within x mask) h
write_kept t (rule.Guarded bits cause mask) b at x e f h = guarded_kept bits mask cause at x b (any_bit x bits) refl e h
write_kept t rule.WatchdogControl b at x e f h = watchdog_kept b (any_bit x 0x08 && not (any_bit x 0x10)) h
write_kept t rule.ResetFlags b at x e f h =
    keeps rule.ResetFlags at _ b e (reset_flags x (bit_and (kept_at at b) x) f (small (kept_at at b) x f)) h
write_kept t rule.CpuControl b at x e f h = cpu_kept at x b (any_bit x 0x80) (any_bit x 0x02) e h
write_kept t rule.TimerFlags b at x e f h =
    set_timers b h _ _ _ _ (again_8 Own b.t0 _ refl refl h.t0) (again_16 b.t1 _ refl h.t1) (again_8 Shared b.t2 _ refl refl h.t2) h.t3
write_kept t rule.ExtendedTimerFlags b at x e f h = set_timers b h _ _ _ _ h.t0 (again_16 b.t1 _ refl h.t1) h.t2 (again_16 b.t3 _ refl h.t3)
write_kept t (rule.Timer0 reg) b at x e f h = t0_kept b _ (λ tm g. put_8_kept Own b.t0 tm reg x h.t0 g) h
write_kept t (rule.Timer1 reg) b at x e f h = t1_kept b _ (λ tm g. put_16_kept b.t1 tm reg x h.t1 g) h
write_kept t (rule.Timer2 reg) b at x e f h = t2_kept b _ (λ tm g. put_8_kept Shared b.t2 tm reg x h.t2 g) h
write_kept t (rule.Timer3 reg) b at x e f h = t3_kept b _ (λ tm g. put_16_kept b.t3 tm reg x h.t3 g) h
write_kept t (rule.Usart0 reg) b at x e f h = usart_kept b _ (λ u g. put_usart_kept t b.usart u reg x f h.usart g) h
write_kept t (rule.Spi reg) b at x e f h = spi_kept b _ (λ s g. put_spi_kept t b.spi s reg x h.spi g) h

pub io_write_kept : (c c' : ClockedBoard) (at x : ℕ) → x < 256 → IsBoard c.board → io_put c at x ≡ Ok c' → IsBoard c'.board
unfolding io_put
io_write_kept c c' at x f h e =
    subst WriteLeavesIn e (write_in c.clock (put_by c.clock (rule_of at) c.board at x) (write_kept c.clock (rule_of at) c.board at x refl f h))

-- an interrupt

pub entered_kept : (word : ℕ) (b : Board) → IsBoard b → IsBoard (entered_of word b)
unfolding entered_of
entered_kept word b h =
    let t0 : (f : TimerFlags) → IsBoard (record b { t0 = timer8.cleared b.t0 f }) = λ f. set_t0 b h _ (cleared_8 Own b.t0 f h.t0) in
    let t1 : (f : TimerFlags) → IsBoard (record b { t1 = timer16.cleared b.t1 f }) = λ f. set_t1 b h _ (cleared_16 b.t1 f h.t1) in
    let t2 : (f : TimerFlags) → IsBoard (record b { t2 = timer8.cleared b.t2 f }) = λ f. set_t2 b h _ (cleared_8 Shared b.t2 f h.t2) in
    let t3 : (f : TimerFlags) → IsBoard (record b { t3 = timer16.cleared b.t3 f }) = λ f. set_t3 b h _ (cleared_16 b.t3 f h.t3) in
    kept_if IsBoard (word == 0x12) _ _ (t2 (record no_flags { ocf_a = true }))
    (kept_if IsBoard (word == 0x14) _ _ (t2 (record no_flags { tov = true }))
    (kept_if IsBoard (word == 0x18) _ _ (t1 (record no_flags { ocf_a = true }))
    (kept_if IsBoard (word == 0x1A) _ _ (t1 (record no_flags { ocf_b = true }))
    (kept_if IsBoard (word == 0x1C) _ _ (t1 (record no_flags { tov = true }))
    (kept_if IsBoard (word == 0x1E) _ _ (t0 (record no_flags { ocf_a = true }))
    (kept_if IsBoard (word == 0x20) _ _ (t0 (record no_flags { tov = true }))
    (kept_if IsBoard (word == 0x22) _ _ (set_spi b h _ (spif_kept b.spi h.spi))
    (kept_if IsBoard (word == 0x28) _ _ (set_usart b h _ (txc_kept b.usart h.usart))
    (kept_if IsBoard (word == 0x30) _ _ (t1 (record no_flags { ocf_c = true }))
    (kept_if IsBoard (word == 0x34) _ _ (t3 (record no_flags { ocf_a = true }))
    (kept_if IsBoard (word == 0x36) _ _ (t3 (record no_flags { ocf_b = true }))
    (kept_if IsBoard (word == 0x38) _ _ (t3 (record no_flags { ocf_c = true }))
    (kept_if IsBoard (word == 0x3A) _ b (t3 (record no_flags { tov = true })) h)))))))))))))

-- after reset

abbrev within_mask : ℕ → ℕ → Bool
within_mask mask x = bit_and x mask == x

abbrev fits : Rule → ℕ → Bool
fits (rule.Kept mask) x = within_mask mask x
fits (rule.Guarded bits cause mask) x = elim (within_mask mask x) [ true ↦ not (any_bit x bits) | false ↦ false ]
fits rule.ResetFlags x = within_mask 0x9F x
fits rule.CpuControl x = within_mask 0x7C x
fits _ x = x == 0

guarded_fits : (mask bits x : ℕ) (w a : Bool) → within_mask mask x ≡ w → any_bit x bits ≡ a → elim w [ true ↦ not a | false ↦ false ] ≡ true
    → IsWithin mask x × (any_bit x bits ≡ false)
guarded_fits mask bits x true true f g e = absurd (cc)
guarded_fits mask bits x true false f g e = (equal _ _ f, g)
guarded_fits mask bits x false a f g e = absurd (cc)

fits_kept : (r : Rule) (x : ℕ) → fits r x ≡ true → IsKept r x
fits_kept rule.Reserved x e = equal _ _ e
fits_kept (rule.Pin port) x e = equal _ _ e
fits_kept (rule.Kept mask) x e = equal _ _ e
fits_kept (rule.Guarded bits cause mask) x e = guarded_fits mask bits x (within_mask mask x) (any_bit x bits) refl refl e
fits_kept rule.WatchdogControl x e = equal _ _ e
fits_kept rule.ResetFlags x e = equal _ _ e
fits_kept rule.CpuControl x e = equal _ _ e
fits_kept rule.TimerFlags x e = equal _ _ e
fits_kept rule.ExtendedTimerFlags x e = equal _ _ e
fits_kept (rule.Timer0 reg) x e = equal _ _ e
fits_kept (rule.Timer1 reg) x e = equal _ _ e
fits_kept (rule.Timer2 reg) x e = equal _ _ e
fits_kept (rule.Timer3 reg) x e = equal _ _ e
fits_kept (rule.Usart0 reg) x e = equal _ _ e
fits_kept (rule.Spi reg) x e = equal _ _ e

all_fit : all_from (λ at. fits (rule_of at) (start_of at)) 0 256 ≡ true
unfolding rule_of start_of
all_fit = refl

start_kept : (at : ℕ) → at < 256 → IsKept (rule_of at) (start_of at)
start_kept at h = fits_kept (rule_of at) (start_of at) (all_from-at (λ at. fits (rule_of at) (start_of at)) 0 256 at all_fit (omega arith) (omega arith))

starts : (at : ℕ) → at < 256 → slice_index (map start_of (range_with_len 0 256)) at ≡ start_of at
starts at h = get_or-map-range_with_len start_of 0 256 at at 0 h (omega arith)

pub reset_kept : (byte_time : ℕ) → byte_time ≤ LONGEST_BYTE → IsBoard (reset_board byte_time)
reset_kept byte_time f = record {
  t0 = record { prescaler_is = refl; select = omega arith; no_pin = refl };
  t1 = record { select = omega arith };
  t2 = record { prescaler_is = refl; select = omega arith; no_pin = refl };
  t3 = record { select = omega arith };
  usart = record { baud = omega arith; control_b = refl; control_c = omega arith; waits = λ e. e; received = λ e. e; lost = λ e. e };
  spi = record { master = λ e. e; transfers = λ e. e };
  radio = record { byte_time = f };
  count = refl;
  kept = λ at g. subst (IsKept (rule_of at)) (sym (starts at g)) (start_kept at g);
}
