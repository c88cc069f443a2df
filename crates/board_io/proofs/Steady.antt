-- Cycles in which nothing ends, and in which the lines stay.
use Rattle.std.proofs.Common.{◌≡◌, ℕ, ◌+◌, ◌-◌, ◌<◌, ◌≤◌, Bool, true, false, ◌&&◌, ◌||◌, not, ◌⊎◌, inl, inr, Option, Some, None, refl, sym, ap, ◌∙◌, subst, arith}
use Rattle.std.proofs.lemmas.Bool.{and_parts, cases_lt, or_parts}
use Rattle.board_io.specs.declared.board.Board.{Board}
use Rattle.board_io.specs.Cycle.{board_quiet, timers_leap}
use Rattle.board_io.specs.Lines.{lines_of}
use Rattle.board_io.specs.Passing.{changes_flag_at, is_at, sets_flag_at}
use Rattle.avr_timers.specs.Clock.{clocked, cycles, sets_at}
use Rattle.avr_timers.specs.declared.flags.TimerFlags.{TimerFlags}
use Rattle.avr_timers.specs.First.{First}
use Rattle.serial_ports.specs.declared.transmission.Transmission.{Transmission}
use Rattle.serial_ports.specs.Transmission.{end_of, is_end}
use Rattle.avr_timers.proofs.Clocks16 as clocks16
use Rattle.avr_timers.proofs.Cycles.{cycles-add}
use Rattle.avr_timers.specs.Timer as counter
use Rattle.avr_timers.specs.declared.timer16.Timer16.{Timer16}
use Rattle.avr_timers.specs.Timer16 as timer16
use Rattle.avr_timers.proofs.Clocks8 as clocks8
use Rattle.avr_timers.specs.declared.timer8.Timer8.{Timer8}
use Rattle.avr_timers.specs.Timer8 as timer8

-- ---- ends
end_at : (o : Option Transmission) (t : ℕ) → is_at (end_of o) t ≡ is_end o t
end_at None t = refl
end_at (Some f) t = refl

pub quiet_at : (t : ℕ) (b : Board) → is_at (end_of b.usart.shift_register) t ≡ false → is_at (end_of b.spi.shift_register) t ≡ false → board_quiet t b ≡ true
unfolding board_quiet
quiet_at t b e f =
    let u = sym (end_at b.usart.shift_register t) ∙ e in
    let s = sym (end_at b.spi.shift_register t) ∙ f in
    rw (u, s) refl

-- of another board that has the same USART0
pub quiet_too : (t : ℕ) (b c : Board) → c.usart ≡ b.usart → board_quiet t b ≡ true → is_at (end_of c.spi.shift_register) t ≡ false → board_quiet t c ≡ true
unfolding board_quiet
quiet_too t b c same quiet none =
    let frame = (and_parts (not (is_end b.usart.shift_register t)) (not (is_end b.spi.shift_register t)) quiet).0 in
    let s = sym (end_at c.spi.shift_register t) ∙ none in
    rw (same, frame, s) refl

-- of one that has the same serial peripheral interface
pub quiet_beside : (t : ℕ) (b c : Board) → c.spi ≡ b.spi → board_quiet t b ≡ true → is_at (end_of c.usart.shift_register) t ≡ false → board_quiet t c ≡ true
unfolding board_quiet
quiet_beside t b c same quiet none =
    let transfer = (and_parts (not (is_end b.usart.shift_register t)) (not (is_end b.spi.shift_register t)) quiet).1 in
    let s = sym (end_at c.usart.shift_register t) ∙ none in
    rw (same, transfer, s) refl

-- ---- flags
pub halted_8 : (t n : ℕ) (tm : Timer8) → tm.select ≡ 0 → timer8.flags_of (cycles timer8.timer_cycle t n tm) ≡ timer8.flags_of tm
halted_8 t n tm e = ap timer8.flags_of (clocks8.cycles-stopped t n tm e)

pub halted_16 : (t n : ℕ) (tm : Timer16) → tm.select ≡ 0 → (cycles timer16.timer_cycle t n tm).flags ≡ tm.flags
halted_16 t n tm e = ap (λ (u : Timer16). u.flags) (clocks16.cycles-stopped t n tm e)

pub stopped_8 : (t n : ℕ) (tm : Timer8) → tm.select ≡ 0 → cycles timer8.timer_cycle t n tm ≡ tm
stopped_8 t n tm e = clocks8.cycles-stopped t n tm e

pub stopped_16 : (t n : ℕ) (tm : Timer16) → tm.select ≡ 0 → cycles timer16.timer_cycle t n tm ≡ tm
stopped_16 t n tm e = clocks16.cycles-stopped t n tm e

pub calm_8 : (t n : ℕ) (tm : Timer8) → tm.select ≡ 0 → timer8.sets_flag_at t tm n ≡ false
calm_8 t n tm e = clocks8.sets-stopped t n tm e

pub calm_16 : (t n : ℕ) (tm : Timer16) → tm.select ≡ 0 → timer16.sets_flag_at t tm n ≡ false
calm_16 t n tm e = clocks16.sets-stopped t n tm e

pub kept_8 : (t n : ℕ) (tm : Timer8) → tm.select ≡ 0 → timer8.changes_flag_at t tm n ≡ false
kept_8 t n tm e = clocks8.changes-stopped t n tm e

pub kept_16 : (t n : ℕ) (tm : Timer16) → tm.select ≡ 0 → timer16.changes_flag_at t tm n ≡ false
kept_16 t n tm e = clocks16.changes-stopped t n tm e

-- up to the first cycle that sets a flag, and with it
pub before_8 : (t w n : ℕ) (tm : Timer8) → First (timer8.sets_flag_at t tm) (Some w) → n ≤ w → timer8.flags_of (cycles timer8.timer_cycle t n tm) ≡ timer8.flags_of tm
before_8 t w n tm first le = clocks8.flags-until t n tm (λ i l. first.1 i (omega arith))

pub before_16 : (t w n : ℕ) (tm : Timer16) → First (timer16.sets_flag_at t tm) (Some w) → n ≤ w → (cycles timer16.timer_cycle t n tm).flags ≡ tm.flags
before_16 t w n tm first le = clocks16.flags-until t n tm (λ i l. first.1 i (omega arith))

-- ---- lines
pub lines_by : (b : Board) (t0 t2 : Timer8) (t1 t3 : Timer16) → timer8.flags_of t0 ≡ timer8.flags_of b.t0 → t1.flags ≡ b.t1.flags → timer8.flags_of t2 ≡ timer8.flags_of b.t2 → t3.flags ≡ b.t3.flags
    → lines_of (let c : Board = record b { t0 = t0; t1 = t1; t2 = t2; t3 = t3 } in c) ≡ lines_of b
unfolding lines_of
lines_by b t0 t2 t1 t3 e0 e1 e2 e3 =
    let over0 : t0.tov ≡ b.t0.tov = ap (λ (f : TimerFlags). f.tov) e0 in
    let comp0 : t0.ocf_a ≡ b.t0.ocf_a = ap (λ (f : TimerFlags). f.ocf_a) e0 in
    let over2 : t2.tov ≡ b.t2.tov = ap (λ (f : TimerFlags). f.tov) e2 in
    let comp2 : t2.ocf_a ≡ b.t2.ocf_a = ap (λ (f : TimerFlags). f.ocf_a) e2 in
    rw (over0, comp0, over2, comp2, e1, e3) refl

pub lines_same : (t n : ℕ) (b : Board)
    → timer8.flags_of (cycles timer8.timer_cycle t n b.t0) ≡ timer8.flags_of b.t0 → (cycles timer16.timer_cycle t n b.t1).flags ≡ b.t1.flags
    → timer8.flags_of (cycles timer8.timer_cycle t n b.t2) ≡ timer8.flags_of b.t2 → (cycles timer16.timer_cycle t n b.t3).flags ≡ b.t3.flags
    → lines_of (timers_leap t n b) ≡ lines_of b
unfolding timers_leap
lines_same t n b e0 e1 e2 e3 =
    lines_by b (cycles timer8.timer_cycle t n b.t0) (cycles timer8.timer_cycle t n b.t2) (cycles timer16.timer_cycle t n b.t1) (cycles timer16.timer_cycle t n b.t3) e0 e1 e2 e3

-- no timer of a board sets a flag
pub record IsCalm (t n : ℕ) (b : Board) : Type 0 where
  pub t0 : timer8.sets_flag_at t b.t0 n ≡ false
  pub t1 : timer16.sets_flag_at t b.t1 n ≡ false
  pub t2 : timer8.sets_flag_at t b.t2 n ≡ false
  pub t3 : timer16.sets_flag_at t b.t3 n ≡ false

pub calm_each : (t n : ℕ) (b : Board) → sets_flag_at t b n ≡ false → IsCalm t n b
calm_each t n b e =
    let p = or_parts (timer8.sets_flag_at t b.t0 n || timer16.sets_flag_at t b.t1 n || timer8.sets_flag_at t b.t2 n) (timer16.sets_flag_at t b.t3 n) e in
    let q = or_parts (timer8.sets_flag_at t b.t0 n || timer16.sets_flag_at t b.t1 n) (timer8.sets_flag_at t b.t2 n) p.0 in
    let r = or_parts (timer8.sets_flag_at t b.t0 n) (timer16.sets_flag_at t b.t1 n) q.0 in
    record { t0 = r.0; t1 = r.1; t2 = q.1; t3 = p.1 }

-- and none changes one
pub record IsSame (t n : ℕ) (b : Board) : Type 0 where
  pub t0 : timer8.changes_flag_at t b.t0 n ≡ false
  pub t1 : timer16.changes_flag_at t b.t1 n ≡ false
  pub t2 : timer8.changes_flag_at t b.t2 n ≡ false
  pub t3 : timer16.changes_flag_at t b.t3 n ≡ false

same_each : (t n : ℕ) (b : Board) → changes_flag_at t b n ≡ false → IsSame t n b
same_each t n b e =
    let p = or_parts (timer8.changes_flag_at t b.t0 n || timer16.changes_flag_at t b.t1 n || timer8.changes_flag_at t b.t2 n) (timer16.changes_flag_at t b.t3 n) e in
    let q = or_parts (timer8.changes_flag_at t b.t0 n || timer16.changes_flag_at t b.t1 n) (timer8.changes_flag_at t b.t2 n) p.0 in
    let r = or_parts (timer8.changes_flag_at t b.t0 n) (timer16.changes_flag_at t b.t1 n) q.0 in
    record { t0 = r.0; t1 = r.1; t2 = q.1; t3 = p.1 }

either_none : (a b : Bool) → a ≡ false → b ≡ false → (a || b) ≡ false
either_none a b e f = ap (λ (x : Bool). x || b) e ∙ f

pub unchanged : (t n : ℕ) (b : Board) → timer8.changes_flag_at t b.t0 n ≡ false → timer16.changes_flag_at t b.t1 n ≡ false → timer8.changes_flag_at t b.t2 n ≡ false → timer16.changes_flag_at t b.t3 n ≡ false → changes_flag_at t b n ≡ false
unchanged t n b e f g h = either_none (timer8.changes_flag_at t b.t0 n || timer16.changes_flag_at t b.t1 n || timer8.changes_flag_at t b.t2 n) (timer16.changes_flag_at t b.t3 n)
    (either_none (timer8.changes_flag_at t b.t0 n || timer16.changes_flag_at t b.t1 n) (timer8.changes_flag_at t b.t2 n) (either_none (timer8.changes_flag_at t b.t0 n) (timer16.changes_flag_at t b.t1 n) e f) g) h

-- a cycle in which none sets a flag changes none
pub changes_none : (t n : ℕ) (b : Board) → sets_flag_at t b n ≡ false → changes_flag_at t b n ≡ false
changes_none t n b e =
    let k = calm_each t n b e in
    unchanged t n b (clocks8.changes-none t n b.t0 k.t0) (clocks16.changes-none t n b.t1 k.t1) (clocks8.changes-none t n b.t2 k.t2) (clocks16.changes-none t n b.t3 k.t3)

-- where it is so of cycle after cycle, flags and lines stay
module _ (t n : ℕ) (b : Board) (none : (i : ℕ) → i < n → changes_flag_at t b i ≡ false) where
  pub flags_0 : timer8.flags_of (cycles timer8.timer_cycle t n b.t0) ≡ timer8.flags_of b.t0
  flags_0 = clocks8.flags-unchanged t n b.t0 (λ i l. (same_each t i b (none i l)).t0)

  pub flags_1 : (cycles timer16.timer_cycle t n b.t1).flags ≡ b.t1.flags
  flags_1 = clocks16.flags-unchanged t n b.t1 (λ i l. (same_each t i b (none i l)).t1)

  pub flags_2 : timer8.flags_of (cycles timer8.timer_cycle t n b.t2) ≡ timer8.flags_of b.t2
  flags_2 = clocks8.flags-unchanged t n b.t2 (λ i l. (same_each t i b (none i l)).t2)

  pub flags_3 : (cycles timer16.timer_cycle t n b.t3).flags ≡ b.t3.flags
  flags_3 = clocks16.flags-unchanged t n b.t3 (λ i l. (same_each t i b (none i l)).t3)

  pub lines_calm : lines_of (timers_leap t n b) ≡ lines_of b
  lines_calm = lines_same t n b flags_0 flags_1 flags_2 flags_3

-- a cycle changes a flag where it does so of the timers that have done some of the cycles before it
later_8 : (t n i : ℕ) (tm : Timer8) → timer8.changes_flag_at (t + n) (cycles timer8.timer_cycle t n tm) i ≡ timer8.changes_flag_at t tm (n + i)
unfolding sets_at
later_8 t n i tm =
    let d = ap (λ (u : Timer8). counter.divider (timer8.counter_of u)) (clocks8.cycles-with t n tm) in
    let at : t + n + i ≡ t + (n + i) = omega arith in
    let c = ap (cycles counter.counter_cycle (t + n) i) (clocks8.cycles-of t n tm) ∙ sym (cycles-add counter.counter_cycle t n i (timer8.counter_of tm)) in
    λ k. clocked (d k) (at k) && counter.changes (c k)

later_16 : (t n i : ℕ) (tm : Timer16) → timer16.changes_flag_at (t + n) (cycles timer16.timer_cycle t n tm) i ≡ timer16.changes_flag_at t tm (n + i)
unfolding sets_at
later_16 t n i tm =
    let d = ap (λ (u : Timer16). counter.divider (timer16.counter_of u)) (clocks16.cycles-with t n tm) in
    let at : t + n + i ≡ t + (n + i) = omega arith in
    let c = ap (cycles counter.counter_cycle (t + n) i) (clocks16.cycles-of t n tm) ∙ sym (cycles-add counter.counter_cycle t n i (timer16.counter_of tm)) in
    λ k. clocked (d k) (at k) && counter.changes (c k)

pub changes_later : (t n i : ℕ) (b : Board) → changes_flag_at (t + n) (timers_leap t n b) i ≡ changes_flag_at t b (n + i)
unfolding timers_leap
changes_later t n i b = λ k. later_8 t n i b.t0 k || later_16 t n i b.t1 k || later_8 t n i b.t2 k || later_16 t n i b.t3 k

-- the last of the cycles that are told, where they are not all, ends something or sets a flag
pub loud_at : (t : ℕ) (b : Board) → is_at (end_of b.usart.shift_register) t ≡ true → board_quiet t b ≡ false
unfolding board_quiet
loud_at t b e = let u = sym (end_at b.usart.shift_register t) ∙ e in rw u refl

pub loud_too : (t : ℕ) (b : Board) → is_at (end_of b.spi.shift_register) t ≡ true → board_quiet t b ≡ false
unfolding board_quiet
loud_too t b e = let s = sym (end_at b.spi.shift_register t) ∙ e in rw s (neither (not (is_end b.usart.shift_register t)))
  where
    neither : (c : Bool) → (c && false) ≡ false
    neither true = refl
    neither false = refl

one_of : (a b c d : Bool) → (a ≡ true) ⊎ ((b ≡ true) ⊎ ((c ≡ true) ⊎ (d ≡ true))) → (a || b || c || d) ≡ true
one_of true b c d e = refl
one_of false true c d e = refl
one_of false false true d e = refl
one_of false false false d (inl e) = absurd (cc)
one_of false false false d (inr (inl e)) = absurd (cc)
one_of false false false d (inr (inr (inl e))) = absurd (cc)
one_of false false false d (inr (inr (inr e))) = e

-- of four tests, each of which holds behind its own end where that is below the one before
pub set_by : (p q r s : ℕ → Bool) (most w x y z : ℕ) → (w < most → p (w - 1) ≡ true) → (x < w → q (x - 1) ≡ true) → (y < x → r (y - 1) ≡ true) → (z < y → s (z - 1) ≡ true)
    → w ≤ most → x ≤ w → y ≤ x → z ≤ y → z < most → (p (z - 1) || q (z - 1) || r (z - 1) || s (z - 1)) ≡ true
set_by p q r s most w x y z f g h i lw lx ly lz below =
    one_of (p (z - 1)) (q (z - 1)) (r (z - 1)) (s (z - 1))
    (elim (cases_lt z y) [
      | inl a ↦ inr (inr (inr (i a)))
      | inr a ↦ elim (cases_lt y x) [
        | inl b ↦ (let e : y ≡ z = omega arith in inr (inr (inl (subst (λ (n : ℕ). r (n - 1) ≡ true) e (h b)))))
        | inr b ↦ elim (cases_lt x w) [
          | inl c ↦ (let e : x ≡ z = omega arith in inr (inl (subst (λ (n : ℕ). q (n - 1) ≡ true) e (g c))))
          | inr c ↦ (let e : w ≡ z = omega arith in let d : w < most = omega arith in inl (subst (λ (n : ℕ). p (n - 1) ≡ true) e (f d)))
        ]
      ]
    ])

-- of four tests, each of which holds at its own number where that is below the one before
pub changed_by : (p q r s : ℕ → Bool) (most w x y z : ℕ) → (w < most → p w ≡ true) → (x < w → q x ≡ true) → (y < x → r y ≡ true) → (z < y → s z ≡ true)
    → w ≤ most → x ≤ w → y ≤ x → z ≤ y → z < most → (p z || q z || r z || s z) ≡ true
changed_by p q r s most w x y z f g h i lw lx ly lz below =
    one_of (p z) (q z) (r z) (s z)
    (elim (cases_lt z y) [
      | inl a ↦ inr (inr (inr (i a)))
      | inr a ↦ elim (cases_lt y x) [
        | inl b ↦ (let e : y ≡ z = omega arith in inr (inr (inl (subst (λ (n : ℕ). r n ≡ true) e (h b)))))
        | inr b ↦ elim (cases_lt x w) [
          | inl c ↦ (let e : x ≡ z = omega arith in inr (inl (subst (λ (n : ℕ). q n ≡ true) e (g c))))
          | inr c ↦ (let e : w ≡ z = omega arith in let d : w < most = omega arith in inl (subst (λ (n : ℕ). p n ≡ true) e (f d)))
        ]
      ]
    ])
