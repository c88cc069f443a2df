-- Many cycles of a 16-bit timer are those of its counter.
use Rattle.std.proofs.Common.{◌≡◌, ℕ, zero, suc, ◌+◌, ◌<◌, Bool, true, false, cond, refl, sym, ap, ◌∙◌, ◌≤◌, arith}
use Rattle.avr_timers.specs.Clock.{clocked, clocks_of, cycles, many}
use Rattle.avr_timers.specs.Prescaler.{divider_of}
use Rattle.avr_timers.specs.declared.prescaler.Prescaler.TheVariants.{Shared}
use Rattle.avr_timers.specs.declared.timer_counter.TimerCounter.{TimerCounter}
use Rattle.avr_timers.specs.Flags.{flags_without}
use Rattle.avr_timers.specs.declared.flags.TimerFlags.{TimerFlags}
use Rattle.avr_timers.specs.Timer as counter
use Rattle.avr_timers.proofs.Timers as counters
use Rattle.avr_timers.specs.Timer16.{changes_flag_at, cleared, counter_of, sets_flag_at, timer_cycle, with_counter}
use Rattle.avr_timers.specs.declared.timer16.Timer16.{Timer16}

clock-of : (tm : Timer16) (b : Bool) → counter_of (with_counter tm (cond b (counter.clock (counter_of tm)) (counter_of tm))) ≡ cond b (counter.clock (counter_of tm)) (counter_of tm)
unfolding counter.clock
clock-of tm true = refl
clock-of tm false = refl

pub cycles-of : (t n : ℕ) (tm : Timer16) → counter_of (cycles timer_cycle t n tm) ≡ cycles counter.counter_cycle t n (counter_of tm)
unfolding cycles
cycles-of t zero tm = refl
cycles-of t (suc n) tm =
    let u : Timer16 = cycles timer_cycle t n tm in
    clock-of u (clocked (counter.divider (counter_of u)) (t + n)) ∙ ap (counter.counter_cycle (t + n)) (cycles-of t n tm)

pub cycles-with : (t n : ℕ) (tm : Timer16) → cycles timer_cycle t n tm ≡ with_counter tm (cycles counter.counter_cycle t n (counter_of tm))
unfolding cycles
cycles-with t zero tm = refl
cycles-with t (suc n) tm =
    let u : Timer16 = cycles timer_cycle t n tm in
    ap (λ (c : TimerCounter). with_counter u (counter.counter_cycle (t + n) c)) (cycles-of t n tm)
    ∙ ap (λ (v : Timer16). with_counter v (counter.counter_cycle (t + n) (cycles counter.counter_cycle t n (counter_of tm)))) (cycles-with t n tm)

-- a leap is so many clocks of the counter
pub leap_many : (t n k : ℕ) (tm : Timer16) → k ≡ clocks_of (divider_of Shared tm.select) t n → with_counter tm (many counter.clock k (counter_of tm)) ≡ cycles timer_cycle t n tm
leap_many t n k tm e =
    ap (λ i. with_counter tm (many counter.clock i (counter_of tm))) e ∙ (sym (ap (with_counter tm) (counters.cycles-many t n (counter_of tm))) ∙ sym (cycles-with t n tm))

pub leap_none : (t n k : ℕ) (tm : Timer16) → k ≡ clocks_of (divider_of Shared tm.select) t n → k ≡ 0 → tm ≡ cycles timer_cycle t n tm
leap_none t n k tm e none = sym (cycles-with t n tm ∙ ap (with_counter tm) (counters.cycles-none t n k (counter_of tm) e none))

-- while no cycle sets a flag, it goes on by the clocks
pub count_calm : (t n k : ℕ) (tm : Timer16) → k ≡ clocks_of (divider_of Shared tm.select) t n → ((i : ℕ) → i < n → sets_flag_at t tm i ≡ false) → tm.count + k ≡ (cycles timer_cycle t n tm).count
count_calm t n k tm e none = counters.counted t n k (counter_of tm) e none ∙ sym (ap (λ (c : TimerCounter). c.count) (cycles-of t n tm))

pub count_within : (t n : ℕ) (tm : Timer16) → tm.count ≤ 65535 → (cycles timer_cycle t n tm).count ≤ 65535
count_within t n tm l =
    let w = counters.within-cycles t n (counter_of tm) l in
    let same = ap (λ (c : TimerCounter). c.count) (cycles-of t n tm) in
    omega (arith, w, same)

-- ---- for the board above
-- the flags stay until a cycle sets one
pub flags-until : (t n : ℕ) (tm : Timer16) → ((i : ℕ) → i < n → sets_flag_at t tm i ≡ false) → (cycles timer_cycle t n tm).flags ≡ tm.flags
flags-until t n tm none = ap (λ (c : TimerCounter). c.flags) (cycles-of t n tm) ∙ counters.flags-until t n (counter_of tm) none

-- and until one sets one that is not set
pub flags-unchanged : (t n : ℕ) (tm : Timer16) → ((i : ℕ) → i < n → changes_flag_at t tm i ≡ false) → (cycles timer_cycle t n tm).flags ≡ tm.flags
flags-unchanged t n tm none = ap (λ (c : TimerCounter). c.flags) (cycles-of t n tm) ∙ counters.flags-unchanged t n (counter_of tm) none

pub changes-none : (t n : ℕ) (tm : Timer16) → sets_flag_at t tm n ≡ false → changes_flag_at t tm n ≡ false
changes-none t n tm e = counters.changes-none t n (counter_of tm) e

pub changes-stopped : (t n : ℕ) (tm : Timer16) → tm.select ≡ 0 → changes_flag_at t tm n ≡ false
changes-stopped t n tm e = counters.changes-stopped t n (counter_of tm) e

-- a halted timer stays as it is
pub cycles-stopped : (t n : ℕ) (tm : Timer16) → tm.select ≡ 0 → cycles timer_cycle t n tm ≡ tm
cycles-stopped t n tm e = cycles-with t n tm ∙ ap (with_counter tm) (counters.cycles-stopped t n (counter_of tm) e)

pub cycle-stopped : (t : ℕ) (tm : Timer16) → tm.select ≡ 0 → timer_cycle t tm ≡ tm
cycle-stopped t tm e = ap (λ (d : ℕ). with_counter tm (cond (clocked d t) (counter.clock (counter_of tm)) (counter_of tm))) (counters.undivided Shared tm.select e)

pub sets-stopped : (t n : ℕ) (tm : Timer16) → tm.select ≡ 0 → sets_flag_at t tm n ≡ false
sets-stopped t n tm e = counters.sets-stopped t n (counter_of tm) e

-- flags are cleared before cycles that set none as after them
pub cleared-until : (t n : ℕ) (f : TimerFlags) (tm : Timer16) → ((i : ℕ) → i < n → sets_flag_at t tm i ≡ false) → cycles timer_cycle t n (cleared tm f) ≡ cleared (cycles timer_cycle t n tm) f
cleared-until t n f tm none =
    let c : TimerCounter = cycles counter.counter_cycle t n (counter_of tm) in
    cycles-with t n (cleared tm f)
    ∙ (ap (with_counter (cleared tm f)) (counters.flags-aside (flags_without tm.flags f) t n (counter_of tm) none)
    ∙ ap (λ (g : TimerFlags). let u : Timer16 = record (with_counter tm c) { flags = flags_without g f } in u) (sym (counters.flags-until t n (counter_of tm) none))
    ∙ ap (λ (u : Timer16). cleared u f) (sym (cycles-with t n tm)))

-- and clearing them moves none
pub sets-cleared : (t n : ℕ) (f : TimerFlags) (tm : Timer16) → ((i : ℕ) → i < n → sets_flag_at t tm i ≡ false) → sets_flag_at t (cleared tm f) n ≡ sets_flag_at t tm n
sets-cleared t n f tm none = counters.sets-aside (flags_without tm.flags f) t n (counter_of tm) none
