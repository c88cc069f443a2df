-- A counter, clock by clock (ATmega128 datasheet, "Modes of Operation" of the timers: normal mode and CTC mode).
use Rattle.std.specs.Prelude.{ℕ, zero, suc, ◌+◌, ◌==◌, nat_le, ◌&&◌, not, if◌then◌else◌, Bool, false}

-- a counter after a clock, from its maximum, its top, whether a write blocked the compare match, and the counter; one
-- that is not cleared at a compare match has its maximum as its top
abbrev pub stepped : ℕ → ℕ → Bool → ℕ → ℕ
stepped max top match_blocked count = if count == max then 0 else if not match_blocked && count == top then 0 else count + 1

-- a counter after k clocks, none blocked
unfoldable pub path : ℕ → ℕ → ℕ → ℕ → ℕ
path max top count zero = count
path max top count (suc k) = stepped max top false (path max top count k)

-- the value at which a counter wraps, the last one before 0: one that stands above its top runs to the maximum
abbrev pub wraps_at : ℕ → ℕ → ℕ → ℕ
wraps_at max top count = if nat_le count top then top else max
