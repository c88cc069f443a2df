-- Clocks behind a prescaler (ATmega128 datasheet, "Timer/Counter3, Timer/Counter2, and Timer/Counter1 Prescalers"):
-- the cycles that have one, and what happens in many clocks and in many cycles.
use Rattle.std.specs.Prelude.{ℕ, zero, suc, ◌+◌, ◌-◌, ◌/◌, ◌%◌, ◌==◌, nat_lt, ◌&&◌, if◌then◌else◌, Bool}

-- whether a prescaler that divides by d has its clock in cycle t: it counts from 0 in cycle 0, so its clocks end the
-- cycles d - 1, 2d - 1, ..; 0 stands for one that is halted
abbrev pub clocked : ℕ → ℕ → Bool
clocked d t = nat_lt 0 d && (t + 1) % d == 0

-- how many clocks it has in the n cycles from cycle t on
abbrev pub clocks_of : ℕ → ℕ → ℕ → ℕ
clocks_of d t n = if nat_lt 0 d then (t + n) / d - t / d else 0

-- one cycle of what has a prescaler: from what it is divided by, and what a clock does
abbrev pub prescaled : {A : Type 0} → (A → ℕ) → (A → A) → ℕ → A → A
prescaled divider clock t x = if clocked (divider x) t then clock x else x

-- a step done k times
unfoldable pub many : {A : Type 0} → (A → A) → ℕ → A → A
many f zero x = x
many f (suc k) x = f (many f k x)

-- the n cycles from cycle t on
unfoldable pub cycles : {A : Type 0} → (ℕ → A → A) → ℕ → ℕ → A → A
cycles step t zero x = x
cycles step t (suc n) x = step (t + n) (cycles step t n x)

-- whether cycle t + n has a clock that sets a flag, of what stands at x when cycle t begins
unfoldable pub sets_at : {A : Type 0} → (A → ℕ) → (A → A) → (A → Bool) → ℕ → A → ℕ → Bool
sets_at divider clock sets t x n = clocked (divider x) (t + n) && sets (cycles (prescaled divider clock) t n x)
