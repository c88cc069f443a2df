-- Flags that a clock leaves alone.
pub mod Calm
-- Many cycles of a 16-bit timer are those of its counter.
pub mod Clocks16
-- Many cycles of an 8-bit timer are those of its counter.
pub mod Clocks8
-- Many clocks and many cycles of what has a prescaler, and the cycle of the first clock that sets a flag.
pub mod Cycles
-- The first number at which a test holds: of two tests, of a test one clock later, and the flag that it sets.
pub mod First
-- A read of a timer of sixteen bits before cycles that it is not told of.
pub mod Later16
-- A read of a timer of eight bits before cycles that it is not told of.
pub mod Later8
-- The path of a counter in closed form: it runs to its turn, and from 0 on it is periodic.
pub mod Path
-- The numbers of a 16-bit timer: what their bounds say, and the one timer that has them.
pub mod Saved16
-- The numbers of an 8-bit timer: what their bounds say, and the one timer that has them.
pub mod Saved8
-- Many clocks of a timer's counter: the state after them, and the first that sets a flag.
pub mod Timers
