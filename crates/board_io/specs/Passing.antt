-- What the cycles of a board are asked for: whether the end of something comes in one, whether a timer sets a flag, and
-- whether one sets a flag that is not set, so that the flags change.
use Rattle.std.specs.Prelude.{ℕ, ◌==◌, ◌||◌, Bool, false, Option, Some, None}
use Rattle.board_io.specs.declared.board.Board.{Board}
use Rattle.avr_timers.specs.Timer16 as timer16
use Rattle.avr_timers.specs.Timer8 as timer8

abbrev pub is_at : Option ℕ → ℕ → Bool
is_at None t = false
is_at (Some end) t = end == t

-- whether a timer sets a flag in cycle t + n, of a board that is b when cycle t begins
abbrev pub sets_flag_at : ℕ → Board → ℕ → Bool
sets_flag_at t b n = timer8.sets_flag_at t b.t0 n || timer16.sets_flag_at t b.t1 n || timer8.sets_flag_at t b.t2 n || timer16.sets_flag_at t b.t3 n

-- whether a timer sets a flag there that is not set
abbrev pub changes_flag_at : ℕ → Board → ℕ → Bool
changes_flag_at t b n = timer8.changes_flag_at t b.t0 n || timer16.changes_flag_at t b.t1 n || timer8.changes_flag_at t b.t2 n || timer16.changes_flag_at t b.t3 n
