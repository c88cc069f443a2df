-- How far clocks go.
use Rattle.std.specs.Prelude.{ℕ, ◌^◌}

-- no run goes beyond this cycle
abbrev pub LAST_CYCLE : ℕ
LAST_CYCLE = 2 ^ 40

-- nothing that begins in a run ends after this one
abbrev pub LAST_END : ℕ
LAST_END = 2 ^ 41
