-- A sink over a writer of the real system.
use Rattle.std.specs.Prelude.{ℕ, List, Option, Some, None}

pub record StreamSink : Type 0 where
  -- how many writes failed
  pub faults : ℕ
  -- what the writer holds, where it tells
  pub contents : Option (List ℕ)

-- what the writer holds now, where it told what it held at first
abbrev pub told_since : Option (List ℕ) → Option (List ℕ) → Option (List ℕ)
told_since None now = None
told_since (Some first) now = now

-- a writer that told what it held at first tells it still
abbrev pub TellsStill : Option (List ℕ) → Option (List ℕ) → Type 0
TellsStill None now = Unit {0}
TellsStill (Some first) None = ⊥
TellsStill (Some first) (Some now) = Unit {0}
