-- A sink over memory: what it took, how much it takes at a call, and which of its calls fail.
use Rattle.std.specs.Prelude.{◌≡◌, ℕ, ◌-◌, ◌==◌, ◌||◌, ◌&&◌, min, nat_lt, List, ◌++◌, Bool, true, false, Result, Ok, Err, length, take}
use Rattle.sim_io.specs.declared.sink.SinkFault.{SinkFault}
use Rattle.memory_io.specs.Files.{is_marked, one_more}

pub record MemorySink : Type 0 where
  pub taken : List ℕ
  -- how many bytes it takes in all, and how many at one call
  pub room : ℕ
  pub step : ℕ
  -- the numbers of the calls that fail, from 0
  pub fail : List ℕ
  pub calls : ℕ
  pub faults : ℕ

-- how many bytes of a piece go at one call
abbrev pub share_of : MemorySink → List ℕ → ℕ
share_of s piece = min (length piece) (min s.step (s.room - length s.taken))

-- the next write of this piece fails: it is marked, or nothing of the piece would go
abbrev pub fails_on : MemorySink → List ℕ → Bool
fails_on s piece = is_marked s.fail s.calls || (nat_lt 0 (length piece) && share_of s piece == 0)

-- when each answer comes, and the sink after it
abbrev pub WriteGives : MemorySink → List ℕ → Result ℕ SinkFault → MemorySink → Type 0
WriteGives old piece (Ok n) new = (fails_on old piece ≡ false) × (n ≡ share_of old piece)
    × (new ≡ record old { taken = old.taken ++ take n piece; calls = one_more old.calls })
WriteGives old piece (Err fault) new = (fails_on old piece ≡ true)
    × (new ≡ record old { calls = one_more old.calls; faults = one_more old.faults })
