-- Stretches that stand in order: each has a byte, and begins behind the last byte of the one before. The next byte of such
-- stretches is that of the first that is not over. Own to this simulator.
use Rattle.std.specs.Prelude.{◌≡◌, ℕ, ◌+◌, ◌-◌, ◌*◌, ◌<◌, ◌≤◌, List, length, Option, Some, None}
use Rattle.std.specs.List.{All, AllPairs}
use Rattle.serial_ports.specs.Script.{StretchBytes, first_byte, stretch_byte}

-- the cycle behind its last byte
abbrev pub behind : StretchBytes → ℕ
behind s = s.at + (length s.bytes - 1) * s.every + 1

pub record AreInOrder (ss : List StretchBytes) : Type 0 where
  pub some : All (λ s. (1 ≤ s.every) × (1 ≤ length s.bytes)) ss
  pub apart : AllPairs (λ x y. behind x ≤ y.at) ss

-- the stretch whose bytes are the next from cycle t on; none where no byte comes any more
abbrev pub IsNext : List StretchBytes → ℕ → Option StretchBytes → Type 0
IsNext ss t (Some x) =
    (1 ≤ x.every) × (1 ≤ length x.bytes) × (t < behind x) × ((u : ℕ) → t ≤ u → u < behind x → first_byte ss u ≡ stretch_byte x u)
IsNext ss t None = (u : ℕ) → t ≤ u → first_byte ss u ≡ None
