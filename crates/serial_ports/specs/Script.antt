-- A script: the bytes that arrive at a USART from outside, in stretches: bytes one after another at equal distances. Own
-- to this simulator.
use Rattle.std.specs.Prelude.{◌≡◌, ℕ, ◌+◌, ◌-◌, ◌*◌, ◌/◌, ◌%◌, ◌<◌, ◌≤◌, ◌==◌, ◌&&◌, nat_le, if◌then◌else◌, List, [], ◌∷◌, length, Option, Some, None, slice_get, is_some, true}
use Rattle.air_base.specs.Bounds.{LAST_CYCLE}
use Rattle.serial_ports.specs.declared.stretch.TheConstants.{LONGEST_EVERY, MOST_ARRIVALS}
use Rattle.std.specs.Option.{option_or}

-- ---- a stretch: byte i arrives in cycle at + i * every
pub record StretchBytes : Type 0 where
  pub at : ℕ
  pub every : ℕ
  pub bytes : List ℕ

pub record IsStretch (s : StretchBytes) : Type 0 where
  pub at : s.at ≤ LAST_CYCLE
  pub some : 1 ≤ s.every
  pub every : s.every ≤ LONGEST_EVERY
  pub few : length s.bytes ≤ MOST_ARRIVALS

-- its byte that arrives in cycle t
unfoldable pub stretch_byte : StretchBytes → ℕ → Option ℕ
stretch_byte s t =
    if nat_le s.at t && (t - s.at) % s.every == 0 then slice_get s.bytes ((t - s.at) / s.every) else None

-- what arrives in cycle t, in the words of the rule: byte i where the cycle is its own, none where it is no byte's
abbrev pub IsByteOf : StretchBytes → ℕ → Option ℕ → Type 0
IsByteOf s t (Some b) = (i : ℕ) × (t ≡ s.at + i * s.every) × (slice_get s.bytes i ≡ Some b)
IsByteOf s t None = (i : ℕ) → i < length s.bytes → t ≡ s.at + i * s.every → ⊥

-- in how many cycles from cycle t on none of its bytes arrives: one does in the cycle after them; none where no byte
-- comes any more
abbrev pub IsQuiet : StretchBytes → ℕ → Option ℕ → Type 0
IsQuiet s t (Some n) = ((i : ℕ) → i < n → stretch_byte s (t + i) ≡ None) × (is_some (stretch_byte s (t + n)) ≡ true)
IsQuiet s t None = (i : ℕ) → stretch_byte s (t + i) ≡ None

-- ---- a script: its stretches, in an order that tells which one has a cycle in which several have a byte
pub record ScriptBytes : Type 0 where
  pub stretches : List StretchBytes

-- the byte of the first stretch that has one in cycle t
unfoldable pub first_byte : List StretchBytes → ℕ → Option ℕ
first_byte [] t = None
first_byte (s ∷ ss) t = option_or (stretch_byte s t) (first_byte ss t)

-- the byte that arrives in cycle t
unfoldable pub script_byte : ScriptBytes → ℕ → Option ℕ
script_byte s t = first_byte s.stretches t

-- what arrives in cycle t, in the words of the rule: byte i of some stretch, where the cycle is that byte's and no stretch
-- before has a byte in it; none where it is no byte's of any stretch
abbrev pub Arrives : ScriptBytes → ℕ → Option ℕ → Type 0
Arrives s t (Some b) =
    (k : ℕ) × (x : StretchBytes) × (slice_get s.stretches k ≡ Some x) × IsByteOf x t (Some b)
    × ((j : ℕ) (y : StretchBytes) → j < k → slice_get s.stretches j ≡ Some y → IsByteOf y t None)
Arrives s t None = (j : ℕ) (y : StretchBytes) → slice_get s.stretches j ≡ Some y → IsByteOf y t None
