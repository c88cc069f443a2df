-- The internal SRAM (ATmega128 datasheet, "SRAM Data Memory"): 4,096 bytes at data addresses 0x0100 to 0x10FF.
use Rattle.std.specs.Prelude.{ℕ, List, replicate}

-- so many bytes 0
unfoldable pub zeros : ℕ → List ℕ
zeros n = replicate n 0
