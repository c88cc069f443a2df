-- What is heard with one audible send more, as the code adds them up.
use Rattle.std.specs.Prelude.{ℕ, min, bit_or, ◌==◌, if◌then◌else◌}
use Rattle.air_base.specs.declared.air.Send.{Send}
use Rattle.air_base.specs.declared.air.Heard.{Heard}
use Rattle.world_core.specs.Heard.{heard_as}

abbrev pub heard_with : (Send → ℕ) → Heard → Send → Heard
heard_with age h x = if h.status == 0 then heard_as 1 x.byte (min 255 (age x)) else heard_as 2 (bit_or h.byte x.byte) 0
